-- What is answered is all that can be.
use Rattle.sim_text.proofs.Once.{gives_scenario, gives_line}
use Rattle.sim_text.proofs.scenario.read_scenario.Goals as goal

pub returns-clause-whole : goal.returns-clause-whole
returns-clause-whole c = gives_scenario c.args.text.now c.read_lines.result c.read_lines.ensures.read c.read_lines.ensures.wrong

pub returns-clause-first : goal.returns-clause-first
returns-clause-first c = gives_line c.args.text.now c.read_lines.result c.read_lines.ensures.read c.read_lines.ensures.wrong
