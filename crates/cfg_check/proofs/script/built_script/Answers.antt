use Rattle.std.proofs.Common.{◌∙◌}
use Rattle.cfg_check.proofs.script.built_script.Goals as goal

pub returns : goal.returns
returns c raw h = c.script_of.ensures raw h (c.in_ok-patterns.ensures ∙ c.deref.ensures.value)
