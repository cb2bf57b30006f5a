use Rattle.cfg_code.proofs.Closes.{asks_closed}
use Rattle.cfg_code.proofs.laws.the_asks_of_closed_code_are_closed.Goals as goal

pub returns : goal.returns
returns c = asks_closed
