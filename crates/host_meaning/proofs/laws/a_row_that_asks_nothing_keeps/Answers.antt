use Rattle.host_meaning.proofs.Kept.{told_keeps}
use Rattle.host_meaning.proofs.laws.a_row_that_asks_nothing_keeps.Goals as goal

pub returns : goal.returns
returns c = told_keeps
