use Rattle.std.proofs.Common.{[], Some}
use Rattle.cfg_check.proofs.Statements.{empty_follows}
use Rattle.cfg_check.proofs.stmt.empty.Goals as goal

pub returns : goal.returns
returns c = empty_follows c.args.at _ _ _ _ _ c.in_ok-within.ensures c.new-nothing.ensures c.where_within.ensures
