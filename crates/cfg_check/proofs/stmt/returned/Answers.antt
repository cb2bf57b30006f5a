use Rattle.cfg_check.proofs.Statements.{return_follows}
use Rattle.cfg_check.proofs.stmt.returned.Goals as goal

pub returns : goal.returns
returns c =
    return_follows c.args.known.now c.args.kind c.args.at c.args.e.now _ _ _ _ _ _ c.alone.result c.in_ok-within.ensures c.in_ok-value.ensures c.returning.ensures c.alone.ensures
