use Rattle.cfg_check.proofs.Statements.{set_follows}
use Rattle.cfg_check.proofs.stmt.assigned.Goals as goal

pub returns : goal.returns
returns c =
    set_follows c.args.known.now c.args.kind c.args.at c.args.v.now c.args.e.now _ _ _ _ _ _ _ _ c.alone.result c.in_ok-within.ensures c.in_ok-target.ensures c.in_ok-value.ensures
    c.assignment.ensures c.alone.ensures
