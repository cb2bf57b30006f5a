use Rattle.cfg_check.proofs.Statements.{do_follows}
use Rattle.cfg_check.proofs.stmt.called.Goals as goal

pub returns : goal.returns
returns c =
    do_follows c.args.known.now c.args.kind c.args.at c.args.call.now _ _ _ _ _ _ c.alone.result c.in_ok-within.ensures c.in_ok-call.ensures c.call_alone.ensures c.alone.ensures
