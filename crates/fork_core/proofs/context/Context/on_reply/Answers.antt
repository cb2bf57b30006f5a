use Rattle.fork_core.proofs.GoingOn.{one_forwarding}
use Rattle.fork_core.proofs.context.Context.on_reply.Goals as goal

pub returns-clause-value : goal.returns-clause-value
returns-clause-value c = λ h s.
    one_forwarding h c.args.b c.args.code c.args.answered c.forwarding-forwarding.result (c.forwarding-forwarding.ensures.now h s) (c.forwarding-forwarding.ensures.kept h s)
