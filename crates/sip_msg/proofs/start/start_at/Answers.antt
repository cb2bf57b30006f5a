use Rattle.std.proofs.Common.{sym}
use Rattle.sip_msg.proofs.StartLaw.{request_taken, if_status}
use Rattle.sip_msg.proofs.start.start_at.Goals as goal

pub returns-in-Some-clause-found : goal.returns-in-Some-clause-found
returns-in-Some-clause-found c = request_taken _ c.args.line.from c.in-Some.request (sym c.in-Some.ensures.value)

pub returns-in-None-clause-found : goal.returns-in-None-clause-found
returns-in-None-clause-found c = if_status _ c.args.line.from c.status_at.result (sym c.status_at.ensures.value)
