use Rattle.sip_build.proofs.ReplyLaw.{to_source, by_rport, by_port, by_default}
use Rattle.sip_build.proofs.laws.a_reply_goes_back.Goals as goal

pub returns-clause-ip : goal.returns-clause-ip
returns-clause-ip c = to_source

pub returns-clause-rport : goal.returns-clause-rport
returns-clause-rport c = by_rport

pub returns-clause-port : goal.returns-clause-port
returns-clause-port c = by_port

pub returns-clause-no_port : goal.returns-clause-no_port
returns-clause-no_port c = by_default
