use Rattle.sip_msg.proofs.Only.{only_in}
use Rattle.sip_msg.proofs.message.Message.read_into.Goals as goal

pub returns-clause-only : goal.returns-clause-only
returns-clause-only c = only_in c.args.b.now c.message_into.result c.message_into.new.m c.message_into.ensures.found c.message_into.ensures.fault
