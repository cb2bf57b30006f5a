use Rattle.outside_ports.proofs.Plan.{sends_on_plan}
use Rattle.outside_ports.proofs.mem_port.MemPortPort.send.Goals as goal

pub invariant_of-self : goal.invariant_of-self
invariant_of-self c = sends_on_plan c.self.inside.feed c.send.new.self c.args.to c.args.bytes.now c.send.result c.self.invariant c.send.ensures.exact

pub returns-clause-on_plan : goal.returns-clause-on_plan
returns-clause-on_plan c = sends_on_plan c.self.inside.feed c.send.new.self c.args.to c.args.bytes.now c.send.result c.self.invariant c.send.ensures.exact
