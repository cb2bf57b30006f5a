use Rattle.outside_ports.proofs.Plan.{receives_on_plan}
use Rattle.outside_ports.proofs.mem_port.MemPortPort.recv.Goals as goal

pub invariant_of-self : goal.invariant_of-self
invariant_of-self c = receives_on_plan c.self.inside.feed c.recv.new.self c.args.until c.args.buf.now c.recv.new.buf c.recv.result c.self.invariant c.recv.ensures.exact

pub returns-clause-on_plan : goal.returns-clause-on_plan
returns-clause-on_plan c = receives_on_plan c.self.inside.feed c.recv.new.self c.args.until c.args.buf.now c.recv.new.buf c.recv.result c.self.invariant c.recv.ensures.exact
