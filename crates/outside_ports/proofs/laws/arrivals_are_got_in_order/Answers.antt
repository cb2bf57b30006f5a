use Rattle.outside_ports.specs.Plan.{plan_start}
use Rattle.outside_ports.proofs.Runs.{got_and_left}
use Rattle.outside_ports.proofs.laws.arrivals_are_got_in_order.Goals as goal

pub returns : goal.returns
returns c = λ plan calls place. got_and_left plan.end (plan_start plan) place calls
