use Rattle.outside_ports.proofs.Runs.{plan_clocks}
use Rattle.outside_ports.proofs.laws.the_clock_never_falls.Goals as goal

pub returns : goal.returns
returns c = plan_clocks
