use Rattle.outside_ports.proofs.Runs.{all_got}
use Rattle.outside_ports.proofs.laws.closed_comes_when_all_were_got.Goals as goal

pub returns : goal.returns
returns c = all_got
