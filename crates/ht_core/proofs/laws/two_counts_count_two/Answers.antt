use Rattle.ht_core.proofs.Outcomes.{counts_two}
use Rattle.ht_core.proofs.laws.two_counts_count_two.Goals as goal

pub returns : goal.returns
returns c = counts_two
