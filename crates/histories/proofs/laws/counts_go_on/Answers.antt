use Rattle.histories.proofs.Lists.{rose_append, rose_one, rose_none}
use Rattle.histories.proofs.laws.counts_go_on.Goals as goal

pub returns : goal.returns
returns c = record { still = rose_none; append = rose_append; one = rose_one }
