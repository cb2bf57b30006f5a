use Rattle.std.proofs.Common.{arith}
use Rattle.std.proofs.lemmas.List.Sorted.{length_permutation}
use Rattle.ht_core.proofs.expiry.queue.Goals as goal

pub returns-in-Some-clause-kept : goal.returns-in-Some-clause-kept
returns-in-Some-clause-kept c = let e = length_permutation _ _ c.push.ensures.queued in omega (arith, c.push.ensures.spare)
