use Rattle.std.proofs.Common.{◌≡◌, ap, subst}
use mathlib.Core.Option.{some}
use lib.ListN.{get_elem?}
use Rattle.turn_table.proofs.Tested.{each_alike}
use Rattle.turn_table.proofs.tests.zeros.Goals as goal

pub new-requires-clause-stand : goal.new-requires-clause-stand
new-requires-clause-stand c κs = λ k v is. ap (λ z. z.value) (each_alike _ k _ v (subst (λ xs. get_elem? xs k ≡ some v) (c.in_ok-sums.ensures.items_if_clones_equal (λ y e. e)) is))
