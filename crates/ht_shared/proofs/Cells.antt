-- Tables in their cells, at first and after one operation more.
use Rattle.std.proofs.Common.{◌≡◌, ◌≢◌, ℕ, zero, suc, List, [], ◌∷◌, ◌++◌, map, Option, Some, refl, sym, ap, ◌∙◌, subst}
use Rattle.std.specs.List.{slice_get}
use mathlib.Core.Option.{some, some-injective, some-ne-none}
use lib.ListN.{get_elem?}
use Rattle.histories.specs.Runs.{Runs}
use Rattle.histories.proofs.Lists.{runs_more}
use Rattle.pv_values.specs.declared.table.TableSpec.{TableSpec}
use Rattle.ht_core.specs.declared.operation.TabRecord.{TabRecord}
use Rattle.ht_core.specs.Tables.{TableState, fresh, IsStep}
use Rattle.ht_core.specs.Shown.{state_of}
use Rattle.ht_shared.specs.declared.cell.TableCell.{TableCell}
use Rattle.ht_shared.specs.declared.cell.TablesFixed.{TablesFixed}
use Rattle.ht_shared.specs.Stands.{IsAfter, TableStands}

-- each cell of new tables has one without items
pub each_fresh : (cells : List TableCell) (specs : List TableSpec) → map (λ (c : TableCell). state_of c.table.value) cells ≡ map fresh specs → (k : ℕ) (c : TableCell) → get_elem? cells k ≡ some c → (spec : TableSpec) × (slice_get specs k ≡ Some spec) × (fresh spec ≡ state_of c.table.value)
each_fresh [] specs e k c is = absurd (some-ne-none c (sym is))
each_fresh (x ∷ xs) [] e k c is = absurd (differ e)
  where
    differ : {A : Type 0} {a : A} {xs : List A} → (a ∷ xs) ≡ [] → ⊥
    differ e = cc
each_fresh (x ∷ xs) (y ∷ ys) e zero c is = (y, refl, first)
  where
    head : {A : Type 0} {a b : A} {xs ys : List A} → (a ∷ xs) ≡ (b ∷ ys) → a ≡ b
    head e = cc

    first : fresh y ≡ state_of c.table.value
    first = sym (head e) ∙ ap (λ (z : TableCell). state_of z.table.value) (some-injective x c is)
each_fresh (x ∷ xs) (y ∷ ys) e (suc k) c is = each_fresh xs ys (rest e) k c is
  where
    rest : {A : Type 0} {a b : A} {xs ys : List A} → (a ∷ xs) ≡ (b ∷ ys) → xs ≡ ys
    rest e = cc

-- one operation more
pub one_more : (f : TablesFixed) (k : ℕ) (rs : List TabRecord) (t u : TableState) (r : TabRecord) → IsAfter f k rs t → IsStep f.patterns.value t r u → IsAfter f k (rs ++ r ∷ []) u
one_more f k rs t u r after step = (after.0, after.1, runs_more (IsStep f.patterns.value) (fresh after.0) t u rs r after.2 step)
