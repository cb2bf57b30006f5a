-- What is read without a refusal has a value.
use Rattle.std.proofs.Common.{◌≡◌, ℕ, Bool, true, false, if◌then◌else◌, List, [], ◌∷◌, ◌++◌, map, Option, Some, None, refl, ap, ◌∙◌}
use Rattle.std.specs.Prelude.{option_map}
use Rattle.std.specs.Str.{bytes_eq}
use Rattle.pv_values.specs.declared.refusal.Place.{Place}
use Rattle.cfg_tree.specs.Names.{named}
use Rattle.cfg_tree.specs.Refusals.{Refusal, Seen, Outcome, Checked, accepted, refused, join, one, both, three, each, from_some, unless}
use Rattle.cfg_tree.specs.declared.refusal_kind.RefusalKind.{RefusalKind}

-- without a refusal there is a value
pub record Stands {A : Type 0} (o : Outcome A) : Type 0 where
  pub gives : o.refusals ≡ [] → (a : A) × (o.value ≡ Some a)

-- so it is whatever was met before
pub record Valued {A : Type 0} (m : Checked A) : Type 0 where
  pub after : (s : Seen) → Stands (m s)

abbrev pub Every : {X : Type 0} → (X → Type 0) → List X → Type 0
Every P [] = Unit {0}
Every P (x ∷ xs) = P x × Every P xs

abbrev pub AllValued : {A : Type 0} → List (Checked A) → Type 0
AllValued [] = Unit {0}
AllValued (m ∷ ms) = Valued m × AllValued ms

-- ---- lists and options

pub some_left : {A : Type 0} (a : A) (more : List A) → (a ∷ more) ≡ [] → ⊥
some_left a more e = cc

pub none_is_some : {A : Type 0} (a : A) → None ≡ Some a → ⊥
none_is_some a e = cc

pub both_empty : {A : Type 0} (first second : List A) → first ++ second ≡ [] → (first ≡ []) × (second ≡ [])
both_empty [] second e = (refl, e)
both_empty (a ∷ first) second e = absurd (some_left a (first ++ second) e)

join_gives : {A B C : Type 0} (f : A → B → C) (x : Option A) (y : Option B) (a : A) (b : B) → x ≡ Some a → y ≡ Some b → join f x y ≡ Some (f a b)
join_gives f x y a b p q = ap (λ o. join f o y) p ∙ ap (λ o. join f (Some a) o) q

-- ---- each way to read

pub accepted_stands : {A : Type 0} (a : A) (s : Seen) → Stands (accepted a s)
accepted_stands a s = record { gives = λ e. (a, refl) }

pub accepted_valued : {A : Type 0} (a : A) → Valued (accepted a)
accepted_valued a = record { after = accepted_stands a }

pub refused_stands : {A : Type 0} (kind : RefusalKind) (at : Place) (s : Seen) → Stands (refused {A = A} kind at s)
refused_stands kind at s = record { gives = λ e. absurd (some_left _ _ e) }

pub refused_valued : {A : Type 0} (kind : RefusalKind) (at : Place) → Valued (refused {A = A} kind at)
refused_valued kind at = record { after = refused_stands kind at }

pub one_valued : {A B : Type 0} (f : A → B) (m : Checked A) → Valued m → Valued (one f m)
one_valued f m vm = record { after = λ s. record { gives = λ e. let a = (vm.after s).gives e in (f a.0, ap (λ o. option_map f o) a.1) } }

pub both_valued : {A B C : Type 0} (f : A → B → C) (m : Checked A) (n : Checked B) → Valued m → Valued n → Valued (both f m n)
both_valued f m n vm vn = record {
  after = λ s. record {
    gives = λ e.
        let parts = both_empty (m s).refusals (n (m s).seen).refusals e in
        let a = (vm.after s).gives parts.0 in
        let b = (vn.after (m s).seen).gives parts.1 in
        (f a.0 b.0, join_gives f (m s).value (n (m s).seen).value a.0 b.0 a.1 b.1);
  };
}

pub three_valued : {A B C D : Type 0} (f : A → B → C → D) (m : Checked A) (n : Checked B) (o : Checked C) → Valued m → Valued n → Valued o → Valued (three f m n o)
three_valued {A} {B} {C} {D} f m n o vm vn vo =
    both_valued {A = C → D} {B = C} {C = D} (λ g c. g c) (both f m n) o (both_valued {A = A} {B = B} {C = C → D} f m n vm vn) vo

pub each_valued : {A : Type 0} (ms : List (Checked A)) → AllValued ms → Valued (each ms)
each_valued [] all = accepted_valued []
each_valued (m ∷ ms) all = both_valued (λ a more. a ∷ more) m (each ms) all.0 (each_valued ms all.1)

map_all : {X A : Type 0} (f : X → Checked A) → ((x : X) → Valued (f x)) → (xs : List X) → AllValued (map f xs)
map_all f each_is [] = tt
map_all f each_is (x ∷ xs) = (each_is x, map_all f each_is xs)

pub map_valued : {X A : Type 0} (f : X → Checked A) → ((x : X) → Valued (f x)) → (xs : List X) → Valued (each (map f xs))
map_valued f each_is xs = each_valued (map f xs) (map_all f each_is xs)

pub from_some_valued : {A B : Type 0} (o : Option A) (kind : RefusalKind) (at : Place) (next : A → Checked B) → ((a : A) → Valued (next a)) → Valued (from_some o kind at next)
from_some_valued None kind at next is = refused_valued kind at
from_some_valued (Some a) kind at next is = is a

pub unless_valued : {A : Type 0} (o : Option Refusal) (m : Checked A) → Valued m → Valued (unless o m)
unless_valued None m vm = record { after = vm.after }
unless_valued (Some r) m vm = record { after = λ s. record { gives = λ e. absurd (some_left r (m s).refusals e) } }

pub if_valued : {A : Type 0} (b : Bool) (m n : Checked A) → Valued m → Valued n → Valued (if b then m else n)
if_valued true m n vm vn = vm
if_valued false m n vm vn = vn

pub if_stands : {A : Type 0} (b : Bool) (x y : Outcome A) → Stands x → Stands y → Stands (if b then x else y)
if_stands true x y sx sy = sx
if_stands false x y sx sy = sy

-- ---- a table of names

row_valued : {A B : Type 0} (b : Bool) (a : A) (o : Option A) (kind : RefusalKind) (at : Place) (next : A → Checked B) → Valued (next a) → Valued (from_some o kind at next) →
    Valued (from_some (if b then Some a else o) kind at next)
row_valued true a o kind at next here more = here
row_valued false a o kind at next here more = more

pub named_valued : {A B : Type 0} (name : List ℕ) (rows : List (List ℕ × A)) (kind : RefusalKind) (at : Place) (next : A → Checked B) → Every (λ (row : List ℕ × A). Valued (next row.1)) rows →
    Valued (from_some (named name rows) kind at next)
named_valued name [] kind at next every = refused_valued kind at
named_valued name (row ∷ rows) kind at next every =
    row_valued (bytes_eq name row.0) row.1 (named name rows) kind at next every.0 (named_valued name rows kind at next every.1)
