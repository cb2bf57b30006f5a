-- What is read of a tree names what is there, where all that was met by then is there.
use Rattle.std.proofs.Common.{◌≡◌, ℕ, ◌≤◌, Bool, true, false, if◌then◌else◌, List, [], ◌∷◌, map, length, IfSome, Option, Some, None, refl}
use Rattle.std.specs.Prelude.{option_map}
use Rattle.std.specs.List.{list_all}
use Rattle.std.specs.Str.{bytes_eq}
use Rattle.std.proofs.lemmas.Bool.{and_from}
use Rattle.pv_values.specs.declared.refusal.Place.{Place}
use Rattle.cfg_tree.specs.Names.{named}
use Rattle.cfg_tree.specs.Closed.{Names}
use Rattle.cfg_tree.specs.Refusals.{Refusal, Seen, Checked, accepted, refused, join, one, both, three, each, from_some, unless}
use Rattle.cfg_tree.specs.declared.refusal_kind.RefusalKind.{RefusalKind}

-- what was met is there
pub record Within (names : Names) (seen : Seen) : Type 0 where
  pub patterns : length seen.patterns ≤ names.patterns
  pub vars : length seen.vars ≤ names.vars

-- what was met before is there, and the value is fine
pub record Gives {A : Type 0} (names : Names) (Fine : A → Type 0) (seen : Seen) (value : Option A) : Type 0 where
  pub before : Within names seen
  pub fine : IfSome value Fine

-- so it is where all is there that was met when it has been read
pub record Closes {A : Type 0} (names : Names) (Fine : A → Type 0) (m : Checked A) : Type 0 where
  pub after : (s : Seen) → Within names (m s).seen → Gives names Fine s (m s).value

abbrev pub AllClose : {A : Type 0} → Names → (A → Type 0) → List (Checked A) → Type 0
AllClose names Fine [] = Unit {0}
AllClose names Fine (m ∷ ms) = Closes names Fine m × AllClose names Fine ms

abbrev pub Every : {X : Type 0} → (X → Type 0) → List X → Type 0
Every P [] = Unit {0}
Every P (x ∷ xs) = P x × Every P xs

pub join_fine : {A B C : Type 0} (f : A → B → C) (P : A → Type 0) (Q : B → Type 0) (R : C → Type 0) → ((a : A) (b : B) → P a → Q b → R (f a b)) →
    (x : Option A) (y : Option B) → IfSome x P → IfSome y Q → IfSome (join f x y) R
join_fine f P Q R made None y p q = tt
join_fine f P Q R made (Some a) None p q = tt
join_fine f P Q R made (Some a) (Some b) p q = made a b p q

map_fine : {A B : Type 0} (f : A → B) (P : A → Type 0) (Q : B → Type 0) → ((a : A) → P a → Q (f a)) → (x : Option A) → IfSome x P → IfSome (option_map f x) Q
map_fine f P Q made None p = tt
map_fine f P Q made (Some a) p = made a p

module _ (names : Names) where
  pub accepted_closes : {A : Type 0} (Fine : A → Type 0) (a : A) → Fine a → Closes names Fine (accepted a)
  accepted_closes Fine a fine = record { after = λ s within. record { before = within; fine = fine } }

  pub refused_closes : {A : Type 0} (Fine : A → Type 0) (kind : RefusalKind) (at : Place) → Closes names Fine (refused kind at)
  refused_closes Fine kind at = record { after = λ s within. record { before = within; fine = tt } }

  pub one_closes : {A B : Type 0} (f : A → B) (P : A → Type 0) (Q : B → Type 0) → ((a : A) → P a → Q (f a)) → (m : Checked A) → Closes names P m → Closes names Q (one f m)
  one_closes f P Q made m cm = record {
    after = λ s within.
        let a = cm.after s within in
        record { before = a.before; fine = map_fine f P Q made (m s).value a.fine };
  }

  pub both_closes : {A B C : Type 0} (f : A → B → C) (P : A → Type 0) (Q : B → Type 0) (R : C → Type 0) → ((a : A) (b : B) → P a → Q b → R (f a b)) →
      (m : Checked A) (n : Checked B) → Closes names P m → Closes names Q n → Closes names R (both f m n)
  both_closes f P Q R made m n cm cn = record {
    after = λ s within.
        let b = cn.after (m s).seen within in
        let a = cm.after s b.before in
        record { before = a.before; fine = join_fine f P Q R made (m s).value (n (m s).seen).value a.fine b.fine };
  }

  pub three_closes : {A B C D : Type 0} (f : A → B → C → D) (P : A → Type 0) (Q : B → Type 0) (R : C → Type 0) (S : D → Type 0) →
      ((a : A) (b : B) (c : C) → P a → Q b → R c → S (f a b c)) → (m : Checked A) (n : Checked B) (o : Checked C) →
      Closes names P m → Closes names Q n → Closes names R o → Closes names S (three f m n o)
  three_closes {A} {B} {C} {D} f P Q R S made m n o cm cn co =
      both_closes {A = C → D} {B = C} {C = D} (λ g c. g c) (λ g. (c : C) → R c → S (g c)) R S (λ g c h r. h c r) (both f m n) o
      (both_closes {A = A} {B = B} {C = C → D} f P Q (λ g. (c : C) → R c → S (g c)) (λ a b p q c r. made a b c p q r) m n cm cn) co

  pub each_closes : {A : Type 0} (P : A → Type 0) (Q : List A → Type 0) → Q [] → ((a : A) (more : List A) → P a → Q more → Q (a ∷ more)) → (ms : List (Checked A)) →
      AllClose names P ms → Closes names Q (each ms)
  each_closes P Q none more [] all = accepted_closes Q [] none
  each_closes P Q none more (m ∷ ms) all = both_closes (λ a rest. a ∷ rest) P Q Q more m (each ms) all.0 (each_closes P Q none more ms all.1)

  pub map_closes : {X A : Type 0} (P : A → Type 0) (f : X → Checked A) → ((x : X) → Closes names P (f x)) → (xs : List X) → AllClose names P (map f xs)
  map_closes P f each_is [] = tt
  map_closes P f each_is (x ∷ xs) = (each_is x, map_closes P f each_is xs)

  -- a list that is fine where a test holds for each of it
  pub all_closes : {A : Type 0} (test : A → Bool) (ms : List (Checked A)) → AllClose names (λ a. test a ≡ true) ms → Closes names (λ xs. list_all test xs ≡ true) (each ms)
  all_closes test ms all =
      each_closes (λ a. test a ≡ true) (λ xs. list_all test xs ≡ true) refl (λ a more p q. and_from (test a) (list_all test more) p q) ms all

  pub from_some_closes : {A B : Type 0} (P : B → Type 0) (o : Option A) (kind : RefusalKind) (at : Place) (next : A → Checked B) → ((a : A) → o ≡ Some a → Closes names P (next a)) →
      Closes names P (from_some o kind at next)
  from_some_closes P None kind at next is = refused_closes P kind at
  from_some_closes P (Some a) kind at next is = is a refl

  pub unless_closes : {A : Type 0} (P : A → Type 0) (o : Option Refusal) (m : Checked A) → Closes names P m → Closes names P (unless o m)
  unless_closes P None m cm = record { after = cm.after }
  unless_closes P (Some r) m cm = record { after = λ s within. record { before = (cm.after s within).before; fine = tt } }

  pub if_closes : {A : Type 0} (P : A → Type 0) (b : Bool) (m n : Checked A) → Closes names P m → Closes names P n → Closes names P (if b then m else n)
  if_closes P true m n cm cn = cm
  if_closes P false m n cm cn = cn

  -- ---- a table of names

  row_closes : {A B : Type 0} (P : B → Type 0) (b : Bool) (a : A) (o : Option A) (kind : RefusalKind) (at : Place) (next : A → Checked B) → Closes names P (next a) →
      Closes names P (from_some o kind at next) → Closes names P (from_some (if b then Some a else o) kind at next)
  row_closes P true a o kind at next here more = here
  row_closes P false a o kind at next here more = more

  pub named_closes : {A B : Type 0} (P : B → Type 0) (name : List ℕ) (rows : List (List ℕ × A)) (kind : RefusalKind) (at : Place) (next : A → Checked B) →
      Every (λ (row : List ℕ × A). Closes names P (next row.1)) rows → Closes names P (from_some (named name rows) kind at next)
  named_closes P name [] kind at next every = refused_closes P kind at
  named_closes P name (row ∷ rows) kind at next every =
      row_closes P (bytes_eq name row.0) row.1 (named name rows) kind at next every.0 (named_closes P name rows kind at next every.1)
