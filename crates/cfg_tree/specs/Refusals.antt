-- What is read of a tree: a value, or why it is refused, with what was met on the way.
use Rattle.std.specs.Prelude.{◌≡◌, ◌⊎◌, ℕ, ◌<◌, ◌≤◌, List, [], ◌∷◌, ◌++◌, All, Contains, Option, Some, None, option_map}
use Rattle.pv_values.specs.declared.refusal.Place.{Place}
use Rattle.cfg_tree.specs.declared.refusal_kind.RefusalKind.{RefusalKind}
use Rattle.cfg_tree.specs.RefusalKinds.{refusal_number}

-- a refusal, with the number of its kind
pub record Refusal : Type 0 where
  pub kind : ℕ
  pub at : Place

abbrev pub refusal : RefusalKind → Place → Refusal
refusal kind at = record { kind = refusal_number kind; at = at }

-- what was met so far, in the order of the text: the number of statements, the patterns, and the names of `$var`
pub record Seen : Type 0 where
  pub statements : ℕ
  pub patterns : List (List ℕ)
  pub vars : List (List ℕ)

pub record Outcome (A : Type 0) : Type 0 where
  pub refusals : List Refusal
  pub seen : Seen
  pub value : Option A

-- a value that is read after what was met so far
abbrev pub Checked : Type 0 → Type 0
Checked A = Seen → Outcome A

abbrev pub accepted : {A : Type 0} → A → Checked A
accepted a seen = record { refusals = []; seen = seen; value = Some a }

abbrev pub refused : {A : Type 0} → RefusalKind → Place → Checked A
refused kind at seen = record { refusals = refusal kind at ∷ []; seen = seen; value = None }

-- both values, the first one read first
abbrev pub join : {A B C : Type 0} → (A → B → C) → Option A → Option B → Option C
join f (Some a) (Some b) = Some (f a b)
join f (Some a) None = None
join f None b = None

abbrev pub both : {A B C : Type 0} → (A → B → C) → Checked A → Checked B → Checked C
both f first second seen =
    let a = first seen in
    let b = second a.seen in
    record { refusals = a.refusals ++ b.refusals; seen = b.seen; value = join f a.value b.value }

-- three values, read one after another
abbrev pub three : {A B C D : Type 0} → (A → B → C → D) → Checked A → Checked B → Checked C → Checked D
three {A} {B} {C} {D} f first second third = both {A = C → D} (λ g c. g c) (both f first second) third

abbrev pub one : {A B : Type 0} → (A → B) → Checked A → Checked B
one f first seen = let a = first seen in record { refusals = a.refusals; seen = a.seen; value = option_map f a.value }

abbrev pub each : {A : Type 0} → List (Checked A) → Checked (List A)
each [] = accepted []
each (m ∷ ms) = both (λ a more. a ∷ more) m (each ms)

-- a value of something that is there, and else a refusal
abbrev pub from_some : {A B : Type 0} → Option A → RefusalKind → Place → (A → Checked B) → Checked B
from_some None kind at next = refused kind at
from_some (Some a) kind at next = next a

-- what is read, and a refusal beside it where the test fails
abbrev pub unless : {A : Type 0} → Option Refusal → Checked A → Checked A
unless None m seen = m seen
unless (Some r) m seen = let a = m seen in record { refusals = r ∷ a.refusals; seen = a.seen; value = None }

-- one refusal goes before another: it begins earlier, or at the same byte with a lower kind
abbrev pub GoesBefore : Refusal → Refusal → Type 0
GoesBefore a b = (a.at.from < b.at.from) ⊎ ((a.at.from ≡ b.at.from) × (a.kind ≤ b.kind))

-- the refusal is one of the list, and none of the list goes before it
pub record IsFirst (all : List Refusal) (r : Refusal) : Type 0 where
  pub listed : Contains all r
  pub first : All (GoesBefore r) all
