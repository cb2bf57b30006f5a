-- What tells of one refusal: where it is among those that a reading gives.
use Rattle.std.proofs.Common.{◌≡◌, ◌⊎◌, ℕ, zero, suc, ◌<◌, Bool, true, false, if◌then◌else◌, List, [], ◌∷◌, ◌++◌, map, length, get_or, Contains, Option, Some, None, refl, inl, inr, arith}
use Rattle.pv_values.specs.declared.refusal.Place.{Place}
use Rattle.cfg_tree.specs.Refusals.{Refusal, refusal, Seen, Outcome, Checked, accepted, refused, one, both, three, each, from_some, unless}
use Rattle.cfg_tree.specs.declared.refusal_kind.RefusalKind.{RefusalKind}

-- ---- one of a list

abbrev pub In : {X : Type 0} → X → List X → Type 0
In x [] = ⊥
In x (y ∷ ys) = (y ≡ x) ⊎ In x ys

pub in_front : {X : Type 0} (x : X) (xs ys : List X) → In x xs → In x (xs ++ ys)
in_front x [] ys h = absurd h
in_front x (y ∷ xs) ys (inl e) = inl e
in_front x (y ∷ xs) ys (inr h) = inr (in_front x xs ys h)

pub in_back : {X : Type 0} (x : X) (xs ys : List X) → In x ys → In x (xs ++ ys)
in_back x [] ys h = h
in_back x (y ∷ xs) ys h = inr (in_back x xs ys h)

pub in_parts : {X : Type 0} (x : X) (xs ys : List X) → In x (xs ++ ys) → In x xs ⊎ In x ys
in_parts x [] ys h = inr h
in_parts x (y ∷ xs) ys (inl e) = inl (inl e)
in_parts x (y ∷ xs) ys (inr h) = elim (in_parts x xs ys h) [
  | inl k ↦ inl (inr k)
  | inr k ↦ inr k
]

in_at : {X : Type 0} (x : X) (xs : List X) (k : ℕ) → k < length xs → get_or xs k x ≡ x → In x xs
in_at x [] k lt e = absurd (omega arith)
in_at x (y ∷ ys) zero lt e = inl e
in_at x (y ∷ ys) (suc k) lt e = inr (in_at x ys k (omega arith) e)

pub in_from_contains : {X : Type 0} (x : X) (xs : List X) → Contains xs x → In x xs
in_from_contains x xs h = in_at x xs h.0 h.1 h.2

pub contains_from_in : {X : Type 0} (x : X) (xs : List X) → In x xs → Contains xs x
contains_from_in x [] h = absurd h
contains_from_in x (y ∷ ys) (inl e) = (0, omega arith, e)
contains_from_in x (y ∷ ys) (inr h) = let k = contains_from_in x ys h in let lt = k.1 in (suc k.0, omega arith, k.2)

-- ---- what a reading tells

-- this refusal is among those that are read exactly where this holds, whatever was met before
pub record Tells {A : Type 0} (r : Refusal) (m : Checked A) (P : Type 0) : Type 0 where
  pub only : (s : Seen) → In r (m s).refusals → P
  pub whole : (s : Seen) → P → In r (m s).refusals

-- it is never among them
abbrev pub Silent : {A : Type 0} → Refusal → Checked A → Type 0
Silent r m = Tells r m ⊥

pub either_silent : ⊥ ⊎ ⊥ → ⊥
either_silent (inl h) = h
either_silent (inr h) = h

pub alone : {X : Type 0} (x y : X) → In x (y ∷ []) → y ≡ x
alone x y (inl e) = e
alone x y (inr h) = absurd h

module _ (r : Refusal) where
  pub same_tells : {A : Type 0} {P Q : Type 0} (m : Checked A) → (P → Q) → (Q → P) → Tells r m P → Tells r m Q
  same_tells m to from t = record { only = λ s h. to (t.only s h); whole = λ s q. t.whole s (from q) }

  pub accepted_silent : {A : Type 0} (a : A) → Silent r (accepted a)
  accepted_silent a = record { only = λ s h. h; whole = λ s h. h }

  pub refused_tells : {A : Type 0} (kind : RefusalKind) (at : Place) → Tells r (refused {A = A} kind at) (refusal kind at ≡ r)
  refused_tells kind at = record { only = λ s h. alone r (refusal kind at) h; whole = λ s e. inl e }

  pub refused_silent : {A : Type 0} (kind : RefusalKind) (at : Place) → (refusal kind at ≡ r → ⊥) → Silent r (refused {A = A} kind at)
  refused_silent kind at other = record { only = λ s h. other (alone r (refusal kind at) h); whole = λ s h. absurd h }

  pub one_tells : {A B : Type 0} {P : Type 0} (f : A → B) (m : Checked A) → Tells r m P → Tells r (one f m) P
  one_tells f m t = record { only = λ s h. t.only s h; whole = λ s p. t.whole s p }

  pub both_tells : {A B C : Type 0} {P Q : Type 0} (f : A → B → C) (m : Checked A) (n : Checked B) → Tells r m P → Tells r n Q → Tells r (both f m n) (P ⊎ Q)
  both_tells f m n t u = record {
    only = λ s h. elim (in_parts r (m s).refusals (n (m s).seen).refusals h) [
      | inl k ↦ inl (t.only s k)
      | inr k ↦ inr (u.only (m s).seen k)
    ];
    whole = λ s pq. elim pq [
      | inl p ↦ in_front r (m s).refusals (n (m s).seen).refusals (t.whole s p)
      | inr q ↦ in_back r (m s).refusals (n (m s).seen).refusals (u.whole (m s).seen q)
    ];
  }

  pub both_silent : {A B C : Type 0} (f : A → B → C) (m : Checked A) (n : Checked B) → Silent r m → Silent r n → Silent r (both f m n)
  both_silent f m n t u = same_tells (both f m n) either_silent (λ h. absurd h) (both_tells f m n t u)

  pub three_tells : {A B C D : Type 0} {P Q R : Type 0} (f : A → B → C → D) (m : Checked A) (n : Checked B) (o : Checked C) → Tells r m P → Tells r n Q → Tells r o R → Tells r (three f m n o) ((P ⊎ Q) ⊎ R)
  three_tells {A} {B} {C} {D} f m n o t u v =
      both_tells {A = C → D} {B = C} {C = D} (λ g c. g c) (both f m n) o (both_tells {A = A} {B = B} {C = C → D} f m n t u) v

  pub each_silent : {X A : Type 0} (f : X → Checked A) → ((x : X) → Silent r (f x)) → (xs : List X) → Silent r (each (map f xs))
  each_silent f is [] = accepted_silent []
  each_silent f is (x ∷ xs) = both_silent (λ a more. a ∷ more) (f x) (each (map f xs)) (is x) (each_silent f is xs)

  -- what is told where something is there, and where nothing is
  abbrev pub Of : {A : Type 0} → Option A → Type 0 → (A → Type 0) → Type 0
  Of None N P = N
  Of (Some a) N P = P a

  pub from_some_tells : {A B : Type 0} {P : A → Type 0} (o : Option A) (kind : RefusalKind) (at : Place) (next : A → Checked B) → ((a : A) → Tells r (next a) (P a)) →
      Tells r (from_some o kind at next) (Of o (refusal kind at ≡ r) P)
  from_some_tells None kind at next is = refused_tells kind at
  from_some_tells (Some a) kind at next is = is a

  pub from_some_silent : {A B : Type 0} (o : Option A) (kind : RefusalKind) (at : Place) (next : A → Checked B) → (refusal kind at ≡ r → ⊥) → ((a : A) → Silent r (next a)) → Silent r (from_some o kind at next)
  from_some_silent None kind at next other is = refused_silent kind at other
  from_some_silent (Some a) kind at next other is = is a

  pub unless_tells : {A : Type 0} {P : Type 0} (o : Option Refusal) (m : Checked A) → ((x : Refusal) → o ≡ Some x → x ≡ r → ⊥) → Tells r m P → Tells r (unless o m) P
  unless_tells None m other t = record { only = λ s h. t.only s h; whole = λ s p. t.whole s p }
  unless_tells (Some x) m other t = record {
    only = λ s h. elim h [
      | inl e ↦ absurd (other x refl e)
      | inr k ↦ t.only s k
    ];
    whole = λ s p. inr (t.whole s p);
  }

  pub if_silent : {A : Type 0} (b : Bool) (m n : Checked A) → Silent r m → Silent r n → Silent r (if b then m else n)
  if_silent true m n t u = t
  if_silent false m n t u = u

  pub in_if : {A : Type 0} (b : Bool) (x y : Outcome A) → (In r x.refusals → ⊥) → (In r y.refusals → ⊥) → In r (if b then x else y).refusals → ⊥
  in_if true x y t u h = t h
  in_if false x y t u h = u h
