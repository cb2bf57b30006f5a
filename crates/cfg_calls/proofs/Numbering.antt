-- Names are numbered by their places.
use Rattle.std.proofs.Common.{◌≡◌, ℕ, ◌+◌, ◌<◌, Bool, true, false, not, cond, if◌then◌else◌, List, [], ◌∷◌, ◌++◌, map, length, Some, None, is_some, refl, sym, ap, ◌∙◌, arith, append-nil}
use Rattle.std.specs.Prelude.{nat_lt, position}
use Rattle.std.specs.List.{list_any, position_or_len}
use Rattle.std.specs.Str.{bytes_eq}
use Rattle.std.proofs.lemmas.Bool.Decides.{nat_tests}
use Rattle.std.proofs.lemmas.List.{map-append}
use Rattle.std.proofs.lemmas.List.Sums.{prefix_len-le-length}
use Rattle.cfg_tree.specs.Names.{var_number}
use Rattle.cfg_calls.specs.Names.{place_of, with_name}
use Rattle.cfg_calls.specs.Following.{CheckState, Follows}

-- the names of items
pub place_map : {X : Type 0} (f : X → List ℕ) (name : List ℕ) (xs : List X) → position_or_len (λ x. bytes_eq name (f x)) xs ≡ place_of name (map f xs)
place_map f name [] = refl
place_map f name (x ∷ xs) = ap (λ n. cond (not (bytes_eq name (f x))) (1 + n) 0) (place_map f name xs)

pub any_map : {X : Type 0} (f : X → List ℕ) (name : List ℕ) (xs : List X) → list_any (λ x. bytes_eq name (f x)) xs ≡ list_any (bytes_eq name) (map f xs)
any_map f name [] = refl
any_map f name (x ∷ xs) = grind (arith, any_map f name xs)

any_is_within : {X : Type 0} (p : X → Bool) (xs : List X) → list_any p xs ≡ nat_lt (position_or_len p xs) (length xs)
any_is_within p [] = refl
any_is_within p (x ∷ xs) = grind (arith, any_is_within p xs)

some_if : (b : Bool) (n : ℕ) → b ≡ is_some (if b then Some n else None)
some_if true n = refl
some_if false n = refl

-- one passes: it has a place
pub any_found : {X : Type 0} (p : X → Bool) (xs : List X) → list_any p xs ≡ is_some (position p xs)
any_found p xs = any_is_within p xs ∙ some_if (nat_lt (position_or_len p xs) (length xs)) (position_or_len p xs)

-- none passes: the place is after the last
last_place : {X : Type 0} (p : X → Bool) (xs : List X) → nat_lt (position_or_len p xs) (length xs) ≡ false → position_or_len p xs ≡ length xs
last_place p xs e = let short = prefix_len-le-length (λ x. not (p x)) xs in grind (arith, nat_tests)

pick_map : {X : Type 0} (f : X → List ℕ) (b c : Bool) (xs ys : List X) → b ≡ c → map f (if b then xs else ys) ≡ (if c then map f xs else map f ys)
pick_map f true true xs ys e = refl
pick_map f false false xs ys e = refl
pick_map f true false xs ys e = absurd (grind arith)
pick_map f false true xs ys e = absurd (grind arith)

-- the names with one more, of items
pub names_map : {X : Type 0} (f : X → List ℕ) (xs : List X) (x : X) → map f (if list_any (λ y. bytes_eq (f x) (f y)) xs then xs else xs ++ x ∷ []) ≡ with_name (f x) (map f xs)
names_map f xs x =
    pick_map f _ _ xs (xs ++ x ∷ []) (any_map f (f x) xs) ∙ ap (λ l. if list_any (bytes_eq (f x)) (map f xs) then map f xs else l) (map-append f xs (x ∷ []))

-- a name is numbered by its place
number_by : (name : List ℕ) (old : CheckState) (b : Bool) → nat_lt (place_of name old.seen.vars) (length old.seen.vars) ≡ b → list_any (bytes_eq name) old.seen.vars ≡ b →
    Follows (var_number name) old (Some (place_of name old.seen.vars)) (record old { seen = record old.seen { vars = with_name name old.seen.vars } })
number_by name old true within any = record {
  value_is = rw within refl;
  refusals_are = rw within (sym (append-nil old.refusals));
  seen_is = rw (within, any) refl;
}
number_by name old false within any =
    let end : place_of name old.seen.vars ≡ length old.seen.vars = last_place (bytes_eq name) old.seen.vars within in
    record {
      value_is = rw within (ap Some end);
      refusals_are = rw within (sym (append-nil old.refusals));
      seen_is = rw (within, any) refl;
    }

pub numbers : (name : List ℕ) (old : CheckState) (n : ℕ) (vars : List (List ℕ)) → n ≡ place_of name old.seen.vars → vars ≡ with_name name old.seen.vars →
    Follows (var_number name) old (Some n) (record old { seen = record old.seen { vars = vars } })
numbers name old n vars is names = rw (is, names) (number_by name old _ refl (any_is_within (bytes_eq name) old.seen.vars))
