-- The pieces of a datagram, one after the other.
use Rattle.std.proofs.Common.{◌≡◌, ℕ, zero, suc, ◌+◌, ◌<◌, ◌≤◌, Bool, true, false, List, [], ◌∷◌, ◌++◌, length, drop, take, refl, ap, arith, get_or, length-drop, ◌==◌}
use Rattle.std.proofs.lemmas.List.{drop_more, drop_all}
use Rattle.std.specs.Prelude.{if◌then◌else◌}
use Rattle.std.specs.List.{onto_first, flat_map}
use Rattle.std.proofs.lemmas.Bool.{eqb-true}
use Rattle.sim_text.specs.Trace.{is_crlf, pieces, shown_piece, shown_datagram}
use Rattle.sim_text.specs.Pieces.{begins_crlf, crlf_at, first_len}

no_crlf : (xs : List ℕ) (a : ℕ) → begins_crlf (a ∷ xs) ≡ false → first_len (a ∷ xs) ≡ suc (first_len xs)
unfolding first_len
no_crlf [] a h = refl
no_crlf (b ∷ rest) a h = rw h refl

a_crlf : (xs : List ℕ) → begins_crlf xs ≡ true → (first_len xs ≡ 2) × (2 ≤ length xs)
unfolding first_len
a_crlf [] h = absurd (cc)
a_crlf (a ∷ []) h = absurd (cc)
a_crlf (a ∷ b ∷ rest) h = (rw h refl, omega arith)

pub goes : (xs : List ℕ) (i : ℕ) → i < length xs → crlf_at xs i ≡ false → first_len (drop i xs) ≡ suc (first_len (drop (i + 1) xs))
goes xs i l h = rw (drop_more xs i 0 l) (no_crlf (drop (i + 1) xs) (get_or xs i 0) (rw (drop_more xs i 0 l) at h))

pub stops : (xs : List ℕ) (i : ℕ) → crlf_at xs i ≡ true → (first_len (drop i xs) ≡ 2) × (i + 2 ≤ length xs)
stops xs i h = let c = a_crlf (drop i xs) h in (c.0, omega (arith, length-drop i xs))

pub ends : (xs : List ℕ) (i : ℕ) → length xs ≤ i → first_len (drop i xs) ≡ 0
unfolding first_len
ends xs i l = rw (drop_all i xs l) refl

pub nonempty : (n : ℕ) → (n == 0) ≡ false → 0 < n
nonempty zero h = absurd (cc)
nonempty (suc n) h = omega arith

pub empty : (n : ℕ) → (n == 0) ≡ true → n ≡ 0
empty n h = eqb-true n 0 h

-- a datagram is its first piece and the pieces after it
first_piece : (xs : List ℕ) → 0 < length xs → pieces xs ≡ take (first_len xs) xs ∷ pieces (drop (first_len xs) xs)
unfolding pieces first_len
first_piece [] h = absurd (omega arith)
first_piece (a ∷ []) h = refl
first_piece (a ∷ b ∷ rest) h = by_cases (first_len (b ∷ rest)) (first_piece (b ∷ rest) (omega arith)) (is_crlf a b)
  where
    by_cases : (n : ℕ) → pieces (b ∷ rest) ≡ take n (b ∷ rest) ∷ pieces (drop n (b ∷ rest)) → (c : Bool)
        → (if c then (a ∷ b ∷ []) ∷ pieces rest else onto_first a (pieces (b ∷ rest)))
        ≡ take (if c then 2 else suc n) (a ∷ b ∷ rest) ∷ pieces (drop (if c then 2 else suc n) (a ∷ b ∷ rest))
    by_cases n before true = refl
    by_cases n before false = rw before refl

-- what is shown of a datagram: its first piece, and what is after it
pub shown_first : (xs : List ℕ) → 0 < length xs → shown_datagram xs ≡ shown_piece (take (first_len xs) xs) ++ shown_datagram (drop (first_len xs) xs)
shown_first xs h = ap (λ (ps : List (List ℕ)). flat_map shown_piece ps) (first_piece xs h)

pub shown_nothing : (xs : List ℕ) → length xs ≡ 0 → shown_datagram xs ≡ []
unfolding pieces
shown_nothing [] h = refl
shown_nothing (a ∷ xs) h = absurd (omega arith)
