-- Edited bytes, each with what is inserted behind it.
use Rattle.std.proofs.Common.{◌≡◌, ℕ, ◌+◌, ◌<◌, ◌≤◌, true, false, List, [], ◌∷◌, ◌++◌, length, refl, sym, ap, ◌∙◌, arith, append_assoc}
use Rattle.std.specs.Prelude.{if◌then◌else◌}
use Rattle.std.proofs.lemmas.List.{append-nil}
use Rattle.msg_edits.specs.declared.parts.Edit.{Edit}
use Rattle.msg_edits.specs.Edited.{is_cut, inserted_at, edited_from}

abbrev pub edited_after : List Edit → ℕ → List ℕ → List ℕ
edited_after edits i [] = []
edited_after edits i (b ∷ bs) = (if is_cut edits i then [] else b ∷ []) ++ (inserted_at edits (i + 1) ++ edited_after edits (i + 1) bs)

three : (a i e f : List ℕ) → a ++ (i ++ (e ++ f)) ≡ (a ++ (i ++ e)) ++ f
three a i e f = simp append_assoc

pub after_append : (edits : List Edit) (i : ℕ) (xs ys : List ℕ) → edited_after edits i (xs ++ ys) ≡ edited_after edits i xs ++ edited_after edits (i + length xs) ys
after_append edits i [] ys = ap (λ (k : ℕ). edited_after edits k ys) (omega arith)
after_append edits i (x ∷ xs) ys =
    let rest = after_append edits (i + 1) xs ys in
    let len : i + 1 + length xs ≡ i + length (x ∷ xs) = omega arith in
    let a = if is_cut edits i then [] else x ∷ [] in
    ap (λ (t : List ℕ). a ++ (inserted_at edits (i + 1) ++ t)) (rest ∙ ap (λ (k : ℕ). edited_after edits (i + 1) xs ++ edited_after edits k ys) len)
    ∙ three a (inserted_at edits (i + 1)) (edited_after edits (i + 1) xs) (edited_after edits (i + length (x ∷ xs)) ys)

four : (a c e f : List ℕ) → ((a ++ c) ++ e) ++ f ≡ a ++ (c ++ (e ++ f))
four a c e f = simp append_assoc

pub from_after : (edits : List Edit) (i : ℕ) (xs : List ℕ) → edited_from edits i xs ++ inserted_at edits (i + length xs) ≡ inserted_at edits i ++ edited_after edits i xs
from_after edits i [] = ap (λ (k : ℕ). inserted_at edits k) (omega arith) ∙ sym (append-nil (inserted_at edits i))
from_after edits i (x ∷ xs) =
    let rest = from_after edits (i + 1) xs in
    let len : i + length (x ∷ xs) ≡ i + 1 + length xs = omega arith in
    let a = if is_cut edits i then [] else x ∷ [] in
    four (inserted_at edits i) a (edited_from edits (i + 1) xs) (inserted_at edits (i + length (x ∷ xs)))
    ∙ ap (λ (k : ℕ). inserted_at edits i ++ (a ++ (edited_from edits (i + 1) xs ++ inserted_at edits k))) len
    ∙ ap (λ (t : List ℕ). inserted_at edits i ++ (a ++ t)) rest

-- bytes that stay, and nothing is inserted behind them
pub after_kept : (edits : List Edit) (i : ℕ) (xs : List ℕ) → ((k : ℕ) → i ≤ k → k < i + length xs → is_cut edits k ≡ false) → ((k : ℕ) → i < k → k ≤ i + length xs → inserted_at edits k ≡ []) → edited_after edits i xs ≡ xs
after_kept edits i [] cut put = refl
after_kept edits i (x ∷ xs) cut put =
    let rest = after_kept edits (i + 1) xs (λ k low high. cut k (omega (arith, low)) (omega (arith, high))) (λ k low high. put k (omega (arith, low)) (omega (arith, high))) in
    let here = cut i (omega arith) (omega arith) in
    let none = put (i + 1) (omega arith) (omega arith) in
    rw (here, none) (ap (λ (t : List ℕ). x ∷ t) rest)

-- bytes that stay, and something is inserted behind the last
pub after_filled : (edits : List Edit) (i : ℕ) (xs new : List ℕ) → 0 < length xs → ((k : ℕ) → i ≤ k → k < i + length xs → is_cut edits k ≡ false) → ((k : ℕ) → i < k → k < i + length xs → inserted_at edits k ≡ []) → inserted_at edits (i + length xs) ≡ new → edited_after edits i xs ≡ xs ++ new
after_filled edits i [] new some cut put last = absurd (omega (arith, some))
after_filled edits i (x ∷ []) new some cut put last =
    let here = cut i (omega arith) (omega arith) in
    let len : i + 1 ≡ i + length (x ∷ []) = omega arith in
    let all : inserted_at edits (i + 1) ≡ new = ap (λ (k : ℕ). inserted_at edits k) len ∙ last in
    rw (here, all) (ap (λ (t : List ℕ). x ∷ t) (append-nil new))
after_filled edits i (x ∷ y ∷ ys) new some cut put last =
    let len : i + 1 + length (y ∷ ys) ≡ i + length (x ∷ y ∷ ys) = omega arith in
    let rest = after_filled edits (i + 1) (y ∷ ys) new (omega arith) (λ k low high. cut k (omega (arith, low)) (omega (arith, high))) (λ k low high. put k (omega (arith, low)) (omega (arith, high))) (ap (λ (k : ℕ). inserted_at edits k) len ∙ last) in
    let here = cut i (omega arith) (omega arith) in
    let none = put (i + 1) (omega arith) (omega arith) in
    rw (here, none) (ap (λ (t : List ℕ). x ∷ t) rest)

-- bytes that are cut
pub after_cut : (edits : List Edit) (i : ℕ) (xs : List ℕ) → ((k : ℕ) → i ≤ k → k < i + length xs → is_cut edits k ≡ true) → ((k : ℕ) → i < k → k ≤ i + length xs → inserted_at edits k ≡ []) → edited_after edits i xs ≡ []
after_cut edits i [] cut put = refl
after_cut edits i (x ∷ xs) cut put =
    let rest = after_cut edits (i + 1) xs (λ k low high. cut k (omega (arith, low)) (omega (arith, high))) (λ k low high. put k (omega (arith, low)) (omega (arith, high))) in
    let here = cut i (omega arith) (omega arith) in
    let none = put (i + 1) (omega arith) (omega arith) in
    rw (here, none) rest

-- bytes that no edit touches
pub from_kept : (edits : List Edit) (i : ℕ) (xs : List ℕ) → ((k : ℕ) → i ≤ k → k < i + length xs → is_cut edits k ≡ false) → ((k : ℕ) → i ≤ k → k < i + length xs → inserted_at edits k ≡ []) → edited_from edits i xs ≡ xs
from_kept edits i [] cut put = refl
from_kept edits i (x ∷ xs) cut put =
    let rest = from_kept edits (i + 1) xs (λ k low high. cut k (omega (arith, low)) (omega (arith, high))) (λ k low high. put k (omega (arith, low)) (omega (arith, high))) in
    let here = cut i (omega arith) (omega arith) in
    let none = put i (omega arith) (omega arith) in
    rw (here, none) (ap (λ (t : List ℕ). x ∷ t) rest)
