-- A text without the LWS at its end.
use Rattle.std.proofs.Common.{◌≡◌, ◌∙◌, ℕ, ◌+◌, ◌==◌, ◌≤◌, List, [], suc, ◌∷◌, ◌++◌, length, length-append, take, slice_index_or, refl, sym, ap, arith, true, false, Bool, ◌&&◌, not}
use Rattle.std.specs.Prelude.{if◌then◌else◌}
use Rattle.std.proofs.lemmas.Grind.{common_steps}
use Rattle.std.proofs.Math.Seq.{take-suc}
use Rattle.pv_table.specs.Fields.{is_lws_byte, end_trimmed}

abbrev trimmed_before : ℕ → List ℕ → List ℕ
trimmed_before b rest = if is_lws_byte b && (length rest == 0) then [] else b ∷ rest

-- a byte of LWS at the end goes
pub end_trimmed-lws : (xs : List ℕ) (b : ℕ) → is_lws_byte b ≡ true → end_trimmed (xs ++ b ∷ []) ≡ end_trimmed xs
end_trimmed-lws [] b e = grind (arith, common_steps)
end_trimmed-lws (x ∷ xs) b e = rw (end_trimmed-lws xs b e) refl

nonempty : (xs : List ℕ) (b : ℕ) → (length (xs ++ b ∷ []) == 0) ≡ false
nonempty xs b = grind (arith, length-append xs (b ∷ []))

and_false : (a : Bool) → (a && false) ≡ false
and_false true = refl
and_false false = refl

-- another byte at the end stays, and all before it
pub end_trimmed-other : (xs : List ℕ) (b : ℕ) → is_lws_byte b ≡ false → end_trimmed (xs ++ b ∷ []) ≡ xs ++ b ∷ []
end_trimmed-other [] b e = grind (arith, common_steps)
end_trimmed-other (x ∷ xs) b e = rw (end_trimmed-other xs b e, nonempty xs b, and_false (is_lws_byte x)) refl

last_in : (text : List ℕ) (n k : ℕ) → n ≡ suc k → n ≤ length text → take n text ≡ take k text ++ slice_index_or text k 0 ∷ []
last_in text n k e l = ap (λ i. take i text) e ∙ take-suc text k 0 (omega (arith, l, e))

-- the loop's turn
pub cut_lws : (text : List ℕ) (n k : ℕ) → n ≡ suc k → n ≤ length text → true ≡ is_lws_byte (slice_index_or text k 0) → end_trimmed (take k text) ≡ end_trimmed (take n text)
cut_lws text n k e l t = sym (ap end_trimmed (last_in text n k e l) ∙ end_trimmed-lws (take k text) (slice_index_or text k 0) (sym t))

-- its ends: at another byte, and with nothing left
pub kept_other : (text : List ℕ) (n k : ℕ) → n ≡ suc k → n ≤ length text → false ≡ is_lws_byte (slice_index_or text k 0) → take n text ≡ end_trimmed (take n text)
kept_other text n k e l t =
    let whole = last_in text n k e l in whole ∙ sym (end_trimmed-other (take k text) (slice_index_or text k 0) (sym t)) ∙ sym (ap end_trimmed whole)

pub none_left : (text : List ℕ) (n : ℕ) → n ≡ 0 → take n text ≡ end_trimmed (take n text)
none_left text n e = ap (λ i. take i text) e ∙ sym (ap (λ i. end_trimmed (take i text)) e)
