-- One edit more of a list.
use Rattle.std.proofs.Common.{◌≡◌, ℕ, zero, suc, ◌+◌, true, List, [], ◌∷◌, ◌++◌, take, Some, refl, ap, ◌∙◌, arith, add-one}
use Rattle.std.specs.Prelude.{slice_get, ◌||◌}
use Rattle.std.proofs.lemmas.List.{append-nil}
use Rattle.std.proofs.lemmas.List.Concat.{flat_map-append}
use Rattle.std.proofs.lemmas.List.Folds.{list_any-append}
use Rattle.msg_edits.specs.declared.parts.Edit.{Edit}
use Rattle.msg_edits.specs.Edited.{cuts_byte, text_at, is_cut, inserted_at}

pub take_next : {X : Type 0} (xs : List X) (i : ℕ) (x : X) → slice_get xs i ≡ Some x → take (i + 1) xs ≡ take i xs ++ x ∷ []
take_next [] i x h = absurd (cc)
take_next {X} (y ∷ xs) zero x h = let e : y ≡ x = cc in ap (λ (z : X). z ∷ []) e
take_next {X} (y ∷ xs) (suc i) x h = let n : i + 1 ≡ suc i = omega arith in let more : take (suc i) xs ≡ take i xs ++ x ∷ [] = rw n at (take_next xs i x h) in rw add-one (ap (λ (zs : List X). y ∷ zs) more)

pub inserted_push : (edits : List Edit) (e : Edit) (k : ℕ) → inserted_at (edits ++ e ∷ []) k ≡ inserted_at edits k ++ text_at k e
inserted_push edits e k = flat_map-append (text_at k) edits (e ∷ []) ∙ ap (λ (t : List ℕ). inserted_at edits k ++ t) (append-nil (text_at k e))

pub cut_push : (edits : List Edit) (e : Edit) (k : ℕ) → is_cut (edits ++ e ∷ []) k ≡ (is_cut edits k || cuts_byte k e)
cut_push edits e k = list_any-append (cuts_byte k) edits (e ∷ []) ∙ grind arith

pub inserted_more : (edits : List Edit) (i : ℕ) (e : Edit) (k : ℕ) → slice_get edits i ≡ Some e → inserted_at (take (i + 1) edits) k ≡ inserted_at (take i edits) k ++ text_at k e
inserted_more edits i e k h = ap (λ (es : List Edit). inserted_at es k) (take_next edits i e h) ∙ inserted_push (take i edits) e k

pub cut_more : (edits : List Edit) (i : ℕ) (e : Edit) (k : ℕ) → slice_get edits i ≡ Some e → is_cut (take (i + 1) edits) k ≡ (is_cut (take i edits) k || cuts_byte k e)
cut_more edits i e k h = ap (λ (es : List Edit). is_cut es k) (take_next edits i e h) ∙ cut_push (take i edits) e k

pub cut_found : (edits : List Edit) (i : ℕ) (e : Edit) (k : ℕ) → slice_get edits i ≡ Some e → cuts_byte k e ≡ true → is_cut edits k ≡ true
cut_found [] i e k found here = absurd (cc)
cut_found (x ∷ edits) zero e k found here = let same : x ≡ e = cc in rw (same, here) refl
cut_found (x ∷ edits) (suc i) e k found here = let later = cut_found edits i e k found here in grind arith
