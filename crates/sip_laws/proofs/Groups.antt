-- Edits in groups, each of which acts in a part of the text of its own.
use Rattle.std.proofs.Common.{◌≡◌, ℕ, ◌+◌, ◌<◌, ◌≤◌, ◌==◌, Bool, true, false, List, [], ◌∷◌, ◌++◌, length, refl, sym, ap, ◌∙◌, arith}
use Rattle.std.specs.Prelude.{◌||◌, ◌&&◌, nat_le, nat_lt, if◌then◌else◌}
use Rattle.std.proofs.lemmas.Bool.{ne_eqb, eq-eqb, le-ltb}
use Rattle.std.proofs.lemmas.List.{append-nil}
use Rattle.std.proofs.lemmas.List.Concat.{flat_map-append}
use Rattle.std.proofs.lemmas.List.Folds.{list_any-append}
use Rattle.sip_words.specs.declared.Span.{Span}
use Rattle.sip_words.specs.Spans.{span}
use Rattle.msg_edits.specs.declared.parts.Edit.{Edit}
use Rattle.msg_edits.specs.Edited.{has_byte, cuts_byte, text_at, is_cut, inserted_at, edited_from}
use Rattle.msg_edits.proofs.Grown.{same_bytes, has_inside, has_below}
use Rattle.msg_edits.proofs.Pieces.{from_append}
use Rattle.sip_build.specs.Forwarded.{replaced}
use Rattle.sip_laws.proofs.After.{from_kept}

-- nothing is done at a place
pub record QuietAt (edits : List Edit) (k : ℕ) : Type 0 where
  pub cut : is_cut edits k ≡ false
  pub put : inserted_at edits k ≡ []

-- the same is done there
pub record SameAt (edits others : List Edit) (k : ℕ) : Type 0 where
  pub cut : is_cut edits k ≡ is_cut others k
  pub put : inserted_at edits k ≡ inserted_at others k

abbrev pub groups : List Edit → List Edit → List Edit → List Edit
groups s u h = (s ++ u) ++ (h ++ [])

or_false : (x y : Bool) → y ≡ false → (x || y) ≡ x
or_false true y e = refl
or_false false y e = e

group_cut : (s u h : List Edit) (k : ℕ) → is_cut (groups s u h) k ≡ ((is_cut s k || is_cut u k) || is_cut h k)
group_cut s u h k =
    let one = list_any-append (cuts_byte k) (s ++ u) (h ++ []) in
    let two = list_any-append (cuts_byte k) s u in
    let three = ap (λ (es : List Edit). is_cut es k) (append-nil h) in
    one ∙ rw (two, three) refl

group_put : (s u h : List Edit) (k : ℕ) → inserted_at (groups s u h) k ≡ (inserted_at s k ++ inserted_at u k) ++ inserted_at h k
group_put s u h k =
    let one = flat_map-append (text_at k) (s ++ u) (h ++ []) in
    let two = flat_map-append (text_at k) s u in
    let three = ap (λ (es : List Edit). inserted_at es k) (append-nil h) in
    one ∙ rw (two, three) refl

pub only_first : (s u h : List Edit) (k : ℕ) → QuietAt u k → QuietAt h k → SameAt (groups s u h) s k
only_first s u h k a c = record {
  cut = group_cut s u h k ∙ or_false (is_cut s k || is_cut u k) (is_cut h k) c.cut ∙ or_false (is_cut s k) (is_cut u k) a.cut;
  put = group_put s u h k ∙ (let p = a.put in let q = c.put in rw (p, q) (append-nil (inserted_at s k ++ []) ∙ append-nil (inserted_at s k)));
}

pub only_second : (s u h : List Edit) (k : ℕ) → QuietAt s k → QuietAt h k → SameAt (groups s u h) u k
only_second s u h k a c = record {
  cut = group_cut s u h k ∙ or_false (is_cut s k || is_cut u k) (is_cut h k) c.cut ∙ (let e = a.cut in rw e refl);
  put = group_put s u h k ∙ (let p = a.put in let q = c.put in rw (p, q) (append-nil (inserted_at u k)));
}

pub only_third : (s u h : List Edit) (k : ℕ) → QuietAt s k → QuietAt u k → SameAt (groups s u h) h k
only_third s u h k a c = record {
  cut = group_cut s u h k ∙ (let e = a.cut in let f = c.cut in rw (e, f) refl);
  put = group_put s u h k ∙ (let p = a.put in let q = c.put in rw (p, q) refl);
}

-- a piece of the text
pub same_piece : (edits others : List Edit) (i : ℕ) (bytes : List ℕ) → ((k : ℕ) → i ≤ k → k < i + length bytes → SameAt edits others k) → edited_from edits i bytes ≡ edited_from others i bytes
same_piece edits others i bytes same = same_bytes others edits i bytes (λ k low high. (same k low high).put) (λ k low high. (same k low high).cut)

pub quiet_piece : (edits : List Edit) (i : ℕ) (bytes : List ℕ) → ((k : ℕ) → i ≤ k → k < i + length bytes → QuietAt edits k) → edited_from edits i bytes ≡ bytes
quiet_piece edits i bytes quiet = from_kept edits i bytes (λ k low high. (quiet k low high).cut) (λ k low high. (quiet k low high).put)

-- a text in the place of a span
and_no : (x y : Bool) → y ≡ false → (x && y) ≡ false
and_no true y h = h
and_no false y h = refl

has_above : (s : Span) (k : ℕ) → s.to ≤ k → has_byte s k ≡ false
has_above s k le = and_no (nat_le s.from k) (nat_lt k s.to) (le-ltb k s.to le)

one_cut : (at : Span) (new : List ℕ) (k : ℕ) → is_cut (replaced at new) k ≡ has_byte at k
one_cut at new k = or_no (has_byte at k)
  where
    or_no : (x : Bool) → (x || (false || false)) ≡ x
    or_no true = refl
    or_no false = refl

one_put : (at : Span) (new : List ℕ) (k : ℕ) → inserted_at (replaced at new) k ≡ (if at.from == k then new else [])
one_put at new k = append-nil (if at.from == k then new else [])

pub quiet_below : (at : Span) (new : List ℕ) (k : ℕ) → k < at.from → QuietAt (replaced at new) k
quiet_below at new k lt = record { cut = one_cut at new k ∙ has_below at k lt; put = one_put at new k ∙ (let off = ne_eqb at.from k (λ e. omega (arith, e, lt)) in rw off refl) }

pub quiet_above : (at : Span) (new : List ℕ) (k : ℕ) → at.from < at.to → at.to ≤ k → QuietAt (replaced at new) k
quiet_above at new k some le = record { cut = one_cut at new k ∙ has_above at k le; put = one_put at new k ∙ (let off = ne_eqb at.from k (λ e. omega (arith, e, le, some)) in rw off refl) }

from_cut : (edits : List Edit) (i : ℕ) (xs : List ℕ) → ((k : ℕ) → i ≤ k → k < i + length xs → is_cut edits k ≡ true) → ((k : ℕ) → i ≤ k → k < i + length xs → inserted_at edits k ≡ []) → edited_from edits i xs ≡ []
from_cut edits i [] cut put = refl
from_cut edits i (x ∷ xs) cut put =
    let rest = from_cut edits (i + 1) xs (λ k low high. cut k (omega (arith, low)) (omega (arith, high))) (λ k low high. put k (omega (arith, low)) (omega (arith, high))) in
    let here = cut i (omega arith) (omega arith) in
    let none = put i (omega arith) (omega arith) in
    rw (here, none) rest

-- the bytes of the span
old_gone : (at : Span) (old new : List ℕ) → 0 < length old → at.to ≡ at.from + length old → edited_from (replaced at new) at.from old ≡ new
old_gone at [] new some e = absurd (omega (arith, some))
old_gone at (x ∷ xs) new some e =
    let edits = replaced at new in
    let cut : (k : ℕ) → at.from ≤ k → k < at.from + length (x ∷ xs) → is_cut edits k ≡ true = λ k low high. one_cut at new k ∙ has_inside at k low (omega (arith, e, high)) in
    let rest = from_cut edits (at.from + 1) xs (λ k low high. cut k (omega (arith, low)) (omega (arith, high))) (λ k low high. one_put at new k ∙ (let off = ne_eqb at.from k (λ z. omega (arith, z, low)) in rw off refl)) in
    let here = cut at.from (omega arith) (omega arith) in
    let on = eq-eqb at.from at.from refl in
    let put : inserted_at edits at.from ≡ new = one_put at new at.from ∙ rw on refl in
    ap (λ (z : List ℕ). (inserted_at edits at.from ++ (if is_cut edits at.from then [] else x ∷ [])) ++ z) rest ∙ rw (here, put) (append-nil (new ++ []) ∙ append-nil new)

pub replaced_in : (at : Span) (new : List ℕ) (i : ℕ) (front old back : List ℕ) → at ≡ span (i + length front) (i + length front + length old) → 0 < length old → edited_from (replaced at new) i (front ++ (old ++ back)) ≡ front ++ (new ++ back)
replaced_in at new i front old back e some =
    let edits = replaced at new in
    let from : at.from ≡ i + length front = ap (λ (x : Span). x.from) e in
    let to : at.to ≡ i + length front + length old = ap (λ (x : Span). x.to) e in
    let a = quiet_piece edits i front (λ k low high. quiet_below at new k (omega (arith, from, high))) in
    let mid : edited_from edits (i + length front) old ≡ new = ap (λ (n : ℕ). edited_from edits n old) (sym from) ∙ old_gone at old new some (omega (arith, from, to)) in
    let c = quiet_piece edits (i + length front + length old) back (λ k low high. quiet_above at new k (omega (arith, from, to, some)) (omega (arith, to, low))) in
    from_append edits i front (old ++ back) ∙ ap (λ (z : List ℕ). edited_from edits i front ++ z) (from_append edits (i + length front) old back) ∙ rw (a, mid, c) refl
