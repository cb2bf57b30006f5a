-- A text that is written up to a place.
use Rattle.std.proofs.Common.{◌≡◌, ℕ, suc, subst, ◌+◌, ◌-◌, ◌<◌, ◌≤◌, max, Bool, true, false, List, [], ◌∷◌, ◌++◌, length, take, drop, refl, sym, ap, ◌∙◌, arith, inl, inr, append_assoc, length-take}
use Rattle.std.specs.Prelude.{nat_lt, nat_le, ◌||◌, ◌&&◌, slice_index}
use Rattle.std.proofs.lemmas.List.{append-nil, take_all, take_more, map-append}
use Rattle.std.proofs.Math.Seq.{drop-cons}
use Rattle.std.proofs.Math.Nat.{eq-or-lt_of_le}
use Rattle.std.proofs.lemmas.Grind.{common_steps}
use Rattle.sip_words.specs.declared.Span.{Span}
use Rattle.msg_edits.specs.declared.parts.Edit.{Edit}
use Rattle.msg_edits.specs.declared.parts.Edit.TheVariants.{Cut, Insert}
use Rattle.msg_edits.specs.declared.sweep.Progress.{Progress}
use Rattle.msg_edits.specs.Edited.{has_byte, is_cut, inserted_at, edited_from, edited}
use Rattle.msg_edits.specs.Laws.{IsElsewhere}
use Rattle.sip_words.specs.Room.{IsWrittenSoFar}
use Rattle.msg_edits.specs.Writing.{edit_place, numbered, picked, AllFrom, IsByPlace, IsSwept}
use Rattle.msg_edits.proofs.Steps.{cut_push}
use Rattle.msg_edits.proofs.Pieces.{alike_piece}
use Rattle.msg_edits.proofs.Grown.{insert_elsewhere, insert_here, insert_cuts, cut_inserts, cut_elsewhere, has_below, elsewhere_law}

-- the text that is written up to a place
abbrev pub text_to : List Edit → List ℕ → ℕ → List ℕ
text_to edits b last = edited_from edits 0 (take last b) ++ inserted_at edits last

-- bytes that are cut, and bytes that are kept
cut_to : (edits : List Edit) (b : List ℕ) (last p : ℕ) → last < p → p ≤ length b → ((k : ℕ) → last < k → k ≤ length b → inserted_at edits k ≡ []) → ((k : ℕ) → last ≤ k → k < p → is_cut edits k ≡ true) → text_to edits b last ≡ text_to edits b p
cut_to edits b last p lt le quiet cuts =
    let piece = alike_piece edits b last p true lt le (λ k low high. quiet k low (omega arith)) cuts in
    let none = quiet p lt le in
    rw (piece, none) (simp (append_assoc, append-nil))

kept_to : (edits : List Edit) (b : List ℕ) (last p : ℕ) → last < p → p ≤ length b → ((k : ℕ) → last < k → k ≤ length b → inserted_at edits k ≡ []) → ((k : ℕ) → last ≤ k → k < p → is_cut edits k ≡ false) → text_to edits b last ++ take (p - last) (drop last b) ≡ text_to edits b p
kept_to edits b last p lt le quiet cuts =
    let piece = alike_piece edits b last p false lt le (λ k low high. quiet k low (omega arith)) cuts in
    let none = quiet p lt le in
    rw (piece, none) (simp (append_assoc, append-nil))

lt_true : (k n : ℕ) → k < n → nat_lt k n ≡ true
lt_true k n lt = grind (arith, common_steps)

lt_false : (k n : ℕ) → n ≤ k → nat_lt k n ≡ false
lt_false k n le = grind (arith, common_steps)

same_text : (edits : List Edit) (b : List ℕ) (last p : ℕ) → last ≤ p → p ≤ length b → ((k : ℕ) → last < k → k ≤ length b → inserted_at edits k ≡ []) → ((k : ℕ) → last ≤ k → k < p → is_cut edits k ≡ true) → text_to edits b last ≡ text_to edits b p
same_text edits b last p le inside quiet cuts = elim (eq-or-lt_of_le le) [
  | inl here ↦ ap (λ (m : ℕ). text_to edits b m) here
  | inr before ↦ cut_to edits b last p before inside quiet cuts
]

-- up to a place before which all is written or cut
pub swept_over : (edits : List Edit) (b : List ℕ) (last p : ℕ) (so_far : Progress) (room out : List ℕ) → last ≤ p → p ≤ length b → p ≤ so_far.from → IsSwept edits b last so_far room out → IsSwept edits b p so_far room out
swept_over edits b last p so_far room out le inside reached s =
    let same = same_text edits b last p le inside s.quiet (λ k low high. s.cuts k low (omega arith) ∙ lt_true k so_far.from (omega arith)) in
    record {
      inside = inside;
      reached = reached;
      written = subst (λ (t : List ℕ). IsWrittenSoFar room out so_far.len t) same s.written;
      quiet = λ k past high. s.quiet k (omega arith) high;
      cuts = λ k low high. s.cuts k (omega arith) high;
    }

-- up to a place, with the bytes before it
pub swept_to : (edits : List Edit) (b : List ℕ) (last p : ℕ) (so_far next : Progress) (room out new : List ℕ) → last ≤ p → p ≤ length b → so_far.from < p → next.from ≡ p → IsSwept edits b last so_far room out → ((text : List ℕ) → IsWrittenSoFar room out so_far.len text → IsWrittenSoFar room new next.len (text ++ take (p - so_far.from) (drop so_far.from b))) → IsSwept edits b p next room new
swept_to edits b last p so_far next room out new le inside lt from s put =
    let at = so_far.from in
    let reached = s.reached in
    let cut = same_text edits b last at reached (omega arith) s.quiet (λ k low high. s.cuts k low (omega arith) ∙ lt_true k at high) in
    let kept = kept_to edits b at p lt inside (λ k past high. s.quiet k (omega arith) high) (λ k low high. s.cuts k (omega arith) (omega arith) ∙ lt_false k at low) in
    let same = ap (λ (t : List ℕ). t ++ take (p - at) (drop at b)) cut ∙ kept in
    record {
      inside = inside;
      reached = omega arith;
      written = subst (λ (t : List ℕ). IsWrittenSoFar room new next.len t) same (put (text_to edits b last) s.written);
      quiet = λ k past high. s.quiet k (omega arith) high;
      cuts = λ k low high. s.cuts k (omega arith) high ∙ lt_false k at (omega arith) ∙ sym (lt_false k next.from (omega arith));
    }

-- an edit at a place changes no byte before it
front_same : (edits : List Edit) (e : Edit) (b : List ℕ) → IsElsewhere 0 (length (take (edit_place e) b)) e → edited_from (edits ++ e ∷ []) 0 (take (edit_place e) b) ≡ edited_from edits 0 (take (edit_place e) b)
front_same edits e b h = elsewhere_law edits e 0 (take (edit_place e) b) (subst (λ (n : ℕ). IsElsewhere 0 n e) (omega arith) h)

-- one edit more at the place
pub swept_insert : (edits : List Edit) (b : List ℕ) (place : ℕ) (text : List ℕ) (so_far next : Progress) (room out new : List ℕ) → next.from ≡ so_far.from → IsSwept edits b place so_far room out → ((before : List ℕ) → IsWrittenSoFar room out so_far.len before → IsWrittenSoFar room new next.len (before ++ text)) → IsSwept (edits ++ Insert place text ∷ []) b place next room new
swept_insert edits b place text so_far next room out new from s put =
    let front = front_same edits (Insert place text) b (inr (omega (arith, length-take place b))) in
    let here = insert_here edits place text in
    let same : text_to edits b place ++ text ≡ text_to (edits ++ Insert place text ∷ []) b place = rw (front, here) (append_assoc (edited_from edits 0 (take place b)) (inserted_at edits place) text) in
    record {
      inside = s.inside;
      reached = omega arith;
      written = subst (λ (t : List ℕ). IsWrittenSoFar room new next.len t) same (put (text_to edits b place) s.written);
      quiet = λ k past high. insert_elsewhere edits place k text (omega arith) ∙ s.quiet k past high;
      cuts = λ k low high. insert_cuts edits place k text ∙ s.cuts k low high ∙ ap (λ (n : ℕ). nat_lt k n) (sym from);
    }

farther : (k m : ℕ) (at : Span) → at.from ≤ k → (nat_lt k m || (nat_le at.from k && nat_lt k at.to)) ≡ nat_lt k (max m at.to)
farther k m at low = grind (arith, common_steps)

pub swept_cut : (edits : List Edit) (b : List ℕ) (at : Span) (so_far next : Progress) (room out : List ℕ) → next.len ≡ so_far.len → next.from ≡ max so_far.from at.to → IsSwept edits b at.from so_far room out → IsSwept (edits ++ Cut at ∷ []) b at.from next room out
swept_cut edits b at so_far next room out len from s =
    let front = front_same edits (Cut at) b (inr (omega (arith, length-take at.from b))) in
    let here = cut_inserts edits at at.from in
    let same : text_to edits b at.from ≡ text_to (edits ++ Cut at ∷ []) b at.from = rw (front, here) refl in
    record {
      inside = s.inside;
      reached = omega (arith, s.reached);
      written = rw len (subst (λ (t : List ℕ). IsWrittenSoFar room out so_far.len t) same s.written);
      quiet = λ k past high. cut_inserts edits at k ∙ s.quiet k past high;
      cuts = λ k low high. cut_push edits (Cut at) k ∙ ap (λ (c : Bool). c || has_byte at k) (s.cuts k low high) ∙ farther k so_far.from at low ∙ ap (λ (n : ℕ). nat_lt k n) (sym from);
    }

-- one edit more behind the end
pub swept_past : (edits : List Edit) (e : Edit) (b : List ℕ) (last : ℕ) (so_far : Progress) (room out : List ℕ) → length b < edit_place e → IsSwept edits b last so_far room out → IsSwept (edits ++ e ∷ []) b last so_far room out
swept_past edits (Cut at) b last so_far room out past s =
    let front = elsewhere_law edits (Cut at) 0 (take last b) (inr (omega (arith, length-take last b))) in
    record {
      inside = s.inside;
      reached = s.reached;
      written = rw (front, cut_inserts edits at last) s.written;
      quiet = λ k after high. cut_inserts edits at k ∙ s.quiet k after high;
      cuts = λ k low high. cut_elsewhere edits at k (has_below at k (omega arith)) ∙ s.cuts k low high;
    }
swept_past edits (Insert place text) b last so_far room out past s =
    let front = elsewhere_law edits (Insert place text) 0 (take last b) (inr (omega (arith, length-take last b))) in
    let inside = s.inside in
    record {
      inside = inside;
      reached = s.reached;
      written = rw (front, insert_elsewhere edits place last text (omega arith)) s.written;
      quiet = λ k after high. insert_elsewhere edits place k text (omega arith) ∙ s.quiet k after high;
      cuts = λ k low high. insert_cuts edits place k text ∙ s.cuts k low high;
    }

-- the edits of an order, made up to a number
pub record IsSweptSoFar (edits : List Edit) (order b : List ℕ) (i : ℕ) (so_far : Progress) (room out : List ℕ) : Type 0 where
  pub last : ℕ
  pub swept : IsSwept (picked edits (take i order)) b last so_far room out
  pub later : AllFrom last (picked edits (drop i order))
  pub by_place : IsByPlace (picked edits (drop i order))

all_from_zero : (es : List Edit) → AllFrom 0 es
all_from_zero [] = tt
all_from_zero (e ∷ es) = (omega arith, all_from_zero es)

pub none_swept : (edits : List Edit) (order b room : List ℕ) → IsByPlace (picked edits order) → IsSweptSoFar edits order b 0 (record { len = 0; from = 0 }) room room
none_swept edits order b room o = record {
  last = 0;
  swept = record { inside = omega arith; reached = omega arith; written = record { same_room = refl; count = refl; bytes = λ _. refl }; quiet = λ k past high. refl; cuts = λ k low high. sym (lt_false k 0 (omega arith)) };
  later = all_from_zero (picked edits order);
  by_place = o;
}

pub one_swept : (edits : List Edit) (order b : List ℕ) (i : ℕ) (e : Edit) (so_far next : Progress) (room out new : List ℕ) → i < length order → numbered edits (slice_index order i) ≡ e
    → (s : IsSweptSoFar edits order b i so_far room out)
    → (s.last ≤ edit_place e → IsSwept (picked edits (take i order)) b s.last so_far room out → IsSwept (picked edits (take i order) ++ e ∷ []) b (edit_place e) next room new)
    → IsSweptSoFar edits order b (i + 1) next room new
one_swept edits order b i e so_far next room out new lt is s step =
    let n : suc i ≡ i + 1 = omega arith in
    let rest : picked edits (drop i order) ≡ e ∷ picked edits (drop (i + 1) order) = rw (drop-cons order i 0 lt, is) (ap (λ (m : ℕ). e ∷ picked edits (drop m order)) n) in
    let done : picked edits (take (i + 1) order) ≡ picked edits (take i order) ++ e ∷ [] = rw (take_more order i 0 lt, map-append (numbered edits) (take i order) (slice_index order i ∷ []), is) refl in
    let later = subst (λ (es : List Edit). AllFrom s.last es) rest s.later in
    let by_place = subst (λ (es : List Edit). IsByPlace es) rest s.by_place in
    record {
      last = edit_place e;
      swept = rw done (step later.0 s.swept);
      later = by_place.0;
      by_place = by_place.1;
    }

pub past_swept : (edits : List Edit) (order b : List ℕ) (i : ℕ) (e : Edit) (so_far : Progress) (room out : List ℕ) → i < length order → numbered edits (slice_index order i) ≡ e → length b < edit_place e → IsSweptSoFar edits order b i so_far room out → IsSweptSoFar edits order b (i + 1) so_far room out
past_swept edits order b i e so_far room out lt is past s =
    let n : suc i ≡ i + 1 = omega arith in
    let rest : picked edits (drop i order) ≡ e ∷ picked edits (drop (i + 1) order) = rw (drop-cons order i 0 lt, is) (ap (λ (m : ℕ). e ∷ picked edits (drop m order)) n) in
    let done : picked edits (take (i + 1) order) ≡ picked edits (take i order) ++ e ∷ [] = rw (take_more order i 0 lt, map-append (numbered edits) (take i order) (slice_index order i ∷ []), is) refl in
    let later = subst (λ (es : List Edit). AllFrom s.last es) rest s.later in
    let by_place = subst (λ (es : List Edit). IsByPlace es) rest s.by_place in
    record {
      last = s.last;
      swept = rw done (swept_past (picked edits (take i order)) e b s.last so_far room out past s.swept);
      later = later.1;
      by_place = by_place.1;
    }

pub all_swept : (edits : List Edit) (b : List ℕ) (so_far : Progress) (room out : List ℕ) → IsSwept edits b (length b) so_far room out → IsWrittenSoFar room out so_far.len (edited b edits)
unfolding edited
all_swept edits b so_far room out s =
    let all : take (length b) b ≡ b = take_all (length b) b (omega arith) in
    rw all at s.written
