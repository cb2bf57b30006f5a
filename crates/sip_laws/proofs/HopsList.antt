-- The fields of a message that is forwarded: its Max-Forwards is one less, or a field is added behind all others.
use Rattle.std.proofs.Common.{◌≡◌, ℕ, suc, ◌+◌, ◌<◌, ◌≤◌, true, false, List, [], ◌∷◌, ◌++◌, length, take, refl, sym, ap, ◌∙◌, subst, arith, append_assoc, length-append, Some}
use Rattle.std.specs.List.{find, AllByRecursion}
use Rattle.std.specs.Fmt.{decimal}
use Rattle.sip_words.specs.declared.Span.{Span}
use Rattle.sip_scan.specs.declared.field.HeaderSpan.{HeaderSpan}
use Rattle.sip_scan.specs.declared.field.Kind.{Kind}
use Rattle.sip_scan.specs.declared.field.Kind.TheVariants as kind
use Rattle.sip_scan.specs.Field.{is_same_kind, kind_of}
use Rattle.sip_scan.specs.Grammar.{FieldTree, field, IsFieldTree, field_place, fields, field_places}
use Rattle.sip_msg.specs.Fields.{is_of}
use Rattle.sip_msg.specs.Values.{hops_at}
use Rattle.msg_edits.specs.declared.parts.Edit.{Edit}
use Rattle.msg_edits.specs.Edited.{edited_from}
use Rattle.sip_build.specs.Forwarded.{replaced, number_in}
use Rattle.sip_build.proofs.Spelt.{fields_append}
use Rattle.sip_build.proofs.Twins.{value_text, split}
use Rattle.sip_laws.proofs.Trees.{is_named, all_named, ListReads}
use Rattle.sip_laws.proofs.Hops.{no_list}
use Rattle.sip_laws.proofs.Relaying.{all_behind, find_behind, named_behind, named_here, none_named, found_is, other_kind}
use Rattle.sip_laws.proofs.Around.{five, named_swap, all_swap}
use Rattle.sip_laws.proofs.HopsField.{hops_field_of}
use Rattle.sip_laws.proofs.Groups.{QuietAt, quiet_piece, quiet_below, quiet_above, replaced_in}

-- a list of fields after edits that change Max-Forwards alone
pub record HoppedList (edits : List Edit) (i : ℕ) (ts : List FieldTree) : Type 0 where
  pub new : List FieldTree
  pub text : edited_from edits i (fields ts) ≡ fields new
  pub are : AllByRecursion IsFieldTree new
  pub lists : AllByRecursion ListReads new
  pub same : (k : Kind) → is_same_kind k kind.MaxForwards ≡ false → all_named k new ≡ all_named k ts
  pub number : length (all_named kind.MaxForwards new) ≡ length (all_named kind.MaxForwards ts)
  pub count : length new ≡ length ts

-- one in which Max-Forwards stands
pub record Hopped (b : List ℕ) (i : ℕ) (ts : List FieldTree) (f : HeaderSpan) (n : ℕ) : Type 0 where
  pub list : HoppedList (replaced (number_in (take f.value.to b) f.value.from) (decimal n)) i ts
  pub field : FieldTree
  pub is_first : find (is_named kind.MaxForwards) list.new ≡ Some field
  pub reads : hops_at (value_text field) 0 ≡ Some n
  pub low : (k : ℕ) → k < i → QuietAt (replaced (number_in (take f.value.to b) f.value.from) (decimal n)) k
  pub high : (k : ℕ) → i + length (fields ts) ≤ k → QuietAt (replaced (number_in (take f.value.to b) f.value.from) (decimal n)) k

in_two : (a f d g c : List ℕ) → a ++ ((f ++ (d ++ g)) ++ c) ≡ (a ++ f) ++ (d ++ (g ++ c))
in_two a f d g c = simp append_assoc

pub hopped : (b pre last : List ℕ) (i : ℕ) (ts : List FieldTree) (f : HeaderSpan) (old n : ℕ) → i ≡ length pre → b ≡ pre ++ (fields ts ++ last) → AllByRecursion IsFieldTree ts → AllByRecursion ListReads ts → find (is_of kind.MaxForwards) (field_places i ts) ≡ Some f
    → ((t : FieldTree) → find (is_named kind.MaxForwards) ts ≡ Some t → hops_at (value_text t) 0 ≡ Some old) → (old < 256 → n < 256) → Hopped b i ts f n
hopped b pre last i ts f old n len e are lists is reads less =
    let sp = split (is_of kind.MaxForwards) i ts f is in
    let before = sp.before in
    let here = sp.here in
    let after = sp.after in
    let q0 = i + length (fields before) in
    let front = pre ++ fields before in
    let at : q0 ≡ length front = omega (arith, len, length-append pre (fields before)) in
    let place : f ≡ field_place (length front) here = sp.place ∙ ap (λ (k : ℕ). field_place k here) at in
    let named : is_named kind.MaxForwards here ≡ true = sym (named_here kind.MaxForwards q0 here) ∙ ap (λ (x : HeaderSpan). is_of kind.MaxForwards x) (sym sp.place) ∙ found_is kind.MaxForwards (field_places i ts) f is in
    let none = none_named kind.MaxForwards i before sp.none in
    let found : find (is_named kind.MaxForwards) ts ≡ Some here = ap (λ (z : List FieldTree). find (is_named kind.MaxForwards) z) sp.whole ∙ find_behind kind.MaxForwards before (here ∷ after) none ∙ rw named refl in
    let is_here = (all_behind IsFieldTree before here after (subst (λ (z : List FieldTree). AllByRecursion IsFieldTree z) sp.whole are)).0 in
    let all_text : fields ts ≡ fields before ++ (field here ++ fields after) = ap fields sp.whole ∙ fields_append before (here ∷ after) in
    let text : b ≡ front ++ (field here ++ (fields after ++ last)) = e ∙ ap (λ (z : List ℕ). pre ++ (z ++ last)) all_text ∙ five pre (fields before) (field here) (fields after) last in
    let h = hops_field_of b front (fields after ++ last) here old n text is_here (reads here found) less in
    let at_f = number_in (take f.value.to b) f.value.from in
    let at_is : at_f ≡ Rattle.sip_words.specs.Spans.span (length front + length h.front) (length front + length h.front + length h.digits) = ap (λ (x : HeaderSpan). number_in (take x.value.to b) x.value.from) place ∙ h.at in
    let from : at_f.from ≡ length front + length h.front = ap (λ (x : Span). x.from) at_is in
    let to : at_f.to ≡ length front + length h.front + length h.digits = ap (λ (x : Span). x.to) at_is in
    let some = h.some in
    let edits = replaced at_f (decimal n) in
    let a = fields before ++ h.front in
    let a_len = length-append (fields before) h.front in
    let whole : fields ts ≡ a ++ (h.digits ++ (h.back ++ fields after)) = all_text ∙ ap (λ (z : List ℕ). fields before ++ (z ++ fields after)) h.whole ∙ in_two (fields before) h.front h.digits h.back (fields after) in
    let at_2 : at_f ≡ Rattle.sip_words.specs.Spans.span (i + length a) (i + length a + length h.digits) = at_is ∙ ap (λ (k : ℕ). Rattle.sip_words.specs.Spans.span k (k + length h.digits)) (omega (arith, at, a_len)) in
    let us = before ++ (h.new ∷ after) in
    let done : edited_from edits i (fields ts) ≡ fields us = ap (λ (z : List ℕ). edited_from edits i z) whole ∙ replaced_in at_f (decimal n) i a h.digits (h.back ++ fields after) at_2 some ∙ sym (in_two (fields before) h.front (decimal n) h.back (fields after)) ∙ ap (λ (z : List ℕ). fields before ++ (z ++ fields after)) (sym h.text) ∙ sym (fields_append before (h.new ∷ after)) in
    let new_named : is_named kind.MaxForwards h.new ≡ true = ap (λ (x : List ℕ). is_same_kind kind.MaxForwards (kind_of x)) h.name ∙ named in
    let size : length (fields ts) ≡ length a + (length h.digits + length (h.back ++ fields after)) = ap (λ (z : List ℕ). length z) whole ∙ omega (arith, length-append a (h.digits ++ (h.back ++ fields after)), length-append h.digits (h.back ++ fields after)) in
    let old_kept : all_named kind.MaxForwards ts ≡ here ∷ all_named kind.MaxForwards after = ap (λ (z : List FieldTree). all_named kind.MaxForwards z) sp.whole ∙ named_behind kind.MaxForwards before (here ∷ after) none ∙ rw named refl in
    let new_kept : all_named kind.MaxForwards us ≡ h.new ∷ all_named kind.MaxForwards after = named_behind kind.MaxForwards before (h.new ∷ after) none ∙ rw new_named refl in
    let whole_length : length ts ≡ length before + suc (length after) = ap (λ (z : List FieldTree). length z) sp.whole ∙ length-append before (here ∷ after) in
    record {
      list = record {
        new = us;
        text = done;
        are = all_swap IsFieldTree before here (h.new ∷ []) after (h.is, tt) (subst (λ (z : List FieldTree). AllByRecursion IsFieldTree z) sp.whole are);
        lists = all_swap ListReads before here (h.new ∷ []) after (no_list kind.MaxForwards h.new new_named refl refl, tt) (subst (λ (z : List FieldTree). AllByRecursion ListReads z) sp.whole lists);
        same = λ k ne.
            let off = other_kind k kind.MaxForwards h.new new_named ne in
            named_swap k before here (h.new ∷ []) after (other_kind k kind.MaxForwards here named ne) (rw off refl) ∙ ap (λ (z : List FieldTree). all_named k z) (sym sp.whole);
        number = ap (λ (z : List FieldTree). length z) new_kept ∙ sym (ap (λ (z : List FieldTree). length z) old_kept);
        count = omega (arith, whole_length, length-append before (h.new ∷ after));
      };
      field = h.new;
      is_first = find_behind kind.MaxForwards before (h.new ∷ after) none ∙ rw new_named refl;
      reads = h.reads;
      low = λ k lt. quiet_below at_f (decimal n) k (omega (arith, lt, from, at, len));
      high = λ k le. quiet_above at_f (decimal n) k (omega (arith, from, to, some)) (omega (arith, le, from, to, at, a_len, size));
    }

-- one at which nothing is done
abbrev pub unhopped : (edits : List Edit) (i : ℕ) (ts : List FieldTree) → ((k : ℕ) → i ≤ k → k < i + length (fields ts) → QuietAt edits k) → AllByRecursion IsFieldTree ts → AllByRecursion ListReads ts → HoppedList edits i ts
unhopped edits i ts quiet are lists = record {
  new = ts;
  text = quiet_piece edits i (fields ts) quiet;
  are = are;
  lists = lists;
  same = λ k ne. refl;
  number = refl;
  count = refl;
}
