-- Max-Forwards with another number: a field that reads.
use Rattle.std.proofs.Common.{◌≡◌, ℕ, ◌+◌, ◌<◌, ◌≤◌, ◌==◌, true, List, [], ◌∷◌, ◌++◌, length, take, drop, refl, sym, ap, ◌∙◌, subst, arith, append_assoc, length-append, Some}
use Rattle.std.specs.Prelude.{nat_lt, codes}
use Rattle.std.specs.Fmt.{decimal}
use Rattle.std.specs.Str.Parse.{digits_value}
use Rattle.std.proofs.lemmas.Bool.{eq-eqb, eqb-true, lt-ltb, ltb-true}
use Rattle.std.proofs.lemmas.Fmt.{decimal_is_IsNumeral, length-decimal-le, decimal_nonempty}
use Rattle.std.proofs.lemmas.List.{append-nil, drop_all}
use Rattle.std.proofs.lemmas.Option.{cond_some}
use Rattle.sip_words.specs.declared.bytes.Class.TheVariants.{Digit}
use Rattle.sip_words.specs.declared.separators.Surroundings.TheVariants.{Field}
use Rattle.sip_words.specs.Bytes.{has}
use Rattle.sip_words.specs.Spans.{span}
use Rattle.sip_words.specs.Words.{lws_end}
use Rattle.sip_words.specs.Numbers.{number_at}
use Rattle.sip_words.specs.Grammar.{Blank, Space, lws, IsWord}
use Rattle.sip_words.proofs.Steps.{bind_some}
use Rattle.sip_words.proofs.Pieces.{behind, run_again, lws_again, number_again, digits_solid}
use Rattle.sip_words.proofs.Again.{stops_digit}
use Rattle.sip_words.proofs.Takes.{lws_takes, number_takes}
use Rattle.sip_fields.specs.Parts.{Last}
use Rattle.sip_fields.proofs.Runs.{lws_last}
use Rattle.sip_fields.proofs.Ports.{stops_tail}
use Rattle.sip_scan.specs.declared.field.Kind.TheVariants as kind
use Rattle.sip_scan.specs.Field.{full_name, kind_of}
use Rattle.sip_scan.specs.Grammar.{crlf, FieldTree, field, IsFieldTree, field_place}
use Rattle.sip_msg.specs.Values.{whole_number, hops_at}
use Rattle.sip_build.specs.Forwarded.{number_in}
use Rattle.sip_build.proofs.OwnVia.{decimal_digits}
use Rattle.sip_build.proofs.Twins.{value_text, field_value}
use Rattle.sip_laws.proofs.Folded.{Folded, folded_both, folded_line, folded_lws, field_with, is_field_with, value_with, text_with, name_with, field_of, is_field_of, value_of_field, text_of_field}
use Rattle.sip_laws.proofs.StartAgain.{line_digits}
use Rattle.sip_laws.proofs.StampedVia.{old_field}
use Rattle.sip_laws.proofs.Hops.{WrittenField}

-- a number that LWS may stand round
pub record NumberText (text : List ℕ) (n : ℕ) : Type 0 where
  pub lead : List Blank
  pub digits : List ℕ
  pub trail : List Blank
  pub text_is : text ≡ lws lead ++ (digits ++ lws trail)
  pub word : IsWord Digit digits
  pub small : n < 256

number_text : (text : List ℕ) (n : ℕ) → hops_at text 0 ≡ Some n → NumberText text n
unfolding hops_at whole_number
number_text text n h =
    let w = bind_some (whole_number 3 text 0) _ n h in
    let s = cond_some (nat_lt w.0 256) w.0 n w.2 in
    let lead = lws_takes text 0 in
    let r = bind_some (number_at 3 text (lws_end text 0)) _ w.0 w.1 in
    let last = cond_some (lws_end text r.0.1 == length text) r.0.0 w.0 r.2 in
    let d = number_takes 3 text (lws_end text 0) r.0 r.1 in
    let e = lws_takes text r.0.1 in
    let end = eqb-true (lws_end text r.0.1) (length text) last.0 in
    let nothing : drop (lws_end text r.0.1) text ≡ [] = drop_all (lws_end text r.0.1) text (omega arith) in
    let trail : drop r.0.1 text ≡ lws e.0 = e.1.whole ∙ ap (λ xs. lws e.0 ++ xs) nothing ∙ append-nil (lws e.0) in
    let low = ltb-true w.0 256 s.0 in
    record {
      lead = lead.0;
      digits = d.0;
      trail = e.0;
      text_is = lead.1.whole ∙ ap (λ xs. lws lead.0 ++ xs) (d.1.whole ∙ ap (λ xs. d.0 ++ xs) trail);
      word = d.2;
      small = subst (λ (k : ℕ). k < 256) s.1 low;
    }

number_place : (text : List ℕ) (i : ℕ) (lead : List Blank) (digits : List ℕ) (trail : List Blank) → drop i text ≡ lws lead ++ (digits ++ lws trail) → IsWord Digit digits → number_in text i ≡ span (i + length (lws lead)) (i + length (lws lead) + length digits)
unfolding number_in
number_place text i lead digits trail h word =
    let start = lws_again text i lead (digits ++ lws trail) h (digits_solid digits (lws trail) word) in
    let at = behind text i (lws lead) (digits ++ lws trail) h in
    let run = run_again Digit text (i + length (lws lead)) digits (lws trail) at word.all (stops_digit Field (lws trail) (stops_tail (Last trail))) in
    rw (start, run) refl

hops_again : (lead : List Blank) (digits : List ℕ) (trail : List Blank) (n : ℕ) → IsWord Digit digits → length digits ≤ 3 → digits_value 10 digits ≡ n → n < 256 → hops_at (lws lead ++ (digits ++ lws trail)) 0 ≡ Some n
unfolding hops_at whole_number
hops_again lead digits trail n word few value small =
    let text = lws lead ++ (digits ++ lws trail) in
    let at_0 : drop 0 text ≡ lws lead ++ (digits ++ lws trail) = refl in
    let start = lws_again text 0 lead (digits ++ lws trail) at_0 (digits_solid digits (lws trail) word) in
    let at_1 = behind text 0 (lws lead) (digits ++ lws trail) at_0 in
    let number = number_again 3 text (0 + length (lws lead)) digits (lws trail) at_1 word (stops_digit Field (lws trail) (stops_tail (Last trail))) few in
    let at_2 = behind text (0 + length (lws lead)) digits (lws trail) at_1 in
    let last = lws_last text (0 + length (lws lead) + length digits) trail (omega (arith, length-append (lws lead) (digits ++ lws trail), length-append digits (lws trail))) at_2 in
    let same : (length text == length text) ≡ true = eq-eqb (length text) (length text) refl in
    let below : nat_lt n 256 ≡ true = lt-ltb n 256 small in
    rw (start, number, last, same, value, below) refl

-- a number up to 255 in digits
record Digits (n : ℕ) : Type 0 where
  word : IsWord Digit (decimal n)
  few : length (decimal n) ≤ 3
  value : digits_value 10 (decimal n) ≡ n

digits_of : (n : ℕ) → n < 256 → Digits n
digits_of n small = record {
  word = record { some = decimal_nonempty n (omega arith); all = decimal_digits n (omega arith) };
  few = length-decimal-le 3 n (omega arith) (omega arith) (omega arith);
  value = (decimal_is_IsNumeral n (omega arith)).1;
}

-- the field with another number in the place of the old one
pub record HopsField (b : List ℕ) (q : ℕ) (here : FieldTree) (n : ℕ) : Type 0 where
  pub new : FieldTree
  pub is : IsFieldTree new
  pub name : new.name ≡ here.name
  pub front : List ℕ
  pub digits : List ℕ
  pub back : List ℕ
  pub whole : field here ≡ front ++ (digits ++ back)
  pub some : 0 < length digits
  pub at : number_in (take (field_place q here).value.to b) (field_place q here).value.from ≡ span (q + length front) (q + length front + length digits)
  pub text : field new ≡ front ++ (decimal n ++ back)
  pub reads : hops_at (value_text new) 0 ≡ Some n

old_pieces : (nm gap l d t n : List ℕ) → nm ++ (gap ++ (58 ∷ ((l ++ (d ++ t)) ++ n))) ≡ (nm ++ (gap ++ (58 ∷ l))) ++ (d ++ (t ++ n))
old_pieces nm gap l d t n = simp append_assoc

-- one less of a number that is read is below 256 too
pub hops_field_of : (b front rest : List ℕ) (here : FieldTree) (old n : ℕ) → b ≡ front ++ (field here ++ rest) → IsFieldTree here → hops_at (value_text here) 0 ≡ Some old → (old < 256 → n < 256) → HopsField b (length front) here n
hops_field_of b front rest here old n e is reads less =
    let q = length front in
    let f = field_place q here in
    let val = field_value b front rest here e in
    let t = number_text (value_text here) old reads in
    let d = digits_of n (less t.small) in
    let text = take f.value.to b in
    let place = number_place text f.value.from t.lead t.digits t.trail (val.0 ∙ t.text_is) t.word in
    let h = here.name ++ (here.gap ++ (58 ∷ lws t.lead)) in
    let h_len : length h ≡ length here.name + (length here.gap + (1 + length (lws t.lead))) = omega (arith, length-append here.name (here.gap ++ (58 ∷ lws t.lead)), length-append here.gap (58 ∷ lws t.lead)) in
    let from : f.value.from + length (lws t.lead) ≡ q + length h = omega (arith, h_len) in
    let folded = folded_both (folded_lws t.lead) (folded_both (folded_line (decimal n) (line_digits (decimal n) d.word)) (folded_lws t.trail)) in
    let new = field_with here folded in
    record {
      new = new;
      is = is_field_with here folded is;
      name = name_with here folded;
      front = h;
      digits = t.digits;
      back = lws t.trail ++ crlf;
      whole = old_field here is (lws t.lead ++ (t.digits ++ lws t.trail)) t.text_is ∙ old_pieces here.name here.gap (lws t.lead) t.digits (lws t.trail) crlf;
      some = t.word.some;
      at = place ∙ ap (λ (k : ℕ). span k (k + length t.digits)) from;
      text = text_with here folded ∙ old_pieces here.name here.gap (lws t.lead) (decimal n) (lws t.trail) crlf;
      reads = ap (λ (x : List ℕ). hops_at x 0) (value_with here folded) ∙ hops_again t.lead (decimal n) t.trail n d.word d.few d.value (less t.small);
    }

-- a field that is added
hops_value : (n : ℕ) → n < 256 → Folded (32 ∷ decimal n)
hops_value n small = folded_both (folded_lws (Space ∷ [])) (folded_line (decimal n) (line_digits (decimal n) (digits_of n small).word))

pub added_hops : (n : ℕ) → n < 256 → FieldTree
added_hops n small = field_of (codes "Max-Forwards") (hops_value n small)

pub is_added : (n : ℕ) (small : n < 256) → WrittenField kind.MaxForwards (codes "Max-Forwards") (32 ∷ decimal n) (added_hops n small)
unfolding added_hops field_of kind_of full_name has
is_added n small = record { tag = refl; is = is_field_of (codes "Max-Forwards") (hops_value n small) (record { some = omega arith; all = (refl, (refl, (refl, (refl, (refl, (refl, (refl, (refl, (refl, (refl, (refl, (refl, tt)))))))))))) }); value = value_of_field (codes "Max-Forwards") (hops_value n small); text = text_of_field (codes "Max-Forwards") (hops_value n small) }

pub added_reads : (n : ℕ) (small : n < 256) → hops_at (value_text (added_hops n small)) 0 ≡ Some n
added_reads n small =
    let d = digits_of n small in
    ap (λ (x : List ℕ). hops_at x 0) (is_added n small).value ∙ ap (λ (x : List ℕ). hops_at (32 ∷ x) 0) (sym (append-nil (decimal n))) ∙ hops_again (Space ∷ []) (decimal n) [] n d.word d.few d.value small
