-- Header fields of a text, read one after the other.
use Rattle.std.proofs.Common.{◌≡◌, ℕ, zero, suc, ◌+◌, ◌<◌, ◌≤◌, ◌&&◌, Bool, true, false, List, [], ◌∷◌, ◌++◌, length, refl, sym, ap, ◌∙◌, arith, Some, None, eqb, ltb, length-append}
use Rattle.std.specs.Prelude.{Option}
use Rattle.std.proofs.lemmas.Bool.Decides.{nat_tests}
use Rattle.sip_words.specs.Many.{many}
use Rattle.sip_words.proofs.ManyLaws.{with_front, starts, goes_on, fails, ends}
use Rattle.sip_scan.specs.declared.field.HeaderSpan.{HeaderSpan}
use Rattle.sip_scan.specs.Lines.{is_crlf}
use Rattle.sip_scan.specs.Field.{field_at, next_field, fields_at}
use Rattle.sip_scan.proofs.Turns.{fields_advance, field_next, field_wrong, field_done}
use Rattle.host_meaning.specs.Headers.{ends_fields}

-- the fields before this place are read; there is one exactly where it isn't the beginning
pub record Passed (text : List ℕ) (at : ℕ) (front : List HeaderSpan) : Type 0 where
  pub inside : at ≤ length text
  pub some : ltb 0 (length front) ≡ ltb 0 at
  pub rest : with_front front (many (length text) (next_field text) at) ≡ many (length text) (next_field text) 0

pub begins : (text : List ℕ) → Passed text 0 []
begins text = record { inside = omega arith; some = refl; rest = starts (many (length text) (next_field text) 0) }

pub goes : (text : List ℕ) (at : ℕ) (front : List HeaderSpan) (f : HeaderSpan) → Passed text at front → is_crlf text at ≡ false → field_at text at ≡ Some f
    → at < f.whole.to → f.whole.to ≤ length text → Passed text f.whole.to (front ++ f ∷ [])
goes text at front f p not_crlf e past inside = record {
  inside = inside;
  some = (let here : ltb 0 f.whole.to ≡ true = grind (arith, nat_tests) in let n = length-append front (f ∷ []) in let there : ltb 0 (length (front ++ f ∷ [])) ≡ true = grind (arith, nat_tests) in there ∙ sym here);
  rest = goes_on (length text) (next_field text) 0 at f.whole.to front f (fields_advance text) (field_next text at f not_crlf e) p.rest;
}

pub no_fields : (text : List ℕ) (at end : ℕ) (front : List HeaderSpan) → Passed text at front → is_crlf text at ≡ false → field_at text at ≡ None → ends_fields end (fields_at text 0) ≡ false
unfolding fields_at
no_fields text at end front p not_crlf e = rw (fails (length text) (next_field text) 0 at front (field_wrong text at not_crlf e) p.rest) refl

pub fields_end : (text : List ℕ) (at end : ℕ) (front : List HeaderSpan) → Passed text at front → is_crlf text at ≡ true → ends_fields end (fields_at text 0) ≡ (eqb at end && ltb 0 at)
unfolding fields_at
fields_end text at end front p at_crlf = rw (ends (length text) (next_field text) 0 at front (field_done text at at_crlf) p.rest, p.some) refl
