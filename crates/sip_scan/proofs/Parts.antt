-- The parts of a field lie within the text.
use Rattle.std.proofs.Common.{ℕ, List, arith}
use Rattle.std.specs.Prelude.{All}
use Rattle.sip_words.specs.Spans.{IsWithin}
use Rattle.sip_scan.specs.declared.field.HeaderSpan.{HeaderSpan}
use Rattle.sip_scan.specs.Field.{IsField}

pub name_within : (text : List ℕ) (f : HeaderSpan) → IsField text f → IsWithin text f.name
name_within text f is = record { order = is.name; end = omega (arith, is.colon, is.value, is.end, is.within) }

pub value_within : (text : List ℕ) (f : HeaderSpan) → IsField text f → IsWithin text f.value
value_within text f is = record { order = is.value; end = omega (arith, is.end, is.within) }

pub whole_within : (text : List ℕ) (f : HeaderSpan) → IsField text f → IsWithin text f.whole
whole_within text f is = record { order = omega (arith, is.name_first, is.name, is.colon, is.value, is.end); end = is.within }

pub values_within : (text : List ℕ) (fs : List HeaderSpan) → All (IsField text) fs → All (λ f. IsWithin text f.value) fs
values_within text fs each = λ k d lt. value_within text _ (each k d lt)
