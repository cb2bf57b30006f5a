-- The grammar of the value of CSeq (RFC 3261, sections 20.16 and 25.1).
use Rattle.std.specs.Prelude.{◌≡◌, ℕ, ◌+◌, ◌^◌, ◌<◌, ◌≤◌, List, ◌++◌, length, drop}
use Rattle.std.specs.Str.Parse.{digits_value}
use Rattle.sip_words.specs.declared.bytes.Class.TheVariants.{Token, Digit}
use Rattle.sip_words.specs.Spans.{span}
use Rattle.sip_words.specs.Grammar.{Blank, lws, IsWord}
use Rattle.sip_fields.specs.declared.cseq.CSeq.{CSeq}

pub record CSeqTree : Type 0 where
  pub lead : List Blank
  pub digits : List ℕ
  pub gap : List Blank
  pub method : List ℕ
  pub trail : List Blank

abbrev pub cseq : CSeqTree → List ℕ
cseq t = lws t.lead ++ (t.digits ++ (lws t.gap ++ (t.method ++ lws t.trail)))

pub record IsCSeq (t : CSeqTree) : Type 0 where
  pub digits : IsWord Digit t.digits
  pub few : length t.digits ≤ 10
  pub below : digits_value 10 t.digits < 2 ^ 31
  pub gap : 0 < length t.gap
  pub method : IsWord Token t.method

abbrev pub cseq_place : ℕ → CSeqTree → CSeq
cseq_place i t =
    let at = i + length (lws t.lead) + length t.digits + length (lws t.gap) in
    record { number = digits_value 10 t.digits; method = span at (at + length t.method) }

-- from i to the end of the text stands a value of CSeq, and c has its parts at their places
abbrev pub IsCSeqAt : List ℕ → ℕ → CSeq → Type 0
IsCSeqAt text i c = (t : CSeqTree) × IsCSeq t × (drop i text ≡ cseq t) × (c ≡ cseq_place i t)
