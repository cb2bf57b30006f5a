-- The field CSeq, as a function of a text and the place where its value and the LWS before it begin.
use Rattle.std.specs.Prelude.{ℕ, ◌==◌, ◌^◌, List, length, Option, Some, None, nat_lt, if◌then◌else◌}
use Rattle.sip_words.specs.declared.bytes.Class.TheVariants.{Token}
use Rattle.sip_words.specs.Spans.{span, IsBetween}
use Rattle.sip_words.specs.Words.{◌>>=◌, word_end, lws_end, gap_end}
use Rattle.sip_words.specs.Numbers.{number_at}
use Rattle.sip_fields.specs.declared.cseq.CSeq.{CSeq}

unfoldable pub cseq_at : List ℕ → ℕ → Option CSeq
cseq_at text from = do
  n ← number_at 10 text (lws_end text from)
  if nat_lt n.0 (2 ^ 31)
      then (do
        method ← gap_end text n.1
        end ← word_end Token text method
        if lws_end text end == length text then Some record { number = n.0; method = span method end } else None)
      else None

-- the method lies between these places
pub record IsCSeqBetween (i j : ℕ) (c : CSeq) : Type 0 where
  pub method : IsBetween i j c.method
