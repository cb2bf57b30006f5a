use Rattle.std.proofs.Common.{◌≡◌, ◌≤◌, ◌-◌, length, ℕ, List}
use Rattle.sip_words.specs.Words.{lws_end}
use Rattle.sip_words.proofs.words.lws_end.Given as goal

pub record Seen (text : List ℕ) (from at : ℕ) : Type 0 where
  pub low : from ≤ at
  pub high : at ≤ length text
  pub same : lws_end text at ≡ lws_end text from

abbrev pub invariant-loop-from : goal.invariant-loop-from
invariant-loop-from l = Seen l.text l.from l.end

abbrev pub decreases-loop-from : goal.decreases-loop-from
decreases-loop-from l = length l.text - l.end
