use Rattle.std.proofs.Common.{◌≡◌, ◌≤◌, ◌-◌, length, ℕ, List}
use Rattle.sip_fields.specs.NameAddr.{names_end}
use Rattle.sip_fields.proofs.name_addr.names_end.Given as goal

pub record Seen (text : List ℕ) (from at : ℕ) : Type 0 where
  pub low : from ≤ at
  pub high : at ≤ length text
  pub same : names_end text at ≡ names_end text from

abbrev pub invariant-loop-name_end : goal.invariant-loop-name_end
invariant-loop-name_end l = Seen l.text l.from l.end

abbrev pub decreases-loop-name_end : goal.decreases-loop-name_end
decreases-loop-name_end l = length l.text - l.end
