use Rattle.std.proofs.Common.{◌≡◌, ◌≤◌, ◌-◌, List, ℕ, length}
use Rattle.sip_words.specs.Many.{many}
use Rattle.sip_words.proofs.ManyLaws.{with_front}
use Rattle.sip_scan.specs.Lines.{next_line}
use Rattle.sip_scan.proofs.lines.lines_at.Given as goal

abbrev pub invariant-loop-at : goal.invariant-loop-at
invariant-loop-at l = (front : List ℕ) × (l.from ≤ l.at) × (l.at ≤ length l.text) × (with_front front (many (length l.text) (next_line l.text) l.at) ≡ many (length l.text) (next_line l.text) l.from)

abbrev pub decreases-loop-at : goal.decreases-loop-at
decreases-loop-at l = length l.text - l.at
