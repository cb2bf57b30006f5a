use Rattle.std.proofs.Common.{◌-◌, List, length}
use Rattle.sip_scan.specs.declared.field.HeaderSpan.{HeaderSpan}
use Rattle.sip_scan.proofs.Kept.{Seen}
use Rattle.sip_scan.proofs.fields_at.Given as goal

abbrev pub invariant-loop-at : goal.invariant-loop-at
invariant-loop-at l = (front : List HeaderSpan) × Seen l.text l.from l.at l.first.items l.count front

abbrev pub decreases-loop-at : goal.decreases-loop-at
decreases-loop-at l = length l.text - l.at
