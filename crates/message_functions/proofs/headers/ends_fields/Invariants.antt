use Rattle.std.proofs.Common.{◌-◌, List, length}
use Rattle.sip_scan.specs.declared.field.HeaderSpan.{HeaderSpan}
use Rattle.message_functions.proofs.HeaderTexts.{Passed}
use Rattle.message_functions.proofs.headers.ends_fields.Given as goal

abbrev pub invariant-loop-at : goal.invariant-loop-at
invariant-loop-at l = (front : List HeaderSpan) × Passed l.text l.at front

abbrev pub decreases-loop-at : goal.decreases-loop-at
decreases-loop-at l = length l.text - l.at
