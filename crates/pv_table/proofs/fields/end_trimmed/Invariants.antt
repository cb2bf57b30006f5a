use Rattle.std.proofs.Common.{◌≡◌, ◌≤◌, length, take}
use Rattle.pv_table.specs.Fields.{end_trimmed}
use Rattle.pv_table.proofs.fields.end_trimmed.Given as goal

abbrev pub invariant-loop-end : goal.invariant-loop-end
invariant-loop-end l = (l.end ≤ length l.text) × (end_trimmed (take l.end l.text) ≡ end_trimmed l.text)

abbrev pub decreases-loop-end : goal.decreases-loop-end
decreases-loop-end l = l.end
