use Rattle.std.proofs.Common.{ℕ, suc, ◌-◌, length, Some, None}
use Rattle.std.specs.Prelude.{List, Option}
use Rattle.message_functions.proofs.RouteValues.{Reading}
use Rattle.message_functions.proofs.routing.push_values.Given as goal

abbrev pub invariant-loop-next : goal.invariant-loop-next
invariant-loop-next l = (n : ℕ) × Reading l.b l.field l.initial.values.items l.values.items l.before l.next n

-- the bytes from the next value on
abbrev left : ℕ → Option ℕ → ℕ
left end None = 0
left end (Some place) = suc end - place

abbrev pub decreases-loop-next : goal.decreases-loop-next
decreases-loop-next l = left l.field.value.to l.next
