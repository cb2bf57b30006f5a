use Rattle.std.proofs.Common.{ℕ, ◌≤◌, ◌-◌, Option, Some, None, MatchOption, length}
use Rattle.server_key.specs.Keys.{shown_key}
use Rattle.slot_lists.specs.Lists.{IsIn}
use Rattle.txn_store.specs.Places.{HoldsKey, IsHeldNowhere}
use Rattle.txn_store.proofs.hashed.holder.Given as goal

abbrev left : ℕ → Option ℕ → ℕ
left slots None = 0
left slots (Some at) = slots - at

abbrev pub invariant-loop-next : goal.invariant-loop-next
invariant-loop-next l = MatchOption l.next (IsHeldNowhere l.places (shown_key l.key))
    (λ at. IsIn l.lists.places at l.list × ((slot generation : ℕ) → HoldsKey l.places slot generation (shown_key l.key) → at ≤ slot))

abbrev pub decreases-loop-next : goal.decreases-loop-next
decreases-loop-next l = left (length l.places) l.next
