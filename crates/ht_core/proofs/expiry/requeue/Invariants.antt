use Rattle.std.proofs.Common.{◌≡◌, ◌+◌, ◌*◌, ◌<◌, ◌≤◌, Some, length, ℕ}
use Rattle.ht_core.specs.Queues.{IsQueued}
use Rattle.ht_core.specs.Held.{HasRoom, due_at}
use Rattle.ht_core.proofs.expiry.requeue.Given as goal

-- the places so far are queued
abbrev pub invariant-loop-place : goal.invariant-loop-place
invariant-loop-place l = record {
  queued : (place moment : ℕ) → place < l.place → due_at l.items.entries place ≡ Some moment → IsQueued l.dues.places place moment;
  few : length l.dues.places ≤ l.place;
  room : HasRoom l.items.entries l.dues;
}
