use Rattle.std.proofs.Common.{◌↔◌, ℕ, ◌<◌, ◌≤◌, ◌*◌, length}
use Rattle.slot_lists.specs.Bits.{Has}
use Rattle.slot_lists.proofs.free.FreeSlots.new.Given as goal

abbrev pub invariant-loop-slot : goal.invariant-loop-slot
invariant-loop-slot l = record {
  room : l.slots ≤ 64 * length l.free;
  free : (slot : ℕ) → Has l.free slot ↔ (slot < l.slot);
}
