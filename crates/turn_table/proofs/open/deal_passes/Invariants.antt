use Rattle.std.proofs.Common.{◌≡◌, ◌+◌, ◌≤◌, ℕ, vec_len}
use Rattle.std.specs.Vec.{vec_capacity}
use mathlib.Core.Option.{some}
use lib.ListN.{get_elem?}
use Rattle.turn_table.specs.Views.{first_view}
use Rattle.turn_table.specs.Passes.{IsPass, HoldsNone}
use Rattle.turn_table.proofs.open.deal_passes.Given as goal

abbrev pub invariant-loop-made : goal.invariant-loop-made
invariant-loop-made g l = record {
  is_pass : IsPass l.shared.table_id l.shared.key l.first;
  is_free : HoldsNone l.first;
  view : l.first.me.0 ≡ first_view l.shared.key 0 l.made;
  others : (i : ℕ) (p : _) → get_elem? l.passes.items i ≡ some p → IsPass l.shared.table_id l.shared.key p × HoldsNone p × (p.me.0 ≡ first_view l.shared.key (i + 1) 0);
  count : vec_len l.passes + 1 ≡ l.made;
  room : l.workers ≤ vec_capacity l.passes;
}
