use Rattle.std.proofs.Common.{◌≡◌, ◌+◌, ◌++◌, map, length, vec_len}
use Rattle.turn_table.specs.Passes.{IsPass, HoldsNone, Follow, own_of}
use Rattle.turn_table.proofs.close.take_in.Given as goal

abbrev pub invariant-loop-passes : goal.invariant-loop-passes
invariant-loop-passes g l = record {
  is_pass : IsPass l.shared.table_id l.shared.key l.first;
  is_free : HoldsNone l.first;
  made : l.first.me.0.made ≡ l.initial.first.me.0.made;
  others : Follow l.shared.table_id l.shared.key (length l.first.me.0.got + 1) l.passes.items;
  mine : l.first.me.0.mine ≡ l.initial.first.me.0.mine;
  own : l.first.me.0.got ++ map own_of l.passes.items ≡ map own_of l.initial.passes.items;
  count : length l.first.me.0.got + vec_len l.passes ≡ vec_len l.initial.passes;
}

abbrev pub decreases-loop-passes : goal.decreases-loop-passes
decreases-loop-passes g l = vec_len l.passes
