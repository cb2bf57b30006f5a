use Rattle.std.proofs.Common.{◌≡◌, ◌+◌, ◌++◌, map, length, vec_len}
use Rattle.claim_words.specs.Claims.{IsDesk, AreNumbered}
use Rattle.claim_words.proofs.ends.take_passes.Given as goal

abbrev pub invariant-loop-passes : goal.invariant-loop-passes
invariant-loop-passes l = record {
  is : IsDesk l.words.table_id 0 l.first;
  others : AreNumbered (λ p. p.seat) l.words.table_id (length l.first.me.0.got + 1) l.passes.items;
  mine : l.first.me.0.mine ≡ l.initial.first.me.0.mine;
  own : l.first.me.0.got ++ map (λ p. p.seat.me.0.mine) l.passes.items ≡ l.initial.first.me.0.got ++ map (λ p. p.seat.me.0.mine) l.initial.passes.items;
}

abbrev pub decreases-loop-passes : goal.decreases-loop-passes
decreases-loop-passes l = vec_len l.passes
