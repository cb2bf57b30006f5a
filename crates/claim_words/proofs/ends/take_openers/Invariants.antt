use Rattle.std.proofs.Common.{◌≡◌, ◌+◌, ◌++◌, map, length, vec_len}
use Rattle.claim_words.specs.Claims.{IsDesk, AreNumbered}
use Rattle.claim_words.proofs.ends.take_openers.Given as goal

abbrev pub invariant-loop-openers : goal.invariant-loop-openers
invariant-loop-openers l = record {
  is : IsDesk l.words.table_id 0 l.first;
  others : AreNumbered (λ p. p.seat) l.words.table_id (length l.first.me.0.got + 1) l.openers.items;
  mine : l.first.me.0.mine ≡ l.initial.first.me.0.mine;
  own : l.first.me.0.got ++ map (λ p. p.seat.me.0.mine) l.openers.items ≡ l.initial.first.me.0.got ++ map (λ p. p.seat.me.0.mine) l.initial.openers.items;
}

abbrev pub decreases-loop-openers : goal.decreases-loop-openers
decreases-loop-openers l = vec_len l.openers
