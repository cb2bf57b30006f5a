use Rattle.std.proofs.Common.{◌+◌, ap, ◌∙◌}
use Rattle.buf_pool.specs.Holders.{one_more_out}
use Rattle.buf_pool.proofs.Balance.{lends}
use Rattle.buf_pool.proofs.ledger.Ledger.lend.Goals as goal

pub split_seat-seat-requires : goal.split_seat-seat-requires
split_seat-seat-requires c =
    let i = c.self.invariant in
    let keeper = c.self.inside.keeper in
    (i.own, i.some_word, λ s balanced at. lends keeper.id keeper.me.0 s.views i.first balanced at)

pub invariant_of-self : goal.invariant_of-self
invariant_of-self c =
    let i = c.self.invariant in
    let e = c.split_seat-seat.ensures in
    record {
      own = e.0 ∙ i.own;
      some_word = i.some_word;
      first = e.1 ∙ i.first;
      empty = ap (λ me. me.1) e.2 ∙ i.empty;
      keeps = (i.keeps.0 + 1, ap (λ me. me.0) e.2 ∙ ap one_more_out i.keeps.1);
    }
