use Rattle.std.proofs.Common.{refl, sym, ap, ◌∙◌}
use Rattle.atomic_table.specs.Table.{keeps}
use Rattle.buf_pool.proofs.Balance.{returns, looks}
use Rattle.buf_pool.proofs.ledger.Ledger.take_back.Goals as goal

pub join_seat-requires : goal.join_seat-requires
join_seat-requires c =
    let i = c.self.invariant in
    let keeper = c.self.inside.keeper in
    let seat = c.share.inside.seat in
    let name = ap (λ ledger. ledger.name) c.self.view_is in (
      i.own,
      c.share.view_is ∙ (c.requires ∙ (sym name ∙ i.own)),
      ap (λ me. me.1) c.share.invariant,
      i.some_word,
      λ s balanced at apart there. returns keeper.id keeper.me.0 seat.id seat.me.0 s.views i.first (ap (λ me. me.0) c.share.invariant) balanced at apart there,
    )

pub load-requires : goal.load-requires
load-requires c =
    let i = c.self.invariant in
    let e = c.join_seat.ensures in
    let seat = c.join_seat.new.seat in (
      e.0 ∙ i.own,
      i.some_word,
      λ s balanced same at small.
          let look = looks seat.id seat.me.0 s.views (e.1 ∙ i.first) balanced at in
          (seat.me.0, keeps, tt, look.0, (refl, look.1)),
    )
