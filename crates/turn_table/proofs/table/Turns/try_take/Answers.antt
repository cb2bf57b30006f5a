use Rattle.std.proofs.Common.{rules, ◌∷◌, Some, None, arith, refl, sym, ap, ◌∙◌}
use Rattle.turn_table.specs.Steps.{Took}
use Rattle.turn_table.proofs.Rule.{takes_allowed, taken}
use Rattle.turn_table.proofs.table.Turns.try_take.Goals as goal
use Rattle.atomic_table.specs.Table.{rest}

pub fetch_or-found-requires : goal.fetch_or-found-requires
fetch_or-found-requires g c = (c.requires.own.0, let w = c.args.self.now.wide in let k = c.requires.cell in omega arith, takes_allowed _ _ _ _ _ _ _ _ c.requires.own.1 c.requires.free.1 c.requires.cell)

pub exchange-requires : goal.exchange-requires
exchange-requires g c = let e = c.fetch_or-found.ensures in let t : Took _ _ _ _ _ _ _ = e.2.0 (omega arith) (omega arith) in
    (search rules, (Some t.value, t.carried ∙ ap (λ l. (c.args.k, Some t.value) ∷ rest l) (sym t.carried)))

pub returns-clause-took : goal.returns-clause-took
returns-clause-took g c = let e = c.fetch_or-found.ensures in let t : Took _ _ _ _ _ _ _ = e.2.0 (omega arith) (omega arith) in let x = c.exchange.ensures in
    let r = taken _ g.C.TurnCell.stands _ _ _ c.args.pass.now.me c.fetch_or-found.new.seat.me c.exchange.new.seat.me.0 _ _ t c.requires.own.1 x.2 c.in-Some.is (ap (λ z. z.0) x.3) in
    record {
      cell = refl;
      holds = (ap (λ z. z.1) x.3 ∙ (ap (λ l. (c.args.k, None) ∷ rest l) t.carried ∙ ap (λ l. (c.args.k, None) ∷ l) c.requires.free.0), r.0);
      right = r.1.right;
      begins = r.1.begins;
      short = r.1.short;
      view = r.1.view;
    }
