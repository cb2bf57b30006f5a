use Rattle.std.proofs.Common.{rules, ◌++◌, [], ◌∷◌, Some, arith, sym, ap, ◌∙◌, subst, lit<}
use Rattle.histories.specs.Records.{records}
use Rattle.turn_table.specs.Lists.{list_at}
use Rattle.turn_table.proofs.Rule.{gives_allowed}
use Rattle.atomic_table.specs.Table.{rest}
use Rattle.turn_table.proofs.table.Turns.give_telling.Goals as goal

pub fetch_add-requires : goal.fetch_add-requires
fetch_add-requires g c = let e = c.exchange-old.ensures.3 in let k = c.args.turn.cell in (
  search rules,
  let w = c.args.self.now.wide in let l = c.requires.cell in omega arith,
  gives_allowed _ _ g.C.TurnCell.stands (lit< tt) c.args.self.now.table.shared.key _ _ k c.exchange-old.new.seat.me.0 c.args.turn.value g.W.Tells.told c.exchange-old.new.seat.me.1
      (ap (λ z. z.1) e ∙ ap (λ l. (k, Some c.args.turn.value) ∷ rest l) c.requires.holds.0)
      (ap (λ z. z.0.fixed) e ∙ c.requires.own.1) (ap (λ z. z.0.holds) e ∙ c.requires.holds.1)
      (c.requires.stands.0, c.requires.stands.1, subst (λ z. g.C.TurnCell.stands c.args.self.now.table.shared.key k c.args.turn.value (records (list_at z.0.seen k) ++ c.requires.stands.0 ∷ [])) (sym e) c.requires.stands.2),
)
