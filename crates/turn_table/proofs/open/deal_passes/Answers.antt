use Rattle.std.proofs.Common.{rules, ◌≡◌, ◌+◌, ℕ, arith, sym, ap, ◌∙◌, subst, []}
use mathlib.Core.Option.{some}
use lib.ListN.{get_elem?}
use Rattle.turn_table.specs.Views.{first_view, view_after_deal, dealt_view}
use Rattle.turn_table.specs.Passes.{IsPass, HoldsNone}
use Rattle.turn_table.proofs.Passes.{splits_as, one_more}
use Rattle.turn_table.proofs.open.deal_passes.Goals as goal

pub split_seat-next-requires : goal.split_seat-next-requires
split_seat-next-requires g c = let i = c.loop-made.invariant in (i.is_pass.0, c.requires.some_worker.1, splits_as _ _ g.C.TurnCell.stands _ _ c.loop-made.made _ i.view (let a = i.count in omega arith))

pub loop-made-preserved : goal.loop-made-preserved
loop-made-preserved g c = let i = c.loop-made.invariant in let e = c.split_seat-next.ensures in let p = c.push_reserved.ensures in record {
  is_pass = (e.0 ∙ i.is_pass.0, ap (λ z. z.0.fixed) e.2 ∙ i.is_pass.1);
  is_free = (ap (λ z. z.1) e.2 ∙ i.is_free.0, ap (λ z. z.0.holds) e.2 ∙ i.is_free.1);
  view = ap (λ z. z.0) e.2 ∙ ap view_after_deal i.view;
  others = subst (λ ps. (i' : ℕ) (q : _) → get_elem? ps i' ≡ some q → IsPass c.args.shared.now.table_id c.args.shared.now.key q × HoldsNone q × (q.me.0 ≡ first_view c.args.shared.now.key (i' + 1) 0)) (sym p.items)
      (one_more c.args.shared.now.table_id c.args.shared.now.key c.loop-made.made c.loop-made.passes.items c.split_seat-next.result (e.3 ∙ i.is_pass.0) (e.4 ∙ ap (λ z. (dealt_view z, [])) i.view) (let l = c.loop-made.passes.ok.0 in let n = i.count in omega arith) i.others);
  count = search rules;
  room = search rules;
}
