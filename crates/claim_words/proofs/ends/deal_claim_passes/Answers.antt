use Rattle.std.proofs.Common.{rules, ◌≡◌, ◌-◌, ℕ, arith, refl, sym, ap, ◌∙◌, subst, []}
use mathlib.Core.Option.{some}
use lib.ListN.{get_elem?}
use Rattle.claim_words.specs.Claims.{maker, desk, dealt, fresh_desk}
use Rattle.claim_words.proofs.Seats.{deals, one_more}
use Rattle.claim_words.proofs.ends.deal_claim_passes.Goals as goal

pub split_seat-seat-requires : goal.split_seat-seat-requires
split_seat-seat-requires c = let i = c.loop-number.invariant in (i.table, c.requires.maker.3, deals _ _ _ c.loop-number.number _ (ap (λ z. z.0) i.view ∙ ap (λ w. maker w c.loop-number.number) (sym c.requires.maker.2)) (let k = c.requires.maker.2 in omega arith))

pub loop-number-preserved : goal.loop-number-preserved
loop-number-preserved c = let i = c.loop-number.invariant in let e = c.split_seat-seat.ensures in let p = c.push_reserved.ensures in let m = c.loop-number.number in let t = c.loop-number-test.true in record {
  table = e.0 ∙ i.table;
  view = e.2 ∙ ap (λ z. (dealt z.0, z.1)) i.view;
  count = search rules;
  passes = subst (λ ps. (j : ℕ) (q : _) → get_elem? ps j ≡ some q → (q.seat.table_id ≡ c.args.words.now.table_id) × (q.seat.me ≡ (desk j 0, [])) × (q.number ≡ j)) (sym p.items)
      (one_more (λ j q. (q.seat.table_id ≡ c.args.words.now.table_id) × (q.seat.me ≡ (desk j 0, [])) × (q.number ≡ j)) c.loop-number.passes.items _ i.passes
      (subst (λ (n : ℕ). (c.split_seat-seat.result.table_id ≡ c.args.words.now.table_id) × (c.split_seat-seat.result.me ≡ (desk n 0, [])) × (m ≡ n)) (let l = c.loop-number.passes.ok.0 in let n = i.count in omega arith)
      (e.3 ∙ i.table, e.4 ∙ (ap (λ z. (fresh_desk z.0, [])) i.view ∙ ap (λ (k : ℕ). (desk m k, [])) (let a : m - c.args.workers ≡ 0 = omega arith in a)), refl)));
  room = search rules;
}
