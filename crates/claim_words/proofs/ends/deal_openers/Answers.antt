use Rattle.std.proofs.Common.{rules, ◌≡◌, ◌+◌, ◌-◌, ℕ, arith, refl, sym, ap, ◌∙◌, subst, []}
use mathlib.Core.Option.{some}
use lib.ListN.{get_elem?}
use Rattle.claim_words.specs.Claims.{maker, desk, dealt, fresh_desk}
use Rattle.claim_words.proofs.Seats.{deals, one_more}
use Rattle.claim_words.proofs.ends.deal_openers.Goals as goal

pub split_seat-seat-requires : goal.split_seat-seat-requires
split_seat-seat-requires c = let i = c.loop-slot.invariant in let t = c.loop-slot-test.true in (i.table, c.requires.maker.3, deals _ _ _ (c.args.workers + c.loop-slot.slot) _ (ap (λ z. z.0) i.view ∙ ap (λ (k : ℕ × ℕ). maker k.1 (c.args.workers + c.loop-slot.slot)) (sym c.requires.maker.2)) (let a = ap (λ (k : ℕ × ℕ). k.0) c.requires.maker.2 in let b = ap (λ (k : ℕ × ℕ). k.1) c.requires.maker.2 in omega arith))

pub loop-slot-preserved : goal.loop-slot-preserved
loop-slot-preserved c = let i = c.loop-slot.invariant in let e = c.split_seat-seat.ensures in let p = c.push_reserved.ensures in let m = c.loop-slot.slot in let w = c.args.workers in record {
  table = e.0 ∙ i.table;
  view = e.2 ∙ (ap (λ z. (dealt z.0, z.1)) i.view ∙ ap (λ (k : ℕ). (maker w k, [])) (let a : w + m + 1 ≡ w + (m + 1) = omega arith in a));
  count = search rules;
  openers = subst (λ ps. (j : ℕ) (q : _) → get_elem? ps j ≡ some q → (q.seat.table_id ≡ c.args.words.now.table_id) × (q.seat.me ≡ (desk (w + j) j, [])) × (q.slot ≡ j) × (q.last ≡ 0)) (sym p.items)
      (one_more (λ j q. (q.seat.table_id ≡ c.args.words.now.table_id) × (q.seat.me ≡ (desk (w + j) j, [])) × (q.slot ≡ j) × (q.last ≡ 0)) c.loop-slot.openers.items _ i.openers
      (subst (λ (n : ℕ). (c.split_seat-seat.result.table_id ≡ c.args.words.now.table_id) × (c.split_seat-seat.result.me ≡ (desk (w + n) n, [])) × (m ≡ n) × (◌≡◌ {A = ℕ} 0 0)) (let l = c.loop-slot.openers.ok.0 in let n = i.count in omega arith)
      (e.3 ∙ i.table, e.4 ∙ (ap (λ z. (fresh_desk z.0, [])) i.view ∙ ap (λ (k : ℕ). (desk (w + m) k, [])) (let a : w + m - w ≡ m = omega arith in a)), refl, refl)));
  room = search rules;
}
