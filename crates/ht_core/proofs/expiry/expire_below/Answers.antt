use Rattle.std.proofs.Common.{◌≡◌, ℕ, ◌<◌, ◌≤◌, true, false, nat_lt, length, sym, ap, ◌∙◌, subst, arith}
use Rattle.std.specs.FinMap as map
use Rattle.std.proofs.lemmas.Bool.Decides.{nat_tests}
use Rattle.ht_core.specs.Tables.{live}
use Rattle.ht_core.specs.Held.{Entries, items_of}
use Rattle.ht_core.proofs.Items.{len-items_of}
use Rattle.ht_core.proofs.expiry.expire_below.Goals as goal
use Rattle.ht_core.proofs.expiry.expire_below.Goals.{else-loop-items-test, then-loop-items-test+then-not-expire_one}

fewer : (n m most : ℕ) → n ≡ m → n < most → nat_lt m most ≡ false → ⊥
fewer n m most e l above = grind (arith, nat_tests)

as_many : (n m most k : ℕ) → n ≡ m → k ≡ m → nat_lt n most ≡ false → most ≤ k
as_many n m most k e f above = grind (arith, nat_tests)

pub returns-clause-full : goal.returns-clause-full
returns-clause-full c = λ above. elim c.loop-items-test.branch [
  | else-loop-items-test w ↦
      absurd (fewer c.len.result c.len-2.result c.args.most (c.len.ensures.len ∙ ap (λ items. length items.entries) (sym w.items-is) ∙ sym c.len-2.ensures.len) w.loop-items-test.false above)
  | then-loop-items-test+then-not-expire_one w ↦
      let live_is : live c.args.clock (items_of c.loop-items-test.items.entries) ≡ items_of c.loop-items-test.items.entries
      = subst (λ items. live c.args.clock (items_of items.entries) ≡ items_of items.entries) (sym w.items-is) (w.expire_one.ensures.live w.if-not-expire_one.true) in
      as_many c.len-2.result (length c.loop-items-test.items.entries) c.args.most _ c.len-2.ensures.len (ap map.len live_is ∙ len-items_of _ c.len-2.ensures.unique) above
]
