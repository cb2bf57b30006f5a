use Rattle.std.proofs.Common.{◌≡◌, ◌≤◌, ◌<◌, ℕ, Bool, true, false, nat_lt, sym, ap, ◌∙◌, refl, arith, length}
use Rattle.std.specs.FinMap as map
use Rattle.std.proofs.lemmas.Bool.Decides.{nat_tests}
use Rattle.ht_core.specs.Tables.{live, Items}
use Rattle.ht_core.specs.Held.{items_of}
use Rattle.ht_core.proofs.Items.{len-live-le, len-items_of-le}
use Rattle.ht_core.proofs.held.Held.is_below.Goals as goal

decided : (b : Bool) (n m most : ℕ) → (b ≡ true → m < most) → (b ≡ false → most ≤ n) → n ≤ m → b ≡ nat_lt n most
decided true n m most fewer full l = let s = fewer refl in grind (arith, nat_tests)
decided false n m most fewer full l = let s = full refl in grind (arith, nat_tests)

pub returns-clause-below : goal.returns-clause-below
returns-clause-below c =
    let now = items_of c.expire_below.new.items.entries in
    let le : map.len (live c.args.clock now) ≤ length c.expire_below.new.items.entries
    = let a = len-live-le c.args.clock now in let b = len-items_of-le c.expire_below.new.items.entries in omega arith in
    decided c.expire_below.result _ _ c.args.most c.expire_below.ensures.fewer c.expire_below.ensures.full le
    ∙ ap (λ (m : Items). nat_lt (map.len m) c.args.most) (c.expire_below.ensures.same ∙ ap (live c.args.clock) c.self.view_is)
