use Rattle.std.proofs.Common.{◌≡◌, ℕ, ◌≤◌, ◌<◌, length, Bool, true, false, not, ◌&&◌, Option, Some, None, refl, sym, ap, ◌∙◌, arith, Bor}
use Rattle.std.specs.Prelude.{nat_le, is_some}
use Rattle.std.specs.Option.{option_copied}
use Rattle.std.specs.FinMap as map
use Rattle.std.proofs.lemmas.Bool.Decides.{nat_tests}
use Rattle.ht_core.specs.declared.item.Item.{Item}
use Rattle.ht_core.specs.Tables.{live}
use Rattle.ht_core.proofs.Items.{len-live-le}
use Rattle.ht_core.proofs.table.Table.is_full.Goals as goal
use Rattle.ht_core.proofs.table.Table.is_full.Goals.{then-len-lt-MOST_ITEMS-via-then-len-lt-MOST_ITEMS, then-len-lt-MOST_ITEMS-via-else-len-lt-MOST_ITEMS+then-is_some}

copied : (r : Option (Bor Item)) → is_some (option_copied r) ≡ is_some r
copied None = refl
copied (Some x) = refl

neither : (b : Bool) → b && false ≡ false
neither true = refl
neither false = refl

few : (n m : ℕ) → n ≤ m → m < 100000 → nat_le 100000 n ≡ false
few n m l less = grind (arith, nat_tests)

pub returns-then-len-lt-MOST_ITEMS-clause-full : goal.returns-then-len-lt-MOST_ITEMS-clause-full
returns-then-len-lt-MOST_ITEMS-clause-full c =
    let s = c.args.self.now in
    let items = live s.clock s.held in
    elim c.then-len-lt-MOST_ITEMS.branch [
      | then-len-lt-MOST_ITEMS-via-then-len-lt-MOST_ITEMS w ↦
          let l : map.len items ≤ map.len s.held = len-live-le s.clock s.held in
          let m : map.len s.held < 100000 = omega (arith, c.len.ensures, w.if-len-lt-MOST_ITEMS.true) in
          sym (ap (λ b. not (map.contains_key items c.args.name.now) && b) (few _ _ l m) ∙ neither _)
      | then-len-lt-MOST_ITEMS-via-else-len-lt-MOST_ITEMS+then-is_some w ↦
          let e : map.contains_key items c.args.name.now ≡ true = ap is_some (sym w.item.ensures) ∙ copied w.item.result ∙ sym w.if-is_some.ensures in
          sym (ap (λ b. not b && nat_le 100000 (map.len items)) e)
    ]
