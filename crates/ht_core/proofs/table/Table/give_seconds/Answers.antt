use Rattle.std.proofs.Common.{◌≡◌, true, Option, Some, None, refl, sym, ap, ◌∙◌, Bor}
use Rattle.std.specs.Prelude.{is_some}
use Rattle.std.specs.Option.{option_copied}
use Rattle.std.specs.FinMap as map
use Rattle.ht_core.specs.declared.item.Item.{Item}
use Rattle.ht_core.specs.Tables.{live}
use Rattle.ht_core.proofs.Items.{given}
use Rattle.ht_core.proofs.table.Table.give_seconds.Goals as goal

copied : (r : Option (Bor Item)) → is_some (option_copied r) ≡ is_some r
copied None = refl
copied (Some x) = refl

pub returns : goal.returns
returns c =
    let s = c.args.self.now in
    let there : is_some (map.get (live s.clock s.held) c.args.name.now) ≡ true = ap is_some (sym c.item.ensures) ∙ copied c.item.result ∙ c.if-is_none.ensures in
    given s.spec s.clock s.held c.set_due.new.self c.args.name.now c.args.seconds c.due_after.result there c.due_after.ensures c.in_ok-set_due.ensures.ok
