use Rattle.std.proofs.Common.{sym, ap, ◌∙◌}
use Rattle.std.specs.FinMap as map
use Rattle.ht_core.specs.Tables.{Items}
use Rattle.ht_core.proofs.Items.{get-items_of}
use Rattle.ht_core.proofs.held.Held.get.Goals as goal

pub returns : goal.returns
returns c = c.get.ensures.value ∙ sym (get-items_of c.self.inside.items.entries c.args.name.now) ∙ ap (λ (m : Items). map.get m c.args.name.now) c.self.view_is
