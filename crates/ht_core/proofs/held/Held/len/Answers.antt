use Rattle.std.proofs.Common.{sym, ap, ◌∙◌}
use Rattle.std.specs.FinMap as map
use Rattle.ht_core.specs.Tables.{Items}
use Rattle.ht_core.proofs.Items.{len-items_of}
use Rattle.ht_core.proofs.held.Held.len.Goals as goal

pub returns : goal.returns
returns c = c.len.ensures.len ∙ sym (len-items_of c.self.inside.items.entries c.len.ensures.unique) ∙ ap (λ (m : Items). map.len m) c.self.view_is
