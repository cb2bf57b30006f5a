use Rattle.ht_core.proofs.Places.{expires}
use Rattle.ht_core.proofs.expiry.take_out_over.Goals as goal

pub returns-then-is_over : goal.returns-then-is_over
returns-then-is_over c = expires c.args.clock c.args.items.now c.swap_remove_index.new.self c.args.place _ (c.is_over.ensures.over c.if-is_over.true)
    c.swap_remove_index.ensures.entry c.swap_remove_index.ensures.entries c.swap_remove_index.ensures.updates
