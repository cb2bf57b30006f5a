use Rattle.message_functions.proofs.Messages.{shown_fields}
use Rattle.message_functions.proofs.headers.remove_hf.Goals as goal

pub cut_named-requires : goal.cut_named-requires
cut_named-requires c = shown_fields c.args.b.now c.args.m.now c.as_slice.result.now c.requires c.as_slice.ensures.value
