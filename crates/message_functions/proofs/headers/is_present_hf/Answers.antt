use Rattle.message_functions.proofs.Messages.{shown_fields}
use Rattle.message_functions.proofs.headers.is_present_hf.Goals as goal

pub has_field-requires : goal.has_field-requires
has_field-requires c = shown_fields c.args.b.now c.args.m.now c.as_slice.result.now c.requires c.as_slice.ensures.value
