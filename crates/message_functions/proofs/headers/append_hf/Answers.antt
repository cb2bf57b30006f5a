use Rattle.message_functions.proofs.Messages.{before_body}
use Rattle.message_functions.proofs.headers.append_hf.Goals as goal

pub overflow_sub-m : goal.overflow_sub-m
overflow_sub-m c = before_body c.args.b.now c.args.m.now c.requires
