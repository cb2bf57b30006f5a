use Rattle.std.proofs.Common.{sym, ◌∙◌}
use Rattle.message_functions.proofs.Rooms.{no_room}
use Rattle.message_functions.proofs.room.TextRoom.ack_reads.Goals as goal

pub returns-in-Err : goal.returns-in-Err
returns-in-Err c = sym (no_room _ _ _ c.in-Err.field-0 c.in-Err.ensures (c.as_mut_slice-room.ensures.len ∙ c.args.self.now.has_all))
