use Rattle.msg_edits.proofs.Grown.{edited_none}
use Rattle.msg_edits.proofs.laws.no_edits_leave_the_text.Goals as goal

pub returns : goal.returns
returns c = edited_none
