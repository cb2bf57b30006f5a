use Rattle.msg_edits.proofs.Grown.{parts_law}
use Rattle.msg_edits.proofs.laws.a_text_is_its_parts.Goals as goal

pub returns : goal.returns
returns c = parts_law
