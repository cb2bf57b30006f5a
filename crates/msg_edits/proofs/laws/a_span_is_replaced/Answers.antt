use Rattle.msg_edits.proofs.Grown.{replace_law}
use Rattle.msg_edits.proofs.laws.a_span_is_replaced.Goals as goal

pub returns : goal.returns
returns c = replace_law
