use Rattle.msg_edits.proofs.Grown.{elsewhere_law}
use Rattle.msg_edits.proofs.laws.an_edit_elsewhere_changes_nothing.Goals as goal

pub returns : goal.returns
returns c = elsewhere_law
