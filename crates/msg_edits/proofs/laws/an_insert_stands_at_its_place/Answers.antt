use Rattle.msg_edits.proofs.Grown.{insert_law}
use Rattle.msg_edits.proofs.laws.an_insert_stands_at_its_place.Goals as goal

pub returns : goal.returns
returns c = insert_law
