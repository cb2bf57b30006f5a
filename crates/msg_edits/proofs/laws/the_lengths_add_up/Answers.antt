use Rattle.msg_edits.proofs.Lengths.{length_law}
use Rattle.msg_edits.proofs.laws.the_lengths_add_up.Goals as goal

pub returns : goal.returns
returns c = length_law
