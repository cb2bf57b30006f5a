use Rattle.txn_dialogue.proofs.Readings.{reads_so}
use Rattle.txn_dialogue.proofs.laws.a_reading_is_the_message.Goals as goal

pub returns : goal.returns
returns c = reads_so
