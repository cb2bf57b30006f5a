use Rattle.msg_edits.proofs.Grown.{cut_law, three_parts}
use Rattle.msg_edits.proofs.laws.a_cut_takes_its_bytes_away.Goals as goal

pub returns : goal.returns
returns c = λ text edits at within. (three_parts text edits at.from at.to within.0 within.1, cut_law text edits at within)
