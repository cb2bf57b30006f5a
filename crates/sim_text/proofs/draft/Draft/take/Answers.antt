use Rattle.sim_text.proofs.draft.Draft.take.Goals as goal

pub returns-in-Text-clause-malformed : goal.returns-in-Text-clause-malformed
returns-in-Text-clause-malformed c = rw c.in-Text.is c.extend.ensures.malformed

pub returns-in-Hex-clause-malformed : goal.returns-in-Hex-clause-malformed
returns-in-Hex-clause-malformed c = rw c.in-Hex.is c.extend_by_hex.ensures.malformed
