use Rattle.sip_msg.proofs.Tally.{Tallied}
use Rattle.sip_msg.proofs.fields.Kinds.of.Given as goal

abbrev pub invariant-loop-place : goal.invariant-loop-place
invariant-loop-place l = Tallied l.fields l.place l.firsts l.counts
