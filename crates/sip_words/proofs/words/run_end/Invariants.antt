use Rattle.std.proofs.Common.{◌≡◌}
use Rattle.sip_words.specs.Words.{run_end}
use Rattle.sip_words.proofs.words.run_end.Given as goal

abbrev pub invariant-loop-at : goal.invariant-loop-at
invariant-loop-at l = run_end l.class l.text l.at ≡ run_end l.class l.text l.from
