use Rattle.std.proofs.Common.{◌≡◌}
use Rattle.sip_msg.specs.Basis.{version_at_space, first_from}
use Rattle.sip_msg.proofs.basis.version_from.Given as goal

abbrev pub invariant-loop-at : goal.invariant-loop-at
invariant-loop-at l = first_from (version_at_space l.text) l.text l.at ≡ first_from (version_at_space l.text) l.text l.from
