use Rattle.std.proofs.Common.{◌≡◌}
use Rattle.sip_msg.specs.Basis.{first_from}
use Rattle.sip_build.specs.WithField.{ends_before_empty}
use Rattle.sip_build.proofs.adding.last_crlf.Given as goal

abbrev pub invariant-loop-at : goal.invariant-loop-at
invariant-loop-at l = first_from (ends_before_empty l.text) l.text l.at ≡ first_from (ends_before_empty l.text) l.text l.from
