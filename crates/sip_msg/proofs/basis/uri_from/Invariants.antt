use Rattle.std.proofs.Common.{◌≡◌}
use Rattle.sip_msg.specs.Basis.{uri_at_space, first_from}
use Rattle.sip_msg.proofs.basis.uri_from.Given as goal

abbrev pub invariant-loop-at : goal.invariant-loop-at
invariant-loop-at l = first_from (uri_at_space l.text) l.text l.at ≡ first_from (uri_at_space l.text) l.text l.from
