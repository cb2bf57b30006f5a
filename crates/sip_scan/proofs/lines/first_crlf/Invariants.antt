use Rattle.std.proofs.Common.{◌≡◌}
use Rattle.sip_scan.specs.Lines.{first_crlf}
use Rattle.sip_scan.proofs.lines.first_crlf.Given as goal

abbrev pub invariant-loop-at : goal.invariant-loop-at
invariant-loop-at l = first_crlf l.text l.at ≡ first_crlf l.text l.from
