use Rattle.std.proofs.Common.{◌≡◌, drop}
use Rattle.std.specs.List.{list_all}
use Rattle.sip_scan.specs.Lines.{is_plain}
use Rattle.message_functions.proofs.responses.is_of_one_line.Given as goal

abbrev pub invariant-loop-byte : goal.invariant-loop-byte
invariant-loop-byte l = list_all is_plain (drop l.byte-index l.text) ≡ list_all is_plain l.text
