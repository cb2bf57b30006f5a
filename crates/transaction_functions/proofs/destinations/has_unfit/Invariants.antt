use Rattle.std.proofs.Common.{◌≡◌, drop}
use Rattle.std.specs.List.{list_any}
use Rattle.host_meaning.specs.Relaying.{is_unfit}
use Rattle.transaction_functions.proofs.destinations.has_unfit.Given as goal

-- none of those before is such a byte
abbrev pub invariant-loop-byte : goal.invariant-loop-byte
invariant-loop-byte l = list_any is_unfit (drop l.byte-index l.text) ≡ list_any is_unfit l.text
