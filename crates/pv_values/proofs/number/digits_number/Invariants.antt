use Rattle.std.proofs.Common.{◌≡◌, drop}
use Rattle.pv_values.proofs.Digits.{number_after}
use Rattle.pv_values.proofs.number.digits_number.Given as goal

abbrev pub invariant-loop-byte : goal.invariant-loop-byte
invariant-loop-byte l = number_after l.n (drop l.byte-index l.digits) ≡ number_after 0 l.digits
