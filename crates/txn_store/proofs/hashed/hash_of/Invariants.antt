use Rattle.std.proofs.Common.{◌≡◌, drop}
use Rattle.std.specs.List.{fold}
use Rattle.std.specs.Str.{str_to_ascii_lowercase}
use Rattle.txn_store.specs.Hashed.{write_byte}
use Rattle.txn_store.proofs.hashed.hash_of.Given as goal

abbrev pub invariant-loop-byte : goal.invariant-loop-byte
invariant-loop-byte l = fold write_byte l.hasher (str_to_ascii_lowercase (drop l.byte-index l.key.host.now)) ≡ fold write_byte l.initial.hasher (str_to_ascii_lowercase l.key.host.now)
