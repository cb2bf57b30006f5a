use Rattle.std.proofs.Common.{◌≡◌, ◌+◌, drop}
use Rattle.std.specs.List.{prefix_len}
use Rattle.cfg_lex.specs.Bytes.{class_has}
use Rattle.cfg_lex.proofs.bytes.run_len.Given as goal

abbrev pub invariant-loop-at : goal.invariant-loop-at
invariant-loop-at l = l.at + prefix_len (class_has l.class) (drop l.at l.text) ≡ prefix_len (class_has l.class) l.text
