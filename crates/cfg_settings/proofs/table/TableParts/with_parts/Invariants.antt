use Rattle.std.proofs.Common.{◌≡◌, Some, length}
use Rattle.cfg_tree.specs.Settings.{with_parts}
use Rattle.cfg_settings.proofs.Semicolons.{parts_of}
use Rattle.cfg_settings.proofs.table.TableParts.with_parts.Given as goal

abbrev pub invariant-loop-rest : goal.invariant-loop-rest
invariant-loop-rest l = with_parts (parts_of l.fn.text) (Some l.fn.self) ≡ with_parts (parts_of l.rest) (Some l.parts)

abbrev pub decreases-loop-rest : goal.decreases-loop-rest
decreases-loop-rest l = length l.rest
