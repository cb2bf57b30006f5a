use Rattle.std.proofs.Common.{ℕ, ◌+◌, ◌*◌, map, take}
use Rattle.cfg_tree.specs.Refusals.{each}
use Rattle.cfg_calls.specs.Following.{Follows}
use Rattle.cfg_calls.proofs.Expansions.{piece_check}
use Rattle.cfg_calls.proofs.checker.Checker.+expansions.Given as goal

abbrev pub decreases-expansion_within : goal.decreases-expansion_within
decreases-expansion_within l = 8 * l.depth + 1

abbrev pub decreases-item : goal.decreases-item
decreases-item l = 8 * l.depth + 2

abbrev pub decreases-with_inner : goal.decreases-with_inner
decreases-with_inner l = 8 * l.depth + 3

abbrev pub decreases-untransformed : goal.decreases-untransformed
decreases-untransformed l = 8 * l.depth + 4

abbrev pub decreases-variable_within : goal.decreases-variable_within
decreases-variable_within l = 8 * l.depth + 5

abbrev pub decreases-piece : goal.decreases-piece
decreases-piece l = 8 * l.depth

abbrev pub invariant-expansion_within-loop-piece : goal.invariant-expansion_within-loop-piece
invariant-expansion_within-loop-piece l =
    Follows (each (map (piece_check l.fn.depth l.fn.known l.fn.at) (take l.piece-index l.piece-items))) l.fn.self l.parts l.self
