use Rattle.std.proofs.Common.{◌≡◌, ◌-◌, drop, length}
use Rattle.std.specs.Prelude.{map}
use Rattle.cfg_tree.specs.Variables.{pieces_of}
use Rattle.cfg_lex.specs.Pieces.{as_piece}
use Rattle.cfg_lex.proofs.PieceLaw.{with_front}
use Rattle.cfg_lex.proofs.piece.pieces.Given as goal

abbrev pub invariant-loop-at : goal.invariant-loop-at
invariant-loop-at l = with_front (map as_piece l.pieces.items) (pieces_of (drop l.at l.text)) ≡ pieces_of l.text

abbrev pub decreases-loop-at : goal.decreases-loop-at
decreases-loop-at l = length l.text - l.at
