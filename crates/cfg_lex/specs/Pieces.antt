-- The pieces of a text that is expanded.
use Rattle.std.specs.Prelude.{ℕ, ◌+◌, nat_le, List, [], ◌∷◌, take, drop, Option, Some, None, if◌then◌else◌}
use Rattle.cfg_tree.specs.Variables.{before, begins_with}
use Rattle.cfg_tree.specs.Variables as tree
use Rattle.cfg_lex.specs.declared.piece.Piece.{Piece}
use Rattle.cfg_lex.specs.declared.piece.Piece.TheVariants.{Plain, Of}
use Rattle.cfg_lex.specs.declared.variable.VariableForm.{VariableForm}
use Rattle.cfg_lex.specs.Variables.{form_at, variable_of}
use Rattle.cfg_tree.specs.ByteNames.{DOLLAR}

-- a piece, as the meaning of scripts has it
abbrev pub as_piece : Piece → tree.Piece
as_piece (Plain text) = tree.Plain text
as_piece (Of v) = tree.Of v

abbrev pub variable_piece : List ℕ → Option VariableForm → Option (tree.Piece × ℕ)
variable_piece text None = None
variable_piece text (Some f) = Some (tree.Of (variable_of text f), f.len + 1)

-- the first piece of a text, and how many bytes it takes
unfoldable pub first_piece : List ℕ → Option (tree.Piece × ℕ)
first_piece text =
    let n = before DOLLAR text in
    if nat_le 1 n then Some (tree.Plain (take n text), n)
    else if begins_with DOLLAR (drop 1 text) then Some (tree.Plain (DOLLAR ∷ []), 2)
    else variable_piece (drop 1 text) (form_at (drop 1 text))

abbrev pub piece_shown : Piece × ℕ → tree.Piece × ℕ
piece_shown r = (as_piece r.0, r.1)
