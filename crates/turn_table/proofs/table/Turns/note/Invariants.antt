use Rattle.std.proofs.Common.{◌≡◌}
use Rattle.turn_table.proofs.table.Turns.note.Given as goal

abbrev pub ghosts-note_telling : goal.ghosts-note_telling
ghosts-note_telling g a = record { told = λ x. x ≡ g.what }
