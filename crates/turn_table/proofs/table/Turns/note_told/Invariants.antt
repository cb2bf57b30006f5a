use Rattle.turn_table.proofs.table.Turns.note_told.Given as goal

abbrev pub ghosts-note_about : goal.ghosts-note_about
ghosts-note_about g a = record { told = λ x. g.Q.Telling.told a.about.now x }
