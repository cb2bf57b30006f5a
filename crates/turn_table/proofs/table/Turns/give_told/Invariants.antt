use Rattle.turn_table.proofs.table.Turns.give_told.Given as goal

abbrev pub ghosts-give_about : goal.ghosts-give_about
ghosts-give_about g a = record { told = λ x. g.Q.Telling.told a.about.now x }
