use Rattle.std.proofs.Common.{◌≡◌}
use Rattle.turn_table.proofs.table.Turns.give.Given as goal

abbrev pub ghosts-give_telling : goal.ghosts-give_telling
ghosts-give_telling g a = record { told = λ x. x ≡ g.what }
