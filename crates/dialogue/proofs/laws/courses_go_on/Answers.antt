use Rattle.dialogue.proofs.Courses.{goes_refl, goes_goes, goes_comes, goes_asks, goes_ends}
use Rattle.dialogue.proofs.laws.courses_go_on.Goals as goal

pub returns : goal.returns
returns g c = record { none = goes_refl; goes = goes_goes; comes = goes_comes; asks = goes_asks; ends = goes_ends }
