use Rattle.dialogue.proofs.Courses.{follows_comes, follows_goes}
use Rattle.dialogue.proofs.laws.courses_follow.Goals as goal

pub returns : goal.returns
returns g c = record { comes = λ c after is js m e. follows_comes after c is js m e; goes = λ c d after is. follows_goes after c d is }
