use Rattle.cfg_code.proofs.Safety.{never_stuck}
use Rattle.cfg_code.proofs.laws.sound_code_is_never_stuck.Goals as goal

pub returns : goal.returns
returns c = λ loaded sound block env r reaches. never_stuck loaded sound block env r reaches
