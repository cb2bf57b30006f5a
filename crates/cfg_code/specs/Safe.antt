-- What a run of code may come to.
use Rattle.std.specs.Prelude.{◌≡◌}
use Rattle.pv_values.specs.declared.run.HostAnswer.{HostAnswer}
use Rattle.cfg_code.specs.Flat.{FlatScript}
use Rattle.cfg_code.specs.declared.machine.Event.TheVariants.{Moved, Asked}
use Rattle.cfg_code.specs.Machine.{Configuration, step_of, told}

-- what it has after some instructions, and any answers
pub data Reaches (loaded : FlatScript) (r : Configuration) : Configuration → Type 0 where
  here : Reaches loaded r r
  moved : (q : Configuration) → Reaches loaded r q → (step_of loaded q).event ≡ Moved → Reaches loaded r (step_of loaded q).run
  answered : (q : Configuration) (answer : HostAnswer) → Reaches loaded r q → (step_of loaded q).event ≡ Asked →
      Reaches loaded r (told answer (step_of loaded q).run)
