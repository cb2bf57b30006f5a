-- Runs of a wheel.
use Rattle.std.proofs.Common.{◌≡◌, ℕ, List, Option, Some, None, length, ap, ◌∙◌, refl}
use Rattle.std.proofs.lemmas.List.{length-set}
use Rattle.histories.proofs.Lists.{runs_keep}
use Rattle.histories.specs.Runs.{Runs}
use Rattle.timer_wheel.specs.declared.record.WheelRecord.{WheelRecord}
use Rattle.timer_wheel.specs.declared.record.WheelRecord.TheVariants.{Set, Clear, Pop, Next}
use Rattle.timer_wheel.specs.Timers.{Timers}
use Rattle.timer_wheel.specs.Records.{WheelStep}

keeps_slots : (n : ℕ) (s : Timers) (r : WheelRecord) (t : Timers) → WheelStep s r t → length s ≡ n → length t ≡ n
keeps_slots n s (Set slot timer) t step e = ap length step.1 ∙ (length-set s slot (Some timer) ∙ e)
keeps_slots n s (Clear slot) t step e = ap length step.1 ∙ (length-set s slot None ∙ e)
keeps_slots n s (Pop now (Some popped)) t step e = ap length step.1 ∙ (length-set s popped.0 None ∙ e)
keeps_slots n s (Pop now None) t step e = ap length step.1 ∙ e
keeps_slots n s (Next (Some due)) t step e = ap length step.1 ∙ e
keeps_slots n s (Next None) t step e = ap length step.1 ∙ e

pub runs_keep_slots : (s u : Timers) (rs : List WheelRecord) → Runs WheelStep s rs u → length u ≡ length s
runs_keep_slots s u rs a = runs_keep WheelStep (λ t. length t ≡ length s) (keeps_slots (length s)) s u rs a refl
