-- A number that falls with each instruction of a run, whatever the code is.
use Rattle.std.specs.Prelude.{ℕ, zero, suc, ◌+◌, ◌-◌, ◌*◌, ◌^◌, List, [], ◌∷◌, length}
use Rattle.cfg_code.specs.Flat.{FlatScript}
use Rattle.cfg_code.specs.declared.machine.Frame.{Frame}
use Rattle.cfg_code.specs.declared.machine.Frame.TheVariants.{Loop, Back}
use Rattle.cfg_code.specs.Machine.{Configuration}

unfoldable pub power : ℕ → ℕ → ℕ
power b zero = 1
power b (suc d) = power b d * b

-- a power past every one that a run may have
abbrev pub ceiling : ℕ → ℕ
ceiling n = power (suc n) (2 ^ 32)

-- what is left of a block
abbrev pub rest : ℕ → ℕ → ℕ → ℕ
rest n pc calls = (n - pc) * power (suc n) calls

-- what is left of the blocks that wait
abbrev pub waiting : ℕ → List Frame → ℕ
waiting n [] = 0
waiting n (Loop rounds start exit ∷ frames) = waiting n frames
waiting n (Back pc calls ∷ frames) = rest n pc calls + waiting n frames

abbrev pub measure : ℕ → Configuration → ℕ
measure n r = r.statements_left * ceiling n + (rest n r.pc r.calls_left + waiting n r.frames)

-- how much a run may still do
unfoldable pub work_left : FlatScript → Configuration → ℕ
work_left loaded r = measure (length loaded.code.instrs) r
