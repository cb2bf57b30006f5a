-- In which list of the wheel a moment stands.
use Rattle.std.specs.Prelude.{ℕ, zero, suc, ◌+◌, ◌-◌, ◌/◌, ◌%◌, cond, eqb, nat_lt, Option, Some, None}
use Rattle.timer_wheel.specs.declared.wheel.Timer.{Timer}

-- where `due` stands from `last` on, of so many levels: 256 times the place of the highest byte in which they differ, and that
-- byte of `due`; where they don't differ, the lowest byte
abbrev pub level_list : ℕ → ℕ → ℕ → ℕ
level_list zero last due = 0
level_list (suc levels) last due = cond (eqb (due / 256) (last / 256)) (due % 256) (256 + level_list levels (last / 256) (due / 256))

-- the list of a moment: of those before `last` the later ones are nearer to the middle, of those from `last` on the earlier ones
abbrev pub list_at : ℕ → ℕ → ℕ
list_at last due = cond (nat_lt due last) (2047 - level_list 8 (18446744073709551615 - last) (18446744073709551615 - due)) (2048 + level_list 8 last due)

-- the list of a slot by its timer: none without one
abbrev pub list_by : ℕ → Option Timer → Option ℕ
list_by last None = None
list_by last (Some timer) = Some (list_at last timer.due)
