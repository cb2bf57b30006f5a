-- The parts of a table.
use Rattle.std.specs.Prelude.{ℕ, ℤ, ◌+◌, List, drop, Option, None, if◌then◌else◌}
use Rattle.pv_values.specs.Numbers.{number_in}
use Rattle.cfg_tree.specs.Variables.{before, begins_with}

-- the number after a part's first `=`
abbrev pub part_number : List ℕ → Option ℤ
part_number part = if begins_with 61 (drop (before 61 part) part) then number_in (drop (before 61 part + 1) part) else None
