-- A variable that is read, under its name and under a copy of it.
use Rattle.std.proofs.Common.{◌≡◌, subst}
use Rattle.dialogue.specs.Course.{Ends}
use Rattle.pv_values.specs.declared.run.HostAnswer.TheVariants as told
use Rattle.pv_values.specs.declared.value.Val.{Val}
use Rattle.pv_values.specs.declared.variable.PvUse.{PvUse}
use Rattle.pv_table.specs.declared.facts.Facts.{Facts}
use Rattle.host_meaning.specs.Run.{Around, RunState, RowCourse, Tells}
use Rattle.host_meaning.specs.Rows.{read_row}
use Rattle.script_host.specs.declared.row.Row.{Row}
use Rattle.script_host.specs.Rows.{IsRowOf}

pub read_under : (a : Around) (r : Row) (x y : PvUse) (f : Facts) → x ≡ y → IsRowOf (read_row a x) f r f → IsRowOf (read_row a y) f r f
read_under a r x y f e p = subst (λ z. IsRowOf (read_row a z) f r f) e p

-- a row that tells a value
abbrev pub told_value : Val → RunState → RowCourse
told_value v s = Ends (Tells (told.Value v) s)
