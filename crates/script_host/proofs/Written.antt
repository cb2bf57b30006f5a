-- An item that is assigned, under a key and under its copy.
use Rattle.std.proofs.Common.{◌≡◌, ap, subst, IfOk}
use Rattle.std.specs.Prelude.{ℕ, Result, Ok, Err}
use Rattle.std.specs.declared.alloc.AllocError.{AllocError}
use Rattle.pv_values.specs.declared.value.Val.{Val}
use Rattle.pv_values.specs.declared.variable.PvUse.{PvUse}
use Rattle.pv_table.specs.declared.facts.Facts.{Facts}
use Rattle.host_meaning.specs.Rows.{write_row}
use Rattle.script_host.specs.declared.row.Row.{Row}
use Rattle.script_host.specs.Rows.{IsRowOf}

pub written_under : (r : Result Row AllocError) (x y : PvUse) (v : Val) (f : Facts) → x ≡ y →
    IfOk r (λ row. (g : Facts) → IsRowOf (write_row x v) g row g) → IfOk r (λ row. IsRowOf (write_row y v) f row f)
written_under (Ok row) x y v f e p = subst (λ z. IsRowOf (write_row z v) f row f) e (p f)
written_under (Err error) x y v f e p = tt
