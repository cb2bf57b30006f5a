-- A function that is called over a message.
use Rattle.std.proofs.Common.{◌≡◌, subst, sym, ap, ◌∙◌, List, ℕ}
use Rattle.std.specs.Prelude.{ℤ}
use Rattle.pv_values.specs.declared.function.Func.{Func}
use Rattle.pv_values.specs.declared.value.Val.{Val}
use Rattle.pv_table.specs.declared.facts.Facts.{Facts}
use Rattle.host_meaning.specs.Run.{Around, Received, code}
use Rattle.host_meaning.specs.Rows.{call_over}
use Rattle.pv_values.specs.declared.run.HostAnswer.TheVariants as told
use Rattle.script_host.specs.declared.row.Row.{Row}
use Rattle.script_host.specs.declared.row.Row.TheVariants as row
use Rattle.script_host.specs.Rows.{IsRow, IsRowOf, with_blocks}

pub over_as : (a : Around) (r : Received) (f g : Func) (values : List Val) (row : Row) (old new : Facts) → f ≡ g →
    IsRowOf (call_over a r g values) old row new → IsRowOf (call_over a r f values) old row new
over_as a r f g values row old new e p = subst (λ h. IsRowOf (call_over a r h values) old row new) (sym e) p

-- one that comes to a code, and the row that tells it
pub coded_as : (a : Around) (r : Received) (f g : Func) (values : List Val) (n : ℤ) {m : ℤ} {told' : Row} → m ≡ n → told' ≡ row.Tells (told.Code m) → (old new : Facts) → f ≡ g →
    ((blocks : ℕ) → call_over a r g values (with_blocks old blocks) ≡ code n (with_blocks new blocks)) →
    IsRowOf (call_over a r f values) old told' new
coded_as a r f g values n same is old new e p = λ blocks.
    subst (λ t. IsRow (call_over a r f values (with_blocks old blocks)) t (with_blocks new blocks)) (sym is)
    (ap (λ h. call_over a r h values (with_blocks old blocks)) e ∙ (p blocks ∙ ap (λ k. code k (with_blocks new blocks)) (sym same)))
