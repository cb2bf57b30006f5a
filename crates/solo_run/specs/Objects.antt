-- What a run asks outside is answered: by tables, a log and a way out of which none ever finds memory short.
use Rattle.std.specs.Prelude.{ℕ, List, map, Option, Some, None, slice_get, slice_set}
use Rattle.pv_values.specs.declared.table.TableSpec.{TableSpec}
use Rattle.ht_core.specs.declared.operation.TabOp.{TabOp}
use Rattle.ht_core.specs.Tables.{TableState, fresh, at, outcome, holding}
use Rattle.host_meaning.specs.declared.ask.Asked.{Asked}
use Rattle.host_meaning.specs.declared.ask.Asked.TheVariants as ask
use Rattle.host_meaning.specs.declared.ask.Heard.{Heard}
use Rattle.host_meaning.specs.declared.ask.Heard.TheVariants as heard

-- the tables of a script, in its order
abbrev pub Tables : Type 0
Tables = List TableState

abbrev pub fresh_tables : List TableSpec → Tables
fresh_tables specs = map fresh specs

-- an answer, and the tables behind it
pub record Answered : Type 0 where
  pub heard : Heard
  pub tables : Tables

abbrev pub answer : Heard → Tables → Answered
answer h tables = record { heard = h; tables = tables }

-- an operation on the table of this number
abbrev pub by_table : List (List ℕ) → ℕ → Tables → ℕ → TabOp → Option TableState → Answered
by_table patterns now tables n op None = answer heard.NoMemory tables
by_table patterns now tables n op (Some t) =
    let done = outcome patterns (at now t) op in
    answer (heard.Table done.reply) (slice_set tables n (holding (at now t) done.items))

-- The answer at a moment. What asks for a transaction isn't answered: there is none yet, and no function that asks so has started.
abbrev pub answered : List (List ℕ) → ℕ → Tables → Asked → Answered
answered patterns now tables (ask.Send to text) = answer heard.Sent tables
answered patterns now tables (ask.Table n op) = by_table patterns now tables n op (slice_get tables n)
answered patterns now tables (ask.Log text) = answer heard.Noted tables
answered patterns now tables _ = answer heard.NoMemory tables
