-- A ledger as contracts see it.
use Rattle.std.specs.Prelude.{ℕ, refl}
use Rattle.std.specs.Coded.{Coded, code_by, coded×, coded_ℕ}
use Rattle.atomic_table.specs.Seated.{TableId, table_id_coded}
use Rattle.buf_pool.specs.declared.ledger.Holder.{Holder}
use Rattle.buf_pool.specs.declared.ledger.Holder.TheVariants.{Keeper, Lent, Returned}

-- which ledger it is: no other has its name
abbrev pub LedgerName : Type 0
LedgerName = TableId

-- a ledger, and how many of its shares are out
pub record LedgerState : Type 0 where
  pub name : LedgerName
  pub out : ℕ

abbrev pub ledger_code : Coded LedgerState
ledger_code = code_by (TableId × ℕ) (coded× table_id_coded coded_ℕ) (λ l. (l.name, l.out)) (λ p. record { name = p.0; out = p.1 }) (λ _. refl)

-- how many shares this holder knows to be out
abbrev pub known_out : Holder → ℕ
known_out (Keeper n) = n
known_out Lent = 0
known_out Returned = 0
