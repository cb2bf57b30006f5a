-- Function values that read what stands inside: an operand of a prefix or a bracket, and a statement of a statement.
use Rattle.std.specs.Prelude.{ℕ, Bool, List, Result}
use Rattle.std.specs.declared.alloc.Global.{Global}
use denote.Ref.{MutBor}
use Rattle.cfg_tree.specs.declared.token.Token.{Token}
use Rattle.cfg_tree.specs.declared.raw.RawExpr.{RawExpr}
use Rattle.cfg_tree.specs.declared.raw.RawStmt.{RawStmt}
use Rattle.cfg_parse.specs.declared.fault.Fault.{Fault}
use Rattle.cfg_parse.specs.Reader.{Reads}
use Rattle.cfg_parse.specs.Exprs.{unary}
use Rattle.cfg_parse.specs.Stmts.{stmt}

pub record ReadsUnary (room : ℕ) (pre : Global → MutBor (List Token) → ℕ → Type 0)
    (post : Global → MutBor (List Token) → ℕ → Result RawExpr Fault → MutBor (List Token) → Type 0) : Type 0 where
  pub callable : (alloc : Global) (old : MutBor (List Token)) → pre alloc old room
  pub reads : (alloc : Global) (old new : MutBor (List Token)) (r : Result RawExpr Fault) → post alloc old room r new
      → Reads (unary room old.now) r new.now

pub record ReadsStmt (room : ℕ) (pre : Global → MutBor (List Token) → ℕ → Bool → Type 0)
    (post : Global → MutBor (List Token) → ℕ → Bool → Result RawStmt Fault → MutBor (List Token) → Type 0) : Type 0 where
  pub callable : (alloc : Global) (old : MutBor (List Token)) (loop : Bool) → pre alloc old room loop
  pub reads : (alloc : Global) (old new : MutBor (List Token)) (loop : Bool) (r : Result RawStmt Fault) → post alloc old room loop r new
      → Reads (stmt room loop old.now) r new.now
