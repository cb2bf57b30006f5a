-- Flat code.
use Rattle.std.specs.Prelude.{ℕ, List, Option}
use Rattle.pv_values.specs.declared.table.TableSpec.{TableSpec}
use Rattle.cfg_tree.specs.declared.setting.Parameters.{Parameters}
use Rattle.cfg_code.specs.declared.instr.Instr.{Instr}

-- the instructions of all blocks, and the place where each block begins
pub record Flat : Type 0 where
  pub instrs : List Instr
  pub entries : List ℕ

-- a script as code
pub record FlatScript : Type 0 where
  pub code : Flat
  pub request : ℕ
  pub reply : Option ℕ
  pub vars : ℕ
  pub patterns : List (List ℕ)
  pub tables : List TableSpec
  pub parameters : Parameters
