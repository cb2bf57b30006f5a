-- Code of blocks.
use Rattle.std.specs.Prelude.{ℕ, List, [], slice_index_or}
use Rattle.cfg_tree.specs.declared.script.Stmt.{Stmt}
use Rattle.cfg_code.specs.declared.instr.Instr.{Instr}
use Rattle.cfg_code.specs.Code.{text_of_block}
use Rattle.cfg_code.specs.Follows.{HasAt}

-- each block's instructions stand where it begins
abbrev pub StandAtEntries : List Instr → List ℕ → List (List Stmt) → Type 0
StandAtEntries instrs entries blocks =
    (b : ℕ) → HasAt instrs (slice_index_or entries b 0) (text_of_block (slice_index_or blocks b []))
