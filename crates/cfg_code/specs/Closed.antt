-- Closed code: every number in it names something that is there.
use Rattle.std.specs.Prelude.{ℕ, Bool, true, ◌&&◌, nat_lt, IsTrue, List, length, Option, Some, None}
use Rattle.std.specs.List.{list_all}
use Rattle.cfg_tree.specs.declared.raw.RouteKind.TheVariants.{Route, Begins}
use Rattle.pv_values.specs.declared.block.BlockKind.TheVariants.{Request}
use Rattle.cfg_tree.specs.Closed.{Names, closed_use, closed_func, closed_reply, is_below}
use Rattle.cfg_code.specs.declared.instr.Instr.{Instr}
use Rattle.cfg_code.specs.declared.instr.Instr.TheVariants.{Load, Store, Read, ReadItem, Write, WriteItem, CallFunction, CallBlock, Match}
use Rattle.cfg_code.specs.Flat.{FlatScript}

abbrev pub closed_instr : Names → Instr → Bool
closed_instr names (Load x) = nat_lt x names.vars
closed_instr names (Store x) = nat_lt x names.vars
closed_instr names (Read x) = closed_use names x
closed_instr names (ReadItem way t) = nat_lt t names.tables
closed_instr names (Write x) = closed_use names x
closed_instr names (WriteItem way t) = nat_lt t names.tables
closed_instr names (CallFunction f) = closed_func names f
closed_instr names (CallBlock block) = names.has_block Route block
closed_instr names (Match p) = nat_lt p names.patterns
closed_instr names i = true

abbrev pub closed_code : Names → List Instr → Bool
closed_code names = list_all (closed_instr names)

-- what there is in a script as code
abbrev pub names_of : FlatScript → Names
names_of loaded = record {
  has_block = is_below (length loaded.code.entries);
  patterns = length loaded.patterns;
  tables = length loaded.tables;
  vars = loaded.vars;
}

-- every number names something: in the instructions, and those of the request and the reply block
abbrev pub IsClosedCode : FlatScript → Type 0
IsClosedCode loaded = IsTrue (
    (names_of loaded).has_block (Begins Request) loaded.request && closed_reply (names_of loaded) loaded.reply
    && closed_code (names_of loaded) loaded.code.instrs)
