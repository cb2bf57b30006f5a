use Rattle.std.proofs.Common.{◌≡◌, take, drop}
use Rattle.cfg_tree.specs.Names.{table_and_key}
use Rattle.cfg_settings.proofs.Names.{behind}
use Rattle.cfg_settings.proofs.name.table_and_key.Given as goal

abbrev pub invariant-loop-at : goal.invariant-loop-at
invariant-loop-at l = table_and_key l.text ≡ behind (take l.at l.text) (table_and_key (drop l.at l.text))
