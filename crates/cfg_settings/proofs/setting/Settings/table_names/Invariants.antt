use Rattle.std.proofs.Common.{◌≡◌, map, take}
use Rattle.cfg_settings.proofs.setting.Settings.table_names.Given as goal

abbrev pub invariant-loop-table : goal.invariant-loop-table
invariant-loop-table l = l.names ≡ map (λ t. t.0) (take l.table-index l.self.tables)
