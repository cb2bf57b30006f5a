use Rattle.std.proofs.Common.{◌≡◌, map, take}
use Rattle.cfg_settings.proofs.setting.Settings.table_specs.Given as goal

abbrev pub invariant-loop-table : goal.invariant-loop-table
invariant-loop-table l = l.specs ≡ map (λ t. t.1) (take l.table-index l.self.tables)
