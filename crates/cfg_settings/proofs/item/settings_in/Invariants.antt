use Rattle.std.proofs.Common.{◌≡◌, ◌++◌, drop}
use Rattle.cfg_tree.specs.Settings.{settings_of, setting_refusals, settings_behind}
use Rattle.cfg_settings.proofs.item.settings_in.Given as goal

abbrev pub invariant-loop-item : goal.invariant-loop-item
invariant-loop-item l =
    (settings_of l.items ≡ (settings_behind l.settings (drop l.item-index l.items)).0)
    × (l.fn.refusals ++ setting_refusals l.items ≡ l.refusals ++ (settings_behind l.settings (drop l.item-index l.items)).1)
