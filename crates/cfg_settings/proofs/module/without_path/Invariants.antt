use Rattle.std.proofs.Common.{◌≡◌, ◌≤◌, take, drop}
use Rattle.cfg_tree.specs.Settings.{without_path}
use Rattle.cfg_settings.proofs.module.without_path.Given as goal

abbrev pub invariant-loop-at : goal.invariant-loop-at
invariant-loop-at l = (l.from ≤ l.at) × (without_path (take l.at l.text) ≡ drop l.from (take l.at l.text))
