-- Behind what was shown comes what the datagrams that are left show.
use Rattle.std.proofs.Common.{◌≡◌, drop}
use Rattle.cfg_tree.specs.declared.script.Script.{Script}
use Rattle.cfg_code.specs.Follows.{Stands}
use Rattle.sim_text.specs.Trace.{items_text}
use Rattle.solo_run.specs.Objects.{fresh_tables}
use Rattle.solo_run.specs.Solo.{solo}
use Rattle.solo_run.specs.Running.{proxy_of}
use Rattle.solo_run.proofs.Turns.{LeavesOf}
use Rattle.solo_run.proofs.run.solo_trace.Given as goal

abbrev pub invariant-loop-arrival : goal.invariant-loop-arrival
invariant-loop-arrival l =
    ((script : Script) → Stands l.loaded script → LeavesOf (proxy_of script l.settings) (drop l.arrival-index l.arrival-items) l.worker.objects
    (items_text (solo (proxy_of script l.settings) l.arrival-items (fresh_tables l.loaded.tables))))
    × (l.shop ≡ l.loaded.patterns)
