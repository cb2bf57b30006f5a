-- A table was made for each specification so far.
use Rattle.std.proofs.Common.{◌≡◌, map, take}
use Rattle.ht_core.specs.Tables.{fresh}
use Rattle.ht_core.specs.Shown.{state_of}
use Rattle.solo_run.proofs.objects.Objects.new.Given as goal

abbrev pub invariant-loop-spec : goal.invariant-loop-spec
invariant-loop-spec l = map state_of l.tables.items ≡ map fresh (take l.spec-index l.specs)
