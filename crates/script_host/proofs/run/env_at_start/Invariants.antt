use Rattle.std.proofs.Common.{◌≡◌, ◌<◌, IfOk, OnErr, replicate, pos, ℕ, ◌+◌, ◌-◌, ◌*◌, ◌≤◌, length}
use Rattle.pv_values.specs.declared.value.Val.TheVariants.{Int as IntValue}
use Rattle.script_host.proofs.run.env_at_start.Given as goal

abbrev pub invariant-loop : goal.invariant-loop
invariant-loop l = l.list ≡ replicate l.counter (IntValue (pos 0))
