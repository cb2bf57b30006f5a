use Rattle.std.proofs.Common.{rules, ◌<◌, IfOk, OnErr, replicate, pos, ℕ, ◌+◌, ◌-◌, ◌*◌, ◌≤◌, length, ◌/◌, ◌%◌, Bool, true, false, nat_eq, nat_lt, List, [], ◌∷◌, ◌++◌, slice_index_or, slice_set, bit_and, bit_or, Fits, w8, w32, w64, Bor, MutBor}
use Rattle.std.proofs.Common.{◌≡◌, ap, ◌∙◌, arith}
use Rattle.std.proofs.lemmas.List.{replicate_more}
use Rattle.pv_values.specs.declared.value.Val.TheVariants.{Int as IntValue}
use Rattle.script_host.proofs.run.env_at_start.Goals as goal

-- src/run.rt:186:5
pub loop-init : goal.loop-init
loop-init c = c.new-list.ensures

-- src/run.rt:186:5
pub loop-preserved : goal.loop-preserved
loop-preserved c = (c.in_ok-push.ensures).ok ∙ (ap (λ l. l ++ IntValue (pos 0) ∷ []) c.loop.invariant ∙ replicate_more c.loop.counter (IntValue (pos 0)))

-- src/run.rt:182:1
pub returns : goal.returns
returns c = ap (λ l. record { vars = l; rc = pos 0 }) (c.loop.invariant ∙ ap (λ n. replicate n (IntValue (pos 0))) (omega (arith, c.loop-test.false, c.loop.auto.counter-end)))
