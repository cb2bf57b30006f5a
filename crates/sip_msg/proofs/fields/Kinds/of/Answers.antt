use Rattle.std.proofs.Common.{refl, arith}
use Rattle.sip_msg.proofs.Tally.{starts, step_new, step_more, few, done}
use Rattle.sip_msg.proofs.fields.Kinds.of.Goals.{then-counts-kind-eq0, else-counts-kind-eq0}
use Rattle.sip_msg.proofs.fields.Kinds.of.Goals as goal

pub overflow_add-counts : goal.overflow_add-counts
overflow_add-counts c =
    let le = few c.args.fields.now c.loop-place.place c.number-kind.result c.loop-place.firsts c.loop-place.counts c.number-kind.ensures.below c.loop-place.invariant in
    omega (arith, le)

pub loop-place-init : goal.loop-place-init
loop-place-init c = starts c.args.fields.now _ _ refl refl (refl, (refl, (refl, (refl, (refl, (refl, (refl, (refl, (refl, (refl, (refl, tt)))))))))))

pub loop-place-preserved : goal.loop-place-preserved
loop-place-preserved c = elim c.if-counts-kind-eq0.branch [
  | then-counts-kind-eq0 w ↦ step_new c.args.fields.now c.loop-place.place c.number-kind.result _ c.loop-place.firsts c.loop-place.counts c.if-counts-kind-eq0.firsts c.loop-place-test.true c.number-kind.ensures.value c.number-kind.ensures.below c.loop-place.invariant w.if-counts-kind-eq0.true w.firsts-is
  | else-counts-kind-eq0 w ↦ step_more c.args.fields.now c.loop-place.place c.number-kind.result _ c.loop-place.firsts c.loop-place.counts c.if-counts-kind-eq0.firsts c.loop-place-test.true c.number-kind.ensures.value c.number-kind.ensures.below c.loop-place.invariant w.if-counts-kind-eq0.false w.firsts-is
]

pub invariant_of-result : goal.invariant_of-result
invariant_of-result c = record { tally = done c.args.fields.now c.loop-place.place c.loop-place.firsts c.loop-place.counts c.loop-place-test.false c.loop-place.invariant }
