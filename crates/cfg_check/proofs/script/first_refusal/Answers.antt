use Rattle.std.proofs.Common.{◌∙◌, sym, true≢false}
use Rattle.cfg_check.proofs.Firsts.{step_stays, step_changes}
use Rattle.cfg_check.proofs.script.first_refusal.Goals.{then-not-goes_before, else-not-goes_before}
use Rattle.cfg_check.proofs.script.first_refusal.Goals as goal

pub loop-refusal-preserved : goal.loop-refusal-preserved
loop-refusal-preserved c =
    let step = c.loop-refusal in
    let x = c.refusal-item in
    elim c.if-not-goes_before.branch [
      | then-not-goes_before w ↦
          rw w.least-is (step_changes _ _ _ step.least.now x.result c.loop-refusal-test.true x.is step.invariant
          (λ before. true≢false (sym (c.goes_before.ensures.1 before) ∙ w.if-not-goes_before.true)))
      | else-not-goes_before w ↦
          rw w.least-is (step_stays _ _ _ step.least.now x.result c.loop-refusal-test.true x.is step.invariant
          (c.goes_before.ensures.0 w.if-not-goes_before.false))
    ]
