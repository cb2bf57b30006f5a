use Rattle.std.proofs.Common.{◌+◌, sym, subst, arith}
use Rattle.fork_core.proofs.Best.{BestBelow, best_more, best_skip, best_found, best_missing}
use Rattle.fork_core.proofs.Decided.{is_best, best_is_none}
use Rattle.fork_core.proofs.context.Context.best.Goals as goal
use Rattle.fork_core.proofs.context.Context.best.Goals.{in-Kept, in_default}

pub loop-b-preserved : goal.loop-b-preserved
loop-b-preserved c =
    elim c.match-mark.branch [
      | in-Kept w ↦
          subst (λ best. BestBelow c.args.self.now (c.loop-b.b + 1) best) (sym w.best-is)
          (best_more c.args.self.now c.loop-b.b w.in-Kept.code c.loop-b.best w.better.result c.loop-b.invariant (omega arith) (cc) w.better.ensures)
      | in_default w ↦
          subst (λ best. BestBelow c.args.self.now (c.loop-b.b + 1) best) (sym w.best-is)
          (best_skip c.args.self.now c.loop-b.b c.loop-b.best c.loop-b.invariant (λ d is. w.in_default.not-Kept d (cc)))
    ]

pub returns-in-Some-clause-found : goal.returns-in-Some-clause-found
returns-in-Some-clause-found c = λ h s.
    best_found c.args.self.now h c.loop-b.b (c.in-Some.b, c.in-Some.field-0-1) s (omega arith)
    (subst (λ best. BestBelow c.args.self.now c.loop-b.b best) c.in-Some.is c.loop-b.invariant)

pub returns-in-None-clause-none : goal.returns-in-None-clause-none
returns-in-None-clause-none c = λ h s.
    best_missing c.args.self.now h c.loop-b.b s (omega arith)
    (subst (λ best. BestBelow c.args.self.now c.loop-b.b best) c.in-None.is c.loop-b.invariant)

pub returns-in-Some-clause-value : goal.returns-in-Some-clause-value
returns-in-Some-clause-value c = λ h s.
    let w =
    best_found c.args.self.now h c.loop-b.b (c.in-Some.b, c.in-Some.field-0-1) s (omega arith)
    (subst (λ best. BestBelow c.args.self.now c.loop-b.b best) c.in-Some.is c.loop-b.invariant) in
    (w.0, w.1, is_best h w.0 w.2)

pub returns-in-None-clause-value : goal.returns-in-None-clause-value
returns-in-None-clause-value c = λ h s.
    best_is_none h
    (best_missing c.args.self.now h c.loop-b.b s (omega arith)
    (subst (λ best. BestBelow c.args.self.now c.loop-b.b best) c.in-None.is c.loop-b.invariant))
