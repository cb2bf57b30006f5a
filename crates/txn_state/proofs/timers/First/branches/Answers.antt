use Rattle.std.proofs.Common.{◌∙◌, sym, ap, subst, ◌+◌, ◌∷◌, drop, arith}
use Rattle.std.proofs.lemmas.List.{drop_more, drop_all}
use Rattle.txn_dialogue.specs.Timers.{branch_timers, branches_timers}
use Rattle.txn_state.specs.Kept.{branch_shown, branches_shown}
use Rattle.txn_state.specs.Due.{Adds}
use Rattle.txn_state.proofs.Firsts.{walks, walked}
use Rattle.txn_state.proofs.timers.First.branches.Goals as goal

pub loop-n-preserved : goal.loop-n-preserved
loop-n-preserved c = record {
  same = c.branch-first.ensures.same ∙ c.loop-n.invariant.same;
  leads = λ request r a.
      let n = c.loop-n.n in
      let bs = c.args.branches.now in
      let b = c.index-branches-n.result in
      c.loop-n.invariant.leads request r
      (walks request c.args.self.above c.branch-first.result.above c.loop-n.first.first c.branch-first.result.first r n b (drop n bs) (drop (n + 1) bs)
      (drop_more bs n b c.loop-n-test.true ∙ ap (λ x. x ∷ drop (n + 1) bs) (sym c.index-branches-n.is)) (c.branch-first.ensures.same ∙ c.loop-n.invariant.same)
      (subst (λ m. Adds m c.loop-n.first.first (branch_timers n (branch_shown request b)) c.branch-first.result.first) c.loop-n.invariant.same (c.branch-first.ensures.adds request))
      (subst (λ m. Adds m c.branch-first.result.first (branches_timers (n + 1) (branches_shown request (drop (n + 1) bs))) r) (sym (c.branch-first.ensures.same ∙ c.loop-n.invariant.same)) a));
}

pub returns-clause-adds : goal.returns-clause-adds
returns-clause-adds c = λ request. c.loop-n.invariant.leads request c.loop-n.first.first (walked request c.args.self.above c.loop-n.first.first c.loop-n.n _ (drop_all c.loop-n.n c.args.branches.now (omega arith)))
