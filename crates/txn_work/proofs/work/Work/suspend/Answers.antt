use Rattle.std.proofs.Common.{ap, refl, ℕ, ◌∙◌, Some}
use Rattle.txn_dialogue.specs.Rounds.{suspending}
use Rattle.txn_work.specs.Works.{work_shown}
use Rattle.txn_work.proofs.Shown.{stays}
use Rattle.txn_work.proofs.work.Work.suspend.Goals as goal

pub returns-clause-suspends : goal.returns-clause-suspends
returns-clause-suspends c = λ pool r d h.
    let w = work_shown c.args.txn.now r c.args.self.now d.state.history d.base in
    stays pool c.args.txn.now _ r c.args.self.now c.args.self.now d (suspending d) h refl refl refl refl refl refl refl h.sends
    (ap (λ (x : ℕ). record w { state = record w.state { suspension = w.state.label; suspension_due = Some x } }) c.after.ensures ∙ ap suspending h.same)
