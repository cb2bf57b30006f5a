use Rattle.std.proofs.Common.{◌≡◌, sym, ap, ◌∙◌, subst}
use Rattle.ht_core.specs.Queues.{Queue}
use Rattle.ht_core.specs.Held.{AreQueued, comes_before}
use Rattle.ht_core.proofs.Places.{queues_all, not_before}
use Rattle.ht_core.proofs.expiry.queue_if_earlier.Goals as goal
use Rattle.ht_core.proofs.expiry.queue_if_earlier.Goals.{then-comes_before, else-comes_before}

pub trim-requires-clause-queued : goal.trim-requires-clause-queued
trim-requires-clause-queued c =
    let es = c.args.items.now.entries in
    let old = c.args.dues.now.places in
    elim c.if-comes_before.branch [
      | then-comes_before w ↦ subst (λ (q : Queue). AreQueued es q.places) (sym w.dues-is) (queues_all es old _ c.args.place c.requires.others w.queue.ensures.queued)
      | else-comes_before w ↦ subst (λ (q : Queue). AreQueued es q.places) (sym w.dues-is)
          (not_before es old c.args.place c.args.queued c.requires.others c.requires.queued
          (ap (λ m. comes_before m c.args.queued) (sym c.due_at.ensures) ∙ sym c.comes_before.ensures ∙ w.if-comes_before.false))
    ]
