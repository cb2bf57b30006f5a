-- The pending datagram is the last one.
use Rattle.std.proofs.Common.{◌≡◌, refl, arith, ◌∙◌, Some, None, length-append, append_assoc}
use Rattle.sim_text.specs.Draft.{arrival_of}
use Rattle.sim_text.proofs.Drafts.{not_some}
use Rattle.sim_text.proofs.draft.Draft.extend.Goals as goal

pub returns-clause-taken : goal.returns-clause-taken
returns-clause-taken c =
    let here : Some c.in-Some.pending ≡ c.args.self.now.pending = c.in-Some.ensures.value in (
      c.args.self.now.arrivals.items,
      arrival_of c.in-Some.pending,
      not_some c.args.self.now.end (λ ended. let none : Some c.in-Some.pending ≡ None = here ∙ c.requires.draft.after ended in absurd (cc)),
      rw (← here) refl,
      omega (arith, length-append c.args.front.now c.args.back.now),
      rw (c.in_ok-extend_from_slice-2.ensures.items, c.in_ok-extend_from_slice.ensures.items, append_assoc) refl,
    )
