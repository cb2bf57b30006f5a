-- Where nothing was decided, the request is dropped.
use Rattle.std.proofs.Common.{◌≡◌, ap, ◌∙◌, ◌++◌, List, ℕ}
use Rattle.std.proofs.lemmas.Result.{on_ok_weaker}
use Rattle.sim_text.specs.declared.item.TraceItem.TheVariants.{Drop}
use Rattle.sim_text.specs.Trace.{item_text}
use Rattle.host_meaning.specs.Run.{received}
use Rattle.solo_run.proofs.Decisions.{nothing_decided}
use Rattle.solo_run.proofs.request.conclude.Goals as goal

pub returns-in-Undecided : goal.returns-in-Undecided
returns-in-Undecided c = on_ok_weaker c.push_drop.result (λ shown h. shown
    ∙ ap (λ w. c.args.trace.now.items ++ item_text (Drop c.args.at w)) c.silent_cause.ensures
    ∙ ap (λ (t : List ℕ). c.args.trace.now.items ++ t)
    (nothing_decided c.args.at (received c.args.b.now c.args.m.now) c.args.source c.args.facts.now c.args.how c.in-Undecided.is h)) c.push_drop.ensures
