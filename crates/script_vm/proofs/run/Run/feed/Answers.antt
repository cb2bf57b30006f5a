use Rattle.std.proofs.Common.{◌∙◌, ap}
use Rattle.script_vm.proofs.Goes.{asks_as, ended_as}
use Rattle.script_vm.proofs.run.Run.feed.Goals as goal

pub returns-in-Ok-copied-clause-next : goal.returns-in-Ok-copied-clause-next
returns-in-Ok-copied-clause-next c = λ next waits.
    asks_as c.args.loaded.now (next c.args.answer) c.advance.new.self c.in-Ok-copied.ask (c.in-Asks.ensures.next (c.in-Ok.ensures ∙ ap (λ l. l.patterns) c.loaded.view_is) next waits) (c.in-Ok-copied.ensures ∙ c.asked.ensures.shows)

pub returns-in-Ended-clause-next : goal.returns-in-Ended-clause-next
returns-in-Ended-clause-next c = λ next waits.
    ended_as c.args.loaded.now (next c.args.answer) c.advance.new.self _ _ (c.in-Ended.ensures.next (c.in-Ok.ensures ∙ ap (λ l. l.patterns) c.loaded.view_is) next waits) c.close-env.ensures.end.0 c.close-env.ensures.end.1
