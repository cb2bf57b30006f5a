use Rattle.std.proofs.Common.{ap, ◌∙◌}
use Rattle.pv_table.specs.declared.facts.RunData.{RunData}
use Rattle.host_meaning.specs.Run.{kept}
use Rattle.script_host.specs.Lending.{state_of}
use Rattle.script_host.specs.Restoring.{as_before}
use Rattle.script_host.proofs.HandedOn.{asks_next, ends_next, short_next}
use Rattle.script_host.proofs.restorable.RestorableRun.feed.Goals as goal

pub returns-in-Asks-clause-next : goal.returns-in-Asks-clause-next
returns-in-Asks-clause-next c = λ p before next w.
    asks_next _ _ before _ c.advance.new.self c.take_ask-ask.new.self c.args.self.before c.take_ask-ask.result w.began
    (c.in-Asks.ensures.next p next w.waits) c.take_ask-ask.ensures.asked c.take_ask-ask.ensures.same

pub returns-in-Ended-clause-next : goal.returns-in-Ended-clause-next
returns-in-Ended-clause-next c = λ p before next w.
    ends_next _ _ before _ c.advance.new.self c.close-state.result.0 c.close-state.result.1 (c.in-Ended.ensures.next p next w.waits)
    c.close-state.ensures.end.0 c.close-state.ensures.end.1

pub returns-in-NoMemory-clause-next : goal.returns-in-NoMemory-clause-next
returns-in-NoMemory-clause-next c = λ p before next w.
    short_next _ _ before _ c.advance.new.self c.restored.result (c.in-NoMemory.ensures.next p next w.waits)
    (c.restored.ensures ∙ (ap (λ f. as_before f (kept (state_of c.close-state-in-NoMemory.result.0))) w.began
    ∙ ap (λ (d : RunData). as_before before (kept (state_of d))) c.close-state-in-NoMemory.ensures.end.0))
