-- The run goes on from ask to ask, as its course does.
use Rattle.std.proofs.Common.{◌≡◌, [], sym, ap, ◌∙◌, subst}
use Rattle.cfg_code.specs.Flat.{FlatScript}
use Rattle.host_meaning.specs.declared.ask.Heard.TheVariants as heard
use Rattle.host_meaning.specs.Host.{run_of}
use Rattle.script_host.specs.Lending.{around_of, state_of}
use Rattle.script_host.specs.Running.{HostWaits, with_ask, IsHostWent, ask_of}
use Rattle.script_host.specs.Asking.{as_heard, as_asked}
use Rattle.script_host.specs.declared.ask.Ask.TheVariants as ask
use Rattle.solo_run.specs.Running.{IsAnswered}
use Rattle.solo_run.proofs.OnItsWay.{IsOn, begins, goes_on, ends}
use Rattle.solo_run.proofs.request.run_block.Goals as goal

pub loop-objects-init : goal.loop-objects-init
loop-objects-init c = (
  λ script stands.
      let number : c.loaded.inside.request ≡ script.request = ap (λ (l : FlatScript). l.request) c.loaded.view_is ∙ stands.request in
      let a = around_of c.args.lent.now in
      begins c.args.lent.now c.args.at script (state_of c.args.data) c.args.objects.now c.in-Ok.run' heard.Start c.requires.stateless
      (subst (λ n. HostWaits c.args.lent.now.loaded.now a c.in-Ok.run' (λ _. run_of script n a (state_of c.args.data))) number
      (c.in-Ok.ensures.waits script stands a)),
  c.in-Ok.ensures.same,
)

pub returns-in_err-answer-in-Asks-clause-same : goal.returns-in_err-answer-in-Asks-clause-same
returns-in_err-answer-in-Asks-clause-same c = c.advance.ensures.same ∙ c.loop-objects.invariant.1

pub loop-objects-preserved : goal.loop-objects-preserved
loop-objects-preserved c = (
  λ script stands.
      let by_ask : IsAnswered c.loaded.inside.patterns c.args.at c.loop-objects.objects (as_asked (ask_of c.advance.new.self) [])
      c.in_ok-answer-in-Asks.answer c.answer.new.self = subst
      (λ q. IsAnswered c.loaded.inside.patterns c.args.at c.loop-objects.objects (as_asked q []) c.in_ok-answer-in-Asks.answer c.answer.new.self)
      c.take_ask.ensures.asked c.in_ok-answer-in-Asks.ensures in
      let answered : IsAnswered c.args.lent.now.loaded.now.patterns c.args.at c.loop-objects.objects (as_asked (ask_of c.advance.new.self) [])
      c.in_ok-answer-in-Asks.answer c.answer.new.self = subst
      (λ p. IsAnswered p c.args.at c.loop-objects.objects (as_asked (ask_of c.advance.new.self) []) c.in_ok-answer-in-Asks.answer c.answer.new.self)
      (ap (λ (l : FlatScript). l.patterns) c.loaded.view_is) by_ask in
      subst (λ run. IsOn c.args.lent.now c.args.at script (state_of c.args.data) c.args.objects.now run (as_heard c.in_ok-answer-in-Asks.answer) c.answer.new.self)
      (sym c.take_ask.ensures.same)
      (goes_on c.args.lent.now c.args.at script (state_of c.args.data) c.args.objects.now c.loop-objects.run c.advance.new.self
      (as_heard c.loop-objects.answer) c.loop-objects.objects c.answer.new.self c.in_ok-answer-in-Asks.answer (c.loop-objects.invariant.0 script stands)
      (c.in-Asks.ensures.next (c.loop-objects.invariant.1 ∙ c.requires.patterns)) answered),
  c.advance.ensures.same ∙ c.loop-objects.invariant.1,
)

pub returns-in-Ended-clause-end : goal.returns-in-Ended-clause-end
returns-in-Ended-clause-end c = λ script stands.
    ends c.args.lent.now c.args.at script (state_of c.args.data) c.args.objects.now c.loop-objects.run c.advance.new.self
    (as_heard c.loop-objects.answer) c.loop-objects.objects c.close.result.0 c.close.result.1 (c.loop-objects.invariant.0 script stands)
    (c.in-Ended.ensures.next (c.loop-objects.invariant.1 ∙ c.requires.patterns)) c.close.ensures.end.0 c.close.ensures.end.1

pub returns-in-Ended-clause-same : goal.returns-in-Ended-clause-same
returns-in-Ended-clause-same c = c.close.ensures.same ∙ c.advance.ensures.same ∙ c.loop-objects.invariant.1

pub returns-in-NoMemory-clause-same : goal.returns-in-NoMemory-clause-same
returns-in-NoMemory-clause-same c = c.advance.ensures.same ∙ c.loop-objects.invariant.1
