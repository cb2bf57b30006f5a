use Rattle.std.proofs.Common.{◌≡◌, ◌<◌, refl, sym, ap, subst, ◌∙◌, arith}
use Rattle.script_vm.specs.Measure.{work_left}
use Rattle.script_host.specs.declared.row.Going.TheVariants as going
use Rattle.script_host.specs.declared.run.HostWent.TheVariants as went
use Rattle.script_host.specs.Asking.{as_heard}
use Rattle.script_host.specs.Lending.{around_of, state_of}
use Rattle.script_host.specs.Rows.{IsGoing, AsksBelow, left_of, state_under, rank, most_asks}
use Rattle.script_host.specs.Running.{IsHostWent, OnAsks, OnEnded, asks_left}
use Rattle.script_host.proofs.Runs.{heard_at, asks_at, heard_short}
use Rattle.script_host.proofs.run.HostRun.advance.Goals as goal

pub returns-in-Ok-Tells-clause-next : goal.returns-in-Ok-Tells-clause-next
returns-in-Ok-Tells-clause-next c = λ p next w.
    let a = around_of c.args.lent.now in
    c.run_on.ensures.next p (next (as_heard c.args.answer))
    (heard_at _ a c.args.self.now c.resume.new.state next (as_heard c.args.answer) c.in-Ok-Tells.told w
    (subst (λ g. IsGoing a (left_of a c.args.self.now.wait (state_under c.args.self.now.wait c.args.self.now.state) (as_heard c.args.answer)) g c.resume.new.state)
    c.in-Ok-Tells.field-0-is (c.in-Ok-Tells.ensures.goes w.room)))

pub returns-in-Ok-Tells-clause-short : goal.returns-in-Ok-Tells-clause-short
returns-in-Ok-Tells-clause-short c = λ p next w.
    let a = around_of c.args.lent.now in
    c.run_on.ensures.short p (next (as_heard c.args.answer))
    (heard_at _ a c.args.self.now c.resume.new.state next (as_heard c.args.answer) c.in-Ok-Tells.told w
    (subst (λ g. IsGoing a (left_of a c.args.self.now.wait (state_under c.args.self.now.wait c.args.self.now.state) (as_heard c.args.answer)) g c.resume.new.state)
    c.in-Ok-Tells.field-0-is (c.in-Ok-Tells.ensures.goes w.room)))

pub returns-in-Ok-Asks-clause-next : goal.returns-in-Ok-Asks-clause-next
returns-in-Ok-Asks-clause-next c = λ p next w.
    let loaded = c.args.lent.now.loaded.now in
    let a = around_of c.args.lent.now in
    subst (λ x. IsHostWent loaded a (next (as_heard c.args.answer)) c.asks.new.self x) (sym c.asks.ensures.asks)
    (subst (λ h. IsHostWent loaded a (next (as_heard c.args.answer)) h went.Asks) (sym c.asks.ensures.new)
    (asks_at _ a c.args.self.now c.resume.new.state next (as_heard c.args.answer) c.in-Ok-Asks.ask c.in-Ok-Asks.wait w
    (subst (λ g. IsGoing a (left_of a c.args.self.now.wait (state_under c.args.self.now.wait c.args.self.now.state) (as_heard c.args.answer)) g c.resume.new.state)
    c.in-Ok-Asks.field-0-is (c.in-Ok-Asks.ensures.goes w.room))))

pub returns-in-Ok-Asks-clause-less : goal.returns-in-Ok-Asks-clause-less
returns-in-Ok-Asks-clause-less c =
    let loaded = c.args.lent.now.loaded.now in
    let below : rank c.in-Ok-Asks.wait < rank c.args.self.now.wait = subst (AsksBelow (rank c.args.self.now.wait)) c.in-Ok-Asks.field-0-is c.in-Ok-Asks.ensures.below in
    subst (λ x. OnAsks x (asks_left loaded c.asks.new.self < asks_left loaded c.args.self.now)) (sym c.asks.ensures.asks)
    (subst (λ h. asks_left loaded h < asks_left loaded c.args.self.now) (sym c.asks.ensures.new)
    (omega (arith, below)))

pub returns-in-Err-clause-next : goal.returns-in-Err-clause-next
returns-in-Err-clause-next c = λ p next w.
    heard_short _ (around_of c.args.lent.now) c.args.self.now c.resume.new.state next (as_heard c.args.answer) w (c.in-Err.ensures.short w.room)
