use Rattle.std.proofs.Common.{◌≡◌, ◌<◌, ◌*◌, [], refl, sym, ap, subst, ◌∙◌, arith}
use Rattle.dialogue.specs.Course.{Ends, Asks}
use Rattle.script_vm.specs.Asking.{shown_ask}
use Rattle.script_vm.specs.Measure.{work_left}
use Rattle.host_meaning.specs.Run.{Tells, Lacks}
use Rattle.host_meaning.specs.Rows.{row}
use Rattle.script_host.specs.declared.row.Going.TheVariants as going
use Rattle.script_host.specs.declared.run.HostRun.{HostRun}
use Rattle.script_host.specs.declared.run.HostWent.TheVariants as went
use Rattle.script_host.specs.Lending.{around_of, state_of}
use Rattle.script_host.specs.Rows.{IsGoing, AsksBelow, rank, most_asks}
use Rattle.script_host.specs.Running.{IsHostWent, OnAsks, OnEnded, asks_left}
use Rattle.script_host.proofs.Runs.{asks_on, still_ended, ends_again, told_at, goes_at, ends_at, short_at}
use Rattle.script_host.proofs.run.HostRun.run_on.Goals as goal

pub asks-init : goal.asks-init
asks-init c = record { is = λ p whole at. at; less = omega arith; again = λ how h. refl; same = c.shop.view_is }

pub asks-preserved : goal.asks-preserved
asks-preserved c =
    let before = state_of c.asks.self.state in
    let after = state_of c.row_of.new.state in
    let around = around_of c.args.lent.now in
    record {
      is = λ p whole at.
          told_at _ _ c.a_row_that_asks_nothing_keeps.ensures c.asks.self.run c.advance.new.self c.asks.told c.in-Ok-Tells.answer before after _
          (c.asks.invariant.is p whole at) (c.in-Asks.ensures.next (c.asks.invariant.same ∙ p))
          (subst (λ q. row around q before ≡ Ends (Tells c.in-Ok-Tells.answer after)) c.asked-asked.ensures.shows
          (subst (λ g. IsGoing around (row around (shown_ask c.asked-asked.result) before) g c.row_of.new.state) c.in-Ok-Tells.field-0-is c.in-Ok-Tells.ensures.row));
      less = omega (arith, c.in-Asks.ensures.less, c.asks.invariant.less);
      again = λ how h. asks_on c.advance.result (c.advance.ensures.again how (still_ended c.args.self.now c.asks.self how (c.asks.invariant.again how h) h)).0 c.in-Asks.is;
      same = c.advance.ensures.same ∙ c.asks.invariant.same;
    }

pub returns-in-Ok-Asks-clause-next : goal.returns-in-Ok-Asks-clause-next
returns-in-Ok-Asks-clause-next c =
    let before = state_of c.asks.self.state in
    let loaded = c.args.lent.now.loaded.now in
    let around = around_of c.args.lent.now in
    λ p whole at.
    subst (λ x. IsHostWent loaded around whole c.asks-in-Ok-Asks.new.self x) (sym c.asks-in-Ok-Asks.ensures.asks)
    (subst (λ h. IsHostWent loaded around whole h went.Asks) (sym c.asks-in-Ok-Asks.ensures.new)
    (goes_at _ _ c.asks.self.run c.asks.told before _ _ (c.asks.invariant.is p whole at) (c.in-Asks.ensures.next (c.asks.invariant.same ∙ p))
    (subst (λ q. IsGoing around (row around q before) (going.Asks c.in-Ok-Asks.ask c.in-Ok-Asks.wait) c.row_of.new.state) c.asked-asked.ensures.shows
    (subst (λ g. IsGoing around (row around (shown_ask c.asked-asked.result) before) g c.row_of.new.state) c.in-Ok-Asks.field-0-is c.in-Ok-Asks.ensures.row))))

pub returns-in-Ok-Asks-clause-less : goal.returns-in-Ok-Asks-clause-less
returns-in-Ok-Asks-clause-less c =
    let loaded = c.args.lent.now.loaded.now in
    let below : rank c.in-Ok-Asks.wait < most_asks = subst (AsksBelow most_asks) c.in-Ok-Asks.field-0-is c.in-Ok-Asks.ensures.below in
    subst (λ x. OnAsks x (asks_left loaded c.asks-in-Ok-Asks.new.self < most_asks * work_left loaded c.args.self.now.run)) (sym c.asks-in-Ok-Asks.ensures.asks)
    (subst (λ h. asks_left loaded h < most_asks * work_left loaded c.args.self.now.run) (sym c.asks-in-Ok-Asks.ensures.new)
    (omega (arith, below, c.in-Asks.ensures.less, c.asks.invariant.less)))

pub returns-in-Ok-Asks-clause-same : goal.returns-in-Ok-Asks-clause-same
returns-in-Ok-Asks-clause-same c = c.advance.ensures.same ∙ c.asks.invariant.same

pub returns-in-Err-clause-next : goal.returns-in-Err-clause-next
returns-in-Err-clause-next c = λ p whole at. short_at _ _ c.asks.self.run c.asks.told (state_of c.asks.self.state) _ _ (c.asks.invariant.is p whole at) c.in-Err.ensures.err

pub returns-in-Err-clause-same : goal.returns-in-Err-clause-same
returns-in-Err-clause-same c = c.advance.ensures.same ∙ c.asks.invariant.same

pub returns-in-Ended-clause-next : goal.returns-in-Ended-clause-next
returns-in-Ended-clause-next c = λ p whole at.
    subst (λ x. IsHostWent c.args.lent.now.loaded.now (around_of c.args.lent.now) whole c.ends.new.self x) (sym c.ends.ensures.ended)
    (subst (λ h. IsHostWent c.args.lent.now.loaded.now (around_of c.args.lent.now) whole h went.Ended) (sym c.ends.ensures.new)
    (ends_at _ _ c.asks.self.run c.asks.told (record c.asks.self { run = c.advance.new.self }) _ (c.asks.invariant.is p whole at) (c.in-Ended.ensures.next (c.asks.invariant.same ∙ p))))

pub returns-in-Ended-clause-short : goal.returns-in-Ended-clause-short
returns-in-Ended-clause-short c = λ p whole at.
    subst (λ x. OnEnded x (IsHostWent c.args.lent.now.loaded.now (around_of c.args.lent.now) whole c.ends.new.self went.NoMemory)) (sym c.ends.ensures.ended)
    (short_at _ _ c.asks.self.run c.asks.told (state_of c.asks.self.state) c.ends.new.self _ (c.asks.invariant.is p whole at)
    (ap (λ (h : HostRun). state_of h.state) c.ends.ensures.new))

pub returns-in-Ended-clause-less : goal.returns-in-Ended-clause-less
returns-in-Ended-clause-less c =
    let loaded = c.args.lent.now.loaded.now in
    subst (λ x. OnAsks x (asks_left loaded c.ends.new.self < most_asks * work_left loaded c.args.self.now.run)) (sym c.ends.ensures.ended) tt

pub returns-in-Ended-clause-again : goal.returns-in-Ended-clause-again
returns-in-Ended-clause-again c = λ how h.
    let same = c.asks.invariant.again how h in
    let over = c.advance.ensures.again how (still_ended c.args.self.now c.asks.self how same h) in
    (c.ends.ensures.ended, ends_again c.args.self.now c.asks.self c.ends.new.self c.advance.new.self how same h over.1 c.ends.ensures.new)

pub returns-in-Ok-Asks-clause-again : goal.returns-in-Ok-Asks-clause-again
returns-in-Ok-Asks-clause-again c = λ how h.
    asks_on c.advance.result (c.advance.ensures.again how (still_ended c.args.self.now c.asks.self how (c.asks.invariant.again how h) h)).0 c.in-Asks.is

pub returns-in-Ended-clause-same : goal.returns-in-Ended-clause-same
returns-in-Ended-clause-same c = c.advance.ensures.same ∙ c.asks.invariant.same

pub returns-in-NoMemory-clause-next : goal.returns-in-NoMemory-clause-next
returns-in-NoMemory-clause-next c = λ p whole at. short_at _ _ c.asks.self.run c.asks.told (state_of c.asks.self.state) _ _ (c.asks.invariant.is p whole at) refl

pub returns-in-NoMemory-clause-same : goal.returns-in-NoMemory-clause-same
returns-in-NoMemory-clause-same c = c.advance.ensures.same ∙ c.asks.invariant.same
