-- One datagram after another, and then the end.
use Rattle.std.proofs.Common.{◌≡◌, ℕ, List, [], ◌∷◌, ◌++◌, drop, suc, ◌+◌, refl, sym, ap, ◌∙◌, subst, arith, append-nil}
use Rattle.std.proofs.Math.Seq.{drop-cons}
use Rattle.std.proofs.Math.ListN.{drop_of_length-le}
use Rattle.outside_ports.specs.declared.port.Arrival.{Arrival}
use Rattle.sim_text.specs.Trace.{end_text, items_text}
use Rattle.solo_run.specs.Objects.{fresh_tables}
use Rattle.solo_run.specs.Solo.{solo}
use Rattle.solo_run.specs.Running.{proxy_of}
use Rattle.solo_run.proofs.Turns.{LeavesOf, next_turn}
use Rattle.solo_run.proofs.run.solo_trace.Goals as goal

pub loop-arrival-preserved : goal.loop-arrival-preserved
loop-arrival-preserved c = (
  λ script stands.
      let p = proxy_of script c.settings_of-settings.result in
      let items = c.deref-arrival-items.result.now in
      let i = c.loop-arrival.arrival-index in
      let whole = items_text (solo p items (fresh_tables c.args.loaded.now.tables)) in
      let one : suc i ≡ i + 1 = omega arith in
      let next : drop i items ≡ c.arrival-item.result ∷ drop (i + 1) items =
      drop-cons items i c.arrival-item.result (omega (arith, c.loop-arrival-test.true, c.loop-arrival.auto.arrival-index-end))
      ∙ ap (λ (a : Arrival). a ∷ drop (suc i) items) (sym c.arrival-item.is) ∙ ap (λ n. c.arrival-item.result ∷ drop n items) one in
      next_turn p c.arrival-item.result (drop (i + 1) items) c.loop-arrival.worker.objects c.handle.new.self.objects whole
      (c.in_ok-handle.ensures.shown script stands)
      (subst (λ left. LeavesOf p left c.loop-arrival.worker.objects whole) next (c.loop-arrival.invariant.0 script stands)),
  c.handle.ensures.same ∙ c.loop-arrival.invariant.1,
)

pub returns : goal.returns
returns c = λ script stands.
    let p = proxy_of script c.settings_of-settings.result in
    let items = c.deref-arrival-items.result.now in
    let objects = c.loop-arrival.worker.objects in
    let whole = items_text (solo p items (fresh_tables c.args.loaded.now.tables)) in
    let none : drop c.loop-arrival.arrival-index items ≡ [] =
    drop_of_length-le items (omega (arith, c.loop-arrival-test.false, c.loop-arrival.auto.arrival-index-end)) in
    let left = subst (λ xs. LeavesOf p xs objects whole) none (c.loop-arrival.invariant.0 script stands) in
    let all : objects.trace.items ≡ whole = sym (append-nil objects.trace.items) ∙ left in
    c.in_ok-push_end.ensures ∙ ap (λ (t : List ℕ). t ++ end_text c.args.scenario.end 0) all
    ∙ rw (c.settings_of-settings.ensures script stands, c.deref-arrival-items.ensures.value, stands.tables) refl
