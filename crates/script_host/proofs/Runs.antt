-- A run and its course, from ask to ask.
use Rattle.std.proofs.Common.{◌≡◌, ℕ, List, [], inl, inr, refl, sym, ap, ◌∙◌, subst}
use Rattle.dialogue.specs.Course.{Ends, Asks, Takes, and_then}
use Rattle.dialogue.specs.Talk.{Ends as RunEnds, Asks as RunAsks}
use Rattle.pv_values.specs.declared.run.HostAnswer.{HostAnswer}
use Rattle.pv_values.specs.declared.run.HostAsk.{HostAsk}
use Rattle.pv_values.specs.declared.run.How.{How}
use Rattle.cfg_tree.specs.Meaning.{RunTalk}
use Rattle.cfg_code.specs.Flat.{FlatScript}
use Rattle.cfg_code.specs.declared.machine.Wait.TheVariants as wait
use Rattle.cfg_code.specs.Machine.{Configuration, asked_of}
use Rattle.cfg_code.specs.Follows.{Waits}
use Rattle.script_vm.specs.declared.run.Went.{Went}
use Rattle.script_vm.specs.declared.run.Went.TheVariants as moved
use Rattle.script_vm.specs.Running.{IsWent, how_ended}
use Rattle.pv_table.specs.declared.facts.RunData.{RunData}
use Rattle.host_meaning.specs.declared.ask.Heard.{Heard}
use Rattle.host_meaning.specs.Run.{Around, RunState, RowCourse, Tells, Lacks, kept}
use Rattle.host_meaning.specs.Rows.{row}
use Rattle.host_meaning.specs.Host.{HostCourse, Finished, RanOut, resumed, at_once, by_row, host}
use Rattle.script_host.specs.declared.ask.Ask.{Ask}
use Rattle.script_host.specs.declared.row.Wait.TheVariants as host_wait
use Rattle.script_host.specs.declared.row.Waiting.{Waiting}
use Rattle.script_host.specs.declared.row.Waiting.TheVariants as waiting
use Rattle.script_host.specs.declared.row.Going.TheVariants as going
use Rattle.script_host.specs.declared.run.HostRun.{HostRun}
use Rattle.script_host.specs.declared.run.HostWent.TheVariants as went
use Rattle.script_host.specs.Asking.{as_asked}
use Rattle.script_host.specs.Lending.{state_of}
use Rattle.script_host.specs.Rows.{left_of, state_under, IsGoing, IsShort}
use Rattle.script_host.specs.Running.{HostWaits, IsAt, IsHostWent, HasEnded}

-- a run that asks has not ended
pub asks_on : {A : Type 0} (w : Went) → w ≡ moved.Ended → w ≡ moved.Asks → A
asks_on w e f = absurd (cc)

-- a run that had ended before has ended now
pub still_ended : (old now : HostRun) (how : How) → now ≡ old → HasEnded old how → now.run.wait ≡ wait.Over how
still_ended old now how e h = ap (λ (x : HostRun). x.run.wait) e ∙ h.0

-- and stays as it is
pub ends_again : (old now new : HostRun) (run : Configuration) (how : How) → now ≡ old → HasEnded old how → run ≡ now.run →
    new ≡ record now { run = run; wait = waiting.Row host_wait.Start } → new ≡ old
ends_again old now new run how e h r n =
    n ∙ (ap (λ x. record now { run = x; wait = waiting.Row host_wait.Start }) r
    ∙ (ap (λ (x : HostRun). record x { wait = waiting.Row host_wait.Start }) e ∙ ap (λ w. record old { wait = w }) (sym h.1)))

module _ (loaded : FlatScript) (a : Around) where
  -- a run in which data were changed by what it heard
  abbrev pub with_data : HostRun → RunData → HostRun
  with_data h d = record h { state = d }

  -- one that is told something
  pub heard_at : (h : HostRun) (d : RunData) (next : Heard → HostCourse) (x : Heard) (told : HostAnswer) → HostWaits loaded a h next →
      IsGoing a (left_of a h.wait (state_under h.wait h.state) x) (going.Tells told) d → IsAt loaded a h.run told (state_of d) (next x)
  heard_at h d next x told w e = record {
    inner = w.inner;
    waits = w.waits;
    same = w.same x ∙ ap (λ c. and_then c (resumed (λ answer. host a (w.inner answer)))) e;
  }

  -- one that asks on
  pub asks_at : (h : HostRun) (d : RunData) (next : Heard → HostCourse) (x : Heard) (ask : Ask) (w' : Waiting) → HostWaits loaded a h next →
      IsGoing a (left_of a h.wait (state_under h.wait h.state) x) (going.Asks ask w') d →
      IsHostWent loaded a (next x) (record h { state = d; ask = ask; wait = w' }) went.Asks
  asks_at h d next x ask w' w e =
      subst (λ c. IsHostWent loaded a c (record h { state = d; ask = ask; wait = w' }) went.Asks)
      (sym (w.same x ∙ ap (λ c. and_then c (resumed (λ answer. host a (w.inner answer)))) e.0))
      (refl, record { inner = w.inner; waits = w.waits; room = e.1; same = λ y. refl })

  short_then : (c : RowCourse) (h : HostRun) (go : HostAnswer → RunState → HostCourse) → IsShort c (state_of h.state) →
      IsHostWent loaded a (and_then c (resumed go)) h went.NoMemory
  short_then (Ends (Tells answer t)) h go e = inl e
  short_then (Ends (Lacks t)) h go e = e
  short_then (Asks ask next) h go e = absurd e
  short_then (Takes short on) h go e = absurd e

  -- one that finds no memory
  pub heard_short : (h : HostRun) (d : RunData) (next : Heard → HostCourse) (x : Heard) → HostWaits loaded a h next →
      IsShort (left_of a h.wait (state_under h.wait h.state) x) (state_of d) → IsHostWent loaded a (next x) (with_data h d) went.NoMemory
  heard_short h d next x w e =
      subst (λ c. IsHostWent loaded a c (with_data h d) went.NoMemory) (sym (w.same x))
      (short_then (left_of a h.wait (state_under h.wait h.state) x) (with_data h d) (λ answer. host a (w.inner answer)) e)

  abbrev pub Fed : Configuration → HostAnswer → Configuration → Went → Type 0
  Fed old told new w = (next : HostAnswer → RunTalk) → Waits loaded old next → IsWent loaded (next told) new w

  -- what a row that asks nothing keeps
  abbrev pub Keeps : Type 0
  Keeps = (a : Around) (ask : HostAsk) (s t : RunState) (answer : HostAnswer) → row a ask s ≡ Ends (Tells answer t) → kept t ≡ kept s

  told_case : Keeps → (new : Configuration) (told' : HostAnswer) (s s' : RunState) (whole : HostCourse) (t : RunTalk) →
      whole ≡ Takes (Ends (RanOut (kept s))) (host a t s) → IsWent loaded t new moved.Asks →
      row a (asked_of loaded new) s ≡ Ends (Tells told' s') → IsAt loaded a new told' s' whole
  told_case keeps new told' s s' whole (RunEnds end) e n r = absurd n
  told_case keeps new told' s s' whole (RunAsks ask next) e n r =
      let r' : row a ask s ≡ Ends (Tells told' s') = subst (λ q. row a q s ≡ Ends (Tells told' s')) n.0 r in
      record {
        inner = next;
        waits = n.1;
        same = e ∙ (ap (λ c. Takes (Ends (RanOut (kept s))) (by_row (λ answer. host a (next answer)) c)) r'
            ∙ ap (λ k. Takes (Ends (RanOut k)) (host a (next told') s')) (sym (keeps a ask s s' told' r')));
      }

  pub told_at : Keeps → (old new : Configuration) (told told' : HostAnswer) (s s' : RunState) (whole : HostCourse) → IsAt loaded a old told s whole → Fed old told new moved.Asks →
      row a (asked_of loaded new) s ≡ Ends (Tells told' s') → IsAt loaded a new told' s' whole
  told_at keeps old new told told' s s' whole at fed r = told_case keeps new told' s s' whole (at.inner told) at.same (fed at.inner at.waits) r

  goes_case : (h : HostRun) (s : RunState) (whole : HostCourse) (t : RunTalk) →
      whole ≡ Takes (Ends (RanOut (kept s))) (host a t s) → IsWent loaded t h.run moved.Asks →
      IsGoing a (row a (asked_of loaded h.run) s) (going.Asks h.ask h.wait) h.state → IsHostWent loaded a whole h went.Asks
  goes_case h s whole (RunEnds end) e n r = absurd n
  goes_case h s whole (RunAsks ask next) e n r =
      let r' : row a ask s ≡ Asks (as_asked h.ask []) (left_of a h.wait (state_under h.wait h.state)) =
      subst (λ q. row a q s ≡ Asks (as_asked h.ask []) (left_of a h.wait (state_under h.wait h.state))) n.0 r.0 in
      subst (λ c. IsHostWent loaded a c h went.Asks)
      (sym (e ∙ ap (λ c. Takes (Ends (RanOut (kept s))) (by_row (λ answer. host a (next answer)) c)) r'))
      (inr (refl, record { inner = next; waits = n.1; room = r.1; same = λ x. refl }))

  pub goes_at : (old : Configuration) (told : HostAnswer) (s : RunState) (h : HostRun) (whole : HostCourse) → IsAt loaded a old told s whole → Fed old told h.run moved.Asks →
      IsGoing a (row a (asked_of loaded h.run) s) (going.Asks h.ask h.wait) h.state → IsHostWent loaded a whole h went.Asks
  goes_at old told s h whole at fed r = goes_case h s whole (at.inner told) at.same (fed at.inner at.waits) r

  -- a run that has ended and waits for nothing
  abbrev ended : HostRun → HostRun
  ended h = record h { wait = waiting.Row host_wait.Start }

  ends_case : (h : HostRun) (whole : HostCourse) (t : RunTalk) → whole ≡ Takes (Ends (RanOut (kept (state_of h.state)))) (host a t (state_of h.state)) →
      IsWent loaded t h.run moved.Ended → IsHostWent loaded a whole (ended h) went.Ended
  ends_case h whole (RunEnds end) e n = subst (λ c. IsHostWent loaded a c (ended h) went.Ended) (sym e) (inr (refl, ap how_ended n.1, (n.1, refl)))
  ends_case h whole (RunAsks ask next) e n = absurd n

  pub ends_at : (old : Configuration) (told : HostAnswer) (h : HostRun) (whole : HostCourse) → IsAt loaded a old told (state_of h.state) whole → Fed old told h.run moved.Ended →
      IsHostWent loaded a whole (ended h) went.Ended
  ends_at old told h whole at fed = ends_case h whole (at.inner told) at.same (fed at.inner at.waits)

  pub short_at : (old : Configuration) (told : HostAnswer) (s : RunState) (h : HostRun) (whole : HostCourse) → IsAt loaded a old told s whole → state_of h.state ≡ s →
      IsHostWent loaded a whole h went.NoMemory
  short_at old told s h whole at e = subst (λ c. IsHostWent loaded a c h went.NoMemory) (sym at.same) (inl (ap kept e))
