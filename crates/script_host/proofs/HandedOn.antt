-- A run that is handed on, from the run that was advanced in it.
use Rattle.std.proofs.Common.{◌≡◌, [], inl, inr, sym, ap, ◌∙◌, subst}
use Rattle.dialogue.specs.Course.{Ends, Asks, Takes}
use Rattle.pv_values.specs.declared.run.How.{How}
use Rattle.cfg_code.specs.Flat.{FlatScript}
use Rattle.pv_table.specs.declared.facts.Facts.{Facts}
use Rattle.pv_table.specs.declared.facts.RunData.{RunData}
use Rattle.host_meaning.specs.Run.{Around, kept}
use Rattle.host_meaning.specs.Host.{HostCourse, Finished, RanOut}
use Rattle.script_host.specs.declared.ask.Ask.{Ask}
use Rattle.script_host.specs.declared.ask.Ask.TheVariants as ask
use Rattle.script_host.specs.declared.run.HostRun.{HostRun}
use Rattle.script_host.specs.declared.run.HostWent.TheVariants as went
use Rattle.script_host.specs.declared.restorable.HostNext.TheVariants as onward
use Rattle.script_host.specs.Asking.{as_asked}
use Rattle.script_host.specs.Lending.{state_of}
use Rattle.script_host.specs.Running.{HostWaits, IsHostWent, ask_of, state_in, how_of, with_ask}
use Rattle.script_host.specs.Restoring.{IsHostNext, as_before}

module _ (loaded : FlatScript) (a : Around) (before : Facts) where
  pub asks_next : (c : HostCourse) (h h' : HostRun) (f : Facts) (asked : Ask) → f ≡ before → IsHostWent loaded a c h went.Asks →
      asked ≡ ask_of h → h' ≡ with_ask h ask.Free → IsHostNext loaded a before c (onward.Asks (record { run = h'; before = f }) asked)
  asks_next (Takes short on) h h' f asked b (inl w) e n = inl (asks_next short h h' f asked b w e n)
  asks_next (Takes short on) h h' f asked b (inr w) e n = inr (asks_next on h h' f asked b w e n)
  asks_next (Asks q next) h h' f asked b w e n = (
    ap (λ x. as_asked x []) e ∙ w.0,
    record {
      waits = subst (λ x. HostWaits loaded a x next) (sym n) (record { inner = w.1.inner; waits = w.1.waits; room = w.1.room; same = w.1.same });
      began = b;
    },
  )
  asks_next (Ends (Finished s how)) h h' f asked b w e n = absurd w
  asks_next (Ends (RanOut k)) h h' f asked b w e n = absurd w

  pub ends_next : (c : HostCourse) (h : HostRun) (d : RunData) (how : How) → IsHostWent loaded a c h went.Ended →
      d ≡ state_in h → how ≡ how_of h → IsHostNext loaded a before c (onward.Ended d how)
  ends_next (Takes short on) h d how (inl w) e f = inl (ends_next short h d how w e f)
  ends_next (Takes short on) h d how (inr w) e f = inr (ends_next on h d how w e f)
  ends_next (Asks q next) h d how w e f = absurd w
  ends_next (Ends (Finished s end)) h d how w e f = (ap state_of e ∙ w.0, f ∙ w.1)
  ends_next (Ends (RanOut k)) h d how w e f = absurd w

  pub short_next : (c : HostCourse) (h : HostRun) (d : RunData) → IsHostWent loaded a c h went.NoMemory →
      state_of d ≡ as_before before (kept (state_of (state_in h))) → IsHostNext loaded a before c (onward.NoMemory d)
  short_next (Takes short on) h d (inl w) e = inl (short_next short h d w e)
  short_next (Takes short on) h d (inr w) e = inr (short_next on h d w e)
  short_next (Asks q next) h d w e = absurd w
  short_next (Ends (Finished s how)) h d w e = absurd w
  short_next (Ends (RanOut k)) h d w e = e ∙ ap (as_before before) w
