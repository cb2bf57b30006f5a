-- Courses with their answers.
use Rattle.std.proofs.Common.{◌≡◌, ℕ, List, [], ◌∷◌, ◌++◌, refl, sym, ap, ◌∙◌, subst, append_assoc, inl, inr}
use Rattle.dialogue.specs.Course.{Course, Ends, Asks, Takes, and_then}
use Rattle.cfg_code.specs.Flat.{FlatScript}
use Rattle.host_meaning.specs.declared.ask.Asked.{Asked}
use Rattle.host_meaning.specs.declared.ask.Heard.{Heard}
use Rattle.host_meaning.specs.Run.{Around, RunState}
use Rattle.host_meaning.specs.Host.{HostCourse, Finished, RanOut}
use Rattle.script_host.specs.declared.run.HostRun.{HostRun}
use Rattle.script_host.specs.declared.run.HostWent.TheVariants as went
use Rattle.script_host.specs.Asking.{as_asked}
use Rattle.script_host.specs.Lending.{state_of}
use Rattle.script_host.specs.Running.{HostWaits, IsHostWent, ask_of, state_in, how_of}
use Rattle.solo_run.specs.Objects.{Tables, answered}
use Rattle.solo_run.specs.Solo.{Played, played, behind, shown_ask}
use Rattle.solo_run.specs.Running.{HasNoTransaction}
use Rattle.solo_run.proofs.Stateless.{IsShort, RunStateless}

module _ (patterns : List (List ℕ)) (at : ℕ) where
  -- a course, and what comes after its end
  pub played_after : {Middle End : Type 0} (c : Course Asked Heard Middle) (after : Middle → Course Asked Heard End) (tables : Tables)
      → played patterns at (and_then c after) tables
      ≡ behind (played patterns at c tables).shown (played patterns at (after (played patterns at c tables).end) (played patterns at c tables).tables)
  played_after (Ends middle) after tables = refl
  played_after (Takes short on) after tables = played_after on after tables
  played_after (Asks ask next) after tables =
      let a = answered patterns at tables ask in
      ap (behind (shown_ask at ask)) (played_after (next a.heard) after a.tables) ∙ rw append_assoc refl

  module _ (loaded : FlatScript) (a : Around) where
    -- the course of a run that asks goes on so, behind what is shown of its ask
    pub record AsksNext (c : HostCourse) (h : HostRun) (tables : Tables) : Type 0 where
      pub next : Heard → HostCourse
      pub waits : HostWaits loaded a h next
      pub stateless : (x : Heard) → RunStateless (next x)
      pub goes : (let made = answered patterns at tables (as_asked (ask_of h) []) in
          played patterns at c tables ≡ behind (shown_ask at (as_asked (ask_of h) [])) (played patterns at (next made.heard) made.tables))

    short_never_asks : (c : HostCourse) (h : HostRun) → IsShort c → IsHostWent loaded a c h went.Asks → ⊥
    short_never_asks (Ends (Finished s how)) h e w = e
    short_never_asks (Ends (RanOut k)) h e w = w
    short_never_asks (Asks ask next) h e w = e
    short_never_asks (Takes short on) h e w = e

    pub asks_next : (c : HostCourse) (h : HostRun) (tables : Tables) → RunStateless c → IsHostWent loaded a c h went.Asks → AsksNext c h tables
    asks_next (Ends (Finished s how)) h tables r w = absurd w
    asks_next (Ends (RanOut k)) h tables r w = absurd w
    asks_next (Asks ask next) h tables r w = record {
      next = next;
      waits = w.1;
      stateless = r;
      goes = rw w.0 refl;
    }
    asks_next (Takes short on) h tables r (inl w) = absurd (short_never_asks short h r.0 w)
    asks_next (Takes short on) h tables r (inr w) =
        let n = asks_next on h tables r.1 w in
        record { next = n.next; waits = n.waits; stateless = n.stateless; goes = n.goes }

    -- and that of a run that has ended ends as it did
    pub record EndsSo (c : HostCourse) (h : HostRun) (tables : Tables) : Type 0 where
      pub ends : played patterns at c tables ≡ record { shown = []; end = Finished (state_of (state_in h)) (how_of h); tables = tables }
      pub stateless : HasNoTransaction (state_in h).facts

    short_never_ends : (c : HostCourse) (h : HostRun) → IsShort c → IsHostWent loaded a c h went.Ended → ⊥
    short_never_ends (Ends (Finished s how)) h e w = e
    short_never_ends (Ends (RanOut k)) h e w = w
    short_never_ends (Asks ask next) h e w = e
    short_never_ends (Takes short on) h e w = e

    pub ends_so : (c : HostCourse) (h : HostRun) (tables : Tables) → RunStateless c → IsHostWent loaded a c h went.Ended → EndsSo c h tables
    ends_so (Ends (Finished s how)) h tables r w = record {
      ends = rw (w.0, w.1) refl;
      stateless = subst (λ (t : RunState). HasNoTransaction t.facts) (sym w.0) r;
    }
    ends_so (Ends (RanOut k)) h tables r w = absurd w
    ends_so (Asks ask next) h tables r w = absurd w
    ends_so (Takes short on) h tables r (inl w) = absurd (short_never_ends short h r.0 w)
    ends_so (Takes short on) h tables r (inr w) =
        let e = ends_so on h tables r.1 w in
        record { ends = e.ends; stateless = e.stateless }
