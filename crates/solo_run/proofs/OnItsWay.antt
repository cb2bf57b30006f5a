-- A run from ask to ask: what it has shown, and what it will.
use Rattle.std.proofs.Common.{◌≡◌, ℕ, List, [], ◌++◌, refl, sym, ap, ◌∙◌, subst, append_assoc}
use Rattle.std.proofs.Common.{append-nil}
use Rattle.std.proofs.lemmas.Grind.{flat_map-append}
use Rattle.cfg_tree.specs.declared.script.Script.{Script}
use Rattle.cfg_tree.specs.Meaning.{dialogue}
use Rattle.pv_table.specs.declared.facts.RunData.{RunData}
use Rattle.pv_values.specs.declared.run.How.{How}
use Rattle.host_meaning.specs.declared.ask.Heard.{Heard}
use Rattle.host_meaning.specs.Run.{RunState}
use Rattle.host_meaning.specs.Host.{HostCourse, HostEnd, Finished, run_of, at_start}
use Rattle.script_host.specs.declared.ask.Answer.{Answer}
use Rattle.script_host.specs.declared.ask.Ask.{Ask}
use Rattle.script_host.specs.declared.ask.Ask.TheVariants as ask
use Rattle.script_host.specs.declared.lent.Lent.{Lent}
use Rattle.script_host.specs.declared.run.HostRun.{HostRun}
use Rattle.script_host.specs.declared.run.HostWent.TheVariants as went
use Rattle.script_host.specs.Asking.{as_asked, as_heard}
use Rattle.script_host.specs.Lending.{around_of, state_of}
use Rattle.script_host.specs.Running.{HostWaits, IsHostWent, ask_of, state_in, how_of, with_ask}
use Rattle.sim_text.specs.declared.item.TraceItem.{TraceItem}
use Rattle.sim_text.specs.Trace.{item_text, items_text}
use Rattle.solo_run.specs.declared.objects.Objects.{Objects}
use Rattle.solo_run.specs.Objects.{Tables, answered}
use Rattle.solo_run.specs.Solo.{Played, played, behind, shown_ask}
use Rattle.solo_run.specs.Running.{tables_of, AreShown, IsAnswered, played_run, HasNoTransaction, RunsTo}
use Rattle.solo_run.proofs.Stateless.{RunStateless, host_stateless}
use Rattle.solo_run.proofs.Played.{asks_next, ends_so}

behind_twice : (front back : List TraceItem) (p : Played HostEnd) → behind front (behind back p) ≡ behind (front ++ back) p
behind_twice front back p = rw append_assoc refl

module _ (l : Lent) (at : ℕ) (script : Script) (s : RunState) (old : Objects) where
  -- a run that is told this, with these objects: behind what was shown comes what its course shows
  pub record IsOn (run : HostRun) (told : Heard) (new : Objects) : Type 0 where
    pub next : Heard → HostCourse
    pub waits : HostWaits l.loaded.now (around_of l) run next
    pub stateless : (x : Heard) → RunStateless (next x)
    pub done : List TraceItem
    pub goes : played_run l.loaded.now.patterns (around_of l) at script s (tables_of old) ≡ behind done (played l.loaded.now.patterns at (next told) (tables_of new))
    pub trace : new.trace.items ≡ old.trace.items ++ items_text done

  pub begins : (run : HostRun) (told : Heard) → HasNoTransaction s.facts
      → HostWaits l.loaded.now (around_of l) run (λ _. run_of script script.request (around_of l) s) → IsOn run told old
  begins run told h w = record {
    next = λ _. run_of script script.request (around_of l) s;
    waits = w;
    stateless = λ x. (tt, host_stateless (around_of l) (dialogue script script.request (at_start script)) s h);
    done = [];
    goes = refl;
    trace = sym (append-nil old.trace.items);
  }

  pub goes_on : (run run' : HostRun) (told : Heard) (new new' : Objects) (answer : Answer) → IsOn run told new
      → ((next : Heard → HostCourse) → HostWaits l.loaded.now (around_of l) run next → IsHostWent l.loaded.now (around_of l) (next told) run' went.Asks)
      → IsAnswered l.loaded.now.patterns at new (as_asked (ask_of run') []) answer new'
      → IsOn (with_ask run' ask.Free) (as_heard answer) new'
  goes_on run run' told new new' answer on went done =
      let n = asks_next l.loaded.now.patterns at l.loaded.now (around_of l) (on.next told) run' (tables_of new) (on.stateless told) (went on.next on.waits) in
      let items = shown_ask at (as_asked (ask_of run') []) in
      record {
        next = n.next;
        waits = record { inner = n.waits.inner; waits = n.waits.waits; room = n.waits.room; same = n.waits.same };
        stateless = n.stateless;
        done = on.done ++ items;
        goes = on.goes ∙ ap (behind on.done) n.goes ∙ behind_twice on.done items _ ∙ rw (done.heard, done.shown.tables_are) refl;
        trace = done.shown.trace ∙ rw (on.trace, flat_map-append item_text on.done items, append_assoc) refl;
      }

  pub ends : (run run' : HostRun) (told : Heard) (new : Objects) (d : RunData) (how : How) → IsOn run told new
      → ((next : Heard → HostCourse) → HostWaits l.loaded.now (around_of l) run next → IsHostWent l.loaded.now (around_of l) (next told) run' went.Ended)
      → d ≡ state_in run' → how ≡ how_of run' → RunsTo l.loaded.now.patterns (around_of l) at script s old d how new
  ends run run' told new d how on went e f =
      let end = ends_so l.loaded.now.patterns at l.loaded.now (around_of l) (on.next told) run' (tables_of new) (on.stateless told) (went on.next on.waits) in
      let whole = on.goes ∙ ap (behind on.done) end.ends in
      record {
        end = ap (λ (p : Played HostEnd). p.end) whole ∙ rw (e, f) refl;
        stateless = subst (λ (x : RunData). HasNoTransaction x.facts) (sym e) end.stateless;
        shown = record {
          trace = on.trace ∙ ap (λ (items : List TraceItem). old.trace.items ++ items_text items) (sym (ap (λ (p : Played HostEnd). p.shown) whole ∙ append-nil on.done));
          tables_are = sym (ap (λ (p : Played HostEnd). p.tables) whole);
        };
      }
