-- What a run decided, and what becomes of a datagram that runs no block.
use Rattle.std.proofs.Common.{◌≡◌, ℕ, Bool, true, false, List, [], ◌∷◌, ◌++◌, ◌&&◌, refl, sym, ap, ◌∙◌, subst, append_assoc}
use Rattle.std.specs.Prelude.{Option, Some, None, if◌then◌else◌}
use Rattle.std.proofs.Common.{append-nil}
use Rattle.outside_ports.specs.declared.port.Addr.{Addr}
use Rattle.sip_build.specs.Addresses.{reply_address}
use Rattle.pv_values.specs.declared.run.How.{How}
use Rattle.pv_table.specs.declared.facts.Facts.{Facts}
use Rattle.pv_table.specs.declared.facts.Response.{Response}
use Rattle.pv_table.specs.declared.facts.Outcome.{Outcome}
use Rattle.pv_table.specs.declared.facts.Outcome.TheVariants.{Undecided, Stateless, Answered, Relayed, Suspended}
use Rattle.host_meaning.specs.Run.{Received, RunState, is_readable}
use Rattle.host_meaning.specs.Host.{HostEnd, Finished, run_of}
use Rattle.txn_dialogue.specs.declared.mark.Mark.{Mark}
use Rattle.txn_dialogue.specs.declared.mark.Mark.TheVariants.{Handled, Dropped}
use Rattle.txn_dialogue.specs.declared.mark.Cause.TheVariants as cause
use Rattle.txn_dialogue.specs.Rounds.{is_drop}
use Rattle.host_meaning.specs.Responses.{is_ack}
use Rattle.txn_dialogue.specs.Slots.{Proxy}
use Rattle.txn_dialogue.specs.Runs.{around_of, beginning}
use Rattle.txn_dialogue.specs.Loose.{Handling, OfSlot, Runs, Answers, Drops, malformed, LooseEnd, LooseDone, loosely_sending, loosely_ended, loose_dialogue}
use Rattle.txn_dialogue.specs.LooseRuns.{loose_facts, loosely_sent, loose_mark, loose_response, outcome_sent, mark_by, silent_mark}
use Rattle.sip_msg.specs.declared.basis.Basis.{Basis}
use Rattle.sim_text.specs.declared.item.TraceItem.{TraceItem}
use Rattle.sim_text.specs.declared.item.TraceItem.TheVariants.{Out, Drop}
use Rattle.sim_text.specs.declared.item.Cause.TheVariants as shown
use Rattle.sim_text.specs.Trace.{item_text, items_text}
use Rattle.solo_run.specs.Objects.{Tables}
use Rattle.solo_run.specs.Solo.{Played, played, shown_mark, shown_end}
use Rattle.solo_run.specs.Running.{HasNoTransaction, IsStateless, shown_decision, shown_response, shown_handling}
use Rattle.solo_run.proofs.Played.{played_after}

-- an ending is shown as this, and leaves the tables
pub record Shows (at : ℕ) (q : Played LooseEnd) (items : List TraceItem) (tables : Tables) : Type 0 where
  pub shown : q.shown ++ shown_end at q.end ≡ items
  pub tables_are : q.tables ≡ tables

module _ (patterns : List (List ℕ)) (at : ℕ) (tables : Tables) where
  sent_if_readable : (to : Addr) (text : List ℕ) (b : Bool)
      → Shows at (played patterns at (loosely_sending (if b then record { to = to; text = text; branch = None } ∷ [] else []) Handled) tables)
      (if b then Out at to text ∷ [] else []) tables
  sent_if_readable to text true = record { shown = refl; tables_are = refl }
  sent_if_readable to text false = record { shown = refl; tables_are = refl }

  by_outcome : (p : Proxy) (r : Received) (source : Addr) (f : Facts) (how : How) (o : Outcome) → IsStateless o
      → Shows at (played patterns at (loosely_sending (outcome_sent p r source o []) (mark_by o (silent_mark r f how) Handled)) tables)
      (shown_decision at r source f how o) tables
  by_outcome p r source f how Undecided h = record { shown = refl; tables_are = refl }
  by_outcome p r source f how (Stateless response) h =
      sent_if_readable (reply_address r.message.via source) (loose_response r source response) (is_readable (loose_response r source response))
  by_outcome p r source f how (Answered response) h = absurd h
  by_outcome p r source f how (Relayed relay) h = absurd h
  by_outcome p r source f how Suspended h = absurd h

  decided : (p : Proxy) (r : Received) (source : Addr) (s : RunState) (how : How) → HasNoTransaction s.facts
      → Shows at (played patterns at (loosely_ended p r source (Finished s how)) tables) (shown_decision at r source s.facts how s.facts.outcome) tables
  decided p r source s how h =
      let sends : loosely_sent p r source s.facts [] ≡ outcome_sent p r source s.facts.outcome [] = rw h.responses refl in
      let mark : loose_mark r source s.facts how ≡ mark_by s.facts.outcome (silent_mark r s.facts how) Handled = rw h.responses refl in
      rw (sends, mark) (by_outcome p r source s.facts how s.facts.outcome h.outcome)

-- ---- a whole datagram

-- a datagram that runs no block
abbrev pub RunsNoBlock : Handling → Type 0
RunsNoBlock (OfSlot slot generation what) = Unit {0}
RunsNoBlock (Runs request) = ⊥
RunsNoBlock (Answers to text fits) = Unit {0}
RunsNoBlock (Drops why) = Unit {0}

-- a malformed datagram runs no block
pub malformed_runs_none : (b : List ℕ) (source : Addr) (basis : Option Basis) → RunsNoBlock (malformed b source basis)
malformed_runs_none b source None = tt
malformed_runs_none b source (Some basis) = tt

module _ (patterns : List (List ℕ)) (at : ℕ) where
  pub of_run : (p : Proxy) (r : Received) (source : Addr) (tables : Tables) (s : RunState) (how : How)
      → (let run = played patterns at (run_of p.script p.script.request (around_of p r) (beginning (loose_facts p r source))) tables in
      run.end ≡ Finished s how → HasNoTransaction s.facts
      → Shows at (played patterns at (loose_dialogue p source (Runs r)) tables) (run.shown ++ shown_decision at r source s.facts how s.facts.outcome) run.tables)
  of_run p r source tables s how e h =
      let run = played patterns at (run_of p.script p.script.request (around_of p r) (beginning (loose_facts p r source))) tables in
      let whole = played_after patterns at (run_of p.script p.script.request (around_of p r) (beginning (loose_facts p r source))) (loosely_ended p r source) tables in
      let last : Shows at (played patterns at (loosely_ended p r source run.end) run.tables) (shown_decision at r source s.facts how s.facts.outcome) run.tables =
      subst (λ (end : HostEnd). Shows at (played patterns at (loosely_ended p r source end) run.tables) (shown_decision at r source s.facts how s.facts.outcome) run.tables)
      (sym e) (decided patterns at run.tables p r source s how h) in
      let rest = played patterns at (loosely_ended p r source run.end) run.tables in
      record {
        shown = rw whole (append_assoc run.shown rest.shown (shown_end at rest.end) ∙ ap (λ (items : List TraceItem). run.shown ++ items) last.shown);
        tables_are = rw whole last.tables_are;
      }

  pub of_no_run : (p : Proxy) (source : Addr) (h : Handling) (tables : Tables) → RunsNoBlock h
      → Shows at (played patterns at (loose_dialogue p source h) tables) (shown_handling at h) tables
  of_no_run p source (OfSlot slot generation what) tables n = record { shown = refl; tables_are = refl }
  of_no_run p source (Runs request) tables n = absurd n
  of_no_run p source (Answers to text true) tables n = record { shown = refl; tables_are = refl }
  of_no_run p source (Answers to text false) tables n = record { shown = refl; tables_are = refl }
  of_no_run p source (Drops why) tables n = record { shown = refl; tables_are = refl }

-- ---- how the code says it

-- nothing was decided
pub nothing_decided : (at : ℕ) (r : Received) (source : Addr) (f : Facts) (how : How) → f.outcome ≡ Undecided → HasNoTransaction f
    → item_text (Drop at (if is_drop how then shown.ScriptDrop else shown.ScriptSilent)) ≡ items_text (shown_decision at r source f how f.outcome)
nothing_decided at r source f how e h =
    rw (e, h.relay) (by_ack (is_ack r) (is_drop how)) where
      by_ack : (ack drop : Bool) → item_text (Drop at (if drop then shown.ScriptDrop else shown.ScriptSilent))
          ≡ items_text (shown_mark at (if ack && false then Dropped cause.AckUnroutable else if drop then Dropped cause.ScriptDrop else Dropped cause.ScriptSilent))
      by_ack true true = sym (append-nil (item_text (Drop at shown.ScriptDrop)))
      by_ack true false = sym (append-nil (item_text (Drop at shown.ScriptSilent)))
      by_ack false true = sym (append-nil (item_text (Drop at shown.ScriptDrop)))
      by_ack false false = sym (append-nil (item_text (Drop at shown.ScriptSilent)))
