-- A datagram, from its parts.
use Rattle.std.proofs.Common.{◌≡◌, ℕ, false, List, ◌∷◌, ◌++◌, refl, sym, ap, ◌∙◌, subst, append_assoc}
use Rattle.std.specs.Prelude.{Some}
use Rattle.std.proofs.lemmas.Grind.{flat_map-append}
use Rattle.outside_ports.specs.declared.port.Addr.{Addr}
use Rattle.outside_ports.specs.declared.port.Arrival.{Arrival}
use Rattle.sip_words.specs.declared.Span.{Span}
use Rattle.sip_msg.specs.declared.message.Message.{Message}
use Rattle.sip_msg.specs.declared.start.Start.TheVariants as start
use Rattle.pv_values.specs.declared.run.How.{How}
use Rattle.cfg_tree.specs.declared.script.Script.{Script}
use Rattle.cfg_code.specs.Flat.{FlatScript}
use Rattle.cfg_code.specs.Follows.{Stands}
use Rattle.pv_table.specs.declared.facts.RunData.{RunData}
use Rattle.host_meaning.specs.declared.settings.Settings.{Settings}
use Rattle.host_meaning.specs.Run.{Received, RunState, around, received}
use Rattle.txn_dialogue.specs.Runs.{beginning}
use Rattle.txn_dialogue.specs.Slots.{Proxy, reading}
use Rattle.txn_dialogue.specs.Loose.{Handling, Runs, is_keepalive}
use Rattle.script_host.specs.Lending.{state_of}
use Rattle.sim_text.specs.declared.item.TraceItem.{TraceItem}
use Rattle.sim_text.specs.Trace.{item_text, items_text}
use Rattle.solo_run.specs.declared.objects.Objects.{Objects}
use Rattle.solo_run.specs.Objects.{Tables}
use Rattle.solo_run.specs.Solo.{handling, turn, shown_turn, solo}
use Rattle.solo_run.specs.Running.{tables_of, AreShownBy, IsTurn, RunsTo, facts_at_first, played_at, played_run, proxy_of, shown_decision, shown_handling}
use Rattle.solo_run.proofs.Decisions.{RunsNoBlock, of_run, of_no_run}

-- a request whose run came to this, and whose decision was shown
pub request_turn : (loaded : FlatScript) (script : Script) (settings : Settings) (at : ℕ) (source : Addr) (r : Received) (s : RunState)
    (old mid new : Objects) (d : RunData) (how : How) → Stands loaded script → s ≡ beginning (facts_at_first loaded.parameters r source)
    → RunsTo loaded.patterns (around loaded.parameters loaded.patterns settings (Some r)) at script s old d how mid
    → new.trace.items ≡ mid.trace.items ++ items_text (shown_decision at r source d.facts how d.facts.outcome)
    → new.tables ≡ mid.tables
    → AreShownBy at (played_at (proxy_of script settings) at source (Runs r) (tables_of old)) old new
request_turn loaded script settings at source r s old mid new d how stands first runs shown same =
    let begun : RunsTo loaded.patterns (around loaded.parameters loaded.patterns settings (Some r)) at script (beginning (facts_at_first loaded.parameters r source)) old d how mid =
    subst (λ x. RunsTo loaded.patterns (around loaded.parameters loaded.patterns settings (Some r)) at script x old d how mid) first runs in
    let by_patterns : RunsTo script.patterns (around loaded.parameters script.patterns settings (Some r)) at script (beginning (facts_at_first loaded.parameters r source)) old d how mid =
    subst (λ x. RunsTo x (around loaded.parameters x settings (Some r)) at script (beginning (facts_at_first loaded.parameters r source)) old d how mid) stands.patterns begun in
    let run : RunsTo script.patterns (around script.parameters script.patterns settings (Some r)) at script (beginning (facts_at_first script.parameters r source)) old d how mid =
    subst (λ x. RunsTo script.patterns (around x script.patterns settings (Some r)) at script (beginning (facts_at_first x r source)) old d how mid) stands.parameters by_patterns in
    let decision = shown_decision at r source d.facts how d.facts.outcome in
    let played = played_run script.patterns (around script.parameters script.patterns settings (Some r)) at script (beginning (facts_at_first script.parameters r source)) (tables_of old) in
    let shows = of_run script.patterns at (proxy_of script settings) r source (tables_of old) (state_of d) how run.end run.stateless in
    record {
      trace = shown ∙ ap (λ (t : List ℕ). t ++ items_text decision) run.shown.trace
          ∙ append_assoc old.trace.items (items_text played.shown) (items_text decision)
          ∙ ap (λ (t : List ℕ). old.trace.items ++ t) (sym (flat_map-append item_text played.shown decision))
          ∙ ap (λ (items : List TraceItem). old.trace.items ++ items_text items) (sym shows.shown);
      tables_are = rw same (run.shown.tables_are ∙ sym shows.tables_are);
    }

-- a datagram that runs no block
pub plain_turn : (script : Script) (settings : Settings) (at : ℕ) (source : Addr) (h : Handling) (old new : Objects) → RunsNoBlock h
    → new.trace.items ≡ old.trace.items ++ items_text (shown_handling at h) → new.tables ≡ old.tables
    → AreShownBy at (played_at (proxy_of script settings) at source h (tables_of old)) old new
plain_turn script settings at source h old new none shown same =
    let shows = of_no_run script.patterns at (proxy_of script settings) source h (tables_of old) none in
    record {
      trace = shown ∙ ap (λ (items : List TraceItem). old.trace.items ++ items_text items) (sym shows.shown);
      tables_are = rw same (sym shows.tables_are);
    }

-- a request is one that runs `request_route`
pub is_a_request : (b : List ℕ) (source : Addr) (m : Message) (method uri : Span) → is_keepalive b ≡ false → reading b ≡ Some (received b m)
    → m.start ≡ start.Request method uri → handling b source ≡ Runs (received b m)
is_a_request b source m method uri other reads line = rw (other, reads, line) refl

-- ---- one datagram after another

-- what was shown, and what is left, give the whole
abbrev pub LeavesOf : Proxy → List Arrival → Objects → List ℕ → Type 0
LeavesOf p left o whole = o.trace.items ++ items_text (solo p left (tables_of o)) ≡ whole

pub next_turn : (p : Proxy) (a : Arrival) (rest : List Arrival) (old new : Objects) (whole : List ℕ) → IsTurn p a old new
    → LeavesOf p (a ∷ rest) old whole → LeavesOf p rest new whole
next_turn p a rest old new whole turned left =
    let shown = shown_turn p a (tables_of old) in
    let after = solo p rest (turn p a (tables_of old)).tables in
    ap (λ (t : List ℕ). t ++ items_text (solo p rest (tables_of new))) turned.trace
    ∙ ap (λ (ts : Tables). (old.trace.items ++ items_text shown) ++ items_text (solo p rest ts)) turned.tables_are
    ∙ append_assoc old.trace.items (items_text shown) (items_text after)
    ∙ ap (λ (t : List ℕ). old.trace.items ++ t) (sym (flat_map-append item_text shown after))
    ∙ left
