-- What holds of all that is decided so far: each datagram reads, steps of its table lead to the server, and the transaction stays
-- the same one.
use Rattle.std.proofs.Common.{◌≡◌, ℕ, Bool, true, false, inl, inr, List, [], ◌∷◌, ◌++◌, Option, Some, None, refl, sym, subst, ◌∙◌}
use Rattle.std.proofs.lemmas.Bool.{false≢true}
use Rattle.std.specs.Prelude.{if◌then◌else◌, nat_le, slice_get, codes, ◌==◌}
use Rattle.outside_ports.specs.declared.port.Addr.{Addr}
use Rattle.txn_server.specs.declared.machine.Server.{Server}
use Rattle.txn_server.specs.declared.machine.ServerEvent.{ServerEvent}
use Rattle.txn_server.specs.declared.machine.ServerEvent.TheVariants as server
use Rattle.txn_server.specs.declared.machine.ServerActs.{ServerActs}
use Rattle.txn_server.specs.declared.machine.ServerState.{ServerState}
use Rattle.txn_server.specs.declared.machine.ServerState.TheVariants as state
use Rattle.txn_server.specs.Rows
use Rattle.txn_server.specs.Rows.{ServerRow, ServerStep}
use Rattle.txn_server.specs.After.{server_after}
use Rattle.txn_server.proofs.Table.{after_step}
use Rattle.txn_client.specs.declared.machine.ClientEvent.{ClientEvent}
use Rattle.txn_client.specs.After.{client_after}
use Rattle.fork_core.specs.Decisions.{to_cancel}
use Rattle.pv_table.specs.declared.facts.Facts.{Facts}
use Rattle.pv_table.specs.declared.facts.Outcome.{Outcome}
use Rattle.pv_table.specs.declared.facts.Outcome.TheVariants.{Undecided, Stateless, Answered, Relayed, Suspended}
use Rattle.pv_table.specs.declared.facts.Response.{Response}
use Rattle.host_meaning.specs.Run.{Received, is_readable}
use Rattle.host_meaning.specs.Responses.{is_ack}
use Rattle.host_meaning.specs.Relaying.{target_address, loose_ack}
use Rattle.sip_build.specs.Addresses.{reply_address}
use Rattle.txn_dialogue.specs.Slots.{Proxy, Origin, TxnBranch, TxnState}
use Rattle.txn_dialogue.specs.Sends.{Sent, Work, is_final_state, has_final, last_of, and_sent, sent_if, back_to, served, responding_if, responded, responding, made_text, all_responded, server_step, client_step, cancel_sends, cancel_ripe, cancelling, all_cancelling, cancelling_pending, owes_487, settled, is_ripe, at_branch, repeated_text}
use Rattle.sip_build.specs.Hop.{cancel_text}
use Rattle.txn_dialogue.specs.Rounds.{Launch, launched, code_sent, reason_sent, best_sent_by, is_success}
use Rattle.txn_dialogue.specs.Replies.{kept_for, kept_response, forwarded_now}
use Rattle.txn_dialogue.specs.Runs.{around_of}
use Rattle.txn_dialogue.specs.LooseRuns.{all_sent, ack_sent_to, outcome_sent, loose_response, loose_responses, loosely_sent}
use Rattle.txn_dialogue.specs.Events.{invite_cancelling}
use Rattle.txn_dialogue.specs.Serving.{IsReached, IsServed}

-- ---- datagrams

abbrev pub AllRead : List Sent → Type 0
AllRead [] = Unit {0}
AllRead (d ∷ ds) = (is_readable d.text ≡ true) × AllRead ds

one_more : (ds : List Sent) (d : Sent) → AllRead ds → is_readable d.text ≡ true → AllRead (ds ++ d ∷ [])
one_more [] d p e = (e, tt)
one_more (x ∷ ds) d p e = (p.0, one_more ds d p.1 e)

if_reads : (to : Addr) (text : List ℕ) (branch : Option ℕ) (sends : List Sent) (b : Bool) → is_readable text ≡ b → AllRead sends
    → AllRead (if b then sends ++ record { to = to; text = text; branch = branch } ∷ [] else sends)
if_reads to text branch sends true e p = one_more sends (record { to = to; text = text; branch = branch }) p e
if_reads to text branch sends false e p = p

pub and_sent_reads : (to : Addr) (text : List ℕ) (branch : Option ℕ) (sends : List Sent) → AllRead sends → AllRead (and_sent to text branch sends)
and_sent_reads to text branch sends p = if_reads to text branch sends (is_readable text) refl p

pub sent_if_reads : (b : Bool) (to : Addr) (text : List ℕ) (branch : Option ℕ) (sends : List Sent) → AllRead sends → AllRead (sent_if b to text branch sends)
sent_if_reads true to text branch sends p = and_sent_reads to text branch sends p
sent_if_reads false to text branch sends p = p

cancel_reads : (o : Option TxnBranch) (sends : List Sent) → AllRead sends → AllRead (cancel_sends o sends)
cancel_reads None sends p = p
cancel_reads (Some b) sends p = sent_if_reads (is_ripe b) b.to (cancel_text b.request.bytes b.request.message) None sends p

-- ---- the server

pub reached_on : (start s : Server) → IsReached start s → (event : ServerEvent) (now : ℕ) → IsReached start (server_after s event now).0
reached_on start s r event now = (
  record { old = s; event = event; now = now; new = (server_after s event now).0; acts = (server_after s event now).1 } ∷ r.0,
  (r.1, after_step s now event (server_after s event now).0 (server_after s event now).1 refl, refl),
)

served_on : (start s : Server) → IsReached start s → (b : Bool) (event : ServerEvent) (now : ℕ) → IsReached start (served b s event now).0
served_on start s r true event now = reached_on start s r event now
served_on start s r false event now = r

-- a final response stays decided
early : (s : Server) (st : ServerState) → s.state ≡ st → is_final_state st ≡ false → is_final_state s.state ≡ true → ⊥
early s st e n f = false≢true (sym n ∙ subst (λ x. is_final_state x ≡ true) e f)

row_final : (old : Server) (now : ℕ) (event : ServerEvent) (new : Server) (acts : ServerActs) → ServerRow old now event new acts
    → is_final_state old.state ≡ true → is_final_state new.state ≡ true
row_final old now _ _ _ (Rows.proceeding_copy here said) f = f
row_final old now _ _ _ (Rows.proceeding_1xx code is here) f = absurd (early old state.Proceeding here.1 refl f)
row_final old now _ _ _ (Rows.proceeding_2xx code is here) f = refl
row_final old now _ _ _ (Rows.proceeding_failure code is here) f = refl
row_final old now _ _ _ (Rows.completed_copy here) f = f
row_final old now _ _ _ (Rows.completed_g here due) f = f
row_final old now _ _ _ (Rows.completed_ack here) f = refl
row_final old now _ _ _ (Rows.completed_h here due) f = refl
row_final old now _ _ _ (Rows.confirmed_i here due) f = refl
row_final old now _ _ _ (Rows.late_2xx code is here) f = f
row_final old now _ _ _ (Rows.accepted_2xx code is here) f = f
row_final old now _ _ _ (Rows.accepted_ack here) f = f
row_final old now _ _ _ (Rows.accepted_l here due) f = refl
row_final old now _ _ _ (Rows.open_1xx code is (inl here)) f = absurd (early old state.Trying here.1 refl f)
row_final old now _ _ _ (Rows.open_1xx code is (inr here)) f = absurd (early old state.Proceeding here.1 refl f)
row_final old now _ _ _ (Rows.open_final code is here) f = refl
row_final old now _ _ _ (Rows.answered_copy here) f = f
row_final old now _ _ _ (Rows.completed_j here due) f = refl

step_final : (old : Server) (now : ℕ) (event : ServerEvent) (new : Server) (acts : ServerActs) → ServerStep old event now new acts
    → is_final_state old.state ≡ true → is_final_state new.state ≡ true
step_final old now event new acts (inl row) f = row_final old now event new acts row f
step_final old now event new acts (inr (none, e, a)) f = subst (λ (x : Server). is_final_state x.state ≡ true) (sym e) f

final_stays : (s : Server) (event : ServerEvent) (now : ℕ) → is_final_state s.state ≡ true → is_final_state (server_after s event now).0.state ≡ true
final_stays s event now f =
    step_final s now event (server_after s event now).0 (server_after s event now).1 (after_step s now event (server_after s event now).0 (server_after s event now).1 refl) f

served_final : (b : Bool) (s : Server) (event : ServerEvent) (now : ℕ) → is_final_state s.state ≡ true → is_final_state (served b s event now).0.state ≡ true
served_final true s event now f = final_stays s event now f
served_final false s event now f = f

last_stays : (send final : Bool) (text : List ℕ) (last : Option (List ℕ)) → final ≡ true → last_of send final text last ≡ last
last_stays true true text last e = refl
last_stays true false text last e = absurd (false≢true e)
last_stays false final text last e = refl

-- ---- all of it

module _ (o : Origin) (start : TxnState) (n : ℕ) where
  abbrev pub Sound : Work → Type 0
  Sound w = AllRead w.sends × IsServed start w.state × IsServed start w.base × (w.origin ≡ o) × (w.blocks ≡ n)

  pub if_sound : (b : Bool) (x y : Work) → Sound x → Sound y → Sound (if b then x else y)
  if_sound true x y p q = p
  if_sound false x y p q = q

  pub responding_sound : (b : Bool) (code : ℕ) (text : List ℕ) (w : Work) → Sound w → Sound (responding_if b code text w)
  responding_sound b code text w p = (
    sent_if_reads (served b w.state.server (server.Send code) w.now).1.send (back_to w.origin) text None w.sends p.0,
    (
      served_on start.server w.state.server p.1.0 b (server.Send code) w.now,
      λ f. (
        served_final b w.state.server (server.Send code) w.now (p.1.1 f).0,
        last_stays (served b w.state.server (server.Send code) w.now).1.send (has_final w.state) text w.state.last (p.1.1 f).0 ∙ (p.1.1 f).1,
      ),
    ),
    p.2,
    p.3,
    p.4,
  )

  pub settled_sound : (w : Work) → Sound w → Sound (settled w)
  settled_sound w p = responding_sound (owes_487 w.state) 487 (made_text w.origin 487 (codes "Request Terminated")) w p

  pub responded_sound : (code : ℕ) (reason : List ℕ) (w : Work) → Sound w → Sound (responded code reason w)
  responded_sound code reason w p = responding_sound true code (made_text w.origin code reason) w p

  pub all_responded_sound : (rs : List Response) (w : Work) → Sound w → Sound (all_responded rs w)
  all_responded_sound [] w p = p
  all_responded_sound (r ∷ rs) w p = all_responded_sound rs (responded r.code r.reason w) (responded_sound r.code r.reason w p)

  pub server_step_sound : (event : ServerEvent) (w : Work) → Sound w → Sound (server_step event w)
  server_step_sound event w p = (
    sent_if_reads (server_after w.state.server event w.now).1.repeat (back_to w.origin) (repeated_text w.state.last) None w.sends p.0,
    (reached_on start.server w.state.server p.1.0 event w.now, λ f. (final_stays w.state.server event w.now (p.1.1 f).0, (p.1.1 f).1)),
    p.2,
    p.3,
    p.4,
  )

  pub client_step_sound : (k : ℕ) (b : TxnBranch) (event : ClientEvent) (ack : List ℕ) (w : Work) → Sound w → Sound (client_step k b event ack w)
  client_step_sound k b event ack w p = (
    sent_if_reads (client_after b.client event w.now).1.ack b.to ack None
        (sent_if (client_after b.client event w.now).1.send b.to b.request.bytes (Some k) w.sends)
        (sent_if_reads (client_after b.client event w.now).1.send b.to b.request.bytes (Some k) w.sends p.0),
    p.1,
    p.2,
    p.3,
    p.4,
  )

  pub ripe_sound : (k : ℕ) (w : Work) → Sound w → Sound (cancel_ripe k w)
  ripe_sound k w p = (cancel_reads (slice_get w.state.branches k) w.sends p.0, p.1, p.2, p.3, p.4)

  pub cancelling_sound : (k : ℕ) (w : Work) → Sound w → Sound (cancelling k w)
  cancelling_sound k w p = ripe_sound k (at_branch k (λ b. record b { is_cancelled = true }) w) p

  all_cancelling_sound : (ns : List ℕ) (w : Work) → Sound w → Sound (all_cancelling ns w)
  all_cancelling_sound [] w p = p
  all_cancelling_sound (k ∷ ns) w p = all_cancelling_sound ns (cancelling k w) (cancelling_sound k w p)

  pub pending_sound : (w : Work) → Sound w → Sound (cancelling_pending w)
  pending_sound w p = all_cancelling_sound (to_cancel w.state.history) w p

  pub invite_sound : (b : Bool) (k : ℕ) (w : Work) → Sound w → Sound (invite_cancelling b k w)
  invite_sound true k w p = cancelling_sound k w p
  invite_sound false k w p = p

  pub launched_sound : (l : Option Launch) (w : Work) → Sound w → Sound (launched l w)
  launched_sound None w p = p
  launched_sound (Some l) w p = (and_sent_reads l.to l.request.bytes _ w.sends p.0, p.1, p.2, p.3, p.4)

  pub best_sound : (code : ℕ) (text : Option (List ℕ)) (w : Work) → Sound w → Sound (best_sent_by code text w)
  best_sound code None w p = responded_sound (code_sent code) (reason_sent code) w p
  best_sound code (Some text) w p =
      if_sound (code == 503) (responded 500 (reason_sent 500) w) (responding code text w) (responded_sound 500 (reason_sent 500) w p)
      (responding_sound true code text w p)

  pub kept_sound : (k code : ℕ) (text : Option (List ℕ)) (w : Work) → Sound w → Sound (kept_response k code text w)
  kept_sound k code text w p = if_sound (nat_le 600 code) (cancelling_pending (kept_for k text w)) (kept_for k text w) (pending_sound (kept_for k text w) p) p

  pub forwarded_sound : (code : ℕ) (text : List ℕ) (w : Work) → Sound w → Sound (forwarded_now code text w)
  forwarded_sound code text w p =
      if_sound (is_success code) (cancelling_pending (responding code text w)) (responding code text w)
      (pending_sound (responding code text w) (responding_sound true code text w p)) (responding_sound true code text w p)

-- ---- what a loose run sends

all_sent_reads : (to : Addr) (texts : List (List ℕ)) (sends : List Sent) → AllRead sends → AllRead (all_sent to texts sends)
all_sent_reads to [] sends p = p
all_sent_reads to (text ∷ texts) sends p = all_sent_reads to texts (and_sent to text None sends) (and_sent_reads to text None sends p)

ack_reads : (to : Option Addr) (text : List ℕ) (sends : List Sent) → AllRead sends → AllRead (ack_sent_to to text sends)
ack_reads None text sends p = p
ack_reads (Some to) text sends p = and_sent_reads to text None sends p

sends_if : (b : Bool) (x y : List Sent) → AllRead x → AllRead y → AllRead (if b then x else y)
sends_if true x y p q = p
sends_if false x y p q = q

outcome_reads : (p : Proxy) (r : Received) (source : Addr) (outcome : Outcome) (sends : List Sent) → AllRead sends → AllRead (outcome_sent p r source outcome sends)
outcome_reads p r source Undecided sends q = q
outcome_reads p r source (Stateless response) sends q = and_sent_reads (reply_address r.message.via source) (loose_response r source response) None sends q
outcome_reads p r source (Answered response) sends q = q
outcome_reads p r source (Relayed relay) sends q =
    sends_if (is_ack r)
    (ack_sent_to (target_address (around_of p r) (record { uri = relay.uri; destination = relay.destination })) (loose_ack (around_of p r) r source relay) sends)
    sends
    (ack_reads (target_address (around_of p r) (record { uri = relay.uri; destination = relay.destination })) (loose_ack (around_of p r) r source relay) sends q)
    q
outcome_reads p r source Suspended sends q = q

pub loosely_reads : (p : Proxy) (r : Received) (source : Addr) (f : Facts) (sends : List Sent) → AllRead sends → AllRead (loosely_sent p r source f sends)
loosely_reads p r source f sends q =
    outcome_reads p r source f.outcome (all_sent (reply_address r.message.via source) (loose_responses r source f.responses) sends)
    (all_sent_reads (reply_address r.message.via source) (loose_responses r source f.responses) sends q)
