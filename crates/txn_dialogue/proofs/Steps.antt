-- The courses of steps, along which the laws of asks hold.
use Rattle.std.proofs.Common.{◌≡◌, ℕ, zero, suc, ◌+◌, ◌-◌, ◌<◌, Bool, true, false, not, ◌&&◌, inl, List, [], ◌∷◌, ◌++◌, Option, Some, None, refl, sym, ap, subst, ◌∙◌, arith}
use Rattle.std.specs.Prelude.{if◌then◌else◌, slice_get, codes}
use Rattle.std.proofs.lemmas.Bool.{false≢true}
use Rattle.std.specs.Str.{bytes_eq}
use Rattle.outside_ports.specs.declared.port.Addr.{Addr}
use Rattle.claim_words.specs.declared.By.TheVariants.{TimedOut, Cancelled}
use Rattle.claim_words.specs.declared.ClaimEnd.{ClaimEnd}
use Rattle.claim_words.specs.declared.ClaimEnd.TheVariants.{Won, Lost, Past, Unknown}
use Rattle.msg_edits.specs.declared.parts.Edit.{Edit}
use Rattle.dialogue.specs.Course.{Ends, Asks}
use Rattle.sip_build.specs.Relayed.{relayed_text}
use Rattle.sip_build.specs.Hop.{ack_text, cancel_text}
use Rattle.sip_keys.specs.Keys.{method_in}
use Rattle.fork_core.specs.Decisions.{is_to_keep}
use Rattle.fork_core.specs.declared.context.Forwarding.{Forwarding}
use Rattle.fork_core.specs.declared.context.Forwarding.TheVariants.{Now, Kept as KeptBack, Nothing}
use Rattle.txn_client.specs.declared.machine.Client.{Client}
use Rattle.txn_client.specs.declared.machine.ClientTimer.{ClientTimer}
use Rattle.txn_client.specs.declared.machine.ClientEvent.TheVariants as client
use Rattle.txn_client.specs.After.{client_after}
use Rattle.txn_server.specs.declared.machine.ServerEvent.TheVariants as server
use Rattle.txn_server.specs.After.{server_after}
use Rattle.pv_values.specs.declared.block.BlockKind.TheVariants as block
use Rattle.pv_values.specs.declared.run.How.{How}
use Rattle.pv_table.specs.declared.facts.Facts.{Facts}
use Rattle.pv_table.specs.declared.facts.Outcome.{Outcome}
use Rattle.pv_table.specs.declared.facts.Outcome.TheVariants.{Undecided, Stateless, Answered, Relayed, Suspended}
use Rattle.pv_table.specs.declared.facts.Relay.{Relay}
use Rattle.pv_table.specs.declared.facts.Response.{Response}
use Rattle.pv_table.specs.declared.facts.Target.{Target}
use Rattle.host_meaning.specs.declared.ask.Asked.TheVariants as ask
use Rattle.host_meaning.specs.declared.ask.Heard.{Heard}
use Rattle.host_meaning.specs.declared.ask.Heard.TheVariants as heard
use Rattle.host_meaning.specs.Run.{Received, RunState}
use Rattle.host_meaning.specs.Transactions.{is_invite, status_of}
use Rattle.host_meaning.specs.Relaying.{targets_of}
use Rattle.host_meaning.specs.Host.{HostEnd, Finished, RanOut, run_of}
use Rattle.txn_dialogue.specs.declared.mark.Mark.{Mark}
use Rattle.txn_dialogue.specs.declared.mark.Mark.TheVariants.{Handled, Dropped}
use Rattle.txn_dialogue.specs.declared.mark.Cause.TheVariants as cause
use Rattle.txn_dialogue.specs.declared.happening.BranchTimer.{BranchTimer}
use Rattle.txn_dialogue.specs.declared.happening.BranchTimer.TheVariants as branch_timer
use Rattle.txn_dialogue.specs.declared.happening.SlotTimer.{SlotTimer}
use Rattle.txn_dialogue.specs.declared.happening.SlotTimer.TheVariants as slot_timer
use Rattle.txn_dialogue.specs.Slots.{Proxy, Origin, TxnBranch, TxnState, Seen, SeenVacant, SeenLive, reading}
use Rattle.txn_dialogue.specs.Sends.{Sent, Work, kept_of, sent_if, responded, all_responded, server_step, client_step, cancel_ripe, cancelling_pending, settled, has_final, is_proceeding, at_branch, and_sent, back_to, made_text}
use Rattle.txn_dialogue.specs.Ending.{StepEnd, StepCourse, Close, end_of, due_of, leaves, gives, after_send, sending, closing, close_of, finish, leave_off, is_over, spare, slot_of}
use Rattle.txn_dialogue.specs.Memory.{new_label, short_by, short, short_outside, waiting}
use Rattle.txn_dialogue.specs.Runs.{around_of, facts_at, request_facts, beginning, takes, takes_avps, ended, ran, After}
use Rattle.txn_dialogue.specs.Rounds.{launch_to, launched, unless_drop, relay_in, target_in, Best, made, best_response, best_sent_by, best_sent, rounds_over, has_branch, all_launched, launches, in_next_round, relaying, suspending, after_failure_by, after_failure, disarmed, failed_by, over, round_failed, counted, is_drop}
use Rattle.txn_dialogue.specs.Replies.{BranchReply, is_provisional, class_event, noted, kept_response, forwarded_now, forwarded_by, forwarding_at, passed_up, dropped, listed, replying, timed, came_up, to_client, to_cancel_client, stray, to_cancel_of, response_method, to_branch, reply_by_code, reply_read, counted_by, counts, over_client}
use Rattle.txn_dialogue.specs.LooseRuns.{loose_facts, loose_mark, takes_nothing, with_loose_sends, loosely_ran}
use Rattle.txn_dialogue.specs.Events.{silent, after_silence, loosely_responded, after_request_by, after_request, request_ran, unavailable, ack, unsuspended, cancelled, marked_cancelled, is_continued, cancel_claimed, cancel_heard, cancel_by, suspension_claimed, suspension_heard, suspension_fired, undue, client_fired, cancel_fired, invite_cancelling, final_fired, quit_fired, branch_fired, at_its_branch, fired}
use Rattle.txn_dialogue.specs.Blocks.{blocks_in, blocks_at}
use Rattle.txn_dialogue.specs.Order.{Phase, Deciding, Sending, GivingBack, Leaving, Freed, EndsAt}
use Rattle.txn_dialogue.specs.Serving.{IsServed}
use Rattle.txn_dialogue.specs.Shortage.{is_aborted}
use Rattle.txn_dialogue.proofs.Watched.{Mood, mood, after, Watched, watched_then}
use Rattle.txn_dialogue.proofs.Rows.{run_fine, host_end}
use Rattle.txn_dialogue.proofs.Sound.{AllRead, Sound, and_sent_reads, sent_if_reads, settled_sound, responded_sound, all_responded_sound, server_step_sound, client_step_sound, ripe_sound, pending_sound, invite_sound, launched_sound, best_sound, kept_sound, forwarded_sound, loosely_reads}

-- what is known of a step in one of its phases
abbrev at : Bool → Phase → ℕ → Mood
at short phase n = record { loose = false; short = short; blocks = n; won = None; phase = phase }

-- phases in which blocks may still go back
abbrev IsOpen : Phase → Type 0
IsOpen Deciding = Unit {0}
IsOpen Sending = Unit {0}
IsOpen GivingBack = Unit {0}
IsOpen phase = ⊥

abbrev pub MaySend : Phase → Type 0
MaySend Deciding = Unit {0}
MaySend Sending = Unit {0}
MaySend phase = ⊥

-- the blocks that stay with the slot
abbrev staying : Bool → ℕ → ℕ
staying true n = n
staying false n = 0

module _ (o : Origin) (start : TxnState) where
  abbrev pub IsLeft : Seen → Type 0
  IsLeft (SeenVacant generation) = generation ≡ o.generation + 1
  IsLeft (SeenLive live) = (live.origin ≡ o) × IsServed start live.state

  abbrev pub fin : StepEnd → Mood → Type 0
  fin end m = (blocks_at end ≡ m.blocks) × (m.won ≡ None) × EndsAt m.phase (slot_of end) × IsLeft (slot_of end) × (is_aborted end ≡ true → m.short ≡ true)

  abbrev pub Fine : StepCourse → ℕ → Type 0
  Fine c n = Watched fin c (mood false false n)

  -- where memory was short
  abbrev pub FineShort : StepCourse → ℕ → Type 0
  FineShort c n = Watched fin c (mood false true n)

  if_fine : (b : Bool) (x y : StepCourse) (n : ℕ) → Fine x n → Fine y n → Fine (if b then x else y) n
  if_fine true x y n p q = p
  if_fine false x y n p q = q

  -- ---- the end of a step

  -- without a mark the step is aborted, which takes that memory was short
  abbrev IsMarked : Option Mark → Bool → Type 0
  IsMarked None short = short ≡ true
  IsMarked (Some mark) short = Unit {0}

  ends_fine : (short : Bool) (mark : Option Mark) → IsMarked mark short → (phase : Phase) (slot : Seen) (n : ℕ) → blocks_in slot ≡ n → EndsAt phase slot
      → IsLeft slot → fin (end_of mark slot) (at short phase n)
  ends_fine short None i phase slot n e a l = (e, refl, a, l, λ q. i)
  ends_fine short (Some mark) i phase slot n e a l = (e, refl, a, l, λ q. absurd (false≢true q))

  leaves_so : (short : Bool) (phase : Phase) → IsOpen phase → (stays : Bool) (c : Close) → IsMarked c.mark short → (s : TxnState) (n : ℕ)
      → staying stays c.blocks ≡ n → c.origin ≡ o → IsServed start s
      → Watched fin (if stays
      then Asks (ask.Due (due_of c.mark c.now s)) (λ h. Ends (end_of c.mark (SeenLive (record { origin = c.origin; state = s; blocks = c.blocks }))))
      else Asks (ask.Due None) (λ h. Asks ask.Free (λ h. Ends (end_of c.mark (SeenVacant (c.origin.generation + 1)))))) (at short phase n)
  leaves_so short Deciding q true c i s n e g r =
      ((tt, tt, tt, tt, refl), λ h. ends_fine short c.mark i Leaving (SeenLive (record { origin = c.origin; state = s; blocks = c.blocks })) n e tt (g, r))
  leaves_so short Deciding q false c i s n e g r = (
    (tt, tt, tt, tt, refl),
    λ h. (
      (tt, tt, tt, tt, refl),
      λ h. ends_fine short c.mark i Freed (SeenVacant (c.origin.generation + 1)) n e tt (ap (λ (x : Origin). x.generation + 1) g),
    ),
  )
  leaves_so short Sending q true c i s n e g r =
      ((tt, tt, tt, tt, refl), λ h. ends_fine short c.mark i Leaving (SeenLive (record { origin = c.origin; state = s; blocks = c.blocks })) n e tt (g, r))
  leaves_so short Sending q false c i s n e g r = (
    (tt, tt, tt, tt, refl),
    λ h. (
      (tt, tt, tt, tt, refl),
      λ h. ends_fine short c.mark i Freed (SeenVacant (c.origin.generation + 1)) n e tt (ap (λ (x : Origin). x.generation + 1) g),
    ),
  )
  leaves_so short GivingBack q true c i s n e g r =
      ((tt, tt, tt, tt, refl), λ h. ends_fine short c.mark i Leaving (SeenLive (record { origin = c.origin; state = s; blocks = c.blocks })) n e tt (g, r))
  leaves_so short GivingBack q false c i s n e g r = (
    (tt, tt, tt, tt, refl),
    λ h. (
      (tt, tt, tt, tt, refl),
      λ h. ends_fine short c.mark i Freed (SeenVacant (c.origin.generation + 1)) n e tt (ap (λ (x : Origin). x.generation + 1) g),
    ),
  )
  leaves_so short Leaving q stays c i s n e g r = absurd q
  leaves_so short Freed q stays c i s n e g r = absurd q

  gives_fine : (short : Bool) (k n : ℕ) (phase : Phase) → IsOpen phase → (c : StepCourse) → ((p : Phase) → IsOpen p → Watched fin c (at short p n))
      → Watched fin (gives k c) (at short phase (n + k))
  gives_fine short zero n phase q c p = subst (λ (j : ℕ). Watched fin c (at short phase j)) (let e : n ≡ n + 0 = omega arith in e) (p phase q)
  gives_fine short (suc k) n Deciding q c p = (
    (tt, let e : 0 < n + suc k = omega arith in e, tt, tt, refl),
    λ h. subst (λ (j : ℕ). Watched fin (gives k c) (at short Deciding j)) (let e : n + k ≡ n + suc k - 1 = omega arith in e) (gives_fine short k n Deciding tt c p),
  )
  gives_fine short (suc k) n Sending q c p = (
    (tt, let e : 0 < n + suc k = omega arith in e, tt, tt, refl),
    λ h. subst (λ (j : ℕ). Watched fin (gives k c) (at short GivingBack j)) (let e : n + k ≡ n + suc k - 1 = omega arith in e) (gives_fine short k n GivingBack tt c p),
  )
  gives_fine short (suc k) n GivingBack q c p = (
    (tt, let e : 0 < n + suc k = omega arith in e, tt, tt, refl),
    λ h. subst (λ (j : ℕ). Watched fin (gives k c) (at short GivingBack j)) (let e : n + k ≡ n + suc k - 1 = omega arith in e) (gives_fine short k n GivingBack tt c p),
  )
  gives_fine short (suc k) n Leaving q c p = absurd q
  gives_fine short (suc k) n Freed q c p = absurd q

  sending_fine : (short : Bool) (now : ℕ) (ds : List Sent) (s : TxnState) (n : ℕ) (next : TxnState → StepCourse) (phase : Phase) → MaySend phase → AllRead ds
      → IsServed start s → ((t : TxnState) (p : Phase) → IsOpen p → IsServed start t → Watched fin (next t) (at short p n))
      → Watched fin (sending now ds s next) (at short phase n)
  sending_fine short now [] s n next Deciding q a r p = p s Deciding tt r
  sending_fine short now [] s n next Sending q a r p = p s Sending tt r
  sending_fine short now [] s n next phase q a r p = absurd q
  sending_fine short now (d ∷ ds) s n next Deciding q a r p =
      ((tt, tt, a.0, tt, refl), λ h. sending_fine short now ds (after_send now d h s) n next Sending tt a.1 r p)
  sending_fine short now (d ∷ ds) s n next Sending q a r p =
      ((tt, tt, a.0, tt, refl), λ h. sending_fine short now ds (after_send now d h s) n next Sending tt a.1 r p)
  sending_fine short now (d ∷ ds) s n next phase q a r p = absurd q

  closing_fine : (short : Bool) (c : Close) → IsMarked c.mark short → (n : ℕ) → AllRead c.sends → IsServed start c.state → c.origin ≡ o
      → staying c.stays c.blocks + c.back ≡ n → Watched fin (closing c) (mood false short n)
  closing_fine short c i n a r g e =
      subst (λ (j : ℕ). Watched fin (closing c) (mood false short j)) e
      (sending_fine short c.now c.sends c.state (staying c.stays c.blocks + c.back) (λ s. gives c.back (leaves c s)) Deciding tt a r
      (λ t phase q r'. gives_fine short c.back (staying c.stays c.blocks) phase q (leaves c t)
      (λ p q'. leaves_so short p q' c.stays c i t (staying c.stays c.blocks) refl g r')))

  kept_back : (stays : Bool) (n : ℕ) (s : TxnState) → staying stays (n - spare stays n s) + spare stays n s ≡ n
  kept_back true n s = omega arith
  kept_back false n s = omega arith

  pub finish_fine : (n : ℕ) (mark : Mark) (w : Work) → Sound o start n w → Fine (finish mark w) n
  finish_fine n mark w p =
      let q = settled_sound o start n w p in
      subst (λ (j : ℕ). Fine (finish mark w) j) p.4
      (closing_fine false (close_of (not (is_over (settled w).state)) mark (settled w)) tt w.blocks q.0 q.1 q.3
      (kept_back (not (is_over (settled w).state)) w.blocks (settled w).state))

  leave_off_fine : (n : ℕ) (mark : Mark) (w : Work) → Sound o start n w → Fine (leave_off mark w) n
  leave_off_fine n mark w p =
      subst (λ (j : ℕ). Fine (leave_off mark w) j) p.4 (closing_fine false (close_of false mark w) tt w.blocks p.0 p.1 p.3 (kept_back false w.blocks w.state))

  -- ---- out of memory

  short_fine : (label : Option ℕ) (first : Bool) (k n : ℕ) (w : Work) → Sound o start n w → FineShort (short_by label first k w) k
  short_fine (Some serial) first k n w p =
      closing_fine true (record { origin = w.origin; state = waiting serial w.now w.base; blocks = k - spare true k w.base; sends = []; back = spare true k w.base; stays = true; mark = None; now = w.now })
      refl k tt p.2 p.3 (kept_back true k w.base)
  short_fine None true k n w p =
      closing_fine true (record { origin = w.origin; state = w.base; blocks = 0; sends = and_sent (back_to w.origin) (made_text w.origin 500 (codes "Out of Memory")) None []; back = k; stays = false; mark = None; now = w.now })
      refl k (and_sent_reads (back_to w.origin) (made_text w.origin 500 (codes "Out of Memory")) None [] tt) p.2 p.3 (let e : 0 + k ≡ k = omega arith in e)
  short_fine None false k n w p =
      closing_fine true (record { origin = w.origin; state = w.base; blocks = k - spare true k w.base; sends = []; back = spare true k w.base; stays = true; mark = None; now = w.now })
      refl k tt p.2 p.3 (kept_back true k w.base)

  pub short_outside_fine : (n : ℕ) (w : Work) → Sound o start n w → FineShort (short_outside w) n
  short_outside_fine n w p = subst (λ (j : ℕ). FineShort (short_outside w) j) p.4 (short_fine None w.first w.blocks n w p)

  -- ---- runs

  -- what is taken over from a run leaves the rest, and adds its blocks
  abbrev Adds : ℕ → (RunState → Work → Work) → Work → Type 0
  Adds n take w = (s : RunState) → Sound o start (n + s.blocks) (take s w)

  abbrev AfterFine : After → Type 0
  AfterFine next = (n : ℕ) (w : Work) (f : Facts) (h : How) → Sound o start n w → Fine (next w f h) n

  ended_fine : (n : ℕ) (take : RunState → Work → Work) (w : Work) (next : After) → Sound o start n w → Adds n take w → AfterFine next
      → (end : HostEnd) (m : Mood) → host_end false false n end m → Watched fin (ended take w next end) m
  ended_fine n take w next p a q (Finished s how) m e =
      subst (λ (x : Mood). Watched fin (next (take s w) s.facts how) x) (sym e) (q (n + s.blocks) (take s w) s.facts how (a s))
  ended_fine n take w next p a q (RanOut k) m e =
      subst (λ (x : Mood). Watched fin (short k w) x) (sym e)
      (subst (λ (j : ℕ). FineShort (short k w) (j + k.blocks)) p.4 (short_fine (new_label w.state.label k.label) w.first (w.blocks + k.blocks) n w p))

  ran_fine : (n : ℕ) (p : Proxy) (block : ℕ) (r : Received) (f : Facts) (take : RunState → Work → Work) (w : Work) (next : After) → Sound o start n w
      → Adds n take w → AfterFine next → Fine (ran p block r f take w next) n
  ran_fine n p block r f take w next s a q =
      subst (λ (j : ℕ). Fine (ran p block r f take w next) j) (let e : n + 0 ≡ n = omega arith in e)
      (watched_then (host_end false false n) fin (ended take w next) (ended_fine n take w next s a q) (run_of p.script block (around_of p r) (beginning f))
      (mood false false (n + 0)) (run_fine false false n p.script block (around_of p r) (inl refl) (beginning f)))

  -- a block's state, its AVPs, or nothing of it is taken over
  adds : (n : ℕ) (w : Work) (x : Work) (s : RunState) → Sound o start n w → AllRead x.sends → IsServed start x.state → IsServed start x.base
      → x.origin ≡ w.origin → x.blocks ≡ w.blocks + s.blocks → Sound o start (n + s.blocks) x
  adds n w x s p a r b g e = (a, r, b, g ∙ p.3, e ∙ ap (λ (j : ℕ). j + s.blocks) p.4)

  takes_adds : (n : ℕ) (w : Work) → Sound o start n w → Adds n takes w
  takes_adds n w p s = adds n w (takes s w) s p p.0 p.1 p.2 refl refl

  avps_add : (n : ℕ) (w : Work) → Sound o start n w → Adds n takes_avps w
  avps_add n w p s = adds n w (takes_avps s w) s p p.0 p.1 p.2 refl refl

  nothing_adds : (n : ℕ) (w : Work) → Sound o start n w → Adds n takes_nothing w
  nothing_adds n w p s = adds n w (takes_nothing s w) s p p.0 p.1 p.2 refl refl

  -- ---- rounds

  abbrev OverFine : rounds_over → Type 0
  OverFine over = (n : ℕ) (best : Best) (w : Work) → Sound o start n w → Fine (over best w) n

  all_launched_fine : (n : ℕ) (over : rounds_over) → OverFine over → (w : Work) → Sound o start n w → Fine (all_launched over w) n
  all_launched_fine n over q w p = if_fine (has_branch w.state.history) (finish Handled w) (over (made 503) w) n (finish_fine n Handled w p) (q n (made 503) w p)

  launches_fine : (n : ℕ) (p : Proxy) (over : rounds_over) → OverFine over → (relay : Relay) (block : Option ℕ) (ts : List Target) (w : Work)
      → Sound o start n w → Fine (launches p over relay block ts w) n
  launches_fine n p over q relay block [] w s = all_launched_fine n over q w s
  launches_fine n p over q relay None (t ∷ ts) w s =
      launches_fine n p over q relay None ts (launched (launch_to p relay t w) w) (launched_sound o start n (launch_to p relay t w) w s)
  launches_fine n p over q relay (Some b) (t ∷ ts) w s =
      ran_fine n p b w.origin.request (facts_at p w block.Branch w.origin.source relay.edits t.uri t.destination None) takes_avps w
      (λ w' f h. launches p over relay (Some b) ts (launched (unless_drop h (launch_to p (relay_in relay f) (target_in f) w')) w'))
      s (avps_add n w s)
      (λ k w' f h s'. launches_fine k p over q relay (Some b) ts (launched (unless_drop h (launch_to p (relay_in relay f) (target_in f) w')) w')
      (launched_sound o start k (unless_drop h (launch_to p (relay_in relay f) (target_in f) w')) w' s'))

  relaying_fine : (n : ℕ) (p : Proxy) (over : rounds_over) → OverFine over → (relay : Relay) (w : Work) → Sound o start n w → Fine (relaying p over relay w) n
  relaying_fine n p over q relay w s = launches_fine n p over q relay w.state.armed.branch (targets_of relay) (in_next_round w) s

  best_fine : (n : ℕ) (best : Best) (w : Work) → Sound o start n w → Fine (best_sent best w) n
  best_fine n best w s = finish_fine n Handled (best_sent_by best.code best.text w) (best_sound o start n best.code best.text w s)

  failure_fine : (n : ℕ) (p : Proxy) (over : rounds_over) → OverFine over → (best : Best) (outcome : Outcome) (w : Work) → Sound o start n w
      → Fine (after_failure_by p over best outcome w) n
  failure_fine n p over q best Undecided w s = best_fine n best w s
  failure_fine n p over q best (Stateless response) w s = best_fine n best w s
  failure_fine n p over q best (Answered response) w s =
      finish_fine n Handled (responded response.code response.reason w) (responded_sound o start n response.code response.reason w s)
  failure_fine n p over q best (Relayed relay) w s = relaying_fine n p over q relay w s
  failure_fine n p over q best Suspended w s = finish_fine n Handled (suspending w) s

  failed_fine : (n : ℕ) (p : Proxy) (over : rounds_over) → OverFine over → (armed : Option ℕ) (best : Best) (w : Work) → Sound o start n w
      → Fine (failed_by p over armed best w) n
  failed_fine n p over q None best w s = best_fine n best w s
  failed_fine n p over q (Some b) best w s =
      ran_fine n p b w.origin.request (request_facts p (disarmed w) block.Failure (Some best.code)) takes (disarmed w) (λ w' f h. after_failure p over best f w')
      s (takes_adds n (disarmed w) s)
      (λ k w' f h s'. failure_fine k p over q best f.outcome (all_responded f.responses w') (all_responded_sound o start k f.responses w' s'))

  pub over_fine : (p : Proxy) (more n : ℕ) (best : Best) (w : Work) → Sound o start n w → Fine (over p more best w) n
  over_fine p zero n best w s = best_fine n best w s
  over_fine p (suc more) n best w s =
      if_fine w.state.is_cancelled (finish Handled w) (failed_by p (over p more) w.state.armed.failure best w) n (finish_fine n Handled w s)
      (failed_fine n p (over p more) (λ k b x t. over_fine p more k b x t) w.state.armed.failure best w s)

  counted_fine : (n : ℕ) (p : Proxy) (w : Work) → Sound o start n w → Fine (counted p w) n
  counted_fine n p w s =
      if_fine (round_failed w.state) (over p 12 (best_response w.state) w) (finish Handled w) n (over_fine p 12 n (best_response w.state) w s) (finish_fine n Handled w s)

  -- ---- responses

  forwarded_fine : (n : ℕ) (p : Proxy) (f : Forwarding) (b code : ℕ) (text : List ℕ) (w : Work) → Sound o start n w → Fine (forwarded_by p f b code text w) n
  forwarded_fine n p Now b code text w s =
      finish_fine n Handled (cancel_ripe b (forwarded_now code text w)) (ripe_sound o start n b (forwarded_now code text w) (forwarded_sound o start n code text w s))
  forwarded_fine n p KeptBack b code text w s = counted_fine n p (kept_response b code (Some (kept_of text)) w) (kept_sound o start n b code (Some (kept_of text)) w s)
  forwarded_fine n p Nothing b code text w s = finish_fine n Handled (cancel_ripe b w) (ripe_sound o start n b w s)

  passed_fine : (n : ℕ) (p : Proxy) (r : BranchReply) (edits : List Edit) (w : Work) → Sound o start n w → Fine (passed_up p r edits w) n
  passed_fine n p r edits w s =
      forwarded_fine n p (forwarding_at w.state r.branch r.code) r.branch r.code (relayed_text r.response.bytes r.response.message edits) (noted r.branch r.code w) s

  replying_fine : (n : ℕ) (p : Proxy) (r : BranchReply) (blocks : List ℕ) (edits : List Edit) (w : Work) → Sound o start n w → Fine (replying p r blocks edits w) n
  replying_fine n p r [] edits w s = passed_fine n p r edits w s
  replying_fine n p r (b ∷ bs) edits w s =
      ran_fine n p b r.response (facts_at p w block.Reply r.source edits w.state.uri w.state.destination None) takes_avps w
      (λ w' f h. if is_drop h && is_provisional r.code then dropped r w' else replying p r bs f.edits w')
      s (avps_add n w s)
      (λ k w' f h s'. if_fine (is_drop h && is_provisional r.code) (dropped r w') (replying p r bs f.edits w') k
      (finish_fine k (Dropped cause.ScriptDrop) (cancel_ripe r.branch w') (ripe_sound o start k r.branch w' s')) (replying_fine k p r bs f.edits w' s'))

  came_up_fine : (n : ℕ) (p : Proxy) (up : Bool) (r : BranchReply) (w : Work) → Sound o start n w → Fine (came_up p up r w) n
  came_up_fine n p true r w s = replying_fine n p r (listed p.script.reply ++ listed w.state.armed.reply) [] (timed r w) s
  came_up_fine n p false r w s = finish_fine n Handled w s

  cancel_of_fine : (n : ℕ) (r : BranchReply) (c : Option Client) (w : Work) → Sound o start n w → Fine (to_cancel_of r c w) n
  cancel_of_fine n r None w s = finish_fine n (Dropped cause.StrayReply) w s
  cancel_of_fine n r (Some c) w s = finish_fine n Handled (to_cancel_client r.branch c (class_event r.code) w) s

  to_branch_fine : (n : ℕ) (p : Proxy) (r : BranchReply) (b : Option TxnBranch) (w : Work) → Sound o start n w → Fine (to_branch p r b w) n
  to_branch_fine n p r None w s = finish_fine n (Dropped cause.StrayReply) w s
  to_branch_fine n p r (Some b) w s =
      if_fine (bytes_eq (response_method r.response) (codes "CANCEL")) (to_cancel_of r b.cancel w)
      (if bytes_eq (response_method r.response) (method_in w.origin.request.bytes w.origin.request.message.start) then to_client p r b w else stray w) n
      (cancel_of_fine n r b.cancel w s)
      (if_fine (bytes_eq (response_method r.response) (method_in w.origin.request.bytes w.origin.request.message.start)) (to_client p r b w) (stray w) n
      (came_up_fine n p (client_after b.client (class_event r.code) w.now).1.up r
      (client_step r.branch b (class_event r.code) (ack_text b.request.bytes b.request.message r.response.bytes r.response.message) w)
      (client_step_sound o start n r.branch b (class_event r.code) (ack_text b.request.bytes b.request.message r.response.bytes r.response.message) w s))
      (finish_fine n (Dropped cause.StrayReply) w s))

  by_code_fine : (n : ℕ) (p : Proxy) (b : ℕ) (r : Received) (source : Addr) (code : Option ℕ) (w : Work) → Sound o start n w → Fine (reply_by_code p b r source code w) n
  by_code_fine n p b r source None w s = finish_fine n (Dropped cause.StrayReply) w s
  by_code_fine n p b r source (Some code) w s =
      to_branch_fine n p (record { branch = b; response = r; code = code; source = source }) (slice_get w.state.branches b) w s

  pub reply_fine : (n : ℕ) (p : Proxy) (b : ℕ) (r : Option Received) (source : Addr) (w : Work) → Sound o start n w → Fine (reply_read p b r source w) n
  reply_fine n p b None source w s = finish_fine n (Dropped cause.StrayReply) w s
  reply_fine n p b (Some r) source w s = by_code_fine n p b r source (status_of r.message.start) w s

  -- ---- responses that are counted

  counted_by_fine : (n : ℕ) (p : Proxy) (keeps : Bool) (b code : ℕ) (w : Work) → Sound o start n w → Fine (counted_by p keeps b code w) n
  counted_by_fine n p true b code w s = counted_fine n p (kept_response b code None w) (kept_sound o start n b code None w s)
  counted_by_fine n p false b code w s = finish_fine n Handled w s

  counts_fine : (n : ℕ) (p : Proxy) (b code : ℕ) (w : Work) → Sound o start n w → Fine (counts p b code w) n
  counts_fine n p b code w s = counted_by_fine n p (is_to_keep w.state.history b code) b code (noted b code w) s

  -- ---- a request

  silence_fine : (n : ℕ) (h : How) (w : Work) → Sound o start n w → Fine (after_silence h w) n
  silence_fine n h w s =
      if_fine (not w.exists) (leave_off (silent h) w) (if w.state.is_cancelled then finish Handled w else finish Handled (responded 500 (codes "Server Internal Error") w)) n
      (leave_off_fine n (silent h) w s)
      (if_fine w.state.is_cancelled (finish Handled w) (finish Handled (responded 500 (codes "Server Internal Error") w)) n (finish_fine n Handled w s)
      (finish_fine n Handled (responded 500 (codes "Server Internal Error") w) (responded_sound o start n 500 (codes "Server Internal Error") w s)))

  loosely_sound : (n : ℕ) (r : Response) (w : Work) → Sound o start n w → Sound o start n (loosely_responded r w)
  loosely_sound n r w s = (and_sent_reads (back_to w.origin) (made_text w.origin r.code r.reason) None w.sends s.0, s.1, s.2, s.3, s.4)

  request_by_fine : (n : ℕ) (p : Proxy) (outcome : Outcome) (h : How) (w : Work) → Sound o start n w → Fine (after_request_by p outcome h w) n
  request_by_fine n p Undecided h w s = silence_fine n h w s
  request_by_fine n p (Stateless r) h w s =
      let t = loosely_sound n r w s in
      if_fine w.exists (finish Handled (loosely_responded r w)) (leave_off Handled (loosely_responded r w)) n
      (finish_fine n Handled (loosely_responded r w) t) (leave_off_fine n Handled (loosely_responded r w) t)
  request_by_fine n p (Answered r) h w s = finish_fine n Handled (responded r.code r.reason w) (responded_sound o start n r.code r.reason w s)
  request_by_fine n p (Relayed relay) h w s = relaying_fine n p (over p 12) (λ k b x t. over_fine p 12 k b x t) relay w s
  request_by_fine n p Suspended h w s = finish_fine n Handled (suspending w) s

  pub request_ran_fine : (n : ℕ) (p : Proxy) (b : ℕ) (w : Work) → Sound o start n w → Fine (request_ran p b w) n
  request_ran_fine n p b w s =
      ran_fine n p b w.origin.request (request_facts p w block.Request None) takes w (λ w' f h. after_request p f h w') s (takes_adds n w s)
      (λ k w' f h s'. request_by_fine k p f.outcome h (all_responded f.responses w') (all_responded_sound o start k f.responses w' s'))

  pub unavailable_fine : (n : ℕ) (w : Work) → Sound o start n w → Fine (unavailable w) n
  unavailable_fine n w s =
      leave_off_fine n Handled (loosely_responded (record { code = 503; reason = codes "Service Unavailable" }) w)
      (loosely_sound n (record { code = 503; reason = codes "Service Unavailable" }) w s)

  -- ---- an ACK

  loosely_fine : (n : ℕ) (p : Proxy) (r : Option Received) (source : Addr) (w : Work) → Sound o start n w → Fine (loosely_ran p r source w) n
  loosely_fine n p None source w s = finish_fine n Handled w s
  loosely_fine n p (Some r) source w s =
      ran_fine n p p.script.request r (loose_facts p r source) takes_nothing w (λ w' f h. finish (loose_mark r source f h) (with_loose_sends p r source f w'))
      s (nothing_adds n w s)
      (λ k w' f h s'. finish_fine k (loose_mark r source f h) (with_loose_sends p r source f w') (loosely_reads p r source f w'.sends s'.0, s'.1, s'.2, s'.3, s'.4))

  pub ack_fine : (n : ℕ) (p : Proxy) (text : List ℕ) (source : Addr) (w : Work) → Sound o start n w → Fine (ack p text source w) n
  ack_fine n p text source w s =
      let t = server_step_sound o start n server.Ack w s in
      if_fine (server_after w.state.server server.Ack w.now).1.loose_ack (loosely_ran p (reading text) source (server_step server.Ack w))
      (finish Handled (server_step server.Ack w)) n (loosely_fine n p (reading text) source (server_step server.Ack w) t) (finish_fine n Handled (server_step server.Ack w) t)

  -- ---- a cancellation

  marked_fine : (n : ℕ) (owed : Bool) (w : Work) → Sound o start n w → Fine (marked_cancelled owed w) n
  marked_fine n owed w s = finish_fine n Handled (cancelling_pending (cancelled owed w)) (pending_sound o start n (cancelled owed w) s)

  claimed_fine : (n : ℕ) (w : Work) → Sound o start n w → (end : ClaimEnd) → Fine (cancel_claimed w end) n
  claimed_fine n w s (Won place) =
      finish_fine n Handled (responded 487 (codes "Request Terminated") (unsuspended w)) (responded_sound o start n 487 (codes "Request Terminated") (unsuspended w) s)
  claimed_fine n w s (Lost by) = marked_fine n (is_continued by) w s
  claimed_fine n w s (Past latest) = finish_fine n Handled w s
  claimed_fine n w s Unknown = finish_fine n Handled w s

  cancel_heard_fine : (n slot serial : ℕ) (w : Work) → Sound o start n w → (h : Heard)
      → Watched fin (cancel_heard w h) (after (ask.Claim slot serial Cancelled) h (mood false false n))
  cancel_heard_fine n slot serial w s (heard.Claim end) = claimed_fine n w s end
  cancel_heard_fine n slot serial w s h = short_outside_fine n w s

  pub cancel_fine : (n : ℕ) (p : Proxy) (serial : Option ℕ) (w : Work) → Sound o start n w → Fine (cancel_by p serial w) n
  cancel_fine n p (Some serial) w s = ((tt, tt, tt, tt, refl), λ h. cancel_heard_fine n p.number serial w s h)
  cancel_fine n p None w s =
      if_fine (has_final w.state) (finish Handled w) (marked_cancelled w.state.is_owed w) n (finish_fine n Handled w s) (marked_fine n w.state.is_owed w s)

  -- ---- timers

  suspension_claimed_fine : (n : ℕ) (p : Proxy) (w : Work) → Sound o start n w → (end : ClaimEnd) → Fine (suspension_claimed p w end) n
  suspension_claimed_fine n p w s (Won place) = over_fine p 12 n (made 408) (unsuspended w) s
  suspension_claimed_fine n p w s _ = finish_fine n Handled w s

  suspension_heard_fine : (n slot serial : ℕ) (p : Proxy) (w : Work) → Sound o start n w → (h : Heard)
      → Watched fin (suspension_heard p w h) (after (ask.Claim slot serial TimedOut) h (mood false false n))
  suspension_heard_fine n slot serial p w s (heard.Claim end) = suspension_claimed_fine n p w s end
  suspension_heard_fine n slot serial p w s h = short_outside_fine n w s

  suspension_fine : (n : ℕ) (p : Proxy) (serial : Option ℕ) (w : Work) → Sound o start n w → Fine (suspension_fired p serial w) n
  suspension_fine n p None w s = finish_fine n Handled w s
  suspension_fine n p (Some serial) w s = ((tt, tt, tt, tt, refl), λ h. suspension_heard_fine n p.number serial p w s h)

  client_fired_fine : (n : ℕ) (p : Proxy) (b : ℕ) (x : TxnBranch) (t : ClientTimer) (w : Work) → Sound o start n w → Fine (client_fired p b x t w) n
  client_fired_fine n p b x t w s =
      let q = client_step_sound o start n b x (client.Timer t) [] w s in
      if_fine (client_after x.client (client.Timer t) w.now).1.timeout (counts p b 408 (over_client b (client_step b x (client.Timer t) [] w)))
      (finish Handled (client_step b x (client.Timer t) [] w)) n
      (counts_fine n p b 408 (over_client b (client_step b x (client.Timer t) [] w)) q) (finish_fine n Handled (client_step b x (client.Timer t) [] w) q)

  cancel_fired_fine : (n b : ℕ) (x : TxnBranch) (t : ClientTimer) (c : Option Client) (w : Work) → Sound o start n w → Fine (cancel_fired b x t c w) n
  cancel_fired_fine n b x t None w s = finish_fine n Handled w s
  cancel_fired_fine n b x t (Some c) w s =
      finish_fine n Handled (record (to_cancel_client b c (client.Timer t) w) {
        sends = sent_if (client_after c (client.Timer t) w.now).1.send x.to (cancel_text x.request.bytes x.request.message) None w.sends;
      })
      (sent_if_reads (client_after c (client.Timer t) w.now).1.send x.to (cancel_text x.request.bytes x.request.message) None w.sends s.0, s.1, s.2, s.3, s.4)

  final_fired_fine : (n : ℕ) (p : Proxy) (b : ℕ) (x : TxnBranch) (w : Work) → Sound o start n w → Fine (final_fired p b x w) n
  final_fired_fine n p b x w s =
      if_fine (is_proceeding x.client.state) (counts p b 408 (invite_cancelling (is_invite w.origin.request) b w)) (counts p b 408 (over_client b w)) n
      (counts_fine n p b 408 (invite_cancelling (is_invite w.origin.request) b w) (invite_sound o start n (is_invite w.origin.request) b w s))
      (counts_fine n p b 408 (over_client b w) s)

  quit_fired_fine : (n : ℕ) (p : Proxy) (b : ℕ) (w : Work) → Sound o start n w → Fine (quit_fired p b w) n
  quit_fired_fine n p b w s =
      if_fine (is_to_keep w.state.history b 408) (counts p b 408 (over_client b w)) (finish Handled (over_client b w)) n
      (counts_fine n p b 408 (over_client b w) s) (finish_fine n Handled (over_client b w) s)

  branch_fired_fine : (n : ℕ) (p : Proxy) (b : ℕ) (t : BranchTimer) (x : TxnBranch) (w : Work) → Sound o start n w → Fine (branch_fired p b t x w) n
  branch_fired_fine n p b branch_timer.Unsent x w s = counts_fine n p b 503 (over_client b (at_branch b (λ y. record y { unsent_due = None }) w)) s
  branch_fired_fine n p b (branch_timer.Client t) x w s = client_fired_fine n p b x t w s
  branch_fired_fine n p b branch_timer.Final x w s = final_fired_fine n p b x (at_branch b (λ y. record y { final_due = None }) w) s
  branch_fired_fine n p b branch_timer.Quit x w s = quit_fired_fine n p b (at_branch b (λ y. record y { quit_due = None }) w) s
  branch_fired_fine n p b (branch_timer.Cancel t) x w s = cancel_fired_fine n b x t x.cancel w s

  its_branch_fine : (n : ℕ) (p : Proxy) (b : ℕ) (t : BranchTimer) (x : Option TxnBranch) (w : Work) → Sound o start n w → Fine (at_its_branch p b t x w) n
  its_branch_fine n p b t None w s = finish_fine n Handled w s
  its_branch_fine n p b t (Some x) w s = branch_fired_fine n p b t x w s

  pub fired_fine : (n : ℕ) (p : Proxy) (t : Option SlotTimer) (w : Work) → Sound o start n w → Fine (fired p t w) n
  fired_fine n p None w s = finish_fine n Handled w s
  fired_fine n p (Some slot_timer.Suspension) w s = suspension_fine n p w.state.suspension (undue w) s
  fired_fine n p (Some (slot_timer.Server t)) w s = finish_fine n Handled (server_step (server.Timer t) w) (server_step_sound o start n (server.Timer t) w s)
  fired_fine n p (Some (slot_timer.Branch b t)) w s = its_branch_fine n p b t (slice_get w.state.branches b) w s
