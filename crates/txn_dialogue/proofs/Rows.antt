-- The rows, along which the laws of asks hold.
use Rattle.std.proofs.Common.{◌≡◌, ℕ, zero, suc, ◌+◌, ◌-◌, ◌<◌, ◌==◌, Bool, true, false, ◌&&◌, ◌||◌, ◌⊎◌, inl, inr, not, length, List, [], ◌∷◌, ◌++◌, ℤ, pos, Option, Some, None, refl, sym, subst, arith}
use Rattle.std.specs.Prelude.{if◌then◌else◌, nat_lt, nat_le, negsuc, is_none, is_some}
use Rattle.std.proofs.lemmas.Bool.{false≢true}
use Rattle.claim_words.specs.declared.By.TheVariants.{Continued}
use Rattle.claim_words.specs.declared.ClaimEnd.TheVariants.{Won, Lost, Past, Unknown}
use Rattle.dialogue.specs.Course.{Ends, Asks, Takes}
use Rattle.dialogue.specs.Talk.{Ends as RunEnds, Asks as RunAsks}
use Rattle.pv_values.specs.declared.run.HostAnswer.{HostAnswer}
use Rattle.pv_values.specs.declared.run.HostAnswer.TheVariants as told
use Rattle.pv_values.specs.declared.run.HostAsk.{HostAsk}
use Rattle.pv_values.specs.declared.run.HostAsk.TheVariants.{Read, Write, Call}
use Rattle.pv_values.specs.declared.value.Val.{Val}
use Rattle.pv_values.specs.declared.function.Func.{Func}
use Rattle.pv_values.specs.declared.function.Func.TheVariants as func
use Rattle.pv_values.specs.declared.variable.PvUse.{PvUse}
use Rattle.pv_values.specs.declared.variable.PvUse.TheVariants as pv
use Rattle.pv_values.specs.Values.{number_of, text_of}
use Rattle.pv_values.specs.Kinds.{stands_in, name_of}
use Rattle.pv_values.specs.Numbers.{number_in}
use Rattle.ht_core.specs.declared.operation.TabOp.{TabOp}
use Rattle.ht_core.specs.declared.operation.TabOp.TheVariants as op
use Rattle.ht_core.specs.declared.operation.TabReply.{TabReply}
use Rattle.ht_core.specs.declared.operation.TabReply.TheVariants as reply
use Rattle.cfg_tree.specs.declared.script.Script.{Script}
use Rattle.cfg_tree.specs.Meaning.{RunTalk, dialogue}
use Rattle.msg_edits.specs.declared.parts.Edit.TheVariants.{Insert}
use Rattle.sip_scan.specs.declared.field.HeaderSpan.{HeaderSpan}
use Rattle.pv_table.specs.declared.facts.Target.{Target}
use Rattle.host_meaning.specs.declared.ask.Asked.TheVariants as ask
use Rattle.host_meaning.specs.declared.ask.Heard.{Heard}
use Rattle.host_meaning.specs.declared.ask.Heard.TheVariants as heard
use Rattle.host_meaning.specs.Run.{Received, Around, RunState, RowEnd, Tells, Lacks, RowCourse, code, argument, is_readable, with_facts}
use Rattle.host_meaning.specs.Responses.{is_undecided, is_ack, refuses_reply, can_reply, sl_send_reply}
use Rattle.host_meaning.specs.Headers.{yes_or_no, fields_removed, left_named, append_hf, is_header_text, fits, all_fit, field_cuts, fits_reply, before_empty_line, hops_code, record_route, record_route_place, record_route_line}
use Rattle.host_meaning.specs.Routing.{loose_route, again, first_call, gone, Way, way, way_edits, route_fields, route_values}
use Rattle.host_meaning.specs.Transactions.{is_cancel, has_no_transaction, refuses_response, t_newtran, t_reply, timers_set, up_to, longest_timer, found, t_check_trans}
use Rattle.host_meaning.specs.Relaying.{target_address, first_target, most_branches, appended, append_branch, relay_of, loose_ack, has_no_hop, relay_called, relayed, gives, with_block, takes_blocks, fits_first, blocks_wanted, makes_too_many, has_destination, relay_request, relay_ack, cancel_found, relay_cancel, t_relay}
use Rattle.host_meaning.specs.Suspending.{most_suspensions, refuses_suspension, opened, t_suspend, has_continued_all, claimed, claims, claims_numbered, t_continue}
use Rattle.host_meaning.specs.TableRows.{or_lacks, by_table, asks_table, value_of_reply, written_by_reply, counted_by_reply, limit_written, noted, xlog}
use Rattle.host_meaning.specs.Rows.{row, has_started, read_row, write_row, called, call_over, call_without}
use Rattle.host_meaning.specs.Host.{HostEnd, Finished, RanOut, Onward, resumed, by_row, host, at_start, run_of}
use Rattle.txn_dialogue.proofs.Watched.{Mood, mood, after, shorted, Watched, watched_then}
use Rattle.txn_dialogue.specs.Shortage.{fits_ask, is_reply_to, replies_value, replies_done, replies_count}

-- whether a run may take no block: only where it takes none, since its message has no transaction
abbrev pub IsOf : Bool → Received → Type 0
IsOf loose r = (loose ≡ false) ⊎ (has_no_transaction r ≡ true)

abbrev pub IsOfMaybe : Bool → Option Received → Type 0
IsOfMaybe loose None = Unit {0}
IsOfMaybe loose (Some r) = IsOf loose r

-- what a table row takes for an answer is a reply of its operation
table_fits : (t : ℕ) (o : TabOp) (f : TabReply → Option HostAnswer) → ((r : TabReply) → is_some (f r) ≡ is_reply_to o r) → (h : Heard)
    → is_some (by_table f h) ≡ fits_ask (ask.Table t o) h
table_fits t o f p (heard.Table r) = p r
table_fits t o f p h = refl

value_fits : (r : TabReply) → is_some (value_of_reply r) ≡ replies_value r
value_fits (reply.Value v) = refl
value_fits r = refl

written_fits : (r : TabReply) → is_some (written_by_reply r) ≡ replies_done r
written_fits (reply.Value v) = refl
written_fits r = refl

count_fits : (r : TabReply) → is_some (counted_by_reply r) ≡ replies_count r
count_fits (reply.Value v) = refl
count_fits r = refl

log_fits : (text : List ℕ) (h : Heard) → is_some (noted h) ≡ fits_ask (ask.Log text) h
log_fits text heard.Noted = refl
log_fits text h = refl

module _ (loose short : Bool) (base : ℕ) where
  -- a run holds so many blocks besides
  abbrev at : ℕ → Mood
  at n = mood loose short (base + n)

  abbrev row_end : RowEnd → Mood → Type 0
  row_end (Tells answer s) m = m ≡ at s.blocks
  row_end (Lacks s) m = m ≡ mood loose true (base + s.blocks)

  abbrev Fine : RunState → RowCourse → Type 0
  Fine s c = Watched row_end c (at s.blocks)

  if_fine : (s : RunState) (b : Bool) (x y : RowCourse) → Fine s x → Fine s y → Fine s (if b then x else y)
  if_fine s true x y p q = p
  if_fine s false x y p q = q

  answers : (s t : RunState) (b : Bool) → at t.blocks ≡ at s.blocks → Fine s (yes_or_no b t)
  answers s t true e = sym e
  answers s t false e = sym e

  lacks : (o : Option HostAnswer) (s : RunState) → row_end (or_lacks o s) (mood loose (if is_some o then short else true) (base + s.blocks))
  lacks None s = refl
  lacks (Some answer) s = refl

  table : (t : ℕ) (o : TabOp) (f : TabReply → Option HostAnswer) (s : RunState) → ((r : TabReply) → is_some (f r) ≡ is_reply_to o r) → Fine s (asks_table t o f s)
  table t o f s p = (
    (tt, tt, tt, tt, refl),
    λ h. subst (λ (b : Bool). row_end (or_lacks (by_table f h) s) (mood loose (if b then short else true) (base + s.blocks))) (table_fits t o f p h)
        (lacks (by_table f h) s),
  )

  logs : (text : List ℕ) (s : RunState) → Fine s (xlog text s)
  logs text s = (
    (tt, tt, tt, tt, refl),
    λ h. subst (λ (b : Bool). row_end (or_lacks (noted h) s) (mood loose (if b then short else true) (base + s.blocks))) (log_fits text h) (lacks (noted h) s),
  )

  -- ---- functions over a message

  sl_send_reply_fine : (r : Received) (status : ℕ) (reason : List ℕ) (s : RunState) → Fine s (sl_send_reply r status reason s)
  sl_send_reply_fine r status reason s = if_fine s (refuses_reply r s.facts) _ _ refl (if_fine s (not (can_reply r s.facts status reason)) _ _ refl refl)

  removed_fine : (fields : List HeaderSpan) (s : RunState) → Fine s (fields_removed fields s)
  removed_fine fields s = if_fine s (length fields == 0) _ _ refl (if_fine s (not (all_fit s.facts.edits (field_cuts fields))) _ _ refl refl)

  append_hf_fine : (r : Received) (text : List ℕ) (s : RunState) → Fine s (append_hf r text s)
  append_hf_fine r text s =
      if_fine s (not (is_header_text text)) _ _ refl
      (if_fine s (not (fits s.facts.edits (before_empty_line r.message text))) _ _ refl
      (if_fine s (not (fits_reply s.facts.kind r (s.facts.edits ++ before_empty_line r.message text ∷ []))) _ _ refl refl))

  hops_fine : (hops : Option ℕ) (s t : RunState) → at t.blocks ≡ at s.blocks → Fine s (hops_code hops t)
  hops_fine None s t e = sym e
  hops_fine (Some n) s t e = answers s t _ e

  record_route_fine : (a : Around) (r : Received) (s : RunState) → Fine s (record_route a r s)
  record_route_fine a r s =
      if_fine s s.facts.has_record_route _ _ refl
      (if_fine s (not (fits s.facts.edits (Insert (record_route_place r.message.head.fields.items) (record_route_line a.settings.listen)))) _ _ refl refl)

  gone_fine : (r : Received) (s : RunState) (w : Way) → Fine s (gone r s w)
  gone_fine r s w = if_fine s (not (all_fit s.facts.edits (way_edits r w))) _ _ refl refl

  again_fine : (o : Option ℤ) (s : RunState) (now : RowCourse) → Fine s now → Fine s (again o now s)
  again_fine None s now p = p
  again_fine (Some n) s now p = refl

  loose_route_fine : (a : Around) (r : Received) (s : RunState) → Fine s (loose_route a r s)
  loose_route_fine a r s =
      again_fine s.facts.loose_route s (first_call a r s)
      (if_fine s (length (route_fields r) == 0) _ _ refl (gone_fine r s (way a r.bytes (route_values r) s.facts.uri s.facts.destination)))

  -- ---- functions of a transaction

  newtran_fine : (r : Received) (s : RunState) → Fine s (t_newtran r s)
  newtran_fine r s = if_fine s (has_no_transaction r || s.facts.standing.exists) _ _ refl refl

  t_reply_fine : (r : Received) (status : ℕ) (reason : List ℕ) (s : RunState) → Fine s (t_reply r status reason s)
  t_reply_fine r status reason s = if_fine s (refuses_response r s.facts) _ _ refl (if_fine s (not (can_reply r s.facts status reason)) _ _ refl refl)

  timers_fine : (invite other : Option ℕ) (s : RunState) → Fine s (timers_set invite other s)
  timers_fine None other s = refl
  timers_fine (Some invite) None s = refl
  timers_fine (Some invite) (Some other) s = refl

  appended_fine : (a : Around) (t : Target) (s : RunState) → Fine s (appended a t s)
  appended_fine a t s = if_fine s (is_none (target_address a t) || nat_le most_branches (s.facts.branches + 1 + length s.facts.targets)) _ _ refl refl

  append_branch_fine : (a : Around) (values : List Val) (s : RunState) → Fine s (append_branch a values s)
  append_branch_fine a [] s = appended_fine a (first_target s.facts) s
  append_branch_fine a (v ∷ values) s = appended_fine a (record { uri = text_of v; destination = None }) s

  found_fine : (h : Heard) (s : RunState) → row_end (found h s) (after ask.Find h (at s.blocks))
  found_fine (heard.Found place) s = refl
  found_fine h s = refl

  check_trans_fine : (r : Received) (s : RunState) → Fine s (t_check_trans r s)
  check_trans_fine r s = if_fine s (has_no_transaction r) _ _ ((tt, tt, tt, tt, refl), λ h. found_fine h s) refl

  -- ---- blocks

  -- so many go back, and so many are left
  gives_fine : (n left : ℕ) (c : RowCourse) → Watched row_end c (at left) → Watched row_end (gives n c) (at (left + n))
  gives_fine zero left c p = subst (λ (k : ℕ). Watched row_end c (mood loose short k)) (let e : base + left ≡ base + (left + 0) = omega arith in e) p
  gives_fine (suc n) left c p = (
    (tt, let e : 0 < base + (left + suc n) = omega arith in e, tt, tt, refl),
    λ h. subst (λ (k : ℕ). Watched row_end (gives n c) (mood loose short k)) (let e : base + (left + n) ≡ base + (left + suc n) - 1 = omega arith in e) (gives_fine n left c p),
  )

  -- one more was asked for
  with_block_fine : loose ≡ false → (h : Heard) (taken : ℕ) (s : RunState) (more : RowCourse)
      → Watched row_end more (at (s.blocks + suc taken)) → Watched row_end (with_block h taken s more) (after ask.Block h (at (s.blocks + taken)))
  with_block_fine q (heard.Block true) taken s more p =
      subst (λ (k : ℕ). Watched row_end more (mood loose short k)) (let e : base + (s.blocks + suc taken) ≡ base + (s.blocks + taken) + 1 = omega arith in e) p
  with_block_fine q (heard.Block false) taken s more p = gives_fine taken s.blocks (code (negsuc 1) s) refl
  with_block_fine q h taken s more p = refl

  takes_fine : loose ≡ false → (n taken : ℕ) (s : RunState) (next : RunState → RowCourse)
      → ((k : ℕ) → Watched row_end (next (record s { blocks = k })) (at k)) → Watched row_end (takes_blocks n taken s next) (at (s.blocks + taken))
  takes_fine q zero taken s next p = p (s.blocks + taken)
  takes_fine q (suc n) taken s next p =
      ((q, tt, tt, tt, refl), λ h. with_block_fine q h taken s (takes_blocks n (suc taken) s next) (takes_fine q n (suc taken) s next p))

  relay_request_fine : loose ≡ false → (a : Around) (r : Received) (s : RunState) → Fine s (relay_request a r s)
  relay_request_fine q a r s =
      if_fine s (not (is_undecided s.facts.outcome) || s.facts.standing.is_answered || s.facts.standing.is_suspended) _ _ refl
      (if_fine s s.facts.standing.is_cancelled _ _ refl
      (if_fine s (has_no_hop r.message.max_forwards) _ _ refl
      (if_fine s (not (has_destination a s.facts) || makes_too_many s.facts) _ _ refl
      (if_fine s (not (fits_first a r s.facts)) _ _ refl
      (subst (λ (k : ℕ). Watched row_end (takes_blocks (blocks_wanted s.facts) 0 s (λ t. code (pos 1) (relayed r t))) (mood loose short k))
      (let e : base + (s.blocks + 0) ≡ base + s.blocks = omega arith in e)
      (takes_fine q (blocks_wanted s.facts) 0 s (λ t. code (pos 1) (relayed r t)) (λ k. refl)))))))

  relay_ack_fine : (a : Around) (r : Received) (s : RunState) → Fine s (relay_ack a r s)
  relay_ack_fine a r s =
      if_fine s (not (is_undecided s.facts.outcome) || has_no_hop r.message.max_forwards) _ _ refl
      (if_fine s (not (has_destination a s.facts)) _ _ refl
      (if_fine s (not (is_readable (loose_ack a r s.facts.source (relay_of s.facts)))) _ _ refl refl))

  cancel_found_fine : (s : RunState) (h : Heard) → Watched row_end (cancel_found s h) (after ask.Find h (at s.blocks))
  cancel_found_fine s (heard.Found None) = refl
  cancel_found_fine s (heard.Found (Some place)) = ((tt, tt, tt, tt, refl), λ h. refl)
  cancel_found_fine s h = refl

  relay_cancel_fine : (s : RunState) → Fine s (relay_cancel s)
  relay_cancel_fine s = if_fine s (not (is_undecided s.facts.outcome)) _ _ refl ((tt, tt, tt, tt, refl), λ h. cancel_found_fine s h)

  -- an ACK or a CANCEL, or else another request
  either_fine : (s : RunState) (ack cancel : Bool) (x y z : RowCourse) → (ack || cancel) ≡ true → Fine s x → Fine s y
      → Fine s (if ack then x else if cancel then y else z)
  either_fine s true cancel x y z e p q = p
  either_fine s false true x y z e p q = q
  either_fine s false false x y z e p q = absurd (false≢true e)

  t_relay_fine : (a : Around) (r : Received) (s : RunState) → IsOf loose r → Fine s (t_relay a r s)
  t_relay_fine a r s (inl q) =
      if_fine s (is_ack r) _ _ (relay_ack_fine a r (relay_called s))
      (if_fine s (is_cancel r) _ _ (relay_cancel_fine (relay_called s)) (relay_request_fine q a r (relay_called s)))
  t_relay_fine a r s (inr e) =
      either_fine s (is_ack r) (is_cancel r) (relay_ack a r (relay_called s)) (relay_cancel (relay_called s)) (relay_request a r (relay_called s))
      e (relay_ack_fine a r (relay_called s)) (relay_cancel_fine (relay_called s))

  -- ---- suspensions

  opened_fine : (r : Received) (s : RunState) (h : Heard) → Watched row_end (opened r s h) (after ask.Open h (at s.blocks))
  opened_fine r s (heard.Opened serial) = refl
  opened_fine r s h = refl

  suspend_fine : (r : Received) (s : RunState) → IsOf loose r → Fine s (t_suspend r s)
  suspend_fine r s (inl q) = if_fine s (refuses_suspension r s.facts) _ _ refl ((q, tt, tt, tt, refl), λ h. opened_fine r s h)
  suspend_fine r s (inr e) =
      subst (λ (b : Bool). Fine s (if b || not (is_undecided s.facts.outcome) || s.facts.standing.is_answered || s.facts.standing.is_cancelled || nat_le most_suspensions s.facts.suspensions then code (negsuc 0) s else Asks ask.Open (λ h. opened r s h)))
      (sym e) refl

  heard_fine : (slot serial route : ℕ) (s : RunState) (h : Heard)
      → Watched row_end (claimed slot serial route s h) (after (ask.Claim slot serial Continued) h (at s.blocks))
  heard_fine slot serial route s (heard.Claim (Won place)) = ((tt, tt, tt, refl, refl), λ h. refl)
  heard_fine slot serial route s (heard.Claim (Lost by)) = refl
  heard_fine slot serial route s (heard.Claim (Past latest)) = refl
  heard_fine slot serial route s (heard.Claim Unknown) = refl
  heard_fine slot serial route s h = refl

  claims_fine : (a : Around) (slot serial route : ℕ) (s : RunState) → Fine s (claims a slot serial route s)
  claims_fine a slot serial route s =
      if_fine s (nat_lt slot a.settings.slots) _ _ ((tt, tt, tt, tt, refl), λ h. heard_fine slot serial route s h) refl

  numbered_fine : (a : Around) (slot serial : Option ℤ) (route : ℕ) (s : RunState) → Fine s (claims_numbered a slot serial route s)
  numbered_fine a (Some (pos slot)) (Some (pos serial)) route s = claims_fine a slot serial route s
  numbered_fine a slot serial route s = refl

  continue_fine : (a : Around) (values : List Val) (route : ℕ) (s : RunState) → Fine s (t_continue a values route s)
  continue_fine a values route s =
      if_fine s (has_continued_all s.facts) _ _ refl (numbered_fine a (number_in (argument values 0)) (number_in (argument values 1)) route s)

  -- ---- all rows

  over_fine : (a : Around) (r : Received) → IsOf loose r → (f : Func) (values : List Val) (s : RunState) → Fine s (call_over a r f values s)
  over_fine a r q (func.SlSendReply status) values s = sl_send_reply_fine r status (argument values 0) s
  over_fine a r q (func.IsMethod methods) values s = answers s s _ refl
  over_fine a r q func.HasTotag values s = answers s s _ refl
  over_fine a r q (func.IsPresentHf name) values s = answers s s _ refl
  over_fine a r q (func.RemoveHf name) values s = removed_fine (left_named r name s.facts.edits) s
  over_fine a r q func.AppendHf values s = append_hf_fine r (argument values 0) s
  over_fine a r q (func.MfProcessMaxfwdHeader n) values s = hops_fine r.message.max_forwards s (with_facts s (record s.facts { absent_hops = Some n })) refl
  over_fine a r q func.RecordRoute values s = record_route_fine a r s
  over_fine a r q func.LooseRoute values s = loose_route_fine a r s
  over_fine a r q func.TNewtran values s = newtran_fine r s
  over_fine a r q (func.TReply status) values s = t_reply_fine r status (argument values 0) s
  over_fine a r q func.TRelay values s = t_relay_fine a r s q
  over_fine a r q func.AppendBranch values s = append_branch_fine a values s
  over_fine a r q (func.TOnBranch block) values s = refl
  over_fine a r q (func.TOnFailure block) values s = refl
  over_fine a r q (func.TOnReply block) values s = refl
  over_fine a r q func.TSetFr values s = timers_fine (up_to longest_timer (number_in (argument values 0))) (up_to longest_timer (number_in (argument values 1))) s
  over_fine a r q func.TCheckTrans values s = check_trans_fine r s
  over_fine a r q func.TIsCanceled values s = answers s s _ refl
  over_fine a r q func.TSuspend values s = suspend_fine r s q
  over_fine a r q (func.TContinue route) values s = continue_fine a values route s
  over_fine a r q (func.TCheckStatus pattern) values s = answers s s _ refl
  over_fine a r q func.Xlog values s = logs (argument values 0) s
  over_fine a r q (func.ShtRmNameRe t pattern) values s = table t (op.RemoveMatching pattern) counted_by_reply s count_fits
  over_fine a r q (func.ShtReset t) values s = table t op.Reset counted_by_reply s count_fits

  without_fine : (a : Around) (f : Func) (values : List Val) (s : RunState) → Fine s (call_without a f values s)
  without_fine a (func.IsMethod methods) values s = refl
  without_fine a (func.TContinue route) values s = continue_fine a values route s
  without_fine a func.Xlog values s = logs (argument values 0) s
  without_fine a (func.ShtRmNameRe t pattern) values s = table t (op.RemoveMatching pattern) counted_by_reply s count_fits
  without_fine a (func.ShtReset t) values s = table t op.Reset counted_by_reply s count_fits
  without_fine a _ values s = refl

  called_fine : (a : Around) (o : Option Received) → IsOfMaybe loose o → (f : Func) (values : List Val) (s : RunState) → Fine s (called a o f values s)
  called_fine a None q f values s = without_fine a f values s
  called_fine a (Some r) q f values s = over_fine a r q f values s

  limit_fine : (t : ℕ) (key : List ℕ) (o : Option ℤ) (s : RunState) → Fine s (limit_written t key o s)
  limit_fine t key None s = refl
  limit_fine t key (Some n) s = table t (op.Limit key n) written_by_reply s written_fits

  write_fine : (x : PvUse) (v : Val) (s : RunState) → Fine s (write_row x v s)
  write_fine (pv.Item t key) v s = table t (op.Set key v) written_by_reply s written_fits
  write_fine (pv.ItemSeconds t key) v s = limit_fine t key (number_of v) s
  write_fine x v s = refl

  read_fine : (a : Around) (x : PvUse) (s : RunState) → Fine s (read_row a x s)
  read_fine a (pv.Item t key) s = table t (op.Get key) value_of_reply s value_fits
  read_fine a (pv.ItemSeconds t key) s = table t (op.Left key) value_of_reply s value_fits
  read_fine a (pv.ItemIncrement t key) s = table t (op.Inc key) value_of_reply s value_fits
  read_fine a (pv.ItemDecrement t key) s = table t (op.Dec key) value_of_reply s value_fits
  read_fine a pv.Myself s = refl
  read_fine a x s = refl

  row_fine : (a : Around) → IsOfMaybe loose a.received → (ask : HostAsk) (s : RunState) → Fine s (row a ask s)
  row_fine a q (Read x) s = read_fine a x s
  row_fine a q (Write x v) s = write_fine x v s
  row_fine a q (Call f values) s = if_fine s (has_started (name_of f) && stands_in (name_of f) s.facts.kind) _ _ (called_fine a a.received q f values s) refl

  -- ---- runs

  abbrev pub host_end : HostEnd → Mood → Type 0
  host_end (Finished s how) m = m ≡ at s.blocks
  host_end (RanOut k) m = m ≡ mood loose true (base + k.blocks)

  GoesOn : Onward → Type 0
  GoesOn go = (answer : HostAnswer) (s : RunState) → Watched host_end (go answer s) (at s.blocks)

  resumed_fine : (go : Onward) → GoesOn go → (end : RowEnd) (m : Mood) → row_end end m → Watched host_end (resumed go end) m
  unfolding GoesOn
  resumed_fine go p (Tells answer s) m e = subst (λ (x : Mood). Watched host_end (resumed go (Tells answer s)) x) (sym e) ((refl, refl), refl, p answer s)
  resumed_fine go p (Lacks s) m e = e

  by_row_fine : (go : Onward) → GoesOn go → (s : RunState) (c : RowCourse) → Fine s c → Watched host_end (by_row go c) (at s.blocks)
  unfolding GoesOn
  by_row_fine go p s (Ends (Tells answer t)) w = subst (λ (x : Mood). Watched host_end (go answer t) x) (sym w) (p answer t)
  by_row_fine go p s (Ends (Lacks t)) w = w
  by_row_fine go p s (Asks a next) w =
      (w.0, λ h. watched_then row_end host_end (resumed go) (resumed_fine go p) (next h) (after a h (at s.blocks)) (w.1 h))
  by_row_fine go p s (Takes ran_out on) w = (
    w.0,
    watched_then row_end host_end (resumed go) (resumed_fine go p) ran_out (shorted (at s.blocks)) w.1,
    watched_then row_end host_end (resumed go) (resumed_fine go p) on (at s.blocks) w.2,
  )

  host_fine : (a : Around) → IsOfMaybe loose a.received → (t : RunTalk) (s : RunState) → Watched host_end (host a t s) (at s.blocks)
  unfolding GoesOn
  host_fine a q (RunEnds end) s = refl
  host_fine a q (RunAsks ask next) s =
      by_row_fine (λ answer. host a (next answer)) (λ answer t. host_fine a q (next answer) t) s (row a ask s) (row_fine a q ask s)

  pub run_fine : (script : Script) (block : ℕ) (a : Around) → IsOfMaybe loose a.received → (s : RunState) → Watched host_end (run_of script block a s) (at s.blocks)
  unfolding GoesOn
  run_fine script block a q s =
      resumed_fine (λ answer. host a (dialogue script block (at_start script))) (λ answer t. host_fine a q (dialogue script block (at_start script)) t) (Tells told.Start s) (at s.blocks) refl
