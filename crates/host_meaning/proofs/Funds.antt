-- A run over a request with a transaction pays for what it relays, and responds provisionally beside its outcome.
use Rattle.std.proofs.Common.{◌≡◌, ℕ, Bool, true, false, List, [], ◌∷◌, ◌++◌, ◌∙◌, ◌<◌, ◌≤◌, ◌+◌, length, refl, sym, subst, Some, arith, true≢false}
use Rattle.std.proofs.lemmas.Bool.{or_parts, not-false}
use Rattle.std.proofs.lemmas.Bool.Decides.{nat_tests}
use Rattle.std.specs.Prelude.{Option, None, if◌then◌else◌, ◌||◌, not, ℤ, pos, zero, suc, nat_lt, is_none, nat_le, ◌&&◌, ◌==◌}
use Rattle.dialogue.specs.Course.{Course, Ends, Asks, Takes, and_then}
use Rattle.dialogue.specs.Talk.{Ends as RunEnds, Asks as RunAsks}
use Rattle.cfg_tree.specs.declared.script.Script.{Script}
use Rattle.cfg_tree.specs.Meaning.{RunTalk, dialogue}
use Rattle.claim_words.specs.declared.ClaimEnd.{ClaimEnd}
use Rattle.claim_words.specs.declared.ClaimEnd.TheVariants.{Won, Lost, Past, Unknown}
use Rattle.pv_values.specs.declared.run.HostAnswer.{HostAnswer}
use Rattle.pv_values.specs.declared.run.HostAsk.{HostAsk}
use Rattle.pv_values.specs.declared.run.HostAsk.TheVariants.{Read, Write, Call}
use Rattle.pv_values.specs.declared.value.Val.{Val}
use Rattle.pv_values.specs.declared.function.Func.{Func}
use Rattle.pv_values.specs.declared.function.Func.TheVariants as func
use Rattle.pv_values.specs.declared.variable.PvUse.{PvUse}
use Rattle.pv_values.specs.declared.variable.PvUse.TheVariants as pv
use Rattle.pv_values.specs.Kinds.{is_written_in, stands_in, name_of}
use Rattle.pv_values.specs.Values.{number_of, text_of}
use Rattle.msg_edits.specs.declared.parts.Edit.TheVariants.{Insert}
use Rattle.sip_scan.specs.declared.field.HeaderSpan.{HeaderSpan}
use Rattle.pv_table.specs.declared.facts.Facts.{Facts}
use Rattle.pv_table.specs.declared.facts.Outcome.{Outcome}
use Rattle.pv_table.specs.declared.facts.Outcome.TheVariants.{Undecided, Stateless, Answered, Relayed, Suspended}
use Rattle.pv_table.specs.declared.facts.Response.{Response}
use Rattle.pv_table.specs.declared.facts.Target.{Target}
use Rattle.pv_table.specs.Writing.{written}
use Rattle.host_meaning.specs.declared.ask.Asked.{Asked}
use Rattle.host_meaning.specs.declared.ask.Heard.{Heard}
use Rattle.host_meaning.specs.declared.ask.Heard.TheVariants as heard
use Rattle.host_meaning.specs.Run.{Received, Around, RunState, RowEnd, Tells, Lacks, RowCourse, code, argument, with_facts}
use Rattle.host_meaning.specs.Responses.{is_undecided, is_ack, sl_send_reply, refuses_reply, can_reply}
use Rattle.host_meaning.specs.Headers.{yes_or_no, fields_removed, left_named, append_hf, hops_code, record_route, all_fit, field_cuts, before_empty_line, is_header_text, fits, fits_reply, record_route_place, record_route_line}
use Rattle.host_meaning.specs.Routing.{loose_route, again, first_call, gone, Way, way_edits, route_fields, route_values, way}
use Rattle.host_meaning.specs.Transactions.{is_cancel, has_no_transaction, with_transaction, t_newtran, replied, t_reply, trying, with_trying, timers_set, found, t_check_trans, refuses_response, is_invite, with_response, with_final_response}
use Rattle.host_meaning.specs.Relaying.{first_target, most_branches, appended, append_branch, relay_of, relay_called, relayed, gives, with_block, takes_blocks, blocks_wanted, makes_too_many, relay_request, t_relay, target_address, has_no_hop, too_many_hops, has_destination, fits_first}
use Rattle.host_meaning.specs.Suspending.{opened, t_suspend, claim_heard, claimed, claims_numbered, t_continue, refuses_suspension, has_continued_all}
use Rattle.host_meaning.specs.TableRows.{or_lacks, limit_written}
use Rattle.host_meaning.specs.Rows.{row, read_row, write_row, called, call_over, has_started}
use Rattle.host_meaning.specs.Host.{HostEnd, Finished, RanOut, Onward, resumed, by_row, host, at_start, run_of}
use Rattle.host_meaning.specs.Funds.{EndsAlways, IsFundedOutcome, IsFunded, IsFundedRow, IsFundedEnd, AreProvisional, RowRespondsProvisionally, RespondsProvisionally}

-- ---- courses

-- what holds of each end holds of each end of what comes after it
always_then : {Middle End : Type 0} (P : Middle → Type 0) (Q : End → Type 0) (after : Middle → Course Asked Heard End) → ((m : Middle) → P m → EndsAlways Q (after m)) → (c : Course Asked Heard Middle) → EndsAlways P c → EndsAlways Q (and_then c after)
always_then P Q after k (Ends end) p = k end p
always_then P Q after k (Asks ask next) p = λ h. always_then P Q after k (next h) (p h)
always_then P Q after k (Takes short on) p = (always_then P Q after k short p.0, always_then P Q after k on p.1)

always_weaker : {End : Type 0} (P Q : End → Type 0) → ((e : End) → P e → Q e) → (c : Course Asked Heard End) → EndsAlways P c → EndsAlways Q c
always_weaker P Q k (Ends end) p = k end p
always_weaker P Q k (Asks ask next) p = λ h. always_weaker P Q k (next h) (p h)
always_weaker P Q k (Takes short on) p = (always_weaker P Q k short p.0, always_weaker P Q k on p.1)

-- ---- responses

one_more : (rs : List Response) (r : Response) → AreProvisional rs → r.code < 200 → AreProvisional (rs ++ r ∷ [])
one_more [] r p l = (l, tt)
one_more (x ∷ rs) r p l = (p.0, one_more rs r p.1 l)

below : (k : ℕ) → nat_lt k 200 ≡ true → k < 200
below k e = grind (arith, nat_tests)

at_most : (k : ℕ) → nat_lt most_branches k ≡ false → k ≤ 12
at_most k e = grind (arith, nat_tests)

undecided : (n : ℕ) (o : Outcome) (now blocks : ℕ) → is_undecided o ≡ true → IsFundedOutcome n o now blocks → now ≡ n
undecided n Undecided now blocks e p = p
undecided n (Stateless response) now blocks e p = absurd (true≢false (sym e))
undecided n (Answered response) now blocks e p = absurd (true≢false (sym e))
undecided n (Relayed relay) now blocks e p = absurd (true≢false (sym e))
undecided n Suspended now blocks e p = absurd (true≢false (sym e))

-- the branches are counted from so many that were before, or not at all
abbrev Counts : Option ℕ → Outcome → ℕ → ℕ → Type 0
Counts None outcome now blocks = Unit {0}
Counts (Some n) outcome now blocks = IsFundedOutcome n outcome now blocks

stateless : (m : Option ℕ) (response : Response) (now blocks : ℕ) → Counts m (Stateless response) now blocks
stateless None response now blocks = tt
stateless (Some n) response now blocks = tt

answered : (m : Option ℕ) (response : Response) (now blocks : ℕ) → Counts m (Answered response) now blocks
answered None response now blocks = tt
answered (Some n) response now blocks = tt

suspended : (m : Option ℕ) (now blocks : ℕ) → Counts m Suspended now blocks
suspended None now blocks = tt
suspended (Some n) now blocks = tt

relays : (m : Option ℕ) (f : Facts) (blocks paid now : ℕ) → is_undecided f.outcome ≡ true → Counts m f.outcome f.branches blocks → makes_too_many f ≡ false → paid ≡ blocks + (blocks_wanted f + 0) → Counts m (Relayed (relay_of f)) now paid
relays None f blocks paid now u p few e = tt
relays (Some n) f blocks paid now u p few e = let same = undecided n f.outcome f.branches blocks u p in let k = at_most _ few in (omega arith, omega arith)

-- the branches are counted so, and this holds of the responses: it stays where a provisional one is decided
module _ (m : Option ℕ) (Fine : List Response → Type 0) (grows : (rs : List Response) (r : Response) → Fine rs → r.code < 200 → Fine (rs ++ r ∷ [])) where
  abbrev Sound : RunState → Type 0
  Sound s = Counts m s.facts.outcome s.facts.branches s.blocks × Fine s.facts.responses

  abbrev SoundRow : RowEnd → Type 0
  SoundRow (Tells answer s) = Sound s
  SoundRow (Lacks s) = Unit {0}

  abbrev SoundEnd : HostEnd → Type 0
  SoundEnd (Finished s how) = Sound s
  SoundEnd (RanOut kept) = Unit {0}

  abbrev Sure : RowCourse → Type 0
  Sure c = EndsAlways SoundRow c

  if_sure : (b : Bool) (x y : RowCourse) → Sure x → Sure y → Sure (if b then x else y)
  if_sure true x y p q = p
  if_sure false x y p q = q

  if_by : (b : Bool) (x y : RowCourse) → (b ≡ true → Sure x) → (b ≡ false → Sure y) → Sure (if b then x else y)
  if_by true x y p q = p refl
  if_by false x y p q = q refl

  facts_by : (s : RunState) (b : Bool) (f g : Facts) → (b ≡ true → Sound (with_facts s f)) → (b ≡ false → Sound (with_facts s g)) → Sound (with_facts s (if b then f else g))
  facts_by s true f g p q = p refl
  facts_by s false f g p q = q refl

  -- ---- functions

  answers_sure : (b : Bool) (s : RunState) → Sound s → Sure (yes_or_no b s)
  answers_sure true s p = p
  answers_sure false s p = p

  stateless_sound : (response : Response) (s : RunState) → Sound s → Sound (with_facts s (record s.facts { outcome = Stateless response }))
  stateless_sound response s p = (stateless m response _ _, p.1)

  sl_send_reply_sure : (r : Received) (status : ℕ) (reason : List ℕ) (s : RunState) → Sound s → Sure (sl_send_reply r status reason s)
  sl_send_reply_sure r status reason s p =
      if_sure (refuses_reply r s.facts) _ _ p
      (if_sure (not (can_reply r s.facts status reason)) _ _ p
      (stateless_sound (record { code = status; reason = reason }) s p))

  removed_sure : (fields : List HeaderSpan) (s : RunState) → Sound s → Sure (fields_removed fields s)
  removed_sure fields s p =
      if_sure (length fields == 0) _ _ p
      (if_sure (not (all_fit s.facts.edits (field_cuts fields))) _ _ p p)

  append_hf_sure : (r : Received) (text : List ℕ) (s : RunState) → Sound s → Sure (append_hf r text s)
  append_hf_sure r text s p =
      let edit = before_empty_line r.message text in
      if_sure (not (is_header_text text)) _ _ p
      (if_sure (not (fits s.facts.edits edit)) _ _ p
      (if_sure (not (fits_reply s.facts.kind r (s.facts.edits ++ edit ∷ []))) _ _ p p))

  hops_sure : (hops : Option ℕ) (s : RunState) → Sound s → Sure (hops_code hops s)
  hops_sure None s p = p
  hops_sure (Some hops) s p = answers_sure _ s p

  record_route_sure : (a : Around) (r : Received) (s : RunState) → Sound s → Sure (record_route a r s)
  record_route_sure a r s p =
      let edit = Insert (record_route_place r.message.head.fields.items) (record_route_line a.settings.listen) in
      if_sure s.facts.has_record_route _ _ p
      (if_sure (not (fits s.facts.edits edit)) _ _ p p)

  gone_sure : (r : Received) (s : RunState) (w : Way) → Sound s → Sure (gone r s w)
  gone_sure r s w p =
      if_sure (not (all_fit s.facts.edits (way_edits r w))) _ _ p p

  first_sure : (a : Around) (r : Received) (s : RunState) → Sound s → Sure (first_call a r s)
  first_sure a r s p =
      if_sure (length (route_fields r) == 0) _ _ p (gone_sure r s (way a r.bytes (route_values r) s.facts.uri s.facts.destination) p)

  again_sure : (o : Option ℤ) (now : RowCourse) (s : RunState) → Sound s → Sure now → Sure (again o now s)
  again_sure None now s p q = q
  again_sure (Some k) now s p q = p

  loose_route_sure : (a : Around) (r : Received) (s : RunState) → Sound s → Sure (loose_route a r s)
  loose_route_sure a r s p = again_sure _ _ s p (first_sure a r s p)

  -- ---- functions of a transaction

  newtran_sure : (r : Received) (s : RunState) → Sound s → Sure (t_newtran r s)
  newtran_sure r s p =
      if_sure (has_no_transaction r || s.facts.standing.exists) _ _ p p

  answered_sound : (response : Response) (s : RunState) → Sound s → Sound (with_facts s (with_final_response response s.facts))
  answered_sound response s p = (answered m response _ _, p.1)

  replied_sound : (response : Response) (s : RunState) → Sound s → Sound (with_facts s (replied response s.facts))
  replied_sound response s p =
      facts_by s (nat_lt response.code 200) (with_response response s.facts) (with_final_response response s.facts) (λ t. (p.0, grows s.facts.responses response p.1 (below response.code t))) (λ f. answered_sound response s p)

  t_reply_sure : (r : Received) (status : ℕ) (reason : List ℕ) (s : RunState) → Sound s → Sure (t_reply r status reason s)
  t_reply_sure r status reason s p =
      if_sure (refuses_response r s.facts) _ _ p
      (if_sure (not (can_reply r s.facts status reason)) _ _ p
      (replied_sound (record { code = status; reason = reason }) s p))

  timers_sure : (invite other : Option ℕ) (s : RunState) → Sound s → Sure (timers_set invite other s)
  timers_sure None other s p = p
  timers_sure (Some invite) None s p = p
  timers_sure (Some invite) (Some other) s p = p

  found_sound : (h : Heard) (s : RunState) → Sound s → SoundRow (found h s)
  found_sound (heard.Found at) s p = p
  found_sound h s p = tt

  check_trans_sure : (r : Received) (s : RunState) → Sound s → Sure (t_check_trans r s)
  check_trans_sure r s p =
      if_sure (has_no_transaction r) _ _ (λ h. found_sound h s p) p

  appended_sure : (a : Around) (t : Target) (s : RunState) → Sound s → Sure (appended a t s)
  appended_sure a t s p =
      if_sure (is_none (target_address a t) || nat_le most_branches (s.facts.branches + 1 + length s.facts.targets)) _ _ p p

  append_branch_sure : (a : Around) (values : List Val) (s : RunState) → Sound s → Sure (append_branch a values s)
  append_branch_sure a [] s p = appended_sure a (first_target s.facts) s p
  append_branch_sure a (v ∷ values) s p = appended_sure a (record { uri = text_of v; destination = None }) s p

  responses_if : (b : Bool) (f g : Facts) → Fine f.responses → Fine g.responses → Fine (if b then f else g).responses
  responses_if true f g p q = p
  responses_if false f g p q = q

  trying_fine : (r : Received) (f : Facts) → Fine f.responses → Fine (with_trying r f).responses
  trying_fine r f p = responses_if (is_invite r && not f.standing.has_responded) (with_response trying f) f (grows f.responses trying p (omega arith)) p

  -- ---- relaying

  gives_sure : (taken : ℕ) (after : RowCourse) → Sure after → Sure (gives taken after)
  gives_sure zero after p = p
  gives_sure (suc taken) after p = λ h. gives_sure taken after p

  block_sure : (h : Heard) (taken : ℕ) (s : RunState) (more : RowCourse) → Sound s → Sure more → Sure (with_block h taken s more)
  block_sure (heard.Block true) taken s more p q = q
  block_sure (heard.Block false) taken s more p q = gives_sure taken _ p
  block_sure h taken s more p q = tt

  -- where all blocks are there, the run has so many more
  takes_sure : (k taken : ℕ) (s : RunState) (after : RunState → RowCourse) → Sound s → ((b : ℕ) → b ≡ s.blocks + (k + taken) → Sure (after (record s { blocks = b }))) → Sure (takes_blocks k taken s after)
  takes_sure zero taken s after p q = q (s.blocks + taken) (omega arith)
  takes_sure (suc k) taken s after p q = λ h. block_sure h taken s _ p (takes_sure k (suc taken) s after p (λ b e. q b (omega arith)))

  relayed_sound : (r : Received) (s : RunState) (b : ℕ) → is_undecided s.facts.outcome ≡ true → Sound s → makes_too_many s.facts ≡ false → b ≡ s.blocks + (blocks_wanted s.facts + 0) → Sound (relayed r (record s { blocks = b }))
  relayed_sound r s b u p few paid = (relays m s.facts s.blocks b _ u p.0 few paid, trying_fine r (with_transaction s.facts) p.1)

  relay_request_sure : (a : Around) (r : Received) (s : RunState) → Sound s → Sure (relay_request a r s)
  relay_request_sure a r s p =
      if_by (not (is_undecided s.facts.outcome) || s.facts.standing.is_answered || s.facts.standing.is_suspended) _ _ (λ t. p) (λ still.
      if_sure s.facts.standing.is_cancelled _ _ p
      (if_sure (has_no_hop r.message.max_forwards) _ _ (answered_sound too_many_hops s p)
      (if_by (not (has_destination a s.facts) || makes_too_many s.facts) _ _ (λ t. p) (λ few.
      if_sure (not (fits_first a r s.facts)) _ _ p
      (takes_sure (blocks_wanted s.facts) 0 s (λ t. code (pos 1) (relayed r t)) p (λ b paid.
      relayed_sound r s b
      (not-false _ (or_parts (not (is_undecided s.facts.outcome)) _ (or_parts (not (is_undecided s.facts.outcome) || s.facts.standing.is_answered) _ still).0).0)
      p (or_parts (not (has_destination a s.facts)) (makes_too_many s.facts) few).1 paid))))))

  -- ---- suspending

  opened_sure : (r : Received) (s : RunState) (h : Heard) → Sound s → Sure (opened r s h)
  opened_sure r s (heard.Opened serial) p = (suspended m _ _, trying_fine r (with_transaction s.facts) p.1)
  opened_sure r s h p = tt

  suspend_sure : (r : Received) (s : RunState) → Sound s → Sure (t_suspend r s)
  suspend_sure r s p =
      if_sure (refuses_suspension r s.facts) _ _ p (λ h. opened_sure r s h p)

  claim_sure : (slot serial route : ℕ) (s : RunState) (end : ClaimEnd) → Sound s → Sure (claim_heard slot serial route s end)
  claim_sure slot serial route s (Won place) p = λ h. p
  claim_sure slot serial route s (Lost by) p = p
  claim_sure slot serial route s (Past latest) p = p
  claim_sure slot serial route s Unknown p = p

  claimed_sure : (slot serial route : ℕ) (s : RunState) (h : Heard) → Sound s → Sure (claimed slot serial route s h)
  claimed_sure slot serial route s (heard.Claim end) p = claim_sure slot serial route s end p
  claimed_sure slot serial route s h p = tt

  numbered_sure : (a : Around) (slot serial : Option ℤ) (route : ℕ) (s : RunState) → Sound s → Sure (claims_numbered a slot serial route s)
  numbered_sure a (Some (pos slot)) (Some (pos serial)) route s p = if_sure (nat_lt slot a.settings.slots) _ _ (λ h. claimed_sure slot serial route s h p) p
  numbered_sure a slot serial route s p = p

  continue_sure : (a : Around) (values : List Val) (route : ℕ) (s : RunState) → Sound s → Sure (t_continue a values route s)
  continue_sure a values route s p =
      if_sure (has_continued_all s.facts) _ _ p (numbered_sure a _ _ route s p)

  -- ---- tables

  table_sound : (o : Option HostAnswer) (s : RunState) → Sound s → SoundRow (or_lacks o s)
  table_sound None s p = tt
  table_sound (Some answer) s p = p

  limit_sure : (t : ℕ) (key : List ℕ) (o : Option ℤ) (s : RunState) → Sound s → Sure (limit_written t key o s)
  limit_sure t key None s p = p
  limit_sure t key (Some k) s p = λ h. table_sound _ s p

  -- ---- variables

  read_sure : (a : Around) (x : PvUse) (s : RunState) → Sound s → Sure (read_row a x s)
  read_sure a (pv.Item t key) s p = λ h. table_sound _ s p
  read_sure a (pv.ItemSeconds t key) s p = λ h. table_sound _ s p
  read_sure a (pv.ItemIncrement t key) s p = λ h. table_sound _ s p
  read_sure a (pv.ItemDecrement t key) s p = λ h. table_sound _ s p
  read_sure a pv.Myself s p = p
  read_sure a x s p = p

  written_sound : (s : RunState) (x : PvUse) (v : Val) → Sound s → Sound (with_facts s (written s.facts x v))
  written_sound s pv.RequestUri v p = p
  written_sound s pv.RequestUser v p = p
  written_sound s pv.RequestHost v p = p
  written_sound s pv.RequestPort v p = p
  written_sound s pv.DestinationUri v p = p
  written_sound s (pv.Avp name) v p = p
  written_sound s _ v p = p

  write_sure : (x : PvUse) (v : Val) (s : RunState) → Sound s → Sure (write_row x v s)
  write_sure (pv.Item t key) v s p = λ h. table_sound _ s p
  write_sure (pv.ItemSeconds t key) v s p = limit_sure t key (number_of v) s p
  write_sure x v s p = facts_by s (is_written_in x s.facts.kind) (written s.facts x v) s.facts (λ t. written_sound s x v p) (λ f. p)

  -- ---- runs over a request with a transaction

  module _ (a : Around) (r : Received) (own : has_no_transaction r ≡ false) where
    t_relay_sure : (s : RunState) → Sound s → Sure (t_relay a r s)
    t_relay_sure s p =
        if_by (is_ack r) _ _ (λ t. absurd (true≢false (sym t ∙ (or_parts (is_ack r) (is_cancel r) own).0))) (λ f.
        if_by (is_cancel r) _ _ (λ t. absurd (true≢false (sym t ∙ (or_parts (is_ack r) (is_cancel r) own).1))) (λ g.
        relay_request_sure a r (relay_called s) p))

    over_sure : (f : Func) (values : List Val) (s : RunState) → Sound s → Sure (call_over a r f values s)
    over_sure (func.SlSendReply status) values s p = sl_send_reply_sure r status (argument values 0) s p
    over_sure (func.IsMethod methods) values s p = answers_sure _ s p
    over_sure func.HasTotag values s p = answers_sure _ s p
    over_sure (func.IsPresentHf name) values s p = answers_sure _ s p
    over_sure (func.RemoveHf name) values s p = removed_sure (left_named r name s.facts.edits) s p
    over_sure func.AppendHf values s p = append_hf_sure r (argument values 0) s p
    over_sure (func.MfProcessMaxfwdHeader k) values s p = hops_sure r.message.max_forwards _ p
    over_sure func.RecordRoute values s p = record_route_sure a r s p
    over_sure func.LooseRoute values s p = loose_route_sure a r s p
    over_sure func.TNewtran values s p = newtran_sure r s p
    over_sure (func.TReply status) values s p = t_reply_sure r status (argument values 0) s p
    over_sure func.TRelay values s p = t_relay_sure s p
    over_sure func.AppendBranch values s p = append_branch_sure a values s p
    over_sure (func.TOnBranch block) values s p = p
    over_sure (func.TOnFailure block) values s p = p
    over_sure (func.TOnReply block) values s p = p
    over_sure func.TSetFr values s p = timers_sure _ _ s p
    over_sure func.TCheckTrans values s p = check_trans_sure r s p
    over_sure func.TIsCanceled values s p = answers_sure _ s p
    over_sure func.TSuspend values s p = suspend_sure r s p
    over_sure (func.TContinue route) values s p = continue_sure a values route s p
    over_sure (func.TCheckStatus pattern) values s p = answers_sure _ s p
    over_sure func.Xlog values s p = λ h. table_sound _ s p
    over_sure (func.ShtRmNameRe table pattern) values s p = λ h. table_sound _ s p
    over_sure (func.ShtReset table) values s p = λ h. table_sound _ s p

    module _ (over : a.received ≡ Some r) where
      called_sure : (f : Func) (values : List Val) (s : RunState) → Sound s → Sure (called a a.received f values s)
      called_sure f values s p = subst (λ o. Sure (called a o f values s)) (sym over) (over_sure f values s p)

      row_sure : (ask : HostAsk) (s : RunState) → Sound s → Sure (row a ask s)
      row_sure (Read x) s p = read_sure a x s p
      row_sure (Write x v) s p = write_sure x v s p
      row_sure (Call f values) s p = if_sure (has_started (name_of f) && stands_in (name_of f) s.facts.kind) _ _ (called_sure f values s p) p

  -- ---- from row to row

  module _ (go : Onward) (goes : (answer : HostAnswer) (s : RunState) → Sound s → EndsAlways SoundEnd (go answer s)) where
    resumed_sure : (end : RowEnd) → SoundRow end → EndsAlways SoundEnd (resumed go end)
    resumed_sure (Tells answer s) p = (tt, goes answer s p)
    resumed_sure (Lacks s) p = tt

    by_row_sure : (c : RowCourse) → Sure c → EndsAlways SoundEnd (by_row go c)
    by_row_sure (Ends (Tells answer s)) p = goes answer s p
    by_row_sure (Ends (Lacks s)) p = tt
    by_row_sure (Asks ask next) p = λ h. always_then SoundRow SoundEnd (resumed go) resumed_sure (next h) (p h)
    by_row_sure (Takes short on) p = (always_then SoundRow SoundEnd (resumed go) resumed_sure short p.0, always_then SoundRow SoundEnd (resumed go) resumed_sure on p.1)

  module _ (a : Around) (r : Received) (over : a.received ≡ Some r) (own : has_no_transaction r ≡ false) where
    host_sure : (talk : RunTalk) (s : RunState) → Sound s → EndsAlways SoundEnd (host a talk s)
    host_sure (RunEnds end) s p = p
    host_sure (RunAsks ask next) s p = by_row_sure (λ answer. host a (next answer)) (λ answer. host_sure (next answer)) (row a ask s) (row_sure a r own over ask s p)

    run_sure : (script : Script) (block : ℕ) (s : RunState) → Sound s → EndsAlways SoundEnd (run_of script block a s)
    run_sure script block s p = (tt, host_sure (dialogue script block (at_start script)) s p)

-- ---- the branches are counted, and nothing is asked of the responses

abbrev Any : List Response → Type 0
Any responses = Unit {0}

any_grows : (rs : List Response) (r : Response) → Any rs → r.code < 200 → Any (rs ++ r ∷ [])
any_grows rs r p l = tt

row_is_funded : (n : ℕ) (end : RowEnd) → SoundRow (Some n) Any any_grows end → IsFundedRow n end
row_is_funded n (Tells answer s) p = p.0
row_is_funded n (Lacks s) p = tt

end_is_funded : (n : ℕ) (end : HostEnd) → SoundEnd (Some n) Any any_grows end → IsFundedEnd n end
end_is_funded n (Finished s how) p = p.0
end_is_funded n (RanOut kept) p = tt

begun : (n : ℕ) (o : Outcome) (blocks : ℕ) → o ≡ Undecided → IsFundedOutcome n o n blocks
begun n o blocks e = subst (λ x. IsFundedOutcome n x n blocks) (sym e) refl

pub called_funded : (n : ℕ) (a : Around) (r : Received) (f : Func) (values : List Val) (s : RunState) → has_no_transaction r ≡ false → IsFunded n s → EndsAlways (IsFundedRow n) (called a (Some r) f values s)
called_funded n a r f values s own p =
    always_weaker (SoundRow (Some n) Any any_grows) (IsFundedRow n) (row_is_funded n) (called a (Some r) f values s)
    (over_sure (Some n) Any any_grows a r own f values s (p, tt))

pub run_funded : (script : Script) (block : ℕ) (a : Around) (r : Received) (f : Facts) → a.received ≡ Some r → has_no_transaction r ≡ false → f.outcome ≡ Undecided → EndsAlways (IsFundedEnd f.branches) (run_of script block a (record { facts = f; blocks = 0 }))
run_funded script block a r f over own still =
    let s : RunState = record { facts = f; blocks = 0 } in
    always_weaker (SoundEnd (Some f.branches) Any any_grows) (IsFundedEnd f.branches) (end_is_funded f.branches) (run_of script block a s)
    (run_sure (Some f.branches) Any any_grows a r over own script block s (begun f.branches f.outcome 0 still, tt))

-- ---- the responses are provisional, and no branch is counted

row_is_fine : (end : RowEnd) → SoundRow None AreProvisional one_more end → RowRespondsProvisionally end
row_is_fine (Tells answer s) p = p.1
row_is_fine (Lacks s) p = tt

end_is_fine : (end : HostEnd) → SoundEnd None AreProvisional one_more end → RespondsProvisionally end
end_is_fine (Finished s how) p = p.1
end_is_fine (RanOut kept) p = tt

pub called_provisional : (a : Around) (r : Received) (f : Func) (values : List Val) (s : RunState) → has_no_transaction r ≡ false → AreProvisional s.facts.responses → EndsAlways RowRespondsProvisionally (called a (Some r) f values s)
called_provisional a r f values s own p =
    always_weaker (SoundRow None AreProvisional one_more) RowRespondsProvisionally row_is_fine (called a (Some r) f values s)
    (over_sure None AreProvisional one_more a r own f values s (tt, p))

pub run_provisional : (script : Script) (block : ℕ) (a : Around) (r : Received) (s : RunState) → a.received ≡ Some r → has_no_transaction r ≡ false → s.facts.responses ≡ [] → EndsAlways RespondsProvisionally (run_of script block a s)
run_provisional script block a r s over own none =
    always_weaker (SoundEnd None AreProvisional one_more) RespondsProvisionally end_is_fine (run_of script block a s)
    (run_sure None AreProvisional one_more a r over own script block s (tt, subst AreProvisional (sym none) tt))
