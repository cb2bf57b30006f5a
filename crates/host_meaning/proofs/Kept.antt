-- Rows that ask nothing keep the blocks and the last suspension.
use Rattle.std.proofs.Common.{◌≡◌, ℕ, Bool, true, false, inl, inr, List, [], ◌∷◌, ◌++◌, ◌==◌, ◌&&◌, ◌||◌, not, length, refl, ap, subst, Some}
use Rattle.std.proofs.lemmas.Bool.{cases_Bool}
use Rattle.std.specs.Prelude.{Option, None, is_none, if◌then◌else◌, ℤ, pos, zero, suc, ◌+◌, nat_le, nat_lt}
use Rattle.std.proofs.Common.{◌∙◌, arith}
use Rattle.dialogue.specs.Course.{Ends, Asks, Takes}
use Rattle.pv_values.specs.declared.run.HostAnswer.{HostAnswer}
use Rattle.pv_values.specs.declared.run.HostAsk.{HostAsk}
use Rattle.pv_values.specs.declared.run.HostAsk.TheVariants.{Read, Write, Call}
use Rattle.pv_values.specs.declared.value.Val.{Val}
use Rattle.pv_values.specs.declared.function.Func.{Func}
use Rattle.pv_values.specs.declared.function.Func.TheVariants as func
use Rattle.pv_values.specs.declared.variable.PvUse.{PvUse}
use Rattle.pv_values.specs.declared.variable.PvUse.TheVariants as pv
use Rattle.pv_values.specs.Values.{number_of, text_of}
use Rattle.pv_values.specs.Kinds.{is_written_in, stands_in, name_of}
use Rattle.sip_scan.specs.declared.field.HeaderSpan.{HeaderSpan}
use Rattle.sip_build.specs.Reply.{reply_text}
use Rattle.msg_edits.specs.declared.parts.Edit.TheVariants.{Insert}
use Rattle.pv_table.specs.declared.facts.Facts.{Facts}
use Rattle.pv_table.specs.declared.facts.Target.{Target}
use Rattle.pv_table.specs.Writing.{written, assigned}
use Rattle.host_meaning.specs.Run.{Received, Around, RunState, kept, Tells, Lacks, RowCourse, code, argument, is_readable, with_facts}
use Rattle.host_meaning.specs.Responses.{is_undecided, is_ack, sl_send_reply, refuses_reply, can_reply}
use Rattle.host_meaning.specs.Headers.{yes_or_no, is_method, has_totag, is_present_hf, fields_removed, remove_hf, left_named, append_hf, is_header_text, fits, all_fit, field_cuts, fits_reply, before_empty_line, hops_code, mf_process_maxfwd_header, record_route, record_route_place, record_route_line}
use Rattle.host_meaning.specs.Routing.{loose_route, again, first_call, gone, Way, way, way_edits, route_fields, route_values}
use Rattle.host_meaning.specs.Transactions.{is_invite, has_no_transaction, with_transaction, t_newtran, with_response, with_final_response, replied, refuses_response, t_reply, trying, with_trying, timers_set, t_check_trans}
use Rattle.host_meaning.specs.Relaying.{target_address, first_target, most_branches, appended, append_branch, relay_of, loose_ack, has_no_hop, relay_called, relayed, takes_blocks, fits_first, blocks_wanted, makes_too_many, has_destination, relay_request, relay_ack, relay_cancel, t_relay}
use Rattle.host_meaning.specs.Transactions.{is_cancel}
use Rattle.host_meaning.specs.Suspending.{refuses_suspension, t_suspend, has_continued_all, claims, claims_numbered, t_continue}
use Rattle.host_meaning.specs.TableRows.{limit_written}
use Rattle.host_meaning.specs.Rows.{row, has_started, read_row, write_row, call_row, called, call_over, call_without}

abbrev pub Keeps : RunState → RowCourse → Type 0
Keeps s (Ends (Tells answer t)) = kept t ≡ kept s
Keeps s (Ends (Lacks t)) = kept t ≡ kept s
Keeps s (Asks ask next) = Unit {0}
Keeps s (Takes short on) = Unit {0}

-- ---- functions

answers_keep : (s t : RunState) (b : Bool) → kept t ≡ kept s → Keeps s (yes_or_no b t)
answers_keep s t true e = e
answers_keep s t false e = e

sl_send_reply_keeps : (r : Received) (status : ℕ) (reason : List ℕ) (s : RunState) → Keeps s (sl_send_reply r status reason s)
sl_send_reply_keeps r status reason s =
    elim (cases_Bool (refuses_reply r s.facts)) [
      | inl t ↦ rw t refl
      | inr f ↦ rw f (elim (cases_Bool (not (can_reply r s.facts status reason))) [ inl t' ↦ rw t' refl | inr f' ↦ rw f' refl ])
    ]

removed_keep : (fields : List HeaderSpan) (s : RunState) → Keeps s (fields_removed fields s)
removed_keep fields s =
    elim (cases_Bool (length fields == 0)) [
      | inl t ↦ rw t refl
      | inr f ↦ rw f (elim (cases_Bool (not (all_fit s.facts.edits (field_cuts fields)))) [ inl t' ↦ rw t' refl | inr f' ↦ rw f' refl ])
    ]

remove_hf_keeps : (r : Received) (name : List ℕ) (s : RunState) → Keeps s (remove_hf r name s)
remove_hf_keeps r name s = removed_keep (left_named r name s.facts.edits) s

append_hf_keeps : (r : Received) (text : List ℕ) (s : RunState) → Keeps s (append_hf r text s)
append_hf_keeps r text s =
    elim (cases_Bool (not (is_header_text text))) [
      | inl t ↦ rw t refl
      | inr f ↦ rw f (elim (cases_Bool (not (fits s.facts.edits (before_empty_line r.message text)))) [
        | inl t' ↦ rw t' refl
        | inr f' ↦ rw f' (elim (cases_Bool (not (fits_reply s.facts.kind r (s.facts.edits ++ before_empty_line r.message text ∷ [])))) [ inl u ↦ rw u refl | inr v ↦ rw v refl ])
      ])
    ]

hops_keep : (hops : Option ℕ) (s t : RunState) → kept t ≡ kept s → Keeps s (hops_code hops t)
hops_keep None s t e = e
hops_keep (Some n) s t e = answers_keep s t _ e

record_route_keeps : (a : Around) (r : Received) (s : RunState) → Keeps s (record_route a r s)
record_route_keeps a r s =
    elim (cases_Bool (s.facts.has_record_route)) [
      | inl t ↦ rw t refl
      | inr f ↦ rw f (elim (cases_Bool (not (fits s.facts.edits (Insert (record_route_place r.message.head.fields.items) (record_route_line a.settings.listen))))) [ inl t' ↦ rw t' refl | inr f' ↦ rw f' refl ])
    ]

gone_keeps : (r : Received) (s : RunState) (w : Way) → Keeps s (gone r s w)
gone_keeps r s w = elim (cases_Bool (not (all_fit s.facts.edits (way_edits r w)))) [ inl t ↦ rw t refl | inr f ↦ rw f refl ]

first_keeps : (a : Around) (r : Received) (s : RunState) → Keeps s (first_call a r s)
first_keeps a r s =
    elim (cases_Bool (length (route_fields r) == 0)) [ inl t ↦ rw t refl | inr f ↦ rw f (gone_keeps r s (way a r.bytes (route_values r) s.facts.uri s.facts.destination)) ]

again_keeps : (o : Option ℤ) (s : RunState) (now : RowCourse) → Keeps s now → Keeps s (again o now s)
again_keeps None s now p = p
again_keeps (Some n) s now p = refl

loose_route_keeps : (a : Around) (r : Received) (s : RunState) → Keeps s (loose_route a r s)
loose_route_keeps a r s = again_keeps s.facts.loose_route s (first_call a r s) (first_keeps a r s)

label_of_if : (b : Bool) (f g : Facts) → g.label ≡ f.label → (if b then g else f).label ≡ f.label
label_of_if true f g e = e
label_of_if false f g e = refl

-- ---- functions of a transaction

-- of an `if`, both ways keep
if_keeps : (s : RunState) (b : Bool) (x y : RowCourse) → Keeps s x → Keeps s y → Keeps s (if b then x else y)
if_keeps s true x y p q = p
if_keeps s false x y p q = q

-- the facts were changed and the label stays
changed_keeps : (s : RunState) (f : Facts) (n : ℤ) → f.label ≡ s.facts.label → Keeps s (code n (with_facts s f))
changed_keeps s f n e = ap (λ (l : Option ℕ). record { blocks = s.blocks; label = l }) e

newtran_keeps : (r : Received) (s : RunState) → Keeps s (t_newtran r s)
newtran_keeps r s = if_keeps s (has_no_transaction r || s.facts.standing.exists) _ _ refl refl

t_reply_keeps : (r : Received) (status : ℕ) (reason : List ℕ) (s : RunState) → Keeps s (t_reply r status reason s)
t_reply_keeps r status reason s =
    if_keeps s (refuses_response r s.facts) _ _ refl
    (if_keeps s (not (can_reply r s.facts status reason)) _ _ refl
    (changed_keeps s (replied (record { code = status; reason = reason }) s.facts) (pos 1)
    (label_of_if (nat_lt status 200) (with_final_response (record { code = status; reason = reason }) s.facts) (with_response (record { code = status; reason = reason }) s.facts) refl)))

timers_keep : (invite other : Option ℕ) (s : RunState) → Keeps s (timers_set invite other s)
timers_keep None other s = refl
timers_keep (Some invite) None s = refl
timers_keep (Some invite) (Some other) s = refl

appended_keeps : (a : Around) (t : Target) (s : RunState) → Keeps s (appended a t s)
appended_keeps a t s = if_keeps s (is_none (target_address a t) || nat_le most_branches (s.facts.branches + 1 + length s.facts.targets)) _ _ refl refl

append_branch_keeps : (a : Around) (values : List Val) (s : RunState) → Keeps s (append_branch a values s)
append_branch_keeps a [] s = appended_keeps a (first_target s.facts) s
append_branch_keeps a (v ∷ values) s = appended_keeps a (record { uri = text_of v; destination = None }) s

check_trans_keeps : (r : Received) (s : RunState) → Keeps s (t_check_trans r s)
check_trans_keeps r s = if_keeps s (has_no_transaction r) _ _ tt refl

takes_keep : (n : ℕ) (s : RunState) (after : RunState → RowCourse) → ((t : RunState) → kept t ≡ kept s → Keeps s (after t)) → Keeps s (takes_blocks n 0 s after)
takes_keep zero s after p = p (record s { blocks = s.blocks + 0 }) (ap (λ (b : ℕ). record { blocks = b; label = s.facts.label }) (let e : s.blocks + 0 ≡ s.blocks = omega arith in e))
takes_keep (suc n) s after p = tt

trying_label : (r : Received) (f : Facts) → (with_trying r f).label ≡ f.label
trying_label r f = label_of_if (is_invite r && not f.standing.has_responded) f (with_response trying f) refl

relayed_kept : (r : Received) (s : RunState) → kept (relayed r s) ≡ kept s
relayed_kept r s = ap (λ (l : Option ℕ). record { blocks = s.blocks; label = l }) (trying_label r (with_transaction s.facts))

relay_request_keeps : (a : Around) (r : Received) (s : RunState) → Keeps s (relay_request a r s)
relay_request_keeps a r s =
    if_keeps s (not (is_undecided s.facts.outcome) || s.facts.standing.is_answered || s.facts.standing.is_suspended) _ _ refl
    (if_keeps s s.facts.standing.is_cancelled _ _ refl
    (if_keeps s (has_no_hop r.message.max_forwards) _ _ refl
    (if_keeps s (not (has_destination a s.facts) || makes_too_many s.facts) _ _ refl
    (if_keeps s (not (fits_first a r s.facts)) _ _ refl
    (takes_keep (blocks_wanted s.facts) s (λ t. code (pos 1) (relayed r t)) (λ t e. relayed_kept r t ∙ e))))))

relay_ack_keeps : (a : Around) (r : Received) (s : RunState) → Keeps s (relay_ack a r s)
relay_ack_keeps a r s =
    if_keeps s (not (is_undecided s.facts.outcome) || has_no_hop r.message.max_forwards) _ _ refl
    (if_keeps s (not (has_destination a s.facts)) _ _ refl
    (if_keeps s (not (is_readable (loose_ack a r s.facts.source (relay_of s.facts)))) _ _ refl refl))

relay_cancel_keeps : (s : RunState) → Keeps s (relay_cancel s)
relay_cancel_keeps s = if_keeps s (not (is_undecided s.facts.outcome)) _ _ refl tt

t_relay_keeps : (a : Around) (r : Received) (s : RunState) → Keeps s (t_relay a r s)
t_relay_keeps a r s =
    if_keeps s (is_ack r) _ _ (relay_ack_keeps a r (relay_called s))
    (if_keeps s (is_cancel r) _ _ (relay_cancel_keeps (relay_called s)) (relay_request_keeps a r (relay_called s)))

suspend_keeps : (r : Received) (s : RunState) → Keeps s (t_suspend r s)
suspend_keeps r s = if_keeps s (refuses_suspension r s.facts) _ _ refl tt

claims_keep : (a : Around) (slot serial route : ℕ) (s : RunState) → Keeps s (claims a slot serial route s)
claims_keep a slot serial route s = if_keeps s (nat_lt slot a.settings.slots) _ _ tt refl

numbered_keep : (a : Around) (slot serial : Option ℤ) (route : ℕ) (s : RunState) → Keeps s (claims_numbered a slot serial route s)
numbered_keep a (Some (pos slot)) (Some (pos serial)) route s = claims_keep a slot serial route s
numbered_keep a slot serial route s = refl

continue_keeps : (a : Around) (values : List Val) (route : ℕ) (s : RunState) → Keeps s (t_continue a values route s)
continue_keeps a values route s = if_keeps s (has_continued_all s.facts) _ _ refl (numbered_keep a _ _ route s)

over_keeps : (a : Around) (r : Received) (f : Func) (values : List Val) (s : RunState) → Keeps s (call_over a r f values s)
over_keeps a r (func.SlSendReply status) values s = sl_send_reply_keeps r status (argument values 0) s
over_keeps a r (func.IsMethod methods) values s = answers_keep s s _ refl
over_keeps a r func.HasTotag values s = answers_keep s s _ refl
over_keeps a r (func.IsPresentHf name) values s = answers_keep s s _ refl
over_keeps a r (func.RemoveHf name) values s = remove_hf_keeps r name s
over_keeps a r func.AppendHf values s = append_hf_keeps r (argument values 0) s
over_keeps a r (func.MfProcessMaxfwdHeader n) values s = hops_keep r.message.max_forwards s _ refl
over_keeps a r func.RecordRoute values s = record_route_keeps a r s
over_keeps a r func.LooseRoute values s = loose_route_keeps a r s
over_keeps a r func.TNewtran values s = newtran_keeps r s
over_keeps a r (func.TReply status) values s = t_reply_keeps r status (argument values 0) s
over_keeps a r func.TRelay values s = t_relay_keeps a r s
over_keeps a r func.AppendBranch values s = append_branch_keeps a values s
over_keeps a r (func.TOnBranch block) values s = refl
over_keeps a r (func.TOnFailure block) values s = refl
over_keeps a r (func.TOnReply block) values s = refl
over_keeps a r func.TSetFr values s = timers_keep _ _ s
over_keeps a r func.TCheckTrans values s = check_trans_keeps r s
over_keeps a r func.TIsCanceled values s = answers_keep s s _ refl
over_keeps a r func.TSuspend values s = suspend_keeps r s
over_keeps a r (func.TContinue route) values s = continue_keeps a values route s
over_keeps a r (func.TCheckStatus pattern) values s = answers_keep s s _ refl
over_keeps a r func.Xlog values s = tt
over_keeps a r (func.ShtRmNameRe table pattern) values s = tt
over_keeps a r (func.ShtReset table) values s = tt

without_keeps : (a : Around) (f : Func) (values : List Val) (s : RunState) → Keeps s (call_without a f values s)
without_keeps a (func.IsMethod methods) values s = refl
without_keeps a (func.TContinue route) values s = continue_keeps a values route s
without_keeps a func.Xlog values s = tt
without_keeps a (func.ShtRmNameRe table pattern) values s = tt
without_keeps a (func.ShtReset table) values s = tt
without_keeps a _ values s = refl

called_keeps : (a : Around) (o : Option Received) (f : Func) (values : List Val) (s : RunState) → Keeps s (called a o f values s)
called_keeps a None f values s = without_keeps a f values s
called_keeps a (Some r) f values s = over_keeps a r f values s

-- ---- variables

written_keeps : (f : Facts) (x : PvUse) (v : Val) → (written f x v).label ≡ f.label
written_keeps f pv.RequestUri v = refl
written_keeps f pv.RequestUser v = refl
written_keeps f pv.RequestHost v = refl
written_keeps f pv.RequestPort v = refl
written_keeps f pv.DestinationUri v = refl
written_keeps f (pv.Avp name) v = refl
written_keeps f _ v = refl

assigned_keeps : (f : Facts) (x : PvUse) (v : Val) → (assigned f x v).label ≡ f.label
assigned_keeps f x v = label_of_if (is_written_in x f.kind) f (written f x v) (written_keeps f x v)

limit_keeps : (t : ℕ) (key : List ℕ) (o : Option ℤ) (s : RunState) → Keeps s (limit_written t key o s)
limit_keeps t key None s = refl
limit_keeps t key (Some n) s = tt

write_keeps : (x : PvUse) (v : Val) (s : RunState) → Keeps s (write_row x v s)
write_keeps (pv.Item t key) v s = tt
write_keeps (pv.ItemSeconds t key) v s = limit_keeps t key (number_of v) s
write_keeps x v s = ap (λ (l : Option ℕ). record { blocks = s.blocks; label = l }) (assigned_keeps s.facts x v)

read_keeps : (a : Around) (x : PvUse) (s : RunState) → Keeps s (read_row a x s)
read_keeps a (pv.Item t key) s = tt
read_keeps a (pv.ItemSeconds t key) s = tt
read_keeps a (pv.ItemIncrement t key) s = tt
read_keeps a (pv.ItemDecrement t key) s = tt
read_keeps a pv.Myself s = refl
read_keeps a x s = refl

row_keeps : (a : Around) (ask : HostAsk) (s : RunState) → Keeps s (row a ask s)
row_keeps a (Read x) s = read_keeps a x s
row_keeps a (Write x v) s = write_keeps x v s
row_keeps a (Call f values) s =
    elim (cases_Bool (has_started (name_of f) && stands_in (name_of f) s.facts.kind)) [ inl t ↦ rw t (called_keeps a a.received f values s) | inr u ↦ rw u refl ]

pub told_keeps : (a : Around) (ask : HostAsk) (s t : RunState) (answer : HostAnswer) → row a ask s ≡ Ends (Tells answer t) → kept t ≡ kept s
told_keeps a ask s t answer e = subst (Keeps s) e (row_keeps a ask s)
