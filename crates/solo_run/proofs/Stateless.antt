-- As long as no function of a transaction has started, a run decides a response or nothing; and where it finds no memory it has ended.
use Rattle.std.proofs.Common.{◌≡◌, ℕ, Bool, true, false, List, [], ◌∷◌, ◌++◌, ◌==◌, ◌&&◌, ◌||◌, not, length, refl, ◌∙◌}
use Rattle.std.specs.Prelude.{Option, Some, None, ℤ, pos, negsuc, nat_lt, if◌then◌else◌}
use Rattle.dialogue.specs.Course.{Ends, Asks, Takes, and_then}
use Rattle.dialogue.specs.Talk.{Ends as RunEnds, Asks as RunAsks}
use Rattle.pv_values.specs.declared.run.HostAnswer.{HostAnswer}
use Rattle.pv_values.specs.declared.run.HostAsk.{HostAsk}
use Rattle.pv_values.specs.declared.run.HostAsk.TheVariants.{Read, Write, Call}
use Rattle.pv_values.specs.declared.value.Val.{Val}
use Rattle.pv_values.specs.declared.function.Func.{Func}
use Rattle.pv_values.specs.declared.function.Func.TheVariants as func
use Rattle.pv_values.specs.declared.variable.PvUse.{PvUse}
use Rattle.pv_values.specs.declared.variable.PvUse.TheVariants as pv
use Rattle.pv_values.specs.Values.{number_of}
use Rattle.pv_values.specs.Kinds.{is_written_in, stands_in, name_of}
use Rattle.cfg_tree.specs.Meaning.{RunTalk}
use Rattle.sip_scan.specs.declared.field.HeaderSpan.{HeaderSpan}
use Rattle.pv_table.specs.declared.facts.Facts.{Facts}
use Rattle.pv_table.specs.Writing.{written, assigned}
use Rattle.host_meaning.specs.declared.ask.Heard.{Heard}
use Rattle.host_meaning.specs.Run.{Received, Around, RunState, RowCourse, Tells, Lacks, code, argument, with_facts}
use Rattle.host_meaning.specs.Responses.{sl_send_reply, refuses_reply, can_reply}
use Rattle.host_meaning.specs.Headers.{yes_or_no, fields_removed, remove_hf, left_named, append_hf, is_header_text, fits, all_fit, field_cuts, fits_reply, before_empty_line, hops_code, record_route, record_route_place, record_route_line}
use Rattle.msg_edits.specs.declared.parts.Edit.TheVariants.{Insert}
use Rattle.host_meaning.specs.Routing.{loose_route, again, first_call, gone, Way, way, way_edits, route_fields, route_values}
use Rattle.host_meaning.specs.TableRows.{or_lacks, by_table, limit_written}
use Rattle.host_meaning.specs.Rows.{row, has_started, read_row, write_row, call_row, called, call_over, call_without}
use Rattle.host_meaning.specs.Host.{HostCourse, Finished, RanOut, Onward, resumed, by_row, host}
use Rattle.solo_run.specs.Running.{HasNoTransaction}

-- ---- rows

abbrev pub RowStateless : RowCourse → Type 0
RowStateless (Ends (Tells answer s)) = HasNoTransaction s.facts
RowStateless (Ends (Lacks s)) = Unit {0}
RowStateless (Asks ask next) = (h : Heard) → RowStateless (next h)
RowStateless (Takes short on) = ⊥

if_stateless : (b : Bool) (x y : RowCourse) → RowStateless x → RowStateless y → RowStateless (if b then x else y)
if_stateless true x y p q = p
if_stateless false x y p q = q

answers_stateless : (b : Bool) (s : RunState) → HasNoTransaction s.facts → RowStateless (yes_or_no b s)
answers_stateless true s h = h
answers_stateless false s h = h

-- facts that differ in nothing that counts here
changed : (f g : Facts) → HasNoTransaction f → g.outcome ≡ f.outcome → g.responses ≡ f.responses → g.has_called_relay ≡ f.has_called_relay → HasNoTransaction g
changed f g h a b c = record { outcome = rw a h.outcome; responses = b ∙ h.responses; relay = c ∙ h.relay }

sl_send_reply_stateless : (r : Received) (status : ℕ) (reason : List ℕ) (s : RunState) → HasNoTransaction s.facts → RowStateless (sl_send_reply r status reason s)
sl_send_reply_stateless r status reason s h =
    if_stateless (refuses_reply r s.facts) _ _ h
    (if_stateless (not (can_reply r s.facts status reason)) _ _ h
    (record { outcome = tt; responses = h.responses; relay = h.relay }))

removed_stateless : (fields : List HeaderSpan) (s : RunState) → HasNoTransaction s.facts → RowStateless (fields_removed fields s)
removed_stateless fields s h =
    if_stateless (length fields == 0) _ _ h
    (if_stateless (not (all_fit s.facts.edits (field_cuts fields))) _ _ h (changed s.facts _ h refl refl refl))

append_hf_stateless : (r : Received) (text : List ℕ) (s : RunState) → HasNoTransaction s.facts → RowStateless (append_hf r text s)
append_hf_stateless r text s h =
    if_stateless (not (is_header_text text)) _ _ h
    (if_stateless (not (fits s.facts.edits (before_empty_line r.message text))) _ _ h
    (if_stateless (not (fits_reply s.facts.kind r (s.facts.edits ++ before_empty_line r.message text ∷ []))) _ _ h (changed s.facts _ h refl refl refl)))

hops_stateless : (hops : Option ℕ) (s : RunState) → HasNoTransaction s.facts → RowStateless (hops_code hops s)
hops_stateless None s h = h
hops_stateless (Some n) s h = answers_stateless (nat_lt 0 n) s h

record_route_stateless : (a : Around) (r : Received) (s : RunState) → HasNoTransaction s.facts → RowStateless (record_route a r s)
record_route_stateless a r s h =
    if_stateless s.facts.has_record_route _ _ h
    (if_stateless (not (fits s.facts.edits (Insert (record_route_place r.message.head.fields.items) (record_route_line a.settings.listen)))) _ _
    (changed s.facts _ h refl refl refl) (changed s.facts _ h refl refl refl))

gone_stateless : (r : Received) (s : RunState) (w : Way) → HasNoTransaction s.facts → RowStateless (gone r s w)
gone_stateless r s w h =
    if_stateless (not (all_fit s.facts.edits (way_edits r w))) _ _ (changed s.facts _ h refl refl refl) (changed s.facts _ h refl refl refl)

first_stateless : (a : Around) (r : Received) (s : RunState) → HasNoTransaction s.facts → RowStateless (first_call a r s)
first_stateless a r s h =
    if_stateless (length (route_fields r) == 0) _ _ (changed s.facts _ h refl refl refl)
    (gone_stateless r s (way a r.bytes (route_values r) s.facts.uri s.facts.destination) h)

again_stateless : (o : Option ℤ) (s : RunState) (now : RowCourse) → HasNoTransaction s.facts → RowStateless now → RowStateless (again o now s)
again_stateless None s now h p = p
again_stateless (Some n) s now h p = h

told_stateless : (o : Option HostAnswer) (s : RunState) → HasNoTransaction s.facts → RowStateless (Ends (or_lacks o s))
told_stateless None s h = tt
told_stateless (Some answer) s h = h

-- the functions that have started; each other does nothing
over_stateless : (a : Around) (r : Received) (f : Func) (values : List Val) (s : RunState) → has_started (name_of f) ≡ true → HasNoTransaction s.facts
    → RowStateless (call_over a r f values s)
over_stateless a r (func.SlSendReply status) values s e h = sl_send_reply_stateless r status (argument values 0) s h
over_stateless a r (func.IsMethod methods) values s e h = answers_stateless _ s h
over_stateless a r func.HasTotag values s e h = answers_stateless _ s h
over_stateless a r (func.IsPresentHf name) values s e h = answers_stateless _ s h
over_stateless a r (func.RemoveHf name) values s e h = removed_stateless (left_named r name s.facts.edits) s h
over_stateless a r func.AppendHf values s e h = append_hf_stateless r (argument values 0) s h
over_stateless a r (func.MfProcessMaxfwdHeader n) values s e h = hops_stateless r.message.max_forwards _ (changed s.facts _ h refl refl refl)
over_stateless a r func.RecordRoute values s e h = record_route_stateless a r s h
over_stateless a r func.LooseRoute values s e h = again_stateless s.facts.loose_route s (first_call a r s) h (first_stateless a r s h)
over_stateless a r func.TNewtran values s e h = absurd (cc)
over_stateless a r (func.TReply status) values s e h = absurd (cc)
over_stateless a r func.TRelay values s e h = absurd (cc)
over_stateless a r func.AppendBranch values s e h = absurd (cc)
over_stateless a r (func.TOnBranch block) values s e h = absurd (cc)
over_stateless a r (func.TOnFailure block) values s e h = absurd (cc)
over_stateless a r (func.TOnReply block) values s e h = absurd (cc)
over_stateless a r func.TSetFr values s e h = absurd (cc)
over_stateless a r func.TCheckTrans values s e h = absurd (cc)
over_stateless a r func.TIsCanceled values s e h = absurd (cc)
over_stateless a r func.TSuspend values s e h = absurd (cc)
over_stateless a r (func.TContinue route) values s e h = absurd (cc)
over_stateless a r (func.TCheckStatus pattern) values s e h = absurd (cc)
over_stateless a r func.Xlog values s e h = λ x. told_stateless _ s h
over_stateless a r (func.ShtRmNameRe table pattern) values s e h = λ x. told_stateless _ s h
over_stateless a r (func.ShtReset table) values s e h = λ x. told_stateless _ s h

without_stateless : (a : Around) (f : Func) (values : List Val) (s : RunState) → has_started (name_of f) ≡ true → HasNoTransaction s.facts
    → RowStateless (call_without a f values s)
without_stateless a (func.IsMethod methods) values s e h = h
without_stateless a (func.TContinue route) values s e h = absurd (cc)
without_stateless a func.Xlog values s e h = λ x. told_stateless _ s h
without_stateless a (func.ShtRmNameRe table pattern) values s e h = λ x. told_stateless _ s h
without_stateless a (func.ShtReset table) values s e h = λ x. told_stateless _ s h
without_stateless a _ values s e h = h

called_stateless : (a : Around) (o : Option Received) (f : Func) (values : List Val) (s : RunState) → has_started (name_of f) ≡ true → HasNoTransaction s.facts
    → RowStateless (called a o f values s)
called_stateless a None f values s e h = without_stateless a f values s e h
called_stateless a (Some r) f values s e h = over_stateless a r f values s e h

call_if : (b : Bool) (a : Around) (f : Func) (values : List Val) (s : RunState) → (b ≡ true → has_started (name_of f) ≡ true) → HasNoTransaction s.facts
    → RowStateless (if b then called a a.received f values s else code (negsuc 8) s)
call_if true a f values s e h = called_stateless a a.received f values s (e refl) h
call_if false a f values s e h = h

first_of : (x y : Bool) → (x && y) ≡ true → x ≡ true
first_of true y e = refl
first_of false y e = e

written_stateless : (f : Facts) (x : PvUse) (v : Val) → HasNoTransaction f → HasNoTransaction (written f x v)
written_stateless f pv.RequestUri v h = changed f _ h refl refl refl
written_stateless f pv.RequestUser v h = changed f _ h refl refl refl
written_stateless f pv.RequestHost v h = changed f _ h refl refl refl
written_stateless f pv.RequestPort v h = changed f _ h refl refl refl
written_stateless f pv.DestinationUri v h = changed f _ h refl refl refl
written_stateless f (pv.Avp name) v h = changed f _ h refl refl refl
written_stateless f _ v h = h

either_stateless : (b : Bool) (f g : Facts) → HasNoTransaction f → HasNoTransaction g → HasNoTransaction (if b then g else f)
either_stateless true f g p q = q
either_stateless false f g p q = p

limit_stateless : (t : ℕ) (key : List ℕ) (o : Option ℤ) (s : RunState) → HasNoTransaction s.facts → RowStateless (limit_written t key o s)
limit_stateless t key None s h = h
limit_stateless t key (Some n) s h = λ x. told_stateless _ s h

write_stateless : (x : PvUse) (v : Val) (s : RunState) → HasNoTransaction s.facts → RowStateless (write_row x v s)
write_stateless (pv.Item t key) v s h = λ x. told_stateless _ s h
write_stateless (pv.ItemSeconds t key) v s h = limit_stateless t key (number_of v) s h
write_stateless x v s h = either_stateless (is_written_in x s.facts.kind) s.facts (written s.facts x v) h (written_stateless s.facts x v h)

read_stateless : (a : Around) (x : PvUse) (s : RunState) → HasNoTransaction s.facts → RowStateless (read_row a x s)
read_stateless a (pv.Item t key) s h = λ x. told_stateless _ s h
read_stateless a (pv.ItemSeconds t key) s h = λ x. told_stateless _ s h
read_stateless a (pv.ItemIncrement t key) s h = λ x. told_stateless _ s h
read_stateless a (pv.ItemDecrement t key) s h = λ x. told_stateless _ s h
read_stateless a pv.Myself s h = h
read_stateless a x s h = h

row_stateless : (a : Around) (ask : HostAsk) (s : RunState) → HasNoTransaction s.facts → RowStateless (row a ask s)
row_stateless a (Read x) s h = read_stateless a x s h
row_stateless a (Write x v) s h = write_stateless x v s h
row_stateless a (Call f values) s h =
    call_if (has_started (name_of f) && stands_in (name_of f) s.facts.kind) a f values s (first_of (has_started (name_of f)) (stands_in (name_of f) s.facts.kind)) h

-- ---- runs

abbrev pub IsShort : HostCourse → Type 0
IsShort (Ends (Finished s how)) = ⊥
IsShort (Ends (RanOut k)) = Unit {0}
IsShort (Asks ask next) = ⊥
IsShort (Takes short on) = ⊥

abbrev pub RunStateless : HostCourse → Type 0
RunStateless (Ends (Finished s how)) = HasNoTransaction s.facts
RunStateless (Ends (RanOut k)) = Unit {0}
RunStateless (Asks ask next) = (h : Heard) → RunStateless (next h)
RunStateless (Takes short on) = IsShort short × RunStateless on

-- what comes after each answer
abbrev GoesStateless : Onward → Type 0
GoesStateless go = (answer : HostAnswer) (s : RunState) → HasNoTransaction s.facts → RunStateless (go answer s)

resumed_stateless : (go : Onward) (c : RowCourse) → GoesStateless go → RowStateless c → RunStateless (and_then c (resumed go))
resumed_stateless go (Ends (Tells answer s)) p r = (tt, p answer s r)
resumed_stateless go (Ends (Lacks s)) p r = tt
resumed_stateless go (Asks ask next) p r = λ h. resumed_stateless go (next h) p (r h)
resumed_stateless go (Takes short on) p r = absurd r

by_row_stateless : (go : Onward) (c : RowCourse) → GoesStateless go → RowStateless c → RunStateless (by_row go c)
by_row_stateless go (Ends (Tells answer s)) p r = p answer s r
by_row_stateless go (Ends (Lacks s)) p r = tt
by_row_stateless go (Asks ask next) p r = λ h. resumed_stateless go (next h) p (r h)
by_row_stateless go (Takes short on) p r = absurd r

pub host_stateless : (a : Around) (talk : RunTalk) (s : RunState) → HasNoTransaction s.facts → RunStateless (host a talk s)
host_stateless a (RunEnds end) s h = h
host_stateless a (RunAsks ask next) s h =
    by_row_stateless (λ answer. host a (next answer)) (row a ask s) (λ answer t q. host_stateless a (next answer) t q) (row_stateless a ask s h)
