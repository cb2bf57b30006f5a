-- The laws of whole steps.
use Rattle.std.proofs.Common.{◌≡◌, ℕ, ◌+◌, ◌==◌, Bool, true, false, not, ◌||◌, ◌⊎◌, inl, inr, List, [], ◌∷◌, ◌++◌, Option, Some, None, refl, sym, ap, subst, ◌∙◌, arith}
use Rattle.std.specs.Prelude.{if◌then◌else◌}
use Rattle.outside_ports.specs.declared.port.Addr.{Addr}
use Rattle.dialogue.specs.Course.{Course, Ends, Asks, Takes}
use Rattle.dialogue.specs.Items.{Comes}
use Rattle.dialogue.specs.declared.item.CourseItem.TheVariants.{Told, Short}
use Rattle.txn_server.specs.declared.machine.Server.{Server}
use Rattle.txn_server.specs.declared.machine.ServerEvent.TheVariants as server
use Rattle.txn_server.specs.Rows.{new_server}
use Rattle.txn_server.specs.Runs
use Rattle.txn_server.specs.Runs.{MadeServerStep, ServerRun}
use Rattle.txn_server.proofs.Steps.{sent}
use Rattle.host_meaning.specs.declared.ask.Asked.{Asked}
use Rattle.host_meaning.specs.declared.ask.Asked.TheVariants as ask
use Rattle.host_meaning.specs.declared.ask.Heard.{Heard}
use Rattle.host_meaning.specs.declared.ask.Heard.TheVariants as heard
use Rattle.host_meaning.specs.Run.{Received}
use Rattle.host_meaning.specs.Transactions.{is_invite}
use Rattle.txn_dialogue.specs.declared.mark.Mark.{Mark}
use Rattle.txn_dialogue.specs.declared.mark.Mark.TheVariants.{Handled, Dropped}
use Rattle.txn_dialogue.specs.declared.mark.Cause.TheVariants as cause
use Rattle.txn_dialogue.specs.declared.happening.Happening.{Happening}
use Rattle.txn_dialogue.specs.declared.happening.Happening.TheVariants.{Request, Copy, Ack, Reply, Timer, Continue, Cancel}
use Rattle.txn_dialogue.specs.declared.entry.Entry.{Entry}
use Rattle.txn_dialogue.specs.Slots.{Proxy, Origin, TxnState, first_state, Live, Seen, SeenVacant, SeenLive, generation_of, reading}
use Rattle.txn_dialogue.specs.Timers.{timer_at}
use Rattle.txn_dialogue.specs.Sends.{server_step}
use Rattle.txn_dialogue.specs.Ending.{StepEnd, Done, StepCourse, slot_of, end_of}
use Rattle.txn_dialogue.specs.Replies.{reply}
use Rattle.txn_dialogue.specs.Events.{work_on, first_work, opening, first_block, second_block, request_ran, unsuspended, continuing, continue_by, copy, ack, cancel_by, timer}
use Rattle.txn_dialogue.specs.Dialogue.{at_event, dialogue}
use Rattle.txn_dialogue.specs.Entries
use Rattle.txn_dialogue.specs.Entries.{StepItem, IsStep, Replays}
use Rattle.txn_dialogue.specs.Blocks.{blocks_after, HasToGive, Balanced, blocks_in, blocks_at, blocks_taken, blocks_given}
use Rattle.txn_dialogue.specs.Order.{SendsRead, SendsLast, IsIdle, IsInOrder, OrdersAtOnce}
use Rattle.txn_dialogue.specs.Shortage.{fits_ask, short_after, AbortsShort, is_aborted, was_short}
use Rattle.txn_dialogue.specs.Serving.{Leads, IsReached, IsServed, IsServedOn, ServesOn, HasServed}
use Rattle.txn_dialogue.proofs.Watched.{Mood, mood, after, shorted, Watched, aborts_short, balanced, sends_read, orders_at_once, sends_last, in_order}
use Rattle.txn_dialogue.proofs.Sound.{Sound, server_step_sound}
use Rattle.txn_dialogue.proofs.Steps.{IsLeft, fin, Fine, finish_fine, short_outside_fine, request_ran_fine, unavailable_fine, reply_fine, ack_fine, cancel_fine, fired_fine}

-- a slot's transaction, and the server that it begins with
abbrev Begins : Seen → Origin → TxnState → Type 0
Begins (SeenVacant generation) o start = (o.generation ≡ generation) × (start.server ≡ new_server (is_invite o.request))
Begins (SeenLive live) o start = (live.origin ≡ o) × (live.state ≡ start)

abbrev Whole : Seen → StepCourse → Type 0
Whole seen c = IsIdle seen c ⊎ ((o : Origin) × (start : TxnState) × Begins seen o start × Fine o start c (blocks_in seen))

unserved : (s : TxnState) → IsServed s s
unserved s = (([], refl), λ f. (f, refl))

live_whole : (live : Live) (c : StepCourse) → Fine live.origin live.state c live.blocks → Whole (SeenLive live) c
live_whole live c p = inr (live.origin, live.state, (refl, refl), p)

idle : (seen : Seen) (mark : Mark) → Whole seen (Ends (Done seen mark))
idle seen mark = inl (mark, refl)

begun : (live : Live) (now : ℕ) → Sound live.origin live.state live.blocks (work_on live now)
begun live now = (tt, unserved live.state, unserved live.state, refl, refl)

-- ---- a first request

opened : (p : Proxy) (o : Origin) (n now : ℕ) → Sound o (first_state p o.request) n (first_work p o n now)
opened p o n now = (tt, unserved (first_state p o.request), unserved (first_state p o.request), refl, refl)

second_fine : (p : Proxy) (o : Origin) (now : ℕ) (h : Heard)
    → Watched (fin o (first_state p o.request)) (second_block p o now h) (after ask.Block h (mood false false 1))
second_fine p o now (heard.Block true) = request_ran_fine o (first_state p o.request) 2 p p.script.request (first_work p o 2 now) (opened p o 2 now)
second_fine p o now (heard.Block false) = unavailable_fine o (first_state p o.request) 1 (first_work p o 1 now) (opened p o 1 now)
second_fine p o now h = short_outside_fine o (first_state p o.request) 1 (first_work p o 1 now) (opened p o 1 now)

first_fine : (p : Proxy) (o : Origin) (now : ℕ) (h : Heard)
    → Watched (fin o (first_state p o.request)) (first_block p o now h) (after ask.Block h (mood false false 0))
first_fine p o now (heard.Block true) = ((refl, tt, tt, tt, refl), λ h. second_fine p o now h)
first_fine p o now (heard.Block false) = unavailable_fine o (first_state p o.request) 0 (first_work p o 0 now) (opened p o 0 now)
first_fine p o now h = short_outside_fine o (first_state p o.request) 0 (first_work p o 0 now) (opened p o 0 now)

opening_whole : (p : Proxy) (generation : ℕ) (r : Option Received) (source : Addr) (now : ℕ) → Whole (SeenVacant generation) (opening p generation r source now)
opening_whole p generation None source now = idle (SeenVacant generation) Handled
opening_whole p generation (Some r) source now =
    let o : Origin = record { generation = generation; request = r; source = source } in
    inr (o, first_state p r, (refl, refl), ((refl, tt, tt, tt, refl), λ h. first_fine p o now h))

-- ---- every event

if_whole : (seen : Seen) (b : Bool) (x y : StepCourse) → Whole seen x → Whole seen y → Whole seen (if b then x else y)
if_whole seen true x y p q = p
if_whole seen false x y p q = q

continue_whole : (p : Proxy) (serial route : ℕ) (live : Live) (waits : Option ℕ) (now : ℕ) → Whole (SeenLive live) (continue_by p serial route live waits now)
continue_whole p serial route live None now = idle (SeenLive live) Handled
continue_whole p serial route live (Some waits) now =
    if_whole (SeenLive live) (waits == serial) (request_ran p route (continuing (unsuspended (work_on live now)))) (Ends (Done (SeenLive live) Handled))
    (live_whole live (request_ran p route (continuing (unsuspended (work_on live now))))
    (request_ran_fine live.origin live.state live.blocks p route (continuing (unsuspended (work_on live now))) (begun live now)))
    (idle (SeenLive live) Handled)

copy_whole : (live : Live) (now : ℕ) → Whole (SeenLive live) (copy (work_on live now))
copy_whole live now =
    live_whole live (copy (work_on live now))
    (finish_fine live.origin live.state live.blocks Handled (server_step server.Copy (work_on live now))
    (server_step_sound live.origin live.state live.blocks server.Copy (work_on live now) (begun live now)))

event_whole : (p : Proxy) (seen : Seen) (what : Happening) (now : ℕ) → Whole seen (at_event p seen what now)
event_whole p (SeenVacant generation) (Request text source) now = opening_whole p generation (reading text) source now
event_whole p (SeenVacant generation) (Reply branch text source) now = idle (SeenVacant generation) (Dropped cause.StrayReply)
event_whole p (SeenVacant generation) Copy now = idle (SeenVacant generation) Handled
event_whole p (SeenVacant generation) (Ack text source) now = idle (SeenVacant generation) Handled
event_whole p (SeenVacant generation) Timer now = idle (SeenVacant generation) Handled
event_whole p (SeenVacant generation) (Continue serial route) now = idle (SeenVacant generation) Handled
event_whole p (SeenVacant generation) Cancel now = idle (SeenVacant generation) Handled
event_whole p (SeenLive live) (Request text source) now = copy_whole live now
event_whole p (SeenLive live) Copy now = copy_whole live now
event_whole p (SeenLive live) (Ack text source) now =
    live_whole live (ack p text source (work_on live now)) (ack_fine live.origin live.state live.blocks p text source (work_on live now) (begun live now))
event_whole p (SeenLive live) (Reply branch text source) now =
    live_whole live (reply p branch text source (work_on live now))
    (reply_fine live.origin live.state live.blocks p branch (reading text) source (work_on live now) (begun live now))
event_whole p (SeenLive live) Timer now =
    live_whole live (timer p (work_on live now))
    (fired_fine live.origin live.state live.blocks p (timer_at now live.state) (work_on live now) (begun live now))
event_whole p (SeenLive live) (Continue serial route) now = continue_whole p serial route live live.state.suspension now
event_whole p (SeenLive live) Cancel now =
    live_whole live (cancel_by p live.state.suspension (work_on live now))
    (cancel_fine live.origin live.state live.blocks p live.state.suspension (work_on live now) (begun live now))

pub step_whole : (p : Proxy) (seen : Seen) (generation : ℕ) (what : Happening) (now : ℕ) → Whole seen (dialogue p seen generation what now)
step_whole p seen generation what now =
    if_whole seen (generation_of seen == generation) (at_event p seen what now) (Ends (Done seen (Dropped (cause.Ended generation (generation_of seen)))))
    (event_whole p seen what now) (idle seen (Dropped (cause.Ended generation (generation_of seen))))

-- ---- the laws

or_left : (a : Bool) → a ≡ true → (a || false) ≡ true
or_left true e = refl
or_left false e = e

or_true : (a : Bool) → (a || true) ≡ true
or_true true = refl
or_true false = refl

by_idle : (P : StepCourse → Type 0) (seen : Seen) (c : StepCourse) → ((mark : Mark) → P (Ends (Done seen mark))) → IsIdle seen c → P c
by_idle P seen c p i = subst P (sym i.1) (p i.0)

pub whole_balanced : (seen : Seen) (c : StepCourse) → Whole seen c → Balanced blocks_at c (blocks_in seen)
whole_balanced seen c (inl i) = by_idle (λ x. Balanced blocks_at x (blocks_in seen)) seen c (λ mark. refl) i
whole_balanced seen c (inr (o, start, begins, w)) = balanced (fin o start) blocks_at (λ end m f. f.0) c (mood false false (blocks_in seen)) w

pub whole_reads : (seen : Seen) (c : StepCourse) → Whole seen c → SendsRead c
whole_reads seen c (inl i) = by_idle SendsRead seen c (λ mark. tt) i
whole_reads seen c (inr (o, start, begins, w)) = sends_read (fin o start) c (mood false false (blocks_in seen)) w

pub whole_orders : (seen : Seen) (c : StepCourse) → Whole seen c → OrdersAtOnce c None
whole_orders seen c (inl i) = by_idle (λ x. OrdersAtOnce x None) seen c (λ mark. refl) i
whole_orders seen c (inr (o, start, begins, w)) = orders_at_once (fin o start) (λ end m f. f.1) c (mood false false (blocks_in seen)) w

pub whole_last : (seen : Seen) (c : StepCourse) → Whole seen c → SendsLast c false
whole_last seen c (inl i) = by_idle (λ x. SendsLast x false) seen c (λ mark. tt) i
whole_last seen c (inr (o, start, begins, w)) = sends_last (fin o start) c (mood false false (blocks_in seen)) false tt w

pub whole_in_order : (seen : Seen) (c : StepCourse) → Whole seen c → IsInOrder seen c
whole_in_order seen c (inl i) = inl i
whole_in_order seen c (inr (o, start, begins, w)) = inr (in_order (fin o start) (λ end m f. f.2) c (mood false false (blocks_in seen)) w)

pub whole_short : (seen : Seen) (c : StepCourse) → Whole seen c → AbortsShort is_aborted c false
whole_short seen c (inl i) = by_idle (λ x. AbortsShort is_aborted x false) seen c (λ mark e. e) i
whole_short seen c (inr (o, start, begins, w)) = aborts_short (fin o start) is_aborted (λ end m f. f.4) c (mood false false (blocks_in seen)) w

-- an abort has an item that tells it
module _ {End : Type 0} (aborted : End → Bool) where
  short_on : (a : Asked) (h : Heard) (short : Bool) (items : List StepItem) → (short_after a h short || was_short items) ≡ true
      → (short || was_short (Told a h ∷ items)) ≡ true
  short_on a h true items e = refl
  short_on a h false items e = if_short (fits_ask a h) (was_short items) e
    where
      if_short : (b rest : Bool) → ((if b then false else true) || rest) ≡ true → (not b || rest) ≡ true
      if_short true rest e = e
      if_short false rest e = refl

  pub told_short : (c : Course Asked Heard End) (short : Bool) → AbortsShort aborted c short → (items : List StepItem) (end : End) → Comes c items end
      → aborted end ≡ true → (short || was_short items) ≡ true
  told_short (Ends x) short p [] end comes e = or_left short (p (ap aborted comes ∙ e))
  told_short (Ends x) short p (item ∷ items) end comes e = absurd comes
  told_short (Asks a next) short p [] end comes e = absurd comes
  told_short (Asks a next) short p (Short ∷ items) end comes e = absurd comes
  told_short (Asks a next) short p (Told x h ∷ items) end comes e =
      subst (λ (y : Asked). (short || was_short (Told y h ∷ items)) ≡ true) (sym comes.0)
      (short_on a h short items (told_short (next h) (short_after a h short) (p h) items end comes.1 e))
  told_short (Takes ran_out on) short p [] end comes e = told_short on short p.1 [] end comes e
  told_short (Takes ran_out on) short p (Told x h ∷ items) end comes e = told_short on short p.1 (Told x h ∷ items) end comes e
  told_short (Takes ran_out on) short p (Short ∷ items) end comes e = or_true short

-- ---- sums of blocks

one_more : (a : Asked) (h : Heard) (items : List StepItem) (n x : ℕ) → HasToGive a n → x + blocks_given items ≡ blocks_after a h n + blocks_taken items
    → x + blocks_given (Told a h ∷ items) ≡ n + blocks_taken (Told a h ∷ items)
one_more ask.Block (heard.Block true) items n x g e = omega (arith, e)
one_more ask.Block (heard.Block false) items n x g e = e
one_more ask.GiveBack h items n x g e = omega (arith, e, g)
one_more a h items n x g e = e

pub sums : (c : StepCourse) (n : ℕ) → Balanced blocks_at c n → (items : List StepItem) (end : StepEnd) → Comes c items end
    → blocks_at end + blocks_given items ≡ n + blocks_taken items
sums (Ends e) n b [] end comes = ap (λ (x : ℕ). x + 0) (ap blocks_at (sym comes) ∙ b)
sums (Ends e) n b (item ∷ items) end comes = absurd comes
sums (Asks a next) n b [] end comes = absurd comes
sums (Asks a next) n b (Short ∷ items) end comes = absurd comes
sums (Asks a next) n b (Told x h ∷ items) end comes =
    subst (λ (y : Asked). blocks_at end + blocks_given (Told y h ∷ items) ≡ n + blocks_taken (Told y h ∷ items)) (sym comes.0)
    (one_more a h items n (blocks_at end) b.0 (sums (next h) (blocks_after a h n) (b.1 h) items end comes.1))
sums (Takes short on) n b [] end comes = sums on n b.1 [] end comes
sums (Takes short on) n b (Told x h ∷ items) end comes = sums on n b.1 (Told x h ∷ items) end comes
sums (Takes short on) n b (Short ∷ items) end (inl comes) = sums short n b.0 items end comes
sums (Takes short on) n b (Short ∷ items) end (inr comes) = sums on n b.1 (Short ∷ items) end comes

-- ---- the server

served_so : (o : Origin) (start : TxnState) (seen slot : Seen) → Begins seen o start → IsLeft o start slot → IsServedOn seen slot
served_so o start (SeenVacant before) (SeenVacant generation) b l = inr (l ∙ ap (λ (n : ℕ). n + 1) b.0)
served_so o start (SeenVacant before) (SeenLive live) b l = (
  ap (λ (x : Origin). x.generation) l.0 ∙ b.0,
  subst (λ (s : Server). IsReached s live.state.server) (b.1 ∙ ap (λ (x : Origin). new_server (is_invite x.request)) (sym l.0)) l.1.0,
)
served_so o start (SeenLive before) (SeenVacant generation) b l = l ∙ ap (λ (x : Origin). x.generation + 1) (sym b.0)
served_so o start (SeenLive before) (SeenLive live) b l = (l.0 ∙ sym b.0, subst (λ (s : TxnState). IsServed s live.state) (sym b.1) l.1)

serves : (o : Origin) (start : TxnState) (seen : Seen) → Begins seen o start → (c : StepCourse) (m : Mood) → Watched (fin o start) c m → ServesOn seen c
serves o start seen b (Ends end) m w = served_so o start seen (slot_of end) b w.3
serves o start seen b (Asks a next) m w = λ h. serves o start seen b (next h) (after a h m) (w.1 h)
serves o start seen b (Takes short on) m w = (serves o start seen b short (shorted m) w.1, serves o start seen b on m w.2)

stays : (seen : Seen) → IsServedOn seen seen
stays (SeenVacant generation) = inl refl
stays (SeenLive live) = (refl, unserved live.state)

pub whole_serves : (seen : Seen) (c : StepCourse) → Whole seen c → ServesOn seen c
whole_serves seen c (inl i) = by_idle (ServesOn seen) seen c (λ mark. stays seen) i
whole_serves seen c (inr (o, start, begins, w)) = serves o start seen begins c (mood false false (blocks_in seen)) w

-- over a slot's history
served_at : (seen : Seen) (c : StepCourse) → ServesOn seen c → (items : List StepItem) (end : StepEnd) → Comes c items end → IsServedOn seen (slot_of end)
served_at seen (Ends e) s [] end comes = subst (λ (x : StepEnd). IsServedOn seen (slot_of x)) comes s
served_at seen (Ends e) s (item ∷ items) end comes = absurd comes
served_at seen (Asks a next) s [] end comes = absurd comes
served_at seen (Asks a next) s (Short ∷ items) end comes = absurd comes
served_at seen (Asks a next) s (Told x h ∷ items) end comes = served_at seen (next h) (s h) items end comes.1
served_at seen (Takes short on) s [] end comes = served_at seen on s.1 [] end comes
served_at seen (Takes short on) s (Told x h ∷ items) end comes = served_at seen on s.1 (Told x h ∷ items) end comes
served_at seen (Takes short on) s (Short ∷ items) end (inl comes) = served_at seen short s.0 items end comes
served_at seen (Takes short on) s (Short ∷ items) end (inr comes) = served_at seen on s.1 (Short ∷ items) end comes

run_on : (invite : Bool) (steps : List MadeServerStep) (s : Server) → ServerRun invite steps s → (more : List MadeServerStep) (t : Server) → Leads s more t
    → ServerRun invite (more ++ steps) t
run_on invite steps s r [] t l = subst (λ (x : Server). ServerRun invite steps x) (sym l) r
run_on invite steps s r (x ∷ before) t l =
    subst (λ (y : Server). ServerRun invite (x ∷ before ++ steps) y) (sym l.2)
    (Runs.goes_on (before ++ steps) x.old x.event x.now x.new x.acts (run_on invite steps s r before x.old l.0) l.1)

with_sent : (live : Live) (steps : List MadeServerStep) → ServerRun (is_invite live.origin.request) steps live.state.server → HasServed (SeenLive live)
with_sent live steps r = (steps, r, sent (is_invite live.origin.request) steps live.state.server r)

served_after : (seen slot : Seen) → HasServed seen → IsServedOn seen slot → HasServed slot
served_after seen (SeenVacant generation) h s = tt
served_after (SeenVacant before) (SeenLive live) h s =
    with_sent live (s.1.0 ++ []) (run_on (is_invite live.origin.request) [] (new_server (is_invite live.origin.request)) Runs.begins s.1.0 live.state.server s.1.1)
served_after (SeenLive before) (SeenLive live) h s =
    with_sent live (s.1.0.0 ++ h.0)
    (run_on (is_invite live.origin.request) h.0 before.state.server
    (subst (λ (x : Origin). ServerRun (is_invite x.request) h.0 before.state.server) (sym s.0) h.1) s.1.0.0 live.state.server s.1.0.1)

slot_at : (mark : Option Mark) (seen : Seen) → slot_of (end_of mark seen) ≡ seen
slot_at None seen = refl
slot_at (Some mark) seen = refl

pub history_served : (p : Proxy) (entries : List Entry) (seen : Seen) (latest : ℕ) → Replays p entries seen latest → HasServed seen
history_served p _ _ _ Entries.begins = tt
history_served p _ _ _ (Entries.goes_on entries seen latest e seen' latest' r s) =
    served_after seen seen' (history_served p entries seen latest r)
    (subst (λ (x : Seen). IsServedOn seen x) (slot_at e.mark seen')
    (served_at seen (dialogue p seen e.generation e.happening e.now) (whole_serves seen (dialogue p seen e.generation e.happening e.now) (step_whole p seen e.generation e.happening e.now))
    e.items (end_of e.mark seen') s.comes))
