-- The laws of datagrams without a slot.
use Rattle.std.proofs.Common.{◌≡◌, ℕ, ◌+◌, Bool, true, false, ◌||◌, inl, inr, List, [], ◌∷◌, Option, Some, None, refl, sym, ap, subst, ◌∙◌}
use Rattle.std.proofs.lemmas.Bool.{false≢true}
use Rattle.outside_ports.specs.declared.port.Addr.{Addr}
use Rattle.dialogue.specs.Course.{Ends, Asks, Takes}
use Rattle.sip_msg.specs.declared.basis.Basis.{Basis}
use Rattle.sip_msg.specs.Basis.{basis_of}
use Rattle.sip_build.specs.Addresses.{reply_address}
use Rattle.host_meaning.specs.declared.ask.Asked.{Asked}
use Rattle.host_meaning.specs.declared.ask.Asked.TheVariants as ask
use Rattle.host_meaning.specs.declared.ask.Heard.{Heard}
use Rattle.host_meaning.specs.Run.{Received, is_readable}
use Rattle.host_meaning.specs.Responses.{is_ack}
use Rattle.host_meaning.specs.Transactions.{is_cancel}
use Rattle.host_meaning.specs.Host.{HostEnd, Finished, RanOut, run_of}
use Rattle.txn_dialogue.specs.declared.mark.Mark.{Mark}
use Rattle.txn_dialogue.specs.declared.entry.IndexHeard.{IndexHeard}
use Rattle.txn_dialogue.specs.Slots.{Proxy, reading}
use Rattle.txn_dialogue.specs.Sends.{Sent}
use Rattle.txn_dialogue.specs.Runs.{around_of, beginning}
use Rattle.txn_dialogue.specs.LooseRuns.{loose_facts, loosely_sent, loose_mark}
use Rattle.txn_dialogue.specs.Loose
use Rattle.txn_dialogue.specs.Loose.{Handling, OfSlot, Runs as RunsLoosely, Answers, Drops, Handles, begins_as_response, malformed, answers_full, unavailable_text, LooseEnd, LooseDone, LooseAborted, LooseCourse, loosely_sending, loosely_ended, loose_dialogue}
use Rattle.txn_dialogue.specs.Blocks.{blocks_after, HasToGive, Balanced, no_blocks}
use Rattle.txn_dialogue.specs.Shortage.{AbortsShort, is_loosely_aborted}
use Rattle.txn_dialogue.specs.Order.{SendsRead, SendsLast, Phase, Deciding, Sending, OrdersAtOnce}
use Rattle.txn_dialogue.proofs.Watched.{Mood, mood, after, shorted, MayTake, Watched, watched_then, aborts_short, sends_read, orders_at_once, sends_last}
use Rattle.txn_dialogue.proofs.Rows.{IsOf, run_fine, host_end}
use Rattle.txn_dialogue.proofs.Sound.{AllRead, loosely_reads}
use Rattle.txn_dialogue.proofs.Steps.{MaySend}

abbrev at : Bool → Phase → ℕ → Mood
at loose phase n = record { loose = loose; short = false; blocks = n; won = None; phase = phase }

abbrev loose_end : LooseEnd → Mood → Type 0
loose_end end m = (m.won ≡ None) × (is_loosely_aborted end ≡ true → m.short ≡ true)

sending_fine : (loose : Bool) (n : ℕ) (ds : List Sent) (mark : Mark) (phase : Phase) → MaySend phase → AllRead ds
    → Watched loose_end (loosely_sending ds mark) (at loose phase n)
sending_fine loose n [] mark phase q a = (refl, λ e. absurd (false≢true e))
sending_fine loose n (d ∷ ds) mark Deciding q a = ((tt, tt, a.0, tt, refl), λ h. sending_fine loose n ds mark Sending tt a.1)
sending_fine loose n (d ∷ ds) mark Sending q a = ((tt, tt, a.0, tt, refl), λ h. sending_fine loose n ds mark Sending tt a.1)
sending_fine loose n (d ∷ ds) mark phase q a = absurd q

ended_fine : (loose : Bool) (p : Proxy) (r : Received) (source : Addr) (end : HostEnd) (m : Mood) → host_end loose false 0 end m
    → Watched loose_end (loosely_ended p r source end) m
ended_fine loose p r source (Finished s how) m e =
    subst (λ (x : Mood). Watched loose_end (loosely_ended p r source (Finished s how)) x) (sym e)
    (sending_fine loose (0 + s.blocks) (loosely_sent p r source s.facts []) (loose_mark r source s.facts how) Deciding tt (loosely_reads p r source s.facts [] tt))
ended_fine loose p r source (RanOut k) m e = (ap (λ (x : Mood). x.won) e, λ q. ap (λ (x : Mood). x.short) e)

runs_fine : (loose : Bool) (p : Proxy) (source : Addr) (r : Received) → IsOf loose r → Watched loose_end (loose_dialogue p source (RunsLoosely r)) (mood loose false 0)
runs_fine loose p source r q =
    watched_then (host_end loose false 0) loose_end (loosely_ended p r source) (ended_fine loose p r source)
    (run_of p.script p.script.request (around_of p r) (beginning (loose_facts p r source))) (mood loose false 0)
    (run_fine loose false 0 p.script p.script.request (around_of p r) q (beginning (loose_facts p r source)))

-- ---- blocks

none_after : (a : Asked) (h : Heard) → MayTake a true → blocks_after a h 0 ≡ 0
none_after ask.Block h q = absurd (false≢true (sym q))
none_after ask.GiveBack h q = refl
none_after a h q = refl

none_taken : (c : LooseCourse) (m : Mood) → m.loose ≡ true → m.blocks ≡ 0 → Watched loose_end c m → Balanced no_blocks c 0
none_taken (Ends end) m l b w = refl
none_taken (Asks a next) m l b w =
    let q : MayTake a true = subst (MayTake a) l w.0.0 in (
      subst (HasToGive a) b w.0.1,
      λ h. subst (λ (k : ℕ). Balanced no_blocks (next h) k) (sym (none_after a h q))
          (none_taken (next h) (after a h m) l (ap (λ (k : ℕ). blocks_after a h k) b ∙ none_after a h q) (w.1 h)),
    )
none_taken (Takes short on) m l b w = (none_taken short (shorted m) l b w.1, none_taken on m l b w.2)

answers_balanced : (p : Proxy) (source to : Addr) (text : List ℕ) (fits : Bool) → Balanced no_blocks (loose_dialogue p source (Answers to text fits)) 0
answers_balanced p source to text true = (tt, λ h. refl)
answers_balanced p source to text false = refl

malformed_balanced : (p : Proxy) (b : List ℕ) (source : Addr) (basis : Option Basis) → Balanced no_blocks (loose_dialogue p source (malformed b source basis)) 0
malformed_balanced p b source None = refl
malformed_balanced p b source (Some basis) = answers_balanced p source _ _ _

or_left : (a b : Bool) → a ≡ true → (a || b) ≡ true
or_left a b e = subst (λ (x : Bool). (x || b) ≡ true) (sym e) refl

or_right : (a b : Bool) → b ≡ true → (a || b) ≡ true
or_right true b e = refl
or_right false b e = e

pub loose_balanced : (p : Proxy) (b : List ℕ) (source : Addr) (index : IndexHeard) (handling : Handling) → Handles p b source index handling
    → Balanced no_blocks (loose_dialogue p source handling) 0
loose_balanced p b source _ _ (Loose.keepalive e) = refl
loose_balanced p b source _ _ (Loose.unread e f) = malformed_balanced p b source (basis_of b)
loose_balanced p b source _ _ (Loose.response r branch e own of has) = refl
loose_balanced p b source _ _ (Loose.stray r e own) = refl
loose_balanced p b source _ _ (Loose.branchless r e own none) = refl
loose_balanced p b source _ _ (Loose.ack r slot generation e of) = refl
loose_balanced p b source _ _ (Loose.loose_ack r e of) =
    none_taken (loose_dialogue p source (RunsLoosely r)) (mood true false 0) refl refl (runs_fine true p source r (inr (or_left (is_ack r) (is_cancel r) of.1)))
loose_balanced p b source _ _ (Loose.cancel r e of) =
    none_taken (loose_dialogue p source (RunsLoosely r)) (mood true false 0) refl refl (runs_fine true p source r (inr (or_right (is_ack r) (is_cancel r) of.2)))
loose_balanced p b source _ _ (Loose.copy r slot generation e of) = refl
loose_balanced p b source _ _ (Loose.request r slot generation e of) = refl
loose_balanced p b source _ _ (Loose.full r e of) = answers_balanced p source _ _ _
loose_balanced p b source _ _ (Loose.short r e of) = refl

-- ---- what is sent

answers_read : (p : Proxy) (source to : Addr) (text : List ℕ) (fits : Bool) → is_readable text ≡ fits → SendsRead (loose_dialogue p source (Answers to text fits))
answers_read p source to text true e = (e, λ h. tt)
answers_read p source to text false e = tt

pub loose_reads : (p : Proxy) (b : List ℕ) (source : Addr) (index : IndexHeard) (handling : Handling) (m : Received) → reading b ≡ Some m
    → Handles p b source index handling → SendsRead (loose_dialogue p source handling)
loose_reads p b source _ _ m is (Loose.keepalive e) = tt
loose_reads p b source _ _ m is (Loose.unread e f) = absurd cc
loose_reads p b source _ _ m is (Loose.response r branch e own of has) = tt
loose_reads p b source _ _ m is (Loose.stray r e own) = tt
loose_reads p b source _ _ m is (Loose.branchless r e own none) = tt
loose_reads p b source _ _ m is (Loose.ack r slot generation e of) = tt
loose_reads p b source _ _ m is (Loose.loose_ack r e of) =
    sends_read loose_end (loose_dialogue p source (RunsLoosely r)) (mood false false 0) (runs_fine false p source r (inl refl))
loose_reads p b source _ _ m is (Loose.cancel r e of) =
    sends_read loose_end (loose_dialogue p source (RunsLoosely r)) (mood false false 0) (runs_fine false p source r (inl refl))
loose_reads p b source _ _ m is (Loose.copy r slot generation e of) = tt
loose_reads p b source _ _ m is (Loose.request r slot generation e of) = tt
loose_reads p b source _ _ m is (Loose.full r e of) = answers_read p source (reply_address r.message.via source) (unavailable_text r source) (is_readable (unavailable_text r source)) refl
loose_reads p b source _ _ m is (Loose.short r e of) = tt

-- ---- their order

answers_last : (p : Proxy) (source to : Addr) (text : List ℕ) (fits : Bool) → SendsLast (loose_dialogue p source (Answers to text fits)) false
answers_last p source to text true = ((λ e. refl), λ h. tt)
answers_last p source to text false = tt

pub loose_last : (p : Proxy) (source : Addr) (handling : Handling) → SendsLast (loose_dialogue p source handling) false
loose_last p source (OfSlot slot generation what) = tt
loose_last p source (RunsLoosely r) =
    sends_last loose_end (loose_dialogue p source (RunsLoosely r)) (mood false false 0) false tt (runs_fine false p source r (inl refl))
loose_last p source (Answers to text fits) = answers_last p source to text fits
loose_last p source (Drops why) = tt

answers_order : (p : Proxy) (source to : Addr) (text : List ℕ) (fits : Bool) → OrdersAtOnce (loose_dialogue p source (Answers to text fits)) None
answers_order p source to text true = (tt, λ h. refl)
answers_order p source to text false = refl

pub loose_orders : (p : Proxy) (source : Addr) (handling : Handling) → OrdersAtOnce (loose_dialogue p source handling) None
loose_orders p source (OfSlot slot generation what) = refl
loose_orders p source (RunsLoosely r) =
    orders_at_once loose_end (λ end m f. f.0) (loose_dialogue p source (RunsLoosely r)) (mood false false 0) (runs_fine false p source r (inl refl))
loose_orders p source (Answers to text fits) = answers_order p source to text fits
loose_orders p source (Drops why) = refl

-- ---- out of memory

answers_short : (p : Proxy) (source to : Addr) (text : List ℕ) (fits : Bool) → AbortsShort is_loosely_aborted (loose_dialogue p source (Answers to text fits)) false
answers_short p source to text true = λ h e. absurd (false≢true e)
answers_short p source to text false = λ e. absurd (false≢true e)

pub loose_short : (p : Proxy) (source : Addr) (handling : Handling) → AbortsShort is_loosely_aborted (loose_dialogue p source handling) false
loose_short p source (OfSlot slot generation what) = λ e. absurd (false≢true e)
loose_short p source (RunsLoosely r) =
    aborts_short loose_end is_loosely_aborted (λ end m f. f.1) (loose_dialogue p source (RunsLoosely r)) (mood false false 0) (runs_fine false p source r (inl refl))
loose_short p source (Answers to text fits) = answers_short p source to text fits
loose_short p source (Drops why) = λ e. absurd (false≢true e)
