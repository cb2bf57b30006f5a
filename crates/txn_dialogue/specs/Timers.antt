-- The timers of a slot, and which of them is the one.
use Rattle.std.specs.Prelude.{ℕ, suc, List, [], ◌∷◌, ◌++◌, Option, Some, None, nat_le, nat_lt, if◌then◌else◌, filter, option_map}
use Rattle.txn_client.specs.declared.machine.Client.{Client}
use Rattle.txn_client.specs.declared.machine.ClientTimer.TheVariants as client_timer
use Rattle.txn_client.specs.declared.machine.ClientTimer.{ClientTimer}
use Rattle.txn_server.specs.declared.machine.ServerTimer.TheVariants as server_timer
use Rattle.txn_dialogue.specs.declared.happening.ArmedTimer.{ArmedTimer}
use Rattle.txn_dialogue.specs.declared.happening.BranchTimer.TheVariants as branch_timer
use Rattle.txn_dialogue.specs.declared.happening.SlotTimer.{SlotTimer}
use Rattle.txn_dialogue.specs.declared.happening.SlotTimer.TheVariants as slot_timer
use Rattle.txn_dialogue.specs.Slots.{TxnBranch, TxnState}

-- a timer that is armed
abbrev pub armed : SlotTimer → Option ℕ → List ArmedTimer
armed timer None = []
armed timer (Some due) = record { timer = timer; due = due } ∷ []

-- by their letters: A or E, B or F, D, K or M
abbrev pub client_timers : (ClientTimer → SlotTimer) → Client → List ArmedTimer
client_timers name c =
    armed (name client_timer.Retry) c.retry ++ (armed (name client_timer.Limit) c.limit ++ armed (name client_timer.Linger) c.linger)

abbrev pub cancel_timers : (ClientTimer → SlotTimer) → Option Client → List ArmedTimer
cancel_timers name None = []
cancel_timers name (Some c) = client_timers name c

-- X, the client's, `fr`, Q, those of the CANCEL
abbrev pub branch_timers : ℕ → TxnBranch → List ArmedTimer
branch_timers n b =
    armed (slot_timer.Branch n branch_timer.Unsent) b.unsent_due
    ++ (client_timers (λ t. slot_timer.Branch n (branch_timer.Client t)) b.client
    ++ (armed (slot_timer.Branch n branch_timer.Final) b.final_due
    ++ (armed (slot_timer.Branch n branch_timer.Quit) b.quit_due
    ++ cancel_timers (λ t. slot_timer.Branch n (branch_timer.Cancel t)) b.cancel)))

-- of the branches from this number on
abbrev pub branches_timers : ℕ → List TxnBranch → List ArmedTimer
branches_timers n [] = []
branches_timers n (b ∷ bs) = branch_timers n b ++ branches_timers (suc n) bs

-- All timers of a slot in their order: S, the server's by letter (G; H, I, J or L), the branches' by number. Of timers that are
-- due at one moment the first one goes before the others.
abbrev pub timers_of : TxnState → List ArmedTimer
timers_of s =
    armed slot_timer.Suspension s.suspension_due
    ++ (armed (slot_timer.Server server_timer.Retry) s.server.retry
    ++ (armed (slot_timer.Server server_timer.End) s.server.end
    ++ branches_timers 0 s.branches))

abbrev pub earlier : ArmedTimer → Option ArmedTimer → ArmedTimer
earlier t None = t
earlier t (Some later) = if nat_le t.due later.due then t else later

-- the one with the least due moment
abbrev pub first_timer : List ArmedTimer → Option ArmedTimer
first_timer [] = None
first_timer (t ∷ ts) = Some (earlier t (first_timer ts))

abbrev pub least_due : TxnState → Option ℕ
least_due s = option_map (λ t. t.due) (first_timer (timers_of s))

abbrev pub least_due_above : ℕ → TxnState → Option ℕ
least_due_above now s = option_map (λ t. t.due) (first_timer (filter (λ t. nat_lt now t.due) (timers_of s)))

-- where it is due by now
abbrev pub if_due : ℕ → Option ArmedTimer → Option SlotTimer
if_due now None = None
if_due now (Some t) = if nat_le t.due now then Some t.timer else None

-- the timer that a step at this moment handles
abbrev pub timer_at : ℕ → TxnState → Option SlotTimer
timer_at now s = if_due now (first_timer (timers_of s))
