-- The end of a step: the datagrams, the blocks that go back, the place in the wheel, and the slot's key.
use Rattle.std.specs.Prelude.{ℕ, zero, suc, ◌+◌, ◌-◌, ◌*◌, Bool, true, false, not, ◌&&◌, List, [], ◌∷◌, length, Option, Some, None, if◌then◌else◌}
use Rattle.std.specs.List.{list_all}
use Rattle.dialogue.specs.Course.{Course, Ends, Asks}
use Rattle.txn_client.specs.declared.machine.ClientState.{ClientState}
use Rattle.txn_client.specs.declared.machine.ClientState.TheVariants as client_state
use Rattle.txn_client.specs.declared.machine.Client.{Client}
use Rattle.txn_server.specs.declared.machine.ServerState.{ServerState}
use Rattle.txn_server.specs.declared.machine.ServerState.TheVariants as server_state
use Rattle.host_meaning.specs.declared.ask.Asked.{Asked}
use Rattle.host_meaning.specs.declared.ask.Asked.TheVariants as ask
use Rattle.host_meaning.specs.declared.ask.Heard.{Heard}
use Rattle.host_meaning.specs.declared.ask.Heard.TheVariants as heard
use Rattle.txn_dialogue.specs.declared.mark.Mark.{Mark}
use Rattle.txn_dialogue.specs.Slots.{Origin, TxnBranch, TxnState, Seen, SeenVacant, SeenLive, change_at}
use Rattle.txn_dialogue.specs.Sends.{Sent, Work, settled}
use Rattle.txn_dialogue.specs.Timers.{least_due, least_due_above}

-- how a step ends
pub data StepEnd : Type 0 where
  Done : (slot : Seen) → (mark : Mark) → StepEnd
  Aborted : (slot : Seen) → StepEnd

abbrev pub StepCourse : Type 0
StepCourse = Course Asked Heard StepEnd

-- the slot behind a step
abbrev pub slot_of : StepEnd → Seen
slot_of (Done slot mark) = slot
slot_of (Aborted slot) = slot

-- what is left to do: the datagrams, the blocks that go back, and the transaction behind them, which stays with its blocks or goes;
-- without a mark the step is aborted
pub record Close : Type 0 where
  pub origin : Origin
  pub state : TxnState
  pub blocks : ℕ
  pub sends : List Sent
  pub back : ℕ
  pub stays : Bool
  pub mark : Option Mark
  pub now : ℕ

abbrev pub end_of : Option Mark → Seen → StepEnd
end_of None slot = Aborted slot
end_of (Some mark) slot = Done slot mark

-- the least due timer; after an abort one above this moment, so that the slot isn't called again at once
abbrev pub due_of : Option Mark → ℕ → TxnState → Option ℕ
due_of None now s = least_due_above now s
due_of (Some mark) now s = least_due s

-- the place in the wheel, and the slot's key where it goes vacant
abbrev pub leaves : Close → TxnState → StepCourse
leaves c s =
    if c.stays
    then Asks (ask.Due (due_of c.mark c.now s)) (λ h. Ends (end_of c.mark (SeenLive (record { origin = c.origin; state = s; blocks = c.blocks }))))
    else Asks (ask.Due None) (λ h. Asks ask.Free (λ h. Ends (end_of c.mark (SeenVacant (c.origin.generation + 1)))))

-- blocks go back
abbrev pub gives : ℕ → StepCourse → StepCourse
gives zero after = after
gives (suc n) after = Asks ask.GiveBack (λ h. gives n after)

-- the request of a branch couldn't be sent: its timer X is due at once
abbrev pub unsent_at : Option ℕ → Heard → ℕ → List TxnBranch → List TxnBranch
unsent_at (Some n) heard.Failed now branches = change_at n (λ b. record b { unsent_due = Some now }) branches
unsent_at branch h now branches = branches

abbrev pub after_send : ℕ → Sent → Heard → TxnState → TxnState
after_send now d h s = record s { branches = unsent_at d.branch h now s.branches }

-- the datagrams, in order
abbrev pub sending : ℕ → List Sent → TxnState → (TxnState → StepCourse) → StepCourse
sending now [] s after = after s
sending now (d ∷ ds) s after = Asks (ask.Send d.to d.text) (λ h. sending now ds (after_send now d h s) after)

abbrev pub closing : Close → StepCourse
closing c = sending c.now c.sends c.state (λ s. gives c.back (leaves c s))

-- ---- when a transaction is over

abbrev pub is_over_client : ClientState → Bool
is_over_client client_state.Calling = false
is_over_client client_state.Trying = false
is_over_client client_state.Proceeding = false
is_over_client client_state.Accepted = false
is_over_client client_state.Completed = false
is_over_client client_state.Terminated = true

abbrev pub is_over_server : ServerState → Bool
is_over_server server_state.Trying = false
is_over_server server_state.Proceeding = false
is_over_server server_state.Accepted = false
is_over_server server_state.Completed = false
is_over_server server_state.Confirmed = false
is_over_server server_state.Terminated = true

abbrev pub is_over_maybe : Option Client → Bool
is_over_maybe None = true
is_over_maybe (Some c) = is_over_client c.state

-- the client of the branch, and that of its CANCEL
abbrev pub is_over_branch : TxnBranch → Bool
is_over_branch b = is_over_client b.client.state && is_over_maybe b.cancel

-- the server and all clients are over
abbrev pub is_over : TxnState → Bool
is_over s = is_over_server s.server.state && list_all is_over_branch s.branches

-- two blocks for the request and the response, and two for each branch
abbrev pub blocks_of : TxnState → ℕ
blocks_of s = 2 + 2 * length s.branches

-- what goes back of so many blocks: what is more than a transaction has that stays, and all of one that goes
abbrev pub spare : Bool → ℕ → TxnState → ℕ
spare true blocks s = blocks - blocks_of s
spare false blocks s = blocks

abbrev pub close_of : Bool → Mark → Work → Close
close_of stays mark w = record {
  origin = w.origin;
  state = w.state;
  blocks = w.blocks - spare stays w.blocks w.state;
  sends = w.sends;
  back = spare stays w.blocks w.state;
  stays = stays;
  mark = Some mark;
  now = w.now;
}

-- all is decided: 487 is sent where it is owed, and the transaction goes where it is over
abbrev pub finish : Mark → Work → StepCourse
finish mark w = closing (close_of (not (is_over (settled w).state)) mark (settled w))

-- there is no transaction
abbrev pub leave_off : Mark → Work → StepCourse
leave_off mark w = closing (close_of false mark w)
