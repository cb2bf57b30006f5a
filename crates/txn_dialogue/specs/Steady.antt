-- What can be said of a step that runs no block.
use Rattle.std.specs.Prelude.{◌≡◌, ℕ, true, false, Option, None, if◌then◌else◌}
use Rattle.dialogue.specs.Course.{Ends, Asks, Takes}
use Rattle.txn_server.specs.declared.machine.ServerEvent.TheVariants as server
use Rattle.txn_server.specs.After.{server_after}
use Rattle.host_meaning.specs.declared.ask.Heard.{Heard}
use Rattle.txn_dialogue.specs.Slots.{Proxy, TxnState, Live}
use Rattle.txn_dialogue.specs.Ending.{StepCourse, Done, Aborted}
use Rattle.txn_dialogue.specs.Shortage.{fits_ask}

-- the course takes no memory of its own: no block runs on it
abbrev pub TakesNothing : StepCourse → Type 0
TakesNothing (Ends end) = Unit {0}
TakesNothing (Asks a next) = (h : Heard) → TakesNothing (next h)
TakesNothing (Takes short on) = ⊥

-- the course takes no memory of its own, and whatever fitting answers it gets it isn't aborted
abbrev pub Steady : StepCourse → Type 0
Steady (Ends (Done slot mark)) = Unit {0}
Steady (Ends (Aborted slot)) = ⊥
Steady (Asks a next) = (h : Heard) → fits_ask a h ≡ true → Steady (next h)
Steady (Takes short on) = ⊥

-- an ACK that isn't handed on runs nothing
abbrev pub IsHeldAck : Live → ℕ → Type 0
IsHeldAck live now = (server_after live.state.server server.Ack now).1.loose_ack ≡ false

-- neither the script nor the transaction has a block for responses
abbrev pub HasNoReplyBlock : Proxy → Live → Type 0
HasNoReplyBlock p live = (p.script.reply ≡ None) × (live.state.armed.reply ≡ None)

-- the block that runs where a round fails: the one that is armed, but none of a cancelled transaction
abbrev pub failure_to_run : TxnState → Option ℕ
failure_to_run s = if s.is_cancelled then None else s.armed.failure

abbrev pub HasNoFailureBlock : Live → Type 0
HasNoFailureBlock live = failure_to_run live.state ≡ None
