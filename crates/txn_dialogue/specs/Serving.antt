-- The server of a slot, over the slot's history.
use Rattle.std.specs.Prelude.{◌≡◌, ◌+◌, ◌⊎◌, true, List, [], ◌∷◌}
use Rattle.dialogue.specs.Course.{Ends, Asks, Takes}
use Rattle.txn_server.specs.declared.machine.Server.{Server}
use Rattle.txn_server.specs.Rows.{ServerStep, new_server}
use Rattle.txn_server.specs.Runs.{MadeServerStep, ServerRun, HasSent, codes_sent}
use Rattle.host_meaning.specs.declared.ask.Heard.{Heard}
use Rattle.host_meaning.specs.Transactions.{is_invite}
use Rattle.txn_dialogue.specs.Slots.{TxnState, Seen, SeenVacant, SeenLive}
use Rattle.txn_dialogue.specs.Sends.{has_final}
use Rattle.txn_dialogue.specs.Ending.{StepCourse, slot_of}

-- these steps of a server, the latest first, lead from the first one to this one
abbrev pub Leads : Server → List MadeServerStep → Server → Type 0
Leads start [] s = s ≡ start
Leads start (t ∷ before) s = Leads start before t.old × ServerStep t.old t.event t.now t.new t.acts × (s ≡ t.new)

abbrev pub IsReached : Server → Server → Type 0
IsReached start s = (steps : List MadeServerStep) × Leads start steps s

-- Steps of its table lead from the server of one state to that of another; and once a final response was decided it stays decided, and
-- the response that is repeated stays the same one.
abbrev pub IsServed : TxnState → TxnState → Type 0
IsServed before s = IsReached before.server s.server × (has_final before ≡ true → (has_final s ≡ true) × (s.last ≡ before.last))

-- What a step makes of a slot: a transaction stays the same one and its server goes on by its table, or from a new server where the
-- transaction has just come; a slot that goes vacant has the next generation.
abbrev pub IsServedOn : Seen → Seen → Type 0
IsServedOn (SeenVacant before) (SeenVacant generation) = (generation ≡ before) ⊎ (generation ≡ before + 1)
IsServedOn (SeenVacant before) (SeenLive live) =
    (live.origin.generation ≡ before) × IsReached (new_server (is_invite live.origin.request)) live.state.server
IsServedOn (SeenLive before) (SeenVacant generation) = generation ≡ before.origin.generation + 1
IsServedOn (SeenLive before) (SeenLive live) = (live.origin ≡ before.origin) × IsServed before.state live.state

-- so at each end of a step
abbrev pub ServesOn : Seen → StepCourse → Type 0
ServesOn seen (Ends end) = IsServedOn seen (slot_of end)
ServesOn seen (Asks a next) = (h : Heard) → ServesOn seen (next h)
ServesOn seen (Takes short on) = ServesOn seen short × ServesOn seen on

-- The server of a slot is one that its table leads to from a new one, and this was sent in all: provisional responses, one final
-- response, and after it 2xx to an INVITE alone.
abbrev pub HasServed : Seen → Type 0
HasServed (SeenVacant generation) = Unit {0}
HasServed (SeenLive live) =
    (steps : List MadeServerStep)
    × ServerRun (is_invite live.origin.request) steps live.state.server
    × HasSent (is_invite live.origin.request) live.state.server.state (codes_sent steps)
