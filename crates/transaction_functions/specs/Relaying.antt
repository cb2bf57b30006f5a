-- What the two parts of t_relay come to: what is decided before a block is asked for, and what the blocks are taken for.
use Rattle.std.specs.Prelude.{◌≡◌, ℕ, pos}
use Rattle.pv_table.specs.declared.facts.Facts.{Facts}
use Rattle.host_meaning.specs.Run.{Received, Around, RunState, code}
use Rattle.host_meaning.specs.Relaying.{relay_called, relay_request, relayed, takes_blocks}
use Rattle.transaction_functions.specs.declared.relaying.Relaying.{Relaying}
use Rattle.transaction_functions.specs.declared.relaying.Relaying.TheVariants.{Code, Wants}

-- these facts, in a run that holds so many blocks
abbrev pub run_with : Facts → ℕ → RunState
run_with f n = record { facts = f; blocks = n }

-- t_relay for a request comes to this, and makes the new facts of the old ones, whatever blocks the run holds: a code at once; or so many
-- blocks are taken, and with them the request is relayed
abbrev pub IsRelaying : Around → Received → Facts → Relaying → Facts → Type 0
IsRelaying a r old (Code n) new = (blocks : ℕ) → relay_request a r (relay_called (run_with old blocks)) ≡ code n (run_with new blocks)
IsRelaying a r old (Wants n) new =
    (blocks : ℕ) → relay_request a r (relay_called (run_with old blocks)) ≡ takes_blocks n 0 (run_with new blocks) (λ s. code (pos 1) (relayed r s))

-- the request was relayed
abbrev pub IsRelayed : Received → Facts → Facts → Type 0
IsRelayed r old new = (blocks : ℕ) → relayed r (run_with old blocks) ≡ run_with new blocks
