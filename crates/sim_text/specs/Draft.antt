-- What a draft of a scenario stands for.
use Rattle.std.specs.Prelude.{◌≡◌, List, [], ◌∷◌, ◌++◌, Option, None, Some, IsSome}
use Rattle.outside_ports.specs.declared.port.Arrival.{Arrival}
use Rattle.sim_text.specs.declared.draft.Pending.{Pending}
use Rattle.sim_text.specs.declared.draft.Draft.{Draft}
use Rattle.sim_text.specs.Scenario.{State}

abbrev pub arrival_of : Pending → Arrival
arrival_of p = record { at = p.at; from = p.from; bytes = p.bytes.items }

abbrev pub pending_arrival : Option Pending → List Arrival
pending_arrival None = []
pending_arrival (Some p) = arrival_of p ∷ []

abbrev pub so_far : Draft → State
so_far draft = record {
  hosts = draft.hosts.items;
  arrivals = draft.arrivals.items ++ pending_arrival draft.pending;
  end = draft.end;
}

-- a datagram is pending from the first line `in` to the line `end`
pub record IsDraft (draft : Draft) : Type 0 where
  pub before : draft.pending ≡ None → draft.end ≡ None → draft.arrivals.items ≡ []
  pub after : IsSome draft.end → draft.pending ≡ None
