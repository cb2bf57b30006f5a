-- The calls of a port as a run of its plan: what is got when, and which calls fail.
use Rattle.std.specs.Prelude.{◌≡◌, ℕ, ◌<◌, ◌≤◌, List, [], ◌∷◌, IfSome, true, false, max}
use Rattle.histories.specs.Runs.{Runs}
use Rattle.outside_ports.specs.Calls.{CallState, no_calls, one_made, next_fails}
use Rattle.outside_ports.specs.Port.{PortPlan}
use Rattle.outside_ports.specs.MemPort.{PortState, datagram, next_moment, IsInOrder}
use Rattle.outside_ports.specs.declared.port.Arrival.{Arrival}
use Rattle.outside_ports.specs.declared.port.PortCall.{PortCall}
use Rattle.outside_ports.specs.declared.port.PortCall.TheVariants as call
use Rattle.outside_ports.specs.declared.port.RecvEnd.TheVariants.{Got, Idle, Closed, Failed}
use Rattle.outside_ports.specs.declared.port.SendEnd.TheVariants as send

-- how far a plan has come: the arrivals that are left, the clock, and the calls that were made
pub record PlanPlace : Type 0 where
  pub left : List Arrival
  pub clock : ℕ
  pub recvs : CallState
  pub sends : CallState

abbrev pub plan_start : PortPlan → PlanPlace
plan_start plan = record { left = plan.arrivals; clock = 0; recvs = no_calls plan.fail_recv; sends = no_calls plan.fail_send }

-- after a call of `recv` the clock stands at this moment, and these arrivals are left
abbrev pub received : PlanPlace → List Arrival → ℕ → PlanPlace
received old left clock = record old { left = left; clock = clock; recvs = one_made old.recvs }

-- What a call does, under a plan with this end. A listed call fails, and the clock stays. Else a call of `recv` waits up to
-- the greater of the clock and `until`: it gets the next arrival at its moment, is closed at the end where none is left, and
-- is idle where neither comes by then.
abbrev pub PlanStep : ℕ → PlanPlace → PortCall → PlanPlace → Type 0
PlanStep end old (call.Send d send.Sent) new = (next_fails old.sends ≡ false) × (new ≡ record old { sends = one_made old.sends })
PlanStep end old (call.Send d send.Failed) new = (next_fails old.sends ≡ true) × (new ≡ record old { sends = one_made old.sends })
PlanStep end old (call.Recv until Failed clock) new = (next_fails old.recvs ≡ true) × (clock ≡ old.clock) × (new ≡ received old old.left clock)
PlanStep end old (call.Recv until (Got d) clock) new =
    (next_fails old.recvs ≡ false) × ((a : Arrival) × (rest : List Arrival)
    × (old.left ≡ a ∷ rest) × (a.at ≤ max old.clock until) × (d ≡ datagram a) × (clock ≡ a.at) × (new ≡ received old rest clock))
PlanStep end old (call.Recv until Idle clock) new =
    (next_fails old.recvs ≡ false) × (clock ≡ max old.clock until) × (clock < next_moment old.left end) × (new ≡ received old old.left clock)
PlanStep end old (call.Recv until Closed clock) new =
    (next_fails old.recvs ≡ false) × (old.left ≡ []) × (end ≤ max old.clock until) × (clock ≡ end) × (new ≡ received old old.left clock)

-- the calls are a run of the plan, up to this place
abbrev pub AreCallsOf : PortPlan → List PortCall → PlanPlace → Type 0
AreCallsOf plan calls place = Runs (PlanStep plan.end) (plan_start plan) calls place

abbrev pub plan_place : PortState → PlanPlace
plan_place port = record { left = port.left; clock = port.clock; recvs = port.recvs; sends = port.sends }

-- the port makes a run of its plan, whose arrivals are in order
pub record IsOnPlan (port : PortState) : Type 0 where
  pub in_order : IsInOrder port.plan.arrivals port.plan.end
  pub end : port.end ≡ port.plan.end
  pub calls : IfSome port.calls (λ calls. AreCallsOf port.plan calls (plan_place port))

-- no clock of these calls is lower than this one, or than one before it
abbrev pub ClocksRise : ℕ → List PortCall → Type 0
ClocksRise clock [] = Unit {0}
ClocksRise clock (call.Send d ended ∷ calls) = ClocksRise clock calls
ClocksRise clock (call.Recv until ended after ∷ calls) = (clock ≤ after) × ClocksRise after calls
