-- Runs of a plan.
use Rattle.std.proofs.Common.{◌≡◌, ℕ, zero, ◌+◌, ◌<◌, ◌≤◌, List, [], ◌∷◌, ◌++◌, Bool, true, false, Option, option_map, refl, sym, ap, ◌∙◌, subst, arith, append-nil, append_assoc, max}
use Rattle.std.specs.List.{flat_map}
use Rattle.std.proofs.lemmas.Bool.{false≢true}
use Rattle.histories.specs.Runs.{Runs}
use Rattle.histories.specs.Lists.{Grows}
use Rattle.histories.proofs.Lists.{grows_flat, runs_parts}
use Rattle.outside_ports.specs.Port.{PortPlan, got_in, got_by}
use Rattle.outside_ports.specs.MemPort.{datagram, datagrams, next_moment, IsInOrder}
use Rattle.outside_ports.specs.Plan.{PlanPlace, PlanStep, AreCallsOf, plan_start, received, ClocksRise}
use Rattle.outside_ports.specs.declared.port.Arrival.{Arrival}
use Rattle.outside_ports.specs.declared.port.Datagram.{Datagram}
use Rattle.outside_ports.specs.declared.port.PortCall.{PortCall}
use Rattle.outside_ports.specs.declared.port.PortCall.TheVariants as call
use Rattle.outside_ports.specs.declared.port.RecvEnd.TheVariants.{Got, Idle, Closed, Failed}
use Rattle.outside_ports.specs.declared.port.SendEnd.TheVariants as send

-- a projection of calls that grew by one
pub one_grows : {B : Type 0} (f : PortCall → List B) (old new : Option (List PortCall)) (c : PortCall) (items : List B) → f c ++ [] ≡ items → Grows old new (c ∷ [])
    → Grows (option_map (flat_map f) old) (option_map (flat_map f) new) items
one_grows f old new c items is g = subst (λ z. Grows (option_map (flat_map f) old) (option_map (flat_map f) new) z) is (grows_flat f old new (c ∷ []) g)

-- what is left, and what was got before it
pub got_and_left : (end : ℕ) (s u : PlanPlace) (calls : List PortCall) → Runs (PlanStep end) s calls u → got_in calls ++ datagrams u.left ≡ datagrams s.left
got_and_left end s u [] r = ap (λ (p : PlanPlace). datagrams p.left) (sym r)
got_and_left end s u (call.Send d send.Sent ∷ calls) r = got_and_left end r.0 u calls r.2 ∙ ap (λ (p : PlanPlace). datagrams p.left) r.1.1
got_and_left end s u (call.Send d send.Failed ∷ calls) r = got_and_left end r.0 u calls r.2 ∙ ap (λ (p : PlanPlace). datagrams p.left) r.1.1
got_and_left end s u (call.Recv until Failed clock ∷ calls) r = got_and_left end r.0 u calls r.2 ∙ ap (λ (p : PlanPlace). datagrams p.left) r.1.2
got_and_left end s u (call.Recv until Idle clock ∷ calls) r = got_and_left end r.0 u calls r.2 ∙ ap (λ (p : PlanPlace). datagrams p.left) r.1.3
got_and_left end s u (call.Recv until Closed clock ∷ calls) r = got_and_left end r.0 u calls r.2 ∙ ap (λ (p : PlanPlace). datagrams p.left) r.1.4
got_and_left end s u (call.Recv until (Got d) clock ∷ calls) r =
    let g = r.1.1 in
    let more : got_in calls ++ datagrams u.left ≡ datagrams g.1 = got_and_left end r.0 u calls r.2 ∙ ap (λ (p : PlanPlace). datagrams p.left) g.6 in
    ap (λ (ds : List Datagram). d ∷ ds) more ∙ (ap (λ (x : Datagram). x ∷ datagrams g.1) g.4 ∙ ap datagrams (sym g.2))

pub all_got : (plan : PortPlan) (before after : List PortCall) (until clock : ℕ) (place : PlanPlace) → AreCallsOf plan (before ++ call.Recv until Closed clock ∷ after) place
    → (got_in before ≡ datagrams plan.arrivals) × (clock ≡ plan.end)
all_got plan before after until clock place r =
    let p = runs_parts (PlanStep plan.end) (plan_start plan) place before (call.Recv until Closed clock ∷ after) r in
    let s = p.2.1 in
    (sym (append-nil (got_in before)) ∙ (ap (λ (l : List Arrival). got_in before ++ datagrams l) (sym s.1) ∙ got_and_left plan.end (plan_start plan) p.0 before p.1), s.3)

-- the arrivals that are left are in order, and the clock isn't past the first of them
record IsOnTime (end : ℕ) (p : PlanPlace) : Type 0 where
  in_order : IsInOrder p.left end
  before_next : p.clock ≤ next_moment p.left end

in_order_rest : (a : Arrival) (rest : List Arrival) (end : ℕ) → IsInOrder (a ∷ rest) end → IsInOrder rest end
in_order_rest a [] end o = tt
in_order_rest a (b ∷ rest) end o = o.1

in_order_next : (a : Arrival) (rest : List Arrival) (end : ℕ) → IsInOrder (a ∷ rest) end → a.at ≤ next_moment rest end
in_order_next a [] end o = o
in_order_next a (b ∷ rest) end o = o.0

on_time : (end : ℕ) (old new : PlanPlace) (left : List Arrival) (clock : ℕ) → IsInOrder left end → clock ≤ next_moment left end → new ≡ received old left clock → IsOnTime end new
on_time end old new left clock o l e = subst (IsOnTime end) (sym e) (record { in_order = o; before_next = l })

clocks_rise : (end : ℕ) (s u : PlanPlace) (calls : List PortCall) → IsOnTime end s → Runs (PlanStep end) s calls u → ClocksRise s.clock calls
clocks_rise end s u [] on r = tt
clocks_rise end s u (call.Send d send.Sent ∷ calls) on r =
    subst (λ (n : ℕ). ClocksRise n calls) (ap (λ (p : PlanPlace). p.clock) r.1.1) (clocks_rise end r.0 u calls (subst (IsOnTime end) (sym r.1.1) (record { in_order = on.in_order; before_next = on.before_next })) r.2)
clocks_rise end s u (call.Send d send.Failed ∷ calls) on r =
    subst (λ (n : ℕ). ClocksRise n calls) (ap (λ (p : PlanPlace). p.clock) r.1.1) (clocks_rise end r.0 u calls (subst (IsOnTime end) (sym r.1.1) (record { in_order = on.in_order; before_next = on.before_next })) r.2)
clocks_rise end s u (call.Recv until Failed clock ∷ calls) on r = (
  let e = r.1.1 in omega arith,
  subst (λ (n : ℕ). ClocksRise n calls) (ap (λ (p : PlanPlace). p.clock) r.1.2)
      (clocks_rise end r.0 u calls (on_time end s r.0 s.left clock on.in_order (let e = r.1.1 in let b = on.before_next in omega arith) r.1.2) r.2),
)
clocks_rise end s u (call.Recv until Idle clock ∷ calls) on r = (
  let e = r.1.1 in omega arith,
  subst (λ (n : ℕ). ClocksRise n calls) (ap (λ (p : PlanPlace). p.clock) r.1.3)
      (clocks_rise end r.0 u calls (on_time end s r.0 s.left clock on.in_order (let e = r.1.2 in omega arith) r.1.3) r.2),
)
clocks_rise end s u (call.Recv until Closed clock ∷ calls) on r =
    let none : s.left ≡ [] = r.1.1 in
    let b : s.clock ≤ end = subst (λ (l : List Arrival). s.clock ≤ next_moment l end) none on.before_next in
    let at : end ≤ next_moment s.left end = subst (λ (l : List Arrival). end ≤ next_moment l end) (sym none) (omega arith) in (
      let e = r.1.3 in omega arith,
      subst (λ (n : ℕ). ClocksRise n calls) (ap (λ (p : PlanPlace). p.clock) r.1.4)
          (clocks_rise end r.0 u calls (on_time end s r.0 s.left clock on.in_order (let e = r.1.3 in omega arith) r.1.4) r.2),
    )
clocks_rise end s u (call.Recv until (Got d) clock ∷ calls) on r =
    let g = r.1.1 in
    let o : IsInOrder (g.0 ∷ g.1) end = subst (λ (l : List Arrival). IsInOrder l end) g.2 on.in_order in
    let b : s.clock ≤ g.0.at = subst (λ (l : List Arrival). s.clock ≤ next_moment l end) g.2 on.before_next in
    let n = in_order_next g.0 g.1 end o in (
      let e = g.5 in omega arith,
      subst (λ (n : ℕ). ClocksRise n calls) (ap (λ (p : PlanPlace). p.clock) g.6)
          (clocks_rise end r.0 u calls (on_time end s r.0 g.1 clock (in_order_rest g.0 g.1 end o) (let e = g.5 in omega arith) g.6) r.2),
    )

pub plan_clocks : (plan : PortPlan) (calls : List PortCall) (place : PlanPlace) → IsInOrder plan.arrivals plan.end → AreCallsOf plan calls place → ClocksRise 0 calls
plan_clocks plan calls place o r = clocks_rise plan.end (plan_start plan) place calls (record { in_order = o; before_next = omega arith }) r
