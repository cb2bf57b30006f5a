-- A port in memory stays on its plan, call by call.
use Rattle.std.proofs.Common.{◌≡◌, ℕ, zero, ◌+◌, ◌<◌, ◌≤◌, ◌⊎◌, List, [], ◌∷◌, ◌++◌, Option, Some, None, IfSome, true, false, max, inl, inr, refl, sym, ap, ◌∙◌, subst, arith}
use Rattle.std.specs.Prelude.{option_map}
use Rattle.histories.specs.Runs.{Runs}
use Rattle.histories.proofs.Lists.{runs_more}
use Rattle.outside_ports.specs.Calls.{next_fails, one_made}
use Rattle.outside_ports.specs.Port.{PortPlan, send_call}
use Rattle.outside_ports.specs.MemPort.{PortState, datagram, next_moment, recorded, with_call, recv_counted, send_counted, unrecorded_recv, unrecorded_send, ReceivesBy, SendsBy, IsInOrder}
use Rattle.outside_ports.specs.Plan.{PlanPlace, PlanStep, AreCallsOf, plan_place, received, IsOnPlan}
use Rattle.outside_ports.specs.declared.port.Addr.{Addr}
use Rattle.outside_ports.specs.declared.port.PortCall.{PortCall}
use Rattle.outside_ports.specs.declared.port.PortCall.TheVariants as call
use Rattle.outside_ports.specs.declared.port.RecvEnd.TheVariants as end
use Rattle.outside_ports.specs.declared.port.Recv.{Recv}
use Rattle.outside_ports.specs.declared.port.Recv.TheVariants.{Got, Idle, Closed, Failed}
use Rattle.outside_ports.specs.declared.port.SendEnd.{SendEnd}
use Rattle.outside_ports.specs.declared.port.SendEnd.TheVariants as send

-- one call more, where the calls are told
calls_more : (plan : PortPlan) (calls : Option (List PortCall)) (old new : PlanPlace) (c : PortCall) → PlanStep plan.end old c new
    → IfSome calls (λ cs. AreCallsOf plan cs old) → IfSome (option_map (λ (cs : List PortCall). cs ++ c ∷ []) calls) (λ cs. AreCallsOf plan cs new)
calls_more plan None old new c step told = tt
calls_more plan (Some cs) old new c step told = runs_more (PlanStep plan.end) _ old new cs c told step

-- a port that took a step of its plan and recorded it
stays : (old new : PortState) (c : PortCall) → IsOnPlan old → new.plan ≡ old.plan → new.end ≡ old.end → new.calls ≡ option_map (λ (cs : List PortCall). cs ++ c ∷ []) old.calls
    → PlanStep old.end (plan_place old) c (plan_place new) → IsOnPlan new
stays old new c on plan ended calls step = record {
  in_order = subst (λ (p : PortPlan). IsInOrder p.arrivals p.end) (sym plan) on.in_order;
  end = ended ∙ (on.end ∙ ap (λ (p : PortPlan). p.end) (sym plan));
  calls = subst (λ (p : PortPlan). IfSome new.calls (λ cs. AreCallsOf p cs (plan_place new))) (sym plan)
      (subst (λ o. IfSome o (λ cs. AreCallsOf old.plan cs (plan_place new))) (sym calls)
      (calls_more old.plan old.calls (plan_place old) (plan_place new) c (subst (λ n. PlanStep n (plan_place old) c (plan_place new)) on.end step) on.calls));
}

-- a port that tells no calls any more
lost : (old new : PortState) → IsOnPlan old → new.plan ≡ old.plan → new.end ≡ old.end → new.calls ≡ None → IsOnPlan new
lost old new on plan ended none = record {
  in_order = subst (λ (p : PortPlan). IsInOrder p.arrivals p.end) (sym plan) on.in_order;
  end = ended ∙ (on.end ∙ ap (λ (p : PortPlan). p.end) (sym plan));
  calls = subst (λ o. IfSome o (λ cs. AreCallsOf new.plan cs (plan_place new))) (sym none) tt;
}

pub receives_on_plan : (old new : PortState) (until : ℕ) (buffer filled : List ℕ) (answer : Recv) → IsOnPlan old → ReceivesBy old until buffer answer filled new → IsOnPlan new
receives_on_plan old new until buffer filled (Got len from) on r =
    subst IsOnPlan (sym r.8) (stays old _ (call.Recv until (end.Got (datagram r.0)) r.0.at) on refl refl refl (r.2, (r.0, r.1, r.3, r.4, refl, refl, refl)))
receives_on_plan old new until buffer filled Idle on r =
    subst IsOnPlan (sym r.3) (stays old _ (call.Recv until end.Idle (max old.clock until)) on refl refl refl (r.0, refl, r.1, refl))
receives_on_plan old new until buffer filled Closed on r =
    subst IsOnPlan (sym r.4) (stays old _ (call.Recv until end.Closed old.end) on refl refl refl (r.0, r.1, r.2, refl, refl))
receives_on_plan old new until buffer filled Failed on (same, inl r) =
    subst IsOnPlan (sym r.1) (stays old _ (call.Recv until end.Failed old.clock) on refl refl refl (r.0, refl, refl))
receives_on_plan old new until buffer filled Failed on (same, inr r) = subst IsOnPlan (sym r.1) (lost old _ on refl refl refl)

pub sends_on_plan : (old new : PortState) (to : Addr) (bytes : List ℕ) (answer : SendEnd) → IsOnPlan old → SendsBy old to bytes answer new → IsOnPlan new
sends_on_plan old new to bytes send.Sent on r =
    subst IsOnPlan (sym r.1) (stays old _ (send_call to bytes send.Sent) on refl refl refl (r.0, refl))
sends_on_plan old new to bytes send.Failed on (inl r) =
    subst IsOnPlan (sym r.1) (stays old _ (send_call to bytes send.Failed) on refl refl refl (r.0, refl))
sends_on_plan old new to bytes send.Failed on (inr r) = subst IsOnPlan (sym r.1) (lost old _ on refl refl refl)
