use Rattle.std.proofs.Common.{IfNone, sym, subst}
use Rattle.std.proofs.lemmas.Option.{IfSome_then}
use Rattle.timer_wheel.specs.Timers.{IsFirst, IsIdle}
use Rattle.timer_wheel.specs.Wheels.{IsFirstIn, NoTimerIn}
use Rattle.timer_wheel.proofs.Placed.{first_of_lists, idle_lists, not_idle, if_none_then}
use Rattle.timer_wheel.proofs.wheel.Wheel.first.Goals as goal

pub returns-in_err-list-clause-idle : goal.returns-in_err-list-clause-idle
returns-in_err-list-clause-idle c = subst (λ r. IfNone r (IsIdle c.args.self.now)) (sym c.from_residual.ensures)
    (subst (λ t. IsIdle t) c.self.view_is (idle_lists _ _ _ _ c.self.invariant c.in_err-list.ensures.none))

pub returns-clause-first : goal.returns-clause-first
returns-clause-first c = IfSome_then c.earliest.result c.earliest.ensures.first (λ x p. subst (λ t. IsFirst t x.0 x.1) c.self.view_is
    (first_of_lists _ _ _ _ c.self.invariant c.in_ok-list.list x.0 x.1 c.in_ok-list.ensures.least
    (subst (λ t. IsFirstIn c.self.inside.lists c.in_ok-list.list t x.0 x.1) c.as_slice.ensures.value p)))

pub returns-clause-idle : goal.returns-clause-idle
returns-clause-idle c = if_none_then c.earliest.result c.earliest.ensures.none
    (λ none. absurd (not_idle _ _ _ _ c.self.invariant c.in_ok-list.list (subst (λ t. NoTimerIn c.self.inside.lists c.in_ok-list.list t) c.as_slice.ensures.value none) c.in_ok-list.ensures.has_slots))
