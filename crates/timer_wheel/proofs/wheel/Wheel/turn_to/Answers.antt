use Rattle.std.proofs.Common.{◌≡◌, ℕ, ◌<◌, ◌≤◌, ◌^◌, Option, Some, None, get_or, set, arith, rules, refl, ap, sym, ◌∙◌, subst}
use Rattle.std.proofs.lemmas.Option.{slice_get-get_or}
use Rattle.std.proofs.lemmas.List.{get_or_default, set-set}
use Rattle.timer_wheel.specs.declared.wheel.Timer.{Timer}
use Rattle.timer_wheel.specs.Timers.{HasTimer}
use Rattle.timer_wheel.specs.Levels.{list_at, list_by}
use Rattle.timer_wheel.proofs.Placed.{IsTurning, turned_low, begins_to_turn, turning_slot, is_out, turns_on, fewer, turns_away, no_place}
use Rattle.timer_wheel.proofs.wheel.Wheel.turn_to.Goals as goal

pub invariant_of-self : goal.invariant_of-self
invariant_of-self c = let low = c.if-list-lt-HIGHER.true in let e = c.list_at-list.ensures.list in turned_low _ _ _ _ c.self.invariant c.args.now (omega arith) (λ slot timer h. c.requires slot timer (subst (λ t. HasTimer t slot timer) c.self.view_is h)) (omega arith)

pub loop-slot-init : goal.loop-slot-init
loop-slot-init c = record { turning = subst (λ k. IsTurning c.self.inside.timers.items c.self.inside.lists c.self.inside.last c.args.now k c.self.inside.known) (sym c.list_at-list.ensures.list) (begins_to_turn _ _ _ _ c.self.invariant c.args.now (omega arith) (λ slot timer h. c.requires slot timer (subst (λ t. HasTimer t slot timer) c.self.view_is h))); same_timers = refl; same_last = refl }

pub take_out-requires : goal.take_out-requires
take_out-requires c = let l = turning_slot c.loop-slot.self-inside.timers.items c.loop-slot.self-inside.lists c.loop-slot.self-inside.last c.args.now c.list_at-list.result c.loop-slot.self-inside.known c.loop-slot.invariant.turning c.in-Some.slot c.in-Some.ensures.is_in in let m = c.loop-slot.invariant.turning.many in omega arith

pub index-requires : goal.index-requires
index-requires c = let l = turning_slot c.loop-slot.self-inside.timers.items c.loop-slot.self-inside.lists c.loop-slot.self-inside.last c.args.now c.list_at-list.result c.loop-slot.self-inside.known c.loop-slot.invariant.turning c.in-Some.slot c.in-Some.ensures.is_in in omega arith

pub put_in-requires-clause-slot : goal.put_in-requires-clause-slot
put_in-requires-clause-slot c = rw c.take_out.ensures (is_out c.loop-slot.self-inside.timers.items c.loop-slot.self-inside.lists c.loop-slot.self-inside.last c.args.now c.list_at-list.result c.loop-slot.self-inside.known c.loop-slot.invariant.turning c.in-Some.slot c.in-Some.ensures.is_in)

pub loop-slot-smaller-in-Some-index : goal.loop-slot-smaller-in-Some-index
loop-slot-smaller-in-Some-index c =
    let t = c.in-Some-index.timer in
    let l = turning_slot c.loop-slot.self-inside.timers.items c.loop-slot.self-inside.lists c.loop-slot.self-inside.last c.args.now c.list_at-list.result c.loop-slot.self-inside.known c.loop-slot.invariant.turning c.in-Some.slot c.in-Some.ensures.is_in in
    let held : get_or c.loop-slot.self-inside.timers.items c.in-Some.slot None ≡ Some t = get_or_default c.loop-slot.self-inside.timers.items c.in-Some.slot None c.index.result.now l ∙ (sym c.index.ensures ∙ c.in-Some-index.is) in
    let all = c.loop-slot.invariant.same_timers ∙ c.self.view_is in
    let after : c.args.now ≤ t.due = c.requires c.in-Some.slot t (subst (λ ts. HasTimer ts c.in-Some.slot t) all (slice_get-get_or c.loop-slot.self-inside.timers.items c.in-Some.slot None l ∙ ap (λ (x : Option Timer). Some x) held)) in
    let fits : t.due < 2 ^ 64 = search rules in
    let last = c.loop-slot.invariant.same_last in
    let of_now : c.list_at-list.result ≡ list_at c.loop-slot.self-inside.last c.args.now = c.list_at-list.ensures.list ∙ ap (λ x. list_at x c.args.now) (sym last) in
    let away = turns_away c.loop-slot.self-inside.timers.items c.loop-slot.self-inside.lists c.loop-slot.self-inside.last c.args.now c.list_at-list.result c.loop-slot.self-inside.known c.loop-slot.invariant.turning c.in-Some.slot c.in-Some.ensures.is_in t held (omega arith) after fits of_now (omega arith) in
    let place = c.list_at.ensures.list in
    let put : c.put_in.new.self ≡ set c.loop-slot.self-inside.lists c.in-Some.slot (Some (list_at c.args.now t.due)) =
    c.put_in.ensures ∙ (ap (λ x. set x c.in-Some.slot (Some c.list_at.result)) c.take_out.ensures ∙ (set-set c.loop-slot.self-inside.lists c.in-Some.slot None (Some c.list_at.result)
    ∙ ap (λ (x : ℕ). set c.loop-slot.self-inside.lists c.in-Some.slot (Some x)) place)) in
    rw put (fewer c.loop-slot.self-inside.timers.items c.loop-slot.self-inside.lists c.loop-slot.self-inside.last c.args.now c.list_at-list.result c.loop-slot.self-inside.known c.loop-slot.invariant.turning c.in-Some.slot c.in-Some.ensures.is_in (Some (list_at c.args.now t.due)) away)

pub loop-slot-preserved-in-Some-index : goal.loop-slot-preserved-in-Some-index
loop-slot-preserved-in-Some-index c =
    let t = c.in-Some-index.timer in
    let l = turning_slot c.loop-slot.self-inside.timers.items c.loop-slot.self-inside.lists c.loop-slot.self-inside.last c.args.now c.list_at-list.result c.loop-slot.self-inside.known c.loop-slot.invariant.turning c.in-Some.slot c.in-Some.ensures.is_in in
    let held : get_or c.loop-slot.self-inside.timers.items c.in-Some.slot None ≡ Some t = get_or_default c.loop-slot.self-inside.timers.items c.in-Some.slot None c.index.result.now l ∙ (sym c.index.ensures ∙ c.in-Some-index.is) in
    let all = c.loop-slot.invariant.same_timers ∙ c.self.view_is in
    let after : c.args.now ≤ t.due = c.requires c.in-Some.slot t (subst (λ ts. HasTimer ts c.in-Some.slot t) all (slice_get-get_or c.loop-slot.self-inside.timers.items c.in-Some.slot None l ∙ ap (λ (x : Option Timer). Some x) held)) in
    let fits : t.due < 2 ^ 64 = search rules in
    let last = c.loop-slot.invariant.same_last in
    let of_now : c.list_at-list.result ≡ list_at c.loop-slot.self-inside.last c.args.now = c.list_at-list.ensures.list ∙ ap (λ x. list_at x c.args.now) (sym last) in
    let away = turns_away c.loop-slot.self-inside.timers.items c.loop-slot.self-inside.lists c.loop-slot.self-inside.last c.args.now c.list_at-list.result c.loop-slot.self-inside.known c.loop-slot.invariant.turning c.in-Some.slot c.in-Some.ensures.is_in t held (omega arith) after fits of_now (omega arith) in
    let place = c.list_at.ensures.list in
    let put : c.put_in.new.self ≡ set c.loop-slot.self-inside.lists c.in-Some.slot (Some (list_at c.args.now t.due)) =
    c.put_in.ensures ∙ (ap (λ x. set x c.in-Some.slot (Some c.list_at.result)) c.take_out.ensures ∙ (set-set c.loop-slot.self-inside.lists c.in-Some.slot None (Some c.list_at.result)
    ∙ ap (λ (x : ℕ). set c.loop-slot.self-inside.lists c.in-Some.slot (Some x)) place)) in
    record { turning = rw put (turns_on c.loop-slot.self-inside.timers.items c.loop-slot.self-inside.lists c.loop-slot.self-inside.last c.args.now c.list_at-list.result c.loop-slot.self-inside.known c.loop-slot.invariant.turning c.in-Some.slot c.in-Some.ensures.is_in (Some (list_at c.args.now t.due)) (ap (list_by c.args.now) (sym held)) away); same_timers = c.loop-slot.invariant.same_timers; same_last = last }

pub loop-slot-smaller : goal.loop-slot-smaller
loop-slot-smaller c = rw c.take_out.ensures (fewer c.loop-slot.self-inside.timers.items c.loop-slot.self-inside.lists c.loop-slot.self-inside.last c.args.now c.list_at-list.result c.loop-slot.self-inside.known c.loop-slot.invariant.turning c.in-Some.slot c.in-Some.ensures.is_in None (no_place c.list_at-list.result))

pub loop-slot-preserved : goal.loop-slot-preserved
loop-slot-preserved c =
    let l = turning_slot c.loop-slot.self-inside.timers.items c.loop-slot.self-inside.lists c.loop-slot.self-inside.last c.args.now c.list_at-list.result c.loop-slot.self-inside.known c.loop-slot.invariant.turning c.in-Some.slot c.in-Some.ensures.is_in in
    let none : get_or c.loop-slot.self-inside.timers.items c.in-Some.slot None ≡ None = get_or_default c.loop-slot.self-inside.timers.items c.in-Some.slot None c.index.result.now l ∙ (sym c.index.ensures ∙ c.in_default-index.is) in
    record { turning = rw c.take_out.ensures (turns_on c.loop-slot.self-inside.timers.items c.loop-slot.self-inside.lists c.loop-slot.self-inside.last c.args.now c.list_at-list.result c.loop-slot.self-inside.known c.loop-slot.invariant.turning c.in-Some.slot c.in-Some.ensures.is_in None (ap (list_by c.args.now) (sym none)) (no_place c.list_at-list.result)); same_timers = c.loop-slot.invariant.same_timers; same_last = c.loop-slot.invariant.same_last }

pub returns : goal.returns
returns c = c.loop-slot.invariant.same_timers ∙ c.self.view_is
