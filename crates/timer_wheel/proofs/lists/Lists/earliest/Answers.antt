use Rattle.std.proofs.Common.{◌≡◌, ◌≢◌, ℕ, ◌+◌, [], ◌∷◌, ◌++◌, IfSome, IfNone, None, Option, length, get_or, arith, ap, sym, ◌∙◌, subst}
use Rattle.std.proofs.lemmas.List.{get_or_default}
use Rattle.timer_wheel.specs.declared.wheel.Timer.{Timer}
use Rattle.timer_wheel.specs.Wheels.{IsFirstIn, NoTimerIn}
use Rattle.timer_wheel.proofs.Writes.{in_from_list}
use Rattle.timer_wheel.proofs.Walks.{HasPassed, IsBest, begins, moves, is_slot, all_passed, found_some, found_no, best_new, best_old, best_without}
use Rattle.timer_wheel.proofs.lists.Lists.earliest.Goals as goal
use Rattle.timer_wheel.proofs.lists.Lists.earliest.Goals.{in-Some+then-goes_before, in_default, in_default-via-in-None-1, in_default-via-in-Some+else-goes_before}

pub loop-passed-init : goal.loop-passed-init
loop-passed-init c =
    let e : c.len.result ≡ length c.self.inside.places.items = omega arith in
    let l = c.self.invariant.1 in let many = l.nexts in
    let n : c.index-node.result.now ≡ get_or c.self.inside.next.items (length c.self.inside.places.items + c.args.list) c.index-node.result.now = rw (← e) c.index-node.ensures in
    let first = n ∙ get_or_default c.self.inside.next.items (length c.self.inside.places.items + c.args.list) c.index-node.result.now 0 (omega arith) in
    subst (λ x. HasPassed c.self.inside.places.items c.self.inside.next.items c.self.inside.prev.items c.self.inside.words.items c.args.timers.now c.args.list 0 x None) (sym first)
    (begins _ _ _ _ c.self.invariant.0 l c.args.list c.requires.list c.args.timers.now)

pub loop-passed-preserved : goal.loop-passed-preserved
loop-passed-preserved c =
    let e : c.len.result ≡ length c.self.inside.places.items = omega arith in
    let w = c.loop-passed.invariant in
    let many = w.lists.nexts in let here = w.here in
    let apart : c.loop-passed.node ≢ length c.self.inside.places.items + c.args.list = λ f. c.if-node-head.false (f ∙ ap (λ x. x + c.args.list) (sym e)) in
    let slot = is_slot _ _ _ _ c.args.timers.now c.args.list c.loop-passed.passed c.loop-passed.node c.loop-passed.found c.requires.list w apart in
    let v = ap length c.self.view_is in
    let seen = w.seen in
    let next = c.index-node-in-loop-passed.ensures ∙ get_or_default c.self.inside.next.items c.loop-passed.node c.index-node-in-loop-passed.result.now 0 (omega arith) in
    let placed = in_from_list c.self.inside.places.items c.loop-passed.node c.args.list slot w.its_list in
    let Best : Option (ℕ × Timer) → Type 0 = IsBest c.self.inside.places.items c.args.list c.args.timers.now (seen ++ c.loop-passed.node ∷ []) in
    let best : Best c.match-timers-node.found = elim c.match-timers-node.branch [
      | in-Some+then-goes_before a ↦ subst Best (sym a.found-is)
          (best_new c.self.inside.places.items c.args.list c.args.timers.now seen c.loop-passed.node a.in-Some.timer c.loop-passed.found a.in-Some.is (omega arith) placed a.if-goes_before.ensures w.best)
      | in_default a ↦ subst Best (sym a.found-is) (elim a.in_default.branch [
        | in_default-via-in-None-1 b ↦ best_without c.self.inside.places.items c.args.list c.args.timers.now seen c.loop-passed.node c.loop-passed.found (cc) w.best
        | in_default-via-in-Some+else-goes_before b ↦ best_old c.self.inside.places.items c.args.list c.args.timers.now seen c.loop-passed.node b.in-Some.timer c.loop-passed.found b.in-Some.is b.if-goes_before.ensures w.best
      ])
    ] in
    subst (λ x. HasPassed c.self.inside.places.items c.self.inside.next.items c.self.inside.prev.items c.self.inside.words.items c.args.timers.now c.args.list (c.loop-passed.passed + 1) x c.match-timers-node.found) (sym next)
    (moves _ _ _ _ c.args.timers.now c.args.list c.loop-passed.passed c.loop-passed.node c.loop-passed.found c.requires.list w c.match-timers-node.found apart best)

pub returns-after-loop-passed-clause-first : goal.returns-after-loop-passed-clause-first
returns-after-loop-passed-clause-first c =
    let e : c.loop-passed.passed ≡ length c.self.inside.places.items = omega arith in
    let w = c.loop-passed.invariant in
    subst (λ x. IfSome c.loop-passed.found (λ found. IsFirstIn x c.args.list c.args.timers.now found.0 found.1)) c.self.view_is
    (found_some _ _ _ _ c.args.timers.now c.args.list c.loop-passed.passed c.loop-passed.node c.requires.list
    (all_passed _ _ _ _ c.args.timers.now c.args.list c.loop-passed.passed c.loop-passed.node c.loop-passed.found c.requires.list w e) c.loop-passed.found w)

pub returns-after-loop-passed-clause-none : goal.returns-after-loop-passed-clause-none
returns-after-loop-passed-clause-none c =
    let e : c.loop-passed.passed ≡ length c.self.inside.places.items = omega arith in
    let w = c.loop-passed.invariant in
    subst (λ x. IfNone c.loop-passed.found (NoTimerIn x c.args.list c.args.timers.now)) c.self.view_is
    (found_no _ _ _ _ c.args.timers.now c.args.list c.loop-passed.passed c.loop-passed.node c.requires.list
    (all_passed _ _ _ _ c.args.timers.now c.args.list c.loop-passed.passed c.loop-passed.node c.loop-passed.found c.requires.list w e) c.loop-passed.found w)

pub returns-then-node-head-clause-first : goal.returns-then-node-head-clause-first
returns-then-node-head-clause-first c =
    let e : c.len.result ≡ length c.self.inside.places.items = omega arith in
    subst (λ x. IfSome c.loop-passed.found (λ found. IsFirstIn x c.args.list c.args.timers.now found.0 found.1)) c.self.view_is
    (found_some _ _ _ _ c.args.timers.now c.args.list c.loop-passed.passed c.loop-passed.node c.requires.list (c.if-node-head.true ∙ ap (λ x. x + c.args.list) e) c.loop-passed.found c.loop-passed.invariant)

pub returns-then-node-head-clause-none : goal.returns-then-node-head-clause-none
returns-then-node-head-clause-none c =
    let e : c.len.result ≡ length c.self.inside.places.items = omega arith in
    subst (λ x. IfNone c.loop-passed.found (NoTimerIn x c.args.list c.args.timers.now)) c.self.view_is
    (found_no _ _ _ _ c.args.timers.now c.args.list c.loop-passed.passed c.loop-passed.node c.requires.list (c.if-node-head.true ∙ ap (λ x. x + c.args.list) e) c.loop-passed.found c.loop-passed.invariant)
