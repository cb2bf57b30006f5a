use Rattle.std.proofs.Common.{◌<◌, ◌^◌, get_or, arith, ap, sym, ◌∙◌, rules}
use Rattle.timer_wheel.proofs.Walks.{first_has, first_least, no_words}
use Rattle.timer_wheel.proofs.lists.Lists.first.Goals as goal

pub returns-then-word-ne0-clause-has_slots : goal.returns-then-word-ne0-clause-has_slots
returns-then-word-ne0-clause-has_slots c =
    let is = c.deref-word-items.ensures.value in let many = c.self.invariant.1.all_words in
    let len = c.deref-word-items.ensures.len in
    let ws = c.deref-word-items.result.now in let at = c.loop-at.at in
    let fits : get_or ws at 0 < 2 ^ 64 = search rules in
    rw (← c.self.view_is) (first_has _ _ _ _ c.self.invariant.0 c.self.invariant.1 at (get_or ws at 0) (omega arith) (ap (λ x. get_or x at 0) is) fits c.if-word-ne0.true (λ j l. ap (λ x. get_or x j 0) (sym is) ∙ c.loop-at.invariant j l))

pub returns-then-word-ne0-clause-least : goal.returns-then-word-ne0-clause-least
returns-then-word-ne0-clause-least c =
    let is = c.deref-word-items.ensures.value in let many = c.self.invariant.1.all_words in
    let len = c.deref-word-items.ensures.len in
    let ws = c.deref-word-items.result.now in let at = c.loop-at.at in
    let fits : get_or ws at 0 < 2 ^ 64 = search rules in
    rw (← c.self.view_is) (first_least _ _ _ _ c.self.invariant.0 c.self.invariant.1 at (get_or ws at 0) (omega arith) (ap (λ x. get_or x at 0) is) fits c.if-word-ne0.true (λ j l. ap (λ x. get_or x j 0) (sym is) ∙ c.loop-at.invariant j l))

pub returns-clause-none : goal.returns-clause-none
returns-clause-none c =
    let is = c.deref-word-items.ensures.value in let many = c.self.invariant.1.all_words in
    let len = c.deref-word-items.ensures.len in
    rw (← c.self.view_is) (no_words _ _ _ _ c.self.invariant.0 c.self.invariant.1 (λ j l. ap (λ x. get_or x j 0) (sym is) ∙ c.loop-at.invariant j (omega arith)))
