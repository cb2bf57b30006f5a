use Rattle.std.proofs.Common.{◌<◌, ◌^◌, get_or, ap, sym, ◌∙◌, rules}
use Rattle.slot_lists.proofs.Words.{has_lowest, least}
use Rattle.slot_lists.proofs.bits.Bits.lowest.Goals as goal

pub returns-then-word-ne0-clause-has : goal.returns-then-word-ne0-clause-has
returns-then-word-ne0-clause-has c =
    let is = c.deref-word-items.ensures.value in
    let ws = c.deref-word-items.result.now in let at = c.loop-at.at in
    let fits : get_or ws at 0 < 2 ^ 64 = search rules in
    rw (← c.self.view_is) (has_lowest _ at (get_or ws at 0) (ap (λ x. get_or x at 0) is) fits c.if-word-ne0.true)

pub returns-then-word-ne0-clause-lowest : goal.returns-then-word-ne0-clause-lowest
returns-then-word-ne0-clause-lowest c =
    let is = c.deref-word-items.ensures.value in
    let ws = c.deref-word-items.result.now in let at = c.loop-at.at in
    let fits : get_or ws at 0 < 2 ^ 64 = search rules in
    rw (← c.self.view_is) (least _ at (get_or ws at 0) (ap (λ x. get_or x at 0) is) fits c.if-word-ne0.true (λ j l. ap (λ x. get_or x j 0) (sym is) ∙ c.loop-at.invariant j l))
