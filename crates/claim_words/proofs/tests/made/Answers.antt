use Rattle.std.proofs.Common.{rules, ◌≡◌, ◌<◌, ℕ, arith}
use Rattle.claim_words.proofs.Seats.{head_is, second_is}
use Rattle.claim_words.proofs.tests.made.Goals as goal

pub returns-clause-opener : goal.returns-clause-opener
returns-clause-opener c =
    let n = c.in_ok-claims.ensures in let l = c.in_ok-claims.openers.ok.0 in let m = n.counts.0 in
    n.openers 0 c.remove-opener.result (head_is c.in_ok-claims.openers.items c.remove-opener.result (omega arith) c.remove-opener.ensures.value)

pub returns-clause-passes : goal.returns-clause-passes
returns-clause-passes c =
    let n = c.in_ok-claims.ensures in let l = c.in_ok-claims.passes.ok.0 in let m = n.counts.1 in
    let s = n.passes 0 c.remove-one.result (head_is c.in_ok-claims.passes.items c.remove-one.result (omega arith) c.remove-one.ensures.value) in
    let t = n.passes 1 c.remove-two.result (second_is c.in_ok-claims.passes.items _ c.remove-two.result (omega arith) c.remove-one.ensures.items c.remove-two.ensures.value) in
    (s, t)
