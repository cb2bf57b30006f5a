use Rattle.std.proofs.Common.{◌≡◌, ◌<◌, ℕ, arith}
use Rattle.claim_words.proofs.Seats.{head_is}
use Rattle.job_queue.proofs.tests.made.Goals as goal

pub returns-clause-opener : goal.returns-clause-opener
returns-clause-opener c =
    let n = c.in_ok-claims.ensures in
    let l = c.in_ok-claims.openers.ok.0 in
    let m = n.counts.0 in
    n.openers 0 c.remove-opener.result (head_is c.in_ok-claims.openers.items c.remove-opener.result (omega arith) c.remove-opener.ensures.value)

pub returns-clause-pass : goal.returns-clause-pass
returns-clause-pass c =
    let n = c.in_ok-claims.ensures in
    let l = c.in_ok-claims.passes.ok.0 in
    let m = n.counts.1 in
    n.passes 0 c.remove-pass.result (head_is c.in_ok-claims.passes.items c.remove-pass.result (omega arith) c.remove-pass.ensures.value)
