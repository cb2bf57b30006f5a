use Rattle.std.proofs.Common.{ℕ, Some, subst, List}
use Rattle.txn_dialogue.specs.Slots.{TxnBranch}
use Rattle.txn_work.specs.Works.{Shows, request_in}
use Rattle.txn_work.proofs.Shown.{branch_alone}
use Rattle.txn_dialogue.specs.Sends.{at_branch}
use Rattle.txn_work.proofs.work.Work.keep_passed.Goals as goal

pub returns-clause-keeps : goal.returns-clause-keeps
returns-clause-keeps c = λ pool r d h.
    subst (λ (l : List ℕ). Shows pool c.keep_response.new.self r c.args.self.now (at_branch c.args.n (λ b. record b { kept = Some l }) d)) c.passed.ensures.value
    (branch_alone pool c.args.txn.now c.keep_response.new.self r c.args.self.now d c.args.n (λ (b : TxnBranch). record b { kept = Some c.passed.result.now }) h c.keep_response.ensures.same
    (c.keep_response.ensures.keeps (request_in c.args.txn.now r)) c.keep_response.ensures.requests (c.keep_response.ensures.pools pool) c.keep_response.ensures.count)
