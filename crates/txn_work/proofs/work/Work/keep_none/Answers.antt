use Rattle.std.proofs.Common.{None}
use Rattle.txn_dialogue.specs.Slots.{TxnBranch}
use Rattle.txn_work.specs.Works.{request_in}
use Rattle.txn_work.proofs.Shown.{branch_alone}
use Rattle.txn_work.proofs.work.Work.keep_none.Goals as goal

pub returns-clause-keeps : goal.returns-clause-keeps
returns-clause-keeps c = λ pool r d h.
    branch_alone pool c.args.txn.now _ r c.args.self.now d c.args.n (λ (b : TxnBranch). record b { kept = None }) h c.keep_response.ensures.same
    (c.keep_response.ensures.keeps (request_in c.args.txn.now r)) c.keep_response.ensures.requests (c.keep_response.ensures.pools pool) c.keep_response.ensures.count
