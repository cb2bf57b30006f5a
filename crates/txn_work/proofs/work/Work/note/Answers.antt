use Rattle.std.proofs.Common.{◌≡◌, Bool, ap, subst, ◌∙◌}
use Rattle.fork_core.specs.Histories.{HasHistory}
use Rattle.fork_core.specs.Responses.{with_response}
use Rattle.fork_core.specs.Decisions.{forwarding_of}
use Rattle.txn_dialogue.specs.Sends.{Work as Decided, has_final}
use Rattle.txn_work.specs.Works.{request_in}
use Rattle.txn_work.proofs.work.Work.note.Goals as goal

pub returns-clause-notes : goal.returns-clause-notes
returns-clause-notes c = λ pool r d h below.
    let n = c.args.n in
    let code = c.args.code in
    let final : c.has_final-has_final.result ≡ has_final d.state =
    c.has_final-has_final.ensures (request_in c.args.txn.now r) d.state.history ∙ ap (λ (x : Decided). has_final x.state) h.same in
    record {
      context = subst (λ (b : Bool). HasHistory c.on_reply.new.self (with_response d.state.history n code b)) final (c.on_reply.ensures.lists d.state.history h.context);
      count = h.count;
      requests = h.requests;
      sends = h.sends;
      pools = record { request = h.pools.request; response = h.pools.response; branches = h.pools.branches; spare = h.pools.spare };
      same = ap (λ (x : Decided). record x { state = record x.state { history = with_response d.state.history n code (has_final d.state) } }) h.same;
    }

pub returns-clause-forwards : goal.returns-clause-forwards
returns-clause-forwards c = λ pool r d h below.
    c.on_reply.ensures.value d.state.history h.context
    ∙ ap (λ (b : Bool). forwarding_of d.state.history c.args.n c.args.code b)
    (c.has_final-has_final.ensures (request_in c.args.txn.now r) d.state.history ∙ ap (λ (x : Decided). has_final x.state) h.same)
