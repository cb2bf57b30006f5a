use Rattle.std.proofs.Common.{◌∙◌, sym, ap, Bool, List, drop}
use Rattle.std.proofs.lemmas.List.{take_rest}
use Rattle.txn_state.specs.declared.branch.Branch.{Branch}
use Rattle.std.specs.Prelude.{◌&&◌}
use Rattle.std.specs.List.{list_all}
use Rattle.txn_dialogue.specs.Ending.{is_over_branch}
use Rattle.txn_state.specs.Kept.{branches_shown}
use Rattle.txn_state.proofs.Overs.{all_over}
use Rattle.txn_state.proofs.ending.+are_over.Goals as goal

pub returns-then-is_over : goal.returns-then-is_over
returns-then-is_over m c = λ request.
    let bs = c.args.branches.now in
    let b = c.branch-item.result in
    sym (all_over request bs b c.in-len1-up.len_at_least c.branch-item.is
    ∙ ap (λ (v : Bool). v && list_all is_over_branch (branches_shown request (drop 1 bs))) (sym (c.is_over.ensures request) ∙ c.if-is_over.true)
    ∙ ap (λ (l : List Branch). list_all is_over_branch (branches_shown request l)) (sym (take_rest bs 1)) ∙ sym (c.are_over.ensures request))

pub returns-else-is_over : goal.returns-else-is_over
returns-else-is_over m c = λ request.
    let bs = c.args.branches.now in
    let b = c.branch-item.result in
    sym (all_over request bs b c.in-len1-up.len_at_least c.branch-item.is
    ∙ ap (λ (v : Bool). v && list_all is_over_branch (branches_shown request (drop 1 bs))) (sym (c.is_over.ensures request) ∙ c.if-is_over.false)
    ∙ sym c.if-is_over.false)
