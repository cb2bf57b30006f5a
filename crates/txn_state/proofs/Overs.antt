-- Branches that are over, one after the other.
use Rattle.std.proofs.Common.{◌≡◌, ◌≤◌, ◌∷◌, [], List, length, drop, get_or, sym, ap, arith}
use Rattle.std.specs.Prelude.{◌&&◌}
use Rattle.std.specs.List.{list_all}
use Rattle.host_meaning.specs.Run.{Received}
use Rattle.txn_dialogue.specs.Ending.{is_over_branch}
use Rattle.txn_state.specs.declared.branch.Branch.{Branch}
use Rattle.txn_state.specs.Kept.{branch_shown, branches_shown}

pub all_over : (request : Received) (bs : List Branch) (b : Branch) → 1 ≤ length bs → b ≡ get_or bs 0 b →
    list_all is_over_branch (branches_shown request bs) ≡ (is_over_branch (branch_shown request b) && list_all is_over_branch (branches_shown request (drop 1 bs)))
all_over request [] b some e = absurd (omega arith)
all_over request (x ∷ xs) b some e = ap (λ (y : Branch). is_over_branch (branch_shown request y) && list_all is_over_branch (branches_shown request xs)) (sym e)
