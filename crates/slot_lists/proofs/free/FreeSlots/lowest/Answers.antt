use Rattle.std.proofs.Common.{ℕ, ◌+◌, ◌*◌, ◌≤◌, List, IfNone, sym, subst}
use Rattle.slot_lists.specs.Bits.{Has}
use Rattle.slot_lists.proofs.Words.{lowest_of_levels, none_of_levels}
use Rattle.slot_lists.proofs.free.FreeSlots.lowest.Goals as goal

pub returns-in_err-word-clause-none : goal.returns-in_err-word-clause-none
returns-in_err-word-clause-none c = subst (λ r. IfNone r ((slot : ℕ) → ¬ Has c.args.self.now slot)) (sym c.from_residual.ensures)
    (subst (λ (ws : List ℕ). (slot : ℕ) → ¬ Has ws slot) c.self.view_is (none_of_levels _ _ c.self.invariant c.in_err-word.ensures.none))

pub returns-clause-lowest : goal.returns-clause-lowest
returns-clause-lowest c = subst (λ (ws : List ℕ). (slot : ℕ) → Has ws slot → c.in_ok-word.word * 64 + c.lowest_in.result ≤ slot) c.self.view_is
    (lowest_of_levels c.self.inside.slots c.self.inside.words c.in_ok-word.word c.lowest_in.result c.self.invariant c.in_ok-word.ensures.lowest c.lowest_in.ensures.few c.lowest_in.ensures.lowest)
