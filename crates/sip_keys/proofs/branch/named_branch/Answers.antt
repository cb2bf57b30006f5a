-- A text is split at its first dot in one way.
use Rattle.std.proofs.Common.{◌≡◌}
use Rattle.sip_keys.specs.declared.branch.Branch.{Branch}
use Rattle.sip_keys.specs.Branches.{IsBranch, branch_text}
use Rattle.std.proofs.lemmas.Bool.{both_ways}
use Rattle.numerals.proofs.Addresses.{where_none}
use Rattle.sip_keys.proofs.Names.{front_split, no_front, named_found, named_none}
use Rattle.sip_keys.proofs.branch.named_branch.Goals as goal

pub returns-in_err-front-clause-none : goal.returns-in_err-front-clause-none
returns-in_err-front-clause-none c =
    let none : (br : Branch) → IsBranch br → c.args.text.now ≡ branch_text c.args.epoch br → ⊥ = λ br is e.
    no_front c.args.epoch c.args.text.now br c.in_err-front.ensures.none e in
    where_none _ _ none

pub returns-then-not-is_front-clause-none : goal.returns-then-not-is_front-clause-none
returns-then-not-is_front-clause-none c = λ br is e.
    let s = front_split c.args.epoch _ _ _ br c.in_ok-front.ensures.found e in
    both_ways _ c.if-not-is_front.true (c.is_front.ensures.1 s.0)

pub returns-clause-found : goal.returns-clause-found
returns-clause-found c = named_found c.args.epoch _ _ _ _ c.in_ok-front.ensures.found (c.is_front.ensures.0 c.if-not-is_front.false) c.numbers_of.ensures.found

pub returns-clause-none : goal.returns-clause-none
returns-clause-none c = named_none c.args.epoch _ _ _ _ c.in_ok-front.ensures.found c.numbers_of.ensures.none
