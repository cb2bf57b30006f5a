use Rattle.std.proofs.Common.{rules, ◌≡◌, ℕ, ap, ◌∙◌, replicate, subst, sym, arith, []}
use Rattle.claim_words.proofs.Lists.{at_below}
use Rattle.claim_words.proofs.Seats.{begins_as, new_opener, new_pass}
use Rattle.claim_words.proofs.claims.Claims.new.Goals as goal

pub of_words-requires : goal.of_words-requires
of_words-requires c = begins_as _ c.args.slots c.args.workers _ (c.as_slice.ensures.value ∙ c.in_ok-words.ensures.items_if_clones_equal (λ y e. e))

pub returns-clause-openers : goal.returns-clause-openers
returns-clause-openers c k p is =
    let l = c.deal_openers.new.openers.ok.0 in
    let n = c.deal_openers.ensures.count in
    let b = at_below _ k p is in
    new_opener _ _ c.args.workers c.args.slots k p.seat p.slot p.last (search rules) (omega arith) (c.deal_openers.ensures.openers k p is)

pub returns-clause-passes : goal.returns-clause-passes
returns-clause-passes c i p is = new_pass _ i p.seat p.number (c.deal_claim_passes.ensures.passes i p is)
