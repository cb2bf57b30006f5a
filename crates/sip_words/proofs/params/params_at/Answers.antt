use Rattle.std.proofs.Common.{◌∷◌, ◌++◌, [], sym}
use Rattle.sip_words.proofs.ParamTurns.{seen_first, seen_next, seen_wrong, seen_last}
use Rattle.sip_words.proofs.params.params_at.Goals as goal

pub loop-semicolon-init : goal.loop-semicolon-init
loop-semicolon-init c = ([], seen_first c.args.surroundings c.args.text.now c.args.from c.none-found.result c.requires c.none-found.ensures)

pub loop-semicolon-preserved : goal.loop-semicolon-preserved
loop-semicolon-preserved c =
    let p = c.in_ok-param.param in
    let ps = c.loop-semicolon.invariant.0 in (
      ps ++ p ∷ [],
      seen_next c.args.surroundings c.args.text.now c.args.from c.loop-semicolon.found ps c.in-Some.semicolon p c.with-found.result c.loop-semicolon.invariant.1 (sym c.in-Some.ensures.value) (sym c.in_ok-param.ensures.value) c.in-Some.ensures.bounds.0 c.in_ok-param.ensures.parts c.with-found.ensures.parts c.with-found.ensures.value,
    )

pub returns-in_err-param-clause-value : goal.returns-in_err-param-clause-value
returns-in_err-param-clause-value c =
    let none = seen_wrong c.args.surroundings c.args.text.now c.args.from c.loop-semicolon.found c.loop-semicolon.invariant.0 c.in-Some.semicolon c.loop-semicolon.invariant.1 (sym c.in-Some.ensures.value) (sym c.in_err-param.ensures.value) in
    rw none c.from_residual.ensures

pub returns-clause-value : goal.returns-clause-value
returns-clause-value c = seen_last c.args.surroundings c.args.text.now c.args.from c.loop-semicolon.found c.loop-semicolon.invariant.0 c.loop-semicolon.invariant.1 (sym c.in_default.ensures.value)
