use Rattle.std.proofs.Common.{◌≡◌, ◌∷◌, ◌++◌, [], sym, ◌∙◌, refl, arith, Bool, ◌&&◌, true, false, eqb}
use Rattle.std.proofs.lemmas.Bool.Decides.{nat_tests}
use Rattle.message_functions.proofs.HeaderTexts.{goes, begins, no_fields, fields_end}
use Rattle.message_functions.proofs.headers.ends_fields.Goals as goal

pub returns-in_default : goal.returns-in_default
returns-in_default c = sym (no_fields c.args.text.now c.loop-at.at c.args.end c.loop-at.invariant.0 c.loop-at.invariant.1 (sym c.loop-at-test.ensures.value) (sym c.field_at.ensures.value ∙ c.in_default.is))

pub loop-at-init : goal.loop-at-init
loop-at-init c = ([], begins c.args.text.now)

pub loop-at-preserved : goal.loop-at-preserved
loop-at-preserved c =
    let f = c.in-Some.field in
    let front = c.loop-at.invariant.0 in
    let bounds = c.in-Some.ensures.bounds in
    (front ++ f ∷ [], goes c.args.text.now c.loop-at.at front f c.loop-at.invariant.1 (sym c.loop-at-test.ensures.value) (sym c.field_at.ensures.value ∙ c.in-Some.is) bounds.1 bounds.2)

pub returns-then-at-end : goal.returns-then-at-end
returns-then-at-end c =
    let ends = fields_end c.args.text.now c.loop-at.at c.args.end c.loop-at.invariant.0 c.loop-at.invariant.1 (sym c.loop-at-test.ensures.value) in
    let here : eqb c.loop-at.at c.args.end ≡ true = grind (arith, nat_tests) in
    sym (rw here at ends)

pub returns-else-at-end : goal.returns-else-at-end
returns-else-at-end c =
    let ends = fields_end c.args.text.now c.loop-at.at c.args.end c.loop-at.invariant.0 c.loop-at.invariant.1 (sym c.loop-at-test.ensures.value) in
    let here : eqb c.loop-at.at c.args.end ≡ false = grind (arith, nat_tests) in
    here ∙ sym (rw here at ends)
