use Rattle.std.proofs.Common.{◌≡◌, List, ◌∷◌, ◌++◌, [], sym, ap, ◌∙◌, Some, None, suc, length}
use Rattle.host_meaning.specs.declared.routing.RouteValue.{RouteValue}
use Rattle.message_functions.proofs.RouteValues.{reading_begins, reading_goes}
use Rattle.message_functions.proofs.routing.push_values.Goals as goal

pub loop-next-init : goal.loop-next-init
loop-next-init c = (suc (length c.args.b.now), reading_begins c.args.b.now c.args.field.now c.args.values.now.items c.requires)

pub loop-next-preserved : goal.loop-next-preserved
loop-next-preserved c =
    let v = c.in-Some-value_at.value in
    let items = c.loop-next.values.items in
    let so_far = (rw c.in-Some.is at c.loop-next.invariant.1) in
    let more = reading_goes c.args.b.now c.args.field.now c.args.values.now.items items c.loop-next.before c.in-Some.place c.loop-next.invariant.0 v c.requires so_far (sym c.in-Some-value_at.ensures.value) c.in-Some-value_at.ensures.between in
    let pushed = c.in_ok-push.ensures.items ∙ ap (λ (x : RouteValue). items ++ x ∷ []) c.route_value.ensures in
    (more.0, rw pushed more.1)
