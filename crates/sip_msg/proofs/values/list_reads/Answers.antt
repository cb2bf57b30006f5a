use Rattle.std.proofs.Common.{◌≡◌, suc, length, sym, ap, ◌∙◌, take, Option, ℕ, Some, None}
use Rattle.sip_msg.specs.Values.{next_value}
use Rattle.sip_msg.proofs.Lists.{begins, goes, last_reads, one_is_bad}
use Rattle.sip_msg.proofs.values.list_reads.Goals as goal

pub loop-next-init : goal.loop-next-init
loop-next-init c = (suc (length c.args.b.now), begins c.args.b.now c.args.field.now c.requires)

pub loop-next-preserved : goal.loop-next-preserved
loop-next-preserved c =
    let e : next_value c.args.field.now.kind (take c.args.field.now.value.to c.args.b.now) c.loop-next.from ≡ Some (Some c.in-Some-next.place) = sym c.in-Some.ensures.value ∙ ap (λ (o : Option ℕ). Some o) c.in-Some-next.is in
    let between = rw c.in-Some-next.is at c.in-Some.ensures.between in
    goes c.args.b.now c.args.field.now c.loop-next.from c.in-Some-next.place c.loop-next.invariant.0 c.loop-next.invariant.1 e between.0 between.1

pub returns-in-None : goal.returns-in-None
returns-in-None c =
    let e : next_value c.args.field.now.kind (take c.args.field.now.value.to c.args.b.now) c.loop-next.from ≡ Some None = sym c.in-Some.ensures.value ∙ ap (λ (o : Option ℕ). Some o) c.in-None.is in
    sym (last_reads c.args.b.now c.args.field.now c.loop-next.from c.loop-next.invariant.0 c.loop-next.invariant.1 e)

pub returns : goal.returns
returns c =
    let e : next_value c.args.field.now.kind (take c.args.field.now.value.to c.args.b.now) c.loop-next.from ≡ None = sym c.next_value.ensures.value ∙ c.in_default.is in
    sym (one_is_bad c.args.b.now c.args.field.now c.loop-next.from c.loop-next.invariant.0 c.loop-next.invariant.1 e)
