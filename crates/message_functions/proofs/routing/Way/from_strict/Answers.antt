use Rattle.std.proofs.Common.{◌≡◌, ◌-◌, length, refl, sym, ◌∙◌}
use Rattle.std.proofs.lemmas.List.Elements.{All-take}
use Rattle.message_functions.specs.Ways.{LiesIn}
use Rattle.message_functions.proofs.Drops.{last_is}
use Rattle.message_functions.proofs.routing.Way.from_strict.Goals as goal

pub returns-clause-way : goal.returns-clause-way
returns-clause-way c = λ patterns received.
    let last = last_is c.args.self.left.now ∙ sym c.in-Some.ensures.value in
    rw (sym (c.if-not-is_ours.ensures patterns received), sym c.if-not-is_loose.ensures, last, c.push.ensures.items, c.bytes_at.ensures) refl

pub returns-clause-lie : goal.returns-clause-lie
returns-clause-lie c = All-take (LiesIn c.args.b.now) (length c.args.self.left.now - 1) c.args.self.left.now c.requires.lie
