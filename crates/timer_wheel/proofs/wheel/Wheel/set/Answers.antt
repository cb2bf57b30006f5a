use Rattle.std.proofs.Common.{◌≡◌, ℕ, ◌<◌, Some, None, length, set, arith, ap, ◌∙◌}
use Rattle.std.proofs.lemmas.List.{set-set}
use Rattle.timer_wheel.specs.declared.wheel.Timer.{Timer}
use Rattle.timer_wheel.specs.Levels.{list_at}
use Rattle.timer_wheel.proofs.Placed.{changes}
use Rattle.timer_wheel.proofs.wheel.Wheel.set.Goals as goal

pub invariant_of-self : goal.invariant_of-self
invariant_of-self c =
    let v = ap length c.self.view_is in
    let lists = c.self.inside.lists in let slot = c.args.slot in
    let timer : Timer = record { generation = c.args.generation; due = c.args.due } in
    let within : slot < length c.self.inside.timers.items = omega arith in
    let put : c.put_in.new.self ≡ set lists slot (Some (list_at c.self.inside.last c.args.due)) =
    c.put_in.ensures ∙ (ap (λ x. set x slot (Some c.list_at.result)) c.take_out.ensures ∙ (set-set lists slot None (Some c.list_at.result)
    ∙ ap (λ (x : ℕ). set lists slot (Some x)) c.list_at.ensures.list)) in
    rw put (changes c.self.inside.timers.items lists c.self.inside.last c.self.inside.known c.self.invariant slot (Some timer) c.known_after_set-self-inside.result within
    (c.known_after_set-self-inside.ensures.known c.self.inside.timers.items within c.self.invariant.known_first))
