use Rattle.std.proofs.Common.{rules, ◌≡◌, [], ◌∷◌, ◌++◌, Some, refl, arith}
use Rattle.script_host.specs.Lending.{around_of, received_of}
use Rattle.script_host.proofs.Blocks.{taken_within, takes_last, takes_short}
use Rattle.script_host.proofs.relaying.take_block.Goals as goal

pub returns-then-taken-eq255-clause-short : goal.returns-then-taken-eq255-clause-short
returns-then-taken-eq255-clause-short c = λ there.
    let within = taken_within c.args.taken c.args.state.now.blocks.items there.1 in
    let places = there.0 in
    absurd (omega (arith, within, places, c.if-taken-eq255.true))

pub returns-in-Ok-clause-goes : goal.returns-in-Ok-clause-goes
returns-in-Ok-clause-goes c = λ there.
    let items : c.try_push.new.self.items ≡ c.args.state.now.blocks.items ++ Some c.args.block ∷ [] = search rules in
    takes_last (around_of c.args.lent.now) c.args.more c.args.taken c.args.state.now (record { facts = c.relay_on.new.facts; blocks = c.try_push.new.self }) c.args.block c.in-Ok.told
    c.if-more-eq0.true items there c.in-Ok.ensures.ok

pub returns-in-Err-clause-short : goal.returns-in-Err-clause-short
returns-in-Err-clause-short c = λ there.
    let items : c.try_push.new.self.items ≡ c.args.state.now.blocks.items ++ Some c.args.block ∷ [] = search rules in
    takes_short (received_of c.args.lent.now.message) c.args.more c.args.taken c.args.state.now (record { facts = c.relay_on.new.facts; blocks = c.try_push.new.self }) c.args.block
    c.if-more-eq0.true c.in-Err.ensures.err items there
