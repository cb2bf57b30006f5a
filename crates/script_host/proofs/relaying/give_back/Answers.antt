use Rattle.std.proofs.Common.{◌≡◌, ◌-◌, [], ◌∷◌, ◌++◌, refl, subst}
use Rattle.script_host.proofs.Blocks.{gives_on}
use Rattle.script_host.proofs.Wanted.{positive}
use Rattle.script_host.proofs.relaying.give_back.Goals as goal

pub returns-in-Some-Some-clause-goes : goal.returns-in-Some-Some-clause-goes
returns-in-Some-Some-clause-goes c = λ there a.
    gives_on a c.args.blocks (c.args.blocks - 1) c.args.state.now (record c.args.state.now { blocks = c.pop.new.self }) c.in-Some-Some.block
    (positive c.args.blocks c.if-blocks-eq0.false) refl
    (subst (λ x. c.args.state.now.blocks.items ≡ c.pop.new.self.items ++ x ∷ []) c.in-Some-Some.field-0-is c.in-Some-Some.ensures.items) there
