use Rattle.std.proofs.Common.{◌≡◌, refl}
use Rattle.cfg_tree.specs.Meaning.{dialogue}
use Rattle.cfg_code.specs.Machine.{begun}
use Rattle.script_vm.proofs.Goes.{begins}
use Rattle.script_vm.proofs.run.Run.begin.Goals as goal

pub returns-clause-begun : goal.returns-clause-begun
returns-clause-begun c = rw (← c.loaded.view_is, c.entry.ensures, c.new.ensures, c.new-2.ensures, c.new-3.ensures) refl

pub returns-clause-waits : goal.returns-clause-waits
returns-clause-waits c = λ script stands.
    begins c.args.loaded.now c.args.block c.args.env (dialogue script c.args.block c.args.env) _ (rw (← c.loaded.view_is, c.entry.ensures, c.new.ensures, c.new-2.ensures, c.new-3.ensures) refl)
    (c.the_code_means_the_script.ensures c.args.loaded.now script stands c.args.block c.args.env)
