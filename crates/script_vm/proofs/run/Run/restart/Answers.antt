use Rattle.cfg_tree.specs.Meaning.{dialogue}
use Rattle.script_vm.proofs.Goes.{begins}
use Rattle.script_vm.proofs.run.Run.restart.Goals as goal

pub returns-clause-waits : goal.returns-clause-waits
returns-clause-waits c = λ script stands.
    begins c.args.loaded.now c.args.block c.args.env (dialogue script c.args.block c.args.env) _ c.reset.ensures
    (c.the_code_means_the_script.ensures c.args.loaded.now script stands c.args.block c.args.env)
