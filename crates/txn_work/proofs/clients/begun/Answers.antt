use Rattle.std.proofs.Common.{ap, sym, ◌∙◌}
use Rattle.txn_client.specs.declared.machine.Client.{Client}
use Rattle.txn_client.specs.declared.machine.ClientActs.{ClientActs}
use Rattle.txn_client.specs.declared.machine.ClientEvent.TheVariants.{Start}
use Rattle.txn_client.specs.After.{client_after}
use Rattle.txn_client.proofs.Table.{step_after}
use Rattle.txn_work.proofs.clients.begun.Goals as goal

pub returns : goal.returns
returns c =
    ap (λ (m : Client × ClientActs). m.0) (sym (step_after c.new-client.result c.args.now Start c.client_step.new.c c.client_step.result c.client_step.ensures))
    ∙ ap (λ (x : Client). (client_after x Start c.args.now).0) c.new-client.ensures
