-- The run, and behind it what it decided.
use Rattle.std.proofs.Common.{◌≡◌, List, ℕ, ◌++◌, refl, ap, sym, ◌∙◌, subst}
use Rattle.std.specs.Prelude.{Some}
use Rattle.std.proofs.lemmas.Result.{on_ok_weaker}
use Rattle.host_meaning.specs.Run.{around, received}
use Rattle.txn_dialogue.specs.Loose.{Runs}
use Rattle.script_host.specs.Lending.{state_of}
use Rattle.solo_run.specs.declared.objects.Objects.{Objects}
use Rattle.solo_run.specs.Running.{AreShownBy, played_at, proxy_of, tables_of}
use Rattle.solo_run.proofs.Turns.{request_turn}
use Rattle.solo_run.proofs.run.Worker.run_request.Goals as goal

pub returns-clause-shown : goal.returns-clause-shown
returns-clause-shown c = on_ok_weaker c.conclude.result (λ concluded script stands.
    let b = c.as_slice-b.result.now in
    let runs = c.in_ok-data-2.ensures.end script stands in
    let new : Objects = record { tables = c.run_over.new.objects.tables; trace = c.conclude.new.trace } in
    subst (λ x. AreShownBy c.args.arrival.now.at (played_at (proxy_of script c.args.settings.now) c.args.arrival.now.at c.args.arrival.now.from
    (Runs (received x c.args.self.now.message)) (tables_of c.args.self.now.objects)) c.args.self.now.objects new) c.as_slice-b.ensures
    (request_turn c.args.loaded.now script c.args.settings.now c.args.arrival.now.at c.args.arrival.now.from (received b c.args.self.now.message)
    (state_of c.in_ok-data.data) c.args.self.now.objects c.run_over.new.objects new c.in_ok-data-2.data c.in_ok-data-2.how stands c.in_ok-data.ensures runs
    (concluded runs.stateless) refl)) c.conclude.ensures
