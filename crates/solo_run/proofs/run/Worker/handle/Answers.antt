-- A request runs the block.
use Rattle.std.proofs.Common.{◌≡◌, sym, ap, ◌∙◌, subst, false}
use Rattle.std.proofs.lemmas.Result.{on_ok_weaker}
use Rattle.sip_msg.specs.Table.{Reads}
use Rattle.txn_dialogue.specs.Loose.{is_keepalive}
use Rattle.solo_run.specs.Running.{AreShownBy, played_at, proxy_of, tables_of}
use Rattle.solo_run.proofs.Turns.{is_a_request}
use Rattle.solo_run.proofs.run.Worker.handle.Goals as goal

pub returns-in-Request-clause-shown : goal.returns-in-Request-clause-shown
returns-in-Request-clause-shown c = on_ok_weaker c.run_request.result (λ shown script stands.
    let a = c.args.arrival.now in
    let bytes : c.as_slice-b.result.now ≡ a.bytes = c.as_slice-b.ensures in
    let other : is_keepalive a.bytes ≡ false = ap is_keepalive (sym bytes) ∙ sym c.is_keepalive.ensures ∙ c.if-is_keepalive.false in
    let reads = subst (λ x. Reads x c.read_into.new.room) bytes c.in-Ok.ensures.found in
    let so = is_a_request a.bytes a.from c.read_into.new.room c.in-Request.method c.in-Request.uri other
    (c.a_reading_is_the_message.ensures a.bytes c.read_into.new.room reads) c.in-Request.is in
    subst (λ h. AreShownBy a.at (played_at (proxy_of script c.args.settings.now) a.at a.from h (tables_of c.args.self.now.objects))
    c.args.self.now.objects c.run_request.new.self.objects) (sym so) (shown script stands)) c.run_request.ensures.shown
