-- A response that is longer than the room doesn't read.
use Rattle.std.proofs.Common.{◌≡◌, false, sym, ◌∙◌, subst}
use Rattle.std.proofs.Common.{append-nil}
use Rattle.sip_build.specs.Reply.{reply_text}
use Rattle.message_functions.proofs.Rooms.{no_room}
use Rattle.host_meaning.specs.Run.{received, is_readable}
use Rattle.txn_dialogue.specs.LooseRuns.{loose_response}
use Rattle.solo_run.proofs.request.respond.Goals as goal

pub returns-in-Err : goal.returns-in-Err
returns-in-Err c =
    let long : is_readable (reply_text c.args.b.now c.args.m.now c.args.source c.args.response.now.code c.bytes-reason.result.now) ≡ false =
    no_room _ _ _ c.in-Err.field-0 c.in-Err.ensures (c.as_mut_slice.ensures.len ∙ c.args.room.now.has_all) in
    let same : is_readable (loose_response (received c.args.b.now c.args.m.now) c.args.source c.args.response.now) ≡ false =
    subst (λ r. is_readable (reply_text c.args.b.now c.args.m.now c.args.source c.args.response.now.code r) ≡ false) c.bytes-reason.ensures long in
    rw same (sym (append-nil c.args.trace.now.items))
