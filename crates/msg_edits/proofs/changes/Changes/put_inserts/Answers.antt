use Rattle.std.proofs.Common.{◌++◌, take, append_assoc}
use Rattle.msg_edits.specs.Change.{edit_of}
use Rattle.msg_edits.specs.Edited.{inserted_at}
use Rattle.msg_edits.specs.Writing.{edits_of}
use Rattle.msg_edits.proofs.Steps.{inserted_more}
use Rattle.msg_edits.proofs.changes.Changes.put_inserts.Goals as goal

pub loop-i-preserved : goal.loop-i-preserved
loop-i-preserved c = λ room text before.
    let edits = edits_of c.args.self.now in
    let more = inserted_more edits c.loop-i.i (edit_of c.get.result) c.args.at c.get.ensures in
    let so_far = c.put-end.ensures room (text ++ inserted_at (take c.loop-i.i edits) c.args.at) (c.loop-i.invariant room text before) in
    rw (more, ← c.text_at.ensures) (rw append_assoc at so_far)
