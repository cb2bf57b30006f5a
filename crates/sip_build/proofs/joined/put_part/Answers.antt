use Rattle.std.proofs.Common.{map}
use Rattle.msg_edits.specs.Change.{edit_of}
use Rattle.sip_build.proofs.Within.{part_within}
use Rattle.sip_build.proofs.joined.put_part.Goals as goal

pub returns : goal.returns
returns c = λ room text before.
    let is = part_within c.args.b.now c.args.at (map edit_of c.args.changes.now) c.requires in
    let written = c.put_edited.ensures room text before in
    rw (← is, ← c.all_within-moved.ensures) written
