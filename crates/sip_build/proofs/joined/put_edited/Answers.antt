use Rattle.std.proofs.Common.{map, arith}
use Rattle.msg_edits.specs.Edited.{edited}
use Rattle.msg_edits.specs.Change.{edit_of}
use Rattle.sip_build.proofs.Behind.{written_behind}
use Rattle.sip_build.proofs.joined.put_edited.Goals as goal

pub returns-then-len-out : goal.returns-then-len-out
returns-then-len-out c = λ room text before.
    written_behind room c.args.out.now text (edited c.args.bytes.now (map edit_of c.args.changes.now)) c.write_edited.new.out c.args.len c.write_edited.result c.saturating_add.result (omega arith) (omega arith) before c.write_edited.ensures c.saturating_add.ensures
