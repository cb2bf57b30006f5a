use Rattle.std.proofs.Common.{List, ℕ, ◌++◌, take, map}
use Rattle.std.specs.List.{filter, flat_map}
use Rattle.msg_edits.specs.Change.{edit_of}
use Rattle.msg_edits.specs.Writing.{IsWrittenSoFar}
use Rattle.sip_build.specs.Parts.{edited_field}
use Rattle.sip_build.specs.Writing.{is_taken}
use Rattle.sip_build.proofs.joined.Joined.put_fields.Given as goal

abbrev pub invariant-loop-field : goal.invariant-loop-field
invariant-loop-field l = (room text : List ℕ) → IsWrittenSoFar room l.fn.out l.len text → IsWrittenSoFar room l.out l.end (text ++ flat_map (edited_field l.self.b.now (map edit_of l.self.changes)) (filter (is_taken l.self.taken) (take l.field-index l.self.fields.now)))
