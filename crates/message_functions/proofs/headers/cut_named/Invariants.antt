use Rattle.std.proofs.Common.{take, true}
use Rattle.std.specs.List.{filter}
use Rattle.host_meaning.specs.Headers.{is_left, field_cuts}
use Rattle.message_functions.specs.Edits.{Makes}
use Rattle.message_functions.proofs.headers.cut_named.Given as goal

-- those of the fields before are cut
abbrev pub invariant-loop-field : goal.invariant-loop-field
invariant-loop-field l = Makes l.initial.edits (field_cuts (filter (is_left l.b l.name l.initial.edits) (take l.field-index l.fields))) l.edits true
