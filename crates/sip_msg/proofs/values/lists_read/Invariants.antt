use Rattle.std.proofs.Common.{◌≡◌, take, true}
use Rattle.std.specs.List.{list_all}
use Rattle.sip_msg.specs.Values.{list_reads}
use Rattle.sip_msg.proofs.values.lists_read.Given as goal

abbrev pub invariant-loop-field : goal.invariant-loop-field
invariant-loop-field l = list_all (list_reads l.b) (take l.field-index l.fields) ≡ true
