-- The record that is shown.
use Rattle.ht_core.specs.declared.operation.TabRecord.{TabRecord}
use Rattle.ht_shared.specs.declared.cell.Shown.{Shown}

abbrev pub operation : Shown → TabRecord
operation shown = record { op = shown.op.value; now = shown.now; reply = shown.reply.value }
