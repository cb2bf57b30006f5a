use Rattle.std.proofs.Common.{◌≡◌, drop}
use Rattle.std.specs.List.{list_any}
use Rattle.host_meaning.specs.Headers.{is_cut_at}
use Rattle.message_functions.proofs.headers.is_cut.Given as goal

-- none of those before cuts it
abbrev pub invariant-loop-edit : goal.invariant-loop-edit
invariant-loop-edit l = list_any (is_cut_at l.at) (drop l.edit-index l.edits) ≡ list_any (is_cut_at l.at) l.edits
