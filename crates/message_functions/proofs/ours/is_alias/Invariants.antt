use Rattle.std.proofs.Common.{◌≡◌, drop}
use Rattle.host_meaning.specs.Ours.{is_alias}
use Rattle.message_functions.proofs.ours.is_alias.Given as goal

-- none of those before is the host
abbrev pub invariant-loop-alias : goal.invariant-loop-alias
invariant-loop-alias l = is_alias (drop l.alias-index l.aliases) l.host ≡ is_alias l.aliases l.host
