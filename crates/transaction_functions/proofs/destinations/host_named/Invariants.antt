use Rattle.std.proofs.Common.{◌≡◌, drop}
use Rattle.std.specs.List.{find}
use Rattle.host_meaning.specs.Relaying.{is_host_named}
use Rattle.transaction_functions.proofs.destinations.host_named.Given as goal

-- none of those before has the name
abbrev pub invariant-loop-host : goal.invariant-loop-host
invariant-loop-host l = find (is_host_named l.name) (drop l.host-index l.hosts) ≡ find (is_host_named l.name) l.hosts
