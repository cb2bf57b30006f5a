-- The timers of a server.
use Rattle.std.specs.Prelude.{ℕ, Option}
use Rattle.txn_server.specs.declared.machine.Server.{Server}
use Rattle.txn_server.specs.declared.machine.ServerTimer.{ServerTimer}
use Rattle.txn_server.specs.declared.machine.ServerTimer.TheVariants.{Retry, End}

-- when a timer is due, if it is armed
abbrev pub due_of : Server → ServerTimer → Option ℕ
due_of s Retry = s.retry
due_of s End = s.end
