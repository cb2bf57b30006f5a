use Rattle.std.proofs.Common.{◌-◌, ℕ}
use Rattle.sip_msg.proofs.Lists.{Left}
use Rattle.sip_msg.proofs.values.list_reads.Given as goal

abbrev pub invariant-loop-next : goal.invariant-loop-next
invariant-loop-next l = (n : ℕ) × Left l.b l.field l.from n

abbrev pub decreases-loop-next : goal.decreases-loop-next
decreases-loop-next l = l.to - l.from
