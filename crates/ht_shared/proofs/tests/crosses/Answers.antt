use denote.Param.Send.{sendable}
use Rattle.ht_shared.proofs.Sharing.{patterns_shared}
use Rattle.ht_shared.proofs.tests.crosses.Goals as goal

pub shares-requires-2-sync-T : goal.shares-requires-2-sync-T
shares-requires-2-sync-T c κs = search (sendable, patterns_shared)
