-- What a text reads as.
use Rattle.std.proofs.Common.{◌≡◌, ℕ, List, Some, refl}
use Rattle.sip_msg.specs.Table.{Reads}
use Rattle.sip_msg.specs.declared.message.Message.{Message}
use Rattle.host_meaning.specs.Run.{received}
use Rattle.txn_dialogue.specs.Slots.{reading}

pub reads_so : (b : List ℕ) (m : Message) → Reads b m → reading b ≡ Some (received b m)
reads_so b m r =
    rw r.no_fault (rw r.head (rw r.start (rw r.parts.via (rw r.parts.from (rw r.parts.to (rw r.parts.call_id (rw r.parts.cseq (rw r.parts.max_forwards (rw r.parts.end refl)))))))))
