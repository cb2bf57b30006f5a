use Rattle.std.proofs.Common.{refl, append-nil}
use Rattle.outside_ports.specs.Port.{got_by, sent_by, unsent_by, recv_by}
use Rattle.outside_ports.specs.declared.port.PortCall.TheVariants as call
use Rattle.outside_ports.proofs.Runs.{one_grows}
use Rattle.outside_ports.proofs.laws.a_call_of_send_grows_the_lists.Goals as goal

pub returns : goal.returns
returns c = record {
  got = λ old new d ended g. one_grows got_by old new (call.Send d ended) _ refl g;
  sent = λ old new d ended g. one_grows sent_by old new (call.Send d ended) (sent_by (call.Send d ended)) (append-nil (sent_by (call.Send d ended))) g;
  unsent = λ old new d ended g. one_grows unsent_by old new (call.Send d ended) (unsent_by (call.Send d ended)) (append-nil (unsent_by (call.Send d ended))) g;
  recvs = λ old new d ended g. one_grows recv_by old new (call.Send d ended) _ refl g;
}
