use Rattle.std.proofs.Common.{refl, append-nil}
use Rattle.outside_ports.specs.Port.{got_by, got_at, sent_by, unsent_by, recv_by}
use Rattle.outside_ports.specs.declared.port.PortCall.TheVariants as call
use Rattle.outside_ports.proofs.Runs.{one_grows}
use Rattle.outside_ports.proofs.laws.a_call_of_recv_grows_the_lists.Goals as goal

pub returns : goal.returns
returns c = record {
  got = λ old new until clock ended g. one_grows got_by old new (call.Recv until ended clock) (got_at ended) (append-nil (got_at ended)) g;
  sent = λ old new until clock ended g. one_grows sent_by old new (call.Recv until ended clock) _ refl g;
  unsent = λ old new until clock ended g. one_grows unsent_by old new (call.Recv until ended clock) _ refl g;
  recvs = λ old new until clock ended g. one_grows recv_by old new (call.Recv until ended clock) _ refl g;
}
