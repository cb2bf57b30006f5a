use Rattle.cfg_laws.proofs.Blocks.{no_requests}
use Rattle.cfg_laws.proofs.laws.a_script_without_a_request_route_is_refused_at_its_end.Goals as goal

pub returns : goal.returns
returns c = λ raw at. no_requests at raw
