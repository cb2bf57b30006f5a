use Rattle.cfg_laws.proofs.Routes.{unknown_routes}
use Rattle.cfg_laws.proofs.laws.an_unknown_route_has_no_block.Goals as goal

pub returns : goal.returns
returns c = unknown_routes
