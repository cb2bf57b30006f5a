use Rattle.cfg_check.proofs.Targets.{target_none, target_some, target_refused}
use Rattle.cfg_check.proofs.target.target_of.Goals as goal

pub returns-in_default : goal.returns-in_default
returns-in_default c = target_none c.args.known.now c.args.kind c.args.v.now _ _ _ c.in_default.is c.in_ok-part.ensures

pub returns-in-Some-target : goal.returns-in-Some-target
returns-in-Some-target c = target_some c.args.known.now c.args.kind c.args.v.now _ _ _ c.in-Some.part c.in-Some-target.target c.in-Some.is c.in_ok-part.ensures c.in-Some-target.ensures

pub returns-in-None : goal.returns-in-None
returns-in-None c = target_refused c.args.known.now c.args.kind c.args.v.now _ _ _ _ c.in-Some.part c.refuse.result c.in-Some.is c.in_ok-part.ensures c.in-None.ensures c.refuse.ensures
