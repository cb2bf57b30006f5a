use Rattle.std.proofs.Common.{rules, ◌≡◌, take}
use Rattle.sip_fields.specs.Tail.{or_bad}
use Rattle.sip_fields.specs.NameAddr.{route_at}
use Rattle.sip_fields.proofs.Laws.{route_found, route_only}
use Rattle.sip_fields.proofs.name_addr.read_route.Goals as goal

pub returns-clause-found : goal.returns-clause-found
returns-clause-found c =
    let exact : c.ok_or.result ≡ or_bad (route_at (take c.args.at.to c.args.b.now) c.args.at.from) = search rules in
    route_found c.ok_or.result c.args.b.now c.args.at.from c.args.at.to exact c.requires.order c.requires.within

pub returns-clause-only : goal.returns-clause-only
returns-clause-only c =
    let exact : c.ok_or.result ≡ or_bad (route_at (take c.args.at.to c.args.b.now) c.args.at.from) = search rules in
    λ v is. route_only c.ok_or.result c.args.b.now c.args.at.from c.args.at.to v exact c.requires.order c.requires.within is
