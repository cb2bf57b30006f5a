use Rattle.std.proofs.Common.{rules, ◌≡◌, take}
use Rattle.sip_fields.specs.Tail.{or_bad}
use Rattle.sip_fields.specs.Via.{via_at}
use Rattle.sip_fields.proofs.Laws.{via_found, via_only}
use Rattle.sip_fields.proofs.via.read_via.Goals as goal

pub returns-clause-found : goal.returns-clause-found
returns-clause-found c =
    let exact : c.ok_or.result ≡ or_bad (via_at (take c.args.at.to c.args.b.now) c.args.at.from) = search rules in
    via_found c.ok_or.result c.args.b.now c.args.at.from c.args.at.to exact c.requires.order c.requires.within

pub returns-clause-only : goal.returns-clause-only
returns-clause-only c =
    let exact : c.ok_or.result ≡ or_bad (via_at (take c.args.at.to c.args.b.now) c.args.at.from) = search rules in
    λ v is. via_only c.ok_or.result c.args.b.now c.args.at.from c.args.at.to v exact c.requires.order c.requires.within is
