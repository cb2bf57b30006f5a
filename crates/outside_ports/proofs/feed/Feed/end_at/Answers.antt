use Rattle.std.proofs.Common.{◌≡◌, ◌<◌, length, drop, refl, subst, arith}
use Rattle.outside_ports.proofs.Arrivals.{got_by_then}
use Rattle.outside_ports.proofs.feed.Feed.end_at.Goals as goal

pub returns-then-self-len : goal.returns-then-self-len
returns-then-self-len c =
    let inside = c.self.inside in
    let port = c.args.self.now in
    let inner : inside.next < length inside.arrivals.items = let e = inside.arrivals.ok.0 in let l = c.len.ensures in let t = c.if-self-len.true in omega arith in
    let within : inside.next < length port.plan.arrivals = subst (λ p. inside.next < length p.plan.arrivals) c.self.view_is inner in
    let left : port.left ≡ drop inside.next port.plan.arrivals = subst (λ p. p.left ≡ drop inside.next p.plan.arrivals) c.self.view_is refl in
    got_by_then port port.plan.arrivals inside.next c.args.moment c.args.next within left c.requires c.if-moment-next.false
