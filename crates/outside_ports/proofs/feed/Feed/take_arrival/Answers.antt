-- The arrival at the index is the next one of those that are left.
use Rattle.std.proofs.Common.{◌≡◌, ◌+◌, ◌<◌, length, drop, get_or, ap, refl}
use Rattle.outside_ports.proofs.Arrivals.{left_goes}
use Rattle.outside_ports.proofs.feed.Feed.take_arrival.Goals as goal

pub returns : goal.returns
returns c =
    let inside = c.self.inside in
    let a = c.in-Some.arrival.now in
    let items = c.deref.ensures.value in
    let within : inside.next < length inside.arrivals.items = rw (← items) c.in-Some.ensures.lookup.3.0 in
    let here : a ≡ get_or inside.arrivals.items inside.next a = rw (← items) c.in-Some.ensures.lookup.1 in
    rw (← c.self.view_is) (
      a,
      drop (inside.next + 1) inside.arrivals.items,
      left_goes inside.arrivals.items inside.next a within here,
      ap length c.as_slice-bytes.ensures,
      refl,
      rw (c.copy_from_slice.ensures.after, c.as_slice-bytes.ensures) refl,
      refl,
    )
