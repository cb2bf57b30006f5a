use Rattle.std.proofs.Common.{◌≡◌, ◌≤◌, arith, sym, length, length-take, take, ◌+◌}
use Rattle.sip_build.specs.Parts.{part}
use Rattle.sip_build.specs.WithField.{with_field}
use Rattle.sip_build.proofs.Moved.{field_added, with_field_length}
use Rattle.sip_build.proofs.adding.append_field.Goals as goal

pub returns : goal.returns
returns c =
    let out = c.args.out.now in
    let len = c.args.len in
    let bytes = part c.args.b.now c.args.field in
    let place = c.in-Some.place in
    let found = sym c.in-Some.ensures.value in
    let end : c.saturating_add-end.result ≡ len + length bytes = omega arith in
    let within : place ≤ len = omega (arith, c.in-Some.ensures.within, length-take len out) in
    let fits : c.saturating_add-end.result ≤ length out = omega arith in
    let long : length (with_field (take len out) bytes) ≡ c.saturating_add-end.result = omega (arith, with_field_length (take len out) bytes place found (omega (arith, c.in-Some.ensures.within)), length-take len out, c.requires.room) in
    record {
      len = sym long;
      fits = omega arith;
      written = rw (c.copy_from_slice.ensures.after, c.copy_within.ensures.after) (field_added out bytes place len c.saturating_add-end.result found within c.requires.room end fits);
      too_long = tt;
      no_room = tt;
      refused = tt;
    }
