use Rattle.std.proofs.Common.{◌∷◌, [], List, ◌∙◌, arith, refl, length-take}
use Rattle.msg_edits.specs.Change.{edit_of}
use Rattle.msg_edits.specs.declared.parts.Edit.{Edit}
use Rattle.msg_edits.specs.declared.parts.Edit.TheVariants.{Cut}
use Rattle.sip_build.proofs.Readings.{end_within}
use Rattle.sip_build.proofs.SameTexts.{forwarded_is}
use Rattle.sip_build.proofs.forwarding.forward.Goals as goal

pub slice_bounds-apply_after-end : goal.slice_bounds-apply_after-end
slice_bounds-apply_after-end c = let le = end_within c.args.b.now c.args.m.now c.requires.reading in omega (arith, length-take c.args.m.now.end c.args.b.now)

pub returns : goal.returns
returns c = λ listen branch line.
    let a = c.args in
    let made : List Edit = edit_of c.received.result ∷ edit_of c.port.result ∷ edit_of c.address.result ∷ Cut c.uri_of-uri_at.result ∷ edit_of c.insert.result ∷ edit_of c.insert-2.result ∷ edit_of c.insert-3.result ∷ edit_of c.insert-4.result ∷ Cut c.of-hops.result.at ∷ edit_of c.insert-5.result ∷ [] in
    let hops = c.as_bytes.ensures.value ∙ c.as_str.ensures.value in
    let is = forwarded_is a.b.now a.m.now a.from a.edits.now a.uri.now listen branch a.absent_hops c.of-stamp.result c.of-hops.result a.front.now a.branch.now made c.of-stamp.ensures line c.of-hops.ensures (rw (c.received.ensures, c.port.ensures, c.address.ensures, c.insert.ensures, c.insert-2.ensures, c.insert-3.ensures, c.insert-4.ensures, c.insert-5.ensures, c.uri_of-uri_at.ensures, c.via_place-place.ensures, hops) refl) in
    rw (← is) c.apply_after.ensures
