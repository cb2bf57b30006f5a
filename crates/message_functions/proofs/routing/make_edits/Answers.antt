use Rattle.std.proofs.Common.{◌≡◌, sym, ap, ◌∙◌}
use Rattle.std.specs.List.{flat_map, filter}
use Rattle.std.specs.Option.{option_copied}
use Rattle.sip_scan.specs.declared.field.HeaderSpan.{HeaderSpan}
use Rattle.host_meaning.specs.Run.{received}
use Rattle.host_meaning.specs.Routing.{cuts_in, values_of, route_fields, back_edit}
use Rattle.message_functions.proofs.Fitting.{makes_more, makes_stops}
use Rattle.message_functions.proofs.Messages.{shown_fields, before_body}
use Rattle.message_functions.proofs.routing.make_edits.Goals as goal

pub cut_routes-requires : goal.cut_routes-requires
cut_routes-requires c = shown_fields c.args.b.now c.args.m.now c.as_slice-fields.result.now c.requires c.as_slice-fields.ensures.value

pub returns-then-not-branch-clause-ok : goal.returns-then-not-branch-clause-ok
returns-then-not-branch-clause-ok c =
    let r = received c.args.b.now c.args.m.now in
    let w = c.args.way.now in
    let cuts = flat_map (λ (f : HeaderSpan). cuts_in w.cut.items f (values_of r.bytes f)) (route_fields r) in
    makes_stops c.args.edits.now c.cut_routes.new.edits cuts (back_edit r (option_copied w.back)) (rw (c.as_slice-fields.ensures.value, c.as_slice.ensures.value, c.if-not-branch.true) at c.in_ok-cut_routes.ensures.ok)

pub put_back-requires : goal.put_back-requires
put_back-requires c = before_body c.args.b.now c.args.m.now c.requires

pub returns-clause-ok : goal.returns-clause-ok
returns-clause-ok c =
    let r = received c.args.b.now c.args.m.now in
    let w = c.args.way.now in
    let cuts = flat_map (λ (f : HeaderSpan). cuts_in w.cut.items f (values_of r.bytes f)) (route_fields r) in
    makes_more c.args.edits.now c.cut_routes.new.edits c.put_back.new.edits cuts (back_edit r (option_copied w.back)) c.in_ok-made.made (rw (c.as_slice-fields.ensures.value, c.as_slice.ensures.value, c.if-not-branch.false) at c.in_ok-cut_routes.ensures.ok) (c.in_ok-made.ensures.ok c.args.b.now)
