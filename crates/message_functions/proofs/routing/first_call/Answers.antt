use Rattle.std.specs.Prelude.{Some}
use Rattle.host_meaning.specs.Run.{received, around}
use Rattle.message_functions.specs.Ways.{shown}
use Rattle.message_functions.proofs.FirstCall.{goes, stays, moves}
use Rattle.message_functions.proofs.Messages.{shown_fields}
use Rattle.message_functions.proofs.routing.first_call.Goals as goal

pub route_values-requires : goal.route_values-requires
route_values-requires c = shown_fields c.args.b.now c.args.m.now c.as_slice-fields.result.now c.requires c.as_slice-fields.ensures.value

pub returns-in_default-clause-ok : goal.returns-in_default-clause-ok
returns-in_default-clause-ok c = λ patterns.
    let r = received c.args.b.now c.args.m.now in
    let a = around c.args.parameters.now patterns c.args.settings.now (Some r) in
    let w = shown c.way_of-way.result in
    let g = goes a r c.args.facts.now c.as_slice-fields.result.now c.has_route.result c.in_ok-values.values.items c.as_slice.result.now c.bytes-uri.result.now _ w c.as_slice-fields.ensures.value c.has_route.ensures c.if-not-has_route.false c.in_ok-values.ensures.values c.as_slice.ensures.value c.bytes-uri.ensures c.bytes_of-destination.ensures (c.way_of-way.ensures patterns (Some r)) in
    let none = rw c.in_default.is at c.in_ok-routed.ensures.ok in
    stays a r c.args.facts.now w c.follow.new.edits g none.0 none.1

pub returns-clause-ok : goal.returns-clause-ok
returns-clause-ok c = λ patterns.
    let r = received c.args.b.now c.args.m.now in
    let a = around c.args.parameters.now patterns c.args.settings.now (Some r) in
    let w = shown c.way_of-way.result in
    let g = goes a r c.args.facts.now c.as_slice-fields.result.now c.has_route.result c.in_ok-values.values.items c.as_slice.result.now c.bytes-uri.result.now _ w c.as_slice-fields.ensures.value c.has_route.ensures c.if-not-has_route.false c.in_ok-values.ensures.values c.as_slice.ensures.value c.bytes-uri.ensures c.bytes_of-destination.ensures (c.way_of-way.ensures patterns (Some r)) in
    let routed = c.in-Some.routed in
    let some = rw c.in-Some.is at c.in_ok-routed.ensures.ok in
    moves a r c.args.facts.now w c.follow.new.edits routed.uri routed.destination g some.0 some.1 some.2 some.3
