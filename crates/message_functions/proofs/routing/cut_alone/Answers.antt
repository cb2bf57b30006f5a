use Rattle.std.proofs.Common.{◌≡◌, sym}
use Rattle.msg_edits.specs.declared.parts.Edit.TheVariants.{Cut}
use Rattle.host_meaning.specs.declared.routing.RouteValue.{RouteValue}
use Rattle.host_meaning.specs.Routing.{is_among}
use Rattle.message_functions.proofs.Steps.{map_goes, map_skips, map_stops}
use Rattle.message_functions.proofs.routing.cut_alone.Goals as goal
use Rattle.message_functions.proofs.routing.cut_alone.Goals.{else-is_among-via-then-is_among+else-not-cut, else-is_among-via-else-is_among}

pub returns-then-not-cut : goal.returns-then-not-cut
returns-then-not-cut c =
    map_stops (λ (v : RouteValue). Cut v.alone) (is_among c.args.places.now) c.args.values.now c.loop-value.value-index _ c.args.edits.now c.loop-value.edits c.cut.new.edits c.loop-value-test.true (sym c.if-is_among.ensures) c.loop-value.invariant c.if-not-cut.ensures

pub loop-value-preserved : goal.loop-value-preserved
loop-value-preserved c =
    let old = c.args.edits.now in
    let mid = c.loop-value.edits in
    elim c.else-is_among.branch [
      | else-is_among-via-then-is_among+else-not-cut w ↦ rw w.edits-is (map_goes (λ (v : RouteValue). Cut v.alone) (is_among c.args.places.now) c.args.values.now c.loop-value.value-index _ old mid w.cut.new.edits c.loop-value-test.true (sym w.if-is_among.ensures) c.loop-value.invariant w.if-not-cut.ensures)
      | else-is_among-via-else-is_among w ↦ rw w.edits-is (map_skips (λ (v : RouteValue). Cut v.alone) (is_among c.args.places.now) c.args.values.now c.loop-value.value-index _ old mid c.loop-value-test.true (sym w.if-is_among.ensures) c.loop-value.invariant)
    ]
