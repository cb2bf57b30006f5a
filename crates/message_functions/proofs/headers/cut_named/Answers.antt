use Rattle.std.proofs.Common.{◌≡◌, sym}
use Rattle.msg_edits.specs.declared.parts.Edit.TheVariants.{Cut}
use Rattle.sip_scan.specs.declared.field.HeaderSpan.{HeaderSpan}
use Rattle.host_meaning.specs.Headers.{is_left}
use Rattle.message_functions.proofs.Fitting.{old_edits}
use Rattle.message_functions.proofs.Steps.{map_goes, map_skips, map_stops}
use Rattle.message_functions.proofs.headers.cut_named.Goals as goal
use Rattle.message_functions.proofs.headers.cut_named.Goals.{else-is_left-via-then-is_left+else-not-cut, else-is_left-via-else-is_left}

pub returns-then-not-cut : goal.returns-then-not-cut
returns-then-not-cut c =
    let old = c.args.edits.now in
    let mid = c.loop-field.edits in
    let same = old_edits old mid c.as_slice.result.now c.len-before.result c.len-before.ensures.value c.as_slice.ensures.value c.loop-field.invariant.goes_on in
    map_stops (λ (f : HeaderSpan). Cut f.whole) (is_left c.args.b.now c.args.name.now old) c.args.fields.now c.loop-field.field-index _ old mid c.cut.new.edits c.loop-field-test.true (sym (rw same at c.if-is_left.ensures)) c.loop-field.invariant c.if-not-cut.ensures

pub loop-field-preserved : goal.loop-field-preserved
loop-field-preserved c =
    let old = c.args.edits.now in
    let mid = c.loop-field.edits in
    let same = old_edits old mid c.as_slice.result.now c.len-before.result c.len-before.ensures.value c.as_slice.ensures.value c.loop-field.invariant.goes_on in
    elim c.else-is_left.branch [
      | else-is_left-via-then-is_left+else-not-cut w ↦ rw w.edits-is (map_goes (λ (f : HeaderSpan). Cut f.whole) (is_left c.args.b.now c.args.name.now old) c.args.fields.now c.loop-field.field-index _ old mid w.cut.new.edits c.loop-field-test.true (sym (rw same at w.if-is_left.ensures)) c.loop-field.invariant w.if-not-cut.ensures)
      | else-is_left-via-else-is_left w ↦ rw w.edits-is (map_skips (λ (f : HeaderSpan). Cut f.whole) (is_left c.args.b.now c.args.name.now old) c.args.fields.now c.loop-field.field-index _ old mid c.loop-field-test.true (sym (rw same at w.if-is_left.ensures)) c.loop-field.invariant)
    ]
