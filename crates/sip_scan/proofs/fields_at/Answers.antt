use Rattle.std.proofs.Common.{◌≡◌, ◌∷◌, ◌++◌, [], sym, ap, None, length, arith, length-append, length-take}
use Rattle.sip_words.proofs.ManyLaws.{goes_on, fails, ends}
use Rattle.sip_scan.specs.Field.{next_field, fields_at}
use Rattle.sip_scan.proofs.Kept.{kept_more, lie_push}
use Rattle.sip_scan.proofs.Turns.{fields_advance, field_next, field_wrong, field_done}
use Rattle.sip_scan.proofs.fields_at.Goals as goal

pub returns-in_err-field-clause-none : goal.returns-in_err-field-clause-none
unfolding fields_at
returns-in_err-field-clause-none c =
    let text = c.args.text.now in
    let s = c.loop-at.invariant.1 in
    let none : c.from_residual.result ≡ None = c.from_residual.ensures in
    let wrong = field_wrong text c.loop-at.at (sym c.loop-at-test.ensures.value) (sym c.in_err-field.ensures.value) in
    rw none (fails (length text) (next_field text) c.args.from c.loop-at.at c.loop-at.invariant.0 wrong s.rest)

pub keep-requires : goal.keep-requires
keep-requires c =
    let s = c.loop-at.invariant.1 in
    omega (arith, ap length s.kept_is, length-take 128 c.loop-at.invariant.0)

pub loop-at-preserved : goal.loop-at-preserved
loop-at-preserved c =
    let text = c.args.text.now in
    let front = c.loop-at.invariant.0 in
    let s = c.loop-at.invariant.1 in
    let f = c.in_ok-field.field in
    let next = field_next text c.loop-at.at f (sym c.loop-at-test.ensures.value) (sym c.in_ok-field.ensures.value) in
    let bounds = c.in_ok-field.ensures.bounds in (
      front ++ f ∷ [],
      record {
        low = omega (arith, s.low, bounds);
        inside = bounds.2;
        kept_is = kept_more c.loop-at.first.items front f _ s.kept_is c.keep.ensures.kept;
        count_le = omega (arith, s.count_le, bounds);
        count_is = omega (arith, s.count_is, length-append front (f ∷ []));
        rest = goes_on (length text) (next_field text) c.args.from c.loop-at.at f.whole.to front f (fields_advance text) next s.rest;
        order = lie_push c.args.from c.loop-at.at front f s.order bounds.0;
        each = c.keep.ensures.each text s.each c.in_ok-field.ensures.parts;
      },
    )

pub returns-clause-some : goal.returns-clause-some
unfolding fields_at
returns-clause-some c =
    let text = c.args.text.now in
    let s = c.loop-at.invariant.1 in
    let done = field_done text c.loop-at.at (sym c.loop-at-test.ensures.value) in
    (c.loop-at.invariant.0, ends (length text) (next_field text) c.args.from c.loop-at.at c.loop-at.invariant.0 done s.rest, s.kept_is, s.count_is, s.order)
