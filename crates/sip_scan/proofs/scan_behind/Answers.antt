use Rattle.std.proofs.Common.{◌≡◌, ◌+◌, ◌-◌, sym, ◌∙◌, ap, Ok, List, arith}
use Rattle.sip_scan.specs.declared.field.HeaderSpan.{HeaderSpan}
use Rattle.sip_scan.specs.Head.{head}
use Rattle.sip_scan.proofs.Scanned.{bad_line, bad_field, too_many, is_head, kept, start_ends}
use Rattle.sip_scan.proofs.scan_behind.Goals as goal

pub returns-in_default-clause-exact : goal.returns-in_default-clause-exact
returns-in_default-clause-exact c = bad_line c.args.b.now c.args.start c.requires.line (sym c.line_end.ensures.value ∙ c.in_default.is)

pub returns-in_default-fields_at-clause-exact : goal.returns-in_default-fields_at-clause-exact
returns-in_default-fields_at-clause-exact c = bad_field c.args.b.now c.args.start c.in-Some.end c.requires.line (sym c.in-Some.ensures.value) c.in_default-fields_at.ensures.none

pub returns-then-fields-gt128-clause-exact : goal.returns-then-fields-gt128-clause-exact
returns-then-fields-gt128-clause-exact c =
    let some = c.in-Some-fields_at.ensures.some in
    too_many c.args.b.now c.args.start c.in-Some.end some.0 c.in-Some-fields_at.fields.end c.requires.line (sym c.in-Some.ensures.value) some.1 (omega (arith, some.3, c.if-fields-gt128.true))

pub returns-clause-exact : goal.returns-clause-exact
returns-clause-exact c =
    let some = c.in-Some-fields_at.ensures.some in
    let all = kept c.fields_at.new.first.items some.0 c.in-Some-fields_at.fields.count some.2 some.3 c.if-fields-gt128.false in
    ap (λ (items : List HeaderSpan). Ok (head c.args.start items (c.in-Some-fields_at.fields.end + 2))) all ∙ is_head c.args.b.now c.args.start c.in-Some.end some.0 c.in-Some-fields_at.fields.end c.requires.line (sym c.in-Some.ensures.value) some.1 (omega (arith, some.3, c.if-fields-gt128.false))

pub returns-clause-places : goal.returns-clause-places
returns-clause-places c =
    let some = c.in-Some-fields_at.ensures.some in
    let all = kept c.fields_at.new.first.items some.0 c.in-Some-fields_at.fields.count some.2 some.3 c.if-fields-gt128.false in
    let to = start_ends c.args.b.now c.args.start c.in-Some.end c.requires.line (sym c.in-Some.ensures.value) in
    let body : c.in-Some-fields_at.fields.end + 2 - 2 ≡ c.in-Some-fields_at.fields.end = omega arith in
    let bounds = c.in-Some-fields_at.ensures.bounds in
    record {
      start = c.requires.within;
      fields = rw (body, all, ← to) some.4;
      body_low = omega (arith, bounds, to);
      body_high = omega (arith, bounds);
      each = c.in-Some-fields_at.ensures.each;
    }
