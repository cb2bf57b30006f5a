use Rattle.std.proofs.Common.{sym, ◌∙◌, ap, Err}
use Rattle.sip_scan.specs.declared.ScanFault.{ScanFault}
use Rattle.sip_msg.proofs.Rows.{begins, bad_header, too_many, never_not_sip, message_found, fault_found, message_lies, start_spelled}
use Rattle.sip_msg.proofs.message.message_into.Goals as goal

pub returns-in-Ok-clause-found : goal.returns-in-Ok-clause-found
returns-in-Ok-clause-found c =
    let b = c.args.b.now in
    let is = begins b c.in-Some.line c.in-Some-start_at.start c.if-b-gt-LONGEST.false (sym c.in-Some.ensures.value) (sym c.in-Some-start_at.ensures.value) in
    let e = c.parts_into.ensures in
    message_found b c.in-Some.line c.in-Some-start_at.start c.scan_behind.new.head c.parts_into.new.m c.parts_into.result is (sym c.in-Ok.ensures.exact) e.none e.head e.start e.parts

pub returns-in-Ok-clause-fault : goal.returns-in-Ok-clause-fault
returns-in-Ok-clause-fault c =
    let b = c.args.b.now in
    let is = begins b c.in-Some.line c.in-Some-start_at.start c.if-b-gt-LONGEST.false (sym c.in-Some.ensures.value) (sym c.in-Some-start_at.ensures.value) in
    fault_found b c.in-Some.line c.in-Some-start_at.start c.scan_behind.new.head c.parts_into.result is (sym c.in-Ok.ensures.exact) c.parts_into.ensures.fault

pub returns-in-Err-NotSip-clause-fault : goal.returns-in-Err-NotSip-clause-fault
returns-in-Err-NotSip-clause-fault c =
    let b = c.args.b.now in
    let is = begins b c.in-Some.line c.in-Some-start_at.start c.if-b-gt-LONGEST.false (sym c.in-Some.ensures.value) (sym c.in-Some-start_at.ensures.value) in
    absurd (never_not_sip b c.in-Some.line c.in-Some-start_at.start is (sym c.in-Err-NotSip.ensures.exact ∙ ap (λ (f : ScanFault). Err f) c.in-Err-NotSip.field-0-is))

pub returns-in-Err-BadHeader-clause-fault : goal.returns-in-Err-BadHeader-clause-fault
returns-in-Err-BadHeader-clause-fault c =
    let b = c.args.b.now in
    let is = begins b c.in-Some.line c.in-Some-start_at.start c.if-b-gt-LONGEST.false (sym c.in-Some.ensures.value) (sym c.in-Some-start_at.ensures.value) in
    bad_header b c.in-Some.line c.in-Some-start_at.start is (sym c.in-Err-BadHeader.ensures.exact ∙ ap (λ (f : ScanFault). Err f) c.in-Err-BadHeader.field-0-is)

pub returns-in-Err-TooManyHeaders-clause-fault : goal.returns-in-Err-TooManyHeaders-clause-fault
returns-in-Err-TooManyHeaders-clause-fault c =
    let b = c.args.b.now in
    let is = begins b c.in-Some.line c.in-Some-start_at.start c.if-b-gt-LONGEST.false (sym c.in-Some.ensures.value) (sym c.in-Some-start_at.ensures.value) in
    too_many b c.in-Some.line c.in-Some-start_at.start is (sym c.in-Err-TooManyHeaders.ensures.exact ∙ ap (λ (f : ScanFault). Err f) c.in-Err-TooManyHeaders.field-0-is)

pub returns-in-Ok-clause-places : goal.returns-in-Ok-clause-places
returns-in-Ok-clause-places c =
    let b = c.args.b.now in
    let is = begins b c.in-Some.line c.in-Some-start_at.start c.if-b-gt-LONGEST.false (sym c.in-Some.ensures.value) (sym c.in-Some-start_at.ensures.value) in
    let e = c.parts_into.ensures in
    message_lies b c.in-Some.line c.in-Some-start_at.start c.scan_behind.new.head c.parts_into.new.m c.parts_into.result is (sym c.in-Ok.ensures.exact) c.in-Ok.ensures.places c.in-Some-start_at.ensures.between e.head e.start e.lie

pub returns-in-Ok-clause-line : goal.returns-in-Ok-clause-line
returns-in-Ok-clause-line c =
    let b = c.args.b.now in
    let is = begins b c.in-Some.line c.in-Some-start_at.start c.if-b-gt-LONGEST.false (sym c.in-Some.ensures.value) (sym c.in-Some-start_at.ensures.value) in
    let e = c.parts_into.ensures in
    start_spelled b c.in-Some.line c.in-Some-start_at.start c.scan_behind.new.head c.parts_into.new.m c.parts_into.result is (sym c.in-Ok.ensures.exact) c.in-Some-start_at.ensures.found e.head e.start
