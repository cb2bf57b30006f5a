use Rattle.std.proofs.Common.{◌≡◌, ◌++◌, ◌∙◌, refl}
use Rattle.std.specs.Prelude.{codes}
use Rattle.std.specs.Fmt.{decimal}
use Rattle.std.specs.List.{filter}
use Rattle.sip_scan.specs.declared.field.Kind.TheVariants as kind
use Rattle.sip_msg.specs.Fields.{is_of}
use Rattle.sip_build.specs.Stamp.{stamp}
use Rattle.sip_build.specs.Writing.{edits_of_stamp}
use Rattle.sip_build.proofs.SameTexts.{same_fields}
use Rattle.sip_build.proofs.Joining.{answered}
use Rattle.sip_build.proofs.responses.Request.write.Goals as goal

pub returns : goal.returns
returns c =
    let r = c.args.self.now in
    let status : c.as_bytes.result.now ≡ codes "SIP/2.0 " ++ (decimal c.args.code ++ codes " ") = c.as_bytes.ensures.value ∙ c.as_str.ensures.value ∙ c.status_front-status.ensures in
    let fields = same_fields r.b.now (edits_of_stamp c.of-stamp.result) (stamp r.via.now c.args.from) c.of-stamp.ensures (filter (is_of kind.Via) r.fields.now) in
    answered _ r c.args.from c.args.code c.args.reason.now c.to_field-to.result c.fit.ensures (rw status refl) (rw c.changes.ensures fields) (rw (c.field_text.ensures, c.field_text-2.ensures, c.field_text-3.ensures) refl) c.to_field-to.ensures
