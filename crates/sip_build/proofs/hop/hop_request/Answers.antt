use Rattle.std.proofs.Common.{◌≡◌, ◌++◌, ◌∙◌, refl}
use Rattle.std.specs.Prelude.{codes}
use Rattle.std.specs.Fmt.{decimal}
use Rattle.sip_build.proofs.SameTexts.{routes_are}
use Rattle.sip_build.proofs.Joining.{hopped}
use Rattle.sip_build.proofs.hop.hop_request.Goals as goal

pub returns : goal.returns
returns c =
    let b = c.args.b.now in
    let m = c.args.m.now in
    let cseq : c.as_bytes-2.result.now ≡ codes "CSeq: " ++ (decimal m.cseq.number ++ (codes " " ++ (c.args.method.now ++ codes "\r\n"))) = c.as_bytes-2.ensures.value ∙ c.as_str.ensures.value ∙ c.cseq_text-cseq.ensures in
    hopped _ c.args.method.now b m c.args.to.now c.fit.ensures (rw (c.as_bytes.ensures.value, c.uri_of-uri.ensures) refl) (rw c.as_slice-fields.ensures.value (routes_are b m.head.fields.items)) (rw (c.field_text.ensures, c.field_text-2.ensures, c.as_slice-fields.ensures.value, cseq) refl)
