-- Pieces that are joined, and the texts that they make.
use Rattle.std.proofs.Common.{◌≡◌, ℕ, List, [], ◌++◌, refl, ap, ◌∙◌, subst, append_assoc}
use Rattle.std.specs.Prelude.{Result, codes}
use Rattle.std.specs.Fmt.{decimal}
use Rattle.std.proofs.lemmas.List.{append-nil}
use Rattle.msg_edits.specs.declared.writing.TooLong.{TooLong}
use Rattle.sip_scan.specs.declared.field.Kind.TheVariants as kind
use Rattle.sip_msg.specs.declared.message.Message.{Message}
use Rattle.sip_msg.specs.Fields.{first}
use Rattle.outside_ports.specs.declared.port.Addr.{Addr}
use Rattle.sip_build.specs.declared.joined.Joined.{Joined}
use Rattle.sip_build.specs.declared.responses.Request.{Request}
use Rattle.sip_build.specs.declared.responses.ToField.{ToField}
use Rattle.sip_build.specs.Stamp.{stamp}
use Rattle.sip_build.specs.Parts.{part, field_text, edited_vias, routes, uri_of}
use Rattle.sip_build.specs.Reply.{reply_tag, reply_to_field}
use Rattle.sip_build.specs.Hop.{hop_request}
use Rattle.msg_edits.specs.Writing.{IsWritten}
use Rattle.sip_build.specs.Writing.{fields_text, pieces_text, joined_text, response_to, to_text}

-- the pieces of a response
answer_pieces : (sip code gap reason crlf vias from front mark token back call cseq last : List ℕ) → ((sip ++ (code ++ gap)) ++ (reason ++ (crlf ++ []))) ++ (vias ++ (from ++ (front ++ (mark ++ (token ++ (back ++ (call ++ (cseq ++ (last ++ []))))))))) ≡ (sip ++ (code ++ (gap ++ (reason ++ crlf)))) ++ (vias ++ (from ++ ((front ++ (mark ++ (token ++ back))) ++ (call ++ (cseq ++ last)))))
answer_pieces sip code gap reason crlf vias from front mark token back call cseq last = simp (append_assoc, append-nil)

pub answered : (j : Joined) {old new : List ℕ} {result : Result ℕ TooLong} (r : Request) (source : Addr) (code : ℕ) (reason : List ℕ) (to : ToField)
    → IsWritten (joined_text j) old new result
    → pieces_text j.front.now ≡ (codes "SIP/2.0 " ++ (decimal code ++ codes " ")) ++ (reason ++ (codes "\r\n" ++ []))
    → fields_text j ≡ edited_vias r.b.now (stamp r.via.now source) r.fields.now
    → pieces_text j.back.now ≡ field_text r.b.now (first kind.From r.fields.now) ++ (to.front.now ++ (to.mark.now ++ (to.token.now ++ (to.back.now ++ (field_text r.b.now (first kind.CallId r.fields.now) ++ (field_text r.b.now (first kind.CSeq r.fields.now) ++ (codes "Content-Length: 0\r\n\r\n" ++ [])))))))
    → to_text to ≡ reply_to_field r.b.now (first kind.To r.fields.now) r.to code (reply_tag r.b.now r.via.now.branch)
    → IsWritten (response_to r source code reason) old new result
unfolding joined_text response_to
answered j {old} {new} {result} r source code reason to fit front fields back tag =
    let vias = edited_vias r.b.now (stamp r.via.now source) r.fields.now in
    let from = field_text r.b.now (first kind.From r.fields.now) in
    let call = field_text r.b.now (first kind.CallId r.fields.now) in
    let cseq = field_text r.b.now (first kind.CSeq r.fields.now) in
    let joined : joined_text j ≡ ((codes "SIP/2.0 " ++ (decimal code ++ codes " ")) ++ (reason ++ (codes "\r\n" ++ []))) ++ (vias ++ (from ++ (to.front.now ++ (to.mark.now ++ (to.token.now ++ (to.back.now ++ (call ++ (cseq ++ (codes "Content-Length: 0\r\n\r\n" ++ []))))))))) = rw (front, fields, back) refl in
    let pieces = answer_pieces (codes "SIP/2.0 ") (decimal code) (codes " ") reason (codes "\r\n") vias from to.front.now to.mark.now to.token.now to.back.now call cseq (codes "Content-Length: 0\r\n\r\n") in
    let whole = joined ∙ pieces ∙ ap (λ (t : List ℕ). (codes "SIP/2.0 " ++ (decimal code ++ (codes " " ++ (reason ++ codes "\r\n")))) ++ (vias ++ (from ++ (t ++ (call ++ (cseq ++ codes "Content-Length: 0\r\n\r\n")))))) tag in
    subst (λ (t : List ℕ). IsWritten t old new result) whole fit

-- the pieces of an ACK or CANCEL
hop_pieces : (method gap uri version via hops routes from to call cseq number crlf last : List ℕ) → (method ++ (gap ++ (uri ++ (version ++ (via ++ (hops ++ [])))))) ++ (routes ++ (from ++ (to ++ (call ++ ((cseq ++ (number ++ (gap ++ (method ++ crlf)))) ++ (last ++ [])))))) ≡ method ++ (gap ++ (uri ++ (version ++ (via ++ (hops ++ (routes ++ (from ++ (to ++ (call ++ (cseq ++ (number ++ (gap ++ (method ++ (crlf ++ last))))))))))))))
hop_pieces method gap uri version via hops routes from to call cseq number crlf last = simp (append_assoc, append-nil)

pub hopped : (j : Joined) {old new : List ℕ} {result : Result ℕ TooLong} (method b : List ℕ) (m : Message) (to : List ℕ)
    → IsWritten (joined_text j) old new result
    → pieces_text j.front.now ≡ method ++ (codes " " ++ (part b (uri_of m.start) ++ (codes " SIP/2.0\r\nVia: " ++ (part b m.via.whole ++ (codes "\r\nMax-Forwards: 70\r\n" ++ [])))))
    → fields_text j ≡ routes b m.head.fields.items
    → pieces_text j.back.now ≡ field_text b (first kind.From m.head.fields.items) ++ (to ++ (field_text b (first kind.CallId m.head.fields.items) ++ ((codes "CSeq: " ++ (decimal m.cseq.number ++ (codes " " ++ (method ++ codes "\r\n")))) ++ (codes "Content-Length: 0\r\n\r\n" ++ []))))
    → IsWritten (hop_request method b m to) old new result
unfolding joined_text hop_request
hopped j {old} {new} {result} method b m to fit front fields back =
    let rs = routes b m.head.fields.items in
    let from = field_text b (first kind.From m.head.fields.items) in
    let call = field_text b (first kind.CallId m.head.fields.items) in
    let pieces = hop_pieces method (codes " ") (part b (uri_of m.start)) (codes " SIP/2.0\r\nVia: ") (part b m.via.whole) (codes "\r\nMax-Forwards: 70\r\n") rs from to call (codes "CSeq: ") (decimal m.cseq.number) (codes "\r\n") (codes "Content-Length: 0\r\n\r\n") in
    let joined : joined_text j ≡ (method ++ (codes " " ++ (part b (uri_of m.start) ++ (codes " SIP/2.0\r\nVia: " ++ (part b m.via.whole ++ (codes "\r\nMax-Forwards: 70\r\n" ++ [])))))) ++ (rs ++ (from ++ (to ++ (call ++ ((codes "CSeq: " ++ (decimal m.cseq.number ++ (codes " " ++ (method ++ codes "\r\n")))) ++ (codes "Content-Length: 0\r\n\r\n" ++ [])))))) = rw (front, fields, back) refl in
    subst (λ (t : List ℕ). IsWritten t old new result) (joined ∙ pieces) fit
