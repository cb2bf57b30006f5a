-- The requests that the proxy makes for a request that it sent: ACK for a response other than 2xx (RFC 3261, section 17.1.1.3), and CANCEL (section 9.1).
use Rattle.std.specs.Prelude.{ℕ, List, ◌++◌, codes}
use Rattle.std.specs.Fmt.{decimal}
use Rattle.sip_scan.specs.declared.field.Kind.TheVariants as kind
use Rattle.sip_msg.specs.declared.message.Message.{Message}
use Rattle.sip_msg.specs.Fields.{first}
use Rattle.sip_build.specs.Parts.{part, field_text, routes, uri_of}

-- start line with the URI of the sent request; its top Via value; Max-Forwards; its Route fields; its From; a To; its Call-ID; CSeq with its number; Content-Length: 0; the empty line
unfoldable pub hop_request : List ℕ → List ℕ → Message → List ℕ → List ℕ
hop_request method b m to =
    method ++ (codes " " ++ (part b (uri_of m.start) ++ (codes " SIP/2.0\r\n"
    ++ (codes "Via: " ++ (part b m.via.whole ++ (codes "\r\n"
    ++ (codes "Max-Forwards: 70\r\n"
    ++ (routes b m.head.fields.items
    ++ (field_text b (first kind.From m.head.fields.items)
    ++ (to
    ++ (field_text b (first kind.CallId m.head.fields.items)
    ++ (codes "CSeq: " ++ (decimal m.cseq.number ++ (codes " " ++ (method ++ (codes "\r\n"
    ++ codes "Content-Length: 0\r\n\r\n"))))))))))))))))

-- To is that of the response
unfoldable pub ack_text : List ℕ → Message → List ℕ → Message → List ℕ
ack_text b m response am = hop_request (codes "ACK") b m (field_text response (first kind.To am.head.fields.items))

-- To is that of the request
unfoldable pub cancel_text : List ℕ → Message → List ℕ
cancel_text b m = hop_request (codes "CANCEL") b m (field_text b (first kind.To m.head.fields.items))
