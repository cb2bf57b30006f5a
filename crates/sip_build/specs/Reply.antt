-- The response that the proxy makes to a request (RFC 3261, section 8.2.6), and to a malformed one.
use Rattle.std.specs.Prelude.{ℕ, ◌==◌, Bool, not, List, [], ◌++◌, drop, Option, Some, None, is_none, if◌then◌else◌, codes, slice_range, nat_eq}
use Rattle.std.specs.List.{starts_with}
use Rattle.std.specs.Fmt.{decimal}
use Rattle.sip_words.specs.Bytes.{◌and◌}
use Rattle.sip_words.specs.declared.Span.{Span}
use Rattle.sip_fields.specs.declared.via.Via.{Via}
use Rattle.sip_fields.specs.declared.name_addr.NameAddr.{NameAddr}
use Rattle.sip_scan.specs.declared.field.HeaderSpan.{HeaderSpan}
use Rattle.sip_scan.specs.declared.field.Kind.TheVariants as kind
use Rattle.sip_msg.specs.declared.basis.Basis.{Basis}
use Rattle.sip_msg.specs.declared.message.Message.{Message}
use Rattle.sip_msg.specs.Fields.{first}
use Rattle.sip_msg.specs.Values.{name_addr_of}
use Rattle.outside_ports.specs.declared.port.Addr.{Addr}
use Rattle.sip_build.specs.Stamp.{stamp}
use Rattle.sip_build.specs.Parts.{part, field_text, edited_vias}

-- SIP/2.0 CODE REASON
abbrev pub status_line : ℕ → List ℕ → List ℕ
status_line code reason = codes "SIP/2.0 " ++ (decimal code ++ (codes " " ++ (reason ++ codes "\r\n")))

abbrev pub without_cookie : List ℕ → List ℕ
without_cookie branch = if starts_with nat_eq branch (codes "z9hG4bK") then drop 7 branch else branch

-- the tag that a reply gives to To: rt, and the top branch without its cookie
abbrev pub reply_tag : List ℕ → Option Span → List ℕ
reply_tag b None = codes "rt"
reply_tag b (Some branch) = codes "rt" ++ without_cookie (part b branch)

-- a reply other than 100 gives a tag to a To that has none
abbrev pub gives_tag : ℕ → NameAddr → Bool
gives_tag code to = not (code == 100) and is_none to.tag

-- To with the tag at the end of its value
abbrev pub tagged : List ℕ → HeaderSpan → NameAddr → List ℕ → List ℕ
tagged b f to tag = slice_range b f.whole.from to.whole.to ++ (codes ";tag=" ++ (tag ++ slice_range b to.whole.to f.whole.to))

-- the field To in a reply; a To that doesn't read is given no tag
abbrev pub reply_to_field : List ℕ → Option HeaderSpan → Option NameAddr → ℕ → List ℕ → List ℕ
reply_to_field b None to code tag = []
reply_to_field b (Some f) None code tag = part b f.whole
reply_to_field b (Some f) (Some to) code tag = if gives_tag code to then tagged b f to tag else part b f.whole

-- the status line; all Via fields of the stamped request; From; To; Call-ID; CSeq; Content-Length: 0; the empty line
abbrev pub answer : List ℕ → List HeaderSpan → Via → Option NameAddr → Addr → ℕ → List ℕ → List ℕ
answer b fields via to source code reason =
    status_line code reason
    ++ (edited_vias b (stamp via source) fields
    ++ (field_text b (first kind.From fields)
    ++ (reply_to_field b (first kind.To fields) to code (reply_tag b via.branch)
    ++ (field_text b (first kind.CallId fields)
    ++ (field_text b (first kind.CSeq fields)
    ++ codes "Content-Length: 0\r\n\r\n")))))

-- the reply to a request
unfoldable pub reply_text : List ℕ → Message → Addr → ℕ → List ℕ → List ℕ
reply_text b m source code reason = answer b m.head.fields.items m.via (Some m.to) source code reason

-- the reply to a malformed request: the same, with those of the fields that are present
unfoldable pub basis_reply_text : List ℕ → Basis → Addr → ℕ → List ℕ → List ℕ
basis_reply_text b basis source code reason =
    answer b basis.head.fields.items basis.via (name_addr_of kind.To b basis.head.fields.items) source code reason
