-- The request that the proxy forwards (RFC 3261, section 16.6).
use Rattle.std.specs.Prelude.{ℕ, ◌+◌, ◌-◌, List, [], ◌∷◌, ◌++◌, take, Option, Some, None, codes}
use Rattle.std.specs.Fmt.{decimal}
use Rattle.sip_words.specs.declared.Span.{Span}
use Rattle.sip_words.specs.declared.bytes.Class.TheVariants.{Digit}
use Rattle.sip_words.specs.Spans.{span}
use Rattle.sip_words.specs.Words.{run_end, lws_end}
use Rattle.sip_scan.specs.declared.field.HeaderSpan.{HeaderSpan}
use Rattle.sip_scan.specs.declared.field.Kind.TheVariants as kind
use Rattle.sip_msg.specs.declared.message.Message.{Message}
use Rattle.sip_msg.specs.Fields.{first}
use Rattle.msg_edits.specs.declared.parts.Edit.{Edit}
use Rattle.msg_edits.specs.declared.parts.Edit.TheVariants.{Cut, Insert}
use Rattle.msg_edits.specs.Edited.{edited}
use Rattle.outside_ports.specs.declared.port.Addr.{Addr}
use Rattle.numerals.specs.Numerals.{socket}
use Rattle.sip_build.specs.Stamp.{stamp}
use Rattle.sip_build.specs.Parts.{uri_of, place_of}

-- a text in the place of a span
abbrev pub replaced : Span → List ℕ → List Edit
replaced at text = Cut at ∷ Insert at.from text ∷ []

-- Via: SIP/2.0/UDP IP:PORT;branch=B
abbrev pub via_line : Addr → List ℕ → List ℕ
via_line listen branch =
    codes "Via: SIP/2.0/UDP " ++ (socket listen ++ (codes ";branch=" ++ (branch ++ codes "\r\n")))

-- before the first Via field
abbrev pub with_via : Message → List ℕ → List Edit
with_via m line = Insert (place_of (first kind.Via m.head.fields.items) (m.head.start.to + 2)) line ∷ []

-- the digits of a number that LWS may stand round
unfoldable pub number_in : List ℕ → ℕ → Span
number_in text i = span (lws_end text i) (run_end Digit text (lws_end text i))

abbrev pub one_less : Option ℕ → ℕ
one_less None = 0
one_less (Some hops) = hops - 1

-- Max-Forwards: the number replaced by one less; or a field inserted before the empty line, where it is absent
abbrev pub with_hops : List ℕ → Option HeaderSpan → Option ℕ → ℕ → ℕ → List Edit
with_hops b (Some f) hops body absent = replaced (number_in (take f.value.to b) f.value.from) (decimal (one_less hops))
with_hops b None hops body absent = Insert (body - 2) (codes "Max-Forwards: " ++ (decimal absent ++ codes "\r\n")) ∷ []

-- the edits that the proxy makes in a request that it forwards, before those of the script
unfoldable pub forwarding : List ℕ → Message → Addr → List ℕ → Addr → List ℕ → ℕ → List Edit
forwarding b m source uri listen branch absent =
    stamp m.via source
    ++ (replaced (uri_of m.start) uri
    ++ (with_via m (via_line listen branch)
    ++ with_hops b (first kind.MaxForwards m.head.fields.items) m.max_forwards m.head.body absent))

unfoldable pub forwarded_text : List ℕ → Message → Addr → List Edit → List ℕ → Addr → List ℕ → ℕ → List ℕ
forwarded_text b m source edits uri listen branch absent =
    edited (take m.end b) (forwarding b m source uri listen branch absent ++ edits)
