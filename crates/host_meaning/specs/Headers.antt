-- Functions that look at a message's method, tags and header fields, and that edit its fields.
use Rattle.std.specs.Prelude.{ℕ, ◌+◌, ◌-◌, ◌==◌, pos, negsuc, Bool, true, false, not, ◌&&◌, List, [], ◌∷◌, ◌++◌, length, map, Option, Some, None, is_some, max, min, nat_lt, if◌then◌else◌, codes}
use Rattle.std.specs.List.{find, filter, list_any, last_or}
use Rattle.std.specs.Str.{bytes_eq}
use Rattle.numerals.specs.Numerals.{socket}
use Rattle.outside_ports.specs.declared.port.Addr.{Addr}
use Rattle.pv_values.specs.declared.block.BlockKind.{BlockKind}
use Rattle.pv_values.specs.declared.block.BlockKind.TheVariants.{Request, Branch, Failure, Reply, Event}
use Rattle.sip_words.specs.declared.Span.{Span}
use Rattle.sip_scan.specs.declared.field.HeaderSpan.{HeaderSpan}
use Rattle.sip_scan.specs.declared.field.Kind.TheVariants as kind
use Rattle.sip_scan.specs.Field.{fields_at}
use Rattle.sip_msg.specs.declared.message.Message.{Message}
use Rattle.sip_msg.specs.Fields.{first, is_of}
use Rattle.msg_edits.specs.declared.parts.Edit.{Edit}
use Rattle.msg_edits.specs.declared.parts.Edit.TheVariants.{Cut, Insert}
use Rattle.sip_build.specs.Relayed.{relayed_text}
use Rattle.pv_table.specs.UriParts.{bytes_at}
use Rattle.pv_table.specs.Fields.{is_field_named}
use Rattle.host_meaning.specs.Run.{Received, Around, RunState, RowCourse, code, is_readable, with_facts}

-- the most edits that a message can have
abbrev pub most_edits : ℕ
most_edits = 64

-- the facts with more edits
abbrev pub with_edits : RunState → List Edit → RunState
with_edits s more = with_facts s (record s.facts { edits = s.facts.edits ++ more })

-- the two spans share a byte
abbrev pub shares_byte : Span → Span → Bool
shares_byte a b = nat_lt (max a.from b.from) (min a.to b.to)

-- the edit is a cut that shares a byte with this span
abbrev pub meets : Span → Edit → Bool
meets at (Cut earlier) = shares_byte earlier at
meets at (Insert place text) = false

-- one more edit fits where there are fewer than 64, and where no earlier cut shares a byte with it
abbrev pub fits : List Edit → Edit → Bool
fits edits (Cut at) = nat_lt (length edits) most_edits && not (list_any (meets at) edits)
fits edits (Insert place text) = nat_lt (length edits) most_edits

-- more edits fit where each of them does, one after another
abbrev pub all_fit : List Edit → List Edit → Bool
all_fit edits [] = true
all_fit edits (e ∷ more) = fits edits e && all_fit (edits ++ e ∷ []) more

-- 1 or -1
abbrev pub yes_or_no : Bool → RunState → RowCourse
yes_or_no b s = if b then code (pos 1) s else code (negsuc 0) s

-- a byte before the first of some texts
abbrev pub before_first : ℕ → List (List ℕ) → List (List ℕ)
before_first b [] = (b ∷ []) ∷ []
before_first b (t ∷ ts) = (b ∷ t) ∷ ts

-- the texts between the bars of `A|B`
abbrev pub between_bars : List ℕ → List (List ℕ)
between_bars [] = [] ∷ []
between_bars (b ∷ bs) = if bytes_eq (b ∷ []) (codes "|") then [] ∷ between_bars bs else before_first b (between_bars bs)

-- is_method("A|B"): the CSeq method is one of them
abbrev pub is_method : Received → List ℕ → RunState → RowCourse
is_method r methods s = yes_or_no (list_any (bytes_eq (bytes_at r.bytes r.message.cseq.method)) (between_bars methods)) s

-- has_totag()
abbrev pub has_totag : Received → RunState → RowCourse
has_totag r s = yes_or_no (is_some r.message.to.tag) s

-- is_present_hf("name"): the message as it was received has such a field
abbrev pub is_present_hf : Received → List ℕ → RunState → RowCourse
is_present_hf r name s = yes_or_no (is_some (find (is_field_named r.bytes name) r.message.head.fields.items)) s

-- the span was cut
abbrev pub is_cut_at : Span → Edit → Bool
is_cut_at at (Cut span) = (span.from == at.from) && (span.to == at.to)
is_cut_at at (Insert place text) = false

-- the field has this name and isn't cut yet
abbrev pub is_left : List ℕ → List ℕ → List Edit → HeaderSpan → Bool
is_left b name edits f = is_field_named b name f && not (list_any (is_cut_at f.whole) edits)

abbrev pub left_named : Received → List ℕ → List Edit → List HeaderSpan
left_named r name edits = filter (is_left r.bytes name edits) r.message.head.fields.items

-- the cuts of whole fields
abbrev pub field_cuts : List HeaderSpan → List Edit
field_cuts fields = map (λ f. Cut f.whole) fields

-- -1 without such a field; -2 where their cuts don't all fit
abbrev pub fields_removed : List HeaderSpan → RunState → RowCourse
fields_removed fields s =
    if length fields == 0 then code (negsuc 0) s
    else if not (all_fit s.facts.edits (field_cuts fields)) then code (negsuc 1) s
    else code (pos 1) (with_edits s (field_cuts fields))

-- remove_hf("name")
abbrev pub remove_hf : Received → List ℕ → RunState → RowCourse
remove_hf r name s = fields_removed (left_named r name s.facts.edits) s

-- one header field or more, each with its continuation lines, and nothing else
abbrev pub ends_fields : ℕ → Option (List HeaderSpan × ℕ) → Bool
ends_fields len None = false
ends_fields len (Some (fields, end)) = (end == len) && nat_lt 0 (length fields)

abbrev pub is_header_text : List ℕ → Bool
is_header_text text = ends_fields (length text) (fields_at (text ++ codes "\r\n") 0)

-- a text before the empty line
abbrev pub before_empty_line : Message → List ℕ → Edit
before_empty_line m text = Insert (m.head.body - 2) text

-- in a reply block the response with these edits has to fit and to read
abbrev pub fits_reply : BlockKind → Received → List Edit → Bool
fits_reply Request r edits = true
fits_reply Branch r edits = true
fits_reply Failure r edits = true
fits_reply Reply r edits = is_readable (relayed_text r.bytes r.message edits)
fits_reply Event r edits = true

-- append_hf(text): -1 where it is no header fields; -2 at 64 edits; -3 where the response in a reply block wouldn't fit or read
abbrev pub append_hf : Received → List ℕ → RunState → RowCourse
append_hf r text s =
    let edit = before_empty_line r.message text in
    if not (is_header_text text) then code (negsuc 0) s
    else if not (fits s.facts.edits edit) then code (negsuc 1) s
    else if not (fits_reply s.facts.kind r (s.facts.edits ++ edit ∷ [])) then code (negsuc 2) s
    else code (pos 1) (with_edits s (edit ∷ []))

-- mf_process_maxfwd_header(n): 1 present above 0, 2 absent, -1 zero; n is what a request without the field is sent with
abbrev pub hops_code : Option ℕ → RunState → RowCourse
hops_code None s = code (pos 2) s
hops_code (Some hops) s = yes_or_no (nat_lt 0 hops) s

abbrev pub mf_process_maxfwd_header : Received → ℕ → RunState → RowCourse
mf_process_maxfwd_header r n s = hops_code r.message.max_forwards (with_facts s (record s.facts { absent_hops = Some n }))

-- Record-Route: <sip:IP:PORT;lr>
abbrev pub record_route_line : Addr → List ℕ
record_route_line listen = codes "Record-Route: <sip:" ++ (socket listen ++ codes ";lr>\r\n")

-- before the first Record-Route field, else behind the last Via field
abbrev pub end_of_field : Option HeaderSpan → ℕ
end_of_field None = 0
end_of_field (Some f) = f.whole.to

abbrev pub begin_or : Option HeaderSpan → ℕ → ℕ
begin_or None place = place
begin_or (Some f) place = f.whole.from

abbrev pub record_route_place : List HeaderSpan → ℕ
record_route_place fields = begin_or (first kind.RecordRoute fields) (end_of_field (last_or None (filter (is_of kind.Via) fields)))

-- record_route(): -1 but for the first time; -2 at 64 edits
abbrev pub record_route : Around → Received → RunState → RowCourse
record_route a r s =
    let marked = with_facts s (record s.facts { has_record_route = true }) in
    let edit = Insert (record_route_place r.message.head.fields.items) (record_route_line a.settings.listen) in
    if s.facts.has_record_route then code (negsuc 0) s
    else if not (fits s.facts.edits edit) then code (negsuc 1) marked
    else code (pos 1) (with_edits marked (edit ∷ []))
