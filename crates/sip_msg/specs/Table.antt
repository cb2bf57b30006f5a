-- What a datagram is: a message, or the first fault.
use Rattle.std.specs.Prelude.{◌≡◌, ℕ, ◌+◌, ◌-◌, Bool, false, cond, List, [], ◌∷◌, length, Option, Some, None, nat_lt, is_none, option_map}
use Rattle.sip_words.specs.Words.{◌>>=◌}
use Rattle.sip_scan.specs.declared.Head.{Head}
use Rattle.sip_scan.specs.declared.field.HeaderSpan.{HeaderSpan}
use Rattle.sip_scan.specs.declared.field.Kind.TheVariants as kind
use Rattle.sip_scan.specs.Lines.{start_line}
use Rattle.sip_scan.specs.Head.{head_behind}
use Rattle.sip_msg.specs.declared.message.Message.{Message}
use Rattle.sip_msg.specs.declared.message.MsgFault.{MsgFault}
use Rattle.sip_msg.specs.declared.message.MsgFault.TheVariants.{NotSip, BadStartLine, BadHeader, Missing, Repeated, BadField, ShortBody, TooManyHeaders, TooLong}
use Rattle.sip_msg.specs.declared.start.Start.{Start}
use Rattle.sip_msg.specs.declared.values.Values.{Values}
use Rattle.sip_msg.specs.Start.{start_of}
use Rattle.sip_msg.specs.Fields.{is_missing, is_repeated}
use Rattle.sip_msg.specs.Values.{via_of, name_addr_of, call_id_of, cseq_of, max_forwards_of, content_length_of, values_of}

-- the head, with all its fields, if each one reads
unfoldable pub head_of : List ℕ → Option Head
head_of b = do
  line ← start_line b
  head_behind b line

-- its fields; none where it doesn't read
abbrev pub fields_in : Option Head → List HeaderSpan
fields_in None = []
fields_in (Some h) = h.fields.items

abbrev pub fields_of : List ℕ → List HeaderSpan
fields_of b = fields_in (head_of b)

-- the values of a datagram whose start line and head read
abbrev pub values_under : List ℕ → Option Start → Option Head → Option Values
values_under b start head = do
  s ← start
  h ← head
  values_of b s h.fields.items

-- fewer bytes follow the head than Content-Length says
abbrev pub announced : Option Values → Option ℕ
announced None = None
announced (Some v) = v.content_length

abbrev pub is_above : ℕ → Option ℕ → Bool
is_above left None = false
is_above left (Some n) = nat_lt left n

abbrev pub left_in : List ℕ → Option Head → ℕ
left_in b None = 0
left_in b (Some h) = length b - h.body

-- the faults in the order in which they are tried, each with its test
abbrev pub table : List ℕ → List (MsgFault × Bool)
table b =
    (TooLong, nat_lt 8192 (length b)) ∷
    (NotSip, is_none (start_line b)) ∷
    (BadStartLine, is_none (start_of b)) ∷
    (BadHeader, is_none (head_of b)) ∷
    (TooManyHeaders, nat_lt 128 (length (fields_of b))) ∷
    (Missing, is_missing (fields_of b)) ∷
    (Repeated, is_repeated (fields_of b)) ∷
    (BadField, is_none (values_under b (start_of b) (head_of b))) ∷
    (ShortBody, is_above (left_in b (head_of b)) (announced (values_under b (start_of b) (head_of b)))) ∷ []

-- the first row that holds
abbrev pub first_row : List (MsgFault × Bool) → Option MsgFault
first_row [] = None
first_row (r ∷ rows) = cond r.1 (Some r.0) (first_row rows)

-- the first fault
unfoldable pub fault_of : List ℕ → Option MsgFault
fault_of b = first_row (table b)

-- the last four rows, for a datagram that has this start line and head
abbrev pub later_rows : List ℕ → Start → Head → List (MsgFault × Bool)
later_rows b start h =
    (Missing, is_missing h.fields.items) ∷
    (Repeated, is_repeated h.fields.items) ∷
    (BadField, is_none (values_of b start h.fields.items)) ∷
    (ShortBody, is_above (length b - h.body) (announced (values_of b start h.fields.items))) ∷ []

-- where a message ends: behind as many bytes of body as Content-Length says, or with the datagram
abbrev pub end_behind : List ℕ → ℕ → Option ℕ → ℕ
end_behind b body None = length b
end_behind b body (Some n) = body + n

abbrev pub end_of : List ℕ → Head → Option ℕ
end_of b h = option_map (end_behind b h.body) (content_length_of b h.fields.items)

-- the parts of a message behind its head, each by the grammar and at its place
pub record HasMessageParts (b : List ℕ) (m : Message) : Type 0 where
  pub via : via_of b m.head.fields.items ≡ Some m.via
  pub from : name_addr_of kind.From b m.head.fields.items ≡ Some m.from
  pub to : name_addr_of kind.To b m.head.fields.items ≡ Some m.to
  pub call_id : call_id_of b m.head.fields.items ≡ Some m.call_id
  pub cseq : cseq_of b m.head.fields.items ≡ Some m.cseq
  pub max_forwards : max_forwards_of b m.head.fields.items ≡ Some m.max_forwards
  pub end : end_of b m.head ≡ Some m.end

-- the datagram is this message, each span being the place of its part
pub record Reads (b : List ℕ) (m : Message) : Type 0 where
  pub no_fault : fault_of b ≡ None
  pub head : head_of b ≡ Some m.head
  pub start : start_of b ≡ Some m.start
  pub parts : HasMessageParts b m
