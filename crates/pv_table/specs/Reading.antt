-- What each variable reads: one row a variable.
use Rattle.std.specs.Prelude.{ℕ, pos, ◌-◌, List, Option, Some, None, if◌then◌else◌, unwrap_or, codes}
use Rattle.numerals.specs.Numerals.{dotted}
use Rattle.pv_values.specs.declared.block.BlockKind.{BlockKind}
use Rattle.pv_values.specs.declared.block.BlockKind.TheVariants.{Request, Branch, Failure, Reply, Event}
use Rattle.pv_values.specs.declared.value.Val.{Val}
use Rattle.pv_values.specs.declared.value.Val.TheVariants.{Null, Int, Text}
use Rattle.pv_values.specs.declared.variable.PvUse.{PvUse}
use Rattle.pv_values.specs.declared.variable.PvUse.TheVariants as pv
use Rattle.pv_values.specs.Values.{kept}
use Rattle.sip_words.specs.declared.Span.{Span}
use Rattle.sip_words.specs.Words.{stands}
use Rattle.sip_fields.specs.declared.uri.Uri.{Uri}
use Rattle.sip_fields.specs.Uri.{uri_at}
use Rattle.sip_msg.specs.declared.message.Message.{Message}
use Rattle.sip_msg.specs.declared.start.Start.{Start}
use Rattle.sip_msg.specs.declared.start.Start.TheVariants as start
use Rattle.cfg_tree.specs.Transformations.{user_in, host_in, by_scheme, part_or_null}
use Rattle.pv_table.specs.declared.facts.Facts.{Facts}
use Rattle.pv_table.specs.Avps.{newest}
use Rattle.pv_table.specs.Fields.{field_value}
use Rattle.pv_table.specs.UriParts.{bytes_at}

-- what is made of a text, where there is one; Null without it
abbrev pub of_text : (List ℕ → Val) → Option (List ℕ) → Val
of_text f None = Null
of_text f (Some text) = f text

-- the user, the host and the port of a text, which reads as a `sip` or `sips` URI; Null of any other text
abbrev pub user_of : List ℕ → Val
user_of text = user_in text (uri_at text 0)

abbrev pub host_of : List ℕ → Val
host_of text = host_in text (uri_at text 0)

-- the port of a URI without one, also of `sips` (RFC 3261, section 19.1.2, has 5061 there)
abbrev pub default_port : ℕ
default_port = 5060

abbrev pub port_in : Option Uri → Val
port_in None = Null
port_in (Some uri) = by_scheme uri.scheme (Int (pos (unwrap_or uri.port default_port)))

abbrev pub port_of : List ℕ → Val
port_of text = port_in (uri_at text 0)

-- the target URI, which a reply block and an event block don't have
abbrev pub target_in : BlockKind → List ℕ → Option (List ℕ)
target_in Request uri = Some uri
target_in Branch uri = Some uri
target_in Failure uri = Some uri
target_in Reply uri = None
target_in Event uri = None

abbrev pub target_of : Facts → Option (List ℕ)
target_of f = target_in f.kind f.uri

-- the code and the reason of a response; a reason stands behind a SP, and may be empty
abbrev pub code_of : Start → Val
code_of (start.Request method uri) = Null
code_of (start.Status code reason) = Int (pos code)

abbrev pub reason_of : List ℕ → Start → Val
reason_of b (start.Request method uri) = Null
reason_of b (start.Status code reason) = if stands 32 b (reason.from - 1) then Text (bytes_at b reason) else Null

-- the slot of the last suspension, and its label
abbrev pub slot_of : ℕ → Option ℕ → Val
slot_of slot None = Null
slot_of slot (Some label) = Int (pos slot)

abbrev pub label_of : Option ℕ → Val
label_of None = Null
label_of (Some label) = kept (pos label)

-- what a variable reads in this message, whose bytes are b, with these facts
abbrev pub value : List ℕ → Message → Facts → PvUse → Val
value b m f pv.RequestUri = of_text Text (target_of f)
value b m f pv.RequestUser = of_text user_of (target_of f)
value b m f pv.RequestHost = of_text host_of (target_of f)
value b m f pv.RequestPort = of_text port_of (target_of f)
value b m f pv.DestinationUri = of_text Text f.destination
value b m f pv.FromUri = Text (bytes_at b m.from.uri)
value b m f pv.FromUser = user_of (bytes_at b m.from.uri)
value b m f pv.FromHost = host_of (bytes_at b m.from.uri)
value b m f pv.FromTag = part_or_null b m.from.tag
value b m f pv.ToUri = Text (bytes_at b m.to.uri)
value b m f pv.ToUser = user_of (bytes_at b m.to.uri)
value b m f pv.ToHost = host_of (bytes_at b m.to.uri)
value b m f pv.ToTag = part_or_null b m.to.tag
value b m f pv.CallId = Text (bytes_at b m.call_id)
value b m f pv.CseqNumber = Int (pos m.cseq.number)
value b m f pv.CseqMethod = Text (bytes_at b m.cseq.method)
value b m f pv.SourceAddress = Text (dotted f.source.ip)
value b m f pv.SourcePort = Int (pos f.source.port)
value b m f pv.ReplyCode = code_of m.start
value b m f pv.ReplyReason = reason_of b m.start
value b m f pv.UserAgent = of_text Text (field_value b m (codes "User-Agent"))
value b m f (pv.Header name) = of_text Text (field_value b m name)
value b m f (pv.Avp name) = newest name f.avps
value b m f pv.IdIndex = slot_of f.slot f.label
value b m f pv.IdLabel = label_of f.label
value b m f pv.Null = Null
-- the items of tables, and whether the target is this proxy, aren't read here
value b m f (pv.Item table key) = Null
value b m f (pv.ItemSeconds table key) = Null
value b m f (pv.ItemIncrement table key) = Null
value b m f (pv.ItemDecrement table key) = Null
value b m f pv.Myself = Null
