-- Functions that give a request its targets and send it on: append_branch() and t_relay() (RFC 3261, sections 16.5 and 16.6).
use Rattle.std.specs.Prelude.{ℕ, zero, suc, ◌+◌, ◌-◌, ◌*◌, ◌==◌, pos, negsuc, Bool, true, false, not, ◌&&◌, ◌||◌, List, [], ◌∷◌, ◌++◌, length, Option, Some, None, is_none, is_some, nat_le, nat_lt, unwrap_or, if◌then◌else◌, codes}
use Rattle.std.specs.List.{find, list_any}
use Rattle.std.specs.Str.{str_eq_ignore_ascii_case}
use Rattle.dialogue.specs.Course.{Ends, Asks}
use Rattle.outside_ports.specs.declared.port.Addr.{Addr}
use Rattle.pv_values.specs.declared.value.Val.{Val}
use Rattle.pv_values.specs.Values.{text_of}
use Rattle.sip_fields.specs.declared.host.Host.{Host}
use Rattle.sip_fields.specs.declared.host.Host.TheVariants.{V4, Name}
use Rattle.sip_fields.specs.declared.uri.Uri.{Uri}
use Rattle.sip_fields.specs.declared.uri.Scheme as scheme
use Rattle.sip_fields.specs.declared.uri.Scheme.TheVariants.{Sip, Sips, Other}
use Rattle.sip_fields.specs.Uri.{uri_at}
use Rattle.sip_keys.specs.Branches.{branch_text}
use Rattle.sip_build.specs.Forwarded.{forwarded_text}
use Rattle.sip_build.specs.Stateless.{stateless_ack_text}
use Rattle.pv_table.specs.UriParts.{bytes_at}
use Rattle.pv_table.specs.Reading.{default_port}
use Rattle.pv_table.specs.declared.facts.Facts.{Facts}
use Rattle.pv_table.specs.declared.facts.Response.{Response}
use Rattle.pv_table.specs.declared.facts.Target.{Target}
use Rattle.pv_table.specs.declared.facts.Relay.{Relay}
use Rattle.pv_table.specs.declared.facts.Outcome.TheVariants.{Relayed}
use Rattle.host_meaning.specs.declared.ask.Asked.TheVariants as ask
use Rattle.host_meaning.specs.declared.ask.Heard.{Heard}
use Rattle.host_meaning.specs.declared.ask.Heard.TheVariants as heard
use Rattle.host_meaning.specs.declared.ask.JobOrder.TheVariants as order
use Rattle.host_meaning.specs.declared.settings.HostAddress.{HostAddress}
use Rattle.host_meaning.specs.Run.{Received, Around, RunState, RowCourse, RowEnd, Lacks, code, is_readable, with_facts}
use Rattle.host_meaning.specs.Responses.{is_undecided, is_ack}
use Rattle.host_meaning.specs.Transactions.{is_cancel, with_transaction, with_response, with_final_response, with_trying}

-- ---- destinations

-- a byte that the uri of a start line can't have: SP, DEL, and those below SP
abbrev pub is_unfit : ℕ → Bool
is_unfit b = nat_le b 32 || (b == 127)

-- the first entry of a name counts, and case is ignored
abbrev pub is_host_named : List ℕ → HostAddress → Bool
is_host_named name h = str_eq_ignore_ascii_case name h.name

abbrev pub table_address : Option HostAddress → Option ℕ → Option Addr
table_address None port = None
table_address (Some h) port = Some (record { ip = h.address.ip; port = unwrap_or port h.address.port })

-- the host's address in numbers, or in the table; the port is the URI's, else the table's, else 5060
abbrev pub host_address : List HostAddress → List ℕ → Host → Option ℕ → Option Addr
host_address hosts name (V4 ip) port = Some (record { ip = ip; port = unwrap_or port default_port })
host_address hosts name Name port = table_address (find (is_host_named name) hosts) port

-- of `sip` alone
abbrev pub by_sip_alone : scheme.Scheme → Option Addr → Option Addr
by_sip_alone Sip at = at
by_sip_alone Sips at = None
by_sip_alone Other at = None

abbrev pub uri_address : List HostAddress → List ℕ → Option Uri → Option Addr
uri_address hosts text None = None
uri_address hosts text (Some u) = by_sip_alone u.scheme (host_address hosts (bytes_at text u.host_at) u.host u.port)

-- where a request with this URI is sent
abbrev pub address_of : List HostAddress → List ℕ → Option Addr
address_of hosts text = if list_any is_unfit text then None else uri_address hosts text (uri_at text 0)

-- where a target is sent: by its destination where it has one, else by its URI
abbrev pub target_address : Around → Target → Option Addr
target_address a t = address_of a.settings.hosts (unwrap_or t.destination t.uri)

-- ---- targets

-- the most branches of a transaction; those whose target was removed count
abbrev pub most_branches : ℕ
most_branches = 12

-- `$ru` with `$du`
abbrev pub first_target : Facts → Target
first_target f = record { uri = f.uri; destination = f.destination }

abbrev pub appended : Around → Target → RunState → RowCourse
appended a t s =
    if is_none (target_address a t) || nat_le most_branches (s.facts.branches + 1 + length s.facts.targets) then code (negsuc 0) s
    else code (pos 1) (with_facts s (record s.facts { targets = s.facts.targets ++ t ∷ [] }))

-- append_branch([uri]): -1 where it has no destination, or where twelve branches are reached; without a URI it is `$ru` with `$du`
abbrev pub append_branch : Around → List Val → RunState → RowCourse
append_branch a [] s = appended a (first_target s.facts) s
append_branch a (v ∷ values) s = appended a (record { uri = text_of v; destination = None }) s

-- ---- relaying

-- what is sent on, as it stands
abbrev pub relay_of : Facts → Relay
relay_of f = record { edits = f.edits; uri = f.uri; destination = f.destination; targets = f.targets; absent_hops = f.absent_hops }

-- all targets, the first one before those that were appended
abbrev pub targets_of : Relay → List Target
targets_of relay = record { uri = relay.uri; destination = relay.destination } ∷ relay.targets

-- what a request without Max-Forwards is sent with (RFC 3261, section 16.6, step 3)
abbrev pub hops_of : Option ℕ → ℕ
hops_of absent = unwrap_or absent 70

-- the request as it goes on to a URI, on the branch of this number
abbrev pub branch_request : Around → Received → Addr → Relay → List ℕ → ℕ → ℕ → ℕ → List ℕ
branch_request a r source relay uri slot generation number =
    forwarded_text r.bytes r.message source relay.edits uri a.settings.listen
    (branch_text a.settings.epoch (record { slot = slot; generation = generation; b = number })) (hops_of relay.absent_hops)

-- the same of an ACK that has no transaction
abbrev pub loose_ack : Around → Received → Addr → Relay → List ℕ
loose_ack a r source relay =
    stateless_ack_text r.bytes r.message source relay.edits relay.uri a.settings.listen (hops_of relay.absent_hops)

-- Max-Forwards is 0
abbrev pub has_no_hop : Option ℕ → Bool
has_no_hop None = false
has_no_hop (Some hops) = hops == 0

-- the call itself is noted, whatever it answers
abbrev pub relay_called : RunState → RunState
relay_called s = with_facts s (record s.facts { has_called_relay = true })

-- 483 where no hop is left: an outcome, with a transaction
abbrev pub too_many_hops : Response
too_many_hops = record { code = 483; reason = codes "Too Many Hops" }

-- the request goes on to its targets: 1
abbrev pub relayed : Received → RunState → RunState
relayed r s =
    let f = with_trying r (with_transaction s.facts) in
    with_facts s (record f { outcome = Relayed (relay_of s.facts); targets = []; branches = f.branches + length (targets_of (relay_of s.facts)) })

-- blocks go back, and then the row ends with this code
abbrev pub gives : ℕ → RowCourse → RowCourse
gives zero after = after
gives (suc n) after = Asks ask.GiveBack (λ h. gives n after)

-- one more block, or -2: those that this call took go back at once
abbrev pub with_block : Heard → ℕ → RunState → RowCourse → RowCourse
with_block (heard.Block true) taken s more = more
with_block (heard.Block false) taken s more = gives taken (code (negsuc 1) s)
with_block h taken s more = Ends (Lacks (record s { blocks = s.blocks + taken }))

-- so many blocks are wanted still, and so many were taken
abbrev pub takes_blocks : ℕ → ℕ → RunState → (RunState → RowCourse) → RowCourse
takes_blocks zero taken s after = after (record s { blocks = s.blocks + taken })
takes_blocks (suc n) taken s after = Asks ask.Block (λ h. with_block h taken s (takes_blocks n (suc taken) s after))

-- the request to the first target reads; it gets the number behind those of the branches that there are
abbrev pub fits_first : Around → Received → Facts → Bool
fits_first a r f = is_readable (branch_request a r f.source (relay_of f) f.uri f.slot f.generation (f.branches - f.removed))

-- two blocks a target: one for its request, one for its response
abbrev pub blocks_wanted : Facts → ℕ
blocks_wanted f = 2 * length (targets_of (relay_of f))

-- more than twelve branches would be made
abbrev pub makes_too_many : Facts → Bool
makes_too_many f = nat_lt most_branches (f.branches + length (targets_of (relay_of f)))

abbrev pub has_destination : Around → Facts → Bool
has_destination a f = is_some (target_address a (first_target f))

-- the request: the first code whose condition holds
abbrev pub relay_request : Around → Received → RunState → RowCourse
relay_request a r s =
    if not (is_undecided s.facts.outcome) || s.facts.standing.is_answered || s.facts.standing.is_suspended then code (negsuc 4) s
    else if s.facts.standing.is_cancelled then code (negsuc 3) s
    else if has_no_hop r.message.max_forwards then code (negsuc 4) (with_facts s (with_final_response too_many_hops s.facts))
    else if not (has_destination a s.facts) || makes_too_many s.facts then code (negsuc 0) s
    else if not (fits_first a r s.facts) then code (negsuc 2) s
    else takes_blocks (blocks_wanted s.facts) 0 s (λ s'. code (pos 1) (relayed r s'))

-- an ACK goes on without a transaction, to `$ru` with `$du` alone (RFC 3261, section 16.11)
abbrev pub loosely_relayed : RunState → RunState
loosely_relayed s = with_facts s (record s.facts { outcome = Relayed (relay_of s.facts) })

abbrev pub relay_ack : Around → Received → RunState → RowCourse
relay_ack a r s =
    if not (is_undecided s.facts.outcome) || has_no_hop r.message.max_forwards then code (negsuc 4) s
    else if not (has_destination a s.facts) then code (negsuc 0) s
    else if not (is_readable (loose_ack a r s.facts.source (relay_of s.facts))) then code (negsuc 2) s
    else code (pos 1) (loosely_relayed s)

-- a CANCEL is answered: 200 where its INVITE is held, and the cancellation is ordered; else 481 (RFC 3261, sections 9.2 and 16.10)
abbrev pub cancelled_ok : Response
cancelled_ok = record { code = 200; reason = codes "canceling" }

abbrev pub no_such_transaction : Response
no_such_transaction = record { code = 481; reason = codes "Call/Transaction Does Not Exist" }

abbrev pub cancel_answered : Response → RunState → RunState
cancel_answered response s =
    with_facts s (record s.facts { responses = s.facts.responses ++ response ∷ []; outcome = Relayed (relay_of s.facts) })

abbrev pub cancel_found : RunState → Heard → RowCourse
cancel_found s (heard.Found None) = code (pos 1) (cancel_answered no_such_transaction s)
cancel_found s (heard.Found (Some (slot, generation))) =
    Asks (ask.Post (order.Cancel slot generation)) (λ h. code (pos 1) (cancel_answered cancelled_ok s))
cancel_found s h = Ends (Lacks s)

abbrev pub relay_cancel : RunState → RowCourse
relay_cancel s = if not (is_undecided s.facts.outcome) then code (negsuc 4) s else Asks ask.Find (λ h. cancel_found s h)

-- t_relay()
abbrev pub t_relay : Around → Received → RunState → RowCourse
t_relay a r s =
    if is_ack r then relay_ack a r (relay_called s)
    else if is_cancel r then relay_cancel (relay_called s)
    else relay_request a r (relay_called s)
