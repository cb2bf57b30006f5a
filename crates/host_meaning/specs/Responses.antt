-- Functions that respond without a transaction.
use Rattle.std.specs.Prelude.{ℕ, pos, negsuc, Bool, true, false, not, ◌&&◌, ◌||◌, List, Option, Some, None, if◌then◌else◌, slice_range, codes}
use Rattle.std.specs.List.{list_all}
use Rattle.std.specs.Str.{bytes_eq}
use Rattle.sip_scan.specs.Lines.{is_plain}
use Rattle.sip_msg.specs.declared.message.Message.{Message}
use Rattle.sip_keys.specs.Keys.{method_in}
use Rattle.sip_build.specs.Reply.{reply_text}
use Rattle.pv_table.specs.declared.facts.Facts.{Facts}
use Rattle.pv_table.specs.declared.facts.Outcome.{Outcome}
use Rattle.pv_table.specs.declared.facts.Outcome.TheVariants.{Undecided, Stateless, Answered, Relayed, Suspended}
use Rattle.host_meaning.specs.Run.{Received, RunState, RowCourse, code, is_readable, with_facts}

abbrev pub is_undecided : Outcome → Bool
is_undecided Undecided = true
is_undecided (Stateless response) = false
is_undecided (Answered response) = false
is_undecided (Relayed relay) = false
is_undecided Suspended = false

abbrev pub is_ack : Received → Bool
is_ack r = bytes_eq (method_in r.bytes r.message.start) (codes "ACK")

-- an ACK has no response, and a transaction or an outcome one of its own
abbrev pub refuses_reply : Received → Facts → Bool
refuses_reply r facts = is_ack r || facts.standing.exists || not (is_undecided facts.outcome)

-- the reason has no NUL, CR or LF, so that one which a script takes from a message adds no header field; and the response reads
abbrev pub can_reply : Received → Facts → ℕ → List ℕ → Bool
can_reply r facts status reason = list_all is_plain reason && is_readable (reply_text r.bytes r.message facts.source status reason)

-- sl_send_reply(code, reason): -1 for an ACK, with a transaction or an outcome; -3 where the response would be too long or would not
-- read, or its reason isn't of one line; else 1, and this is the outcome
abbrev pub sl_send_reply : Received → ℕ → List ℕ → RunState → RowCourse
sl_send_reply r status reason s =
    if refuses_reply r s.facts then code (negsuc 0) s
    else if not (can_reply r s.facts status reason) then code (negsuc 2) s
    else code (pos 1) (with_facts s (record s.facts { outcome = Stateless (record { code = status; reason = reason }) }))
