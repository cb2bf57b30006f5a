-- Functions that make a transaction, respond in it, arm its blocks and look at it.
use Rattle.std.specs.Prelude.{ℕ, ℤ, pos, negsuc, ◌==◌, Bool, true, false, not, ◌&&◌, ◌||◌, List, [], ◌∷◌, ◌++◌, Option, Some, None, is_some, nat_le, nat_lt, slice_index_or, if◌then◌else◌, codes}
use Rattle.std.specs.Fmt.{decimal}
use Rattle.std.specs.Str.{bytes_eq}
use Rattle.dialogue.specs.Course.{Ends, Asks}
use Rattle.pv_values.specs.declared.value.Val.{Val}
use Rattle.pv_values.specs.declared.run.HostAnswer.TheVariants as told
use Rattle.pv_values.specs.Numbers.{number_in}
use Rattle.pv_values.specs.Matching.{matches_in}
use Rattle.sip_msg.specs.declared.start.Start.{Start}
use Rattle.sip_msg.specs.declared.start.Start.TheVariants as start
use Rattle.sip_keys.specs.Keys.{method_in}
use Rattle.pv_values.specs.declared.block.BlockKind.{BlockKind}
use Rattle.pv_values.specs.declared.block.BlockKind.TheVariants as block
use Rattle.pv_table.specs.declared.facts.Facts.{Facts}
use Rattle.pv_table.specs.declared.facts.Response.{Response}
use Rattle.pv_table.specs.declared.facts.Outcome.TheVariants.{Answered}
use Rattle.host_meaning.specs.declared.ask.Asked.TheVariants as ask
use Rattle.host_meaning.specs.declared.ask.Heard.{Heard}
use Rattle.host_meaning.specs.declared.ask.Heard.TheVariants as heard
use Rattle.host_meaning.specs.Run.{Received, RunState, RowCourse, RowEnd, Tells, Lacks, code, argument, with_facts}
use Rattle.host_meaning.specs.Responses.{is_undecided, is_ack, can_reply}
use Rattle.host_meaning.specs.Headers.{yes_or_no}

abbrev pub is_cancel : Received → Bool
is_cancel r = bytes_eq (method_in r.bytes r.message.start) (codes "CANCEL")

abbrev pub is_invite : Received → Bool
is_invite r = bytes_eq (method_in r.bytes r.message.start) (codes "INVITE")

-- an ACK and a CANCEL have no transaction of their own
abbrev pub has_no_transaction : Received → Bool
has_no_transaction r = is_ack r || is_cancel r

-- ---- a transaction, and its responses

-- there is a transaction from now on
abbrev pub with_transaction : Facts → Facts
with_transaction f = record f { standing = record f.standing { exists = true } }

-- t_newtran(): -1 for an ACK or a CANCEL, or where there is a transaction
abbrev pub t_newtran : Received → RunState → RowCourse
t_newtran r s =
    if has_no_transaction r || s.facts.standing.exists then code (negsuc 0) s
    else code (pos 1) (with_facts s (with_transaction s.facts))

-- a response that is no outcome was decided
abbrev pub with_response : Response → Facts → Facts
with_response response f = record f {
  responses = f.responses ++ response ∷ [];
  standing = record f.standing { exists = true; has_responded = true };
}

-- a final response was decided, which is the outcome
abbrev pub with_final_response : Response → Facts → Facts
with_final_response response f = record f {
  outcome = Answered response;
  standing = record f.standing { exists = true; has_responded = true; is_answered = true };
}

-- a code below 200 is no outcome
abbrev pub replied : Response → Facts → Facts
replied response f = if nat_lt response.code 200 then with_response response f else with_final_response response f

-- a transaction that is answered, cancelled or suspended, and a run with an outcome, take no response
abbrev pub refuses_response : Received → Facts → Bool
refuses_response r f =
    has_no_transaction r || not (is_undecided f.outcome) || f.standing.is_answered || f.standing.is_cancelled || f.standing.is_suspended

-- t_reply(code, reason): -1 where none is taken; -3 where it would be too long, or would not read, or its reason isn't of one line
abbrev pub t_reply : Received → ℕ → List ℕ → RunState → RowCourse
t_reply r status reason s =
    if refuses_response r s.facts then code (negsuc 0) s
    else if not (can_reply r s.facts status reason) then code (negsuc 2) s
    else code (pos 1) (with_facts s (replied (record { code = status; reason = reason }) s.facts))

-- 100 Trying goes before anything else that is sent for an INVITE (RFC 3261, section 8.2.6.1)
abbrev pub trying : Response
trying = record { code = 100; reason = codes "Trying" }

abbrev pub with_trying : Received → Facts → Facts
with_trying r f = if is_invite r && not f.standing.has_responded then with_response trying f else f

-- ---- blocks and timers

-- t_on_branch(n), t_on_failure(n), t_on_reply(n): 1, and the block is armed
abbrev pub t_on_branch : ℕ → RunState → RowCourse
t_on_branch n s = code (pos 1) (with_facts s (record s.facts { armed = record s.facts.armed { branch = Some n } }))

abbrev pub t_on_failure : ℕ → RunState → RowCourse
t_on_failure n s = code (pos 1) (with_facts s (record s.facts { armed = record s.facts.armed { failure = Some n } }))

abbrev pub t_on_reply : ℕ → RunState → RowCourse
t_on_reply n s = code (pos 1) (with_facts s (record s.facts { armed = record s.facts.armed { reply = Some n } }))

-- the longest that a final timer can be set to, in milliseconds: an hour
abbrev pub longest_timer : ℕ
longest_timer = 3600000

-- a number from 0 to this
abbrev pub up_to : ℕ → Option ℤ → Option ℕ
up_to most None = None
up_to most (Some (pos n)) = if nat_le n most then Some n else None
up_to most (Some (negsuc n)) = None

-- 0 keeps a timer
abbrev pub or_kept : ℕ → ℕ → ℕ
or_kept n kept = if n == 0 then kept else n

-- -1, with nothing changed, where one of them isn't such a number
abbrev pub timers_set : Option ℕ → Option ℕ → RunState → RowCourse
timers_set None other s = code (negsuc 0) s
timers_set (Some invite) None s = code (negsuc 0) s
timers_set (Some invite) (Some other) s = code (pos 1) (with_facts s (record s.facts {
  final_timers = record { invite = or_kept invite s.facts.final_timers.invite; other = or_kept other s.facts.final_timers.other };
}))

-- t_set_fr(inv, other)
abbrev pub t_set_fr : List Val → RunState → RowCourse
t_set_fr values s = timers_set (up_to longest_timer (number_in (argument values 0))) (up_to longest_timer (number_in (argument values 1))) s

-- ---- looking at a transaction

abbrev pub found : Heard → RunState → RowEnd
found (heard.Found at) s = Tells (told.Code (if is_some at then pos 1 else negsuc 0)) s
found h s = Lacks s

-- t_check_trans(): 1 for an ACK or a CANCEL whose INVITE is held, else -1
abbrev pub t_check_trans : Received → RunState → RowCourse
t_check_trans r s = if has_no_transaction r then Asks ask.Find (λ h. Ends (found h s)) else code (negsuc 0) s

-- t_is_canceled()
abbrev pub t_is_canceled : RunState → RowCourse
t_is_canceled s = yes_or_no s.facts.standing.is_cancelled s

-- the code of a response; a request has none
abbrev pub status_of : Start → Option ℕ
status_of (start.Request method uri) = None
status_of (start.Status status reason) = Some status

-- the code that is looked at: of the best response in a failure block, of the response itself in a reply block
abbrev pub checked_code : BlockKind → Option ℕ → Start → Option ℕ
checked_code block.Request best line = None
checked_code block.Branch best line = None
checked_code block.Failure best line = best
checked_code block.Reply best line = status_of line
checked_code block.Event best line = None

abbrev pub code_matches : List ℕ → Option ℕ → Bool
code_matches pattern None = false
code_matches pattern (Some status) = matches_in pattern (decimal status)

-- t_check_status(re): 1 where the pattern matches the code's text. These are the patterns of the script, by number
abbrev pub t_check_status : List (List ℕ) → ℕ → Received → RunState → RowCourse
t_check_status patterns n r s = yes_or_no (code_matches (slice_index_or patterns n []) (checked_code s.facts.kind s.facts.best_code r.message.start)) s
