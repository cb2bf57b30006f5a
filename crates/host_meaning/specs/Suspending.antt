-- Functions that let a request wait, and that go on with one that waits: t_suspend() and t_continue().
use Rattle.std.specs.Prelude.{ℕ, ℤ, ◌+◌, pos, negsuc, Bool, true, not, ◌&&◌, ◌||◌, List, Option, Some, None, nat_le, nat_lt, if◌then◌else◌}
use Rattle.dialogue.specs.Course.{Ends, Asks}
use Rattle.pv_values.specs.declared.value.Val.{Val}
use Rattle.pv_values.specs.Numbers.{number_in}
use Rattle.claim_words.specs.declared.By.{By}
use Rattle.claim_words.specs.declared.By.TheVariants.{Continued, TimedOut, Cancelled}
use Rattle.claim_words.specs.declared.ClaimEnd.{ClaimEnd}
use Rattle.claim_words.specs.declared.ClaimEnd.TheVariants.{Won, Lost, Past, Unknown}
use Rattle.pv_table.specs.declared.facts.Facts.{Facts}
use Rattle.pv_table.specs.declared.facts.Outcome.TheVariants.{Suspended}
use Rattle.host_meaning.specs.declared.ask.Asked.TheVariants as ask
use Rattle.host_meaning.specs.declared.ask.Heard.{Heard}
use Rattle.host_meaning.specs.declared.ask.Heard.TheVariants as heard
use Rattle.host_meaning.specs.declared.ask.JobOrder.TheVariants as order
use Rattle.host_meaning.specs.Run.{Received, Around, RunState, RowCourse, Lacks, code, argument, with_facts}
use Rattle.host_meaning.specs.Responses.{is_undecided}
use Rattle.host_meaning.specs.Transactions.{has_no_transaction, with_transaction, with_trying}

-- ---- t_suspend

-- the most suspensions of a transaction
abbrev pub most_suspensions : ℕ
most_suspensions = 16

abbrev pub refuses_suspension : Received → Facts → Bool
refuses_suspension r f =
    has_no_transaction r || not (is_undecided f.outcome) || f.standing.is_answered || f.standing.is_cancelled || nat_le most_suspensions f.suspensions

-- the request waits, under this serial
abbrev pub waiting : ℕ → Facts → Facts
waiting serial f = record f {
  outcome = Suspended;
  label = Some serial;
  suspensions = f.suspensions + 1;
  standing = record f.standing { is_suspended = true };
}

abbrev pub opened : Received → RunState → Heard → RowCourse
opened r s (heard.Opened serial) = code (pos 1) (with_facts s (waiting serial (with_trying r (with_transaction s.facts))))
opened r s h = Ends (Lacks s)

-- t_suspend(): -1 for an ACK or a CANCEL, with an outcome, answered, cancelled, or at the 17th; else the next suspension is opened
abbrev pub t_suspend : Received → RunState → RowCourse
t_suspend r s = if refuses_suspension r s.facts then code (negsuc 0) s else Asks ask.Open (λ h. opened r s h)

-- ---- t_continue

-- the most continuations that one step can win, and that a step can win which is one itself
abbrev pub most_continued : ℕ
most_continued = 16

abbrev pub has_continued_all : Facts → Bool
has_continued_all f = nat_le most_continued f.continued || (f.is_continuation && nat_lt 0 f.continued)

-- this step has won one more
abbrev pub continued : RunState → RunState
continued s = with_facts s (record s.facts { continued = s.facts.continued + 1 })

-- the code of a claim that came second
abbrev pub lost_code : By → ℤ
lost_code TimedOut = negsuc 1
lost_code Continued = negsuc 2
lost_code Cancelled = negsuc 3

-- what a claim came to: where it was won its continuation is ordered at once, and nothing is in between
abbrev pub claim_heard : ℕ → ℕ → ℕ → RunState → ClaimEnd → RowCourse
claim_heard slot serial route s (Won place) = Asks (ask.Post (order.Continue slot serial route)) (λ h. code (pos 1) (continued s))
claim_heard slot serial route s (Lost by) = code (lost_code by) s
claim_heard slot serial route s (Past latest) = code (negsuc 4) s
claim_heard slot serial route s Unknown = code (negsuc 0) s

abbrev pub claimed : ℕ → ℕ → ℕ → RunState → Heard → RowCourse
claimed slot serial route s (heard.Claim end) = claim_heard slot serial route s end
claimed slot serial route s h = Ends (Lacks s)

abbrev pub claims : Around → ℕ → ℕ → ℕ → RunState → RowCourse
claims a slot serial route s =
    if nat_lt slot a.settings.slots then Asks (ask.Claim slot serial Continued) (λ h. claimed slot serial route s h) else code (negsuc 0) s

-- -1 where an argument is no number from 0 up
abbrev pub claims_numbered : Around → Option ℤ → Option ℤ → ℕ → RunState → RowCourse
claims_numbered a (Some (pos slot)) (Some (pos serial)) route s = claims a slot serial route s
claims_numbered a slot serial route s = code (negsuc 0) s

-- t_continue(index, label, route)
abbrev pub t_continue : Around → List Val → ℕ → RunState → RowCourse
t_continue a values route s =
    if has_continued_all s.facts then code (negsuc 5) s
    else claims_numbered a (number_in (argument values 0)) (number_in (argument values 1)) route s
