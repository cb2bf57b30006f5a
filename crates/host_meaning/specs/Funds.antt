-- What a run holds for the request that it relays, and what it responds besides (RFC 3261, sections 16.6 and 16.7).
use Rattle.std.specs.Prelude.{◌≡◌, ℕ, ◌+◌, ◌*◌, ◌≤◌, ◌<◌, List, length}
use Rattle.std.specs.List.{AllByRecursion}
use Rattle.dialogue.specs.Course.{Course, Ends, Asks, Takes}
use Rattle.pv_table.specs.declared.facts.Outcome.{Outcome}
use Rattle.pv_table.specs.declared.facts.Outcome.TheVariants.{Undecided, Stateless, Answered, Relayed, Suspended}
use Rattle.pv_table.specs.declared.facts.Response.{Response}
use Rattle.host_meaning.specs.declared.ask.Asked.{Asked}
use Rattle.host_meaning.specs.declared.ask.Heard.{Heard}
use Rattle.host_meaning.specs.Run.{RunState, RowEnd, Tells, Lacks}
use Rattle.host_meaning.specs.Relaying.{targets_of}
use Rattle.host_meaning.specs.Host.{HostEnd, Finished, RanOut}

-- every end that a course may come to is so, whatever is answered, and wherever memory is short
abbrev pub EndsAlways : {End : Type 0} → (End → Type 0) → Course Asked Heard End → Type 0
EndsAlways P (Ends end) = P end
EndsAlways P (Asks ask next) = (h : Heard) → EndsAlways P (next h)
EndsAlways P (Takes short on) = EndsAlways P short × EndsAlways P on

-- with so many branches before, so many now, and so many blocks: while nothing is decided no branch was made; a request that is relayed
-- has two blocks for each of its targets, and its targets with the branches before are at most twelve
abbrev pub IsFundedOutcome : ℕ → Outcome → ℕ → ℕ → Type 0
IsFundedOutcome before Undecided now blocks = now ≡ before
IsFundedOutcome before (Stateless response) now blocks = Unit {0}
IsFundedOutcome before (Answered response) now blocks = Unit {0}
IsFundedOutcome before (Relayed relay) now blocks =
    (2 * length (targets_of relay) ≤ blocks) × (before + length (targets_of relay) ≤ 12)
IsFundedOutcome before Suspended now blocks = Unit {0}

abbrev pub IsFunded : ℕ → RunState → Type 0
IsFunded before s = IsFundedOutcome before s.facts.outcome s.facts.branches s.blocks

-- the same of a row that has ended; of one that found no memory nothing is said
abbrev pub IsFundedRow : ℕ → RowEnd → Type 0
IsFundedRow before (Tells answer s) = IsFunded before s
IsFundedRow before (Lacks s) = Unit {0}

-- the same of a run that has ended; of one that ran out of memory nothing is said
abbrev pub IsFundedEnd : ℕ → HostEnd → Type 0
IsFundedEnd before (Finished s how) = IsFunded before s
IsFundedEnd before (RanOut kept) = Unit {0}

-- each of the responses is provisional: its code is below 200
abbrev pub AreProvisional : List Response → Type 0
AreProvisional responses = AllByRecursion (λ (r : Response). r.code < 200) responses

-- those that a row left are, beside the outcome
abbrev pub RowRespondsProvisionally : RowEnd → Type 0
RowRespondsProvisionally (Tells answer s) = AreProvisional s.facts.responses
RowRespondsProvisionally (Lacks s) = Unit {0}

-- and those of a run that has ended
abbrev pub RespondsProvisionally : HostEnd → Type 0
RespondsProvisionally (Finished s how) = AreProvisional s.facts.responses
RespondsProvisionally (RanOut kept) = Unit {0}
