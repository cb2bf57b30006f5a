-- What a slot does at an event: its dialogue.
use Rattle.std.specs.Prelude.{ℕ, ◌==◌, if◌then◌else◌}
use Rattle.dialogue.specs.Course.{Ends}
use Rattle.txn_dialogue.specs.declared.mark.Mark.TheVariants.{Handled, Dropped}
use Rattle.txn_dialogue.specs.declared.mark.Cause.TheVariants as cause
use Rattle.txn_dialogue.specs.declared.happening.Happening.{Happening}
use Rattle.txn_dialogue.specs.declared.happening.Happening.TheVariants.{Request, Copy, Ack, Reply, Timer, Continue, Cancel}
use Rattle.txn_dialogue.specs.Slots.{Proxy, Seen, SeenVacant, SeenLive, generation_of, reading}
use Rattle.txn_dialogue.specs.Ending.{Done, StepCourse}
use Rattle.txn_dialogue.specs.Replies.{reply}
use Rattle.txn_dialogue.specs.Events.{work_on, opening, copy, ack, timer, continue_by, cancel_by}

-- On a vacant slot a request begins a transaction, and a response is a stray one; nothing else has an effect. On a live slot a request
-- is the one of the transaction again.
abbrev pub at_event : Proxy → Seen → Happening → ℕ → StepCourse
at_event p (SeenVacant generation) (Request text source) now = opening p generation (reading text) source now
at_event p (SeenVacant generation) (Reply branch text source) now = Ends (Done (SeenVacant generation) (Dropped cause.StrayReply))
at_event p (SeenVacant generation) Copy now = Ends (Done (SeenVacant generation) Handled)
at_event p (SeenVacant generation) (Ack text source) now = Ends (Done (SeenVacant generation) Handled)
at_event p (SeenVacant generation) Timer now = Ends (Done (SeenVacant generation) Handled)
at_event p (SeenVacant generation) (Continue serial route) now = Ends (Done (SeenVacant generation) Handled)
at_event p (SeenVacant generation) Cancel now = Ends (Done (SeenVacant generation) Handled)
at_event p (SeenLive live) (Request text source) now = copy (work_on live now)
at_event p (SeenLive live) Copy now = copy (work_on live now)
at_event p (SeenLive live) (Ack text source) now = ack p text source (work_on live now)
at_event p (SeenLive live) (Reply branch text source) now = reply p branch text source (work_on live now)
at_event p (SeenLive live) Timer now = timer p (work_on live now)
at_event p (SeenLive live) (Continue serial route) now = continue_by p serial route live live.state.suspension now
at_event p (SeenLive live) Cancel now = cancel_by p live.state.suspension (work_on live now)

-- The dialogue of a step: nothing happens to a slot that was asked for under another generation than its own.
abbrev pub dialogue : Proxy → Seen → ℕ → Happening → ℕ → StepCourse
dialogue p seen generation what now =
    if generation_of seen == generation then at_event p seen what now
    else Ends (Done seen (Dropped (cause.Ended generation (generation_of seen))))
