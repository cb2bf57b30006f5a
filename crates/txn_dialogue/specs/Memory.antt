-- Out of memory.
use Rattle.std.specs.Prelude.{ℕ, ◌+◌, ◌-◌, ◌==◌, Bool, true, false, [], Option, Some, None, if◌then◌else◌, codes}
use Rattle.txn_moments.specs.Moments.{moment_after}
use Rattle.host_meaning.specs.Run.{Kept}
use Rattle.txn_dialogue.specs.Slots.{TxnState}
use Rattle.txn_dialogue.specs.Sends.{Work, and_sent, back_to, made_text}
use Rattle.txn_dialogue.specs.Ending.{StepCourse, closing, spare}

-- the suspension that was opened, where the last serial is another one than before
abbrev pub new_label : Option ℕ → Option ℕ → Option ℕ
new_label before None = None
new_label None (Some serial) = Some serial
new_label (Some before) (Some serial) = if serial == before then None else Some serial

-- the transaction as it was, waiting under a serial
abbrev pub waiting : ℕ → ℕ → TxnState → TxnState
waiting serial now s = record s {
  suspension = Some serial;
  suspension_due = Some (moment_after now s.final_timers.other);
  label = Some serial;
  suspensions = s.suspensions + 1;
}

-- What is left of a step that finds no memory; it has so many blocks. A suspension that it opened stays open, and its timer ends
-- it. Without one the slot is as it was; a request that is handled for the first time is answered 500, and its slot is free again.
abbrev pub short_by : Option ℕ → Bool → ℕ → Work → StepCourse
short_by (Some serial) first blocks w = closing (record {
  origin = w.origin;
  state = waiting serial w.now w.base;
  blocks = blocks - spare true blocks w.base;
  sends = [];
  back = spare true blocks w.base;
  stays = true;
  mark = None;
  now = w.now;
})
short_by None true blocks w = closing (record {
  origin = w.origin;
  state = w.base;
  blocks = 0;
  sends = and_sent (back_to w.origin) (made_text w.origin 500 (codes "Out of Memory")) None [];
  back = blocks;
  stays = false;
  mark = None;
  now = w.now;
})
short_by None false blocks w = closing (record {
  origin = w.origin;
  state = w.base;
  blocks = blocks - spare true blocks w.base;
  sends = [];
  back = spare true blocks w.base;
  stays = true;
  mark = None;
  now = w.now;
})

-- a run found no memory, and this is left of it
abbrev pub short : Kept → Work → StepCourse
short k w = short_by (new_label w.state.label k.label) w.first (w.blocks + k.blocks) w

-- memory was short outside a run
abbrev pub short_outside : Work → StepCourse
short_outside w = short_by None w.first w.blocks w
