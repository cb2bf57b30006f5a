-- What is recorded of steps, and what a slot's history makes of the slot.
use Rattle.std.specs.Prelude.{◌≡◌, ℕ, ◌+◌, List, [], ◌∷◌, ◌++◌, Option, Some, None}
use Rattle.dialogue.specs.declared.item.CourseItem.{CourseItem}
use Rattle.dialogue.specs.declared.item.CourseItem.TheVariants.{Told}
use Rattle.dialogue.specs.Items.{Comes}
use Rattle.host_meaning.specs.declared.ask.Asked.{Asked}
use Rattle.host_meaning.specs.declared.ask.Asked.TheVariants as ask
use Rattle.host_meaning.specs.declared.ask.Heard.{Heard}
use Rattle.host_meaning.specs.declared.ask.Heard.TheVariants as heard
use Rattle.host_meaning.specs.declared.ask.JobOrder.{JobOrder}
use Rattle.host_meaning.specs.declared.ask.JobOrder.TheVariants as order
use Rattle.txn_dialogue.specs.declared.entry.Entry.{Entry}
use Rattle.txn_dialogue.specs.declared.entry.LooseEntry.{LooseEntry}
use Rattle.txn_dialogue.specs.declared.entry.Occasion.{Occasion}
use Rattle.txn_dialogue.specs.declared.entry.Occasion.TheVariants.{Datagram, Pop, Job}
use Rattle.txn_dialogue.specs.declared.happening.Happening.{Happening}
use Rattle.txn_dialogue.specs.declared.happening.Happening.TheVariants.{Timer, Continue, Cancel}
use Rattle.txn_dialogue.specs.declared.mark.Mark.{Mark}
use Rattle.txn_dialogue.specs.Slots.{Proxy, Seen, SeenVacant, generation_of}
use Rattle.txn_dialogue.specs.Ending.{end_of}
use Rattle.txn_dialogue.specs.Dialogue.{dialogue}
use Rattle.txn_dialogue.specs.Loose.{Handling, OfSlot, Runs, Answers, Drops, Handles, LooseEnd, LooseDone, LooseAborted, loose_dialogue}

-- what was met on a step's course
abbrev pub StepItem : Type 0
StepItem = CourseItem Asked Heard

-- each suspension that was opened has the slot's next serial
abbrev pub Opens : ℕ → List StepItem → ℕ → Type 0
Opens latest [] end = latest ≡ end
Opens latest (Told ask.Open (heard.Opened serial) ∷ items) end = (serial ≡ latest + 1) × Opens serial items end
Opens latest (item ∷ items) end = Opens latest items end

-- a job names what happens, and to which slot
abbrev pub IsOrdered : Proxy → JobOrder → ℕ → Happening → Type 0
IsOrdered p (order.Continue slot serial route) generation what = (slot ≡ p.number) × (what ≡ Continue serial route)
IsOrdered p (order.Cancel slot cancelled) generation what = (slot ≡ p.number) × (cancelled ≡ generation) × (what ≡ Cancel)

-- what happens to a slot is what its occasion says
abbrev pub IsOccasion : Proxy → Occasion → ℕ → Happening → Type 0
IsOccasion p (Datagram text source index) generation what = Handles p text source index (OfSlot p.number generation what)
IsOccasion p Pop generation what = what ≡ Timer
IsOccasion p (Job ordered) generation what = IsOrdered p ordered generation what

-- a continuation has no generation of its own
abbrev pub OfThisGeneration : Happening → ℕ → ℕ → Type 0
OfThisGeneration (Continue serial route) generation slots = generation ≡ slots
OfThisGeneration what generation slots = Unit {0}

-- a step takes the slot, whose latest serial is this, to this slot and this serial
pub record IsStep (p : Proxy) (seen : Seen) (latest : ℕ) (e : Entry) (seen' : Seen) (latest' : ℕ) : Type 0 where
  pub occasion : IsOccasion p e.occasion e.generation e.happening
  pub generation : OfThisGeneration e.happening e.generation (generation_of seen)
  pub comes : Comes (dialogue p seen e.generation e.happening e.now) e.items (end_of e.mark seen')
  pub opens : Opens latest e.items latest'

-- A slot's history takes it from its beginning to this slot and this latest serial.
pub data Replays (p : Proxy) : List Entry → Seen → ℕ → Type 0 where
  begins : Replays p [] (SeenVacant 0) 0
  goes_on : (entries : List Entry) (seen : Seen) (latest : ℕ) (e : Entry) (seen' : Seen) (latest' : ℕ)
      → Replays p entries seen latest → IsStep p seen latest e seen' latest' → Replays p (entries ++ e ∷ []) seen' latest'

-- ---- datagrams without a slot

abbrev pub IsLoose : Handling → Type 0
IsLoose (OfSlot slot generation what) = ⊥
IsLoose (Runs request) = Unit {0}
IsLoose (Answers to text fits) = Unit {0}
IsLoose (Drops why) = Unit {0}

abbrev pub loose_end_of : Option Mark → LooseEnd
loose_end_of None = LooseAborted
loose_end_of (Some mark) = LooseDone mark

-- a datagram was handled without a slot, as its handling says
pub record IsLooseStep (p : Proxy) (e : LooseEntry) : Type 0 where
  pub handling : Handling
  pub handles : Handles p e.text e.from e.index handling
  pub loose : IsLoose handling
  pub comes : Comes (loose_dialogue p e.from handling) e.items (loose_end_of e.mark)
