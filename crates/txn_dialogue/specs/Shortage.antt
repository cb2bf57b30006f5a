-- Why a step is aborted: memory was short, in a run or in an object.
use Rattle.std.specs.Prelude.{◌≡◌, Bool, true, false, not, ◌||◌, List, [], ◌∷◌, if◌then◌else◌}
use Rattle.dialogue.specs.Course.{Course, Ends, Asks, Takes}
use Rattle.dialogue.specs.declared.item.CourseItem.TheVariants.{Told, Short}
use Rattle.ht_core.specs.declared.operation.TabOp.{TabOp}
use Rattle.ht_core.specs.declared.operation.TabOp.TheVariants as op
use Rattle.ht_core.specs.declared.operation.TabReply.{TabReply}
use Rattle.ht_core.specs.declared.operation.TabReply.TheVariants as reply
use Rattle.host_meaning.specs.declared.ask.Asked.{Asked}
use Rattle.host_meaning.specs.declared.ask.Asked.TheVariants as ask
use Rattle.host_meaning.specs.declared.ask.Heard.{Heard}
use Rattle.host_meaning.specs.declared.ask.Heard.TheVariants as heard
use Rattle.txn_dialogue.specs.Ending.{StepEnd, Done, Aborted}
use Rattle.txn_dialogue.specs.Loose.{LooseEnd, LooseDone, LooseAborted}
use Rattle.txn_dialogue.specs.Entries.{StepItem}

-- ---- answers that fit

-- what reading and counting reply, what assigning does, and what taking out does
abbrev pub replies_value : TabReply → Bool
replies_value reply.Done = false
replies_value (reply.Count n) = false
replies_value r = true

abbrev pub replies_done : TabReply → Bool
replies_done (reply.Value v) = false
replies_done reply.NotNumber = false
replies_done (reply.Count n) = false
replies_done r = true

abbrev pub replies_count : TabReply → Bool
replies_count (reply.Count n) = true
replies_count r = false

-- the reply is of the kind that the operation has
abbrev pub is_reply_to : TabOp → TabReply → Bool
is_reply_to (op.Get key) r = replies_value r
is_reply_to (op.Set key v) r = replies_done r
is_reply_to (op.Remove key) r = replies_done r
is_reply_to (op.Inc key) r = replies_value r
is_reply_to (op.Dec key) r = replies_value r
is_reply_to (op.Left key) r = replies_value r
is_reply_to (op.Limit key n) r = replies_done r
is_reply_to (op.RemoveMatching pattern) r = replies_count r
is_reply_to op.Reset r = replies_count r

-- The answer is of the kind that the ask has; that memory was short is of no kind. What can't fail is taken as answered so, whatever
-- the answer is.
abbrev pub fits_ask : Asked → Heard → Bool
fits_ask (ask.Table table operation) (heard.Table r) = is_reply_to operation r
fits_ask (ask.Table table operation) h = false
fits_ask ask.Open (heard.Opened serial) = true
fits_ask ask.Open h = false
fits_ask (ask.Claim slot serial by) (heard.Claim end) = true
fits_ask (ask.Claim slot serial by) h = false
fits_ask ask.Find (heard.Found place) = true
fits_ask ask.Find h = false
fits_ask ask.Block (heard.Block there) = true
fits_ask ask.Block h = false
fits_ask (ask.Log text) heard.Noted = true
fits_ask (ask.Log text) h = false
fits_ask a h = true

-- ---- what was short

-- memory is short from an answer on that doesn't fit
abbrev pub short_after : Asked → Heard → Bool → Bool
short_after a h short = if fits_ask a h then short else true

-- An aborted end lies only behind a place where memory was short, or behind an answer that doesn't fit.
abbrev pub AbortsShort : {End : Type 0} → (End → Bool) → Course Asked Heard End → Bool → Type 0
AbortsShort aborted (Ends end) short = aborted end ≡ true → short ≡ true
AbortsShort aborted (Asks a next) short = (h : Heard) → AbortsShort aborted (next h) (short_after a h short)
AbortsShort aborted (Takes ran_out on) short = AbortsShort aborted ran_out true × AbortsShort aborted on short

abbrev pub is_aborted : StepEnd → Bool
is_aborted (Done slot mark) = false
is_aborted (Aborted slot) = true

abbrev pub is_loosely_aborted : LooseEnd → Bool
is_loosely_aborted (LooseDone mark) = false
is_loosely_aborted LooseAborted = true

-- the items tell that memory was short
abbrev pub was_short : List StepItem → Bool
was_short [] = false
was_short (Short ∷ items) = true
was_short (Told a h ∷ items) = not (fits_ask a h) || was_short items
