-- The texts on a worker's desk.
use Rattle.std.specs.Prelude.{ℕ, Bool, true, false, List, take, Option, Some}
use Rattle.txn_texts.specs.declared.desk.Desk.{Desk}

-- the one that was written last
abbrev pub text_on : Desk → List ℕ
text_on d = take d.len d.room.items

-- the one that goes on
abbrev pub passed_on : Desk → List ℕ
passed_on d = take d.passed_len d.passed.items

-- the response that the server repeats: the one that this step has decided, or the one before
abbrev pub last_by : Bool → List ℕ → Option (List ℕ) → Option (List ℕ)
last_by false text old = old
last_by true text old = Some text

abbrev pub last_on : Desk → Option (List ℕ) → Option (List ℕ)
last_on d old = last_by d.has_last (take d.last_len d.last.items) old
