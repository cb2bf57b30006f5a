-- What the writing of a text does.
use Rattle.std.specs.Prelude.{◌≡◌, ℕ, suc, ◌-◌, ◌^◌, ◌<◌, ◌≤◌, List, [], ◌∷◌, ◌++◌, All, IfOk, IfErr, OnOk, OnErr, Result, length, take, drop, map, min, nat_lt, slice_index_or}
pub use Rattle.sip_words.specs.Room.{IsWrittenSoFar}
use Rattle.msg_edits.specs.declared.parts.Edit.{Edit}
use Rattle.msg_edits.specs.declared.parts.Edit.TheVariants.{Cut, Insert}
use Rattle.msg_edits.specs.declared.writing.TooLong.{TooLong}
use Rattle.msg_edits.specs.declared.changes.Changes.{Changes}
use Rattle.msg_edits.specs.declared.sweep.Progress.{Progress}
use Rattle.msg_edits.specs.Edited.{is_cut, inserted_at, edited_from}
use Rattle.msg_edits.specs.Change.{edit_of}

-- the text is written to the front of a room, and its length is told; or it is longer than the room, which stays as it was, and its length is told, held at the greatest usize
pub record IsWritten (text old new : List ℕ) (result : Result ℕ TooLong) : Type 0 where
  pub len : IfOk result (λ n. n ≡ length text)
  pub fits : OnOk result (length text ≤ length old)
  pub written : IfOk result (λ n. new ≡ text ++ drop n old)
  pub too_long : IfErr result (λ e. e.len ≡ min (length text) (2 ^ 64 - 1))
  pub no_room : OnErr result (length old < length text)
  pub refused : OnErr result (new ≡ old)

-- the edits of a text, in the order of making
abbrev pub edits_of : Changes → List Edit
edits_of all = map edit_of all.first.now ++ all.then_edits.now

-- where the edit begins
abbrev pub edit_place : Edit → ℕ
edit_place (Cut at) = at.from
edit_place (Insert place text) = place

-- the edit with this number, and the edits with these
abbrev pub numbered : List Edit → ℕ → Edit
numbered edits i = slice_index_or edits i (Cut (record { from = 0; to = 0 }))

abbrev pub picked : List Edit → List ℕ → List Edit
picked edits order = map (numbered edits) order

-- no edit begins before the place
abbrev pub AllFrom : ℕ → List Edit → Type 0
AllFrom place [] = Unit {0}
AllFrom place (e ∷ edits) = (place ≤ edit_place e) × AllFrom place edits

-- no edit begins before an earlier one
abbrev pub IsByPlace : List Edit → Type 0
IsByPlace [] = Unit {0}
IsByPlace (e ∷ edits) = AllFrom (edit_place e) edits × IsByPlace edits

-- every edit begins at the place or before it
abbrev pub AllUpTo : ℕ → List Edit → Type 0
AllUpTo place [] = Unit {0}
AllUpTo place (e ∷ edits) = (edit_place e ≤ place) × AllUpTo place edits

-- two lists of edits that make the same of every text
pub record SameEdits (xs ys : List Edit) : Type 0 where
  pub inserts : (i : ℕ) → inserted_at xs i ≡ inserted_at ys i
  pub cuts : (i : ℕ) → is_cut xs i ≡ is_cut ys i

-- numbers of edits, by the places of these
pub record IsOrder (edits : List Edit) (order : List ℕ) : Type 0 where
  pub known : All (λ i. i < length edits) order
  pub by_place : IsByPlace (picked edits order)

-- an edit at the place goes between these numbers: behind all edits that begin at it
pub record IsGap (edits : List Edit) (order : List ℕ) (gap place : ℕ) : Type 0 where
  pub before : AllUpTo place (picked edits (take gap order))
  pub behind : AllFrom (suc place) (picked edits (drop gap order))

-- the edits, of which none begins behind `last`, are made of the bytes before `last`, and what they insert there is written; behind it the bytes before `from` are cut
pub record IsSwept (edits : List Edit) (b : List ℕ) (last : ℕ) (so_far : Progress) (room out : List ℕ) : Type 0 where
  pub inside : last ≤ length b
  pub reached : last ≤ so_far.from
  pub written : IsWrittenSoFar room out so_far.len (edited_from edits 0 (take last b) ++ inserted_at edits last)
  pub quiet : (k : ℕ) → last < k → k ≤ length b → inserted_at edits k ≡ []
  pub cuts : (k : ℕ) → last ≤ k → k < length b → is_cut edits k ≡ nat_lt k so_far.from
