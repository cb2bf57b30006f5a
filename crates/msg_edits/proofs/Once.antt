-- No byte is cut twice.
use Rattle.std.proofs.Common.{◌≡◌, ℕ, ◌+◌, ◌≤◌, true, false, cond, List, [], ◌∷◌, ◌++◌, take, refl, inl, inr, arith}
use Rattle.std.specs.List.{sum_by, count_by}
use Rattle.std.proofs.lemmas.Bool.{cases_Bool}
use Rattle.std.proofs.lemmas.List.Sums.{sum_by_push, sum_by-cons, sum_by-take-le}
use Rattle.sip_words.specs.declared.Span.{Span}
use Rattle.msg_edits.specs.declared.parts.Edit.{Edit}
use Rattle.msg_edits.specs.declared.parts.Edit.TheVariants.{Cut, Insert}
use Rattle.msg_edits.specs.Edited.{has_byte, cuts_byte, is_cut}
use Rattle.msg_edits.specs.Causes.{MeetsCut}
use Rattle.msg_edits.specs.Laws.{IsCutOnce}

abbrev pub cuts : ℕ → Edit → ℕ
cuts i e = cond (cuts_byte i e) 1 0

-- a byte that no cut has is counted in none, and one that a cut has in at least one
none_counted : (edits : List Edit) (i : ℕ) → is_cut edits i ≡ false → count_by (cuts_byte i) edits ≡ 0
none_counted [] i h = refl
none_counted (e ∷ edits) i h =
    let sum = sum_by-cons (cuts i) e edits in
    elim (cases_Bool (cuts_byte i e)) [
      | inl hit ↦ absurd (grind arith)
      | inr miss ↦ let zero : cuts i e ≡ 0 = rw miss refl in let rest = none_counted edits i (rw miss at h) in omega arith
    ]

some_counted : (edits : List Edit) (i : ℕ) → is_cut edits i ≡ true → 1 ≤ count_by (cuts_byte i) edits
some_counted [] i h = absurd (cc)
some_counted (e ∷ edits) i h =
    let sum = sum_by-cons (cuts i) e edits in
    elim (cases_Bool (cuts_byte i e)) [
      | inl hit ↦ let one : cuts i e ≡ 1 = rw hit refl in omega arith
      | inr miss ↦ let rest = some_counted edits i (rw miss at h) in omega arith
    ]

pub once_cut : (edits : List Edit) (at : Span) → IsCutOnce edits → (MeetsCut edits at → ⊥) → IsCutOnce (edits ++ Cut at ∷ [])
once_cut edits at once apart = λ i.
    let sum = sum_by_push (cuts i) edits (Cut at) in
    elim (cases_Bool (has_byte at i)) [
      | inl hit ↦ elim (cases_Bool (is_cut edits i)) [
        | inl cut ↦ absurd (apart (i, hit, cut))
        | inr kept ↦ let none = none_counted edits i kept in let s : sum_by (cuts i) (edits ++ Cut at ∷ []) ≡ sum_by (cuts i) edits + 1 = rw hit at sum in omega arith
      ]
      | inr miss ↦ let s : sum_by (cuts i) (edits ++ Cut at ∷ []) ≡ sum_by (cuts i) edits + 0 = rw miss at sum in let before = once i in omega arith
    ]

pub once_insert : (edits : List Edit) (place : ℕ) (new : List ℕ) → IsCutOnce edits → IsCutOnce (edits ++ Insert place new ∷ [])
once_insert edits place new once = λ i. let sum = sum_by_push (cuts i) edits (Insert place new) in let before = once i in omega arith

pub once_take : (edits : List Edit) (n : ℕ) → IsCutOnce edits → IsCutOnce (take n edits)
once_take edits n once = λ i. let le = sum_by-take-le (cuts i) edits n in let before = once i in omega arith

-- the last cut of a list in which no byte is cut twice meets no earlier one
pub last_apart : (edits : List Edit) (at : Span) → IsCutOnce (edits ++ Cut at ∷ []) → MeetsCut edits at → ⊥
last_apart edits at once (i, hit, cut) =
    let sum = sum_by_push (cuts i) edits (Cut at) in
    let s : sum_by (cuts i) (edits ++ Cut at ∷ []) ≡ sum_by (cuts i) edits + 1 = rw hit at sum in
    let some = some_counted edits i cut in
    let all = once i in
    omega arith
