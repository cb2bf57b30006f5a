-- That edits fit, and what is made of edits one after another.
use Rattle.std.proofs.Common.{◌≡◌, ℕ, ◌+◌, ◌<◌, ◌≤◌, Bool, true, false, not, ◌&&◌, ◌||◌, List, [], ◌∷◌, ◌++◌, length, take, refl, sym, ap, ◌∙◌, subst, inl, inr, arith, append_assoc, max, min, ltb}
use Rattle.std.specs.Prelude.{Result, Ok, Err, MatchResult}
use Rattle.std.specs.List.{list_any}
use Rattle.std.proofs.Math.Seq.{take-append_seam}
use Rattle.std.proofs.lemmas.Bool.{cases_Bool}
use Rattle.std.proofs.lemmas.Bool.Decides.{nat_tests}
use Rattle.std.proofs.lemmas.List.{append-nil}
use Rattle.sip_words.specs.declared.Span.{Span}
use Rattle.msg_edits.specs.declared.parts.Edit.{Edit}
use Rattle.msg_edits.specs.declared.parts.Edit.TheVariants.{Cut, Insert}
use Rattle.msg_edits.specs.declared.list.EditFault.{EditFault}
use Rattle.msg_edits.specs.declared.list.EditFault.TheVariants.{Overlap, Full, NoMemory}
use Rattle.msg_edits.specs.Edited.{has_byte, cuts_byte, is_cut}
use Rattle.msg_edits.specs.Causes.{MeetsCut, CanCut, RefusesCut, RefusesInsert}
use Rattle.host_meaning.specs.Headers.{shares_byte, meets, fits, all_fit}
use Rattle.message_functions.specs.Edits.{GoesOn, Makes, MakesOne}

-- ---- one edit

shares_has : (a b : Span) → shares_byte a b ≡ true → (i : ℕ) × (has_byte b i ≡ true) × (has_byte a i ≡ true)
shares_has a b e = (max a.from b.from, grind (arith, nat_tests), grind (arith, nat_tests))

has_shares : (a b : Span) (i : ℕ) → has_byte b i ≡ true → has_byte a i ≡ true → shares_byte a b ≡ true
has_shares a b i e f = grind (arith, nat_tests)

met : (edits : List Edit) (at : Span) → list_any (meets at) edits ≡ true → MeetsCut edits at
met [] at e = absurd (cc)
met (Cut earlier ∷ edits) at e =
    elim (cases_Bool (shares_byte earlier at)) [
      | inl t ↦ let h = shares_has earlier at t in (h.0, h.1, rw h.2 refl)
      | inr f ↦ let h = met edits at (rw f at e) in (h.0, h.1, rw h.2 (or_true (has_byte earlier h.0)))
    ]
  where
    or_true : (b : Bool) → (b || true) ≡ true
    or_true true = refl
    or_true false = refl
met (Insert place text ∷ edits) at e = met edits at e

meets_one : (edits : List Edit) (at : Span) → MeetsCut edits at → list_any (meets at) edits ≡ true
meets_one [] at h = absurd (cc)
meets_one (Cut earlier ∷ edits) at h =
    elim (cases_Bool (has_byte earlier h.0)) [
      | inl t ↦ rw (has_shares earlier at h.0 h.1 t) refl
      | inr f ↦ rw (meets_one edits at (h.0, h.1, rw f at h.2)) (or_true (shares_byte earlier at))
    ]
  where
    or_true : (b : Bool) → (b || true) ≡ true
    or_true true = refl
    or_true false = refl
meets_one (Insert place text ∷ edits) at h = meets_one edits at h

cut_fits : (edits : List Edit) (at : Span) → CanCut edits at → fits edits (Cut at) ≡ true
cut_fits edits at h =
    elim (cases_Bool (list_any (meets at) edits)) [
      | inl t ↦ absurd (h.1 (met edits at t))
      | inr f ↦ let few : ltb (length edits) 64 ≡ true = grind (arith, nat_tests) in rw (few, f) refl
    ]

cut_refused : (edits : List Edit) (at : Span) (fault : EditFault) → RefusesCut edits at fault → fits edits (Cut at) ≡ false
cut_refused edits at Full h = let full : ltb (length edits) 64 ≡ false = grind (arith, nat_tests) in rw full refl
cut_refused edits at Overlap h = let few : ltb (length edits) 64 ≡ true = grind (arith, nat_tests) in rw (few, meets_one edits at h.1) refl
cut_refused edits at NoMemory h = absurd h

-- ---- edits one after another

all_fit_append : (old xs ys : List Edit) → all_fit old (xs ++ ys) ≡ (all_fit old xs && all_fit (old ++ xs) ys)
all_fit_append old [] ys = rw append-nil refl
all_fit_append old (e ∷ xs) ys =
    elim (cases_Bool (fits old e)) [
      | inl t ↦ rw t (all_fit_append (old ++ e ∷ []) xs ys ∙ ap (λ (l : List Edit). all_fit (old ++ e ∷ []) xs && all_fit l ys) (append_assoc old (e ∷ []) xs))
      | inr f ↦ rw f refl
    ]

pub makes_none : (old : List Edit) → Makes old [] old true
makes_none old = record { fit = refl; made = λ _. sym (append-nil old); goes_on = ([], sym (append-nil old)) }

-- one edit that fits, and one that doesn't
pub makes_one : (old new : List Edit) (e : Edit) → fits old e ≡ true → new ≡ old ++ e ∷ [] → Makes old (e ∷ []) new true
makes_one old new e fit is = record { fit = rw fit refl; made = λ _. is; goes_on = (e ∷ [], is) }

pub refuses_one : (old new : List Edit) (e : Edit) → fits old e ≡ false → new ≡ old → Makes old (e ∷ []) new false
refuses_one old new e fit is = record { fit = rw fit refl; made = λ t. absurd (cc); goes_on = ([], is ∙ sym (append-nil old)) }

pub cut_made : (old new : List Edit) (at : Span) → CanCut old at → new ≡ old ++ Cut at ∷ [] → Makes old (Cut at ∷ []) new true
cut_made old new at can is = makes_one old new (Cut at) (cut_fits old at can) is

pub cut_not_made : (old new : List Edit) (at : Span) (fault : EditFault) → RefusesCut old at fault → new ≡ old → Makes old (Cut at ∷ []) new false
cut_not_made old new at fault cause is = refuses_one old new (Cut at) (cut_refused old at fault cause) is

pub insert_made : (old new : List Edit) (place : ℕ) (text : List ℕ) → length old < 64 → new ≡ old ++ Insert place text ∷ [] → MakesOne old (Insert place text) new true
insert_made old new place text few is = record { fit = grind (arith, nat_tests); made = is }

pub insert_not_made : (old new : List Edit) (place : ℕ) (text : List ℕ) → 64 ≤ length old → new ≡ old → MakesOne old (Insert place text) new false
insert_not_made old new place text full is = record { fit = grind (arith, nat_tests); made = is }

pub one_makes : (old : List Edit) (e : Edit) (new : List Edit) (done : Bool) → MakesOne old e new done → Makes old (e ∷ []) new done
one_makes old e new true h = makes_one old new e h.fit h.made
one_makes old e new false h = refuses_one old new e h.fit h.made

-- what was made goes on, or ends at an edit that doesn't fit
goes_on_on : (old mid new : List Edit) → GoesOn old mid → GoesOn mid new → GoesOn old new
goes_on_on old mid new h k = (h.0 ++ k.0, k.1 ∙ ap (λ (l : List Edit). l ++ k.0) h.1 ∙ append_assoc old h.0 k.0)

pub makes_more : (old mid new xs ys : List Edit) (b : Bool) → Makes old xs mid true → Makes mid ys new b → Makes old (xs ++ ys) new b
makes_more old mid new xs ys b h k =
    let is = h.made refl in record {
      fit = all_fit_append old xs ys ∙ rw h.fit (ap (λ (l : List Edit). all_fit l ys) (sym is) ∙ k.fit);
      made = λ t. k.made t ∙ ap (λ (l : List Edit). l ++ ys) is ∙ append_assoc old xs ys;
      goes_on = goes_on_on old mid new h.goes_on k.goes_on;
    }

pub makes_stops : (old new xs ys : List Edit) → Makes old xs new false → Makes old (xs ++ ys) new false
makes_stops old new xs ys h = record {
  fit = all_fit_append old xs ys ∙ rw h.fit refl;
  made = λ t. absurd (cc);
  goes_on = h.goes_on;
}

-- all but the old ones are forgotten
pub forgotten : (old new : List Edit) → GoesOn old new → take (length old) new ≡ old
forgotten old new h = ap (λ (l : List Edit). take (length old) l) h.1 ∙ take-append_seam old h.0

-- the edits that stood before
pub old_edits : (old mid now : List Edit) (n : ℕ) → n ≡ length old → now ≡ mid → GoesOn old mid → take n now ≡ old
old_edits old mid now n len is h = rw (len, is) (forgotten old mid h)
