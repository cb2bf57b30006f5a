-- A text cut at its semicolons, part by part.
use Rattle.std.proofs.Common.{◌≡◌, ℕ, suc, ◌+◌, false, ◌==◌, List, [], ◌∷◌, length, take, drop, Option, Some, None, refl, ◌∙◌, ap, sym, inl, inr, arith}
use Rattle.std.proofs.lemmas.Bool.{cases_Bool, false≢true}
use Rattle.cfg_settings.proofs.Standing.{take_one}
use Rattle.cfg_tree.specs.Variables.{before}
use Rattle.cfg_tree.specs.Settings.{TableParts, at_semicolons, without_empty_end, with_part, with_parts}

-- the parts of a text
abbrev pub parts_of : List ℕ → List (List ℕ)
parts_of text = without_empty_end (at_semicolons text)

drop_one : (n c : ℕ) (cs : List ℕ) → drop (1 + n + 1) (c ∷ cs) ≡ drop (n + 1) cs
drop_one n c cs = let e : 1 + n + 1 ≡ suc (n + 1) = omega arith in rw e refl

-- the first part, and the others
cut : (text : List ℕ) → (ps : List (List ℕ)) × (at_semicolons text ≡ take (before 59 text) text ∷ ps) × (without_empty_end ps ≡ parts_of (drop (before 59 text + 1) text))
cut [] = ([], refl, refl)
cut (c ∷ cs) = elim (cases_Bool (c == 59)) [
  | inl t ↦ (at_semicolons cs, rw t refl, rw t refl)
  | inr f ↦
      let more = cut cs in
      let n = before 59 cs in
      (more.0, rw (f, more.1, take_one n c cs) refl, rw (f, drop_one n c cs) more.2)
]

walked : (text : List ℕ) → (length text == 0) ≡ false → parts_of text ≡ take (before 59 text) text ∷ parts_of (drop (before 59 text + 1) text)
walked [] some = absurd (false≢true (sym some))
walked (c ∷ cs) some = elim (cases_Bool (c == 59)) [
  | inl t ↦ let more = cut cs in rw (t, more.1) refl
  | inr f ↦
      let more = cut cs in
      let n = before 59 cs in
      rw (f, more.1, take_one n c cs, drop_one n c cs) (ap (λ ps. (c ∷ take n cs) ∷ ps) more.2)
]

refused_stays : (parts : List (List ℕ)) → with_parts parts None ≡ None
refused_stays [] = refl
refused_stays (p ∷ ps) = refused_stays ps

-- one part more, and one that is refused
pub part_taken : {x : Option TableParts} (text part rest : List ℕ) (t u : TableParts) → x ≡ with_parts (parts_of text) (Some t) → (length text == 0) ≡ false → part ≡ take (before 59 text) text → rest ≡ drop (before 59 text + 1) text → with_part part (Some t) ≡ Some u → x ≡ with_parts (parts_of rest) (Some u)
part_taken text part rest t u e some front back is =
    let more = parts_of (drop (before 59 text + 1) text) in
    e ∙ rw (walked text some, back) (ap (with_parts more) (ap (λ p. with_part p (Some t)) (sym front) ∙ is))

pub part_refused : {x : Option TableParts} (text part : List ℕ) (t : TableParts) → x ≡ with_parts (parts_of text) (Some t) → (length text == 0) ≡ false → part ≡ take (before 59 text) text → with_part part (Some t) ≡ None → x ≡ None
part_refused text part t e some front is =
    let more = parts_of (drop (before 59 text + 1) text) in
    e ∙ rw (walked text some) (ap (with_parts more) (ap (λ p. with_part p (Some t)) (sym front) ∙ is) ∙ refused_stays more)
