-- The place of several tokens, by the first of them and the last.
use Rattle.std.proofs.Common.{◌≡◌, ℕ, ◌-◌, ◌≤◌, List, [], ◌∷◌, length, get_or, refl, sym, ap, arith}
use Rattle.cfg_tree.specs.declared.token.Token.{Token}
use Rattle.cfg_tree.specs.Tokens.{end_behind, whole}

last_end : (ts : List Token) (end : ℕ) (t : Token) → 1 ≤ length ts → t ≡ get_or ts (length ts - 1) t → end_behind end ts ≡ t.at.to
last_end [] end t some is = absurd (omega arith)
last_end (x ∷ []) end t some is = ap (λ t. t.at.to) (sym is)
last_end (x ∷ y ∷ ts) end t some is = last_end (y ∷ ts) x.at.to t (omega arith) (grind (arith, is))

pub whole_of : (ts : List Token) (first last : Token) → 2 ≤ length ts → first ≡ get_or ts 0 first → last ≡ get_or ts (length ts - 1) last →
    record { from = first.at.from; to = last.at.to } ≡ whole ts
whole_of [] first last some begins ends = absurd (omega arith)
whole_of (x ∷ ts) first last some begins ends =
    let from : x.at.from ≡ first.at.from = ap (λ t. t.at.from) (sym begins) in
    let to : end_behind 0 (x ∷ ts) ≡ last.at.to = last_end (x ∷ ts) 0 last (omega arith) ends in
    rw from (rw to refl)

pub whole_one : (ts : List Token) (only : Token) → length ts ≡ 1 → only ≡ get_or ts 0 only → only.at ≡ whole ts
whole_one [] only one is = absurd (omega arith)
whole_one (x ∷ []) only one is = ap (λ t. t.at) is
whole_one (x ∷ y ∷ ts) only one is = absurd (omega arith)

pub ruleset ends = (whole_of, whole_one)
