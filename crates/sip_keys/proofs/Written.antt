-- A text that is written part by part.
use Rattle.std.proofs.Common.{◌≡◌, ℕ, ◌+◌, ◌-◌, ◌^◌, ◌≤◌, min, List, [], ◌∷◌, ◌++◌, length, length-append, drop, refl, sym, ap, ◌∙◌, append_assoc, arith}
use Rattle.std.specs.Fmt.{decimal}
use Rattle.sip_words.specs.Room.{IsWrittenSoFar}
use Rattle.sip_keys.specs.declared.branch.Branch.{Branch}
use Rattle.sip_keys.specs.Branches.{branch_text, numbers_text, front_text}

-- before anything is written
pub start : (room : List ℕ) → IsWrittenSoFar room room 0 []
start room = record { same_room = refl; count = refl; bytes = λ h. refl }

abbrev joined : (f s g b : List ℕ) → List ℕ
joined f s g b = (((((([] ++ f) ++ 46 ∷ []) ++ s) ++ 46 ∷ []) ++ g) ++ 46 ∷ []) ++ b

parts : (f s g b : List ℕ) → joined f s g b ≡ f ++ 46 ∷ (s ++ 46 ∷ (g ++ 46 ∷ b))
parts f s g b = simp append_assoc

joined_len : (f s g b : List ℕ) → length (joined f s g b) ≡ length f + length s + length g + length b + 3
joined_len f s g b = simp length-append (omega arith)

-- the seven parts of a branch's text, which fit
pub whole : (room out f s g b : List ℕ) (epoch : ℕ) (br : Branch) (len : ℕ) → f ≡ front_text epoch → s ≡ decimal br.slot
    → g ≡ decimal br.generation → b ≡ decimal br.b → length f + length s + length g + length b + 3 ≤ 64 → 64 ≤ length room
    → IsWrittenSoFar room out len (joined f s g b)
    → (len ≡ length (branch_text epoch br)) × (out ≡ branch_text epoch br ++ drop len room)
unfolding branch_text numbers_text
whole room out f s g b epoch br len ef es eg eb short wide h =
    let spelled : f ++ 46 ∷ (s ++ 46 ∷ (g ++ 46 ∷ b)) ≡ branch_text epoch br = rw (ef, es, eg, eb) refl in
    let text : joined f s g b ≡ branch_text epoch br = parts f s g b ∙ spelled in
    let fits : length (joined f s g b) ≤ 64 = omega (arith, joined_len f s g b, short) in
    let count : len ≡ length (joined f s g b) = counted (length (joined f s g b)) len fits h.count in
    let bytes : out ≡ joined f s g b ++ drop (length (joined f s g b)) room = h.bytes (omega (arith, fits, wide)) in
    (count ∙ ap length text, bytes ∙ ap (λ n. joined f s g b ++ drop n room) (sym count) ∙ ap (λ t. t ++ drop len room) text)
  where
    counted : (n len : ℕ) → n ≤ 64 → len ≡ min n (2 ^ 64 - 1) → len ≡ n
    counted n len low e = grind arith
