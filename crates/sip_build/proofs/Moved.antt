-- Bytes that are put into a text in its room.
use Rattle.std.proofs.Common.{◌≡◌, ℕ, ◌+◌, ◌-◌, ◌≤◌, List, ◌++◌, length, take, drop, ap, ◌∙◌, arith, append_assoc, length-take, length-drop, length-append, Some}
use Rattle.std.proofs.lemmas.List.{drop_at, take-append-le, take-take, drop-take, drop-drop}
use Rattle.sip_build.specs.WithField.{empty_line, with_field}

grouped : (a b c d : List ℕ) → a ++ (b ++ (c ++ d)) ≡ (a ++ (b ++ c)) ++ d
grouped a b c d = simp append_assoc

-- the room, in which what stands from a place on was moved by n bytes
moved_by : (out : List ℕ) (place len n : ℕ) → List ℕ
moved_by out place len n = take (place + n) out ++ take (len - place) (drop place out) ++ drop (place + n + (len - place)) out

front_stays : (out : List ℕ) (place len n : ℕ) → place + n ≤ length out → take place (moved_by out place len n) ≡ take place out
unfolding moved_by
front_stays out place len n le =
    let front = take (place + n) out in
    let rest = take (len - place) (drop place out) ++ drop (place + n + (len - place)) out in
    let long : place ≤ length front = omega (arith, length-take (place + n) out) in
    ap (λ (t : List ℕ). take place t) (append_assoc front (take (len - place) (drop place out)) (drop (place + n + (len - place)) out)) ∙ take-append-le place front rest long ∙ take-take place (place + n) out (omega arith)

back_moves : (out : List ℕ) (place len n : ℕ) → place + n ≤ length out → drop (place + n - place) (drop place (moved_by out place len n)) ≡ take (len - place) (drop place out) ++ drop (place + n + (len - place)) out
unfolding moved_by
back_moves out place len n le =
    let front = take (place + n) out in
    let rest = take (len - place) (drop place out) ++ drop (place + n + (len - place)) out in
    let count : length front ≡ place + n = omega (arith, length-take (place + n) out) in
    let whole = append_assoc front (take (len - place) (drop place out)) (drop (place + n + (len - place)) out) in
    drop-drop (place + n - place) place (moved_by out place len n) ∙ ap (λ (k : ℕ). drop k (moved_by out place len n)) (omega arith) ∙ ap (λ (t : List ℕ). drop (place + n) t) whole ∙ drop_at front rest (place + n) count

pub field_added : (out bytes : List ℕ) (place len end : ℕ) → empty_line (take len out) ≡ Some place → place ≤ len → len ≤ length out → end ≡ len + length bytes → end ≤ length out → take place (take (place + length bytes) out ++ take (len - place) (drop place out) ++ drop (place + length bytes + (len - place)) out) ++ (bytes ++ drop (place + length bytes - place) (drop place (take (place + length bytes) out ++ take (len - place) (drop place out) ++ drop (place + length bytes + (len - place)) out))) ≡ with_field (take len out) bytes ++ drop end out
unfolding moved_by with_field
field_added out bytes place len end found low high n fits =
    let front = front_stays out place len (length bytes) (omega arith) in
    let back = back_moves out place len (length bytes) (omega arith) in
    let tail : place + length bytes + (len - place) ≡ end = omega arith in
    let middle : drop place (take len out) ≡ take (len - place) (drop place out) = ap (λ (k : ℕ). drop place (take k out)) (omega arith) ∙ drop-take place (len - place) out in
    let first : take place (take len out) ≡ take place out = take-take place len out low in
    rw (front, back, found, tail) (rw (first, middle) (grouped (take place out) bytes (take (len - place) (drop place out)) (drop end out)))

pub with_field_length : (text bytes : List ℕ) (place : ℕ) → empty_line text ≡ Some place → place ≤ length text → length (with_field text bytes) ≡ length text + length bytes
unfolding with_field
with_field_length text bytes place found low = rw found (omega (arith, length-append (take place text) (bytes ++ drop place text), length-append bytes (drop place text), length-take place text, length-drop place text))
