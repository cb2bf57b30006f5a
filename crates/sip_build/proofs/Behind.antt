-- A piece that is written behind a text.
use Rattle.std.proofs.Common.{◌≡◌, ℕ, ◌+◌, ◌-◌, ◌^◌, ◌<◌, ◌≤◌, List, [], ◌++◌, length, take, drop, min, refl, sym, ap, ◌∙◌, arith, append_assoc, length-take, length-drop, length-append}
use Rattle.std.proofs.lemmas.List.{append-nil, take_at, drop_at, drop-drop, take_all, drop_all}
use Rattle.msg_edits.specs.Writing.{IsWrittenSoFar}

grouped : (a b c : List ℕ) → a ++ ((b ++ c) ++ []) ≡ (a ++ b) ++ c
grouped a b c = simp (append_assoc, append-nil)

bytes_behind : (room text piece new : List ℕ) (len : ℕ) → len ≡ length text → length text ≤ length room → new ≡ piece ++ drop (length piece) (drop (length text) room) → take len (text ++ drop (length text) room) ++ (new ++ []) ≡ (text ++ piece) ++ drop (length (text ++ piece)) room
bytes_behind room text piece new len n le e =
    let front = take_at text (drop (length text) room) len (sym n) in
    let back : drop (length piece) (drop (length text) room) ≡ drop (length (text ++ piece)) room = drop-drop (length piece) (length text) room ∙ ap (λ (m : ℕ). drop m room) (omega (arith, length-append text piece)) in
    rw (front, e, back) (grouped text piece (drop (length (text ++ piece)) room))

whole_rest : (xs : List ℕ) (n : ℕ) → length xs ≤ n → take n xs ≡ xs
whole_rest xs n le = take_all n xs le

-- new is what the rest of the room behind len becomes
pub written_behind : (room out text piece new : List ℕ) (len n end : ℕ) → length out < 2 ^ 64 → len ≤ length out → IsWrittenSoFar room out len text → IsWrittenSoFar (take (length out - len) (drop len out)) new n piece → end ≡ min (len + n) (2 ^ 64 - 1) → IsWrittenSoFar room (take len out ++ (new ++ drop (length out - len) (drop len out))) end (text ++ piece)
written_behind room out text piece new len n end small le w v e =
    let rest_is : take (length out - len) (drop len out) ≡ drop len out = take_all (length out - len) (drop len out) (omega (arith, length-drop len out)) in
    let none : drop (length out - len) (drop len out) ≡ [] = drop_all (length out - len) (drop len out) (omega (arith, length-drop len out)) in
    let new_len : length new ≡ length out - len = omega (arith, v.same_room, ap (λ (t : List ℕ). length t) rest_is, length-drop len out) in
    record {
      same_room = rw none (omega (arith, length-append (take len out) (new ++ []), length-append new [], length-take len out, w.same_room, new_len));
      count = rw (length-append text piece) (omega (arith, w.count, v.count, e));
      bytes = λ fits.
          let len_sum = length-append text piece in
          let text_fits : length text ≤ length room = omega arith in
          let n_is : len ≡ length text = omega (arith, w.count, w.same_room) in
          let out_is : out ≡ text ++ drop (length text) room = w.bytes text_fits in
          let rest : drop len out ≡ drop (length text) room = ap (λ (t : List ℕ). drop len t) out_is ∙ drop_at text (drop (length text) room) len (sym n_is) in
          let piece_fits : length piece ≤ length (take (length out - len) (drop len out)) = omega (arith, ap (λ (t : List ℕ). length t) rest_is, length-drop len out, w.same_room) in
          let new_is : new ≡ piece ++ drop (length piece) (drop (length text) room) = v.bytes piece_fits ∙ ap (λ (t : List ℕ). piece ++ drop (length piece) t) (rest_is ∙ rest) in
          rw none (ap (λ (t : List ℕ). take len t ++ (new ++ [])) out_is ∙ bytes_behind room text piece new len n_is text_fits new_is);
    }

pub nothing_written : (room : List ℕ) → IsWrittenSoFar room room 0 []
nothing_written room = record { same_room = refl; count = refl; bytes = λ _. refl }
