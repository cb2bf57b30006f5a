-- A text that is longer than the room doesn't read; the front of the room is the text that was written.
use Rattle.std.proofs.Common.{◌≡◌, ℕ, ◌<◌, true, false, List, ◌++◌, length, take, drop, refl, sym, ap, ◌∙◌, arith, ltb, true≢false, Bool, []}
use Rattle.std.specs.Prelude.{Ok, Err, if◌then◌else◌}
use Rattle.txn_dialogue.specs.Sends.{kept_of}
use Rattle.std.proofs.Math.Seq.{take-append_seam}
use Rattle.std.proofs.lemmas.Bool.Decides.{nat_tests}
use Rattle.sip_msg.specs.Table.{fault_of}
use Rattle.msg_edits.specs.declared.writing.TooLong.{TooLong}
use Rattle.msg_edits.specs.Writing.{IsWritten}
use Rattle.host_meaning.specs.Run.{is_readable}

too_long : (text : List ℕ) → 8192 < length text → is_readable text ≡ false
unfolding fault_of
too_long text h = let long : ltb 8192 (length text) ≡ true = grind (arith, nat_tests) in rw long refl

pub written_front : (text old new : List ℕ) (len : ℕ) → IsWritten text old new (Ok len) → take len new ≡ text
written_front text old new len w = ap (λ (l : List ℕ). take len l) w.written ∙ ap (λ (n : ℕ). take n (text ++ drop len old)) w.len ∙ take-append_seam text (drop len old)

pub no_room : (text old new : List ℕ) (e : TooLong) → IsWritten text old new (Err e) → length old ≡ 8192 → is_readable text ≡ false
no_room text old new e w full = too_long text (omega (arith, w.no_room))

-- a text that reads has room
pub has_room : (text old new : List ℕ) (e : TooLong) → IsWritten text old new (Err e) → length old ≡ 8192 → is_readable text ≡ true → ⊥
has_room text old new e w full reads = absurd (true≢false (sym reads ∙ no_room text old new e w full))

-- of one that doesn't read nothing is kept
pub nothing_kept : (text : List ℕ) → is_readable text ≡ false → [] ≡ kept_of text
nothing_kept text e = sym (ap (λ (b : Bool). if b then text else []) e)
