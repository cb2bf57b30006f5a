use Rattle.std.proofs.Common.{◌≡◌, ◌++◌, take, true, false, append_assoc, sym, ◌∙◌, arith}
use Rattle.std.proofs.lemmas.List.{append-nil, take_all}
use Rattle.msg_edits.specs.Edited.{inserted_at, edited_from, edited}
use Rattle.msg_edits.specs.Writing.{edits_of}
use Rattle.msg_edits.proofs.Pieces.{one_byte}
use Rattle.msg_edits.proofs.changes.Changes.write_each_byte.Goals as goal

pub loop-at-preserved : goal.loop-at-preserved
loop-at-preserved c =
    let edits = edits_of c.args.self.now in
    let b = c.args.b.now in
    let at = c.loop-at.at in
    let so_far = edited_from edits 0 (take at b) in
    let kept = sym c.cuts.ensures ∙ c.if-cuts.false in
    let written = c.put-len.ensures c.args.out.now (so_far ++ inserted_at edits at) (c.put_inserts-len.ensures c.args.out.now so_far c.loop-at.invariant) in
    rw (one_byte edits b at false (omega arith) kept) (rw append_assoc at written)

pub loop-at-preserved-then-cuts : goal.loop-at-preserved-then-cuts
loop-at-preserved-then-cuts c =
    let edits = edits_of c.args.self.now in
    let b = c.args.b.now in
    let at = c.loop-at.at in
    let so_far = edited_from edits 0 (take at b) in
    let cut = sym c.cuts.ensures ∙ c.if-cuts.true in
    let written = c.put_inserts-len.ensures c.args.out.now so_far c.loop-at.invariant in
    let none = append-nil (inserted_at edits at) in
    rw (one_byte edits b at true (omega arith) cut, none) written

pub returns : goal.returns
unfolding edited
returns c =
    let edits = edits_of c.args.self.now in
    let b = c.args.b.now in
    let all : take c.loop-at.at b ≡ b = take_all c.loop-at.at b (omega arith) in
    let written = c.put_inserts.ensures c.args.out.now (edited_from edits 0 (take c.loop-at.at b)) c.loop-at.invariant in
    rw all at written
