use Rattle.std.proofs.Common.{◌≡◌, ◌≤◌, take, subst, ℕ, List, arith}
use Rattle.std.proofs.lemmas.List.{take_all}
use Rattle.std.proofs.lemmas.Option.{get_or_from_slice_get}
use Rattle.std.specs.Prelude.{slice_index}
use Rattle.msg_edits.specs.declared.parts.Edit.TheVariants.{Cut}
use Rattle.msg_edits.specs.Change.{edit_of}
use Rattle.msg_edits.specs.Writing.{edits_of, edit_place, picked, IsSwept}
use Rattle.msg_edits.proofs.Grown.{same_edited}
use Rattle.msg_edits.proofs.Swept.{none_swept, one_swept, past_swept, all_swept}
use Rattle.msg_edits.proofs.changes.Changes.sweep.Goals as goal

pub loop-i-init : goal.loop-i-init
loop-i-init c = none_swept (edits_of c.args.self.now) c.args.order.now c.args.b.now c.args.out.now c.requires.order.by_place

pub loop-i-preserved-then-place-b : goal.loop-i-preserved-then-place-b
loop-i-preserved-then-place-b c =
    let edits = edits_of c.args.self.now in
    let order = c.args.order.now in
    let i = c.loop-i.i-index in
    let e = edit_of c.get-change.result in
    let is = get_or_from_slice_get edits (slice_index order i) e (Cut (record { from = 0; to = 0 })) c.get-change.ensures in
    past_swept edits order c.args.b.now i e c.loop-i.so_far c.args.out.now c.loop-i.out (omega arith) is (rw c.place-place.ensures at c.if-place-b.true) c.loop-i.invariant

pub loop-i-preserved : goal.loop-i-preserved
loop-i-preserved c =
    let edits = edits_of c.args.self.now in
    let order = c.args.order.now in
    let b = c.args.b.now in
    let room = c.args.out.now in
    let i = c.loop-i.i-index in
    let e = edit_of c.get-change.result in
    let is = get_or_from_slice_get edits (slice_index order i) e (Cut (record { from = 0; to = 0 })) c.get-change.ensures in
    let moved = rw c.place-place.ensures at c.with_bytes-so_far.ensures in
    one_swept edits order b i e c.loop-i.so_far c.with_change-so_far.result room c.loop-i.out c.with_change-so_far.new.out (omega arith) is c.loop-i.invariant
    (λ (le : c.loop-i.invariant.last ≤ edit_place e) (s : IsSwept (picked edits (take i order)) b c.loop-i.invariant.last c.loop-i.so_far room c.loop-i.out). c.with_change-so_far.ensures (picked edits (take i order)) b room (moved (picked edits (take i order)) c.loop-i.invariant.last room le s))

pub returns : goal.returns
returns c =
    let edits = edits_of c.args.self.now in
    let order = c.args.order.now in
    let room = c.args.out.now in
    let all : take c.loop-i.i-index order ≡ order = take_all c.loop-i.i-index order (omega arith) in
    let swept = subst (λ (o : List ℕ). IsSwept (picked edits o) c.args.b.now c.loop-i.invariant.last c.loop-i.so_far room c.loop-i.out) all c.loop-i.invariant.swept in
    rw (← same_edited (picked edits order) edits c.requires.whole c.args.b.now) (all_swept (picked edits order) c.args.b.now c.with_bytes.result room c.with_bytes.new.out (c.with_bytes.ensures (picked edits order) c.loop-i.invariant.last room swept.inside swept))
