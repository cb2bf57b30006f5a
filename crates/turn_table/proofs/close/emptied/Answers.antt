use Rattle.std.proofs.Common.{◌≡◌, [], ◌∷◌, ◌++◌, List, Bool, false, length, get_or, set, arith, sym, ap, ◌∙◌, get_or-set_other, get_or-set_same}
use Rattle.std.specs.Slots.{slots_items, slots_len, slots_filled, slots_counts}
use mathlib.Core.Logic.{dite}
use mathlib.Core.Option.{some}
use lib.ListN.{get_elem?}
use native.Mathlib.Decide.{ℕ_discrete}
use Rattle.turn_table.proofs.Passes.{get_there}
use Rattle.turn_table.proofs.close.emptied.Goals as goal

pub loop-i-preserved : goal.loop-i-preserved
loop-i-preserved g c = let i = c.loop-i.invariant in let t = c.take.ensures in let p = c.push_reserved.ensures in let n = c.loop-i.i in
    let before : slots_len c.loop-i.closed.slots ≡ slots_len c.args.closed.slots = i.len in
    let now : slots_len c.take.new.self.slots ≡ slots_len c.loop-i.closed.slots = t.others.2 in
    let filled : List Bool = slots_filled c.loop-i.closed.slots in
    let counts : slots_len c.loop-i.closed.slots ≡ length filled = (slots_counts c.loop-i.closed.slots).1 in
    let end = c.slot_count-i-end.ensures in let test = c.loop-i-test.true in
    let found : get_elem? (slots_items c.args.closed.slots) n ≡ some c.take.result = ap (λ l. get_elem? l n) (sym i.items) ∙ t.value in
    record {
      full = λ k l u. ap (λ l. get_or l k false) t.others.1 ∙ (get_or-set_other filled n k false false (λ e. omega arith) ∙ i.full k (omega arith) (omega arith));
      taken = λ k l. ap (λ l. get_or l k false) t.others.1 ∙ dite (ℕ_discrete k n)
          (λ e. ap (λ z. get_or (set filled n false) z false) e ∙ get_or-set_same filled n false false (omega arith))
          (λ ne. get_or-set_other filled n k false false ne ∙ i.taken k (omega arith));
      items = t.others.0 ∙ i.items;
      len = t.others.2 ∙ i.len;
      values = p.items ∙ (ap (λ l. l ++ c.take.result ∷ []) i.values ∙ get_there (slots_items c.args.closed.slots) n c.take.result found);
      room = p.capacity ∙ i.room;
    }
