use Rattle.std.proofs.Common.{◌≡◌, List, sym, subst, ap, arith}
use Rattle.txn_store.specs.declared.index.IndexPlace.{IndexPlace}
use Rattle.slot_lists.specs.Lists.{Listed}
use Rattle.txn_store.specs.Hashed.{IsIndex}
use Rattle.txn_store.proofs.Indexed.{of_vacant}
use Rattle.txn_store.proofs.index.Index.of_generation.Goals as goal

pub invariant_of-result : goal.invariant_of-result
invariant_of-result c =
    let e = ap (λ (l : Listed). l.lists) c.in_ok-new.ensures in
    subst (λ (x : List IndexPlace). IsIndex x c.args.state c.in_ok-new.field-0 c.in_ok-new-2.field-0) (sym c.in_ok-vacant_places.ensures)
    (of_vacant c.args.slots c.args.generation c.args.state c.in_ok-new.field-0 c.in_ok-new-2.field-0 (omega arith) (let r = c.requires in omega arith) (ap (λ (l : Listed). l.places) c.in_ok-new.ensures) c.in_ok-new-2.ensures.room c.in_ok-new-2.ensures.all)
