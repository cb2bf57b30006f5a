use Rattle.std.proofs.Common.{◌∙◌, ap, rules}
use Rattle.std.specs.Map.{lookup}
use Rattle.std.proofs.Math.Logic.{∥∥₁_map}
use Rattle.cfg_calls.proofs.Heads.{added_again, added_new}
use Rattle.cfg_calls.proofs.HeadTests.{tests}
use Rattle.cfg_calls.specs.contracts.head.BlockHeadPartialEq.TheImpl.{eq-value}
use Rattle.cfg_calls.proofs.index.BlockIndex.with.Goals.{then-is_none+in_ok-key+in-Ok, else-is_none}
use Rattle.cfg_calls.proofs.index.BlockIndex.with.Goals as goal

pub invariant_of-result : goal.invariant_of-result
invariant_of-result c = elim c.if-is_none.branch [
  | then-is_none+in_ok-key+in-Ok w ↦
      ∥∥₁_map c.self.invariant (added_new (eq-value.it c.args.head) eq-value.it c.self.inside.places.entries c.if-is_none.places.entries c.self.inside.heads.items c.push.new.self.items w.in_ok-key.key c.args.head w.len.result c.get.result (tests c.args.head) tests
      c.get.ensures.value w.if-is_none.ensures w.in_ok-key.ensures (w.len.ensures ∙ search rules) (λ q. ap (λ m. lookup (eq-value.it q) m.entries) w.places-is ∙ w.in-Ok.ensures.updates.0 q) c.in_ok-push.ensures.items)
  | else-is_none w ↦
      ∥∥₁_map c.self.invariant (added_again (eq-value.it c.args.head) c.self.inside.places.entries c.if-is_none.places.entries c.self.inside.heads.items c.push.new.self.items c.args.head c.get.result (tests c.args.head)
      c.get.ensures.value w.if-is_none.ensures (ap (λ m. m.entries) w.places-is) c.in_ok-push.ensures.items)
]
