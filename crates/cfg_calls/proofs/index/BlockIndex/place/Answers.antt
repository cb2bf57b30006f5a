use Rattle.std.proofs.Common.{◌∙◌, rules}
use Rattle.std.proofs.Math.Logic.{∥∥₁_map}
use Rattle.cfg_calls.proofs.Heads.{place_found, known_place}
use Rattle.cfg_calls.proofs.index.BlockIndex.place.Goals as goal

pub returns : goal.returns
returns c =
    c.copied.ensures ∙ c.get.ensures.value
    ∙ known_place _ _ (∥∥₁_map c.self.invariant (λ all. place_found _ c.args.head.now _ _ _ (λ k. search rules) all c.self.view_is))
