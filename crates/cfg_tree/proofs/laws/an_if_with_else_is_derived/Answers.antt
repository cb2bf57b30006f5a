use Rattle.std.proofs.Common.{refl, inl, [], ◌∷◌}
use Rattle.cfg_tree.specs.Grammar.{nothing, one_item, block, named, named_route, one_more, no_stmt, if_else, exits, group_of, one_and, one_comparison, one_sum, one_product, one_unary, not_of, variable}
use Rattle.cfg_tree.proofs.laws.an_if_with_else_is_derived.Goals as goal

pub returns : goal.returns
returns c = one_item _ [] _ _ (block _ (_ ∷ _ ∷ _ ∷ _ ∷ []) _ _ _ _ _ _ _ refl (named _ _ _ _ _ _ (named_route _ refl) refl refl refl) refl
    (one_more _ _ _ _ [] _ _
    (if_else _ _ _ _ (_ ∷ _ ∷ []) (_ ∷ _ ∷ []) _ _ _ _ _ _ _ _ refl refl refl
    (one_and _ _ _ (one_comparison _ _ _ (one_sum _ _ _ (one_product _ _ _ (one_unary _ _ _
    (not_of _ _ _ _ (inl refl) (variable _ _ _ refl)))))))
    refl (exits _ _ _ _ refl refl) refl (group_of _ _ _ [] _ _ _ refl refl (no_stmt _ _) refl))
    (no_stmt _ _)) refl) nothing
