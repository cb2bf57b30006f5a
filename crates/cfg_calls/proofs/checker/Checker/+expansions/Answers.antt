use Rattle.std.proofs.Common.{◌≡◌, Some, map, sym, subst}
use Rattle.std.specs.Prelude.{option_map}
use Rattle.cfg_tree.specs.Variables.{pieces_of}
use Rattle.cfg_tree.specs.Names.{named, transformation_names}
use Rattle.cfg_tree.specs.Refusals.{accepted, from_some}
use Rattle.cfg_lex.specs.Pieces.{as_piece}
use Rattle.cfg_calls.specs.Following.{Follows}
use Rattle.cfg_calls.proofs.Expansions.{answered, no_pieces, by_pieces, transformed_by}
use Rattle.cfg_calls.proofs.Follows.{each_item, each_whole}
use Rattle.cfg_calls.proofs.checker.Checker.+expansions.Goals as goal
use Rattle.cfg_tree.specs.declared.refusal_kind.RefusalKind.TheVariants.{UnknownVariable}

pub expansion_within-returns-in_default : goal.expansion_within-returns-in_default
expansion_within-returns-in_default t c =
    let none = subst (λ o. option_map (λ v. map as_piece v.items) o ≡ pieces_of c.args.text.now) c.in_default.is c.in_ok-pieces.ensures in
    answered c.refuse.result _ _ _ _ (no_pieces c.args.depth c.args.known.now c.args.at c.args.text.now none) c.refuse.ensures

pub expansion_within-loop-piece-preserved : goal.expansion_within-loop-piece-preserved
expansion_within-loop-piece-preserved t c =
    each_item _ c.deref-piece-items.result.now c.loop-piece.piece-index c.piece-item.result _ _ _ _ _ _ c.loop-piece-test.true c.piece-item.is c.loop-piece.invariant c.in_ok-part.ensures c.in_ok-parts.ensures

pub expansion_within-returns : goal.expansion_within-returns
expansion_within-returns t c =
    let some = subst (λ o. option_map (λ v. map as_piece v.items) o ≡ pieces_of c.args.text.now) c.in-Some.is c.in_ok-pieces.ensures in
    let some' = subst (λ ps. Some (map as_piece ps) ≡ pieces_of c.args.text.now) (sym c.deref-piece-items.ensures.value) some in
    by_pieces c.args.depth c.args.known.now c.args.at c.args.text.now c.deref-piece-items.result.now _ _ _ some'
    (each_whole _ c.deref-piece-items.result.now c.loop-piece.piece-index _ _ _ c.loop-piece-test.false c.loop-piece.invariant)

pub variable_within-returns-in_ok-transformation-in-Some : goal.variable_within-returns-in_ok-transformation-in-Some
variable_within-returns-in_ok-transformation-in-Some t c =
    let found = subst (λ n. Follows (from_some (named n transformation_names) UnknownVariable c.args.at accepted) c.untransformed.new.self c.in_ok-transformation-in-Some.transformation c.transformation.new.self) c.bytes.ensures c.in_ok-transformation-in-Some.ensures in
    transformed_by c.args.known.now _ c.args.at c.args.v.now c.in-Some.name _ _ _ _ _ c.transformed.result c.in-Some.is c.in_ok-part.ensures found c.transformed.ensures
