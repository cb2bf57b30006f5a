-- What follows the check of an expression with several parts.
use Rattle.std.proofs.Common.{◌≡◌, ℕ, List, map, Option, refl, sym, ap, ◌∙◌, subst}
use Rattle.std.specs.Prelude.{IfOk}
use Rattle.std.specs.declared.result.Result.{Result}
use Rattle.std.proofs.lemmas.Simd.{map-map}
use Rattle.std.specs.declared.alloc.AllocError.{AllocError}
use Rattle.pv_values.specs.declared.operator.BinOp.{BinOp}
use Rattle.cfg_tree.specs.declared.raw.Word.{Word}
use Rattle.cfg_tree.specs.declared.raw.RouteKind.{RouteKind}
use Rattle.cfg_tree.specs.declared.raw.RawExpr.{RawExpr}
use Rattle.cfg_tree.specs.declared.raw.RawExpr.TheVariants.{Chain, Matches, rolls-Chain, rolls-Matches}
use Rattle.cfg_tree.specs.declared.raw.RawExpr.TheOpen.{RawExpr-F}
use Rattle.cfg_tree.specs.declared.raw.RawExpr.TheFolds.{fold-roll-RawExpr}
use Rattle.cfg_tree.specs.declared.script.Expr.{Expr}
use Rattle.cfg_tree.specs.declared.script.Expr.TheOpen.{Expr-F}
use Rattle.cfg_tree.specs.declared.script.Expr.TheViews.{roll-Expr}
use Rattle.cfg_tree.specs.Names.{Known}
use Rattle.cfg_tree.specs.Functions.{pattern_number}
use Rattle.cfg_tree.specs.Refusals.{Checked, join, both, one, each}
use Rattle.cfg_tree.specs.Checks.{expr_step, expr_in}
use Rattle.cfg_calls.specs.Following.{CheckState, Follows}
use Rattle.cfg_calls.proofs.Follows.{follows_both, ok_follows}

-- an operand of a chain, with the operator before it
abbrev pub link_in : Known → RouteKind → BinOp × RawExpr → Checked (BinOp × Expr)
link_in known kind l = one (λ e. (l.0, e)) (expr_in known kind l.1)

chain_is : (known : Known) (kind : RouteKind) (a : RawExpr) (links : List (BinOp × RawExpr)) →
    expr_in known kind (Chain a links) ≡ both (λ e ls. roll-Expr (Expr-F.Chain e ls)) (expr_in known kind a) (each (map (link_in known kind) links))
chain_is known kind a links =
    ap (expr_in known kind) (sym (rolls-Chain a links)) ∙ fold-roll-RawExpr (Checked Expr) (expr_step known kind) (RawExpr-F.Chain a links)
    ∙ ap (λ ls. both (λ e ls. roll-Expr (Expr-F.Chain e ls)) (expr_in known kind a) (each ls)) (map-map (λ (l : BinOp × Checked Expr). one (λ e. (l.0, e)) l.1) (λ (l : BinOp × RawExpr). (l.0, expr_in known kind l.1)) links)

pub chain_follows : (known : Known) (kind : RouteKind) (e a a' : RawExpr) (links links' : List (BinOp × RawExpr)) (r : Result (Option Expr) AllocError) (v : Option Expr) (w : Option (List (BinOp × Expr))) (s t u : CheckState) →
    e ≡ Chain a links → a' ≡ a → links' ≡ links → Follows (expr_in known kind a') s v t → Follows (each (map (link_in known kind) links')) t w u →
    IfOk r (λ x. x ≡ join (λ e ls. roll-Expr (Expr-F.Chain e ls)) v w) → IfOk r (λ x. Follows (expr_in known kind e) s x u)
chain_follows known kind e a a' links links' r v w s t u is same sames first second made =
    let f = expr_in known kind a in
    let g = each (map (link_in known kind) links) in
    let one : Follows f s v t = subst (λ x. Follows (expr_in known kind x) s v t) same first in
    let two : Follows g t w u = subst (λ ls. Follows (each (map (link_in known kind) ls)) t w u) sames second in
    let both_are = follows_both (λ e ls. roll-Expr (Expr-F.Chain e ls)) f g s t u v w (join (λ e ls. roll-Expr (Expr-F.Chain e ls)) v w) one two refl in
    let whole : Follows (expr_in known kind e) s (join (λ e ls. roll-Expr (Expr-F.Chain e ls)) v w) u =
    subst (λ m. Follows m s (join (λ e ls. roll-Expr (Expr-F.Chain e ls)) v w) u) (sym (ap (expr_in known kind) is ∙ chain_is known kind a links)) both_are in
    ok_follows (expr_in known kind e) s u (join (λ e ls. roll-Expr (Expr-F.Chain e ls)) v w) r whole made

matches_is : (known : Known) (kind : RouteKind) (a : RawExpr) (word : Word) →
    expr_in known kind (Matches a word) ≡ both (λ e p. roll-Expr (Expr-F.Matches e p)) (expr_in known kind a) (pattern_number word.at word.text)
matches_is known kind a word =
    ap (expr_in known kind) (sym (rolls-Matches a word)) ∙ fold-roll-RawExpr (Checked Expr) (expr_step known kind) (RawExpr-F.Matches a word)

pub matches_follows : (known : Known) (kind : RouteKind) (e a a' : RawExpr) (word : Word) (source : List ℕ) (r : Result (Option Expr) AllocError) (v : Option Expr) (w : Option ℕ) (s t u : CheckState) →
    e ≡ Matches a word → a' ≡ a → source ≡ word.text → Follows (expr_in known kind a') s v t → Follows (pattern_number word.at source) t w u →
    IfOk r (λ x. x ≡ join (λ e p. roll-Expr (Expr-F.Matches e p)) v w) → IfOk r (λ x. Follows (expr_in known kind e) s x u)
matches_follows known kind e a a' word source r v w s t u is same text first second made =
    let f = expr_in known kind a in
    let g = pattern_number word.at word.text in
    let one : Follows f s v t = subst (λ x. Follows (expr_in known kind x) s v t) same first in
    let two : Follows g t w u = subst (λ x. Follows (pattern_number word.at x) t w u) text second in
    let both_are = follows_both (λ e p. roll-Expr (Expr-F.Matches e p)) f g s t u v w (join (λ e p. roll-Expr (Expr-F.Matches e p)) v w) one two refl in
    let whole : Follows (expr_in known kind e) s (join (λ e p. roll-Expr (Expr-F.Matches e p)) v w) u =
    subst (λ m. Follows m s (join (λ e p. roll-Expr (Expr-F.Matches e p)) v w) u) (sym (ap (expr_in known kind) is ∙ matches_is known kind a word)) both_are in
    ok_follows (expr_in known kind e) s u (join (λ e p. roll-Expr (Expr-F.Matches e p)) v w) r whole made
