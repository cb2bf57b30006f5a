-- An expression or a statement that is read without a refusal is there.
use Rattle.std.proofs.Common.{◌≡◌, ◌+◌, nat_le, if◌then◌else◌, List, [], ◌∷◌, map, Option, Some, None, refl, sym, subst}
use Rattle.pv_values.specs.declared.value.Val.{Val}
use Rattle.pv_values.specs.declared.operator.BinOp.{BinOp}
use Rattle.pv_values.specs.declared.refusal.Place.{Place}
use Rattle.cfg_tree.specs.declared.raw.RawVariable.{RawVariable}
use Rattle.cfg_tree.specs.declared.raw.RawCall.{RawCall}
use Rattle.cfg_tree.specs.declared.raw.RawCall.TheVariants as call
use Rattle.cfg_tree.specs.declared.raw.RawExpr.{RawExpr}
use Rattle.cfg_tree.specs.declared.raw.RawExpr.TheOpen.{RawExpr-F}
use Rattle.cfg_tree.specs.declared.raw.RawExpr.TheViews.{roll-RawExpr}
use Rattle.cfg_tree.specs.declared.raw.RawExpr.TheFolds.{fold-roll-RawExpr, ind-RawExpr, map-RawExpr}
use Rattle.cfg_tree.specs.declared.raw.RawStmt.{RawStmt}
use Rattle.cfg_tree.specs.declared.raw.RawStmt.TheOpen.{RawStmt-F}
use Rattle.cfg_tree.specs.declared.raw.RawStmt.TheViews.{roll-RawStmt}
use Rattle.cfg_tree.specs.declared.raw.RawStmt.TheFolds.{fold-roll-RawStmt, ind-RawStmt, map-RawStmt}
use Rattle.cfg_tree.specs.declared.raw.RawBlock.{RawBlock}
use Rattle.cfg_tree.specs.declared.raw.RouteKind.{RouteKind}
use Rattle.cfg_tree.specs.declared.raw.RouteKind.TheVariants.{Route}
use Rattle.cfg_tree.specs.declared.script.Expr.{Expr}
use Rattle.cfg_tree.specs.declared.script.Expr.TheOpen.{Expr-F}
use Rattle.cfg_tree.specs.declared.script.Expr.TheViews.{roll-Expr}
use Rattle.cfg_tree.specs.declared.script.Stmt.{Stmt}
use Rattle.cfg_tree.specs.declared.script.Stmt.TheOpen.{Stmt-F}
use Rattle.cfg_tree.specs.declared.script.Stmt.TheViews.{roll-Stmt}
use Rattle.cfg_tree.specs.Names.{Known, layer_of, part_of}
use Rattle.cfg_tree.specs.Functions.{function_call, block_number, pattern_number}
use Rattle.cfg_tree.specs.Checks.{call_in, myself, expr_step, expr_in, target_in, found_as, found, target_of, numbered, flat, all_in, maybe_expr, stmt_step, stmt_in, body_in}
use Rattle.cfg_tree.specs.Refusals.{refusal, Refusal, Seen, Checked, accepted, one, each}
use Rattle.cfg_calls.proofs.Valued.{Stands, Valued, AllValued, some_left, none_is_some, both_empty, accepted_valued, one_valued, both_valued, three_valued, each_valued, map_valued, unless_valued}
use Rattle.cfg_calls.proofs.ValuedNames.{layer_of_valued, part_of_valued}
use Rattle.cfg_calls.proofs.ValuedFunctions.{function_call_valued, block_number_valued, pattern_number_valued}
use Rattle.cfg_tree.specs.declared.refusal_kind.RefusalKind.{RefusalKind}
use Rattle.cfg_tree.specs.declared.refusal_kind.RefusalKind.TheVariants.{NotWritable, TooLarge}

-- ---- expressions

call_valued : (known : Known) (kind : RouteKind) (c : RawCall) → Valued (call_in known kind c)
call_valued known kind (call.Function w args) =
    one_valued (λ f. roll-Expr (Expr-F.Call f.0 f.1)) (function_call known kind w args) (function_call_valued known kind w args)
call_valued known kind (call.Route w) = one_valued (λ b. roll-Expr (Expr-F.Route b)) (block_number known Route w) (block_number_valued known Route w)

abbrev ExprValued : Known → RouteKind → RawExpr → Type 0
ExprValued known kind e = Valued (expr_in known kind e)

-- an expression with a proof beside it
abbrev Proved : Known → RouteKind → Type 0
Proved known kind = (e : RawExpr) × ExprValued known kind e

members_valued : (known : Known) (kind : RouteKind) (ys : List (Proved known kind)) →
    AllValued (map (expr_in known kind) (map (λ (e : Proved known kind). e.0) ys))
members_valued known kind [] = tt
members_valued known kind (y ∷ ys) = (y.1, members_valued known kind ys)

links_valued : (known : Known) (kind : RouteKind) (ys : List (BinOp × Proved known kind)) →
    AllValued {A = BinOp × Expr} (map (λ (l : BinOp × Checked Expr). one (λ e. (l.0, e)) l.1)
    (map (λ (c : BinOp × RawExpr). (c.0, expr_in known kind c.1)) (map (λ (c : BinOp × Proved known kind). (c.0, c.1.0)) ys)))
links_valued known kind [] = tt
links_valued known kind (y ∷ ys) = (one_valued (λ e. (y.0, e)) (expr_in known kind y.1.0) y.1.1, links_valued known kind ys)

expr_layer : (known : Known) (kind : RouteKind) (y : RawExpr-F (Proved known kind)) →
    Valued (expr_step known kind (map-RawExpr _ _ (expr_in known kind) (map-RawExpr _ _ (λ e. e.0) y)))
expr_layer known kind (RawExpr-F.Number n) = accepted_valued (roll-Expr (Expr-F.Int n))
expr_layer known kind (RawExpr-F.String w) = accepted_valued (roll-Expr (Expr-F.Text w.text))
expr_layer known kind (RawExpr-F.Variable v) = one_valued (λ p. roll-Expr (Expr-F.Read p)) (part_of known v.at v.variable) (part_of_valued known v.at v.variable)
expr_layer known kind (RawExpr-F.Call c) = call_valued known kind c
expr_layer known kind (RawExpr-F.Not a) = one_valued (λ e. roll-Expr (Expr-F.Not e)) (expr_in known kind a.0) a.1
expr_layer known kind (RawExpr-F.Negative a) = one_valued (λ e. roll-Expr (Expr-F.Negative e)) (expr_in known kind a.0) a.1
expr_layer known kind (RawExpr-F.Chain a links) =
    both_valued (λ e ls. roll-Expr (Expr-F.Chain e ls)) (expr_in known kind a.0) _ a.1 (each_valued _ (links_valued known kind links))
expr_layer known kind (RawExpr-F.Matches a w) =
    both_valued (λ e p. roll-Expr (Expr-F.Matches e p)) (expr_in known kind a.0) (pattern_number w.at w.text) a.1 (pattern_number_valued w.at w.text)
expr_layer known kind (RawExpr-F.All ms) = one_valued (λ es. roll-Expr (Expr-F.All es)) _ (each_valued _ (members_valued known kind ms))
expr_layer known kind (RawExpr-F.Any ms) = one_valued (λ es. roll-Expr (Expr-F.Any es)) _ (each_valued _ (members_valued known kind ms))
expr_layer known kind (RawExpr-F.Myself is) = accepted_valued (myself is)

expr_valued : (known : Known) (kind : RouteKind) (e : RawExpr) → ExprValued known kind e
expr_valued known kind = ind-RawExpr (ExprValued known kind) (λ x y is. subst (λ x. ExprValued known kind (roll-RawExpr x)) is (
    let x = map-RawExpr (Proved known kind) RawExpr (λ e. e.0) y in
    subst (λ (m : Checked Expr). Valued m) (sym (fold-roll-RawExpr (Checked Expr) (expr_step known kind) x)) (expr_layer known kind y)))

-- ---- statements

found_as_stands : {B : Type 0} (refusal_kind : RefusalKind) (at : Place) (rs : List Refusal) (s : Seen) (o : Option B) → Stands (found_as refusal_kind at rs s o)
found_as_stands k at rs s None = record { gives = λ e. absurd (some_left _ _ (both_empty rs (refusal k at ∷ []) e).1) }
found_as_stands k at rs s (Some b) = record { gives = λ e. (b, refl) }

found_stands : {A B : Type 0} (refusal_kind : RefusalKind) (at : Place) (f : A → Option B) (rs : List Refusal) (s : Seen) (o : Option A) → (rs ≡ [] → (a : A) × (o ≡ Some a)) →
    Stands (found refusal_kind at f rs s o)
found_stands k at f rs s None there = record { gives = λ e. absurd (none_is_some _ (there e).1) }
found_stands k at f rs s (Some a) there = found_as_stands k at rs s (f a)

target_valued : (known : Known) (kind : RouteKind) (v : RawVariable) → Valued (target_of known kind v)
target_valued known kind v = record {
  after = λ s.
      let read = layer_of known v.at v.variable s in
      found_stands NotWritable v.at (target_in kind) read.refusals read.seen read.value ((layer_of_valued known v.at v.variable).after s).gives;
}

numbered_valued : (at : Place) (m : Checked (List Stmt)) → Valued m → Valued (numbered at m)
numbered_valued at m vm = record {
  after = λ s.
      (unless_valued (if nat_le 50000 s.statements then Some (refusal TooLarge at) else None) m vm).after
      (record s { statements = s.statements + 1 });
}

all_in_valued : (ms : List (Checked (List Stmt))) → AllValued ms → Valued (all_in ms)
all_in_valued ms all = one_valued flat (each ms) (each_valued ms all)

maybe_expr_valued : (known : Known) (kind : RouteKind) (o : Option RawExpr) → Valued (maybe_expr known kind o)
maybe_expr_valued known kind None = accepted_valued None
maybe_expr_valued known kind (Some e) = one_valued Some (expr_in known kind e) (expr_valued known kind e)

abbrev StmtValued : Known → RouteKind → RawStmt → Type 0
StmtValued known kind s = Valued (stmt_in known kind s)

-- a statement with a proof beside it
abbrev ProvedStmt : Known → RouteKind → Type 0
ProvedStmt known kind = (s : RawStmt) × StmtValued known kind s

stmts_valued : (known : Known) (kind : RouteKind) (ys : List (ProvedStmt known kind)) →
    AllValued (map (stmt_in known kind) (map (λ (e : ProvedStmt known kind). e.0) ys))
stmts_valued known kind [] = tt
stmts_valued known kind (y ∷ ys) = (y.1, stmts_valued known kind ys)

group_valued : (known : Known) (kind : RouteKind) (ys : List (ProvedStmt known kind)) →
    Valued (all_in (map (stmt_in known kind) (map (λ (e : ProvedStmt known kind). e.0) ys)))
group_valued known kind ys = all_in_valued _ (stmts_valued known kind ys)

cases_valued : (known : Known) (kind : RouteKind) (ys : List (Val × List (ProvedStmt known kind))) →
    AllValued {A = Val × List Stmt} (map (λ (c : Val × List (Checked (List Stmt))). one (λ ss. (c.0, ss)) (all_in c.1))
    (map (λ (c : Val × List RawStmt). (c.0, map (stmt_in known kind) c.1)) (map (λ (c : Val × List (ProvedStmt known kind)). (c.0, map (λ (e : ProvedStmt known kind). e.0) c.1)) ys)))
cases_valued known kind [] = tt
cases_valued known kind (y ∷ ys) = (one_valued (λ ss. (y.0, ss)) _ (group_valued known kind y.1), cases_valued known kind ys)

stmt_layer : (known : Known) (kind : RouteKind) (y : RawStmt-F (ProvedStmt known kind)) →
    Valued (stmt_step known kind (map-RawStmt _ _ (stmt_in known kind) (map-RawStmt _ _ (λ e. e.0) y)))
stmt_layer known kind (RawStmt-F.If at e s None) = numbered_valued at _
    (three_valued (λ e first second. roll-Stmt (Stmt-F.If e first second) ∷ []) (expr_in known kind e) (stmt_in known kind s.0) (accepted [])
    (expr_valued known kind e) s.1 (accepted_valued []))
stmt_layer known kind (RawStmt-F.If at e s (Some other)) = numbered_valued at _
    (three_valued (λ e first second. roll-Stmt (Stmt-F.If e first second) ∷ []) (expr_in known kind e) (stmt_in known kind s.0) (stmt_in known kind other.0)
    (expr_valued known kind e) s.1 other.1)
stmt_layer known kind (RawStmt-F.While at e s) = numbered_valued at _
    (both_valued (λ e body. roll-Stmt (Stmt-F.While e body) ∷ []) (expr_in known kind e) (stmt_in known kind s.0) (expr_valued known kind e) s.1)
stmt_layer known kind (RawStmt-F.Switch at e cases default) = numbered_valued at _
    (three_valued (λ e cs last. roll-Stmt (Stmt-F.Switch e cs last) ∷ []) (expr_in known kind e) _ _
    (expr_valued known kind e) (each_valued _ (cases_valued known kind cases)) (group_valued known kind default))
stmt_layer known kind (RawStmt-F.Set at v e) = numbered_valued at _
    (both_valued (λ t e. roll-Stmt (Stmt-F.Set t e) ∷ []) (target_of known kind v) (expr_in known kind e) (target_valued known kind v) (expr_valued known kind e))
stmt_layer known kind (RawStmt-F.Do at c) = numbered_valued at _ (one_valued (λ e. roll-Stmt (Stmt-F.Do e) ∷ []) (call_in known kind c) (call_valued known kind c))
stmt_layer known kind (RawStmt-F.Return at e) = numbered_valued at _
    (one_valued (λ e. roll-Stmt (Stmt-F.Return e) ∷ []) (maybe_expr known kind e) (maybe_expr_valued known kind e))
stmt_layer known kind (RawStmt-F.Exit at) = numbered_valued at _ (accepted_valued (roll-Stmt Stmt-F.Exit ∷ []))
stmt_layer known kind (RawStmt-F.Drop at) = numbered_valued at _ (accepted_valued (roll-Stmt Stmt-F.Drop ∷ []))
stmt_layer known kind (RawStmt-F.Break at) = numbered_valued at _ (accepted_valued (roll-Stmt Stmt-F.Break ∷ []))
stmt_layer known kind (RawStmt-F.Group at ss) = numbered_valued at _ (group_valued known kind ss)
stmt_layer known kind (RawStmt-F.Empty at) = numbered_valued at _ (accepted_valued [])

stmt_valued : (known : Known) (kind : RouteKind) (s : RawStmt) → StmtValued known kind s
stmt_valued known kind = ind-RawStmt (StmtValued known kind) (λ x y is. subst (λ x. StmtValued known kind (roll-RawStmt x)) is (
    let x = map-RawStmt (ProvedStmt known kind) RawStmt (λ e. e.0) y in
    subst (λ (m : Checked (List Stmt)). Valued m) (sym (fold-roll-RawStmt (Checked (List Stmt)) (stmt_step known kind) x)) (stmt_layer known kind y)))

pub body_valued : (known : Known) (b : RawBlock) → Valued (body_in known b)
body_valued known b = one_valued flat (each (map (stmt_in known b.kind) b.body)) (map_valued (stmt_in known b.kind) (stmt_valued known b.kind) b.body)
