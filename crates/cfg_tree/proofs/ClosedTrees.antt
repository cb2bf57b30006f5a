-- An expression or a statement that is read names what is there.
use Rattle.std.proofs.Common.{◌≡◌, ◌+◌, Bool, true, false, nat_le, nat_lt, ◌&&◌, if◌then◌else◌, List, [], ◌∷◌, ◌++◌, map, IfSome, Option, Some, None, refl, sym, ap, ◌∙◌, subst}
use Rattle.std.specs.List.{list_all}
use Rattle.std.proofs.lemmas.Bool.{and_from, and_parts}
use Rattle.pv_values.specs.declared.value.Val.{Val}
use Rattle.pv_values.specs.declared.variable.PvUse.TheVariants.{Myself}
use Rattle.pv_values.specs.declared.operator.BinOp.{BinOp}
use Rattle.pv_values.specs.declared.refusal.Place.{Place}
use Rattle.cfg_tree.specs.declared.raw.RawVariable.{RawVariable}
use Rattle.cfg_tree.specs.declared.raw.RawCall.{RawCall}
use Rattle.cfg_tree.specs.declared.raw.RawCall.TheVariants as call
use Rattle.cfg_tree.specs.declared.raw.RawExpr.{RawExpr}
use Rattle.cfg_tree.specs.declared.raw.RawExpr.TheOpen.{RawExpr-F}
use Rattle.cfg_tree.specs.declared.raw.RawExpr.TheViews.{roll-RawExpr}
use Rattle.cfg_tree.specs.declared.raw.RawExpr.TheFolds.{fold-roll-RawExpr, ind-RawExpr, map-RawExpr}
use Rattle.cfg_tree.specs.declared.raw.RawStmt.{RawStmt}
use Rattle.cfg_tree.specs.declared.raw.RawStmt.TheOpen.{RawStmt-F}
use Rattle.cfg_tree.specs.declared.raw.RawStmt.TheViews.{roll-RawStmt}
use Rattle.cfg_tree.specs.declared.raw.RawStmt.TheFolds.{fold-roll-RawStmt, ind-RawStmt, map-RawStmt}
use Rattle.cfg_tree.specs.declared.raw.RawBlock.{RawBlock}
use Rattle.cfg_tree.specs.declared.raw.RouteKind.{RouteKind}
use Rattle.cfg_tree.specs.declared.raw.RouteKind.TheVariants.{Route}
use Rattle.cfg_tree.specs.declared.script.Part.TheOpen.{Part-F}
use Rattle.cfg_tree.specs.declared.script.Part.TheViews.{roll-Part}
use Rattle.cfg_tree.specs.declared.script.Part.TheFolds.{fold-roll-Part}
use Rattle.cfg_tree.specs.declared.script.Expr.{Expr}
use Rattle.cfg_tree.specs.declared.script.Expr.TheOpen.{Expr-F}
use Rattle.cfg_tree.specs.declared.script.Expr.TheViews.{roll-Expr}
use Rattle.cfg_tree.specs.declared.script.Expr.TheFolds.{fold-roll-Expr, map-Expr}
use Rattle.cfg_tree.specs.declared.script.Target.{Target}
use Rattle.cfg_tree.specs.declared.script.Target.TheVariants as target
use Rattle.cfg_tree.specs.declared.script.Stmt.{Stmt}
use Rattle.cfg_tree.specs.declared.script.Stmt.TheOpen.{Stmt-F}
use Rattle.cfg_tree.specs.declared.script.Stmt.TheViews.{roll-Stmt}
use Rattle.cfg_tree.specs.declared.script.Stmt.TheFolds.{fold-roll-Stmt, map-Stmt}
use Rattle.cfg_tree.specs.Meaning.{item_of}
use Rattle.cfg_tree.specs.Names.{Known, Layer, layer_of, part_of}
use Rattle.cfg_tree.specs.Functions.{function_call, block_number, pattern_number}
use Rattle.cfg_tree.specs.Checks.{call_in, myself, expr_step, expr_in, may_write, target_in, found_as, found, target_of, numbered, flat, all_in, maybe_expr, stmt_step, stmt_in, body_in}
use Rattle.cfg_tree.specs.Refusals.{refusal, Refusal, Seen, Checked, accepted, one, each}
use Rattle.cfg_tree.specs.Closed as closed
use Rattle.cfg_tree.specs.Closed.{Names, all_closed, closed_part, closed_parts, closed_expr, closed_target, closed_result, closed_stmt, closed_block}
use Rattle.cfg_tree.proofs.Closing.{Within, Closes, AllClose, accepted_closes, one_closes, both_closes, three_closes, each_closes, all_closes, map_closes, unless_closes}
use Rattle.cfg_tree.proofs.ClosedNames.{all_mapped, FineLayer, FinePart, layer_of_closes, part_of_closes}
use Rattle.cfg_tree.proofs.ClosedFunctions.{AreKnown, FineCall, block_number_closes, pattern_number_closes, function_call_closes}
use Rattle.cfg_tree.specs.declared.refusal_kind.RefusalKind.{RefusalKind}
use Rattle.cfg_tree.specs.declared.refusal_kind.RefusalKind.TheVariants.{NotWritable, TooLarge}

module _ (names : Names) where
  abbrev FineExpr : Expr → Type 0
  FineExpr e = closed_expr names e ≡ true

  abbrev FineExprs : List Expr → Type 0
  FineExprs es = list_all (closed_expr names) es ≡ true

  -- what an expression says, of those in it
  expr_rolled : (x : Expr-F Expr) → closed.closed_expr_step names (map-Expr Expr Bool (closed_expr names) x) ≡ true → FineExpr (roll-Expr x)
  expr_rolled x e = fold-roll-Expr Bool (closed.closed_expr_step names) x ∙ e

  members_rolled : (es : List Expr) → FineExprs es → all_closed (map (closed_expr names) es) ≡ true
  members_rolled es e = all_mapped (closed_expr names) es ∙ e

  -- operands, each with the operator before it
  abbrev FineLinks : List (BinOp × Expr) → Type 0
  FineLinks ls = list_all (λ (l : BinOp × Bool). l.1) (map (λ (l : BinOp × Expr). (l.0, closed_expr names l.1)) ls) ≡ true

  read_myself : FineExpr (myself true)
  read_myself = expr_rolled (Expr-F.Read (roll-Part (Part-F.Host Myself))) (fold-roll-Part Bool (closed.closed_part_step names) (Part-F.Host Myself))

  myself_fine : (is : Bool) → FineExpr (myself is)
  myself_fine true = read_myself
  myself_fine false = expr_rolled (Expr-F.Not (myself true)) read_myself

  abbrev FineStmt : Stmt → Type 0
  FineStmt s = closed_stmt names s ≡ true

  abbrev pub FineStmts : List Stmt → Type 0
  FineStmts ss = list_all (closed_stmt names) ss ≡ true

  stmt_rolled : (x : Stmt-F Stmt) → closed.closed_stmt_step names (map-Stmt Stmt Bool (closed_stmt names) x) ≡ true → FineStmts (roll-Stmt x ∷ [])
  stmt_rolled x e = and_from (closed_stmt names (roll-Stmt x)) true (fold-roll-Stmt Bool (closed.closed_stmt_step names) x ∙ e) refl

  stmts_rolled : (ss : List Stmt) → FineStmts ss → all_closed (map (closed_stmt names) ss) ≡ true
  stmts_rolled ss e = all_mapped (closed_stmt names) ss ∙ e

  abbrev FineCases : List (Val × List Stmt) → Type 0
  FineCases cs = list_all (λ (c : Val × List Bool). all_closed c.1) (map (λ (c : Val × List Stmt). (c.0, map (closed_stmt names) c.1)) cs) ≡ true

  abbrev FineTarget : Target → Type 0
  FineTarget t = closed_target names t ≡ true

  append_fine : (xs ys : List Stmt) → FineStmts xs → FineStmts ys → FineStmts (xs ++ ys)
  append_fine [] ys ex ey = ey
  append_fine (x ∷ xs) ys ex ey =
      let parts = and_parts (closed_stmt names x) (list_all (closed_stmt names) xs) ex in
      and_from (closed_stmt names x) (list_all (closed_stmt names) (xs ++ ys)) parts.0 (append_fine xs ys parts.1 ey)

  abbrev pub FineLists : List (List Stmt) → Type 0
  FineLists ls = list_all (closed_block names) ls ≡ true

  flat_fine : (ls : List (List Stmt)) → FineLists ls → FineStmts (flat ls)
  flat_fine [] e = refl
  flat_fine (l ∷ ls) e =
      let parts = and_parts (closed_block names l) (list_all (closed_block names) ls) e in
      append_fine l (flat ls) parts.0 (flat_fine ls parts.1)

  all_in_closes : (ms : List (Checked (List Stmt))) → AllClose names FineStmts ms → Closes names FineStmts (all_in ms)
  all_in_closes ms all = one_closes names flat FineLists FineStmts flat_fine (each ms) (all_closes names (closed_block names) ms all)

  numbered_closes : (at : Place) (m : Checked (List Stmt)) → Closes names FineStmts m → Closes names FineStmts (numbered at m)
  numbered_closes at m cm = record {
    after = λ s within.
        let g = (unless_closes names FineStmts (if nat_le 50000 s.statements then Some (refusal TooLarge at) else None) m cm).after (record s { statements = s.statements + 1 }) within in
        record { before = record { patterns = g.before.patterns; vars = g.before.vars }; fine = g.fine };
  }

  -- ---- targets

  if_fine : (b : Bool) (t : Target) → FineTarget t → IfSome (if b then Some t else None) FineTarget
  if_fine true t e = e
  if_fine false t e = tt

  target_fine : (kind : RouteKind) (x : Layer) → FineLayer names x → IfSome (target_in kind x) FineTarget
  target_fine kind (Part-F.Text t) e = tt
  target_fine kind (Part-F.Var x) e = sym (fold-roll-Part Bool (closed.closed_part_step names) (Part-F.Var x)) ∙ e
  target_fine kind Part-F.Code e = tt
  target_fine kind (Part-F.Host x) e = if_fine (may_write kind x) (target.Host x) (sym (fold-roll-Part Bool (closed.closed_part_step names) (Part-F.Host x)) ∙ e)
  target_fine kind (Part-F.Item way t key) e =
      if_fine (may_write kind (item_of way t [])) (target.Item way t key)
      (ap (λ b. nat_lt t names.tables && b) (sym (all_mapped (closed_part names) key)) ∙ sym (fold-roll-Part Bool (closed.closed_part_step names) (Part-F.Item way t key)) ∙ e)
  target_fine kind (Part-F.Transformed tr p) e = tt

  found_as_fine : (refusal_kind : RefusalKind) (at : Place) (rs : List Refusal) (s : Seen) (o : Option Target) → IfSome o FineTarget → IfSome (found_as refusal_kind at rs s o).value FineTarget
  found_as_fine k at rs s None e = tt
  found_as_fine k at rs s (Some t) e = e

  found_as_seen : (refusal_kind : RefusalKind) (at : Place) (rs : List Refusal) (s : Seen) (o : Option Target) → (found_as refusal_kind at rs s o).seen ≡ s
  found_as_seen k at rs s None = refl
  found_as_seen k at rs s (Some t) = refl

  found_fine : (refusal_kind : RefusalKind) (at : Place) (f : Layer → Option Target) → ((x : Layer) → FineLayer names x → IfSome (f x) FineTarget) → (rs : List Refusal) (s : Seen) (o : Option Layer) →
      IfSome o (FineLayer names) → IfSome (found refusal_kind at f rs s o).value FineTarget
  found_fine k at f made rs s None e = tt
  found_fine k at f made rs s (Some x) e = found_as_fine k at rs s (f x) (made x e)

  found_seen : (refusal_kind : RefusalKind) (at : Place) (f : Layer → Option Target) (rs : List Refusal) (s : Seen) (o : Option Layer) → (found refusal_kind at f rs s o).seen ≡ s
  found_seen k at f rs s None = refl
  found_seen k at f rs s (Some x) = found_as_seen k at rs s (f x)

  module _ (known : Known) (are : AreKnown names known) where
    target_closes : (kind : RouteKind) (v : RawVariable) → Closes names FineTarget (target_of known kind v)
    target_closes kind v = record {
      after = λ s within.
          let read = layer_of known v.at v.variable s in
          let same = found_seen NotWritable v.at (target_in kind) read.refusals read.seen read.value in
          let g = (layer_of_closes names known are.tables v.at v.variable).after s (subst (Within names) same within) in
          record { before = g.before; fine = found_fine NotWritable v.at (target_in kind) (target_fine kind) read.refusals read.seen read.value g.fine };
    }

    -- ---- expressions

    call_closes : (kind : RouteKind) (c : RawCall) → Closes names FineExpr (call_in known kind c)
    call_closes kind (call.Function w args) =
        one_closes names (λ f. roll-Expr (Expr-F.Call f.0 f.1)) (FineCall names known are) FineExpr (λ f fine. expr_rolled (Expr-F.Call f.0 f.1) (and_from _ _ fine.func fine.arguments))
        (function_call known kind w args) (function_call_closes names known are kind w args)
    call_closes kind (call.Route w) =
        one_closes names (λ b. roll-Expr (Expr-F.Route b)) (λ b. names.has_block Route b ≡ true) FineExpr (λ b is. expr_rolled (Expr-F.Route b) is)
        (block_number known Route w) (block_number_closes names known are Route w)

    abbrev ExprCloses : RouteKind → RawExpr → Type 0
    ExprCloses kind e = Closes names FineExpr (expr_in known kind e)

    -- an expression with a proof beside it
    abbrev Proved : RouteKind → Type 0
    Proved kind = (e : RawExpr) × ExprCloses kind e

    members_close : (kind : RouteKind) (ys : List (Proved kind)) → AllClose names FineExpr (map (expr_in known kind) (map (λ (e : Proved kind). e.0) ys))
    members_close kind [] = tt
    members_close kind (y ∷ ys) = (y.1, members_close kind ys)

    abbrev read_links : List (BinOp × Checked Expr) → List (Checked (BinOp × Expr))
    read_links ls = map (λ (l : BinOp × Checked Expr). one (λ e. (l.0, e)) l.1) ls

    links_close : (kind : RouteKind) (ys : List (BinOp × Proved kind)) →
        AllClose names (λ (l : BinOp × Expr). FineExpr l.1) (read_links (map (λ (c : BinOp × RawExpr). (c.0, expr_in known kind c.1)) (map (λ (c : BinOp × Proved kind). (c.0, c.1.0)) ys)))
    links_close kind [] = tt
    links_close kind (y ∷ ys) = (one_closes names (λ e. (y.0, e)) FineExpr (λ (l : BinOp × Expr). FineExpr l.1) (λ e fine. fine) (expr_in known kind y.1.0) y.1.1, links_close kind ys)

    expr_layer : (kind : RouteKind) (y : RawExpr-F (Proved kind)) → Closes names FineExpr (expr_step known kind (map-RawExpr _ _ (expr_in known kind) (map-RawExpr _ _ (λ e. e.0) y)))
    expr_layer kind (RawExpr-F.Number n) = accepted_closes names FineExpr (roll-Expr (Expr-F.Int n)) (expr_rolled (Expr-F.Int n) refl)
    expr_layer kind (RawExpr-F.String w) = accepted_closes names FineExpr (roll-Expr (Expr-F.Text w.text)) (expr_rolled (Expr-F.Text w.text) refl)
    expr_layer kind (RawExpr-F.Variable v) =
        one_closes names (λ p. roll-Expr (Expr-F.Read p)) (FinePart names) FineExpr (λ p fine. expr_rolled (Expr-F.Read p) fine) (part_of known v.at v.variable) (part_of_closes names known are.tables v.at v.variable)
    expr_layer kind (RawExpr-F.Call c) = call_closes kind c
    expr_layer kind (RawExpr-F.Not a) = one_closes names (λ e. roll-Expr (Expr-F.Not e)) FineExpr FineExpr (λ e fine. expr_rolled (Expr-F.Not e) fine) (expr_in known kind a.0) a.1
    expr_layer kind (RawExpr-F.Negative a) = one_closes names (λ e. roll-Expr (Expr-F.Negative e)) FineExpr FineExpr (λ e fine. expr_rolled (Expr-F.Negative e) fine) (expr_in known kind a.0) a.1
    expr_layer kind (RawExpr-F.Chain a links) =
        both_closes names (λ e ls. roll-Expr (Expr-F.Chain e ls)) FineExpr FineLinks FineExpr (λ e ls fine fines. expr_rolled (Expr-F.Chain e ls) (and_from _ _ fine fines)) (expr_in known kind a.0) _ a.1
        (each_closes names (λ (l : BinOp × Expr). FineExpr l.1) FineLinks refl (λ l more p q. and_from _ _ p q) _ (links_close kind links))
    expr_layer kind (RawExpr-F.Matches a w) =
        both_closes names (λ e p. roll-Expr (Expr-F.Matches e p)) FineExpr (λ p. nat_lt p names.patterns ≡ true) FineExpr (λ e p fine is. expr_rolled (Expr-F.Matches e p) (and_from _ _ fine is))
        (expr_in known kind a.0) (pattern_number w.at w.text) a.1 (pattern_number_closes names known are w.at w.text)
    expr_layer kind (RawExpr-F.All ms) =
        one_closes names (λ es. roll-Expr (Expr-F.All es)) FineExprs FineExpr (λ es fine. expr_rolled (Expr-F.All es) (members_rolled es fine)) _ (all_closes names (closed_expr names) _ (members_close kind ms))
    expr_layer kind (RawExpr-F.Any ms) =
        one_closes names (λ es. roll-Expr (Expr-F.Any es)) FineExprs FineExpr (λ es fine. expr_rolled (Expr-F.Any es) (members_rolled es fine)) _ (all_closes names (closed_expr names) _ (members_close kind ms))
    expr_layer kind (RawExpr-F.Myself is) = accepted_closes names FineExpr (myself is) (myself_fine is)

    expr_closes : (kind : RouteKind) (e : RawExpr) → ExprCloses kind e
    expr_closes kind = ind-RawExpr (ExprCloses kind) (λ x y is. subst (λ x. ExprCloses kind (roll-RawExpr x)) is (
        let x = map-RawExpr (Proved kind) RawExpr (λ e. e.0) y in
        subst (λ (m : Checked Expr). Closes names FineExpr m) (sym (fold-roll-RawExpr (Checked Expr) (expr_step known kind) x)) (expr_layer kind y)))

    -- ---- statements

    abbrev FineResult : Option Expr → Type 0
    FineResult e = closed_result names e ≡ true

    result_closes : (kind : RouteKind) (e : Option RawExpr) → Closes names FineResult (maybe_expr known kind e)
    result_closes kind None = accepted_closes names FineResult None refl
    result_closes kind (Some e) = one_closes names Some FineExpr FineResult (λ e fine. fine) (expr_in known kind e) (expr_closes kind e)

    abbrev StmtCloses : RouteKind → RawStmt → Type 0
    StmtCloses kind s = Closes names FineStmts (stmt_in known kind s)

    abbrev ProvedStmt : RouteKind → Type 0
    ProvedStmt kind = (s : RawStmt) × StmtCloses kind s

    stmts_close : (kind : RouteKind) (ys : List (ProvedStmt kind)) → AllClose names FineStmts (map (stmt_in known kind) (map (λ (e : ProvedStmt kind). e.0) ys))
    stmts_close kind [] = tt
    stmts_close kind (y ∷ ys) = (y.1, stmts_close kind ys)

    group_closes : (kind : RouteKind) (ys : List (ProvedStmt kind)) → Closes names FineStmts (all_in (map (stmt_in known kind) (map (λ (e : ProvedStmt kind). e.0) ys)))
    group_closes kind ys = all_in_closes _ (stmts_close kind ys)

    abbrev FineCase : Val × List Stmt → Type 0
    FineCase c = FineStmts c.1

    cases_close : (kind : RouteKind) (ys : List (Val × List (ProvedStmt kind))) →
        AllClose names FineCase (map (λ (c : Val × List (Checked (List Stmt))). one (λ ss. (c.0, ss)) (all_in c.1))
        (map (λ (c : Val × List RawStmt). (c.0, map (stmt_in known kind) c.1)) (map (λ (c : Val × List (ProvedStmt kind)). (c.0, map (λ (e : ProvedStmt kind). e.0) c.1)) ys)))
    cases_close kind [] = tt
    cases_close kind (y ∷ ys) = (one_closes names (λ ss. (y.0, ss)) FineStmts FineCase (λ ss fine. fine) _ (group_closes kind y.1), cases_close kind ys)

    cases_fine : (cs : List (Checked (Val × List Stmt))) → AllClose names FineCase cs → Closes names FineCases (each cs)
    cases_fine cs all = each_closes names FineCase FineCases refl (λ c more p q. and_from _ _ (stmts_rolled c.1 p) q) cs all

    plain_stmt : (x : Stmt-F Stmt) → closed.closed_stmt_step names (map-Stmt Stmt Bool (closed_stmt names) x) ≡ true → Closes names FineStmts (accepted (roll-Stmt x ∷ []))
    plain_stmt x e = accepted_closes names FineStmts (roll-Stmt x ∷ []) (stmt_rolled x e)

    if_rolled : (e : Expr) (first second : List Stmt) → FineExpr e → FineStmts first → FineStmts second → FineStmts (roll-Stmt (Stmt-F.If e first second) ∷ [])
    if_rolled e first second fe ff fs = stmt_rolled (Stmt-F.If e first second) (and_from _ _ (and_from _ _ fe (stmts_rolled first ff)) (stmts_rolled second fs))

    stmt_layer : (kind : RouteKind) (y : RawStmt-F (ProvedStmt kind)) → Closes names FineStmts (stmt_step known kind (map-RawStmt _ _ (stmt_in known kind) (map-RawStmt _ _ (λ e. e.0) y)))
    stmt_layer kind (RawStmt-F.If at e s None) = numbered_closes at _
        (three_closes names (λ e first second. roll-Stmt (Stmt-F.If e first second) ∷ []) FineExpr FineStmts FineStmts FineStmts if_rolled
        (expr_in known kind e) (stmt_in known kind s.0) (accepted []) (expr_closes kind e) s.1 (accepted_closes names FineStmts [] refl))
    stmt_layer kind (RawStmt-F.If at e s (Some other)) = numbered_closes at _
        (three_closes names (λ e first second. roll-Stmt (Stmt-F.If e first second) ∷ []) FineExpr FineStmts FineStmts FineStmts if_rolled
        (expr_in known kind e) (stmt_in known kind s.0) (stmt_in known kind other.0) (expr_closes kind e) s.1 other.1)
    stmt_layer kind (RawStmt-F.While at e s) = numbered_closes at _
        (both_closes names (λ e body. roll-Stmt (Stmt-F.While e body) ∷ []) FineExpr FineStmts FineStmts (λ e body fe fb. stmt_rolled (Stmt-F.While e body) (and_from _ _ fe (stmts_rolled body fb)))
        (expr_in known kind e) (stmt_in known kind s.0) (expr_closes kind e) s.1)
    stmt_layer kind (RawStmt-F.Switch at e cases default) = numbered_closes at _
        (three_closes names (λ e cs last. roll-Stmt (Stmt-F.Switch e cs last) ∷ []) FineExpr FineCases FineStmts FineStmts
        (λ e cs last fe fc fl. stmt_rolled (Stmt-F.Switch e cs last) (and_from _ _ (and_from _ _ fe fc) (stmts_rolled last fl)))
        (expr_in known kind e) _ _ (expr_closes kind e) (cases_fine _ (cases_close kind cases)) (group_closes kind default))
    stmt_layer kind (RawStmt-F.Set at v e) = numbered_closes at _
        (both_closes names (λ t e. roll-Stmt (Stmt-F.Set t e) ∷ []) FineTarget FineExpr FineStmts (λ t e ft fe. stmt_rolled (Stmt-F.Set t e) (and_from _ _ ft fe))
        (target_of known kind v) (expr_in known kind e) (target_closes kind v) (expr_closes kind e))
    stmt_layer kind (RawStmt-F.Do at c) = numbered_closes at _
        (one_closes names (λ e. roll-Stmt (Stmt-F.Do e) ∷ []) FineExpr FineStmts (λ e fe. stmt_rolled (Stmt-F.Do e) fe) (call_in known kind c) (call_closes kind c))
    stmt_layer kind (RawStmt-F.Return at e) = numbered_closes at _
        (one_closes names (λ e. roll-Stmt (Stmt-F.Return e) ∷ []) FineResult FineStmts (λ e fe. stmt_rolled (Stmt-F.Return e) fe) (maybe_expr known kind e) (result_closes kind e))
    stmt_layer kind (RawStmt-F.Exit at) = numbered_closes at _ (plain_stmt Stmt-F.Exit refl)
    stmt_layer kind (RawStmt-F.Drop at) = numbered_closes at _ (plain_stmt Stmt-F.Drop refl)
    stmt_layer kind (RawStmt-F.Break at) = numbered_closes at _ (plain_stmt Stmt-F.Break refl)
    stmt_layer kind (RawStmt-F.Group at ss) = numbered_closes at _ (group_closes kind ss)
    stmt_layer kind (RawStmt-F.Empty at) = numbered_closes at _ (accepted_closes names FineStmts [] refl)

    stmt_closes : (kind : RouteKind) (s : RawStmt) → StmtCloses kind s
    stmt_closes kind = ind-RawStmt (StmtCloses kind) (λ x y is. subst (λ x. StmtCloses kind (roll-RawStmt x)) is (
        let x = map-RawStmt (ProvedStmt kind) RawStmt (λ e. e.0) y in
        subst (λ (m : Checked (List Stmt)). Closes names FineStmts m) (sym (fold-roll-RawStmt (Checked (List Stmt)) (stmt_step known kind) x)) (stmt_layer kind y)))

    pub body_closes : (b : RawBlock) → Closes names FineStmts (body_in known b)
    body_closes b = all_in_closes (map (stmt_in known b.kind) b.body) (map_closes names FineStmts (stmt_in known b.kind) (stmt_closes b.kind) b.body)
