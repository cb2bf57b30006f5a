-- A refusal of any kind but TooLarge is told by what stands in a tree, each by itself.
use Rattle.std.proofs.Common.{◌≡◌, ◌⊎◌, ◌+◌, Bool, true, false, nat_le, if◌then◌else◌, List, [], ◌∷◌, ◌++◌, map, Option, Some, None, refl, sym, ap, ◌∙◌, subst, inl, inr}
use Rattle.pv_values.specs.declared.value.Val.{Val}
use Rattle.pv_values.specs.declared.operator.BinOp.{BinOp}
use Rattle.pv_values.specs.declared.refusal.Place.{Place}
use Rattle.cfg_tree.specs.declared.raw.Word.{Word}
use Rattle.cfg_tree.specs.declared.raw.RawVariable.{RawVariable}
use Rattle.cfg_tree.specs.declared.raw.RawCall.{RawCall}
use Rattle.cfg_tree.specs.declared.raw.RawExpr.{RawExpr}
use Rattle.cfg_tree.specs.declared.raw.RawExpr.TheOpen.{RawExpr-F}
use Rattle.cfg_tree.specs.declared.raw.RawExpr.TheViews.{roll-RawExpr}
use Rattle.cfg_tree.specs.declared.raw.RawExpr.TheFolds.{fold-roll-RawExpr, ind-RawExpr, map-RawExpr}
use Rattle.cfg_tree.specs.declared.raw.RawStmt.{RawStmt}
use Rattle.cfg_tree.specs.declared.raw.RawStmt.TheOpen.{RawStmt-F}
use Rattle.cfg_tree.specs.declared.raw.RawStmt.TheViews.{roll-RawStmt}
use Rattle.cfg_tree.specs.declared.raw.RawStmt.TheFolds.{fold-roll-RawStmt, ind-RawStmt, map-RawStmt}
use Rattle.cfg_tree.specs.declared.raw.RouteKind.{RouteKind}
use Rattle.cfg_tree.specs.declared.script.Expr.{Expr}
use Rattle.cfg_tree.specs.declared.script.Expr.TheOpen.{Expr-F}
use Rattle.cfg_tree.specs.declared.script.Expr.TheViews.{roll-Expr}
use Rattle.cfg_tree.specs.declared.script.Stmt.{Stmt}
use Rattle.cfg_tree.specs.declared.script.Stmt.TheOpen.{Stmt-F}
use Rattle.cfg_tree.specs.declared.script.Stmt.TheViews.{roll-Stmt}
use Rattle.cfg_tree.specs.Names.{Known, part_of}
use Rattle.cfg_tree.specs.Functions.{pattern_number}
use Rattle.cfg_tree.specs.Checks.{call_in, myself, expr_step, expr_in, target_of, numbered, flat, all_in, maybe_expr, stmt_step, stmt_in}
use Rattle.cfg_tree.specs.Refusals.{Refusal, refusal, Checked, accepted, one, both, each}
use Rattle.cfg_tree.specs.declared.refusal_kind.RefusalKind.TheVariants.{TooLarge}
use Rattle.cfg_laws.specs.Causes.{Leaf, Calls, Reads, Matches, Assigns, joined, expr_leaves_step, expr_leaves, maybe_leaves, stmt_leaves_step, stmt_leaves}
use Rattle.cfg_laws.proofs.Telling.{In, Tells, same_tells, accepted_silent, one_tells, both_tells, unless_tells}

-- ---- one of what stands there

-- of one of these it holds
abbrev pub Some_of : (Leaf → Type 0) → List Leaf → Type 0
Some_of P [] = ⊥
Some_of P (l ∷ ls) = P l ⊎ Some_of P ls

module _ (P : Leaf → Type 0) where
  pub some_parts : (xs ys : List Leaf) → Some_of P (xs ++ ys) → Some_of P xs ⊎ Some_of P ys
  some_parts [] ys h = inr h
  some_parts (x ∷ xs) ys (inl p) = inl (inl p)
  some_parts (x ∷ xs) ys (inr h) = elim (some_parts xs ys h) [
    | inl k ↦ inl (inr k)
    | inr k ↦ inr k
  ]

  pub some_from : (xs ys : List Leaf) → Some_of P xs ⊎ Some_of P ys → Some_of P (xs ++ ys)
  some_from [] ys (inl h) = absurd h
  some_from [] ys (inr h) = h
  some_from (x ∷ xs) ys (inl (inl p)) = inl p
  some_from (x ∷ xs) ys (inl (inr h)) = inr (some_from xs ys (inl h))
  some_from (x ∷ xs) ys (inr h) = inr (some_from xs ys (inr h))

  pub some_in : (ls : List Leaf) → Some_of P ls → (l : Leaf) × In l ls × P l
  some_in [] h = absurd h
  some_in (x ∷ xs) (inl p) = (x, inl refl, p)
  some_in (x ∷ xs) (inr h) = let k = some_in xs h in (k.0, inr k.1, k.2)

  pub in_some : (ls : List Leaf) (l : Leaf) → In l ls → P l → Some_of P ls
  in_some [] l h p = absurd h
  in_some (x ∷ xs) l (inl e) p = inl (subst P (sym e) p)
  in_some (x ∷ xs) l (inr h) p = inr (in_some xs l h p)

-- a reading tells what one of these leaves tells
abbrev pub Leaves : {A : Type 0} → Refusal → (Leaf → Type 0) → Checked A → List Leaf → Type 0
Leaves r P m ls = Tells r m (Some_of P ls)

-- the only refusal of a limit on statements is its own
some_same : (a b : Refusal) → Some a ≡ Some b → a ≡ b
some_same a b e = ap (λ (o : Option Refusal). elim o [ None ↦ a | Some x ↦ x ]) e

limit : (r : Refusal) (at : Place) → (refusal TooLarge at ≡ r → ⊥) → (b : Bool) (x : Refusal) → (if b then Some (refusal TooLarge at) else None) ≡ Some x → x ≡ r → ⊥
limit r at other true x e is = other (some_same (refusal TooLarge at) x e ∙ is)
limit r at other false x e is = let e : None ≡ Some x = e in cc

module _ (r : Refusal) (P : Leaf → Type 0) where
  none_leaves : {A : Type 0} (a : A) → Leaves r P (accepted a) []
  none_leaves a = accepted_silent r a

  one_leaf : {A : Type 0} (m : Checked A) (l : Leaf) → Tells r m (P l) → Leaves r P m (l ∷ [])
  one_leaf m l t = same_tells r m (λ p. inl p) (λ h. elim h [
    | inl p ↦ p
    | inr k ↦ absurd k
  ]) t

  both_leaves : {A B C : Type 0} (f : A → B → C) (m : Checked A) (n : Checked B) (xs ys : List Leaf) → Leaves r P m xs → Leaves r P n ys → Leaves r P (both f m n) (xs ++ ys)
  both_leaves f m n xs ys t u = same_tells r (both f m n) (some_from P xs ys) (some_parts P xs ys) (both_tells r f m n t u)

  three_leaves : {A B C D : Type 0} (f : A → B → C → D) (m : Checked A) (n : Checked B) (o : Checked C) (xs ys zs : List Leaf) → Leaves r P m xs → Leaves r P n ys → Leaves r P o zs →
      Leaves r P (both {A = C → D} {B = C} {C = D} (λ g c. g c) (both {A = A} {B = B} {C = C → D} f m n) o) ((xs ++ ys) ++ zs)
  three_leaves {A} {B} {C} {D} f m n o xs ys zs t u v =
      both_leaves {A = C → D} {B = C} {C = D} (λ g c. g c) (both f m n) o (xs ++ ys) zs (both_leaves {A = A} {B = B} {C = C → D} f m n xs ys t u) v

  numbered_leaves : ((at : Place) → refusal TooLarge at ≡ r → ⊥) → (at : Place) (m : Checked (List Stmt)) (ls : List Leaf) → Leaves r P m ls → Leaves r P (numbered at m) ls
  numbered_leaves other at m ls t = record {
    only = λ s h. (unless_tells r (if nat_le 50000 s.statements then Some (refusal TooLarge at) else None) m (limit r at (other at) (nat_le 50000 s.statements)) t).only
        (record s { statements = s.statements + 1 }) h;
    whole = λ s p. (unless_tells r (if nat_le 50000 s.statements then Some (refusal TooLarge at) else None) m (limit r at (other at) (nat_le 50000 s.statements)) t).whole
        (record s { statements = s.statements + 1 }) p;
  }

-- ---- expressions

module _ (r : Refusal) (known : Known) (kind : RouteKind) (P : Leaf → Type 0) (other : (at : Place) → refusal TooLarge at ≡ r → ⊥)
    (calls : (c : RawCall) → Tells r (call_in known kind c) (P (Calls c))) (reads : (v : RawVariable) → Tells r (part_of known v.at v.variable) (P (Reads v)))
    (matches : (w : Word) → Tells r (pattern_number w.at w.text) (P (Matches w))) (assigns : (v : RawVariable) → Tells r (target_of known kind v) (P (Assigns v))) where
  abbrev ExprTells : RawExpr → Type 0
  ExprTells e = Leaves r P (expr_in known kind e) (expr_leaves e)

  -- an expression with a proof beside it
  abbrev Proved : Type 0
  Proved = (e : RawExpr) × ExprTells e

  members_tell : (ys : List Proved) → Leaves r P (each (map (expr_in known kind) (map (λ (e : Proved). e.0) ys))) (joined (map expr_leaves (map (λ (e : Proved). e.0) ys)))
  members_tell [] = none_leaves r P []
  members_tell (y ∷ ys) = both_leaves r P (λ a more. a ∷ more) (expr_in known kind y.0) _ (expr_leaves y.0) _ y.1 (members_tell ys)

  links_tell : (ys : List (BinOp × Proved)) →
      Leaves r P (each {A = BinOp × Expr} (map (λ (l : BinOp × Checked Expr). one (λ e. (l.0, e)) l.1) (map (λ (c : BinOp × RawExpr). (c.0, expr_in known kind c.1)) (map (λ (c : BinOp × Proved). (c.0, c.1.0)) ys))))
      (joined (map (λ (l : BinOp × List Leaf). l.1) (map (λ (c : BinOp × RawExpr). (c.0, expr_leaves c.1)) (map (λ (c : BinOp × Proved). (c.0, c.1.0)) ys))))
  links_tell [] = none_leaves r P []
  links_tell (y ∷ ys) = both_leaves r P (λ a more. a ∷ more) (one (λ e. (y.0, e)) (expr_in known kind y.1.0)) _ (expr_leaves y.1.0) _
      (one_tells r (λ e. (y.0, e)) (expr_in known kind y.1.0) y.1.1) (links_tell ys)

  expr_layer : (y : RawExpr-F Proved) →
      Leaves r P (expr_step known kind (map-RawExpr _ _ (expr_in known kind) (map-RawExpr _ _ (λ e. e.0) y))) (expr_leaves_step (map-RawExpr _ _ expr_leaves (map-RawExpr _ _ (λ e. e.0) y)))
  expr_layer (RawExpr-F.Number n) = none_leaves r P (roll-Expr (Expr-F.Int n))
  expr_layer (RawExpr-F.String w) = none_leaves r P (roll-Expr (Expr-F.Text w.text))
  expr_layer (RawExpr-F.Variable v) =
      one_leaf r P (one (λ p. roll-Expr (Expr-F.Read p)) (part_of known v.at v.variable)) (Reads v) (one_tells r (λ p. roll-Expr (Expr-F.Read p)) (part_of known v.at v.variable) (reads v))
  expr_layer (RawExpr-F.Call c) = one_leaf r P (call_in known kind c) (Calls c) (calls c)
  expr_layer (RawExpr-F.Not a) = one_tells r (λ e. roll-Expr (Expr-F.Not e)) (expr_in known kind a.0) a.1
  expr_layer (RawExpr-F.Negative a) = one_tells r (λ e. roll-Expr (Expr-F.Negative e)) (expr_in known kind a.0) a.1
  expr_layer (RawExpr-F.Chain a links) = both_leaves r P (λ e ls. roll-Expr (Expr-F.Chain e ls)) (expr_in known kind a.0) _ (expr_leaves a.0) _ a.1 (links_tell links)
  expr_layer (RawExpr-F.Matches a w) =
      both_leaves r P (λ e p. roll-Expr (Expr-F.Matches e p)) (expr_in known kind a.0) (pattern_number w.at w.text) (expr_leaves a.0) (Matches w ∷ []) a.1
      (one_leaf r P (pattern_number w.at w.text) (Matches w) (matches w))
  expr_layer (RawExpr-F.All ms) = one_tells r (λ es. roll-Expr (Expr-F.All es)) _ (members_tell ms)
  expr_layer (RawExpr-F.Any ms) = one_tells r (λ es. roll-Expr (Expr-F.Any es)) _ (members_tell ms)
  expr_layer (RawExpr-F.Myself is) = none_leaves r P (myself is)

  expr_tells : (e : RawExpr) → ExprTells e
  expr_tells = ind-RawExpr ExprTells (λ x y is. subst (λ x. ExprTells (roll-RawExpr x)) is (
      let x = map-RawExpr Proved RawExpr (λ e. e.0) y in
      subst (λ (ls : List Leaf). Leaves r P (expr_in known kind (roll-RawExpr x)) ls) (sym (fold-roll-RawExpr (List Leaf) expr_leaves_step x))
      (subst (λ (m : Checked Expr). Leaves r P m (expr_leaves_step (map-RawExpr RawExpr (List Leaf) expr_leaves x))) (sym (fold-roll-RawExpr (Checked Expr) (expr_step known kind) x)) (expr_layer y))))

  result_tells : (o : Option RawExpr) → Leaves r P (maybe_expr known kind o) (maybe_leaves o)
  result_tells None = none_leaves r P None
  result_tells (Some e) = one_tells r Some (expr_in known kind e) (expr_tells e)

  -- ---- statements

  abbrev StmtTells : RawStmt → Type 0
  StmtTells s = Leaves r P (stmt_in known kind s) (stmt_leaves s)

  -- a statement with a proof beside it
  abbrev ProvedStmt : Type 0
  ProvedStmt = (s : RawStmt) × StmtTells s

  stmts_tell : (ys : List ProvedStmt) → Leaves r P (each (map (stmt_in known kind) (map (λ (e : ProvedStmt). e.0) ys))) (joined (map stmt_leaves (map (λ (e : ProvedStmt). e.0) ys)))
  stmts_tell [] = none_leaves r P []
  stmts_tell (y ∷ ys) = both_leaves r P (λ a more. a ∷ more) (stmt_in known kind y.0) _ (stmt_leaves y.0) _ y.1 (stmts_tell ys)

  group_tells : (ys : List ProvedStmt) → Leaves r P (all_in (map (stmt_in known kind) (map (λ (e : ProvedStmt). e.0) ys))) (joined (map stmt_leaves (map (λ (e : ProvedStmt). e.0) ys)))
  group_tells ys = one_tells r flat _ (stmts_tell ys)

  cases_tell : (ys : List (Val × List ProvedStmt)) →
      Leaves r P (each {A = Val × List Stmt} (map (λ (c : Val × List (Checked (List Stmt))). one (λ ss. (c.0, ss)) (all_in c.1))
      (map (λ (c : Val × List RawStmt). (c.0, map (stmt_in known kind) c.1)) (map (λ (c : Val × List ProvedStmt). (c.0, map (λ (e : ProvedStmt). e.0) c.1)) ys))))
      (joined (map (λ (c : Val × List (List Leaf)). joined c.1)
      (map (λ (c : Val × List RawStmt). (c.0, map stmt_leaves c.1)) (map (λ (c : Val × List ProvedStmt). (c.0, map (λ (e : ProvedStmt). e.0) c.1)) ys))))
  cases_tell [] = none_leaves r P []
  cases_tell (y ∷ ys) = both_leaves r P (λ a more. a ∷ more) (one (λ ss. (y.0, ss)) (all_in (map (stmt_in known kind) (map (λ (e : ProvedStmt). e.0) y.1)))) _ _ _
      (one_tells r (λ ss. (y.0, ss)) _ (group_tells y.1)) (cases_tell ys)

  plain_tells : (at : Place) (ss : List Stmt) → Leaves r P (numbered at (accepted ss)) []
  plain_tells at ss = numbered_leaves r P other at (accepted ss) [] (none_leaves r P ss)

  stmt_layer : (y : RawStmt-F ProvedStmt) →
      Leaves r P (stmt_step known kind (map-RawStmt _ _ (stmt_in known kind) (map-RawStmt _ _ (λ e. e.0) y))) (stmt_leaves_step (map-RawStmt _ _ stmt_leaves (map-RawStmt _ _ (λ e. e.0) y)))
  stmt_layer (RawStmt-F.If at e s None) = numbered_leaves r P other at _ _
      (three_leaves r P (λ e first second. roll-Stmt (Stmt-F.If e first second) ∷ []) (expr_in known kind e) (stmt_in known kind s.0) (accepted []) (expr_leaves e) (stmt_leaves s.0) []
      (expr_tells e) s.1 (none_leaves r P []))
  stmt_layer (RawStmt-F.If at e s (Some second)) = numbered_leaves r P other at _ _
      (three_leaves r P (λ e first second. roll-Stmt (Stmt-F.If e first second) ∷ []) (expr_in known kind e) (stmt_in known kind s.0) (stmt_in known kind second.0)
      (expr_leaves e) (stmt_leaves s.0) (stmt_leaves second.0) (expr_tells e) s.1 second.1)
  stmt_layer (RawStmt-F.While at e s) = numbered_leaves r P other at _ _
      (both_leaves r P (λ e body. roll-Stmt (Stmt-F.While e body) ∷ []) (expr_in known kind e) (stmt_in known kind s.0) (expr_leaves e) (stmt_leaves s.0) (expr_tells e) s.1)
  stmt_layer (RawStmt-F.Switch at e cases default) = numbered_leaves r P other at _ _
      (three_leaves r P (λ e cs last. roll-Stmt (Stmt-F.Switch e cs last) ∷ []) (expr_in known kind e) _ _ (expr_leaves e) _ _ (expr_tells e) (cases_tell cases) (group_tells default))
  stmt_layer (RawStmt-F.Set at v e) = numbered_leaves r P other at _ ((Assigns v ∷ []) ++ expr_leaves e)
      (both_leaves r P (λ t e. roll-Stmt (Stmt-F.Set t e) ∷ []) (target_of known kind v) (expr_in known kind e) (Assigns v ∷ []) (expr_leaves e)
      (one_leaf r P (target_of known kind v) (Assigns v) (assigns v)) (expr_tells e))
  stmt_layer (RawStmt-F.Do at c) = numbered_leaves r P other at _ (Calls c ∷ [])
      (one_tells r (λ e. roll-Stmt (Stmt-F.Do e) ∷ []) (call_in known kind c) (one_leaf r P (call_in known kind c) (Calls c) (calls c)))
  stmt_layer (RawStmt-F.Return at e) = numbered_leaves r P other at _ _ (one_tells r (λ e. roll-Stmt (Stmt-F.Return e) ∷ []) (maybe_expr known kind e) (result_tells e))
  stmt_layer (RawStmt-F.Exit at) = plain_tells at (roll-Stmt Stmt-F.Exit ∷ [])
  stmt_layer (RawStmt-F.Drop at) = plain_tells at (roll-Stmt Stmt-F.Drop ∷ [])
  stmt_layer (RawStmt-F.Break at) = plain_tells at (roll-Stmt Stmt-F.Break ∷ [])
  stmt_layer (RawStmt-F.Group at ss) = numbered_leaves r P other at _ _ (group_tells ss)
  stmt_layer (RawStmt-F.Empty at) = plain_tells at []

  stmt_tells : (s : RawStmt) → StmtTells s
  stmt_tells = ind-RawStmt StmtTells (λ x y is. subst (λ x. StmtTells (roll-RawStmt x)) is (
      let x = map-RawStmt ProvedStmt RawStmt (λ e. e.0) y in
      subst (λ (ls : List Leaf). Leaves r P (stmt_in known kind (roll-RawStmt x)) ls) (sym (fold-roll-RawStmt (List Leaf) stmt_leaves_step x))
      (subst (λ (m : Checked (List Stmt)). Leaves r P m (stmt_leaves_step (map-RawStmt RawStmt (List Leaf) stmt_leaves x))) (sym (fold-roll-RawStmt (Checked (List Stmt)) (stmt_step known kind) x)) (stmt_layer y))))

  stmts_all_tell : (ss : List RawStmt) → Leaves r P (each (map (stmt_in known kind) ss)) (joined (map stmt_leaves ss))
  stmts_all_tell [] = none_leaves r P []
  stmts_all_tell (s ∷ ss) = both_leaves r P (λ a more. a ∷ more) (stmt_in known kind s) _ (stmt_leaves s) _ (stmt_tells s) (stmts_all_tell ss)

  pub body_tells : (ss : List RawStmt) → Leaves r P (all_in (map (stmt_in known kind) ss)) (joined (map stmt_leaves ss))
  body_tells ss = one_tells r flat _ (stmts_all_tell ss)
