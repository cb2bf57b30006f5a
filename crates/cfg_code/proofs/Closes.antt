-- The code of what is closed is closed, and so is what closed code asks.
use Rattle.std.proofs.Common.{◌≡◌, ℕ, zero, suc, ◌+◌, Bool, true, false, ◌&&◌, pos, List, [], ◌∷◌, ◌++◌, map, length, Option, Some, None, refl, sym, ap, ◌∙◌, subst}
use Rattle.std.specs.Prelude.{slice_get, nat_lt}
use Rattle.std.specs.List.{list_all}
use Rattle.std.proofs.lemmas.Bool.{and_from, and_parts}
use Rattle.pv_values.specs.declared.value.Val.{Val}
use Rattle.pv_values.specs.declared.value.Val.TheVariants as val
use Rattle.pv_values.specs.declared.operator.BinOp.{BinOp}
use Rattle.pv_values.specs.declared.variable.PvUse.{PvUse}
use Rattle.pv_values.specs.Values.{limited, bit}
use Rattle.cfg_tree.specs.declared.script.TableUse.{TableUse}
use Rattle.cfg_tree.specs.declared.script.TableUse.TheVariants as table
use Rattle.cfg_tree.specs.declared.script.Part.{Part}
use Rattle.cfg_tree.specs.declared.script.Part.TheOpen.{Part-F}
use Rattle.cfg_tree.specs.declared.script.Part.TheViews.{roll-Part}
use Rattle.cfg_tree.specs.declared.script.Part.TheFolds.{fold-roll-Part, ind-Part, map-Part}
use Rattle.cfg_tree.specs.declared.script.Expr.{Expr}
use Rattle.cfg_tree.specs.declared.script.Expr.TheOpen.{Expr-F}
use Rattle.cfg_tree.specs.declared.script.Expr.TheViews.{roll-Expr}
use Rattle.cfg_tree.specs.declared.script.Expr.TheFolds.{fold-roll-Expr, ind-Expr, map-Expr}
use Rattle.cfg_tree.specs.declared.script.Target.{Target}
use Rattle.cfg_tree.specs.declared.script.Target.TheVariants as target
use Rattle.cfg_tree.specs.declared.script.Stmt.{Stmt}
use Rattle.cfg_tree.specs.declared.script.Stmt.TheOpen.{Stmt-F}
use Rattle.cfg_tree.specs.declared.script.Stmt.TheViews.{roll-Stmt}
use Rattle.cfg_tree.specs.declared.script.Stmt.TheFolds.{fold-roll-Stmt, ind-Stmt, map-Stmt}
use Rattle.cfg_tree.specs.Meaning.{Wanted, AsValue, AsTruth, item_of}
use Rattle.cfg_tree.specs.Closed.{Names, all_closed, closed_part_step, closed_part, closed_parts, closed_expr_step, closed_expr, closed_target, closed_result, closed_stmt_step, closed_stmt, closed_block, closed_use, closed_ask}
use Rattle.cfg_code.specs.declared.instr.Instr.{Instr}
use Rattle.cfg_code.specs.declared.instr.Instr.TheVariants.{Push, Load, LoadCode, LoadSuccess, Store, Read, ReadItem, Write, WriteItem, Transform, Concat, PushArgument, CallFunction, ExitOnZero, CallBlock, Binary, Negate, Not, ToBool, Match, JumpIfFalseOrPop, JumpIfTrueOrPop, Pop, CountStatement, JumpIfFalse, Jump, Case, BeginLoop, BeginRound, LoopBack, EndLoop, Break, Return, Exit, Drop, EndBlock}
use Rattle.cfg_code.specs.Flat.{FlatScript}
use Rattle.cfg_code.specs.Code.{Text, texts_joined, concat_text, concats, expansion_text, part_text, part_code, expansion_code, wanted_text, called_text, argument_text, arguments_code, link_text, links_text, and_text, ands_text, or_text, ors_text, expr_text, expr_code, set_text, if_text, while_text, case_text, cases_text, switch_text, return_text, stmt_text, stmt_code, list_code, text_of_block}
use Rattle.cfg_code.specs.Machine.{Configuration, item_read, host_written, item_written, asked_by, asked_of}
use Rattle.cfg_code.specs.Closed.{closed_instr, closed_code, names_of, IsClosedCode}

abbrev Every : {A : Type 0} → (A → Type 0) → List A → Type 0
Every P [] = Unit {0}
Every P (a ∷ more) = P a × Every P more

-- of a list in which each passes, each passes
each_passes : {A : Type 0} (test : A → Bool) (xs : List A) → list_all test xs ≡ true → Every (λ x. test x ≡ true) xs
each_passes test [] e = tt
each_passes test (x ∷ xs) e = let parts = and_parts (test x) (list_all test xs) e in (parts.0, each_passes test xs parts.1)

module _ (names : Names) where
  record Closed (t : Text) : Type 0 where
    is : closed_code names t ≡ true

  seq : (a b : Text) → Closed a → Closed b → Closed (a ++ b)
  seq [] b ca cb = cb
  seq (i ∷ a) b ca cb =
      let parts = and_parts (closed_instr names i) (closed_code names a) ca.is in
      record { is = and_from (closed_instr names i) (closed_code names (a ++ b)) parts.0 (seq a b (record { is = parts.1 }) cb).is }

  -- an instruction without a number, and a text after it
  behind : (i : Instr) (t : Text) → closed_instr names i ≡ true → Closed t → Closed (i ∷ t)
  behind i t ci ct = record { is = and_from (closed_instr names i) (closed_code names t) ci ct.is }

  alone : (i : Instr) → closed_instr names i ≡ true → Closed (i ∷ [])
  alone i ci = behind i [] ci (record { is = refl })

  ended : (t : Text) (i : Instr) → Closed t → closed_instr names i ≡ true → Closed (t ++ i ∷ [])
  ended t i ct ci = seq t (i ∷ []) ct (alone i ci)

  joined_closed : (ts : List Text) → Every Closed ts → Closed (texts_joined ts)
  joined_closed [] every = record { is = refl }
  joined_closed (t ∷ ts) every = seq t (texts_joined ts) every.0 (joined_closed ts every.1)

  -- ---- expanded texts

  concats_closed : (ts : List Text) → Every Closed ts → Closed (concats ts)
  concats_closed [] every = record { is = refl }
  concats_closed (t ∷ ts) every = seq (concat_text t) (concats ts) (ended t Concat every.0 refl) (concats_closed ts every.1)

  abbrev PartCloses : Part → Type 0
  PartCloses x = closed_part names x ≡ true → Closed (part_code x)

  -- parts with proofs beside them: what their tests say, and what their texts come to
  abbrev ProvedPart : Type 0
  ProvedPart = (x : Part) × PartCloses x

  key_closed : (ys : List ProvedPart) → all_closed (map (closed_part names) (map (λ (e : ProvedPart). e.0) ys)) ≡ true → Every Closed (map part_code (map (λ (e : ProvedPart). e.0) ys))
  key_closed [] e = tt
  key_closed (y ∷ ys) e =
      let parts = and_parts (closed_part names y.0) (all_closed (map (closed_part names) (map (λ (e : ProvedPart). e.0) ys))) e in
      (y.1 parts.0, key_closed ys parts.1)

  part_layer : (y : Part-F ProvedPart) → closed_part_step names (map-Part _ _ (closed_part names) (map-Part _ _ (λ e. e.0) y)) ≡ true → Closed (part_text (map-Part _ _ part_code (map-Part _ _ (λ e. e.0) y)))
  part_layer (Part-F.Text t) e = record { is = refl }
  part_layer (Part-F.Var x) e = alone (Load x) e
  part_layer Part-F.Code e = record { is = refl }
  part_layer (Part-F.Host x) e = alone (Read x) e
  part_layer (Part-F.Item way t key) e =
      let texts = map part_code (map (λ (e : ProvedPart). e.0) key) in
      let parts = and_parts (nat_lt t names.tables) _ e in
      ended (expansion_text texts) (ReadItem way t) (behind (Push (val.Text [])) (concats texts) refl (concats_closed texts (key_closed key parts.1))) parts.0
  part_layer (Part-F.Transformed tr x) e = ended (part_code x.0) (Transform tr) (x.1 e) refl

  part_closes : (x : Part) → PartCloses x
  part_closes = ind-Part PartCloses (λ x y is. subst (λ x. PartCloses (roll-Part x)) is (λ e.
      let x = map-Part ProvedPart Part (λ e. e.0) y in
      subst (λ c. Closed c) (sym (fold-roll-Part Text part_text x)) (part_layer y (sym (fold-roll-Part Bool (closed_part_step names) x) ∙ e))))

  parts_close : (xs : List Part) → closed_parts names xs ≡ true → Every Closed (map part_code xs)
  parts_close [] e = tt
  parts_close (x ∷ xs) e = let parts = and_parts (closed_part names x) (closed_parts names xs) e in (part_closes x parts.0, parts_close xs parts.1)

  expansion_closes : (xs : List Part) → closed_parts names xs ≡ true → Closed (expansion_code xs)
  expansion_closes xs e = behind (Push (val.Text [])) (concats (map part_code xs)) refl (concats_closed (map part_code xs) (parts_close xs e))

  arguments_close : (xs : List (List Part)) → list_all (closed_parts names) xs ≡ true → Closed (arguments_code xs)
  arguments_close [] e = record { is = refl }
  arguments_close (x ∷ xs) e =
      let parts = and_parts (closed_parts names x) (list_all (closed_parts names) xs) e in
      seq (argument_text (expansion_code x)) (arguments_code xs) (ended (expansion_code x) PushArgument (expansion_closes x parts.0) refl) (arguments_close xs parts.1)

  -- ---- expressions

  wanted_closed : (w : Wanted) → Closed (ExitOnZero ∷ wanted_text w ∷ [])
  wanted_closed AsValue = record { is = refl }
  wanted_closed AsTruth = record { is = refl }

  called_closed : (c : Text) → Closed c → (w : Wanted) → Closed (called_text c w)
  called_closed c cc w = behind CountStatement _ refl (seq c _ cc (wanted_closed w))

  abbrev ExprCloses : Expr → Type 0
  ExprCloses e = closed_expr names e ≡ true → (w : Wanted) → Closed (expr_code e w)

  abbrev Proved : Type 0
  Proved = (e : Expr) × ExprCloses e

  abbrev Operand : (Wanted → Text) → Type 0
  Operand t = (w : Wanted) → Closed (t w)

  members_closed : (ys : List Proved) → all_closed (map (closed_expr names) (map (λ (e : Proved). e.0) ys)) ≡ true → Every Operand (map expr_code (map (λ (e : Proved). e.0) ys))
  members_closed [] e = tt
  members_closed (y ∷ ys) e =
      let parts = and_parts (closed_expr names y.0) (all_closed (map (closed_expr names) (map (λ (e : Proved). e.0) ys))) e in
      (y.1 parts.0, members_closed ys parts.1)

  ands_closed : (ts : List (Wanted → Text)) → Every Operand ts → Closed (ands_text ts)
  ands_closed [] every = record { is = refl }
  ands_closed (t ∷ ts) every =
      seq (and_text (t AsTruth)) (ands_text ts) (behind (JumpIfFalseOrPop (length (t AsTruth) + 1)) (t AsTruth ++ ToBool ∷ []) refl (ended (t AsTruth) ToBool (every.0 AsTruth) refl)) (ands_closed ts every.1)

  ors_closed : (ts : List (Wanted → Text)) → Every Operand ts → Closed (ors_text ts)
  ors_closed [] every = record { is = refl }
  ors_closed (t ∷ ts) every =
      seq (or_text (t AsTruth)) (ors_text ts) (behind (JumpIfTrueOrPop (length (t AsTruth) + 1)) (t AsTruth ++ ToBool ∷ []) refl (ended (t AsTruth) ToBool (every.0 AsTruth) refl)) (ors_closed ts every.1)

  abbrev Links : Type 0
  Links = List (BinOp × Proved)

  abbrev link_exprs : Links → List (BinOp × Expr)
  link_exprs ys = map (λ (c : BinOp × Proved). (c.0, c.1.0)) ys

  links_closed : (ys : Links) → list_all (λ (l : BinOp × Bool). l.1) (map (λ (l : BinOp × Expr). (l.0, closed_expr names l.1)) (link_exprs ys)) ≡ true →
      Closed (links_text (map (λ (c : BinOp × Expr). (c.0, expr_code c.1)) (link_exprs ys)))
  links_closed [] e = record { is = refl }
  links_closed (y ∷ ys) e =
      let parts = and_parts (closed_expr names y.1.0) (list_all (λ (l : BinOp × Bool). l.1) (map (λ (l : BinOp × Expr). (l.0, closed_expr names l.1)) (link_exprs ys))) e in
      seq (link_text y.0 (expr_code y.1.0 AsValue)) _ (ended (expr_code y.1.0 AsValue) (Binary y.0) (y.1.1 parts.0 AsValue) refl) (links_closed ys parts.1)

  expr_layer : (y : Expr-F Proved) → closed_expr_step names (map-Expr _ _ (closed_expr names) (map-Expr _ _ (λ e. e.0) y)) ≡ true → Operand (expr_text (map-Expr _ _ expr_code (map-Expr _ _ (λ e. e.0) y)))
  expr_layer (Expr-F.Int n) e = λ w. record { is = refl }
  expr_layer (Expr-F.Text t) e = λ w. record { is = refl }
  expr_layer (Expr-F.Read x) e = λ w. part_closes x e
  expr_layer (Expr-F.Call f args) e =
      let parts = and_parts _ (list_all (closed_parts names) args) e in
      called_closed (arguments_code args ++ CallFunction f ∷ []) (ended (arguments_code args) (CallFunction f) (arguments_close args parts.1) parts.0)
  expr_layer (Expr-F.Route b) e = called_closed (CallBlock b ∷ []) (alone (CallBlock b) e)
  expr_layer (Expr-F.Not a) e = λ w. ended (expr_code a.0 AsTruth) Not (a.1 e AsTruth) refl
  expr_layer (Expr-F.Negative a) e = λ w. ended (expr_code a.0 AsValue) Negate (a.1 e AsValue) refl
  expr_layer (Expr-F.Chain a cs) e =
      let parts = and_parts (closed_expr names a.0) _ e in
      λ w. seq (expr_code a.0 AsValue) _ (a.1 parts.0 AsValue) (links_closed cs parts.1)
  expr_layer (Expr-F.Matches a p) e =
      let parts = and_parts (closed_expr names a.0) (nat_lt p names.patterns) e in
      λ w. ended (expr_code a.0 AsValue) (Match p) (a.1 parts.0 AsValue) parts.1
  expr_layer (Expr-F.All ms) e =
      let texts = map expr_code (map (λ (e : Proved). e.0) ms) in
      λ w. behind (Push (bit true)) (ands_text texts) refl (ands_closed texts (members_closed ms e))
  expr_layer (Expr-F.Any ms) e =
      let texts = map expr_code (map (λ (e : Proved). e.0) ms) in
      λ w. behind (Push (bit false)) (ors_text texts) refl (ors_closed texts (members_closed ms e))

  expr_closes : (e : Expr) → ExprCloses e
  expr_closes = ind-Expr ExprCloses (λ x y is. subst (λ x. ExprCloses (roll-Expr x)) is (λ e.
      let x = map-Expr Proved Expr (λ e. e.0) y in
      subst (λ c. Operand c) (sym (fold-roll-Expr (Wanted → Text) expr_text x)) (expr_layer y (sym (fold-roll-Expr Bool (closed_expr_step names) x) ∙ e))))

  -- ---- statements

  set_closed : (t : Target) (c : Text) → closed_target names t ≡ true → Closed c → Closed (set_text t c)
  set_closed (target.Var x) c e cc = behind CountStatement _ refl (ended c (Store x) cc e)
  set_closed (target.Host x) c e cc = behind CountStatement _ refl (ended c (Write x) cc e)
  set_closed (target.Item way t key) c e cc =
      let parts = and_parts (nat_lt t names.tables) (closed_parts names key) e in
      behind CountStatement _ refl (seq (expansion_code key) _ (expansion_closes key parts.1) (ended c (WriteItem way t) cc parts.0))

  if_closed : (c a b : Text) → Closed c → Closed a → Closed b → Closed (if_text c a b)
  if_closed c a b cc ca cb = behind CountStatement _ refl (seq c _ cc (behind (JumpIfFalse (length a + 1)) _ refl (seq a _ ca (behind (Jump (length b)) b refl cb))))

  while_closed : (c a : Text) → Closed c → Closed a → Closed (while_text c a)
  while_closed c a cc ca =
      behind CountStatement _ refl (behind (BeginLoop (length c + length a + 4)) _ refl (seq c _ cc (behind (JumpIfFalse (length a + 2)) _ refl (behind BeginRound _ refl (seq a _ ca (record { is = refl }))))))

  cases_closed : (cs : List (Val × List Text)) → Every (λ (c : Val × List Text). Every Closed c.1) cs → Closed (cases_text cs)
  cases_closed [] every = record { is = refl }
  cases_closed (c ∷ cs) every =
      let b = texts_joined c.1 in
      seq (case_text c.0 b) (cases_text cs) (behind (Case c.0 (length b + 1)) _ refl (ended b (Jump 1) (joined_closed c.1 every.0) refl)) (cases_closed cs every.1)

  switch_closed : (c cs a : Text) → Closed c → Closed cs → Closed a → Closed (switch_text c cs a)
  switch_closed c cs a cc ccs ca =
      behind CountStatement _ refl (behind (BeginLoop (length c + length cs + length a + 2)) _ refl (seq c _ cc (seq cs _ ccs (behind Pop _ refl (ended a EndLoop ca refl)))))

  return_closed : (o : Option Expr) → closed_result names o ≡ true → Closed (CountStatement ∷ return_text o)
  return_closed None e = record { is = refl }
  return_closed (Some x) e = behind CountStatement _ refl (ended (expr_code x AsValue) Return (expr_closes x e AsValue) refl)

  abbrev StmtCloses : Stmt → Type 0
  StmtCloses s = closed_stmt names s ≡ true → Closed (stmt_code s)

  abbrev ProvedStmt : Type 0
  ProvedStmt = (s : Stmt) × StmtCloses s

  abbrev stmts_of : List ProvedStmt → List Stmt
  stmts_of ys = map (λ (e : ProvedStmt). e.0) ys

  list_closed : (ys : List ProvedStmt) → all_closed (map (closed_stmt names) (stmts_of ys)) ≡ true → Every Closed (map stmt_code (stmts_of ys))
  list_closed [] e = tt
  list_closed (y ∷ ys) e = let parts = and_parts (closed_stmt names y.0) (all_closed (map (closed_stmt names) (stmts_of ys))) e in (y.1 parts.0, list_closed ys parts.1)

  abbrev cases_of : List (Val × List ProvedStmt) → List (Val × List Stmt)
  cases_of ys = map (λ (c : Val × List ProvedStmt). (c.0, stmts_of c.1)) ys

  abbrev tests_of : List (Val × List Stmt) → Bool
  tests_of cs = list_all (λ (c : Val × List Bool). all_closed c.1) (map (λ (c : Val × List Stmt). (c.0, map (closed_stmt names) c.1)) cs)

  case_list_closed : (ys : List (Val × List ProvedStmt)) → tests_of (cases_of ys) ≡ true →
      Every (λ (c : Val × List Text). Every Closed c.1) (map (λ (c : Val × List Stmt). (c.0, map stmt_code c.1)) (cases_of ys))
  case_list_closed [] e = tt
  case_list_closed (y ∷ ys) e =
      let parts = and_parts (all_closed (map (closed_stmt names) (stmts_of y.1))) (tests_of (cases_of ys)) e in
      (list_closed y.1 parts.0, case_list_closed ys parts.1)

  abbrev texts_of : List ProvedStmt → List Text
  texts_of ys = map stmt_code (stmts_of ys)

  stmt_layer : (y : Stmt-F ProvedStmt) → closed_stmt_step names (map-Stmt _ _ (closed_stmt names) (map-Stmt _ _ (λ e. e.0) y)) ≡ true → Closed (stmt_text (map-Stmt _ _ stmt_code (map-Stmt _ _ (λ e. e.0) y)))
  stmt_layer (Stmt-F.Set t x) e =
      let parts = and_parts (closed_target names t) (closed_expr names x) e in
      set_closed t (expr_code x AsValue) parts.0 (expr_closes x parts.1 AsValue)
  stmt_layer (Stmt-F.Do x) e = ended (expr_code x AsValue) Pop (expr_closes x e AsValue) refl
  stmt_layer (Stmt-F.If x a b) e =
      let parts = and_parts _ (all_closed (map (closed_stmt names) (stmts_of b))) e in
      let front = and_parts (closed_expr names x) (all_closed (map (closed_stmt names) (stmts_of a))) parts.0 in
      if_closed (expr_code x AsTruth) (texts_joined (texts_of a)) (texts_joined (texts_of b)) (expr_closes x front.0 AsTruth) (joined_closed (texts_of a) (list_closed a front.1)) (joined_closed (texts_of b) (list_closed b parts.1))
  stmt_layer (Stmt-F.While x body) e =
      let parts = and_parts (closed_expr names x) (all_closed (map (closed_stmt names) (stmts_of body))) e in
      while_closed (expr_code x AsTruth) (texts_joined (texts_of body)) (expr_closes x parts.0 AsTruth) (joined_closed (texts_of body) (list_closed body parts.1))
  stmt_layer (Stmt-F.Switch x cs last) e =
      let parts = and_parts _ (all_closed (map (closed_stmt names) (stmts_of last))) e in
      let front = and_parts (closed_expr names x) (tests_of (cases_of cs)) parts.0 in
      switch_closed (expr_code x AsValue) _ (texts_joined (texts_of last)) (expr_closes x front.0 AsValue) (cases_closed _ (case_list_closed cs front.1)) (joined_closed (texts_of last) (list_closed last parts.1))
  stmt_layer Stmt-F.Break e = record { is = refl }
  stmt_layer (Stmt-F.Return o) e = return_closed o e
  stmt_layer Stmt-F.Exit e = record { is = refl }
  stmt_layer Stmt-F.Drop e = record { is = refl }

  stmt_closes : (s : Stmt) → StmtCloses s
  stmt_closes = ind-Stmt StmtCloses (λ x y is. subst (λ x. StmtCloses (roll-Stmt x)) is (λ e.
      let x = map-Stmt ProvedStmt Stmt (λ e. e.0) y in
      subst (λ c. Closed c) (sym (fold-roll-Stmt Text stmt_text x)) (stmt_layer y (sym (fold-roll-Stmt Bool (closed_stmt_step names) x) ∙ e))))

  stmts_close : (block : List Stmt) → closed_block names block ≡ true → Every Closed (map stmt_code block)
  stmts_close [] e = tt
  stmts_close (x ∷ xs) e = let parts = and_parts (closed_stmt names x) (closed_block names xs) e in (stmt_closes x parts.0, stmts_close xs parts.1)

  pub block_closes : (block : List Stmt) → closed_block names block ≡ true → closed_code names (text_of_block block) ≡ true
  block_closes block e = (ended (list_code block) EndBlock (joined_closed (map stmt_code block) (stmts_close block e)) refl).is

  -- ---- asks

  item_closed : (way : TableUse) (t : ℕ) (key : List ℕ) → nat_lt t names.tables ≡ true → closed_use names (item_of way t key) ≡ true
  item_closed table.Item t key e = e
  item_closed table.Seconds t key e = e
  item_closed table.Increment t key e = e
  item_closed table.Decrement t key e = e

  read_closed : (way : TableUse) (t : ℕ) (key : Option Val) → nat_lt t names.tables ≡ true → closed_ask names (item_read way t key) ≡ true
  read_closed way t None e = refl
  read_closed way t (Some val.Null) e = refl
  read_closed way t (Some (val.Int n)) e = refl
  read_closed way t (Some (val.Text k)) e = item_closed way t k e

  host_closed : (x : PvUse) (v : Option Val) → closed_use names x ≡ true → closed_ask names (host_written x v) ≡ true
  host_closed x None e = refl
  host_closed x (Some v) e = e

  written_closed : (way : TableUse) (t : ℕ) (v key : Option Val) → nat_lt t names.tables ≡ true → closed_ask names (item_written way t v key) ≡ true
  written_closed way t None key e = refl
  written_closed way t (Some v) None e = refl
  written_closed way t (Some v) (Some val.Null) e = refl
  written_closed way t (Some v) (Some (val.Int n)) e = refl
  written_closed way t (Some v) (Some (val.Text k)) e = item_closed way t k e

  asked_by_closed : (i : Instr) (r : Configuration) → closed_instr names i ≡ true → closed_ask names (asked_by (Some i) r) ≡ true
  asked_by_closed (Read x) r e = e
  asked_by_closed (ReadItem way t) r e = read_closed way t (slice_get r.stack 0) e
  asked_by_closed (Write x) r e = host_closed x (slice_get r.stack 0) e
  asked_by_closed (WriteItem way t) r e = written_closed way t (slice_get r.stack 0) (slice_get r.stack 1) e
  asked_by_closed (CallFunction f) r e = e
  asked_by_closed i r e = refl

  pub ask_closed : (code : List Instr) (p : ℕ) (r : Configuration) → closed_code names code ≡ true → closed_ask names (asked_by (slice_get code p) r) ≡ true
  ask_closed [] p r e = refl
  ask_closed (i ∷ code) zero r e = asked_by_closed i r (and_parts (closed_instr names i) (closed_code names code) e).0
  ask_closed (i ∷ code) (suc p) r e = ask_closed code p r (and_parts (closed_instr names i) (closed_code names code) e).1

pub asks_closed : (loaded : FlatScript) → IsClosedCode loaded → (r : Configuration) → closed_ask (names_of loaded) (asked_of loaded r) ≡ true
asks_closed loaded e r = ask_closed (names_of loaded) loaded.code.instrs _ r (and_parts _ (closed_code (names_of loaded) loaded.code.instrs) e).1
