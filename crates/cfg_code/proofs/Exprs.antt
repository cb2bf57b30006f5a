-- The code of an expression does what the expression means.
use Rattle.std.proofs.Common.{◌≡◌, ℕ, zero, suc, ◌+◌, ℤ, pos, negsuc, true, false, List, [], ◌∷◌, ◌++◌, length, map, Some, refl, sym, ap, subst, arith, length-append}
use Rattle.std.specs.Prelude.{slice_get, if◌then◌else◌, not, int_lt}
use Rattle.pv_values.specs.declared.value.Val.{Val}
use Rattle.pv_values.specs.declared.value.Val.TheVariants as val
use Rattle.pv_values.specs.declared.operator.BinOp.{BinOp}
use Rattle.pv_values.specs.declared.function.Func.{Func}
use Rattle.pv_values.specs.Values.{is_true, limited, bit, binary_value, negated, told_code}
use Rattle.cfg_tree.specs.declared.script.Part.{Part}
use Rattle.cfg_tree.specs.declared.script.Expr.{Expr}
use Rattle.cfg_tree.specs.declared.script.Expr.TheOpen.{Expr-F}
use Rattle.cfg_tree.specs.declared.script.Expr.TheViews.{roll-Expr}
use Rattle.cfg_tree.specs.declared.script.Expr.TheFolds.{fold-roll-Expr, ind-Expr, map-Expr}
use Rattle.cfg_tree.specs.declared.script.Script.{Script}
use Rattle.cfg_tree.specs.Meaning.{RunTalk, State, WithValue, WithCode, Valued, Wanted, AsValue, AsTruth, Meant, Routes, put_code, settle, coded, called, linked, all_true, any_true, matched, expr_meaning_step, expr_of}
use Rattle.cfg_code.specs.declared.instr.Instr.TheVariants.{Push, LoadCode, LoadSuccess, CallFunction, ExitOnZero, CallBlock, Binary, Negate, Not, ToBool, Match, JumpIfFalseOrPop, JumpIfTrueOrPop}
use Rattle.cfg_code.specs.Flat.{FlatScript}
use Rattle.cfg_code.specs.declared.machine.Frame.{Frame}
use Rattle.cfg_code.specs.declared.machine.Wait.TheVariants as wait
use Rattle.cfg_code.specs.Code.{Text, called_text, arguments_code, link_text, links_text, and_text, ands_text, or_text, ors_text, expr_text, expr_code}
use Rattle.cfg_code.specs.Machine.{changing}
use Rattle.cfg_code.specs.Follows.{HasAt, Behaves}
use Rattle.cfg_code.proofs.Places.{has_front, has_back, run_with, run_at, by_act, asked_behind, at_place, count_right, Each, Right, change_right}
use Rattle.cfg_code.proofs.Parts.{part_right, arguments_right}

module _ (loaded : FlatScript) (d : ℕ) where
  -- what is wanted of an expression
  abbrev pub RightMeant : (Wanted → Text) → Meant → Type 0
  RightMeant t m = (w : Wanted) → Right loaded d [] (t w) (m w)

  -- the code of a call leaves its code as `$rc`
  abbrev pub RightCall : Text → (WithCode → State → RunTalk) → Type 0
  RightCall c call = (p : ℕ) (stack : List Val) (frames : List Frame) (s : State) (back : WithCode) → HasAt loaded.code.instrs p c →
      ((n : ℤ) (s : State) → Behaves loaded (run_at (p + length c) stack frames d (put_code s n)) (back n s)) →
      Behaves loaded (run_at p stack frames d s) (call back s)

  -- ---- calls

  settle_right : (p : ℕ) (stack : List Val) (frames : List Frame) (next : WithCode) → slice_get loaded.code.instrs p ≡ Some ExitOnZero →
      ((n : ℤ) (s : State) → Behaves loaded (run_at (p + 1) stack frames d (put_code s n)) (next n (put_code s n))) →
      (n : ℤ) (s : State) → Behaves loaded (run_at p stack frames d (put_code s n)) (settle next n s)
  settle_right p stack frames next has k (pos zero) s = by_act loaded (run_at p stack frames d (put_code s (pos zero))) ExitOnZero _ has (_, refl, refl)
  settle_right p stack frames next has k (pos (suc n)) s = by_act loaded (run_at p stack frames d (put_code s (pos (suc n)))) ExitOnZero _ has (k (pos (suc n)) s)
  settle_right p stack frames next has k (negsuc n) s = by_act loaded (run_at p stack frames d (put_code s (negsuc n))) ExitOnZero _ has (k (negsuc n) s)

  coded_right : (c : Text) (call : WithCode → State → RunTalk) → RightCall c call → RightMeant (called_text c) (coded call)
  coded_right c call rc AsValue p stack frames s next has k =
      let code = loaded.code.instrs in
      let h = has_back code (p + 1) c _ has.1 in
      let len : p + 1 + length c + 1 + 1 ≡ p + length (called_text c AsValue) = omega (arith, length-append c (ExitOnZero ∷ LoadCode ∷ [])) in
      count_right loaded d p stack frames _ has.0 (λ s1.
      rc (p + 1) stack frames s1 _ (has_front code (p + 1) c _ has.1)
      (settle_right (p + 1 + length c) stack frames (λ n. next (val.Int n)) h.0 (λ n s2.
      by_act loaded (run_at (p + 1 + length c + 1) stack frames d (put_code s2 n)) LoadCode _ h.1.0
      (at_place loaded [] _ _ (val.Int n ∷ stack) frames d (put_code s2 n) _ len (k (val.Int n) (put_code s2 n)))))) s
  coded_right c call rc AsTruth p stack frames s next has k =
      let code = loaded.code.instrs in
      let h = has_back code (p + 1) c _ has.1 in
      let len : p + 1 + length c + 1 + 1 ≡ p + length (called_text c AsTruth) = omega (arith, length-append c (ExitOnZero ∷ LoadSuccess ∷ [])) in
      count_right loaded d p stack frames _ has.0 (λ s1.
      rc (p + 1) stack frames s1 _ (has_front code (p + 1) c _ has.1)
      (settle_right (p + 1 + length c) stack frames (λ n. next (bit (int_lt (pos 0) n))) h.0 (λ n s2.
      by_act loaded (run_at (p + 1 + length c + 1) stack frames d (put_code s2 n)) LoadSuccess _ h.1.0
      (at_place loaded [] _ _ (bit (int_lt (pos 0) n) ∷ stack) frames d (put_code s2 n) _ len (k (bit (int_lt (pos 0) n)) (put_code s2 n)))))) s

  function_right : (f : Func) (args : List (List Part)) → RightCall (arguments_code args ++ CallFunction f ∷ []) (called f args)
  function_right f args p stack frames s back has k =
      let code = loaded.code.instrs in
      let c = arguments_code args in
      let at = (has_back code p c (CallFunction f ∷ []) has).0 in
      let len : p + length c + 1 ≡ p + length (c ++ CallFunction f ∷ []) = omega (arith, length-append c (CallFunction f ∷ [])) in
      arguments_right loaded d args [] p stack frames s _ (has_front code p c _ has) (λ vs s2.
      by_act loaded (run_with vs (p + length c) stack frames d s2) (CallFunction f) _ at (
        _,
        _,
        refl,
        asked_behind loaded (record (run_with vs (p + length c + 1) stack frames d s2) { wait = wait.Code }) (p + length c) (CallFunction f) refl at,
        tt,
        λ answer. at_place loaded [] _ _ stack frames d (put_code s2 (told_code answer)) _ len (k (told_code answer) s2),
      ))

  -- ---- operands of one level

  abbrev Linked : BinOp × (Wanted → Text) → BinOp × Meant → Type 0
  Linked c e = (c.0 ≡ e.0) × RightMeant c.1 e.1

  links_right : (cs : List (BinOp × (Wanted → Text))) (es : List (BinOp × Meant)) → Each Linked cs es → (p : ℕ) (stack : List Val) (frames : List Frame) (next : WithValue) → HasAt loaded.code.instrs p (links_text cs) →
      ((v : Val) (s : State) → Behaves loaded (run_at (p + length (links_text cs)) (v ∷ stack) frames d s) (next v s)) →
      (x : Val) (s : State) → Behaves loaded (run_at p (x ∷ stack) frames d s) (linked es x next s)
  links_right [] [] each p stack frames next has k x s = let e : p ≡ p + 0 = omega arith in at_place loaded [] _ _ (x ∷ stack) frames d s _ e (k x s)
  links_right [] (e ∷ es) each p stack frames next has k x s = absurd each
  links_right (c ∷ cs) [] each p stack frames next has k x s = absurd each
  links_right (c ∷ cs) (e ∷ es) each p stack frames next has k x s =
      let code = loaded.code.instrs in
      let b = c.1 AsValue in
      let t = link_text c.0 b in
      let ts = links_text cs in
      let h = has_front code p t ts has in
      let at = (has_back code p b _ h).0 in
      let one : p + length b + 1 ≡ p + length t = omega (arith, length-append b (Binary c.0 ∷ [])) in
      let len : p + length t + length ts ≡ p + length (t ++ ts) = omega (arith, length-append t ts) in
      each.0.1 AsValue p (x ∷ stack) frames s _ (has_front code p b _ h) (λ y s2.
      by_act loaded (run_at (p + length b) (y ∷ x ∷ stack) frames d s2) (Binary c.0) _ at
      (at_place loaded [] _ _ (binary_value c.0 x y ∷ stack) frames d s2 _ one
      (subst (λ op. Behaves loaded (run_at (p + length t) (binary_value c.0 x y ∷ stack) frames d s2) (linked es (binary_value op x y) next s2)) each.0.0
      (links_right cs es each.1 (p + length t) stack frames next (has_back code p t ts has) (λ v s3. at_place loaded [] _ _ (v ∷ stack) frames d s3 _ len (k v s3)) (binary_value c.0 x y) s2))))

  chain_right : (a : Text) (m : Valued) → Right loaded d [] a m → (cs : List (BinOp × (Wanted → Text))) (es : List (BinOp × Meant)) → Each Linked cs es →
      Right loaded d [] (a ++ links_text cs) (λ next. m (λ x. linked es x next))
  chain_right a m ra cs es each p stack frames s next has k =
      let code = loaded.code.instrs in
      let ts = links_text cs in
      let len : p + length a + length ts ≡ p + length (a ++ ts) = omega (arith, length-append a ts) in
      ra p stack frames s _ (has_front code p a ts has)
      (links_right cs es each (p + length a) stack frames next (has_back code p a ts has) (λ v s. at_place loaded [] _ _ (v ∷ stack) frames d s _ len (k v s)))

  -- `&&` with a 1 or a 0 before its operands
  ands_false : (ts : List (Wanted → Text)) (p : ℕ) (stack : List Val) (frames : List Frame) (next : WithValue) → HasAt loaded.code.instrs p (ands_text ts) →
      ((v : Val) (s : State) → Behaves loaded (run_at (p + length (ands_text ts)) (v ∷ stack) frames d s) (next v s)) →
      (s : State) → Behaves loaded (run_at p (bit false ∷ stack) frames d s) (next (bit false) s)
  ands_false [] p stack frames next has k s = let e : p ≡ p + 0 = omega arith in at_place loaded [] _ _ (bit false ∷ stack) frames d s _ e (k (bit false) s)
  ands_false (t ∷ ts) p stack frames next has k s =
      let code = loaded.code.instrs in
      let a = t AsTruth in
      let c = and_text a in
      let skip : p + 1 + (length a + 1) ≡ p + length c = omega (arith, length-append a (ToBool ∷ [])) in
      let len : p + length c + length (ands_text ts) ≡ p + length (c ++ ands_text ts) = omega (arith, length-append c (ands_text ts)) in
      by_act loaded (run_at p (bit false ∷ stack) frames d s) (JumpIfFalseOrPop (length a + 1)) _ has.0
      (at_place loaded [] _ _ (bit false ∷ stack) frames d s _ skip
      (ands_false ts (p + length c) stack frames next (has_back code p c (ands_text ts) has) (λ v s. at_place loaded [] _ _ (v ∷ stack) frames d s _ len (k v s)) s))

  ands_right : (ts : List (Wanted → Text)) (ms : List Meant) → Each RightMeant ts ms → (p : ℕ) (stack : List Val) (frames : List Frame) (next : WithValue) → HasAt loaded.code.instrs p (ands_text ts) →
      ((v : Val) (s : State) → Behaves loaded (run_at (p + length (ands_text ts)) (v ∷ stack) frames d s) (next v s)) →
      (s : State) → Behaves loaded (run_at p (bit true ∷ stack) frames d s) (all_true ms next s)
  ands_right [] [] each p stack frames next has k s = let e : p ≡ p + 0 = omega arith in at_place loaded [] _ _ (bit true ∷ stack) frames d s _ e (k (bit true) s)
  ands_right [] (m ∷ ms) each p stack frames next has k s = absurd each
  ands_right (t ∷ ts) [] each p stack frames next has k s = absurd each
  ands_right (t ∷ ts) (m ∷ ms) each p stack frames next has k s =
      let code = loaded.code.instrs in
      let a = t AsTruth in
      let c = and_text a in
      let h = has_front code p c (ands_text ts) has in
      let h2 = has_back code p c (ands_text ts) has in
      let at = (has_back code (p + 1) a (ToBool ∷ []) h.1).0 in
      let one : p + 1 + length a + 1 ≡ p + length c = omega (arith, length-append a (ToBool ∷ [])) in
      let len : p + length c + length (ands_text ts) ≡ p + length (c ++ ands_text ts) = omega (arith, length-append c (ands_text ts)) in
      let k2 : (v : Val) (s : State) → Behaves loaded (run_at (p + length c + length (ands_text ts)) (v ∷ stack) frames d s) (next v s) = λ v s. at_place loaded [] _ _ (v ∷ stack) frames d s _ len (k v s) in
      by_act loaded (run_at p (bit true ∷ stack) frames d s) (JumpIfFalseOrPop (length a + 1)) _ has.0
      (each.0 AsTruth (p + 1) stack frames s _ (has_front code (p + 1) a _ h.1) (λ v s2.
      by_act loaded (run_at (p + 1 + length a) (v ∷ stack) frames d s2) ToBool _ at
      (at_place loaded [] _ _ (bit (is_true v) ∷ stack) frames d s2 _ one
      (elim (is_true v) as (λ b. Behaves loaded (run_at (p + length c) (bit b ∷ stack) frames d s2) (if b then all_true ms next s2 else next (bit false) s2)) [
        | true ↦ ands_right ts ms each.1 (p + length c) stack frames next h2 k2 s2
        | false ↦ ands_false ts (p + length c) stack frames next h2 k2 s2
      ]))))

  -- `||` the same way
  ors_true : (ts : List (Wanted → Text)) (p : ℕ) (stack : List Val) (frames : List Frame) (next : WithValue) → HasAt loaded.code.instrs p (ors_text ts) →
      ((v : Val) (s : State) → Behaves loaded (run_at (p + length (ors_text ts)) (v ∷ stack) frames d s) (next v s)) →
      (s : State) → Behaves loaded (run_at p (bit true ∷ stack) frames d s) (next (bit true) s)
  ors_true [] p stack frames next has k s = let e : p ≡ p + 0 = omega arith in at_place loaded [] _ _ (bit true ∷ stack) frames d s _ e (k (bit true) s)
  ors_true (t ∷ ts) p stack frames next has k s =
      let code = loaded.code.instrs in
      let a = t AsTruth in
      let c = or_text a in
      let skip : p + 1 + (length a + 1) ≡ p + length c = omega (arith, length-append a (ToBool ∷ [])) in
      let len : p + length c + length (ors_text ts) ≡ p + length (c ++ ors_text ts) = omega (arith, length-append c (ors_text ts)) in
      by_act loaded (run_at p (bit true ∷ stack) frames d s) (JumpIfTrueOrPop (length a + 1)) _ has.0
      (at_place loaded [] _ _ (bit true ∷ stack) frames d s _ skip
      (ors_true ts (p + length c) stack frames next (has_back code p c (ors_text ts) has) (λ v s. at_place loaded [] _ _ (v ∷ stack) frames d s _ len (k v s)) s))

  ors_right : (ts : List (Wanted → Text)) (ms : List Meant) → Each RightMeant ts ms → (p : ℕ) (stack : List Val) (frames : List Frame) (next : WithValue) → HasAt loaded.code.instrs p (ors_text ts) →
      ((v : Val) (s : State) → Behaves loaded (run_at (p + length (ors_text ts)) (v ∷ stack) frames d s) (next v s)) →
      (s : State) → Behaves loaded (run_at p (bit false ∷ stack) frames d s) (any_true ms next s)
  ors_right [] [] each p stack frames next has k s = let e : p ≡ p + 0 = omega arith in at_place loaded [] _ _ (bit false ∷ stack) frames d s _ e (k (bit false) s)
  ors_right [] (m ∷ ms) each p stack frames next has k s = absurd each
  ors_right (t ∷ ts) [] each p stack frames next has k s = absurd each
  ors_right (t ∷ ts) (m ∷ ms) each p stack frames next has k s =
      let code = loaded.code.instrs in
      let a = t AsTruth in
      let c = or_text a in
      let h = has_front code p c (ors_text ts) has in
      let h2 = has_back code p c (ors_text ts) has in
      let at = (has_back code (p + 1) a (ToBool ∷ []) h.1).0 in
      let one : p + 1 + length a + 1 ≡ p + length c = omega (arith, length-append a (ToBool ∷ [])) in
      let len : p + length c + length (ors_text ts) ≡ p + length (c ++ ors_text ts) = omega (arith, length-append c (ors_text ts)) in
      let k2 : (v : Val) (s : State) → Behaves loaded (run_at (p + length c + length (ors_text ts)) (v ∷ stack) frames d s) (next v s) = λ v s. at_place loaded [] _ _ (v ∷ stack) frames d s _ len (k v s) in
      by_act loaded (run_at p (bit false ∷ stack) frames d s) (JumpIfTrueOrPop (length a + 1)) _ has.0
      (each.0 AsTruth (p + 1) stack frames s _ (has_front code (p + 1) a _ h.1) (λ v s2.
      by_act loaded (run_at (p + 1 + length a) (v ∷ stack) frames d s2) ToBool _ at
      (at_place loaded [] _ _ (bit (is_true v) ∷ stack) frames d s2 _ one
      (elim (is_true v) as (λ b. Behaves loaded (run_at (p + length c) (bit b ∷ stack) frames d s2) (if b then next (bit true) s2 else any_true ms next s2)) [
        | true ↦ ors_true ts (p + length c) stack frames next h2 k2 s2
        | false ↦ ors_right ts ms each.1 (p + length c) stack frames next h2 k2 s2
      ]))))

  -- a value, and a text that begins with it on the stack
  after_right : (v : Val) (c : Text) (m : Valued) → ((p : ℕ) (stack : List Val) (frames : List Frame) (next : WithValue) → HasAt loaded.code.instrs p c →
      ((v : Val) (s : State) → Behaves loaded (run_at (p + length c) (v ∷ stack) frames d s) (next v s)) → (s : State) → Behaves loaded (run_at p (v ∷ stack) frames d s) (m next s)) →
      Right loaded d [] (Push v ∷ c) m
  after_right v c m rc p stack frames s next has k =
      let len : p + 1 + length c ≡ p + length (Push v ∷ c) = omega arith in
      by_act loaded (run_at p stack frames d s) (Push v) _ has.0
      (rc (p + 1) stack frames next has.1 (λ v s. at_place loaded [] _ _ (v ∷ stack) frames d s _ len (k v s)) s)

  module _ (script : Script) (patterns : loaded.patterns ≡ script.patterns) (route : Routes) where
    abbrev pub RightRoute : Type 0
    RightRoute = (b : ℕ) → RightCall (CallBlock b ∷ []) (route b)

    abbrev Fine : Expr → Type 0
    Fine e = RightMeant (expr_code e) (expr_of script route e)

    abbrev texts_of : List ((e : Expr) × Fine e) → List (Wanted → Text)
    texts_of ys = map expr_code (map (λ (e : (e : Expr) × Fine e). e.0) ys)

    abbrev meants_of : List ((e : Expr) × Fine e) → List Meant
    meants_of ys = map (expr_of script route) (map (λ (e : (e : Expr) × Fine e). e.0) ys)

    pairs_right : (ys : List ((e : Expr) × Fine e)) → Each RightMeant (texts_of ys) (meants_of ys)
    pairs_right [] = tt
    pairs_right (y ∷ ys) = (y.1, pairs_right ys)

    abbrev Operands : Type 0
    Operands = List (BinOp × ((e : Expr) × Fine e))

    abbrev link_texts : Operands → List (BinOp × (Wanted → Text))
    link_texts ys = map (λ (c : BinOp × Expr). (c.0, expr_code c.1)) (map (λ (c : BinOp × ((e : Expr) × Fine e)). (c.0, c.1.0)) ys)

    abbrev link_meants : Operands → List (BinOp × Meant)
    link_meants ys = map (λ (c : BinOp × Expr). (c.0, expr_of script route c.1)) (map (λ (c : BinOp × ((e : Expr) × Fine e)). (c.0, c.1.0)) ys)

    operands_right : (ys : Operands) → Each Linked (link_texts ys) (link_meants ys)
    operands_right [] = tt
    operands_right (y ∷ ys) = ((refl, y.1.1), operands_right ys)

    layer : RightRoute → (y : Expr-F ((e : Expr) × Fine e)) → RightMeant (expr_text (map-Expr _ _ expr_code (map-Expr _ _ (λ e. e.0) y))) (expr_meaning_step script route (map-Expr _ _ (expr_of script route) (map-Expr _ _ (λ e. e.0) y)))
    layer r (Expr-F.Int n) = λ w p stack frames s next has k. by_act loaded (run_at p stack frames d s) (Push (val.Int n)) _ has.0 (k _ s)
    layer r (Expr-F.Text t) = λ w p stack frames s next has k. by_act loaded (run_at p stack frames d s) (Push (limited t)) _ has.0 (k _ s)
    layer r (Expr-F.Read x) = λ w. part_right loaded d x []
    layer r (Expr-F.Call f args) = coded_right (arguments_code args ++ CallFunction f ∷ []) (called f args) (function_right f args)
    layer r (Expr-F.Route b) = coded_right (CallBlock b ∷ []) (route b) (r b)
    layer r (Expr-F.Not a) = λ w. change_right loaded d [] Not (λ v. bit (not (is_true v))) (λ r. refl) (expr_code a.0 AsTruth) (expr_of script route a.0 AsTruth) (a.1 AsTruth)
    layer r (Expr-F.Negative a) = λ w. change_right loaded d [] Negate negated (λ r. refl) (expr_code a.0 AsValue) (expr_of script route a.0 AsValue) (a.1 AsValue)
    layer r (Expr-F.Chain a cs) = λ w. chain_right (expr_code a.0 AsValue) (expr_of script route a.0 AsValue) (a.1 AsValue) (link_texts cs) (link_meants cs) (operands_right cs)
    layer r (Expr-F.Matches a p) = λ w. change_right loaded d [] (Match p) (λ v. bit (matched (slice_get script.patterns p) v))
        (λ r. ap (λ ps. changing (λ v. bit (matched (slice_get ps p) v)) r) patterns) (expr_code a.0 AsValue) (expr_of script route a.0 AsValue) (a.1 AsValue)
    layer r (Expr-F.All ms) = λ w. after_right (bit true) (ands_text (texts_of ms)) (all_true (meants_of ms)) (ands_right (texts_of ms) (meants_of ms) (pairs_right ms))
    layer r (Expr-F.Any ms) = λ w. after_right (bit false) (ors_text (texts_of ms)) (any_true (meants_of ms)) (ors_right (texts_of ms) (meants_of ms) (pairs_right ms))

    pub expr_right : RightRoute → (e : Expr) → RightMeant (expr_code e) (expr_of script route e)
    expr_right r = ind-Expr Fine (λ x y is. subst (λ x. Fine (roll-Expr x)) is (
        let x = map-Expr ((e : Expr) × Fine e) Expr (λ e. e.0) y in
        subst (λ c. RightMeant c (expr_of script route (roll-Expr x))) (sym (fold-roll-Expr (Wanted → Text) expr_text x)) (
        subst (λ m. RightMeant (expr_text (map-Expr _ _ expr_code x)) m) (sym (fold-roll-Expr Meant (expr_meaning_step script route) x)) (layer r y))))
