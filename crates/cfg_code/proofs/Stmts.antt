-- The code of a statement, and of a block, does what it means.
use Rattle.std.proofs.Common.{◌≡◌, ℕ, zero, suc, ◌+◌, ℤ, pos, true, false, List, [], ◌∷◌, ◌++◌, length, map, Option, Some, None, refl, sym, subst, arith, append_assoc, length-append}
use Rattle.std.specs.Prelude.{if◌then◌else◌, slice_get}
use Rattle.pv_values.specs.declared.value.Val.{Val}
use Rattle.pv_values.specs.declared.value.Val.TheVariants as val
use Rattle.pv_values.specs.declared.run.Env.{Env}
use Rattle.pv_values.specs.declared.run.How.TheVariants as how
use Rattle.pv_values.specs.Values.{is_true, same as is_label, code_of, text_of}
use Rattle.cfg_tree.specs.declared.script.Part.{Part}
use Rattle.cfg_tree.specs.declared.script.TableUse.{TableUse}
use Rattle.cfg_tree.specs.declared.script.Expr.{Expr}
use Rattle.cfg_tree.specs.declared.script.Target.{Target}
use Rattle.cfg_tree.specs.declared.script.Target.TheVariants as target
use Rattle.cfg_tree.specs.declared.script.Stmt.{Stmt}
use Rattle.cfg_tree.specs.declared.script.Stmt.TheOpen.{Stmt-F}
use Rattle.cfg_tree.specs.declared.script.Stmt.TheViews.{roll-Stmt}
use Rattle.cfg_tree.specs.declared.script.Stmt.TheFolds.{fold-roll-Stmt, ind-Stmt, map-Stmt}
use Rattle.cfg_tree.specs.declared.script.Script.{Script}
use Rattle.cfg_tree.specs.Meaning.{RunTalk, State, Valued, AsValue, AsTruth, Routes, put_var, ends, counted, item_of, expansion_of, expr_of, Ways, Made, in_order, rounds, onward, chosen, write_host, assigned, returned, stmt_meaning_step, stmt_of, block_meaning, block_at, routes_to, end_of, max_statements, dialogue}
use Rattle.cfg_code.specs.declared.instr.Instr.{Instr}
use Rattle.cfg_code.specs.declared.instr.Instr.TheVariants.{Push, Store, Write, WriteItem, CallBlock, Pop, CountStatement, JumpIfFalse, Jump, Case, BeginLoop, BeginRound, LoopBack, EndLoop, Break, Return, Exit, Drop, EndBlock}
use Rattle.cfg_code.specs.Flat.{FlatScript}
use Rattle.cfg_code.specs.declared.machine.Frame.{Frame}
use Rattle.cfg_code.specs.declared.machine.Frame.TheVariants.{Loop, Back}
use Rattle.cfg_code.specs.declared.machine.Wait.TheVariants as wait
use Rattle.cfg_code.specs.Code.{Text, texts_joined, expansion_code, expr_code, set_text, if_text, while_text, case_text, cases_text, switch_text, return_text, stmt_text, stmt_code, list_code, text_of_block}
use Rattle.cfg_code.specs.Machine.{moved, jump, leave, breaking, looping_back, casing, act, entry, begun}
use Rattle.cfg_code.specs.Follows.{HasAt, Stands, Behaves}
use Rattle.cfg_code.proofs.Places.{has_front, has_back, run_at, After, by_act, asked_behind, at_place, count_from, count_right, Each, Right}
use Rattle.cfg_code.proofs.Parts.{expansion_right}
use Rattle.cfg_code.proofs.Exprs.{RightMeant, RightRoute, expr_right}

module _ (loaded : FlatScript) where
  -- what the machine does at the three ways on from a statement
  pub record RightWays (d p : ℕ) (stack : List Val) (frames : List Frame) (ways : Ways) : Type 0 where
    pub on : (s : State) → Behaves loaded (run_at p stack frames d s) (ways.on s)
    pub out : (s : State) (p : ℕ) (old : List Frame) → After loaded (breaking frames (run_at p stack old d s)) (ways.out s)
    pub back : (n : ℤ) (s : State) (p : ℕ) (old : List Frame) → After loaded (leave frames n (end_of n) (run_at p stack old d s)) (ways.back n s)

  module _ (d : ℕ) where
    abbrev pub RightMade : Text → Made → Type 0
    RightMade text m = (p : ℕ) (stack : List Val) (frames : List Frame) (s : State) (ways : Ways) → HasAt loaded.code.instrs p text →
        RightWays d (p + length text) stack frames ways →
        Behaves loaded (run_at p stack frames d s) (m ways s)

    ways_at : (p q : ℕ) (stack : List Val) (frames : List Frame) (ways : Ways) → p ≡ q → RightWays d p stack frames ways → RightWays d q stack frames ways
    ways_at p q stack frames ways e w = subst (λ q. RightWays d q stack frames ways) e w

    list_right : (ts : List Text) (ms : List Made) → Each RightMade ts ms → RightMade (texts_joined ts) (in_order ms)
    list_right [] [] each p stack frames s ways has w = let e : p ≡ p + 0 = omega arith in at_place loaded [] _ _ stack frames d s _ e (w.on s)
    list_right [] (m ∷ ms) each p stack frames s ways has w = absurd each
    list_right (t ∷ ts) [] each p stack frames s ways has w = absurd each
    list_right (t ∷ ts) (m ∷ ms) each p stack frames s ways has w =
        let code = loaded.code.instrs in
        let len : p + length (t ++ texts_joined ts) ≡ p + length t + length (texts_joined ts) = omega (arith, length-append t (texts_joined ts)) in
        let w' = ways_at _ _ stack frames ways len w in
        each.0 p stack frames s _ (has_front code p t (texts_joined ts) has) (record {
          on = λ s. list_right ts ms each.1 (p + length t) stack frames s ways (has_back code p t (texts_joined ts) has) w';
          out = w.out;
          back = w.back;
        })

    -- ---- statements that take a value

    -- a value, and an instruction that takes it
    take_right : (c : Text) (v : Valued) → Right loaded d [] c v → (i : Instr) (next : Ways → Val → State → RunTalk) →
        ((p : ℕ) (stack : List Val) (frames : List Frame) (ways : Ways) (v : Val) (s : State) → slice_get loaded.code.instrs p ≡ Some i → RightWays d (p + 1) stack frames ways → After loaded (act loaded i (run_at (p + 1) (v ∷ stack) frames d s)) (next ways v s)) →
        RightMade (c ++ i ∷ []) (λ ways. v (next ways))
    take_right c v rc i next k p stack frames s ways has w =
        let code = loaded.code.instrs in
        let at = (has_back code p c _ has).0 in
        let len : p + length (c ++ i ∷ []) ≡ p + length c + 1 = omega (arith, length-append c (i ∷ [])) in
        let w' = ways_at _ _ stack frames ways len w in
        rc p stack frames s _ (has_front code p c _ has) (λ v s2.
        by_act loaded (run_at (p + length c) (v ∷ stack) frames d s2) i _ at (k (p + length c) stack frames ways v s2 at w'))

    counted_right : (c : Text) (m : Made) → RightMade c m → RightMade (CountStatement ∷ c) (λ ways. counted (m ways))
    counted_right c m rc p stack frames s ways has w =
        let len : p + length (CountStatement ∷ c) ≡ p + 1 + length c = omega arith in
        let w' = ways_at _ _ stack frames ways len w in
        count_right loaded d p stack frames _ has.0 (λ s1. rc (p + 1) stack frames s1 ways has.1 w') s

    write_item_right : (way : TableUse) (t : ℕ) (key : List Part) (c : Text) (v : Valued) → Right loaded d [] c v →
        RightMade (expansion_code key ++ (c ++ WriteItem way t ∷ [])) (λ ways. expansion_of key (λ k. v (λ x. write_host (item_of way t (text_of k)) x ways.on)))
    write_item_right way t key c v rc p stack frames s ways has w =
        let code = loaded.code.instrs in
        let a = expansion_code key in
        let h = has_back code p a _ has in
        let at = (has_back code (p + length a) c _ h).0 in
        let len : p + length a + length c + 1 ≡ p + length (a ++ (c ++ WriteItem way t ∷ [])) = omega (arith, length-append a (c ++ WriteItem way t ∷ []), length-append c (WriteItem way t ∷ [])) in
        expansion_right loaded d key [] p stack frames s _ (has_front code p a _ has) (λ k s1.
        rc (p + length a) (k ∷ stack) frames s1 _ (has_front code _ c _ h) (λ x s2.
        by_act loaded (run_at (p + length a + length c) (x ∷ k ∷ stack) frames d s2) (WriteItem way t) _ at (
          _,
          _,
          refl,
          asked_behind loaded (record (run_at (p + length a + length c + 1) (x ∷ val.Text (text_of k) ∷ stack) frames d s2) { wait = wait.ItemWritten }) (p + length a + length c) (WriteItem way t) refl at,
          tt,
          λ answer. at_place loaded [] _ _ stack frames d s2 _ len (w.on s2),
        )))

    set_right : (x : Target) (c : Text) (v : Valued) → Right loaded d [] c v → RightMade (set_text x c) (λ ways. counted (assigned x v ways.on))
    set_right (target.Var x) c v rc = counted_right (c ++ Store x ∷ []) (λ ways. v (λ v s. ways.on (put_var s x v))) (take_right c v rc (Store x) (λ ways v s. ways.on (put_var s x v)) (λ p stack frames ways v s at w. w.on (put_var s x v)))
    set_right (target.Host x) c v rc = counted_right (c ++ Write x ∷ []) (λ ways. v (λ v. write_host x v ways.on)) (take_right c v rc (Write x) (λ ways v. write_host x v ways.on) (λ p stack frames ways v s at w.
        (_, _, refl, asked_behind loaded (record (run_at (p + 1) (v ∷ stack) frames d s) { wait = wait.Written }) p (Write x) refl at, tt, λ answer. w.on s)))
    set_right (target.Item way t key) c v rc = counted_right (expansion_code key ++ (c ++ WriteItem way t ∷ [])) (λ ways. expansion_of key (λ k. v (λ x. write_host (item_of way t (text_of k)) x ways.on))) (write_item_right way t key c v rc)

    -- ---- a choice

    if_right : (c : Text) (v : Valued) → Right loaded d [] c v → (ca cb : Text) (ma mb : Made) → RightMade ca ma → RightMade cb mb →
        RightMade (if_text c ca cb) (λ ways. counted (v (λ v s. if is_true v then ma ways s else mb ways s)))
    if_right c v rc ca cb ma mb ra rb p stack frames s ways has w =
        let code = loaded.code.instrs in
        let h = has_back code (p + 1) c _ has.1 in
        let p1 = p + 1 + length c in
        let h2 = has_back code (p1 + 1) ca _ h.1 in
        let whole : length (if_text c ca cb) ≡ length c + length ca + length cb + 3 = omega (arith, length-append c (JumpIfFalse (length ca + 1) ∷ (ca ++ (Jump (length cb) ∷ cb))), length-append ca (Jump (length cb) ∷ cb)) in
        let skip : p1 + 1 + (length ca + 1) ≡ p1 + 1 + length ca + 1 = omega arith in
        let len : p + length (if_text c ca cb) ≡ p1 + 1 + length ca + 1 + length cb = omega arith in
        let past : p1 + 1 + length ca + 1 + length cb ≡ p + length (if_text c ca cb) = omega arith in
        let wb = ways_at _ _ stack frames ways len w in
        let wa : RightWays d (p1 + 1 + length ca) stack frames ways = record {
          on = λ s. by_act loaded (run_at (p1 + 1 + length ca) stack frames d s) (Jump (length cb)) _ h2.0 (at_place loaded [] _ _ stack frames d s _ past (w.on s));
          out = w.out;
          back = w.back;
        } in
        count_right loaded d p stack frames _ has.0 (λ s1.
        rc (p + 1) stack frames s1 _ (has_front code _ c _ has.1) (λ v s2.
        by_act loaded (run_at p1 (v ∷ stack) frames d s2) (JumpIfFalse (length ca + 1)) _ h.0
        (elim (is_true v) as (λ b. After loaded (if b then moved (run_at (p1 + 1) stack frames d s2) else jump (length ca + 1) (run_at (p1 + 1) stack frames d s2)) (if b then ma ways s2 else mb ways s2)) [
          | true ↦ ra (p1 + 1) stack frames s2 ways (has_front code _ ca _ h.1) wa
          | false ↦ at_place loaded [] _ _ stack frames d s2 _ skip (rb (p1 + 1 + length ca + 1) stack frames s2 ways h2.1 wb)
        ]))) s

    -- ---- a loop

    -- a test after it was counted, with its loop on top of the frames
    abbrev test_of : ℕ → Valued → Made → Ways → State → RunTalk
    test_of zero test body ways = test (λ v s. if is_true v then ends how.LoopLimit s else ways.on s)
    test_of (suc more) test body ways = test (λ v s. if is_true v then body (record { on = rounds more test body ways; out = ways.on; back = ways.back }) s else ways.on s)

    rounds_is : (n : ℕ) (test : Valued) (body : Made) (ways : Ways) → rounds n test body ways ≡ counted (test_of n test body ways)
    rounds_is zero test body ways = refl
    rounds_is (suc n) test body ways = refl

    module _ (ct : Text) (test : Valued) (rt : Right loaded d [] ct test) (cb : Text) (mb : Made) (rb : RightMade cb mb) (p : ℕ) (stack : List Val) (frames : List Frame) (ways : Ways)
        (has : HasAt loaded.code.instrs p (while_text ct cb)) (w : RightWays d (p + length (while_text ct cb)) stack frames ways) where
      abbrev code : Text
      code = loaded.code.instrs

      abbrev start : ℕ
      start = p + 1 + 1

      abbrev exit : ℕ
      exit = p + 1 + 1 + (length ct + length cb + 4)

      whole : length (while_text ct cb) ≡ length ct + length cb + 6
      whole =
          let last = LoopBack ∷ EndLoop ∷ [] in
          omega (arith, length-append ct (JumpIfFalse (length cb + 2) ∷ BeginRound ∷ (cb ++ last)), length-append cb last)

      at_skip : HasAt code (start + length ct) (JumpIfFalse (length cb + 2) ∷ BeginRound ∷ (cb ++ LoopBack ∷ EndLoop ∷ []))
      at_skip = has_back code start ct _ has.1.1

      at_again : HasAt code (start + length ct + 1 + 1 + length cb) (LoopBack ∷ EndLoop ∷ [])
      at_again = has_back code (start + length ct + 1 + 1) cb _ at_skip.1.1

      -- out of the loop where the test doesn't hold
      leaves : (n : ℕ) (s : State) → Behaves loaded (run_at (start + length ct + 1 + (length cb + 2)) stack (Loop n start exit ∷ frames) d s) (ways.on s)
      leaves n s =
          let q = start + length ct + 1 + 1 + length cb + 1 in
          let at_finish : start + length ct + 1 + (length cb + 2) ≡ q = omega arith in
          let at_end : q + 1 ≡ p + length (while_text ct cb) = omega (arith, whole) in
          at_place loaded [] _ q stack (Loop n start exit ∷ frames) d s _ at_finish
          (by_act loaded (run_at q stack (Loop n start exit ∷ frames) d s) EndLoop _ at_again.1.0 (at_place loaded [] _ _ stack frames d s _ at_end (w.on s)))

      -- one round more
      enters : (n : ℕ) → ((s : State) → Behaves loaded (run_at start stack (Loop n start exit ∷ frames) d s) (test_of n test mb ways s)) →
          (s : State) → Behaves loaded (run_at (start + length ct + 1 + 1) stack (Loop n start exit ∷ frames) d s)
          (mb (record { on = rounds n test mb ways; out = ways.on; back = ways.back }) s)
      enters n again s =
          let q = start + length ct + 1 + 1 in
          let at_end : exit ≡ p + length (while_text ct cb) = omega (arith, whole) in
          rb q stack (Loop n start exit ∷ frames) s _ (has_front code q cb _ at_skip.1.1) (record {
            on = λ s. subst (λ m. Behaves loaded (run_at (q + length cb) stack (Loop n start exit ∷ frames) d s) (m s)) (sym (rounds_is n test mb ways))
                (count_from loaded d (q + length cb) stack (Loop n start exit ∷ frames) LoopBack (λ r. looping_back r.frames r) _ at_again.0 (λ r. refl)
                (λ s. again s) s.left s.env);
            out = λ s q old. at_place loaded [] _ _ stack frames d s _ at_end (w.on s);
            back = λ c s q old. w.back c s q old;
          })

      round_from : (n : ℕ) (s : State) → Behaves loaded (run_at start stack (Loop n start exit ∷ frames) d s) (test_of n test mb ways s)
      round_from zero s =
          let q = start + length ct in
          rt start stack (Loop 0 start exit ∷ frames) s _ (has_front code _ ct _ has.1.1) (λ v s2.
          by_act loaded (run_at q (v ∷ stack) (Loop 0 start exit ∷ frames) d s2) (JumpIfFalse (length cb + 2)) _ at_skip.0
          (elim (is_true v) as (λ b. After loaded (if b then moved (run_at (q + 1) stack (Loop 0 start exit ∷ frames) d s2) else jump (length cb + 2) (run_at (q + 1) stack (Loop 0 start exit ∷ frames) d s2)) (if b then ends how.LoopLimit s2 else ways.on s2)) [
            | true ↦ by_act loaded (run_at (q + 1) stack (Loop 0 start exit ∷ frames) d s2) BeginRound _ at_skip.1.0 (_, refl, refl)
            | false ↦ leaves 0 s2
          ]))
      round_from (suc n) s =
          let q = start + length ct in
          rt start stack (Loop (suc n) start exit ∷ frames) s _ (has_front code _ ct _ has.1.1) (λ v s2.
          by_act loaded (run_at q (v ∷ stack) (Loop (suc n) start exit ∷ frames) d s2) (JumpIfFalse (length cb + 2)) _ at_skip.0
          (elim (is_true v) as (λ b. After loaded (if b then moved (run_at (q + 1) stack (Loop (suc n) start exit ∷ frames) d s2) else jump (length cb + 2) (run_at (q + 1) stack (Loop (suc n) start exit ∷ frames) d s2)) (if b then mb (record { on = rounds n test mb ways; out = ways.on; back = ways.back }) s2 else ways.on s2)) [
            | true ↦ by_act loaded (run_at (q + 1) stack (Loop (suc n) start exit ∷ frames) d s2) BeginRound _ at_skip.1.0 (enters n (round_from n) s2)
            | false ↦ leaves (suc n) s2
          ]))

      from_begin : (max : ℕ) → loaded.parameters.max_while_loops ≡ max → (s : State) → Behaves loaded (run_at p stack frames d s) (rounds max test mb ways s)
      from_begin max most s =
          subst (λ m. Behaves loaded (run_at p stack frames d s) (m s)) (sym (rounds_is max test mb ways))
          (count_right loaded d p stack frames _ has.0 (λ s1.
          by_act loaded (run_at (p + 1) stack frames d s1) (BeginLoop (length ct + length cb + 4)) _ has.1.0
          (subst (λ n. Behaves loaded (run_at start stack (Loop n start exit ∷ frames) d s1) (test_of max test mb ways s1)) (sym most) (round_from max s1))) s)

    while_right : (max : ℕ) → loaded.parameters.max_while_loops ≡ max → (ct : Text) (test : Valued) → Right loaded d [] ct test → (cb : Text) (mb : Made) → RightMade cb mb → RightMade (while_text ct cb) (rounds max test mb)
    while_right max most ct test rt cb mb rb p stack frames s ways has w = from_begin ct test rt cb mb rb p stack frames ways has w max most s

    -- ---- a switch

    abbrev Cased : Val × List Text → Val × List Made → Type 0
    Cased c e = (c.0 ≡ e.0) × Each RightMade c.1 e.1

    -- at a case's test: with the value on the stack, and past the test
    record Enters (p : ℕ) (stack : List Val) (frames : List Frame) (es : List (Val × List Made)) (default : List Made) (ways : Ways) : Type 0 where
      tests : (v : Val) (s : State) → Behaves loaded (run_at p (v ∷ stack) frames d s) (chosen v es default ways s)
      falls : (s : State) → Behaves loaded (run_at (p + 1) stack frames d s) (onward es default ways s)

    cases_right : (cs : List (Val × List Text)) (es : List (Val × List Made)) → Each Cased cs es → (last : Text) (default : List Made) (rest : Text) → RightMade last (in_order default) → (p : ℕ) (stack : List Val) (frames : List Frame) (ways : Ways) →
        HasAt loaded.code.instrs p (cases_text cs ++ (Pop ∷ (last ++ rest))) → RightWays d (p + length (cases_text cs) + 1 + length last) stack frames ways →
        Enters p stack frames es default ways
    cases_right [] [] each last default rest rd p stack frames ways has w =
        let len : p + 0 + 1 + length last ≡ p + 1 + length last = omega arith in
        let w' = ways_at _ _ stack frames ways len w in
        let begin : (s : State) → Behaves loaded (run_at (p + 1) stack frames d s) (in_order default ways s) = λ s. rd (p + 1) stack frames s ways (has_front loaded.code.instrs (p + 1) last rest has.1) w' in
        record { tests = λ (v : Val) (s : State). by_act loaded (run_at p (v ∷ stack) frames d s) Pop _ has.0 (begin s); falls = begin }
    cases_right [] (e ∷ es) each last default rest rd p stack frames ways has w = absurd each
    cases_right (c ∷ cs) [] each last default rest rd p stack frames ways has w = absurd each
    cases_right (c ∷ cs) (e ∷ es) each last default rest rd p stack frames ways has w =
        let code = loaded.code.instrs in
        let b = texts_joined c.1 in
        let t = case_text c.0 b in
        let ts = cases_text cs in
        let h = subst (λ x. HasAt code p x) (append_assoc t ts (Pop ∷ (last ++ rest))) has in
        let front = has_front code p t _ h in
        let at_go = (has_back code (p + 1) b (Jump 1 ∷ []) front.1).0 in
        let size : length t ≡ length b + 2 = omega (arith, length-append b (Jump 1 ∷ [])) in
        let len : p + length (t ++ ts) + 1 + length last ≡ p + length t + length ts + 1 + length last = omega (arith, length-append t ts) in
        let more = cases_right cs es each.1 last default rest rd (p + length t) stack frames ways (has_back code p t _ h) (ways_at _ _ stack frames ways len w) in
        let past : p + 1 + length b + 1 + 1 ≡ p + length t + 1 = omega (arith, size) in
        let pass : p + 1 + (length b + 1) ≡ p + length t = omega (arith, size) in
        let falls : (s : State) → Behaves loaded (run_at (p + 1) stack frames d s) (onward (e ∷ es) default ways s) =
        λ s. list_right c.1 e.1 each.0.1 (p + 1) stack frames s _ (has_front code (p + 1) b _ front.1) (record {
          on = λ s. by_act loaded (run_at (p + 1 + length b) stack frames d s) (Jump 1) _ at_go (at_place loaded [] _ _ stack frames d s _ past (more.falls s));
          out = w.out;
          back = w.back;
        }) in
        record {
          tests = λ (v : Val) (s : State). by_act loaded (run_at p (v ∷ stack) frames d s) (Case c.0 (length b + 1)) _ front.0
              (subst (λ l. After loaded (casing l (length b + 1) (run_at (p + 1) (v ∷ stack) frames d s)) (chosen v (e ∷ es) default ways s)) (sym each.0.0)
              (elim (is_label v e.0) as (λ y. After loaded (if y then moved (run_at (p + 1) stack frames d s) else jump (length b + 1) (run_at (p + 1) (v ∷ stack) frames d s)) ((if y then onward (e ∷ es) default ways else chosen v es default ways) s)) [
                | true ↦ falls s
                | false ↦ at_place loaded [] _ _ (v ∷ stack) frames d s _ pass (more.tests v s)
              ]));
          falls = falls;
        }

    switch_right : (c : Text) (v : Valued) → Right loaded d [] c v → (cs : List (Val × List Text)) (es : List (Val × List Made)) → Each Cased cs es → (last : Text) (default : List Made) → RightMade last (in_order default) →
        RightMade (switch_text c (cases_text cs) last) (λ ways. counted (v (λ v. chosen v es default (record ways { out = ways.on }))))
    switch_right c v rc cs es each last default rd p stack frames s ways has w =
        let code = loaded.code.instrs in
        let ts = cases_text cs in
        let n = length c + length ts + length last + 2 in
        let start = p + 1 + 1 in
        let exit = p + 1 + 1 + n in
        let F = Loop loaded.parameters.max_while_loops start exit ∷ frames in
        let h = has_back code (p + 1 + 1) c _ has.1.1 in
        let p2 = p + 1 + 1 + length c in
        let h2 = has_back code p2 ts _ h in
        let h3 = has_back code (p2 + length ts + 1) last _ h2.1 in
        let q = p2 + length ts + 1 + length last in
        let whole : length (switch_text c ts last) ≡ n + 2 = omega (arith, length-append c (ts ++ (Pop ∷ (last ++ EndLoop ∷ []))), length-append ts (Pop ∷ (last ++ EndLoop ∷ [])), length-append last (EndLoop ∷ [])) in
        let ends_here : q + 1 ≡ p + length (switch_text c ts last) = omega (arith, whole) in
        let ends_too : exit ≡ p + length (switch_text c ts last) = omega (arith, whole) in
        let w' : RightWays d q stack F (record ways { out = ways.on }) = record {
          on = λ s. by_act loaded (run_at q stack F d s) EndLoop _ h3.0 (at_place loaded [] _ _ stack frames d s _ ends_here (w.on s));
          out = λ s q old. at_place loaded [] _ _ stack frames d s _ ends_too (w.on s);
          back = λ n s q old. w.back n s q old;
        } in
        let enters = cases_right cs es each last default (EndLoop ∷ []) rd p2 stack F (record ways { out = ways.on }) h w' in
        count_right loaded d p stack frames _ has.0 (λ s1.
        by_act loaded (run_at (p + 1) stack frames d s1) (BeginLoop n) _ has.1.0
        (rc (p + 1 + 1) stack F s1 _ (has_front code _ c _ has.1.1) (λ v s2. enters.tests v s2))) s

    module _ (script : Script) (stands : Stands loaded script) (route : Routes) (routes : RightRoute loaded d script stands.patterns route) where
      value_right : (e : Expr) → RightMeant loaded d (expr_code e) (expr_of script route e)
      value_right = expr_right loaded d script stands.patterns route routes

      return_right : (o : Option Expr) → RightMade (CountStatement ∷ return_text o) (λ ways. counted (returned script route o ways.back))
      return_right None p stack frames s ways has w =
          count_right loaded d p stack frames _ has.0 (λ s.
          by_act loaded (run_at (p + 1) stack frames d s) (Push (val.Int (pos 1))) _ has.1.0
          (by_act loaded (run_at (p + 1 + 1) (val.Int (pos 1) ∷ stack) frames d s) Return _ has.1.1.0 (w.back (pos 1) s (p + 1 + 1 + 1) frames))) s
      return_right (Some e) p stack frames s ways has w =
          counted_right (expr_code e AsValue ++ Return ∷ []) (λ ways. expr_of script route e AsValue (λ v. ways.back (code_of v)))
          (take_right (expr_code e AsValue) (expr_of script route e AsValue) (value_right e AsValue) Return (λ ways v. ways.back (code_of v)) (λ p stack frames ways v s at w. w.back (code_of v) s (p + 1) frames))
          p stack frames s ways has w

      abbrev Fine : Stmt → Type 0
      Fine s = RightMade (stmt_code s) (stmt_of script route s)

      abbrev Parts : Type 0
      Parts = List ((s : Stmt) × Fine s)

      abbrev texts_of : Parts → List Text
      texts_of ys = map stmt_code (map (λ (e : (s : Stmt) × Fine s). e.0) ys)

      abbrev mades_of : Parts → List Made
      mades_of ys = map (stmt_of script route) (map (λ (e : (s : Stmt) × Fine s). e.0) ys)

      pairs_right : (ys : Parts) → Each RightMade (texts_of ys) (mades_of ys)
      pairs_right [] = tt
      pairs_right (y ∷ ys) = (y.1, pairs_right ys)

      abbrev case_texts : List (Val × Parts) → List (Val × List Text)
      case_texts ys = map (λ (c : Val × List Stmt). (c.0, map stmt_code c.1)) (map (λ (c : Val × Parts). (c.0, map (λ (e : (s : Stmt) × Fine s). e.0) c.1)) ys)

      abbrev case_mades : List (Val × Parts) → List (Val × List Made)
      case_mades ys = map (λ (c : Val × List Stmt). (c.0, map (stmt_of script route) c.1)) (map (λ (c : Val × Parts). (c.0, map (λ (e : (s : Stmt) × Fine s). e.0) c.1)) ys)

      cased_right : (ys : List (Val × Parts)) → Each Cased (case_texts ys) (case_mades ys)
      cased_right [] = tt
      cased_right (y ∷ ys) = ((refl, pairs_right y.1), cased_right ys)

      all_right : (ys : Parts) → RightMade (texts_joined (texts_of ys)) (in_order (mades_of ys))
      all_right ys = list_right (texts_of ys) (mades_of ys) (pairs_right ys)

      layer : (y : Stmt-F ((s : Stmt) × Fine s)) → RightMade (stmt_text (map-Stmt _ _ stmt_code (map-Stmt _ _ (λ e. e.0) y))) (stmt_meaning_step script route (map-Stmt _ _ (stmt_of script route) (map-Stmt _ _ (λ e. e.0) y)))
      layer (Stmt-F.Set x e) = set_right x (expr_code e AsValue) (expr_of script route e AsValue) (value_right e AsValue)
      layer (Stmt-F.Do e) = take_right (expr_code e AsValue) (expr_of script route e AsValue) (value_right e AsValue) Pop (λ ways v. ways.on) (λ p stack frames ways v s at w. w.on s)
      layer (Stmt-F.If e a b) = if_right (expr_code e AsTruth) (expr_of script route e AsTruth) (value_right e AsTruth) (texts_joined (texts_of a)) (texts_joined (texts_of b)) (in_order (mades_of a)) (in_order (mades_of b)) (all_right a) (all_right b)
      layer (Stmt-F.While e body) = while_right script.parameters.max_while_loops (subst (λ ps. ps.max_while_loops ≡ script.parameters.max_while_loops) (sym stands.parameters) refl) (expr_code e AsTruth) (expr_of script route e AsTruth) (value_right e AsTruth) (texts_joined (texts_of body)) (in_order (mades_of body)) (all_right body)
      layer (Stmt-F.Switch e cs last) = switch_right (expr_code e AsValue) (expr_of script route e AsValue) (value_right e AsValue) (case_texts cs) (case_mades cs) (cased_right cs) (texts_joined (texts_of last)) (mades_of last) (all_right last)
      layer Stmt-F.Break = λ p stack frames s ways has w. count_from loaded d p stack frames Break (λ r. breaking r.frames r) ways.out has.0 (λ r. refl) (λ s. w.out s (p + 1) frames) s.left s.env
      layer (Stmt-F.Return o) = return_right o
      layer Stmt-F.Exit = λ p stack frames s ways has w. count_right loaded d p stack frames _ has.0 (λ s. by_act loaded (run_at (p + 1) stack frames d s) Exit _ has.1.0 (_, refl, refl)) s
      layer Stmt-F.Drop = λ p stack frames s ways has w. count_right loaded d p stack frames _ has.0 (λ s. by_act loaded (run_at (p + 1) stack frames d s) Drop _ has.1.0 (_, refl, refl)) s

      stmt_right : (s : Stmt) → RightMade (stmt_code s) (stmt_of script route s)
      stmt_right = ind-Stmt Fine (λ x y is. subst (λ x. Fine (roll-Stmt x)) is (
          let x = map-Stmt ((s : Stmt) × Fine s) Stmt (λ e. e.0) y in
          subst (λ c. RightMade c (stmt_of script route (roll-Stmt x))) (sym (fold-roll-Stmt Text stmt_text x)) (
          subst (λ m. RightMade (stmt_text (map-Stmt _ _ stmt_code x)) m) (sym (fold-roll-Stmt Made (stmt_meaning_step script route) x)) (layer y))))

      stmts_right : (block : List Stmt) → Each RightMade (map stmt_code block) (map (stmt_of script route) block)
      stmts_right [] = tt
      stmts_right (x ∷ xs) = (stmt_right x, stmts_right xs)

      -- a whole block, from where it begins
      block_right : (block : List Stmt) (p : ℕ) (stack : List Val) (frames : List Frame) (s : State) (ways : Ways) → HasAt loaded.code.instrs p (text_of_block block) →
          ((s : State) (q : ℕ) → After loaded (leave frames (pos 1) how.Normal (run_at q stack frames d s)) (ways.on s)) →
          ((s : State) (q : ℕ) (old : List Frame) → After loaded (breaking frames (run_at q stack old d s)) (ways.out s)) →
          ((n : ℤ) (s : State) (q : ℕ) (old : List Frame) → After loaded (leave frames n (end_of n) (run_at q stack old d s)) (ways.back n s)) →
          Behaves loaded (run_at p stack frames d s) (block_meaning script route block ways s)
      block_right block p stack frames s ways has on out back =
          let code = loaded.code.instrs in
          let c = list_code block in
          let h = has_back code p c (EndBlock ∷ []) has in
          list_right (map stmt_code block) (map (stmt_of script route) block) (stmts_right block) p stack frames s ways (has_front code p c _ has) (record {
            on = λ s. by_act loaded (run_at (p + length c) stack frames d s) EndBlock _ h.0 (on s (p + length c + 1));
            out = out;
            back = back;
          })

  module _ (script : Script) (stands : Stands loaded script) where
    routes_right : (d : ℕ) → RightRoute loaded d script stands.patterns (routes_to script d)
    routes_right zero b p stack frames s back has k = by_act loaded (run_at p stack frames 0 s) (CallBlock b) _ has.0 (_, refl, refl)
    routes_right (suc d) b p stack frames s back has k =
        by_act loaded (run_at p stack frames (suc d) s) (CallBlock b) _ has.0
        (block_right d script stands (routes_to script d) (routes_right d) (block_at script b) (entry loaded b) stack (Back (p + 1) (suc d) ∷ frames) s _ (stands.blocks b)
        (λ s q. k (pos 1) s) (λ s q old. k (pos 1) s) (λ n s q old. k n s))

    -- a run of a block has the script's dialogue
    pub begins_right : (b : ℕ) (env : Env) → Behaves loaded (begun loaded b env) (dialogue script b env)
    begins_right b env =
        let s0 : State = record { env = env; left = max_statements } in
        subst (λ ps. Behaves loaded (run_at (entry loaded b) [] [] ps.max_recursive_level s0) (dialogue script b env)) (sym stands.parameters)
        (block_right script.parameters.max_recursive_level script stands (routes_to script script.parameters.max_recursive_level) (routes_right script.parameters.max_recursive_level)
        (block_at script b) (entry loaded b) [] [] s0 _ (stands.blocks b)
        (λ s q. (_, refl, refl)) (λ s q old. (_, refl, refl)) (λ n s q old. (_, refl, refl)))
