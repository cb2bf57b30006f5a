-- The machine comes to an end: a number that falls with each instruction, whatever the code is.
use Rattle.std.proofs.Common.{◌≡◌, ℕ, zero, suc, ◌+◌, ◌-◌, ◌*◌, ◌^◌, ◌<◌, ◌≤◌, ℤ, pos, negsuc, true, false, List, [], ◌∷◌, length, Option, Some, None, refl, sym, ap, ◌∙◌, subst, arith}
use Rattle.std.specs.Prelude.{slice_get, if◌then◌else◌}
use Rattle.std.proofs.Math.Nat.{mul-lt-mul_of_pos_right, mul-le-mul_right}
use Rattle.std.proofs.lemmas.Option.{slice_get_within}
use Rattle.pv_values.specs.declared.value.Val.{Val}
use Rattle.pv_values.specs.declared.run.How.{How}
use Rattle.pv_values.specs.declared.run.HostAnswer.{HostAnswer}
use Rattle.pv_values.specs.Values.{is_true, same as is_label}
use Rattle.cfg_code.specs.declared.instr.Instr.{Instr}
use Rattle.cfg_code.specs.declared.instr.Instr.TheVariants.{Push, Load, LoadCode, LoadSuccess, Store, Read, ReadItem, Write, WriteItem, Transform, Concat, PushArgument, CallFunction, ExitOnZero, CallBlock, Binary, Negate, Not, ToBool, Match, JumpIfFalseOrPop, JumpIfTrueOrPop, Pop, CountStatement, JumpIfFalse, Jump, Case, BeginLoop, BeginRound, LoopBack, EndLoop, Break, Return, Exit, Drop, EndBlock}
use Rattle.cfg_code.specs.Flat.{FlatScript}
use Rattle.cfg_code.specs.declared.machine.Frame.{Frame}
use Rattle.cfg_code.specs.declared.machine.Frame.TheVariants.{Loop, Back}
use Rattle.cfg_code.specs.declared.machine.Event.{Event}
use Rattle.cfg_code.specs.declared.machine.Event.TheVariants.{Moved, Asked, Over, Stuck}
use Rattle.cfg_code.specs.declared.machine.Wait.{Wait}
use Rattle.cfg_code.specs.declared.machine.Wait.TheVariants as wait
use Rattle.cfg_code.specs.Machine.{Configuration, Next, moved, jump, put, on_top, changing, joining, counting, leave, exiting_on_zero, calling_block, beginning_round, looping_back, ending_loop, breaking, act, fetched, step_of, told_as}
use Rattle.script_vm.specs.Running.{with_patterns}
use Rattle.script_vm.specs.Measure.{power, ceiling, rest, waiting, measure, work_left}

power_suc : (b d : ℕ) → power b (suc d) ≡ power b d * b
unfolding power
power_suc b d = refl

power_pos : (n d : ℕ) → 0 < power (suc n) d
unfolding power
power_pos n zero = omega arith
power_pos n (suc d) =
    let e : power (suc n) d * suc n ≡ power (suc n) d * n + power (suc n) d = grind arith in
    omega (arith, power_pos n d, e)

power_up : (n d k : ℕ) → power (suc n) d ≤ power (suc n) (d + k)
power_up n d zero = let e : d + 0 ≡ d = omega arith in subst (λ x. power (suc n) d ≤ power (suc n) x) (sym e) (omega arith)
power_up n d (suc k) =
    let e : d + suc k ≡ suc (d + k) = omega arith in
    let p = power (suc n) (d + k) in
    let m : p * suc n ≡ p * n + p = grind arith in
    subst (λ x. power (suc n) d ≤ power (suc n) x) (sym e) (rw power_suc (omega (arith, power_up n d k, m)))

-- the run isn't over
abbrev pub GoesOn : Event → Type 0
GoesOn Moved = Unit {0}
GoesOn Asked = Unit {0}
GoesOn Over = ⊥
GoesOn Stuck = ⊥

-- with the code's length n
module _ (n : ℕ) where
  -- a place further on
  rest_on : (p q d : ℕ) → p < n → p < q → rest n q d < rest n p d
  rest_on p q d h k =
      let a : n - q < n - p = omega arith in
      mul-lt-mul_of_pos_right a (power_pos n d)

  -- a block that is entered has less than what was left of the one that calls it
  rest_in : (p b d : ℕ) → p < n → rest n b d + rest n (p + 1) (suc d) < rest n p (suc d)
  rest_in p b d h =
      let w = power (suc n) d in
      let up = power_suc (suc n) d in
      let a : n - b ≤ n = omega arith in
      let low : (n - b) * w ≤ n * w = mul-le-mul_right w a in
      let e : n - p ≡ suc (n - (p + 1)) = omega arith in
      let x = n - (p + 1) in
      let split : suc x * (w * suc n) ≡ x * (w * suc n) + (n * w + w) = grind arith in
      let whole : rest n p (suc d) ≡ rest n (p + 1) (suc d) + (n * w + w) = ap (λ k. k * power (suc n) (suc d)) e ∙ ap (λ k. suc x * k) up ∙ split ∙ ap (λ k. x * k + (n * w + w)) (sym up) in
      omega (arith, low, whole, power_pos n d)

  rest_below : (p d : ℕ) → d < 2 ^ 32 → rest n p d < ceiling n
  rest_below p d h =
      let w = power (suc n) d in
      let a : n - p ≤ n = omega arith in
      let low : (n - p) * w ≤ n * w = mul-le-mul_right w a in
      let m : w * suc n ≡ n * w + w = grind arith in
      let k = 2 ^ 32 - suc d in
      let e : suc d + k ≡ 2 ^ 32 = omega arith in
      let up = subst (λ x. power (suc n) (suc d) ≤ power (suc n) x) e (power_up n (suc d) k) in
      let up' : w * suc n ≤ ceiling n = subst (λ x. x ≤ ceiling n) (power_suc (suc n) d) up in
      omega (arith, low, m, up', power_pos n d)

  rest_pos : (p d : ℕ) → p < n → 0 < rest n p d
  rest_pos p d h =
      let a : 0 < n - p = omega arith in
      let b : 0 * power (suc n) d < (n - p) * power (suc n) d = mul-lt-mul_of_pos_right a (power_pos n d) in
      omega (arith, b)

  on_less : (left p q d : ℕ) (frames frames' : List Frame) → p < n → p < q → waiting n frames' ≡ waiting n frames →
      left * ceiling n + (rest n q d + waiting n frames') < left * ceiling n + (rest n p d + waiting n frames)
  on_less left p q d frames frames' h k e = omega (arith, rest_on p q d h k, e)

  count_less : (left p q d : ℕ) (frames frames' : List Frame) → d < 2 ^ 32 → waiting n frames' ≡ waiting n frames →
      left * ceiling n + (rest n q d + waiting n frames') < suc left * ceiling n + (rest n p d + waiting n frames)
  count_less left p q d frames frames' h e =
      let c = ceiling n in
      let m : suc left * c ≡ left * c + c = grind arith in
      omega (arith, rest_below q d h, e, m)

  enter_less : (left p b d : ℕ) (frames : List Frame) → p < n →
      left * ceiling n + (rest n b d + (rest n (p + 1) (suc d) + waiting n frames)) < left * ceiling n + (rest n p (suc d) + waiting n frames)
  enter_less left p b d frames h = omega (arith, rest_in p b d h)

  abbrev Less : Configuration → Next → Type 0
  Less r x = GoesOn x.event → measure n x.run < measure n r

  -- on to a place further on, with the same frames
  further : (r : Configuration) (q : ℕ) → r.pc < n → r.pc < q → r.statements_left * ceiling n + (rest n q r.calls_left + waiting n r.frames) < measure n r
  further r q w k = on_less r.statements_left r.pc q r.calls_left r.frames r.frames w k refl

  leave_is : (frames : List Frame) (k : ℤ) (h : How) (r : Configuration) → GoesOn (leave frames k h r).event → measure n (leave frames k h r).run ≡ r.statements_left * ceiling n + waiting n frames
  leave_is [] k h r e = absurd e
  leave_is (Loop left start exit ∷ frames) k h r e = leave_is frames k h r e
  leave_is (Back place deeper ∷ frames) k h r e = refl

  leave_less : (frames : List Frame) (k : ℤ) (h : How) (r r' : Configuration) → r.pc < n → waiting n frames ≡ waiting n r.frames → r'.statements_left ≡ r.statements_left → Less r (leave frames k h r')
  leave_less frames k h r r' w same left e =
      let a = leave_is frames k h r' e in
      let b : r'.statements_left * ceiling n ≡ r.statements_left * ceiling n = ap (λ l. l * ceiling n) left in
      omega (arith, a, b, same, rest_pos r.pc r.calls_left w)

  -- after the instruction
  abbrev behind : Configuration → Configuration
  behind r = record r { pc = r.pc + 1 }

  top_less : (stack : List Val) (r x : Configuration) (next : Val → Configuration → Next) → ((v : Val) (s : List Val) → Less r (next v (record x { stack = s }))) → Less r (on_top stack x next)
  top_less [] r x next h e = absurd e
  top_less (v ∷ stack) r x next h e = h v stack e

  changing_less : (f : Val → Val) (r : Configuration) → r.pc < n → Less r (changing f (behind r))
  changing_less f r w e = top_less r.stack r (behind r) _ (λ v s e. further r (r.pc + 1) w (omega arith)) e

  joining_less : (f : Val → Val → Val) (r : Configuration) → r.pc < n → Less r (joining f (behind r))
  joining_less f r w e = top_less r.stack r (behind r) _ (λ y s e. top_less s r (record (behind r) { stack = s }) _ (λ x s e. further r (r.pc + 1) w (omega arith)) e) e

  counting_less : (left : ℕ) (r : Configuration) (next : Configuration → Next) → ((k : ℕ) → left ≡ suc k → Less r (next (record (behind r) { statements_left = k }))) → Less r (counting left (behind r) next)
  counting_less zero r next h e = absurd e
  counting_less (suc k) r next h e = h k refl e

  -- to a place, after the statement was counted
  counted_less : (k : ℕ) (r : Configuration) (q : ℕ) → r.statements_left ≡ suc k → r.calls_left < 2 ^ 32 → k * ceiling n + (rest n q r.calls_left + waiting n r.frames) < measure n r
  counted_less k r q left d =
      subst (λ x. k * ceiling n + (rest n q r.calls_left + waiting n r.frames) < x * ceiling n + (rest n r.pc r.calls_left + waiting n r.frames)) (sym left)
      (count_less k r.pc q r.calls_left r.frames r.frames d refl)

  exiting_less : (k : ℤ) (r : Configuration) → r.pc < n → Less r (exiting_on_zero k (behind r))
  exiting_less (pos zero) r w e = absurd e
  exiting_less (pos (suc k)) r w e = further r (r.pc + 1) w (omega arith)
  exiting_less (negsuc k) r w e = further r (r.pc + 1) w (omega arith)

  calling_less : (d to : ℕ) (r : Configuration) → r.calls_left ≡ d → r.pc < n → Less r (calling_block d to (behind r))
  calling_less zero to r same w e = absurd e
  calling_less (suc d) to r same w e =
      subst (λ x. r.statements_left * ceiling n + (rest n to d + (rest n (r.pc + 1) (suc d) + waiting n r.frames)) < r.statements_left * ceiling n + (rest n r.pc x + waiting n r.frames)) (sym same) (enter_less r.statements_left r.pc to d r.frames w)

  round_less : (frames : List Frame) (r : Configuration) → r.frames ≡ frames → r.pc < n → Less r (beginning_round frames (behind r))
  round_less [] r same w e = absurd e
  round_less (Loop zero start exit ∷ frames) r same w e = absurd e
  round_less (Loop (suc left) start exit ∷ frames) r same w e = on_less r.statements_left r.pc (r.pc + 1) r.calls_left r.frames (Loop left start exit ∷ frames) w (omega arith) (sym (ap (waiting n) same))
  round_less (Back place deeper ∷ frames) r same w e = absurd e

  back_less : (k : ℕ) (frames : List Frame) (r : Configuration) → r.statements_left ≡ suc k → r.calls_left < 2 ^ 32 → Less r (looping_back frames (record (behind r) { statements_left = k }))
  back_less k [] r left d e = absurd e
  back_less k (Loop rounds start exit ∷ frames) r left d e = counted_less k r start left d
  back_less k (Back place deeper ∷ frames) r left d e = absurd e

  ending_less : (frames : List Frame) (r : Configuration) → r.frames ≡ frames → r.pc < n → Less r (ending_loop frames (behind r))
  ending_less [] r same w e = absurd e
  ending_less (Loop left start exit ∷ frames) r same w e = on_less r.statements_left r.pc (r.pc + 1) r.calls_left r.frames frames w (omega arith) (sym (ap (waiting n) same))
  ending_less (Back place deeper ∷ frames) r same w e = absurd e

  -- out of a loop, after the statement was counted
  breaking_less : (k : ℕ) (frames : List Frame) (r : Configuration) → r.statements_left ≡ suc k → r.frames ≡ frames → r.calls_left < 2 ^ 32 → Less r (breaking frames (record (behind r) { statements_left = k }))
  breaking_less k [] r left same d e = absurd e
  breaking_less k (Loop rounds start exit ∷ frames) r left same d e =
      subst (λ x. k * ceiling n + (rest n exit r.calls_left + waiting n frames) < x * ceiling n + (rest n r.pc r.calls_left + waiting n r.frames)) (sym left)
      (count_less k r.pc exit r.calls_left r.frames frames d (sym (ap (waiting n) same)))
  breaking_less k (Back place deeper ∷ frames) r left same d e =
      let w : waiting n r.frames ≡ rest n place deeper + waiting n frames = ap (waiting n) same in
      let m : r.statements_left * ceiling n ≡ k * ceiling n + ceiling n = ap (λ x. x * ceiling n) left ∙ grind arith in
      omega (arith, w, m, power_pos n (2 ^ 32))

  act_less : (loaded : FlatScript) (i : Instr) (r : Configuration) → r.pc < n → r.calls_left < 2 ^ 32 → Less r (act loaded i (behind r))
  act_less loaded (Push v) r w d e = further r (r.pc + 1) w (omega arith)
  act_less loaded (Load x) r w d e = further r (r.pc + 1) w (omega arith)
  act_less loaded LoadCode r w d e = further r (r.pc + 1) w (omega arith)
  act_less loaded LoadSuccess r w d e = further r (r.pc + 1) w (omega arith)
  act_less loaded (Store x) r w d e = top_less r.stack r (behind r) _ (λ v s e. further r (r.pc + 1) w (omega arith)) e
  act_less loaded (Read x) r w d e = further r (r.pc + 1) w (omega arith)
  act_less loaded (ReadItem way t) r w d e = top_less r.stack r (behind r) _ (λ v s e. further r (r.pc + 1) w (omega arith)) e
  act_less loaded (Write x) r w d e = top_less r.stack r (behind r) _ (λ v s e. further r (r.pc + 1) w (omega arith)) e
  act_less loaded (WriteItem way t) r w d e = top_less r.stack r (behind r) _ (λ y s e. top_less s r (record (behind r) { stack = s }) _ (λ x s e. further r (r.pc + 1) w (omega arith)) e) e
  act_less loaded (Transform tr) r w d e = changing_less _ r w e
  act_less loaded Concat r w d e = joining_less _ r w e
  act_less loaded PushArgument r w d e = top_less r.stack r (behind r) _ (λ v s e. further r (r.pc + 1) w (omega arith)) e
  act_less loaded (CallFunction f) r w d e = further r (r.pc + 1) w (omega arith)
  act_less loaded ExitOnZero r w d e = exiting_less r.env.rc r w e
  act_less loaded (CallBlock b) r w d e = calling_less r.calls_left _ r refl w e
  act_less loaded (Binary op) r w d e = joining_less _ r w e
  act_less loaded Negate r w d e = changing_less _ r w e
  act_less loaded Not r w d e = changing_less _ r w e
  act_less loaded ToBool r w d e = changing_less _ r w e
  act_less loaded (Match p) r w d e = changing_less _ r w e
  act_less loaded (JumpIfFalseOrPop k) r w d e =
      top_less r.stack r (behind r) _ (λ v s e. (elim (is_true v) as (λ b. Less r (if b then moved (record (behind r) { stack = s }) else jump k (put v (record (behind r) { stack = s })))) [
        | true ↦ λ e. further r (r.pc + 1) w (omega arith)
        | false ↦ λ e. further r (r.pc + 1 + k) w (omega arith)
      ]) e) e
  act_less loaded (JumpIfTrueOrPop k) r w d e =
      top_less r.stack r (behind r) _ (λ v s e. (elim (is_true v) as (λ b. Less r (if b then jump k (put v (record (behind r) { stack = s })) else moved (record (behind r) { stack = s }))) [
        | true ↦ λ e. further r (r.pc + 1 + k) w (omega arith)
        | false ↦ λ e. further r (r.pc + 1) w (omega arith)
      ]) e) e
  act_less loaded Pop r w d e = top_less r.stack r (behind r) _ (λ v s e. further r (r.pc + 1) w (omega arith)) e
  act_less loaded CountStatement r w d e = counting_less r.statements_left r _ (λ k left e. counted_less k r (r.pc + 1) left d) e
  act_less loaded (JumpIfFalse k) r w d e =
      top_less r.stack r (behind r) _ (λ v s e. (elim (is_true v) as (λ b. Less r (if b then moved (record (behind r) { stack = s }) else jump k (record (behind r) { stack = s }))) [
        | true ↦ λ e. further r (r.pc + 1) w (omega arith)
        | false ↦ λ e. further r (r.pc + 1 + k) w (omega arith)
      ]) e) e
  act_less loaded (Jump k) r w d e = further r (r.pc + 1 + k) w (omega arith)
  act_less loaded (Case label k) r w d e =
      top_less r.stack r (behind r) _ (λ v s e. (elim (is_label v label) as (λ b. Less r (if b then moved (record (behind r) { stack = s }) else jump k (put v (record (behind r) { stack = s })))) [
        | true ↦ λ e. further r (r.pc + 1) w (omega arith)
        | false ↦ λ e. further r (r.pc + 1 + k) w (omega arith)
      ]) e) e
  act_less loaded (BeginLoop k) r w d e = further r (r.pc + 1) w (omega arith)
  act_less loaded BeginRound r w d e = round_less r.frames r refl w e
  act_less loaded LoopBack r w d e = counting_less r.statements_left r _ (λ k left e. back_less k r.frames r left d e) e
  act_less loaded EndLoop r w d e = ending_less r.frames r refl w e
  act_less loaded Break r w d e = counting_less r.statements_left r _ (λ k left e. breaking_less k r.frames r left refl d e) e
  act_less loaded Return r w d e = top_less r.stack r (behind r) _ (λ v s e. leave_less r.frames _ _ r (record (behind r) { stack = s }) w refl refl e) e
  act_less loaded Exit r w d e = absurd e
  act_less loaded Drop r w d e = absurd e
  act_less loaded EndBlock r w d e = leave_less r.frames _ _ r (behind r) w refl refl e

fetched_less : (loaded : FlatScript) (r : Configuration) → r.calls_left < 2 ^ 32 → (o : Option Instr) → slice_get loaded.code.instrs r.pc ≡ o → Less (length loaded.code.instrs) r (fetched loaded o r)
fetched_less loaded r d None same e = absurd e
fetched_less loaded r d (Some i) same e = act_less (length loaded.code.instrs) loaded i r (slice_get_within loaded.code.instrs r.pc i same) d e

-- each instruction after which the run isn't over makes the measure smaller
pub smaller : (loaded : FlatScript) (r r' : Configuration) (event : Event) → step_of loaded r ≡ record { event = event; run = r' } → GoesOn event → r.calls_left < 2 ^ 32 → work_left loaded r' < work_left loaded r
unfolding work_left
smaller loaded r r' event is goes d =
    let e : GoesOn (step_of loaded r).event = subst GoesOn (sym (ap (λ x. x.event) is)) goes in
    let a = fetched_less loaded r d (slice_get loaded.code.instrs r.pc) refl e in
    let same : (step_of loaded r).run ≡ r' = ap (λ x. x.run) is in
    subst (λ x. measure (length loaded.code.instrs) x < measure (length loaded.code.instrs) r) same a

-- the same with other patterns
pub smaller_by : (patterns : List (List ℕ)) (loaded : FlatScript) (r r' : Configuration) (event : Event) → step_of (with_patterns patterns loaded) r ≡ record { event = event; run = r' } → GoesOn event → r.calls_left < 2 ^ 32 →
    work_left loaded r' < work_left loaded r
unfolding work_left
smaller_by patterns loaded r r' event is goes d = smaller (with_patterns patterns loaded) r r' event is goes d

-- an answer leaves it
pub told_leaves : (loaded : FlatScript) (answer : HostAnswer) (w : Wait) (r : Configuration) → work_left loaded (told_as w answer r) ≡ work_left loaded r
unfolding work_left
told_leaves loaded answer wait.Start r = refl
told_leaves loaded answer wait.Value r = refl
told_leaves loaded answer wait.ItemValue r = refl
told_leaves loaded answer wait.Written r = refl
told_leaves loaded answer wait.ItemWritten r = refl
told_leaves loaded answer wait.Code r = refl
told_leaves loaded answer (wait.Over h) r = refl
