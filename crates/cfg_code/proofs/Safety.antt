-- Sound code never gets stuck.
use Rattle.std.proofs.Common.{◌≡◌, ◌≢◌, ℕ, zero, suc, ◌+◌, ◌<◌, ℤ, pos, negsuc, Bool, true, false, List, [], ◌∷◌, length, Some, refl, sym, ap, ◌∙◌, subst, arith}
use Rattle.std.proofs.Math.Logic.{∥∥₁_elim}
use Rattle.std.specs.Prelude.{slice_get, slice_index_or, if◌then◌else◌}
use Rattle.pv_values.specs.declared.value.Val.{Val}
use Rattle.pv_values.specs.declared.run.Env.{Env}
use Rattle.pv_values.specs.declared.run.How.{How}
use Rattle.pv_values.specs.declared.run.HostAnswer.{HostAnswer}
use Rattle.pv_values.specs.Values.{is_true, same as is_label}
use Rattle.cfg_code.specs.declared.instr.Instr.{Instr}
use Rattle.cfg_code.specs.declared.instr.Instr.TheVariants.{Push, Load, LoadCode, LoadSuccess, Store, Read, ReadItem, Write, WriteItem, Transform, Concat, PushArgument, CallFunction, ExitOnZero, CallBlock, Binary, Negate, Not, ToBool, Match, JumpIfFalseOrPop, JumpIfTrueOrPop, Pop, CountStatement, JumpIfFalse, Jump, Case, BeginLoop, BeginRound, LoopBack, EndLoop, Break, Return, Exit, Drop, EndBlock}
use Rattle.cfg_code.specs.Flat.{FlatScript}
use Rattle.cfg_code.specs.declared.machine.Frame.{Frame}
use Rattle.cfg_code.specs.declared.machine.Frame.TheVariants.{Loop, Back}
use Rattle.cfg_code.specs.declared.machine.Wait.TheVariants as wait
use Rattle.cfg_code.specs.declared.machine.Event.{Event}
use Rattle.cfg_code.specs.declared.machine.Event.TheVariants.{Moved, Asked, Over, Stuck}
use Rattle.cfg_code.specs.Machine.{Configuration, Next, moved, jump, put, on_top, changing, joining, counting, beginning_round, looping_back, ending_loop, leave, breaking, exiting_on_zero, calling_block, act, fetched, step_of, told, begun}
use Rattle.cfg_code.specs.Sound.{Shape, nothing, Leads, Moves, IsFine, AreFine, IsSound, AllSound}
use Rattle.cfg_code.specs.Safe.{Reaches, here, moved as by_moving, answered}

abbrev at : ℕ → ℕ → Shape
at h l = record { values = h; loops = l }

-- the instruction at a place is fine
record Found (shapes : List Shape) (p : ℕ) (i : Instr) (s : Shape) : Type 0 where
  behind : List Shape
  fine : IsFine i s behind
  look : (n : ℕ) → slice_get behind n ≡ slice_get shapes (p + 1 + n)

found : (code : List Instr) (shapes rest : List Shape) (p : ℕ) (i : Instr) (s : Shape) → AreFine code shapes rest → slice_get code p ≡ Some i → slice_get shapes p ≡ Some s → Found shapes p i s
found [] shapes rest p i s fine e f = absurd (let g : slice_get [] p ≡ Some i = e in cc)
found (x ∷ code) [] rest p i s fine e f = absurd fine
found (x ∷ code) (y ∷ shapes) rest zero i s fine e f =
    let a : Some x ≡ Some i = e in
    let b : Some y ≡ Some s = f in
    let a' : x ≡ i = cc in
    let b' : y ≡ s = cc in
    record {
      behind = shapes;
      fine = subst (λ i. IsFine i s shapes) a' (subst (λ s. IsFine x s shapes) b' fine.0);
      look = λ n. let k : 0 + 1 + n ≡ suc n = omega arith in sym (ap (λ k. slice_get (y ∷ shapes) k) k);
    }
found (x ∷ code) (y ∷ shapes) rest (suc p) i s fine e f =
    let more = found code shapes rest p i s fine.1 e f in
    record {
      behind = more.behind;
      fine = more.fine;
      look = λ n. let k : suc p + 1 + n ≡ suc (p + 1 + n) = omega arith in more.look n ∙ sym (ap (λ k. slice_get (y ∷ shapes) k) k);
    }

-- where a shape stands, an instruction does
stands : (code : List Instr) (shapes : List Shape) (p : ℕ) (s : Shape) → AreFine code shapes [] → slice_get shapes p ≡ Some s → (i : Instr) × (slice_get code p ≡ Some i)
stands [] shapes p s fine f = absurd (let g : slice_get [] p ≡ Some s = sym (ap (λ x. slice_get x p) fine) ∙ f in cc)
stands (x ∷ code) [] p s fine f = absurd fine
stands (x ∷ code) (y ∷ shapes) zero s fine f = (x, refl)
stands (x ∷ code) (y ∷ shapes) (suc p) s fine f = stands code shapes p s fine.1 f

module _ (loaded : FlatScript) (shapes : List Shape) (sound : IsSound loaded.code shapes) where
  -- the open loops of a block, and the blocks that wait, with the values below those of the block
  abbrev Framed : ℕ → ℕ → List Frame → Type 0
  Framed l base [] = l ≡ 0
  Framed l base (Loop left start exit ∷ frames) = (k : ℕ) × (l ≡ k + 1) × (slice_get shapes start ≡ Some (at 0 l)) × (slice_get shapes exit ≡ Some (at 0 k)) × Framed k base frames
  Framed l base (Back place deeper ∷ frames) = (l ≡ 0) × (s : Shape) × (b : ℕ) × (slice_get shapes place ≡ Some s) × (base ≡ s.values + b) × Framed s.loops b frames

  -- what a run has is what the shapes say
  record Fit (r : Configuration) : Type 0 where
    shape : Shape
    stand : slice_get shapes r.pc ≡ Some shape
    base : ℕ
    depth : length r.stack ≡ shape.values + base
    framed : Framed shape.loops base r.frames
    waits : r.wait ≡ wait.Start

  abbrev OkayEvent : Event → Configuration → Type 0
  OkayEvent Moved r = Fit r
  OkayEvent Asked r = (answer : HostAnswer) → Fit (told answer r)
  OkayEvent Over r = Unit {0}
  OkayEvent Stuck r = ⊥

  abbrev Okay : Next → Type 0
  Okay n = OkayEvent n.event n.run

  popped : (stack : List Val) (r : Configuration) (next : Val → Configuration → Next) (n : ℕ) → length stack ≡ suc n → ((v : Val) (st : List Val) → length st ≡ n → Okay (next v (record r { stack = st }))) → Okay (on_top stack r next)
  popped [] r next n e h = absurd (let g : 0 ≡ suc n = e in omega (arith, g))
  popped (v ∷ stack) r next n e h = h v stack (omega (arith, e))

  leave_okay : (frames : List Frame) (l base : ℕ) → Framed l base frames → (n : ℤ) (h : How) (r : Configuration) → length r.stack ≡ base → r.wait ≡ wait.Start → Okay (leave frames n h r)
  leave_okay [] l base f n h r d w = tt
  leave_okay (Loop left start exit ∷ frames) l base f n h r d w = leave_okay frames f.0 base f.4 n h r d w
  leave_okay (Back place deeper ∷ frames) l base f n h r d w = record { shape = f.1; stand = f.3; base = f.2; depth = d ∙ f.4; framed = f.5; waits = w }

  module _ (r : Configuration) (s : Shape) (base : ℕ) (behind : List Shape) (look : (n : ℕ) → slice_get behind n ≡ slice_get shapes (r.pc + n)) (depth : length r.stack ≡ s.values + base) (framed : Framed s.loops base r.frames) (w : r.wait ≡ wait.Start) where
    next_at : (k : Shape) → Leads behind 0 k → slice_get shapes r.pc ≡ Some k
    next_at k h = let e : r.pc ≡ r.pc + 0 = omega arith in ap (λ p. slice_get shapes p) e ∙ sym (look 0) ∙ h

    jump_at : (n : ℕ) (k : Shape) → Leads behind n k → slice_get shapes (r.pc + n) ≡ Some k
    jump_at n k h = sym (look n) ∙ h

    abbrev after : ℕ → Shape
    after n = record s { values = n }

    pushes : Moves 0 1 s behind → (v : Val) (args : List Val) → Fit (record r { stack = v ∷ r.stack; arguments = args })
    pushes m v args = record { shape = after m.1; stand = next_at (after m.1) m.4; base = base; depth = omega (arith, m.2, m.3, depth); framed = framed; waits = w }

    keeps : Moves 0 0 s behind → (args : List Val) (env : Env) (left : ℕ) → Fit (record r { arguments = args; env = env; statements_left = left })
    keeps m args env left = record { shape = after m.1; stand = next_at (after m.1) m.4; base = base; depth = omega (arith, m.2, m.3, depth); framed = framed; waits = w }

    takes : Moves 1 0 s behind → (args : List Val) (env : Env) (st : List Val) → suc (length st) ≡ length r.stack → Fit (record r { stack = st; arguments = args; env = env })
    takes m args env st e = record { shape = after m.1; stand = next_at (after m.1) m.4; base = base; depth = omega (arith, m.2, m.3, depth, e); framed = framed; waits = w }

    changes : Moves 1 1 s behind → (v : Val) (st : List Val) → suc (length st) ≡ length r.stack → Fit (record r { stack = v ∷ st })
    changes m v st e = record { shape = after m.1; stand = next_at (after m.1) m.4; base = base; depth = omega (arith, m.2, m.3, depth, e); framed = framed; waits = w }

    -- on to a place where this stands
    jumps : (q : ℕ) (n : ℕ) (st : List Val) → slice_get shapes q ≡ Some (after n) → length st ≡ n + base → Fit (record r { pc = q; stack = st })
    jumps q n st e d = record { shape = after n; stand = e; base = base; depth = d; framed = framed; waits = w }

    -- a value that stands is taken
    one : (next : Val → Configuration → Next) (rest : ℕ) → s.values ≡ 1 + rest → ((v : Val) (st : List Val) → suc (length st) ≡ length r.stack → Okay (next v (record r { stack = st }))) → Okay (on_top r.stack r next)
    one next rest e h = popped r.stack r next (rest + base) (omega (arith, e, depth)) (λ v st d. h v st (omega (arith, d, e, depth)))

    changing_okay : (f : Val → Val) → Moves 1 1 s behind → Okay (changing f r)
    changing_okay f m = one (λ v r. moved (put (f v) r)) m.0 m.2 (λ v st e. changes m (f v) st e)

    joining_okay : (f : Val → Val → Val) → Moves 2 1 s behind → Okay (joining f r)
    joining_okay f m =
        let rest : s.values ≡ 1 + (m.0 + 1) = omega (arith, m.2) in
        one (λ y r. on_top r.stack r (λ x r. moved (put (f x y) r))) (m.0 + 1) rest (λ y st e.
        popped st (record r { stack = st }) _ (m.0 + base) (omega (arith, e, depth, m.2)) (λ x st' d.
        record { shape = after m.1; stand = next_at (after m.1) m.4; base = base; depth = omega (arith, m.2, m.3, depth, e, d); framed = framed; waits = w }))

    counted : (left : ℕ) (next : Configuration → Next) → ((k : ℕ) → Okay (next (record r { statements_left = k }))) → Okay (counting left r next)
    counted zero next h = tt
    counted (suc k) next h = h k

    exiting_okay : Moves 0 0 s behind → (n : ℤ) → Okay (exiting_on_zero n r)
    exiting_okay m (pos zero) = tt
    exiting_okay m (pos (suc n)) = keeps m r.arguments r.env r.statements_left
    exiting_okay m (negsuc n) = keeps m r.arguments r.env r.statements_left

    calling_okay : Moves 0 0 s behind → (block d : ℕ) → Okay (calling_block d (slice_index_or loaded.code.entries block 0) r)
    calling_okay m block zero = tt
    calling_okay m block (suc d) =
        let below : length r.stack ≡ m.1 + base = omega (arith, m.2, m.3, depth) in
        let all : length r.stack ≡ 0 + length r.stack = omega arith in
        record { shape = nothing; stand = sound.blocks block; base = length r.stack; depth = all; framed = (refl, after m.1, base, next_at (after m.1) m.4, below, framed); waits = w }

    round_okay : (frames : List Frame) → Framed s.loops base frames → 0 < s.loops → Leads behind 0 s → Okay (beginning_round frames r)
    round_okay [] f some h = absurd (let g : s.loops ≡ 0 = f in omega (arith, g, some))
    round_okay (Loop zero start exit ∷ frames) f some h = tt
    round_okay (Loop (suc left) start exit ∷ frames) f some h = record { shape = s; stand = next_at s h; base = base; depth = depth; framed = f; waits = w }
    round_okay (Back place deeper ∷ frames) f some h = absurd (omega (arith, f.0, some))

    back_okay : (k : ℕ) (frames : List Frame) → Framed s.loops base frames → s.values ≡ 0 → 0 < s.loops → Okay (looping_back frames (record r { statements_left = k }))
    back_okay k [] f e some = absurd (let g : s.loops ≡ 0 = f in omega (arith, g, some))
    back_okay k (Loop left start exit ∷ frames) f e some = record { shape = at 0 s.loops; stand = f.2; base = base; depth = omega (arith, depth, e); framed = framed; waits = w }
    back_okay k (Back place deeper ∷ frames) f e some = absurd (omega (arith, f.0, some))

    ending_okay : (frames : List Frame) → Framed s.loops base frames → (rest : ℕ) → s.loops ≡ rest + 1 → Leads behind 0 (record s { loops = rest }) → Okay (ending_loop frames r)
    ending_okay [] f rest e h = absurd (let g : s.loops ≡ 0 = f in omega (arith, g, e))
    ending_okay (Loop left start exit ∷ frames) f rest e h =
        let fewer : f.0 ≡ rest = omega (arith, f.1, e) in
        record { shape = record s { loops = rest }; stand = next_at (record s { loops = rest }) h; base = base; depth = depth; framed = subst (λ l. Framed l base frames) fewer f.4; waits = w }
    ending_okay (Back place deeper ∷ frames) f rest e h = absurd (omega (arith, f.0, e))

    breaking_okay : (k : ℕ) (frames : List Frame) → Framed s.loops base frames → s.values ≡ 0 → Okay (breaking frames (record r { statements_left = k }))
    breaking_okay k [] f e = tt
    breaking_okay k (Loop left start exit ∷ frames) f e = record { shape = at 0 f.0; stand = f.3; base = base; depth = omega (arith, depth, e); framed = f.4; waits = w }
    breaking_okay k (Back place deeper ∷ frames) f e =
        let d : length r.stack ≡ f.1.values + f.2 = omega (arith, depth, e, f.4) in
        record { shape = f.1; stand = f.3; base = f.2; depth = d; framed = f.5; waits = w }

    -- a value that stays or is taken, by a test
    tested : (n : ℕ) (v : Val) (st : List Val) → suc (length st) ≡ length r.stack → Moves 1 0 s behind → Leads behind n s → (b : Bool) → Okay (if b then moved (record r { stack = st }) else jump n (record r { stack = v ∷ st }))
    tested n v st e m h true = takes m r.arguments r.env st e
    tested n v st e m h false = record { shape = s; stand = jump_at n s h; base = base; depth = e ∙ depth; framed = framed; waits = w }

    tested_not : (n : ℕ) (v : Val) (st : List Val) → suc (length st) ≡ length r.stack → Moves 1 0 s behind → Leads behind n s → (b : Bool) → Okay (if b then jump n (record r { stack = v ∷ st }) else moved (record r { stack = st }))
    tested_not n v st e m h true = record { shape = s; stand = jump_at n s h; base = base; depth = e ∙ depth; framed = framed; waits = w }
    tested_not n v st e m h false = takes m r.arguments r.env st e

    passed : (n : ℕ) (st : List Val) → suc (length st) ≡ length r.stack → Moves 1 0 s behind → (rest : ℕ) → s.values ≡ 1 + rest → Leads behind n (after rest) → (b : Bool) → Okay (if b then moved (record r { stack = st }) else jump n (record r { stack = st }))
    passed n st e m rest f h true = takes m r.arguments r.env st e
    passed n st e m rest f h false = jumps (r.pc + n) rest st (jump_at n (after rest) h) (omega (arith, e, depth, f))

    act_okay : (i : Instr) → IsFine i s behind → Okay (act loaded i r)
    act_okay (Push v) m = pushes m v r.arguments
    act_okay (Load x) m = pushes m _ r.arguments
    act_okay LoadCode m = pushes m _ r.arguments
    act_okay LoadSuccess m = pushes m _ r.arguments
    act_okay (Store x) m = one _ m.0 m.2 (λ v st e. takes m r.arguments _ st e)
    act_okay (Read x) m = λ answer. record { shape = after m.1; stand = next_at (after m.1) m.4; base = base; depth = omega (arith, m.2, m.3, depth); framed = framed; waits = refl }
    act_okay (ReadItem way t) m = one _ m.0 m.2 (λ v st e. λ answer. record { shape = after m.1; stand = next_at (after m.1) m.4; base = base; depth = omega (arith, m.2, m.3, depth, e); framed = framed; waits = refl })
    act_okay (Write x) m = one _ m.0 m.2 (λ v st e. λ answer. record { shape = after m.1; stand = next_at (after m.1) m.4; base = base; depth = omega (arith, m.2, m.3, depth, e); framed = framed; waits = refl })
    act_okay (WriteItem way t) m =
        let rest : s.values ≡ 1 + (m.0 + 1) = omega (arith, m.2) in
        one _ (m.0 + 1) rest (λ v st e.
        popped st (record r { stack = st }) _ (m.0 + base) (omega (arith, e, depth, m.2)) (λ k st' d. λ answer.
        record { shape = after m.1; stand = next_at (after m.1) m.4; base = base; depth = omega (arith, m.2, m.3, depth, e, d); framed = framed; waits = refl }))
    act_okay (Transform tr) m = changing_okay _ m
    act_okay Concat m = joining_okay _ m
    act_okay PushArgument m = one _ m.0 m.2 (λ v st e. takes m _ r.env st e)
    act_okay (CallFunction f) m = λ answer. record { shape = after m.1; stand = next_at (after m.1) m.4; base = base; depth = omega (arith, m.2, m.3, depth); framed = framed; waits = refl }
    act_okay ExitOnZero m = exiting_okay m r.env.rc
    act_okay (CallBlock block) m = calling_okay m block r.calls_left
    act_okay (Binary op) m = joining_okay _ m
    act_okay Negate m = changing_okay _ m
    act_okay Not m = changing_okay _ m
    act_okay ToBool m = changing_okay _ m
    act_okay (Match p) m = changing_okay _ m
    act_okay (JumpIfFalseOrPop n) m = one _ m.0.0 m.0.2 (λ v st e. tested n v st e m.0 m.1 (is_true v))
    act_okay (JumpIfTrueOrPop n) m = one _ m.0.0 m.0.2 (λ v st e. tested_not n v st e m.0 m.1 (is_true v))
    act_okay Pop m = one _ m.0 m.2 (λ v st e. takes m r.arguments r.env st e)
    act_okay CountStatement m = counted r.statements_left _ (λ k. keeps m r.arguments r.env k)
    act_okay (JumpIfFalse n) m = one _ m.0.0 m.0.2 (λ v st e. passed n st e m.0 m.1 m.2 m.3 (is_true v))
    act_okay (Jump n) h = record { shape = s; stand = jump_at n s h; base = base; depth = depth; framed = framed; waits = w }
    act_okay (Case label n) m = one _ m.0.0 m.0.2 (λ v st e. tested n v st e m.0 m.1 (is_label v label))
    act_okay (BeginLoop n) m =
        let start : slice_get shapes r.pc ≡ Some (at 0 (s.loops + 1)) = next_at (record s { loops = s.loops + 1 }) m.1 ∙ ap (λ h. Some (at h (s.loops + 1))) m.0 in
        let exit : slice_get shapes (r.pc + n) ≡ Some (at 0 s.loops) = sym (look n) ∙ m.2 ∙ ap (λ h. Some (at h s.loops)) m.0 in
        record { shape = record s { loops = s.loops + 1 }; stand = next_at (record s { loops = s.loops + 1 }) m.1; base = base; depth = depth; framed = (s.loops, refl, start, exit, framed); waits = w }
    act_okay BeginRound m = round_okay r.frames framed m.1 m.2
    act_okay LoopBack m = counted r.statements_left _ (λ k. back_okay k r.frames framed m.0 m.1)
    act_okay EndLoop m = ending_okay r.frames framed m.1 m.2 m.3
    act_okay Break e = counted r.statements_left _ (λ k. breaking_okay k r.frames framed e)
    act_okay Return e =
        let one_more : s.values ≡ 1 + 0 = e in
        one _ 0 one_more (λ v st d. leave_okay r.frames s.loops base framed _ _ (record r { stack = st }) (omega (arith, d, depth, e)) w)
    act_okay Exit m = tt
    act_okay Drop m = tt
    act_okay EndBlock e = let none : s.values ≡ 0 = ap (λ x. x.values) e in leave_okay r.frames s.loops base framed _ _ r (omega (arith, depth, none)) w

  step_okay : (r : Configuration) → Fit r → Okay (step_of loaded r)
  step_okay r fit =
      let i = stands loaded.code.instrs shapes r.pc fit.shape sound.fine fit.stand in
      let f = found loaded.code.instrs shapes [] r.pc i.0 fit.shape sound.fine i.1 fit.stand in
      subst (λ o. Okay (fetched loaded o r)) (sym i.1) (act_okay (record r { pc = r.pc + 1 }) fit.shape fit.base f.behind f.look fit.depth fit.framed fit.waits i.0 f.fine)

  fit_moved : (n : Next) → n.event ≡ Moved → Okay n → Fit n.run
  fit_moved n e h = subst (λ e. OkayEvent e n.run) e h

  begun_fit : (block : ℕ) (env : Env) → Fit (begun loaded block env)
  begun_fit block env = record { shape = nothing; stand = sound.blocks block; base = 0; depth = refl; framed = refl; waits = refl }

  reached_fit : (r q : Configuration) → Fit r → Reaches loaded r q → Fit q
  reached_fit r _ fit here = fit
  reached_fit r _ fit (by_moving q reaches e) = fit_moved (step_of loaded q) e (step_okay q (reached_fit r q fit reaches))
  reached_fit r _ fit (answered q answer reaches e) = subst (λ e. OkayEvent e (step_of loaded q).run) e (step_okay q (reached_fit r q fit reaches)) answer

  never : (block : ℕ) (env : Env) (r : Configuration) → Reaches loaded (begun loaded block env) r → (step_of loaded r).event ≡ Stuck → ⊥
  never block env r reaches e = subst (λ e. OkayEvent e (step_of loaded r).run) e (step_okay r (reached_fit (begun loaded block env) r (begun_fit block env) reaches))

pub never_stuck : (loaded : FlatScript) → AllSound loaded.code.instrs loaded.code.entries → (block : ℕ) (env : Env) (r : Configuration) → Reaches loaded (begun loaded block env) r → (step_of loaded r).event ≢ Stuck
never_stuck loaded sound block env r reaches e = ∥∥₁_elim sound.shapes (λ x y. absurd x) (λ h. never loaded h.0 h.1 block env r reaches e)
