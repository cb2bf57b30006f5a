-- Instructions that stand at a place, and steps of the machine there.
use Rattle.std.proofs.Common.{◌≡◌, ℕ, zero, suc, ◌+◌, ◌-◌, List, [], ◌∷◌, ◌++◌, length, Some, refl, sym, ap, ◌∙◌, subst, arith, length-append}
use Rattle.std.specs.Prelude.{slice_get}
use Rattle.dialogue.specs.Talk.{Ends, Asks}
use Rattle.pv_values.specs.declared.value.Val.{Val}
use Rattle.pv_values.specs.declared.run.Env.{Env}
use Rattle.pv_values.specs.declared.run.How.{How}
use Rattle.pv_values.specs.declared.run.HostAsk.{HostAsk}
use Rattle.pv_values.specs.declared.run.HostAnswer.{HostAnswer}
use Rattle.cfg_tree.specs.Meaning.{RunTalk, State, WithValue, Valued, counted, counted_from}
use Rattle.cfg_code.specs.declared.instr.Instr.{Instr}
use Rattle.cfg_code.specs.declared.instr.Instr.TheVariants.{CountStatement}
use Rattle.cfg_code.specs.Flat.{FlatScript}
use Rattle.cfg_code.specs.declared.machine.Frame.{Frame}
use Rattle.cfg_code.specs.declared.machine.Wait.TheVariants as wait
use Rattle.cfg_code.specs.declared.machine.Event.{Event}
use Rattle.cfg_code.specs.declared.machine.Event.TheVariants.{Moved, Asked, Over, Stuck}
use Rattle.cfg_code.specs.Code.{Text}
use Rattle.cfg_code.specs.Machine.{Configuration, Next, IsOpen, moved, changing, counting, act, fetched, step_of, asked_by, asked_of, told}
use Rattle.cfg_code.specs.Follows.{HasAt, Behaves, moves, asks, ends}

pub has_front : (code : Text) (p : ℕ) (a b : Text) → HasAt code p (a ++ b) → HasAt code p a
has_front code p [] b h = tt
has_front code p (i ∷ a) b h = (h.0, has_front code (p + 1) a b h.1)

pub has_back : (code : Text) (p : ℕ) (a b : Text) → HasAt code p (a ++ b) → HasAt code (p + length a) b
has_back code p [] b h = let e : p ≡ p + 0 = omega arith in subst (λ n. HasAt code n b) e h
has_back code p (i ∷ a) b h =
    let e : p + 1 + length a ≡ p + length (i ∷ a) = omega arith in
    subst (λ n. HasAt code n b) e (has_back code (p + 1) a b h.1)

-- a run at a place, with these arguments of the next call
abbrev pub run_with : List Val → ℕ → List Val → List Frame → ℕ → State → Configuration
run_with args p stack frames d s = record {
  pc = p;
  stack = stack;
  arguments = args;
  frames = frames;
  calls_left = d;
  env = s.env;
  statements_left = s.left;
  wait = wait.Start;
}

-- the same with none
abbrev pub run_at : ℕ → List Val → List Frame → ℕ → State → Configuration
run_at = run_with []

-- the parts of two lists belong to one another, pair by pair
abbrev pub Each : {A B : Type 0} → (A → B → Type 0) → List A → List B → Type 0
Each R [] [] = Unit {0}
Each R [] (b ∷ bs) = ⊥
Each R (a ∷ more) [] = ⊥
Each R (a ∷ more) (b ∷ bs) = R a b × Each R more bs

module _ (loaded : FlatScript) where
  -- what has to hold after an instruction, for the dialogue before it
  abbrev pub AfterEvent : Event → Configuration → RunTalk → Type 0
  AfterEvent Moved r t = Behaves loaded r t
  AfterEvent Asked r t = (a : HostAsk) × (next : HostAnswer → RunTalk) × (t ≡ Asks a next) × (asked_of loaded r ≡ a) × IsOpen r.wait × ((answer : HostAnswer) → Behaves loaded (told answer r) (next answer))
  AfterEvent Over r t = (h : How) × (r.wait ≡ wait.Over h) × (t ≡ Ends (record { env = r.env; how = h }))
  AfterEvent Stuck r t = ⊥

  abbrev pub After : Next → RunTalk → Type 0
  After n t = AfterEvent n.event n.run t

  by_event : (r : Configuration) (t : RunTalk) (e : Event) → (step_of loaded r).event ≡ e → AfterEvent e (step_of loaded r).run t → Behaves loaded r t
  by_event r t Moved e h = moves r t e h
  by_event r t Asked e h = subst (λ t. Behaves loaded r t) (sym h.2) (asks r h.0 h.1 e h.3 h.4 h.5)
  by_event r t Over e h = subst (λ t. Behaves loaded r t) (sym h.2) (ends r h.0 e h.1)
  by_event r t Stuck e h = absurd h

  -- one instruction
  pub by_act : (r : Configuration) (i : Instr) (t : RunTalk) → slice_get loaded.code.instrs r.pc ≡ Some i → After (act loaded i (record r { pc = r.pc + 1 })) t → Behaves loaded r t
  by_act r i t has h = by_event r t (step_of loaded r).event refl (subst (λ o. After (fetched loaded o r) t) (sym has) h)

  -- what is asked after an instruction
  pub asked_behind : (r : Configuration) (p : ℕ) (i : Instr) → r.pc ≡ p + 1 → slice_get loaded.code.instrs p ≡ Some i → asked_of loaded r ≡ asked_by (Some i) r
  asked_behind r p i at has =
      let e : r.pc - 1 ≡ p = omega (arith, at) in
      ap (λ n. asked_by (slice_get loaded.code.instrs n) r) e ∙ ap (λ o. asked_by o r) has

  pub at_place : (args : List Val) (p q : ℕ) (stack : List Val) (frames : List Frame) (d : ℕ) (s : State) (t : RunTalk) → p ≡ q → Behaves loaded (run_with args q stack frames d s) t → Behaves loaded (run_with args p stack frames d s) t
  at_place args p q stack frames d s t e h = subst (λ p. Behaves loaded (run_with args p stack frames d s) t) (sym e) h

  -- Wherever this text stands, it does what is meant. With these arguments: they are kept.
  abbrev pub Right : ℕ → List Val → Text → Valued → Type 0
  Right d args text m = (p : ℕ) (stack : List Val) (frames : List Frame) (s : State) (next : WithValue) → HasAt loaded.code.instrs p text →
      ((v : Val) (s : State) → Behaves loaded (run_with args (p + length text) (v ∷ stack) frames d s) (next v s)) →
      Behaves loaded (run_with args p stack frames d s) (m next s)

  -- a text, and then an instruction that changes its value
  pub change_right : (d : ℕ) (args : List Val) (i : Instr) (f : Val → Val) → ((r : Configuration) → act loaded i r ≡ changing f r) → (c : Text) (m : Valued) →
      Right d args c m → Right d args (c ++ i ∷ []) (λ next. m (λ v. next (f v)))
  change_right d args i f is c m rc p stack frames s next has k =
      let at = (has_back loaded.code.instrs p c (i ∷ []) has).0 in
      let len : p + length c + 1 ≡ p + length (c ++ i ∷ []) = omega (arith, length-append c (i ∷ [])) in
      rc p stack frames s _ (has_front loaded.code.instrs p c _ has) (λ v s2.
      by_act (run_with args (p + length c) (v ∷ stack) frames d s2) i _ at
      (subst (λ n. After n (next (f v) s2)) (sym (is (run_with args (p + length c + 1) (v ∷ stack) frames d s2)))
      (at_place args _ _ (f v ∷ stack) frames d s2 _ len (k (f v) s2))))

  -- an instruction that counts, and what it does then
  pub count_from : (d p : ℕ) (stack : List Val) (frames : List Frame) (i : Instr) (next : Configuration → Next) (go_on : State → RunTalk) → slice_get loaded.code.instrs p ≡ Some i →
      ((r : Configuration) → act loaded i r ≡ counting r.statements_left r next) → ((s : State) → After (next (run_at (p + 1) stack frames d s)) (go_on s)) →
      (left : ℕ) (env : Env) → Behaves loaded (run_at p stack frames d (record { env = env; left = left })) (counted_from left env go_on)
  count_from d p stack frames i next go_on has is k zero env =
      let r = run_at p stack frames d (record { env = env; left = 0 }) in
      by_act r i _ has (subst (λ n. After n (counted_from 0 env go_on)) (sym (is (record r { pc = p + 1 }))) (_, refl, refl))
  count_from d p stack frames i next go_on has is k (suc left) env =
      let r = run_at p stack frames d (record { env = env; left = suc left }) in
      by_act r i _ has (subst (λ n. After n (counted_from (suc left) env go_on)) (sym (is (record r { pc = p + 1 }))) (k (record { env = env; left = left })))

  pub count_right : (d p : ℕ) (stack : List Val) (frames : List Frame) (go_on : State → RunTalk) → slice_get loaded.code.instrs p ≡ Some CountStatement →
      ((s : State) → Behaves loaded (run_at (p + 1) stack frames d s) (go_on s)) →
      (s : State) → Behaves loaded (run_at p stack frames d s) (counted go_on s)
  count_right d p stack frames go_on has k s = count_from d p stack frames CountStatement moved go_on has (λ r. refl) k s.left s.env
