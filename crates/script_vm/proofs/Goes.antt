-- What a run's dialogue says of its next step, and a run at its beginning.
use Rattle.std.proofs.Common.{◌≡◌, ℕ, List, sym, ap, ◌∙◌, subst}
use Rattle.pv_values.specs.declared.run.Env.{Env}
use Rattle.pv_values.specs.declared.run.How.{How}
use Rattle.pv_values.specs.declared.run.HostAsk.{HostAsk}
use Rattle.pv_values.specs.declared.run.HostAnswer.{HostAnswer}
use Rattle.dialogue.specs.Talk.{Ends, Asks}
use Rattle.cfg_tree.specs.Meaning.{End, RunTalk}
use Rattle.cfg_code.specs.Flat.{FlatScript}
use Rattle.cfg_code.specs.declared.machine.Event.TheVariants.{Moved, Asked, Over, Stuck}
use Rattle.cfg_code.specs.declared.machine.Wait.TheVariants as wait
use Rattle.cfg_code.specs.Machine.{Configuration, IsOpen, step_of, asked_of, told, begun}
use Rattle.cfg_code.specs.Follows.{Behaves, moves, asks, ends, Waits}
use Rattle.script_vm.specs.declared.run.Went.{Went}
use Rattle.script_vm.specs.declared.run.Went.TheVariants as went
use Rattle.script_vm.specs.declared.run.RunNext.TheVariants.{Asks as RunAsks, Ended as RunEnded}
use Rattle.script_vm.specs.Running.{IsWent, IsNext, how_ended, with_patterns}

module _ (loaded : FlatScript) where
  pub goes_on : (r r' : Configuration) (t : RunTalk) → step_of loaded r ≡ record { event = Moved; run = r' } → Behaves loaded r t → Behaves loaded r' t
  goes_on _ r' _ is (moves r t e b) = subst (λ n. Behaves loaded n.run t) is b
  goes_on _ r' _ is (asks r a next e f o k) = absurd (let g : Asked ≡ Moved = sym e ∙ ap (λ n. n.event) is in cc)
  goes_on _ r' _ is (ends r h e f) = absurd (let g : Over ≡ Moved = sym e ∙ ap (λ n. n.event) is in cc)

  pub asks_next : (r r' : Configuration) (t : RunTalk) → step_of loaded r ≡ record { event = Asked; run = r' } → Behaves loaded r t → IsWent loaded t r' went.Asks
  asks_next _ r' _ is (moves r t e b) = absurd (let g : Moved ≡ Asked = sym e ∙ ap (λ n. n.event) is in cc)
  asks_next _ r' _ is (asks r a next e f o k) = (
    subst (λ n. asked_of loaded n.run ≡ a) is f,
    record {
      still = subst (λ n. IsOpen n.run.wait) is o;
      by = λ answer. subst (λ n. Behaves loaded (told answer n.run) (next answer)) is (k answer);
    },
  )
  asks_next _ r' _ is (ends r h e f) = absurd (let g : Over ≡ Asked = sym e ∙ ap (λ n. n.event) is in cc)

  pub ends_next : (r r' : Configuration) (t : RunTalk) → step_of loaded r ≡ record { event = Over; run = r' } → Behaves loaded r t → IsWent loaded t r' went.Ended
  ends_next _ r' _ is (moves r t e b) = absurd (let g : Moved ≡ Over = sym e ∙ ap (λ n. n.event) is in cc)
  ends_next _ r' _ is (asks r a next e f o k) = absurd (let g : Asked ≡ Over = sym e ∙ ap (λ n. n.event) is in cc)
  ends_next _ r' _ is (ends r h e f) = (ap (λ n. n.run.env) (sym is), subst (λ n. n.run.wait ≡ wait.Over h) is f)

  pub never_stuck : (r : Configuration) (t : RunTalk) → (step_of loaded r).event ≡ Stuck → Behaves loaded r t → ⊥
  never_stuck _ _ is (moves r t e b) = let g : Moved ≡ Stuck = sym e ∙ is in cc
  never_stuck _ _ is (asks r a next e f o k) = let g : Asked ≡ Stuck = sym e ∙ is in cc
  never_stuck _ _ is (ends r h e f) = let g : Over ≡ Stuck = sym e ∙ is in cc

  -- a run that begins a block waits for its first answer
  pub begins : (b : ℕ) (env : Env) (t : RunTalk) (r : Configuration) → r ≡ begun loaded b env → Behaves loaded (begun loaded b env) t → Waits loaded r (λ _. t)
  begins b env t r e h = subst (λ r. Waits loaded r (λ _. t)) (sym e) (record { still = tt; by = λ answer. h })

  -- a run that was told an answer, and goes on with matchers of these patterns
  pub advances : (patterns : List (List ℕ)) (before r after : Configuration) (answer : HostAnswer) (w : Went) → r ≡ told answer before →
      ((talk : RunTalk) → Behaves (with_patterns patterns loaded) r talk → IsWent (with_patterns patterns loaded) talk after w) →
      patterns ≡ loaded.patterns → (next : HostAnswer → RunTalk) → Waits loaded before next → IsWent loaded (next answer) after w
  advances patterns before r after answer w is goes same next waits =
      let e : with_patterns patterns loaded ≡ loaded = ap (λ ps. with_patterns ps loaded) same in
      let b : Behaves loaded r (next answer) = subst (λ r. Behaves loaded r (next answer)) (sym is) (waits.by answer) in
      subst (λ l. Behaves l r (next answer) → IsWent l (next answer) after w) e (goes (next answer)) b

  -- a run that is handed on says the same
  pub asks_as : (t : RunTalk) (r : Configuration) (a : HostAsk) → IsWent loaded t r went.Asks → a ≡ asked_of loaded r → IsNext loaded t (RunAsks r a)
  asks_as (Asks a next) r b h e = (e ∙ h.0, h.1)
  asks_as (Ends end) r b h e = h

  pub ended_as : (t : RunTalk) (r : Configuration) (env : Env) (how : How) → IsWent loaded t r went.Ended → env ≡ r.env → how ≡ how_ended r.wait → IsNext loaded t (RunEnded env how)
  ended_as (Asks a next) r env how h e f = h
  ended_as (Ends end) r env how h e f =
      ap (λ x. record { env = x; how = how }) (e ∙ h.0) ∙ ap (λ y. record { env = end.env; how = y }) (f ∙ ap how_ended h.1)

-- the same of the steps with patterns that are told to be these
module _ (loaded : FlatScript) (ps qs : List (List ℕ)) (same : ps ≡ qs) where
  pub goes_on_by : (r r' : Configuration) (t : RunTalk) → step_of (with_patterns ps loaded) r ≡ record { event = Moved; run = r' } → Behaves (with_patterns qs loaded) r t → Behaves (with_patterns qs loaded) r' t
  goes_on_by r r' t is b = goes_on (with_patterns qs loaded) r r' t (subst (λ m. step_of (with_patterns m loaded) r ≡ record { event = Moved; run = r' }) same is) b

  pub asks_by : (r r' : Configuration) (t : RunTalk) → step_of (with_patterns ps loaded) r ≡ record { event = Asked; run = r' } → Behaves (with_patterns qs loaded) r t → IsWent (with_patterns qs loaded) t r' went.Asks
  asks_by r r' t is b = asks_next (with_patterns qs loaded) r r' t (subst (λ m. step_of (with_patterns m loaded) r ≡ record { event = Asked; run = r' }) same is) b

  pub ends_by : (r r' : Configuration) (t : RunTalk) → step_of (with_patterns ps loaded) r ≡ record { event = Over; run = r' } → Behaves (with_patterns qs loaded) r t → IsWent (with_patterns qs loaded) t r' went.Ended
  ends_by r r' t is b = ends_next (with_patterns qs loaded) r r' t (subst (λ m. step_of (with_patterns m loaded) r ≡ record { event = Over; run = r' }) same is) b

  pub never_stuck_by : (r r' : Configuration) (t : RunTalk) → (step_of (with_patterns ps loaded) r).event ≡ Stuck → Behaves (with_patterns qs loaded) r t → IsWent (with_patterns qs loaded) t r' went.Ended
  never_stuck_by r r' t is b = absurd (never_stuck (with_patterns qs loaded) r t (subst (λ m. (step_of (with_patterns m loaded) r).event ≡ Stuck) same is) b)
