-- A whole run, answer by answer.
use Rattle.std.proofs.Common.{◌≡◌, ℕ, List, [], ◌∷◌, drop, refl, sym, ap, ◌∙◌, subst}
use Rattle.dialogue.specs.Talk.{Ends, Asks, Said, said}
use Rattle.pv_values.specs.declared.run.Env.{Env}
use Rattle.pv_values.specs.declared.run.How.{How}
use Rattle.pv_values.specs.declared.run.HostAsk.{HostAsk}
use Rattle.pv_values.specs.declared.run.HostAnswer.{HostAnswer}
use Rattle.cfg_tree.specs.Meaning.{End, RunTalk}
use Rattle.cfg_code.specs.Flat.{FlatScript}
use Rattle.cfg_code.specs.Machine.{Configuration, asked_of}
use Rattle.cfg_code.specs.Follows.{Waits}
use Rattle.script_vm.specs.declared.run.Went.{Went}
use Rattle.script_vm.specs.declared.run.Went.TheVariants as went
use Rattle.script_vm.specs.declared.run.RunNext.TheVariants.{Asks as RunAsks, Ended as RunEnded}
use Rattle.script_vm.specs.declared.playing.Played.TheVariants as played
use Rattle.script_vm.specs.Running.{IsWent, IsNext, how_ended}
use Rattle.script_vm.specs.Play.{IsPlayed}
use Rattle.script_vm.proofs.Goes.{asks_as, ended_as}

-- what a run that is given this answer comes to
abbrev pub Fed : FlatScript → Configuration → HostAnswer → Configuration → Went → Type 0
Fed loaded run answer after went = (next : HostAnswer → RunTalk) → Waits loaded run next → IsWent loaded (next answer) after went

-- a run that is given this answer comes on the other answers to what is said
pub record IsOn (loaded : FlatScript) (run : Configuration) (answer : HostAnswer) (rest : List HostAnswer) (whole : Said HostAsk HostAnswer End) : Type 0 where
  pub inner : HostAnswer → RunTalk
  pub waits : Waits loaded run inner
  pub same : whole ≡ said (inner answer) rest

on_case : (loaded : FlatScript) (run : Configuration) (a : HostAnswer) (rest : List HostAnswer) (whole : Said HostAsk HostAnswer End) (t : RunTalk) → whole ≡ said t (a ∷ rest) → IsWent loaded t run went.Asks → IsOn loaded run a rest whole
on_case loaded run a rest whole (Ends end) e n = absurd n
on_case loaded run a rest whole (Asks asked next) e n = record { inner = next; waits = n.1; same = e }

pub on_more : (loaded : FlatScript) (run after : Configuration) (b : HostAnswer) (a : HostAnswer) (rest : List HostAnswer) (whole : Said HostAsk HostAnswer End) → IsOn loaded run b (a ∷ rest) whole → Fed loaded run b after went.Asks → IsOn loaded after a rest whole
on_more loaded run after b a rest whole on fed = on_case loaded after a rest whole (on.inner b) on.same (fed on.inner on.waits)

needs_case : (loaded : FlatScript) (run : Configuration) (ask : HostAsk) (answers : List HostAnswer) (whole : Said HostAsk HostAnswer End) (t : RunTalk) → whole ≡ said t [] → IsNext loaded t (RunAsks run ask) → IsPlayed whole answers (played.Needs ask)
needs_case loaded run ask answers whole (Ends end) e n = absurd n
needs_case loaded run ask answers whole (Asks asked next) e n = subst (λ x. IsPlayed x answers (played.Needs ask)) (sym e) n.0

pub on_needs : (loaded : FlatScript) (run after : Configuration) (b : HostAnswer) (ask : HostAsk) (answers rest : List HostAnswer) (whole : Said HostAsk HostAnswer End) → rest ≡ [] → IsOn loaded run b rest whole → Fed loaded run b after went.Asks → ask ≡ asked_of loaded after →
    IsPlayed whole answers (played.Needs ask)
on_needs loaded run after b ask answers rest whole none on fed is =
    needs_case loaded after ask answers whole (on.inner b) (on.same ∙ ap (said (on.inner b)) none) (asks_as loaded (on.inner b) after ask (fed on.inner on.waits) is)

ends_case : (loaded : FlatScript) (env : Env) (how : How) (answers : List HostAnswer) (taken : ℕ) (whole : Said HostAsk HostAnswer End) (t : RunTalk) → whole ≡ said t (drop taken answers) → IsNext loaded t (RunEnded env how) → IsPlayed whole answers (played.Ended env how taken)
ends_case loaded env how answers taken whole (Ends end) e n = subst (λ x. IsPlayed x answers (played.Ended env how taken)) (sym e) (n, refl)
ends_case loaded env how answers taken whole (Asks asked next) e n = absurd n

pub on_ends : (loaded : FlatScript) (run after : Configuration) (b : HostAnswer) (env : Env) (how : How) (answers : List HostAnswer) (taken : ℕ) (whole : Said HostAsk HostAnswer End) → IsOn loaded run b (drop taken answers) whole → Fed loaded run b after went.Ended →
    env ≡ after.env → how ≡ how_ended after.wait → IsPlayed whole answers (played.Ended env how taken)
on_ends loaded run after b env how answers taken whole on fed e f =
    ends_case loaded env how answers taken whole (on.inner b) on.same (ended_as loaded (on.inner b) after env how (fed on.inner on.waits) e f)
