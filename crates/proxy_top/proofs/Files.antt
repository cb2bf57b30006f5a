-- What words and a folder that is told leave: one file of the script, one text of each file, and one way in which it ends.
use Rattle.std.proofs.Common.{◌≡◌, ℕ, ◌<◌, ◌≤◌, inl, inr, List, Option, Some, length, refl, sym, ap, ◌∙◌, subst, arith}
use Rattle.std.specs.Prelude.{IfSome, IsSomeAnd}
use Rattle.outside_ports.specs.Files.{Folder, Holds, IsLonger}
use Rattle.pv_values.specs.declared.refusal.Place.{Place}
use Rattle.cfg_tree.specs.declared.script.Script.{Script}
use Rattle.proxy_top.specs.Accept.{AcceptsText, RefusesText}
use Rattle.proxy_top.specs.Commands.{check_words, sim_words}
use Rattle.proxy_top.specs.Endings.{NamesScript, ReadsScript, IsRefusedByCommand, IsToRefuse, IsTooLong, Tells}
use Rattle.proxy_top.proofs.Texts.{accepted_is_short}

-- ---- the words

-- no words are both commands
pub two_commands : (words : List (List ℕ)) (checked file scenario : List ℕ) → words ≡ check_words checked → words ≡ sim_words file scenario → ⊥
two_commands words checked file scenario h k = let both : check_words checked ≡ sim_words file scenario = sym h ∙ k in absurd (cc)

pub same_words : (file scenario file' scenario' : List ℕ) → sim_words file scenario ≡ sim_words file' scenario'
    → (file' ≡ file) × (scenario' ≡ scenario)
same_words file scenario file' scenario' e = (cc, cc)

same_check : (file file' : List ℕ) → check_words file ≡ check_words file' → file' ≡ file
same_check file file' e = cc

-- the words name one file as that of the script
pub names_once : (words : List (List ℕ)) (file file' : List ℕ) → NamesScript words file → NamesScript words file' → file' ≡ file
names_once words file file' (inl h) (inl k) = same_check file file' (sym h ∙ k)
names_once words file file' (inl h) (inr k) = absurd (two_commands words file file' k.0 h k.1)
names_once words file file' (inr h) (inl k) = absurd (two_commands words file' file h.0 k h.1)
names_once words file file' (inr h) (inr k) = (same_words file h.0 file' k.0 (sym h.1 ∙ k.1)).0

-- ---- the files

-- a name that is told holds one text
pub held_once : (folder : Option Folder) (name name' : List ℕ) (limit : ℕ) (text text' : List ℕ) → Tells folder name limit text → name' ≡ name
    → Holds folder name' text' → text' ≡ text
held_once folder name name' limit text text' t same h =
    let there : t.files name' ≡ Some text' = subst (λ f. IfSome f (λ files. files name' ≡ Some text')) t.told h in
    let both : Some text' ≡ Some text = sym there ∙ ap t.files same ∙ t.held in cc

-- also where it is longer than the limit
pub long_once : (folder : Option Folder) (name name' : List ℕ) (files : Folder) (text text' : List ℕ) → folder ≡ Some files → files name ≡ Some text
    → name' ≡ name → Holds folder name' text' → text' ≡ text
long_once folder name name' files text text' told held same h =
    let there : files name' ≡ Some text' = subst (λ f. IfSome f (λ fs. fs name' ≡ Some text')) told h in
    let both : Some text' ≡ Some text = sym there ∙ ap files same ∙ held in cc

-- a text that is told is no longer than its limit
pub not_longer : (folder : Option Folder) (name name' : List ℕ) (limit : ℕ) (text : List ℕ) → Tells folder name limit text → name' ≡ name
    → IsLonger folder name' limit → ⊥
not_longer folder name name' limit text t same h =
    let there : IsSomeAnd (t.files name') (λ bytes. limit < length bytes) =
    subst (λ f. IfSome f (λ files. IsSomeAnd (files name') (λ bytes. limit < length bytes))) t.told h in
    let long : limit < length text = subst (λ o. IsSomeAnd o (λ bytes. limit < length bytes)) (ap t.files same ∙ t.held) there in
    absurd (omega (arith, long, t.short))

-- ---- scripts

-- no text is both accepted and refused
abbrev pub NeverBoth : Type 0
NeverBoth = (text : List ℕ) (script : Script) (kind : ℕ) (at : Place) → AcceptsText text script → RefusesText text kind at → ⊥

-- a script that is told to be accepted isn't refused
pub not_refused : NeverBoth → (words : List (List ℕ)) (folder : Option Folder) (file text : List ℕ) (script : Script) (kind : ℕ) (at : Place)
    → NamesScript words file → Tells folder file 1048576 text → AcceptsText text script → IsRefusedByCommand words folder kind at → ⊥
not_refused never words folder file text script kind at names told accepted h =
    let same = names_once words file h.file names h.names in
    elim h.refused [
      | inl t ↦ never text script kind at accepted (subst (λ x. RefusesText x kind at) (held_once folder file h.file 1048576 text t.0 told same t.1) t.3)
      | inr t ↦ not_longer folder file h.file 1048576 text told same t.0
    ]

-- a script that is told to be refused isn't accepted
pub refused_not_read : NeverBoth → (words : List (List ℕ)) (folder : Option Folder) (kind : ℕ) (at : Place) (r : IsToRefuse words folder kind at)
    (file : List ℕ) (script : Script) → NamesScript words file → ReadsScript folder file script → ⊥
refused_not_read never words folder kind at r file script names h =
    let same = names_once words r.file file r.names names in
    let text = held_once folder r.file file 1048576 r.text h.text r.held same h.held in
    never r.text script kind at (subst (λ x. AcceptsText x script) text h.accepted) r.refused

-- nor one that is too long
pub long_not_read : (words : List (List ℕ)) (folder : Option Folder) (r : IsTooLong words folder)
    (file : List ℕ) (script : Script) → NamesScript words file → ReadsScript folder file script → ⊥
long_not_read words folder r file script names h =
    let same = names_once words r.file file r.names names in
    let text = long_once folder r.file file r.files r.text h.text r.told r.held same h.held in
    let short : length r.text ≤ 1048576 = subst (λ (x : List ℕ). length x ≤ 1048576) text (accepted_is_short h.text script h.accepted) in
    absurd (omega (arith, short, r.long))

-- each command names its first file as that of the script
pub check_names : (words : List (List ℕ)) (file : List ℕ) → words ≡ check_words file → NamesScript words file
check_names words file h = inl h

pub sim_names : (file scenario : List ℕ) → NamesScript (sim_words file scenario) file
sim_names file scenario = inr (scenario, refl)
