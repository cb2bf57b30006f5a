-- Where the folder is told, the words and the files leave one ending, besides that of a fault.
use Rattle.std.proofs.Common.{◌≡◌, ℕ, ◌≤◌, inl, inr, List, Option, length, refl, sym, ap, ◌∙◌, subst, arith}
use Rattle.outside_ports.specs.Files.{Folder}
use Rattle.outside_ports.specs.Told.{Grows}
use Rattle.pv_values.specs.declared.refusal.Place.{Place}
use Rattle.cfg_tree.specs.declared.refusal_kind.RefusalKind.TheVariants.{TooLarge}
use Rattle.cfg_tree.specs.RefusalKinds.{refusal_number}
use Rattle.sim_text.specs.Scenario.{IsScenario, IsFirstWrong}
use Rattle.sim_text.proofs.Once.{scenario_not_wrong}
use Rattle.proxy_top.specs.declared.top.Ending.{Ending}
use Rattle.proxy_top.specs.declared.top.Ending.TheVariants as outcome
use Rattle.proxy_top.specs.Accept.{RefusesText}
use Rattle.proxy_top.specs.Commands.{IsNoCommand, check_words, sim_words}
use Rattle.proxy_top.specs.Endings.{NamesScript, IsEnding, IsRun, IsRefusedByCommand, IsWrongLine, IsEnd, IsCalm, Gives, status_of, IsToAccept, IsToRefuse, IsTooLong, IsToRun, IsReady, IsMalformedScenario, PrintsRefusal, place, refused_line}
use Rattle.proxy_top.proofs.Files.{NeverBoth, two_commands, same_words, names_once, held_once, long_once, not_longer, not_refused, refused_not_read, long_not_read}
use Rattle.proxy_top.proofs.Statuses.{refused}
use Rattle.proxy_top.proofs.Texts.{Agree}

-- a fact of how a command ended is one of its status
module _ (words : List (List ℕ)) (folder : Option Folder) (f g : List ℕ → ℕ) where
  abbrev Meant : ℕ → Type 0
  Meant status = (ending : Ending) → IsCalm f g → IsEnding words folder f g ending → status_of ending ≡ status

  gives : (meant : ℕ) (old new : Option (List ℕ)) (c d s t status : ℕ) → Meant meant → IsEnd words folder f g old new c d s t status → Gives meant f g c d status
  gives meant old new c d s t status m (inl h) still calm = inl (h.status_is ∙ m h.ending still h.ends)
  gives meant old new c d s t status m (inr (inl h)) still calm = absurd (calm h.rose)
  gives meant old new c d s t status m (inr (inr h)) still calm = inr h.is

  -- words in a form are a command
  is_command : (file : List ℕ) → NamesScript words file → IsNoCommand words → ⊥
  is_command file (inl h) none = none.no_check file h
  is_command file (inr h) none = none.no_sim file h.0 h.1

  accept_in : NeverBoth → IsToAccept words folder → Meant 0
  accept_in never r outcome.Accepted still ends = refl
  accept_in never r (outcome.Ran trace) still ends = refl
  accept_in never r outcome.Usage still ends = absurd (is_command r.file (inl r.words_are) ends)
  accept_in never r (outcome.Refused kind at) still ends = absurd (not_refused never words folder r.file r.text r.script kind at (inl r.words_are) r.held r.accepted ends)
  accept_in never r (outcome.WrongLine line) still ends = absurd (two_commands words r.file ends.file ends.scenario r.words_are ends.words_are)
  accept_in never r (outcome.Unread name) still ends = absurd (still name.now ends.rose)

  refuse_in : NeverBoth → (kind : ℕ) (at : Place) → IsToRefuse words folder kind at → Meant 2
  refuse_in never kind at r outcome.Accepted still ends = absurd (refused_not_read never words folder kind at r ends.file ends.script (inl ends.words_are) ends.accepted)
  refuse_in never kind at r (outcome.Ran trace) still ends =
      absurd (refused_not_read never words folder kind at r ends.file ends.script (inr (ends.scenario, ends.words_are)) ends.accepted)
  refuse_in never kind at r outcome.Usage still ends = absurd (is_command r.file r.names ends)
  refuse_in never kind at r (outcome.Refused k p) still ends = refl
  refuse_in never kind at r (outcome.WrongLine line) still ends =
      absurd (refused_not_read never words folder kind at r ends.file ends.script (inr (ends.scenario, ends.words_are)) ends.accepted)
  refuse_in never kind at r (outcome.Unread name) still ends = absurd (still name.now ends.rose)

  long_in : IsTooLong words folder → Meant 2
  long_in r outcome.Accepted still ends = absurd (long_not_read words folder r ends.file ends.script (inl ends.words_are) ends.accepted)
  long_in r (outcome.Ran trace) still ends = absurd (long_not_read words folder r ends.file ends.script (inr (ends.scenario, ends.words_are)) ends.accepted)
  long_in r outcome.Usage still ends = absurd (is_command r.file r.names ends)
  long_in r (outcome.Refused k p) still ends = refl
  long_in r (outcome.WrongLine line) still ends = absurd (long_not_read words folder r ends.file ends.script (inr (ends.scenario, ends.words_are)) ends.accepted)
  long_in r (outcome.Unread name) still ends = absurd (still name.now ends.rose)

  -- a scenario that reads has no wrong line
  not_wrong : (r : IsReady words folder) (line : ℕ) → IsWrongLine words folder line → ⊥
  not_wrong r line w =
      let same = same_words r.run.file r.scenario w.file w.scenario (sym r.run.words_are ∙ w.words_are) in
      elim w.wrong [
        | inl h ↦ scenario_not_wrong r.lines r.said line r.reads
            (subst (λ x. IsFirstWrong x line) (held_once folder r.scenario w.scenario 4194304 r.lines h.0 r.told same.1 h.1) h.2)
        | inr h ↦ not_longer folder r.scenario w.scenario 4194304 r.lines r.told same.1 h.1
      ]

  -- and one with a wrong line isn't run
  not_run : (line : ℕ) (r : IsMalformedScenario words folder line) (printed : List ℕ) → IsRun words folder printed → ⊥
  not_run line r printed d =
      let same = same_words r.run.file r.scenario d.file d.scenario (sym r.run.words_are ∙ d.words_are) in
      scenario_not_wrong r.lines d.said line
      (subst (λ x. IsScenario x d.said) (held_once folder r.scenario d.scenario 4194304 r.lines d.text r.told same.1 d.held) d.reads) r.wrong

  accepted_not_refused : NeverBoth → (scenario : List ℕ) → IsToRun words folder scenario → (kind : ℕ) (at : Place) → IsRefusedByCommand words folder kind at → ⊥
  accepted_not_refused never scenario r kind at h =
      not_refused never words folder r.file r.text r.script kind at (inr (scenario, r.words_are)) r.held r.accepted h

  ready_in : NeverBoth → IsReady words folder → Meant 0
  ready_in never r outcome.Accepted still ends = refl
  ready_in never r (outcome.Ran trace) still ends = refl
  ready_in never r outcome.Usage still ends = absurd (is_command r.run.file (inr (r.scenario, r.run.words_are)) ends)
  ready_in never r (outcome.Refused kind at) still ends = absurd (accepted_not_refused never r.scenario r.run kind at ends)
  ready_in never r (outcome.WrongLine line) still ends = absurd (not_wrong r line ends)
  ready_in never r (outcome.Unread name) still ends = absurd (still name.now ends.rose)

  wrong_in : NeverBoth → (line : ℕ) → IsMalformedScenario words folder line → Meant 3
  wrong_in never line r outcome.Accepted still ends = absurd (two_commands words ends.file r.run.file r.scenario ends.words_are r.run.words_are)
  wrong_in never line r (outcome.Ran trace) still ends = absurd (not_run line r trace.items ends)
  wrong_in never line r outcome.Usage still ends = absurd (is_command r.run.file (inr (r.scenario, r.run.words_are)) ends)
  wrong_in never line r (outcome.Refused kind at) still ends = absurd (accepted_not_refused never r.scenario r.run kind at ends)
  wrong_in never line r (outcome.WrongLine other) still ends = refl
  wrong_in never line r (outcome.Unread name) still ends = absurd (still name.now ends.rose)

  -- ---- each of them

  pub accepts : NeverBoth → (old new : Option (List ℕ)) (c d s t status : ℕ) → IsEnd words folder f g old new c d s t status
      → IsToAccept words folder → Gives 0 f g c d status
  accepts never old new c d s t status h r = gives 0 old new c d s t status (accept_in never r) h

  pub refuses : NeverBoth → (old new : Option (List ℕ)) (c d s t status : ℕ) → IsEnd words folder f g old new c d s t status
      → (kind : ℕ) (at : Place) → IsToRefuse words folder kind at → Gives 2 f g c d status
  refuses never old new c d s t status h kind at r = gives 2 old new c d s t status (refuse_in never kind at r) h

  pub too_long : (old new : Option (List ℕ)) (c d s t status : ℕ) → IsEnd words folder f g old new c d s t status
      → IsTooLong words folder → Gives 2 f g c d status
  too_long old new c d s t status h r = gives 2 old new c d s t status (long_in r) h

  pub ready : NeverBoth → (old new : Option (List ℕ)) (c d s t status : ℕ) → IsEnd words folder f g old new c d s t status
      → IsReady words folder → Gives 0 f g c d status
  ready never old new c d s t status h r = gives 0 old new c d s t status (ready_in never r) h

  pub malformed : NeverBoth → (old new : Option (List ℕ)) (c d s t status : ℕ) → IsEnd words folder f g old new c d s t status
      → (line : ℕ) → IsMalformedScenario words folder line → Gives 3 f g c d status
  malformed never old new c d s t status h line r = gives 3 old new c d s t status (wrong_in never line r) h

-- ---- the line of a refusal

-- the kind of a text's refusal is one, and so, but for Syntax, is the byte where it begins
abbrev pub OneWay : Type 0
OneWay = (text : List ℕ) (kind : ℕ) (at : Place) (other : ℕ) (there : Place) → RefusesText text kind at → RefusesText text other there → Agree kind at other there

line_in : OneWay → (words : List (List ℕ)) (folder : Option Folder) (old new : Option (List ℕ)) (kind : ℕ) (at : Place) (k : ℕ) (p : Place)
    → IsToRefuse words folder kind at → IsRefusedByCommand words folder k p → Grows old new (refused_line k p) → PrintsRefusal kind at old new
line_in one words folder old new kind at k p r h grows =
    let same = names_once words r.file h.file r.names h.names in
    elim h.refused [
      | inl t ↦
          let text = held_once folder r.file h.file 1048576 r.text t.0 r.held same t.1 in
          let agree = one r.text kind at k p r.refused (subst (λ x. RefusesText x k p) text t.3) in
          (p, agree.1, subst (λ n. Grows old new (refused_line n p)) agree.0 grows)
      | inr t ↦ absurd (not_longer folder r.file h.file 1048576 r.text r.held same t.0)
    ]

pub line : OneWay → (words : List (List ℕ)) (folder : Option Folder) (f g : List ℕ → ℕ) (old new : Option (List ℕ)) (c d s t status : ℕ)
    → IsEnd words folder f g old new c d s t status → (kind : ℕ) (at : Place) → IsToRefuse words folder kind at → status ≡ 2 → PrintsRefusal kind at old new
line one words folder f g old new c d s t status h kind at r e =
    let found = refused words folder f g old new c d s t status h e in
    line_in one words folder old new kind at found.0 found.1 r found.2 found.3

long_line_in : (words : List (List ℕ)) (folder : Option Folder) (old new : Option (List ℕ)) (k : ℕ) (p : Place)
    → IsTooLong words folder → IsRefusedByCommand words folder k p → Grows old new (refused_line k p) → Grows old new (refused_line (refusal_number TooLarge) (place 1048576 1048577))
long_line_in words folder old new k p r h grows =
    let same = names_once words r.file h.file r.names h.names in
    elim h.refused [
      | inl t ↦
          let text = long_once folder r.file h.file r.files r.text t.0 r.told r.held same t.1 in
          let short : length r.text ≤ 1048576 = subst (λ (x : List ℕ). length x ≤ 1048576) text t.2 in
          absurd (omega (arith, short, r.long))
      | inr t ↦ subst (λ q. Grows old new (refused_line (refusal_number TooLarge) q)) t.2 (subst (λ n. Grows old new (refused_line n p)) t.1 grows)
    ]

pub too_long_line : (words : List (List ℕ)) (folder : Option Folder) (f g : List ℕ → ℕ) (old new : Option (List ℕ)) (c d s t status : ℕ)
    → IsEnd words folder f g old new c d s t status → IsTooLong words folder → status ≡ 2 → Grows old new (refused_line (refusal_number TooLarge) (place 1048576 1048577))
too_long_line words folder f g old new c d s t status h r e =
    let found = refused words folder f g old new c d s t status h e in
    long_line_in words folder old new found.0 found.1 r found.2 found.3
