-- A text is one scenario at most, has one first wrong line at most, and never both.
use Rattle.std.proofs.Common.{◌≡◌, ℕ, List, [], ◌∷◌, ◌++◌, length, refl, sym, ap, ◌∙◌, subst, arith, append_assoc, append-nil}
use Rattle.std.specs.Prelude.{Some, None, Result, Ok, Err, IfOk}
use Rattle.outside_ports.specs.declared.port.Arrival.{Arrival}
use Rattle.sim_text.specs.declared.line.Line.{Line}
use Rattle.sim_text.specs.declared.line.Line.TheVariants.{Host, In, Text, Hex, End, Skipped}
use Rattle.host_meaning.specs.declared.settings.HostAddress.{HostAddress}
use Rattle.sim_text.specs.declared.scenario.Scenario.{Scenario}
use Rattle.sim_text.specs.declared.scenario.ScenarioFault.{ScenarioFault}
use Rattle.sim_text.specs.declared.scenario.ScenarioFault.TheVariants as fault
use Rattle.sip_words.specs.Splits.{Lacks}
use Rattle.sim_text.specs.Scenario.{State, GoesOn, Takes, Fits, Reads, lines_text, nothing_read, Contents, IsScenario, NothingFits, IsFirstWrong, GivesScenario, GivesLine, contents_of}
use Rattle.numerals.proofs.Addresses.{split_one_way}
use Rattle.sim_text.proofs.Lines.{takes_alike}

push_once : (xs ys : List Arrival) (a b : Arrival) → xs ++ a ∷ [] ≡ ys ++ b ∷ [] → (xs ≡ ys) × (a ≡ b)
push_once [] [] a b e = (refl, cc)
push_once [] (y ∷ []) a b e = absurd (cc)
push_once [] (y ∷ (z ∷ zs)) a b e = absurd (cc)
push_once (x ∷ []) [] a b e = absurd (cc)
push_once (x ∷ (z ∷ zs)) [] a b e = absurd (cc)
push_once (x ∷ xs) (y ∷ ys) a b e =
    let tail : xs ++ a ∷ [] ≡ ys ++ b ∷ [] = cc in
    let rest = push_once xs ys a b tail in (cc, rest.1)

goes_on_once : (old : State) (more : List ℕ) (new new' : State) → GoesOn old more new → GoesOn old more new' → new ≡ new'
goes_on_once old more new new' h h' =
    let same = push_once h.0 h'.0 h.1 h'.1 (sym h.3 ∙ h'.3) in
    let made : List Arrival → Arrival → State = λ before a. record old { arrivals = before ++ record a { bytes = a.bytes ++ more } ∷ [] } in
    h.5 ∙ ap (λ before. made before h.1) same.0 ∙ ap (λ a. made h'.0 a) same.1 ∙ sym h'.5

takes_once : (old : State) (l : Line) (new new' : State) → Takes old l new → Takes old l new' → new ≡ new'
takes_once old Skipped new new' h h' = h ∙ sym h'
takes_once old (Host name address) new new' h h' = h.2 ∙ sym h'.2
takes_once old (In at from) new new' h h' = h.2 ∙ sym h'.2
takes_once old (End at) new new' h h' = h.3 ∙ sym h'.3
takes_once old (Text text) new new' h h' = goes_on_once old (text.now ++ 13 ∷ 10 ∷ []) new new' h h'
takes_once old (Hex digits) new new' h h' =
    let both : Ok h.0 ≡ Ok h'.0 = sym h.1 ∙ h'.1 in
    let same : h'.0 ≡ h.0 = cc in
    let P : List ℕ → Type 0 = λ bytes. GoesOn old bytes new' in
    goes_on_once old h.0 new new' h.2 (subst P same h'.2)

fits_once : (old : State) (line : List ℕ) (new new' : State) → Fits old line new → Fits old line new' → new ≡ new'
fits_once old line new new' h h' = takes_once old h.0 new new' h.2 (takes_alike line h.0 h'.0 old new' h.1 h'.1 h'.2)

-- the first lines of two readings are one
abbrev SameFirst : List ℕ → List ℕ → List (List ℕ) → List (List ℕ) → List ℕ → List ℕ → State → State → Type 0
SameFirst line line' lines lines' rest rest' next next' =
    (line ≡ line') × (next ≡ next') × (lines_text lines ++ rest ≡ lines_text lines' ++ rest')

same_first : (line line' : List ℕ) (lines lines' : List (List ℕ)) (rest rest' : List ℕ) (old next next' : State)
    → lines_text (line ∷ lines) ++ rest ≡ lines_text (line' ∷ lines') ++ rest' → Lacks 10 line → Lacks 10 line' → Fits old line next → Fits old line' next'
    → SameFirst line line' lines lines' rest rest' next next'
same_first line line' lines lines' rest rest' old next next' e lacks lacks' fits fits' =
    let same : line ++ 10 ∷ (lines_text lines ++ rest) ≡ line' ++ 10 ∷ (lines_text lines' ++ rest') =
    sym (append_assoc line (10 ∷ lines_text lines) rest) ∙ e ∙ append_assoc line' (10 ∷ lines_text lines') rest' in
    let parts = split_one_way 10 line (lines_text lines ++ rest) line' (lines_text lines' ++ rest') same lacks lacks' in
    let P : List ℕ → Type 0 = λ l. Fits old l next' in
    (parts.0, fits_once old line next next' fits (subst P (sym parts.0) fits'), parts.1)

not_empty : (line rest : List ℕ) (lines : List (List ℕ)) → lines_text (line ∷ lines) ++ rest ≡ [] → ⊥
not_empty [] rest lines e = absurd (cc)
not_empty (b ∷ bs) rest lines e = absurd (cc)

-- where nothing fits, no line is read
stuck : (state : State) (rest line more : List ℕ) (new : State) → NothingFits state rest → rest ≡ line ++ 10 ∷ more → Lacks 10 line → Fits state line new → ⊥
stuck state [] [] more new none e lacks fits = absurd (cc)
stuck state [] (b ∷ bs) more new none e lacks fits = absurd (cc)
stuck state (b ∷ bs) line more new none e lacks fits = none line more new lacks e fits

stuck_at : (line : List ℕ) (lines : List (List ℕ)) (rest rest' : List ℕ) (state next : State) → NothingFits state rest → rest ≡ lines_text (line ∷ lines) ++ rest'
    → Lacks 10 line → Fits state line next → ⊥
stuck_at line lines rest rest' state next none e lacks fits =
    stuck state rest line (lines_text lines ++ rest') next none (e ∙ append_assoc line (10 ∷ lines_text lines) rest') lacks fits

-- two readings of a text that go as far as they can have as many lines
same_count : (lines lines' : List (List ℕ)) (rest rest' : List ℕ) (old state state' : State) → lines_text lines ++ rest ≡ lines_text lines' ++ rest'
    → Reads lines old state → Reads lines' old state' → NothingFits state rest → NothingFits state' rest' → length lines ≡ length lines'
same_count [] [] rest rest' old state state' e h h' n n' = refl
same_count [] (l' ∷ ls') rest rest' old state state' e h h' n n' =
    absurd (stuck_at l' ls' rest rest' old h'.0 (subst (λ (s : State). NothingFits s rest) h n) e h'.1 h'.2)
same_count (l ∷ ls) [] rest rest' old state state' e h h' n n' =
    absurd (stuck_at l ls rest' rest old h.0 (subst (λ (s : State). NothingFits s rest') h' n') (sym e) h.1 h.2)
same_count (l ∷ ls) (l' ∷ ls') rest rest' old state state' e h h' n n' =
    let same = same_first l l' ls ls' rest rest' old h.0 h'.0 e h.1 h'.1 h.2 h'.2 in
    let reads' = subst (λ (s : State). Reads ls' s state') (sym same.1) h'.3 in
    omega (arith, same_count ls ls' rest rest' h.0 state state' same.2 h.3 reads' n n')

-- two readings of the whole text end alike
same_state : (lines lines' : List (List ℕ)) (old state state' : State) → lines_text lines ≡ lines_text lines' → Reads lines old state → Reads lines' old state' → state ≡ state'
same_state [] [] old state state' e h h' = h ∙ sym h'
same_state [] (l' ∷ ls') old state state' e h h' = absurd (not_empty l' [] ls' (append-nil (lines_text (l' ∷ ls')) ∙ sym e))
same_state (l ∷ ls) [] old state state' e h h' = absurd (not_empty l [] ls (append-nil (lines_text (l ∷ ls)) ∙ e))
same_state (l ∷ ls) (l' ∷ ls') old state state' e h h' =
    let whole : lines_text (l ∷ ls) ++ [] ≡ lines_text (l' ∷ ls') ++ [] = ap (λ t. t ++ []) e in
    let same = same_first l l' ls ls' [] [] old h.0 h'.0 whole h.1 h'.1 h.2 h'.2 in
    let reads' = subst (λ (s : State). Reads ls' s state') (sym same.1) h'.3 in
    let rest : lines_text ls ≡ lines_text ls' = sym (append-nil (lines_text ls)) ∙ same.2 ∙ append-nil (lines_text ls') in
    same_state ls ls' h.0 state state' rest h.3 reads'

-- a reading that stops has not read the whole text with its end
never_both : (lines lines' : List (List ℕ)) (rest : List ℕ) (old state state' : State) (end : ℕ) → lines_text lines ++ rest ≡ lines_text lines'
    → Reads lines old state → Reads lines' old state' → NothingFits state rest → state'.end ≡ Some end → ⊥
never_both [] [] [] old state state' end e h h' n ended = let both : None ≡ Some end = sym n ∙ ap (λ (s : State). s.end) (h ∙ sym h') ∙ ended in absurd (cc)
never_both [] [] (b ∷ bs) old state state' end e h h' n ended = absurd (cc)
never_both [] (l' ∷ ls') rest old state state' end e h h' n ended =
    stuck_at l' ls' rest [] old h'.0 (subst (λ (s : State). NothingFits s rest) h n) (e ∙ sym (append-nil (lines_text (l' ∷ ls')))) h'.1 h'.2
never_both (l ∷ ls) [] rest old state state' end e h h' n ended = not_empty l rest ls e
never_both (l ∷ ls) (l' ∷ ls') rest old state state' end e h h' n ended =
    let whole : lines_text (l ∷ ls) ++ rest ≡ lines_text (l' ∷ ls') ++ [] = e ∙ sym (append-nil (lines_text (l' ∷ ls'))) in
    let same = same_first l l' ls ls' rest [] old h.0 h'.0 whole h.1 h'.1 h.2 h'.2 in
    let reads' = subst (λ (s : State). Reads ls' s state') (sym same.1) h'.3 in
    never_both ls ls' rest h.0 state state' end (same.2 ∙ append-nil (lines_text ls')) h.3 reads' n ended

-- the line of the fault is one
pub wrong_once : (text : List ℕ) (m n : ℕ) → IsFirstWrong text m → IsFirstWrong text n → m ≡ n
wrong_once text m n h h' =
    omega (arith, same_count h.0 h'.0 h.1 h'.1 nothing_read h.2 h'.2 (sym h.3 ∙ h'.3) h.4 h'.4 h.6 h'.6, h.5, h'.5)

-- a text says one thing as a scenario
pub scenario_once : (text : List ℕ) (said said' : Contents) → IsScenario text said → IsScenario text said' → said ≡ said'
scenario_once text said said' h h' =
    let same = same_state h.0 h'.0 nothing_read _ _ (sym h.1 ∙ h'.1) h.2 h'.2 in
    let ends : Some said.end ≡ Some said'.end = ap (λ (s : State). s.end) same in
    let hosts : said.hosts ≡ said'.hosts = ap (λ (s : State). s.hosts) same in
    let arrivals : said.arrivals ≡ said'.arrivals = ap (λ (s : State). s.arrivals) same in
    let end : said.end ≡ said'.end = cc in
    let made : List HostAddress → List Arrival → ℕ → Contents = λ hosts arrivals end. record { hosts = hosts; arrivals = arrivals; end = end } in
    ap (λ x. made x said.arrivals said.end) hosts ∙ ap (λ x. made said'.hosts x said.end) arrivals ∙ ap (λ x. made said'.hosts said'.arrivals x) end

-- a scenario has no wrong line
pub scenario_not_wrong : (text : List ℕ) (said : Contents) (number : ℕ) → IsScenario text said → IsFirstWrong text number → ⊥
scenario_not_wrong text said number h w =
    never_both w.0 h.0 w.1 nothing_read w.2 _ said.end (sym w.3 ∙ h.1) w.4 h.2 w.6 refl

-- so what is answered, where it is right, is all that can be
pub gives_scenario : (text : List ℕ) (r : Result Scenario ScenarioFault) → IfOk r (λ s. IsScenario text (contents_of s))
    → ((number : ℕ) → r ≡ Err (fault.Line number) → IsFirstWrong text number) → (said : Contents) → IsScenario text said → GivesScenario said r
gives_scenario text (Ok s) read wrong said h = scenario_once text (contents_of s) said read h
gives_scenario text (Err (fault.Line number)) read wrong said h = scenario_not_wrong text said number h (wrong number refl)
gives_scenario text (Err fault.NoMemory) read wrong said h = tt

pub gives_line : (text : List ℕ) (r : Result Scenario ScenarioFault) → IfOk r (λ s. IsScenario text (contents_of s))
    → ((number : ℕ) → r ≡ Err (fault.Line number) → IsFirstWrong text number) → (first : ℕ) → IsFirstWrong text first → GivesLine first r
gives_line text (Ok s) read wrong first h = scenario_not_wrong text (contents_of s) first read h
gives_line text (Err (fault.Line number)) read wrong first h = wrong_once text number first (wrong number refl) h
gives_line text (Err fault.NoMemory) read wrong first h = tt
