-- The lines of a scenario that were read so far, and what stands after them.
use Rattle.std.proofs.Common.{◌≡◌, ◌≢◌, ℕ, ◌+◌, List, [], ◌∷◌, ◌++◌, length, refl, sym, ap, ◌∙◌, subst, arith, append_assoc, append-nil, length-append}
use Rattle.std.specs.Prelude.{Some, None}
use Rattle.std.proofs.lemmas.List.Elements.{All-nil}
use Rattle.sim_text.specs.declared.line.Line.{Line}
use Rattle.sim_text.specs.declared.draft.Draft.{Draft}
use Rattle.sip_words.specs.Splits.{SplitsAt, Lacks}
use Rattle.sim_text.specs.Scenario.{State, IsLine, Takes, Fits, Reads, lines_text, nothing_read, Contents, IsScenario, NothingFits, IsFirstWrong}
use Rattle.sim_text.specs.Draft.{IsDraft, so_far}
use Rattle.numerals.proofs.Addresses.{only_split, not_split}
use Rattle.sim_text.proofs.Lines.{takes_alike}

-- all but the rest was read, line by line, and the number is that of the next line
pub record IsReadTo (text rest : List ℕ) (state : State) (number : ℕ) : Type 0 where
  pub lines : List (List ℕ)
  pub whole : text ≡ lines_text lines ++ rest
  pub reads : Reads lines nothing_read state
  pub count : number ≡ length lines + 1

pub read_nothing : (text : List ℕ) → IsReadTo text text nothing_read 1
read_nothing text = record { lines = []; whole = refl; reads = refl; count = refl }

lines_push : (lines : List (List ℕ)) (line rest : List ℕ) → lines_text (lines ++ line ∷ []) ++ rest ≡ lines_text lines ++ (line ++ 10 ∷ rest)
lines_push [] line rest = append_assoc line (10 ∷ []) rest
lines_push (x ∷ xs) line rest =
    append_assoc x (10 ∷ lines_text (xs ++ line ∷ [])) rest ∙ ap (λ t. x ++ 10 ∷ t) (lines_push xs line rest) ∙ sym (append_assoc x (10 ∷ lines_text xs) (line ++ 10 ∷ rest))

reads_push : (lines : List (List ℕ)) (line : List ℕ) (old state new : State) → Reads lines old state → Lacks 10 line → Fits state line new
    → Reads (lines ++ line ∷ []) old new
reads_push [] line old state new h lacks fits = let P : State → Type 0 = λ s. Fits s line new in (new, lacks, subst P h fits, refl)
reads_push (x ∷ xs) line old state new h lacks fits = (h.0, h.1, h.2, reads_push xs line h.0 state new h.3 lacks fits)

pub read_more : (text rest line more : List ℕ) (state new : State) (number : ℕ) → IsReadTo text rest state number → SplitsAt 10 rest line more
    → Fits state line new → IsReadTo text more new (number + 1)
read_more text rest line more state new number h split fits = record {
  lines = h.lines ++ line ∷ [];
  whole = h.whole ∙ ap (λ t. lines_text h.lines ++ t) split.whole ∙ sym (lines_push h.lines line more);
  reads = reads_push h.lines line nothing_read state new h.reads split.first fits;
  count = omega (arith, h.count, length-append h.lines (line ∷ []));
}

nothing_fits : (state : State) (rest : List ℕ) → (rest ≡ [] → state.end ≡ None)
    → ((line more : List ℕ) (new : State) → Lacks 10 line → rest ≡ line ++ 10 ∷ more → Fits state line new → ⊥) → NothingFits state rest
nothing_fits state [] ended none = ended refl
nothing_fits state (b ∷ bs) ended none = none

empty_not_split : (rest line more : List ℕ) → rest ≡ line ++ 10 ∷ more → rest ≡ [] → ⊥
empty_not_split rest line more e empty = not_split 10 [] line more (All-nil (λ b. b ≢ 10)) (sym empty ∙ e)

-- the next line is none by itself, or may not stand there
pub wrong_at : (text rest line more : List ℕ) (state : State) (number : ℕ) → IsReadTo text rest state number → SplitsAt 10 rest line more
    → ((new : State) → Fits state line new → ⊥) → IsFirstWrong text number
wrong_at text rest line more state number h split none =
    let nothing = nothing_fits state rest (λ empty. absurd (empty_not_split rest line more split.whole empty)) (λ line' more' new lacks e fits.
    let parts = only_split 10 rest line more line' more' split e lacks in
    let P : List ℕ → Type 0 = λ l. Fits state l new in none new (subst P (sym parts.0) fits)) in
    (h.lines, rest, state, h.whole, h.reads, h.count, nothing)

pub no_line : (line : List ℕ) (state new : State) → ((l : Line) → IsLine line l → ⊥) → Fits state line new → ⊥
no_line line state new none fits = none fits.0 fits.1

pub not_taken : (line : List ℕ) (l : Line) (state new : State) → IsLine line l → ((new : State) → Takes state l new → ⊥) → Fits state line new → ⊥
not_taken line l state new is none fits = none new (takes_alike line l fits.0 state new is fits.1 fits.2)

-- no line is left, though the text goes on or no end was read
pub wrong_at_end : (text rest : List ℕ) (state : State) (number : ℕ) → IsReadTo text rest state number → Lacks 10 rest
    → (rest ≡ [] → state.end ≡ None) → IsFirstWrong text number
wrong_at_end text rest state number h lacks ended =
    let nothing = nothing_fits state rest ended (λ line more new l e fits. not_split 10 rest line more lacks e) in
    (h.lines, rest, state, h.whole, h.reads, h.count, nothing)

-- what a draft says with this end
abbrev said_by : Draft → ℕ → Contents
said_by draft end = record { hosts = draft.hosts.items; arrivals = draft.arrivals.items; end = end }

-- the whole text was read, the end too
pub read_whole : (text rest : List ℕ) (draft : Draft) (number end : ℕ) → IsReadTo text rest (so_far draft) number → IsDraft draft → rest ≡ []
    → draft.end ≡ Some end → IsScenario text (said_by draft end)
read_whole text rest draft number end h is empty ended =
    let closed : draft.pending ≡ None = is.after (rw ended refl) in
    let all : text ≡ lines_text h.lines = h.whole ∙ ap (λ t. lines_text h.lines ++ t) empty ∙ append-nil (lines_text h.lines) in
    let P : State → Type 0 = λ s. Reads h.lines nothing_read s in
    let same : so_far draft ≡ record { hosts = draft.hosts.items; arrivals = draft.arrivals.items; end = Some end } =
    rw (closed, ended, append-nil draft.arrivals.items) refl in (h.lines, all, subst P same h.reads)
