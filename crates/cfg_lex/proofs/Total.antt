-- Each text has tokens, or a first fault.
use Rattle.std.proofs.Common.{◌≡◌, ◌⊎◌, ℕ, zero, suc, ◌+◌, ◌<◌, List, [], ◌∷◌, ◌++◌, length, take, drop, refl, sym, ap, ◌∙◌, inl, inr, arith, Result, Ok, Err}
use Rattle.std.proofs.lemmas.Bool.{cases_lt}
use Rattle.std.proofs.lemmas.List.{take-append-drop}
use Rattle.pv_values.specs.declared.refusal.Place.{Place}
use Rattle.pv_values.specs.declared.refusal.ScriptFault.TheVariants.{Refused}
use Rattle.cfg_tree.specs.declared.token.Token.{Token}
use Rattle.cfg_tree.specs.declared.token.Lexeme.{Lexeme}
use Rattle.cfg_lex.specs.declared.context.TokenContext.{TokenContext}
use Rattle.cfg_lex.specs.declared.context.TokenContext.TheVariants.{Plain}
use Rattle.cfg_lex.specs.declared.shape.Found.{Found}
use Rattle.cfg_lex.specs.declared.shape.Found.TheVariants as found
use Rattle.cfg_lex.specs.declared.shape.Wrong.{Wrong}
use Rattle.cfg_lex.specs.declared.shape.Wrong.TheVariants.{BadByte, Unclosed}
use Rattle.cfg_lex.specs.Contexts as contexts
use Rattle.cfg_lex.specs.Shapes.{lexeme_of, begins_line}
use Rattle.cfg_lex.specs.Tokens.{IsBlankOrComment, NoSpecial, IsToken, IsFault, place_between, HasTokens, at_the_end, gap, token, FirstFault, here, behind_gap, behind_token, longest, TokensOf, FaultOf, too_long, inside}
use Rattle.cfg_lex.proofs.FoundLaw.{Finds, found_finds}
use Rattle.cfg_lex.proofs.Walk.{gap_some, token_some, left}

-- from the place i on there are tokens, or a fault
data Ends : List ℕ → ℕ → TokenContext → Type 0 where
  well : (text : List ℕ) (i : ℕ) (context : TokenContext) (ts : List Token) → HasTokens text i context ts → Ends text i context
  ill : (text : List ℕ) (i : ℕ) (context : TokenContext) (kind : ℕ) (at : Place) → FirstFault text i context (Refused kind at) → Ends text i context

fault_ends : (text : List ℕ) (i : ℕ) (context : TokenContext) (xs : List ℕ) (kind from to : ℕ) → drop i text ≡ xs →
    NoSpecial context xs × IsFault (begins_line text i) xs kind from to → Ends text i context
fault_ends text i context xs kind from to e h = ill text i context kind (place_between (i + from) (i + to)) (here text i context xs kind from to e h.0 h.1)

gap_ends : (text : List ℕ) (i : ℕ) (context : TokenContext) (w rest : List ℕ) → drop i text ≡ w ++ rest → IsBlankOrComment (begins_line text i) w rest →
    Ends text (i + length w) context → Ends text i context
gap_ends text i context w rest e g (well _ _ _ ts h) = well text i context ts (gap text i context w rest ts e g h)
gap_ends text i context w rest e g (ill _ _ _ kind at h) = ill text i context kind at (behind_gap text i context w rest (Refused kind at) e g h)

token_ends : (text : List ℕ) (i : ℕ) (context : TokenContext) (w rest : List ℕ) (x : Lexeme) → drop i text ≡ w ++ rest → IsToken context w rest x →
    Ends text (i + length w) (contexts.behind context x) → Ends text i context
token_ends text i context w rest x e is (well _ _ _ ts h) = well text i context _ (token text i context w rest x ts e is h)
token_ends text i context w rest x e is (ill _ _ _ kind at h) = ill text i context kind at (behind_token text i context w rest x (Refused kind at) e is h)

-- by what is found at the place
found_ends : (text : List ℕ) (i : ℕ) (context : TokenContext) (xs : List ℕ) (r : Result Found Wrong) → drop i text ≡ xs → Finds (begins_line text i) context xs r →
    ((j : ℕ) (c : TokenContext) → length (drop j text) < length xs → Ends text j c) → Ends text i context
found_ends text i context xs (Ok (found.Gap n)) e h more =
    let whole : drop i text ≡ take n xs ++ drop n xs = e ∙ sym (take-append-drop n xs) in
    let l = left text i (take n xs) (drop n xs) whole in
    let some = gap_some _ _ _ h in
    let len = ap length e in
    gap_ends text i context (take n xs) (drop n xs) whole h (more (i + length (take n xs)) context (omega (arith, l, some, len)))
found_ends text i context xs (Ok (found.Token s n)) e h more =
    let whole : drop i text ≡ take n xs ++ drop n xs = e ∙ sym (take-append-drop n xs) in
    let l = left text i (take n xs) (drop n xs) whole in
    let some = token_some context _ _ _ h in
    let len = ap length e in
    token_ends text i context (take n xs) (drop n xs) (lexeme_of xs s n) whole h
    (more (i + length (take n xs)) (contexts.behind context (lexeme_of xs s n)) (omega (arith, l, some, len)))
found_ends text i context xs (Err (BadByte from to)) e h more = fault_ends text i context xs 1 from to e h
found_ends text i context xs (Err Unclosed) e h more = fault_ends text i context xs 2 0 (length xs) e h

place_ends : (text : List ℕ) (i : ℕ) (context : TokenContext) (xs : List ℕ) → drop i text ≡ xs →
    ((j : ℕ) (c : TokenContext) → length (drop j text) < length xs → Ends text j c) → Ends text i context
place_ends text i context [] e more = well text i context [] (at_the_end text i context e)
place_ends text i context (c ∷ cs) e more =
    found_ends text i context (c ∷ cs) _ e (found_finds (begins_line text i) context (c ∷ cs) (omega arith)) more

ends_from : (n : ℕ) (text : List ℕ) (i : ℕ) (context : TokenContext) → length (drop i text) < n → Ends text i context
ends_from zero text i context lt = absurd (omega arith)
ends_from (suc n) text i context lt =
    place_ends text i context (drop i text) refl (λ j c less. ends_from n text j c (omega (arith, less, lt)))

answer_of : (text : List ℕ) (i : ℕ) (context : TokenContext) → Ends text i context →
    ((ts : List Token) × HasTokens text i context ts) ⊎ ((kind : ℕ) × (at : Place) × FirstFault text i context (Refused kind at))
answer_of _ _ _ (well text i context ts h) = inl (ts, h)
answer_of _ _ _ (ill text i context kind at h) = inr (kind, at, h)

pub some_answer : (text : List ℕ) → ((ts : List Token) × TokensOf text ts) ⊎ ((kind : ℕ) × (at : Place) × FaultOf text (Refused kind at))
some_answer text = elim (cases_lt longest (length text)) [
  | inl lt ↦ inr (13, place_between longest (length text), too_long text lt)
  | inr le ↦ elim (answer_of text 0 Plain (ends_from (suc (length text)) text 0 Plain (omega arith))) [
    | inl a ↦ inl (a.0, record { short = le; tokens = a.1 })
    | inr f ↦ inr (f.0, f.1, inside text (Refused f.0 f.1) le f.2)
  ]
]
