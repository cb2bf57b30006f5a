-- A text is walked in one way: it has one list of tokens, or one first fault.
use Rattle.std.proofs.Common.{◌≡◌, ◌⊎◌, ℕ, zero, suc, ◌+◌, ◌-◌, ◌<◌, ◌≤◌, Bool, List, [], ◌∷◌, ◌++◌, length, drop, refl, sym, ap, ◌∙◌, arith, Result, Ok, Err, inl, inr, length-append, length-drop}
use Rattle.std.specs.Prelude.{IfOk, IfErr, MatchResult}
use Rattle.pv_values.specs.declared.refusal.Place.{Place}
use Rattle.std.proofs.lemmas.Bool.{cases_lt}
use Rattle.sip_words.proofs.Pieces.{behind}
use Rattle.pv_values.specs.declared.refusal.ScriptFault.{ScriptFault}
use Rattle.pv_values.specs.declared.refusal.ScriptFault.TheVariants.{NoMemory, Refused}
use Rattle.cfg_tree.specs.declared.token.Token.{Token}
use Rattle.cfg_tree.specs.declared.token.Lexeme.{Lexeme}
use Rattle.cfg_tree.specs.declared.setting.Listen.{Listen}
use Rattle.cfg_lex.specs.declared.context.TokenContext.{TokenContext}
use Rattle.cfg_lex.specs.declared.context.TokenContext.TheVariants.{Plain}
use Rattle.cfg_lex.specs.declared.shape.Found.{Found}
use Rattle.cfg_lex.specs.declared.shape.Found.TheVariants as found
use Rattle.cfg_lex.specs.declared.shape.Wrong.{Wrong}
use Rattle.cfg_lex.specs.Contexts as contexts
use Rattle.cfg_lex.specs.Shapes.{found_at, lexeme_of, begins_line, refused}
use Rattle.cfg_lex.specs.Tokens.{IsBlankOrComment, blank, hash, slashes, bracketed, IsNamed, IsOrdinary, name, word, long_mark, short_mark, number, string, variable, IsListen, NoSpecial, IsToken, block_name, listen, ordinary, IsFault, place_between, HasTokens, at_the_end, gap, token, FirstFault, here, behind_gap, behind_token, longest, TokensOf, FaultOf, too_long, inside, IsFaultOf}
use Rattle.cfg_lex.specs.Tokens as tokens_of
use Rattle.cfg_lex.proofs.FoundLaw.{gap_found, token_found, fault_found}
use Rattle.cfg_lex.proofs.OrdinaryLaw.{fault_again}

abbrev Answer : Type 0
Answer = Result (List Token) ScriptFault

abbrev tokens : List Token → Answer
tokens ts = Ok ts

abbrev fault : ScriptFault → Answer
fault f = Err f

abbrev made : Lexeme → ℕ → ℕ → Token
made x i n = record { lexeme = x; at = place_between i (i + n) }

abbrev in_front : Token → Answer → Answer
in_front t (Ok ts) = Ok (t ∷ ts)
in_front t (Err f) = Err f

-- the answer after what is found at the place i
abbrev behind_found : (ℕ → TokenContext → Answer) → List ℕ → ℕ → TokenContext → Result Found Wrong → Answer
behind_found more text i context (Ok (found.Gap n)) = more (i + n) context
behind_found more text i context (Ok (found.Token s n)) =
    in_front (made (lexeme_of (drop i text) s n) i n) (more (i + n) (contexts.behind context (lexeme_of (drop i text) s n)))
behind_found more text i context (Err w) = Err (refused i (length text) w)

abbrev at_place : (ℕ → TokenContext → Answer) → List ℕ → ℕ → TokenContext → List ℕ → Answer
at_place more text i context [] = Ok []
at_place more text i context (c ∷ cs) = behind_found more text i context (found_at (begins_line text i) context (c ∷ cs))

-- the answer from the place i on, by at most so many steps
unfoldable walk : ℕ → List ℕ → ℕ → TokenContext → Answer
walk zero text i context = Err NoMemory
walk (suc n) text i context = at_place (walk n text) text i context (drop i text)

walk_end : (n : ℕ) (text : List ℕ) (i : ℕ) (context : TokenContext) → drop i text ≡ [] → walk (suc n) text i context ≡ tokens []
unfolding walk
walk_end n text i context h = rw h refl

at_some : (more : ℕ → TokenContext → Answer) (text : List ℕ) (i : ℕ) (context : TokenContext) (xs : List ℕ) (r : Result Found Wrong) → 0 < length xs →
    found_at (begins_line text i) context xs ≡ r → at_place more text i context xs ≡ behind_found more text i context r
at_some more text i context [] r some h = absurd (omega arith)
at_some more text i context (c ∷ cs) r some h = ap (behind_found more text i context) h

walk_found : (n : ℕ) (text : List ℕ) (i : ℕ) (context : TokenContext) (xs : List ℕ) (r : Result Found Wrong) → drop i text ≡ xs → 0 < length xs →
    found_at (begins_line text i) context xs ≡ r → walk (suc n) text i context ≡ behind_found (walk n text) text i context r
unfolding walk
walk_found n text i context xs r e some h = ap (at_place (walk n text) text i context) e ∙ at_some (walk n text) text i context xs r some h

-- ---- each step has a byte

pub gap_some : (fresh : Bool) (w rest : List ℕ) → IsBlankOrComment fresh w rest → 0 < length w
gap_some _ _ _ (blank fresh b rest h) = omega arith
gap_some _ _ _ (hash fresh w rest is lacks) = omega arith
gap_some _ _ _ (slashes fresh w rest is) = omega arith
gap_some _ _ _ (bracketed fresh w rest none) = omega arith

named_some : (w rest : List ℕ) → IsNamed w rest → 0 < length w
named_some [] rest is = elim is [ ]
named_some (b ∷ w) rest is = omega arith

ordinary_some : (w rest : List ℕ) (x : Lexeme) → IsOrdinary w rest x → 0 < length w
ordinary_some _ _ _ (name w rest is e) = named_some w rest is
ordinary_some _ _ _ (word w rest k is e) = named_some w rest is
ordinary_some _ _ _ (long_mark a b rest m h) = omega arith
ordinary_some _ _ _ (short_mark a rest m h whole) = omega arith
ordinary_some _ _ _ (number w rest d low) = d.0
ordinary_some _ _ _ (string q ps rest is all known) = omega arith
ordinary_some _ _ _ (variable w rest v h) = omega arith

listen_some : (w rest : List ℕ) (l : Listen) → IsListen w rest l → 0 < length w
listen_some w rest l is = let e = ap length is.whole in omega (arith, e)

pub token_some : (context : TokenContext) (w rest : List ℕ) (x : Lexeme) → IsToken context w rest x → 0 < length w
token_some _ _ _ _ (block_name w rest some is) = some
token_some _ _ _ _ (listen w rest l is) = listen_some w rest l is
token_some _ _ _ _ (ordinary context w rest x none is) = ordinary_some w rest x is

-- a walk goes on after a gap, and after a token
walk_gap : (n : ℕ) (text : List ℕ) (i : ℕ) (context : TokenContext) (w rest : List ℕ) → drop i text ≡ w ++ rest → IsBlankOrComment (begins_line text i) w rest →
    walk (suc n) text i context ≡ walk n text (i + length w) context
walk_gap n text i context w rest e g =
    walk_found n text i context (w ++ rest) _ e (omega (arith, gap_some _ w rest g, length-append w rest)) (gap_found (begins_line text i) context w rest g)

walk_token : (n : ℕ) (text : List ℕ) (i : ℕ) (context : TokenContext) (w rest : List ℕ) (x : Lexeme) → drop i text ≡ w ++ rest → IsToken context w rest x →
    walk (suc n) text i context ≡ in_front (made x i (length w)) (walk n text (i + length w) (contexts.behind context x))
walk_token n text i context w rest x e is =
    let r = token_found (begins_line text i) context w rest x is in
    let same : lexeme_of (drop i text) r.shape (length w) ≡ x = ap (λ (xs : List ℕ). lexeme_of xs r.shape (length w)) e ∙ r.lexeme in
    walk_found n text i context (w ++ rest) _ e (omega (arith, token_some context w rest x is, length-append w rest)) r.read
    ∙ ap (λ (y : Lexeme). in_front (made y i (length w)) (walk n text (i + length w) (contexts.behind context y))) same

pub left : (text : List ℕ) (i : ℕ) (w rest : List ℕ) → drop i text ≡ w ++ rest → length (drop i text) ≡ length w + length (drop (i + length w) text)
left text i w rest e = let b = behind text i w rest e in ap length e ∙ length-append w rest ∙ ap (λ (xs : List ℕ). length w + length xs) (sym b)

one_less : (n : ℕ) (text : List ℕ) (i : ℕ) (context : TokenContext) → 0 < n → walk n text i context ≡ walk (suc (n - 1)) text i context
one_less n text i context h = ap (λ k. walk k text i context) (omega arith)

walk_tokens : (text : List ℕ) (i : ℕ) (context : TokenContext) (ts : List Token) → HasTokens text i context ts → (n : ℕ) → length (drop i text) < n →
    walk n text i context ≡ tokens ts
walk_tokens _ _ _ _ (at_the_end text i context h) n lt = one_less n text i context (omega arith) ∙ walk_end (n - 1) text i context h
walk_tokens _ _ _ _ (gap text i context w rest ts e g more) n lt =
    let l = left text i w rest e in
    let some = gap_some _ w rest g in
    one_less n text i context (omega arith) ∙ walk_gap (n - 1) text i context w rest e g
    ∙ walk_tokens text (i + length w) context ts more (n - 1) (omega (arith, l, some, lt))
walk_tokens _ _ _ _ (token text i context w rest x ts e is more) n lt =
    let l = left text i w rest e in
    let some = token_some context w rest x is in
    one_less n text i context (omega arith) ∙ walk_token (n - 1) text i context w rest x e is
    ∙ ap (in_front (made x i (length w))) (walk_tokens text (i + length w) (contexts.behind context x) ts more (n - 1) (omega (arith, l, some, lt)))

-- ---- faults

open_some : (q : ℕ) (a b text : List ℕ) → (text ≡ q ∷ a) ⊎ (text ≡ q ∷ b) → 0 < length text
open_some q a b text whole = elim whole [
  | inl e ↦ let n = ap length e in omega (arith, n)
  | inr e ↦ let n = ap length e in omega (arith, n)
]

fault_some : (fresh : Bool) (text : List ℕ) (kind from to : ℕ) → IsFault fresh text kind from to → 0 < length text
fault_some _ _ _ _ _ (tokens_of.open_string fresh q ps text is all whole) = open_some q _ _ text whole
fault_some _ _ _ _ _ (tokens_of.open_comment fresh w none) = omega arith
fault_some _ _ _ _ _ (tokens_of.open_variable fresh w h t) = omega arith
fault_some _ _ _ _ _ (tokens_of.bad_escape fresh q ps more b rest is all known lacks) = omega arith
fault_some _ _ _ _ _ (tokens_of.large_number fresh w rest d high) = let n = d.0 in omega (arith, n, length-append w rest)
fault_some _ _ _ _ _ (tokens_of.stray_hash fresh w h) = omega arith
fault_some _ _ _ _ _ (tokens_of.stray_dollar fresh w h f) = omega arith
fault_some _ _ _ _ _ (tokens_of.stray_byte fresh b rest is) = omega arith

walk_fault : (text : List ℕ) (i : ℕ) (context : TokenContext) (f : ScriptFault) → FirstFault text i context f → (n : ℕ) → length (drop i text) < n →
    walk n text i context ≡ fault f
walk_fault _ _ _ _ (here text i context w kind from to e none is) n lt =
    let r = fault_again (begins_line text i) w kind from to is in
    let some = fault_some (begins_line text i) w kind from to is in
    let len : length text ≡ i + length w = whole_len text i w e some in
    one_less n text i context (omega arith)
    ∙ walk_found (n - 1) text i context w _ e some (fault_found (begins_line text i) context w r.wrong none r.read)
    ∙ ap (λ k. fault (refused i k r.wrong)) len ∙ ap fault (r.placed i)
  where
    whole_len : (text : List ℕ) (i : ℕ) (w : List ℕ) → drop i text ≡ w → 0 < length w → length text ≡ i + length w
    whole_len text i w e some = omega (arith, ap length e, length-drop i text)
walk_fault _ _ _ _ (behind_gap text i context w rest f e g more) n lt =
    let l = left text i w rest e in
    let some = gap_some _ w rest g in
    one_less n text i context (omega arith) ∙ walk_gap (n - 1) text i context w rest e g
    ∙ walk_fault text (i + length w) context f more (n - 1) (omega (arith, l, some, lt))
walk_fault _ _ _ _ (behind_token text i context w rest x f e is more) n lt =
    let l = left text i w rest e in
    let some = token_some context w rest x is in
    one_less n text i context (omega arith) ∙ walk_token (n - 1) text i context w rest x e is
    ∙ ap (in_front (made x i (length w))) (walk_fault text (i + length w) (contexts.behind context x) f more (n - 1) (omega (arith, l, some, lt)))

-- ---- the text has one answer

-- the answer of a text that isn't too long
abbrev whole : List ℕ → Answer
whole text = walk (suc (length text)) text 0 Plain

first_len : (text : List ℕ) → length (drop 0 text) < suc (length text)
first_len text = omega arith

ok_same : (a b : List Token) → tokens a ≡ tokens b → a ≡ b
ok_same a b e = cc

pub one_list : (text : List ℕ) (ts us : List Token) → TokensOf text ts → TokensOf text us → ts ≡ us
one_list text ts us a b = ok_same ts us
    (sym (walk_tokens text 0 Plain ts a.tokens (suc (length text)) (first_len text)) ∙ walk_tokens text 0 Plain us b.tokens (suc (length text)) (first_len text))

no_both : (ts : List Token) (f : ScriptFault) → tokens ts ≡ fault f → ⊥
no_both ts f e = absurd (cc)

pub not_both : (text : List ℕ) (ts : List Token) (f : ScriptFault) → TokensOf text ts → FaultOf text f → ⊥
not_both _ ts _ a (too_long text long) = omega (arith, long, a.short)
not_both _ ts _ a (inside text f short h) = no_both ts f
    (sym (walk_tokens text 0 Plain ts a.tokens (suc (length text)) (first_len text)) ∙ walk_fault text 0 Plain f h (suc (length text)) (first_len text))

fault_same : (f g : ScriptFault) → fault f ≡ fault g → f ≡ g
fault_same f g e = cc

-- which of the two it is
data Cause : List ℕ → ScriptFault → Type 0 where
  long : (text : List ℕ) → longest < length text → Cause text (Refused 13 (place_between longest (length text)))
  fits : (text : List ℕ) (f : ScriptFault) → length text ≤ longest → walk (suc (length text)) text 0 Plain ≡ fault f → Cause text f

cause : (text : List ℕ) (f : ScriptFault) → FaultOf text f → Cause text f
cause _ _ (too_long text h) = long text h
cause _ _ (inside text f short h) = fits text f short (walk_fault text 0 Plain f h (suc (length text)) (first_len text))

is_fault : (text : List ℕ) (f : ScriptFault) → Cause text f → (length text ≤ longest → whole text ≡ fault f) × (longest < length text → f ≡ Refused 13 (place_between longest (length text)))
is_fault _ _ (long text h) = (λ short. absurd (omega (arith, short, h)), λ more. refl)
is_fault _ _ (fits text f short h) = (λ less. h, λ more. absurd (omega (arith, short, more)))

pub one_fault : (text : List ℕ) (f g : ScriptFault) → FaultOf text f → FaultOf text g → f ≡ g
one_fault text f g a b =
    let p = is_fault text f (cause text f a) in
    let q = is_fault text g (cause text g b) in
    elim (cases_lt longest (length text)) [
      | inl lt ↦ p.1 lt ∙ sym (q.1 lt)
      | inr le ↦ fault_same f g (sym (p.0 le) ∙ q.0 le)
    ]

-- what is answered, where an answer is the text's tokens or its first fault
pub whole_of : {V : Type 0} (text : List ℕ) (ts : List Token) (r : Result V ScriptFault) (items : V → List Token) → IfOk r (λ v. TokensOf text (items v)) →
    IfErr r (IsFaultOf text) → TokensOf text ts → MatchResult r (λ v. items v ≡ ts) (λ e. e ≡ NoMemory)
whole_of text ts (Ok v) items found fault h = one_list text (items v) ts found h
whole_of text ts (Err (Refused kind at)) items found fault h = absurd (not_both text ts (Refused kind at) h fault)
whole_of text ts (Err NoMemory) items found fault h = refl

pub refused_of : {V : Type 0} (text : List ℕ) (kind : ℕ) (at : Place) (r : Result V ScriptFault) (items : V → List Token) → IfOk r (λ v. TokensOf text (items v)) →
    IfErr r (IsFaultOf text) → FaultOf text (Refused kind at) → MatchResult r (λ _. ⊥) (λ e. (e ≡ Refused kind at) ⊎ (e ≡ NoMemory))
refused_of text kind at (Ok v) items found fault h = not_both text (items v) (Refused kind at) found h
refused_of text kind at (Err (Refused k p)) items found fault h = inl (one_fault text (Refused k p) (Refused kind at) fault h)
refused_of text kind at (Err NoMemory) items found fault h = inr refl
