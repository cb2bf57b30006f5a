-- The loop over the tokens of a text.
use Rattle.std.proofs.Common.{◌≡◌, ℕ, ◌+◌, ◌-◌, ◌<◌, ◌≤◌, Bool, List, [], ◌∷◌, ◌++◌, length, take, drop, refl, sym, subst, ap, ◌∙◌, arith, Result, Ok, Err, append_assoc, length-drop}
use Rattle.std.proofs.lemmas.List.{take_rest, take-append-drop, length-take-le, append-nil, drop_all}
use Rattle.pv_values.specs.declared.refusal.ScriptFault.{ScriptFault}
use Rattle.pv_values.specs.declared.refusal.ScriptFault.TheVariants.{Refused, NoMemory}
use Rattle.cfg_tree.specs.declared.token.Token.{Token}
use Rattle.cfg_tree.specs.declared.token.Lexeme.{Lexeme}
use Rattle.cfg_lex.specs.declared.context.TokenContext.{TokenContext}
use Rattle.cfg_lex.specs.declared.context.TokenContext.TheVariants.{Plain}
use Rattle.cfg_lex.specs.declared.shape.TokenShape.{TokenShape}
use Rattle.cfg_lex.specs.declared.shape.Found.{Found}
use Rattle.cfg_lex.specs.declared.shape.Found.TheVariants as found
use Rattle.cfg_lex.specs.declared.shape.Wrong.{Wrong}
use Rattle.cfg_lex.specs.declared.shape.Wrong.TheVariants.{BadByte, Unclosed}
use Rattle.cfg_lex.specs.Contexts as contexts
use Rattle.cfg_lex.specs.Shapes.{found_at, lexeme_of, begins_line, refused}
use Rattle.cfg_lex.specs.Tokens.{IsToken, place_between, HasTokens, at_the_end, gap, token, FirstFault, here, behind_gap, behind_token, longest, TokensOf, FaultOf, inside, IsFaultOf}
use Rattle.cfg_lex.proofs.FoundLaw.{Finds, found_finds}

-- what was read before is the front of the text's tokens, and no fault stands before this place
pub record Seen (text : List ℕ) (i : ℕ) (context : TokenContext) (front : List Token) : Type 0 where
  pub short : length text ≤ longest
  pub within : i ≤ length text
  pub tokens : (ts : List Token) → HasTokens text i context ts → HasTokens text 0 Plain (front ++ ts)
  pub fault : (f : ScriptFault) → FirstFault text i context f → FirstFault text 0 Plain f

pub seen_first : (text : List ℕ) → length text ≤ longest → Seen text 0 Plain []
seen_first text short = record { short = short; within = omega arith; tokens = λ ts h. h; fault = λ f h. h }

-- what the code reads at this place
abbrev pub Read : List ℕ → ℕ → TokenContext → Result Found Wrong → Type 0
Read text i context r = r ≡ found_at (begins_line text i) context (take (length text - i) (drop i text))

read_here : (text : List ℕ) (i : ℕ) (context : TokenContext) (r : Result Found Wrong) → Read text i context r → found_at (begins_line text i) context (drop i text) ≡ r
read_here text i context r h = let k = rw take_rest at h in sym k

finds_here : (text : List ℕ) (i : ℕ) (context : TokenContext) (r : Result Found Wrong) → i < length text → Read text i context r →
    Finds (begins_line text i) context (drop i text) r
finds_here text i context r lt h =
    subst (λ q. Finds (begins_line text i) context (drop i text) q) (read_here text i context r h)
    (found_finds (begins_line text i) context (drop i text) (omega (arith, length-drop i text)))

pub seen_gap : (text : List ℕ) (i : ℕ) (context : TokenContext) (front : List Token) (n : ℕ) → Seen text i context front → i < length text →
    Read text i context (Ok (found.Gap n)) → n ≤ length text - i → Seen text (i + n) context front
seen_gap text i context front n seen lt h le =
    let g = finds_here text i context (Ok (found.Gap n)) lt h in
    let whole : drop i text ≡ take n (drop i text) ++ drop n (drop i text) = sym (take-append-drop n (drop i text)) in
    let len : length (take n (drop i text)) ≡ n = length-take-le n (drop i text) (omega (arith, length-drop i text, le)) in
    record {
      short = seen.short;
      within = omega (arith, le, lt);
      tokens = λ ts more. seen.tokens ts (gap text i context _ _ ts whole g (subst (λ k. HasTokens text (i + k) context ts) (sym len) more));
      fault = λ f more. seen.fault f (behind_gap text i context _ _ f whole g (subst (λ k. FirstFault text (i + k) context f) (sym len) more));
    }

pub seen_token : (text : List ℕ) (i : ℕ) (context next : TokenContext) (front items : List Token) (s : TokenShape) (n : ℕ) (x : Lexeme) →
    Seen text i context front → i < length text → Read text i context (Ok (found.Token s n)) → n ≤ length text - i →
    x ≡ lexeme_of (take (length text - i) (drop i text)) s n → next ≡ contexts.behind context x →
    items ≡ front ++ (record { lexeme = x; at = place_between i (i + n) }) ∷ [] → Seen text (i + n) next items
seen_token text i context next front items s n x seen lt h le is behind added =
    let t = finds_here text i context (Ok (found.Token s n)) lt h in
    let whole : drop i text ≡ take n (drop i text) ++ drop n (drop i text) = sym (take-append-drop n (drop i text)) in
    let len : length (take n (drop i text)) ≡ n = length-take-le n (drop i text) (omega (arith, length-drop i text, le)) in
    let same : lexeme_of (drop i text) s n ≡ x = let k = rw take_rest at is in sym k in
    let is_token : IsToken context (take n (drop i text)) (drop n (drop i text)) x =
    subst (λ y. IsToken context (take n (drop i text)) (drop n (drop i text)) y) same t in
    let at : ℕ → Token = λ k. record { lexeme = x; at = place_between i (i + k) } in
    let all : (ts : List Token) → items ++ ts ≡ front ++ at n ∷ ts = λ ts. ap (λ us. us ++ ts) added ∙ append_assoc front (at n ∷ []) ts in
    record {
      short = seen.short;
      within = omega (arith, le, lt);
      tokens = λ ts more. subst (λ us. HasTokens text 0 Plain us) (sym (all ts)) (seen.tokens (at n ∷ ts)
          (subst (λ k. HasTokens text i context (at k ∷ ts)) len (token text i context _ _ x ts whole is_token
          (subst (λ c. HasTokens text (i + length (take n (drop i text))) c ts) behind (subst (λ k. HasTokens text (i + k) next ts) (sym len) more)))));
      fault = λ f more. seen.fault f (behind_token text i context _ _ x f whole is_token
          (subst (λ c. FirstFault text (i + length (take n (drop i text))) c f) behind (subst (λ k. FirstFault text (i + k) next f) (sym len) more)));
    }

pub seen_end : (text : List ℕ) (i : ℕ) (context : TokenContext) (front : List Token) → Seen text i context front → length text ≤ i → TokensOf text front
seen_end text i context front seen le = record {
  short = seen.short;
  tokens = subst (λ us. HasTokens text 0 Plain us) (append-nil front) (seen.tokens [] (at_the_end text i context (drop_all i text le)));
}

abbrev fault_at : ℕ → ℕ → ℕ → ℕ → ScriptFault
fault_at kind i from to = Refused kind (place_between (i + from) (i + to))

fault_here : (text : List ℕ) (i : ℕ) (context : TokenContext) (w : Wrong) → i ≤ length text → Finds (begins_line text i) context (drop i text) (Err w) →
    FirstFault text i context (refused i (length text) w)
fault_here text i context (BadByte from to) le h = here text i context (drop i text) 1 from to refl h.0 h.1
fault_here text i context Unclosed le h =
    let p = here text i context (drop i text) 2 0 (length (drop i text)) refl h.0 h.1 in
    let from : i + 0 ≡ i = omega arith in
    let to : i + length (drop i text) ≡ length text = omega (arith, length-drop i text, le) in
    subst (λ k. FirstFault text i context (Refused 2 (place_between i k))) to (subst (λ k. FirstFault text i context (Refused 2 (place_between k (i + length (drop i text))))) from p)

pub seen_fault : (text : List ℕ) (i : ℕ) (context : TokenContext) (front : List Token) (w : Wrong) (f : ScriptFault) → Seen text i context front → i < length text →
    Read text i context (Err w) → f ≡ refused i (length text) w → FaultOf text f
seen_fault text i context front w f seen lt h is =
    let g = finds_here text i context (Err w) lt h in
    inside text f seen.short (seen.fault f (subst (λ e. FirstFault text i context e) (sym is) (fault_here text i context w seen.within g)))

pub fault_of : (text : List ℕ) (f : ScriptFault) → FaultOf text f → IsFaultOf text f
fault_of text f h = by_cases f h
  where
    by_cases : (f : ScriptFault) → FaultOf text f → IsFaultOf text f
    by_cases (Refused kind at) h = h
    by_cases NoMemory h = tt

pub as_read : (text : List ℕ) (i : ℕ) (context : TokenContext) (fresh : Bool) (r : Result Found Wrong) → fresh ≡ begins_line text i →
    r ≡ found_at fresh context (take (length text - i) (drop i text)) → Read text i context r
as_read text i context fresh r e h = subst (λ b. r ≡ found_at b context (take (length text - i) (drop i text))) e h

pub rest_len : (text : List ℕ) (i : ℕ) → length (take (length text - i) (drop i text)) ≡ length text - i
rest_len text i = rw take_rest (length-drop i text)
