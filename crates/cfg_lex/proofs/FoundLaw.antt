-- What stands at a place, in its context: the relation and the reading function agree.
use Rattle.std.proofs.Common.{◌≡◌, ◌≢◌, ℕ, ◌<◌, Bool, true, false, List, [], ◌∷◌, ◌++◌, length, take, drop, ◌==◌, refl, sym, subst, ap, ◌∙◌, inl, inr, arith, Option, Some, None, Result, Ok, Err}
use Rattle.std.specs.Prelude.{codes}
use Rattle.std.specs.List.{prefix_len}
use Rattle.std.proofs.lemmas.Bool.{cases_Bool, cases_eq, ne_eqb, both_ways}
use Rattle.std.proofs.lemmas.List.{take-append-drop, take_at}
use Rattle.std.proofs.lemmas.Option.{none-some}
use Rattle.std.proofs.lemmas.List.Folds.{length-prefix_len}
use Rattle.cfg_tree.specs.declared.token.Lexeme.{Lexeme}
use Rattle.cfg_tree.specs.declared.token.Lexeme.TheVariants as lexeme
use Rattle.cfg_tree.specs.declared.setting.Listen.{Listen}
use Rattle.cfg_lex.specs.declared.context.TokenContext.{TokenContext}
use Rattle.cfg_lex.specs.declared.context.TokenContext.TheVariants.{Plain, BehindListen, BehindRoute, Address, BlockName}
use Rattle.cfg_lex.specs.declared.shape.TokenShape.{TokenShape}
use Rattle.cfg_lex.specs.declared.shape.TokenShape.TheVariants as shape
use Rattle.cfg_lex.specs.declared.shape.Found.{Found}
use Rattle.cfg_lex.specs.declared.shape.Found.TheVariants.{Gap, Token}
use Rattle.cfg_lex.specs.declared.shape.Wrong.{Wrong}
use Rattle.cfg_lex.specs.declared.shape.Wrong.TheVariants.{BadByte, Unclosed}
use Rattle.cfg_lex.specs.Bytes.{is_blank, is_block_byte}
use Rattle.cfg_lex.specs.Listens.{listen_at}
use Rattle.cfg_lex.specs.Shapes.{ordinary_at, found_at, lexeme_of}
use Rattle.cfg_lex.specs.Tokens.{Ends, IsLongestRun, IsBlankOrComment, blank, hash, slashes, bracketed, IsListen, NoSpecial, IsToken, block_name, listen, ordinary, IsFault}
use Rattle.cfg_lex.proofs.ReadLaw.{Reads, token}
use Rattle.cfg_lex.proofs.RunLaw.{run_is, run_taken}
use Rattle.cfg_lex.proofs.EndLaw.{head_is}
use Rattle.cfg_lex.proofs.Bytewise.{none_of}
use Rattle.cfg_lex.proofs.GapLaw.{gap_again}
use Rattle.cfg_lex.proofs.ListenLaw.{listen_again, listen_takes}
use Rattle.cfg_lex.proofs.OrdinaryLaw.{ordinary_reads, token_again}

-- ---- where nothing special stands, what is ordinary is read

none_run : (p : ℕ → Bool) (text : List ℕ) → Ends p text → prefix_len p text ≡ 0
none_run p [] h = refl
none_run p (b ∷ text) h = rw h refl

run_none : (p : ℕ → Bool) (text : List ℕ) → prefix_len p text ≡ 0 → Ends p text
run_none p [] h = tt
run_none p (b ∷ text) h = elim (cases_Bool (p b)) [ inl t ↦ let e = rw t at h in absurd (omega (arith, e)) | inr f ↦ f ]

no_block : (fresh : Bool) (text : List ℕ) → prefix_len is_block_byte text ≡ 0 → found_at fresh BlockName text ≡ ordinary_at fresh text
unfolding found_at
no_block fresh text h = rw h refl

no_listen : (fresh : Bool) (text : List ℕ) → listen_at text ≡ None → found_at fresh Address text ≡ ordinary_at fresh text
unfolding found_at
no_listen fresh text h = rw h refl

nothing_listens : (text : List ℕ) → NoSpecial Address text → listen_at text ≡ None
nothing_listens text none = by_cases (listen_at text) refl
  where
    by_cases : (o : Option (Listen × ℕ)) → listen_at text ≡ o → o ≡ None
    by_cases None e = refl
    by_cases (Some r) e = absurd (none (take r.1 text) (drop r.1 text) r.0 (sym (take-append-drop r.1 text)) (listen_takes text r e))

none_special : (fresh : Bool) (context : TokenContext) (text : List ℕ) → NoSpecial context text → found_at fresh context text ≡ ordinary_at fresh text
unfolding found_at
none_special fresh Plain text none = refl
none_special fresh BehindListen text none = refl
none_special fresh BehindRoute text none = refl
none_special fresh Address text none = no_listen fresh text (nothing_listens text none)
none_special fresh BlockName text none = no_block fresh text (none_run is_block_byte text none)

-- ---- what parts tokens is neither LISTEN nor a block's name

listen_first : (b : ℕ) (xs w rest : List ℕ) (l : Listen) → b ∷ xs ≡ w ++ rest → IsListen w rest l → b ≡ 117
listen_first b xs w rest l e is = head_is b 117 xs _ (e ∙ ap (λ (ws : List ℕ). ws ++ rest) is.whole)

not_special : (context : TokenContext) (b : ℕ) (xs : List ℕ) → is_block_byte b ≡ false → b ≢ 117 → NoSpecial context (b ∷ xs)
not_special Plain b xs lacks other = tt
not_special BehindListen b xs lacks other = tt
not_special BehindRoute b xs lacks other = tt
not_special BlockName b xs lacks other = lacks
not_special Address b xs lacks other = λ w rest l e is. other (listen_first b xs w rest l e is)

blank_lacks : (b : ℕ) → is_blank b ≡ true → is_block_byte b ≡ false
blank_lacks b h = elim (cases_Bool (is_block_byte b)) [
  | inl t ↦ absurd (both_ways (is_blank b) (none_of is_block_byte b (codes " \t\r\n") t refl) h)
  | inr f ↦ f
]

blank_no_u : (b : ℕ) → is_blank b ≡ true → b ≢ 117
blank_no_u b h = λ e. let P : ℕ → Type 0 = λ n. is_blank n ≡ true in both_ways (is_blank 117) refl (subst P e h)

gap_special : (fresh : Bool) (context : TokenContext) (w rest : List ℕ) → IsBlankOrComment fresh w rest → NoSpecial context (w ++ rest)
gap_special fresh context _ _ (blank _ b rest h) = not_special context b rest (blank_lacks b h) (blank_no_u b h)
gap_special fresh context _ _ (hash _ w rest is lacks) = not_special context 35 (w ++ rest) refl (λ e. omega (arith, e))
gap_special fresh context _ _ (slashes _ w rest is) = not_special context 47 (47 ∷ w ++ rest) refl (λ e. omega (arith, e))
gap_special fresh context _ _ (bracketed _ w rest none) = not_special context 47 (42 ∷ ((w ++ 42 ∷ 47 ∷ []) ++ rest)) refl (λ e. omega (arith, e))

-- ---- from the relation

pub gap_found : (fresh : Bool) (context : TokenContext) (w rest : List ℕ) → IsBlankOrComment fresh w rest → found_at fresh context (w ++ rest) ≡ Ok (Gap (length w))
gap_found fresh context w rest g = none_special fresh context (w ++ rest) (gap_special fresh context w rest g) ∙ gap_again fresh w rest g

-- in this context a token of this shape is read, w long
pub record FindsToken (fresh : Bool) (context : TokenContext) (text w : List ℕ) (x : Lexeme) : Type 0 where
  pub shape : TokenShape
  pub read : found_at fresh context text ≡ token shape (length w)
  pub lexeme : lexeme_of text shape (length w) ≡ x

block_read : (fresh : Bool) (w rest : List ℕ) → 0 < length w → IsLongestRun is_block_byte w rest → found_at fresh BlockName (w ++ rest) ≡ token shape.BlockName (length w)
unfolding found_at
block_read fresh w rest some is =
    let n = run_is is_block_byte w rest is in
    let f : (length w == 0) ≡ false = ne_eqb (length w) 0 (λ e. omega (arith, e, some)) in
    rw (n, f) refl

block_text : (w rest : List ℕ) → lexeme_of (w ++ rest) shape.BlockName (length w) ≡ lexeme.BlockName w
unfolding lexeme_of
block_text w rest = ap (λ (xs : List ℕ). lexeme.BlockName xs) (take_at w rest (length w) refl)

listen_read : (fresh : Bool) (text : List ℕ) (l : Listen) (n : ℕ) → listen_at text ≡ Some (l, n) → found_at fresh Address text ≡ token (shape.Listen l) n
unfolding found_at
listen_read fresh text l n e = rw e refl

listen_text : (text : List ℕ) (l : Listen) (n : ℕ) → lexeme_of text (shape.Listen l) n ≡ lexeme.Listen l
unfolding lexeme_of
listen_text text l n = refl

pub token_found : (fresh : Bool) (context : TokenContext) (w rest : List ℕ) (x : Lexeme) → IsToken context w rest x → FindsToken fresh context (w ++ rest) w x
token_found fresh _ _ _ _ (block_name w rest some is) = record { shape = shape.BlockName; read = block_read fresh w rest some is; lexeme = block_text w rest }
token_found fresh _ _ _ _ (listen w rest l is) = record {
  shape = shape.Listen l;
  read = listen_read fresh (w ++ rest) l (length w) (listen_again w rest l is);
  lexeme = listen_text (w ++ rest) l (length w);
}
token_found fresh _ _ _ _ (ordinary context w rest x none is) =
    let r = token_again fresh w rest x is in
    record { shape = r.shape; read = none_special fresh context (w ++ rest) none ∙ r.read; lexeme = r.lexeme }

pub fault_found : (fresh : Bool) (context : TokenContext) (text : List ℕ) (wrong : Wrong) → NoSpecial context text → ordinary_at fresh text ≡ Err wrong →
    found_at fresh context text ≡ Err wrong
fault_found fresh context text wrong none h = none_special fresh context text none ∙ h

-- ---- from the function

-- what is found at the beginning of a text, in this context, stands there
abbrev pub Finds : Bool → TokenContext → List ℕ → Result Found Wrong → Type 0
Finds fresh context text (Ok (Gap n)) = IsBlankOrComment fresh (take n text) (drop n text)
Finds fresh context text (Ok (Token s n)) = IsToken context (take n text) (drop n text) (lexeme_of text s n)
Finds fresh context text (Err (BadByte from to)) = NoSpecial context text × IsFault fresh text 1 from to
Finds fresh context text (Err Unclosed) = NoSpecial context text × IsFault fresh text 2 0 (length text)

ordinary_finds : (fresh : Bool) (context : TokenContext) (text : List ℕ) (r : Result Found Wrong) → NoSpecial context text → Reads fresh text r → Finds fresh context text r
ordinary_finds fresh context text (Ok (Gap n)) none h = h
ordinary_finds fresh context text (Ok (Token s n)) none h =
    ordinary context (take n text) (drop n text) (lexeme_of text s n) (subst (λ xs. NoSpecial context xs) (sym (take-append-drop n text)) none) h
ordinary_finds fresh context text (Err (BadByte from to)) none h = (none, h)
ordinary_finds fresh context text (Err Unclosed) none h = (none, h)

finds_as : (fresh : Bool) (context : TokenContext) (text : List ℕ) (r : Result Found Wrong) → found_at fresh context text ≡ r → Finds fresh context text r →
    Finds fresh context text (found_at fresh context text)
finds_as fresh context text r e h = subst (λ q. Finds fresh context text q) (sym e) h

plain_finds : (fresh : Bool) (context : TokenContext) (text : List ℕ) → 0 < length text → NoSpecial context text →
    found_at fresh context text ≡ ordinary_at fresh text → Finds fresh context text (found_at fresh context text)
plain_finds fresh context text some none e =
    finds_as fresh context text (ordinary_at fresh text) e (ordinary_finds fresh context text _ none (ordinary_reads fresh text some))

some_block : (fresh : Bool) (text : List ℕ) → prefix_len is_block_byte text ≢ 0 → found_at fresh BlockName text ≡ token shape.BlockName (prefix_len is_block_byte text)
unfolding found_at
some_block fresh text h = let f : (prefix_len is_block_byte text == 0) ≡ false = ne_eqb _ 0 h in rw f refl

block_finds : (fresh : Bool) (text : List ℕ) → prefix_len is_block_byte text ≢ 0 →
    Finds fresh BlockName text (token shape.BlockName (prefix_len is_block_byte text))
unfolding lexeme_of
block_finds fresh text h =
    let n = prefix_len is_block_byte text in
    let len = length-prefix_len is_block_byte text in
    block_name (take n text) (drop n text) (above_zero _ (λ e. h (sym len ∙ e))) (run_taken is_block_byte text)
  where
    above_zero : (n : ℕ) → n ≢ 0 → 0 < n
    above_zero n h = omega (arith, h)

listen_finds : (fresh : Bool) (text : List ℕ) (r : Listen × ℕ) → listen_at text ≡ Some r → Finds fresh Address text (token (shape.Listen r.0) r.1)
unfolding lexeme_of
listen_finds fresh text r e = listen (take r.1 text) (drop r.1 text) r.0 (listen_takes text r e)

address_finds : (fresh : Bool) (text : List ℕ) (o : Option (Listen × ℕ)) → 0 < length text → listen_at text ≡ o →
    Finds fresh Address text (found_at fresh Address text)
address_finds fresh text (Some r) some e = finds_as fresh Address text _ (listen_read fresh text r.0 r.1 e) (listen_finds fresh text r e)
address_finds fresh text None some e = plain_finds fresh Address text some
    (λ w rest l same is. none-some (l, length w) (sym e ∙ ap listen_at same ∙ listen_again w rest l is)) (no_listen fresh text e)

pub found_finds : (fresh : Bool) (context : TokenContext) (text : List ℕ) → 0 < length text →
    Finds fresh context text (found_at fresh context text)
found_finds fresh Plain text some = plain_finds fresh Plain text some tt (none_special fresh Plain text tt)
found_finds fresh BehindListen text some = plain_finds fresh BehindListen text some tt (none_special fresh BehindListen text tt)
found_finds fresh BehindRoute text some = plain_finds fresh BehindRoute text some tt (none_special fresh BehindRoute text tt)
found_finds fresh Address text some = address_finds fresh text (listen_at text) some refl
found_finds fresh BlockName text some = elim (cases_eq (prefix_len is_block_byte text) 0) [
  | inl e ↦ plain_finds fresh BlockName text some (run_none is_block_byte text e) (no_block fresh text e)
  | inr n ↦ finds_as fresh BlockName text _ (some_block fresh text n) (block_finds fresh text n)
]
