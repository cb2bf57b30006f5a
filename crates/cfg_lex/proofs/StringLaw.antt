-- Strings: the relation and the reading function agree.
use Rattle.std.proofs.Common.{◌≡◌, ◌≢◌, ℕ, ◌+◌, ◌-◌, Bool, true, false, List, [], ◌∷◌, ◌++◌, length, take, drop, refl, sym, subst, ap, ◌∙◌, inl, inr, arith, Option, Some, None, Err, length-append, append_assoc}
use Rattle.std.specs.Prelude.{map}
use Rattle.std.specs.List.{AllByRecursion}
use Rattle.std.proofs.lemmas.List.{take_at, drop_at}
use Rattle.cfg_tree.specs.declared.token.Lexeme.TheVariants as lexeme
use Rattle.cfg_lex.specs.declared.shape.Wrong.TheVariants.{Unclosed}
use Rattle.cfg_lex.specs.declared.shape.TokenShape.TheVariants as shape
use Rattle.cfg_lex.specs.Bytes.{is_quote}
use Rattle.cfg_lex.specs.Strings.{is_escape, before_quote, bad_escape, unescaped}
use Rattle.cfg_lex.specs.Shapes.{bad, string_of, string_to, string_at, ordinary_at, lexeme_of}
use Rattle.cfg_lex.specs.Tokens.{StringPart, Escaped, meant, IsPart, IsKnown, all_written, in_quotes, IsOrdinary, string, IsFault, open_string}
use Rattle.cfg_lex.specs.Tokens as tokens
use Rattle.cfg_lex.proofs.ReadLaw.{Reads, token, ReadsToken, same_fault, same_token}
use Rattle.cfg_lex.proofs.Bytewise.{at_quote, no_slash}
use Rattle.cfg_lex.proofs.QuoteLaw.{quote_again, quote_taken, open_again, open_taken, known_again, known_taken, bad_again, bad_taken, meant_again}

-- a closed string and what stands after it, without the first quote
closed_text : (q : ℕ) (ps : List StringPart) (rest : List ℕ) → (all_written ps ++ q ∷ []) ++ rest ≡ all_written ps ++ q ∷ rest
closed_text q ps rest = append_assoc (all_written ps) (q ∷ []) rest

quoted_len : (q : ℕ) (ps : List StringPart) → length (in_quotes q ps) ≡ length (all_written ps) + 2
quoted_len q ps = omega (arith, length-append (all_written ps) (q ∷ []))

-- ---- from the function

open_reads : (fresh : Bool) (q : ℕ) (cs : List ℕ) → is_quote q ≡ true → before_quote q cs ≡ None → IsFault fresh (q ∷ cs) 2 0 (length (q ∷ cs))
open_reads fresh q cs is h =
    let r = open_taken q cs (no_slash q is) h in
    open_string fresh q r.ps (q ∷ cs) is r.all (elim r.whole [
      | inl e ↦ inl (ap (λ (xs : List ℕ). q ∷ xs) e)
      | inr e ↦ inr (ap (λ (xs : List ℕ). q ∷ xs) e)
    ])

closed_reads : (fresh : Bool) (q : ℕ) (cs : List ℕ) (k : ℕ) (o : Option ℕ) → is_quote q ≡ true → before_quote q cs ≡ Some k →
    bad_escape (take k cs) ≡ o → Reads fresh (q ∷ cs) (string_of k o)
unfolding lexeme_of
closed_reads fresh q cs k None is h e =
    let r = quote_taken q cs k h in
    let body : take k cs ≡ all_written r.ps = ap (λ (xs : List ℕ). take k xs) r.whole ∙ take_at (all_written r.ps) (q ∷ r.rest) k (sym r.len) in
    let known = known_taken q r.ps r.all (ap bad_escape (sym body) ∙ e) in
    let whole : q ∷ cs ≡ in_quotes q r.ps ++ r.rest = ap (λ (xs : List ℕ). q ∷ xs) (r.whole ∙ sym (closed_text q r.ps r.rest)) in
    let len : length (in_quotes q r.ps) ≡ k + 2 = omega (arith, quoted_len q r.ps, r.len) in
    let front : take (k + 2) (q ∷ cs) ≡ in_quotes q r.ps = ap (λ (xs : List ℕ). take (k + 2) xs) whole ∙ take_at (in_quotes q r.ps) r.rest (k + 2) len in
    let back : drop (k + 2) (q ∷ cs) ≡ r.rest = ap (λ (xs : List ℕ). drop (k + 2) xs) whole ∙ drop_at (in_quotes q r.ps) r.rest (k + 2) len in
    let n : (k + 2) - 2 ≡ k = omega arith in
    let text : unescaped (take ((k + 2) - 2) cs) ≡ map meant r.ps =
    ap (λ (m : ℕ). unescaped (take m cs)) n ∙ ap unescaped body ∙ meant_again q r.ps r.all in
    same_token _ _ _ _ _ _ (string q r.ps r.rest is r.all known) (sym front) (sym back) (ap (λ (xs : List ℕ). lexeme.String xs) (sym text))
closed_reads fresh q cs k (Some j) is h e =
    let r = quote_taken q cs k h in
    let body : take k cs ≡ all_written r.ps = ap (λ (xs : List ℕ). take k xs) r.whole ∙ take_at (all_written r.ps) (q ∷ r.rest) k (sym r.len) in
    let b = bad_taken q r.ps j r.all (ap bad_escape (sym body) ∙ e) in
    let all : AllByRecursion (IsPart q) (b.front ++ Escaped b.b ∷ b.more) = subst (λ (ps : List StringPart). AllByRecursion (IsPart q) ps) b.whole r.all in
    let whole : in_quotes q (b.front ++ Escaped b.b ∷ b.more) ++ r.rest ≡ q ∷ cs =
    ap (λ (ps : List StringPart). in_quotes q ps ++ r.rest) (sym b.whole) ∙ sym (ap (λ (xs : List ℕ). q ∷ xs) (r.whole ∙ sym (closed_text q r.ps r.rest))) in
    same_fault fresh _ _ 1 _ _ _ _ (tokens.bad_escape fresh q b.front b.more b.b r.rest is all b.known b.is_bad) whole
    (omega (arith, b.len)) (omega (arith, b.len))

pub string_reads : (fresh : Bool) (q : ℕ) (cs : List ℕ) → is_quote q ≡ true → Reads fresh (q ∷ cs) (string_at q cs)
unfolding string_at
string_reads fresh q cs is = by_cases (before_quote q cs) refl
  where
    by_cases : (o : Option ℕ) → before_quote q cs ≡ o → Reads fresh (q ∷ cs) (string_to cs o)
    by_cases None h = open_reads fresh q cs is h
    by_cases (Some k) h = closed_reads fresh q cs k (bad_escape (take k cs)) is h refl

-- ---- from the relation

read_closed : (q : ℕ) (ps : List StringPart) (rest : List ℕ) (o : Option ℕ) → q ≢ 92 → AllByRecursion (IsPart q) ps → bad_escape (all_written ps) ≡ o →
    string_at q (all_written ps ++ q ∷ rest) ≡ string_of (length (all_written ps)) o
unfolding string_at
read_closed q ps rest o nq all e =
    let k = quote_again q ps rest nq all in
    let body : take (length (all_written ps)) (all_written ps ++ q ∷ rest) ≡ all_written ps = take_at (all_written ps) (q ∷ rest) (length (all_written ps)) refl in
    rw (k, body, e) refl

string_text : (q : ℕ) (ps : List StringPart) (rest : List ℕ) → AllByRecursion (IsPart q) ps →
    lexeme_of (in_quotes q ps ++ rest) shape.String (length (in_quotes q ps)) ≡ lexeme.String (map meant ps)
unfolding lexeme_of
string_text q ps rest all =
    let n : length (in_quotes q ps) - 2 ≡ length (all_written ps) = omega (arith, quoted_len q ps) in
    let body : take (length (in_quotes q ps) - 2) ((all_written ps ++ q ∷ []) ++ rest) ≡ all_written ps =
    ap (λ (xs : List ℕ). take (length (in_quotes q ps) - 2) xs) (closed_text q ps rest) ∙ take_at (all_written ps) (q ∷ rest) _ (sym n) in
    ap (λ (xs : List ℕ). lexeme.String (unescaped xs)) body ∙ ap (λ (xs : List ℕ). lexeme.String xs) (meant_again q ps all)

pub string_again : (fresh : Bool) (q : ℕ) (ps : List StringPart) (rest : List ℕ) → is_quote q ≡ true → AllByRecursion (IsPart q) ps →
    AllByRecursion IsKnown ps → ReadsToken fresh (in_quotes q ps ++ rest) (in_quotes q ps) (lexeme.String (map meant ps))
string_again fresh q ps rest is all known = record {
  shape = shape.String;
  read = at_quote fresh q ((all_written ps ++ q ∷ []) ++ rest) is ∙ ap (string_at q) (closed_text q ps rest)
      ∙ read_closed q ps rest None (no_slash q is) all (known_again q ps all known) ∙ ap (token shape.String) (sym (quoted_len q ps));
  lexeme = string_text q ps rest all;
}

pub escape_again : (fresh : Bool) (q : ℕ) (ps more : List StringPart) (b : ℕ) (rest : List ℕ) → is_quote q ≡ true →
    AllByRecursion (IsPart q) (ps ++ Escaped b ∷ more) → AllByRecursion IsKnown ps → is_escape b ≡ false →
    ordinary_at fresh (in_quotes q (ps ++ Escaped b ∷ more) ++ rest) ≡ bad (length (all_written ps) + 1) (length (all_written ps) + 3)
escape_again fresh q ps more b rest is all known lacks =
    at_quote fresh q _ is ∙ ap (string_at q) (closed_text q (ps ++ Escaped b ∷ more) rest)
    ∙ read_closed q (ps ++ Escaped b ∷ more) rest (Some (length (all_written ps))) (no_slash q is) all (bad_again q ps more b all known lacks)

read_open : (q : ℕ) (cs : List ℕ) → before_quote q cs ≡ None → string_at q cs ≡ Err Unclosed
unfolding string_at
read_open q cs h = rw h refl

pub open_string_again : (fresh : Bool) (q : ℕ) (ps : List StringPart) (tail : List ℕ) → is_quote q ≡ true → AllByRecursion (IsPart q) ps →
    before_quote q tail ≡ None → ordinary_at fresh (q ∷ (all_written ps ++ tail)) ≡ Err Unclosed
open_string_again fresh q ps tail is all none =
    at_quote fresh q _ is ∙ read_open q _ (open_again q ps tail (no_slash q is) all none)
