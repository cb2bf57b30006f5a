-- What may stand at every place: the relation and the reading function agree.
use Rattle.std.proofs.Common.{◌≡◌, ◌≢◌, ◌⊎◌, ℕ, ◌+◌, ◌<◌, Bool, true, false, List, [], ◌∷◌, ◌++◌, length, refl, sym, subst, ap, ◌∙◌, inl, inr, arith, Option, Some, None, Result, Err}
use Rattle.std.specs.Char.{is_ascii_digit}
use Rattle.std.specs.List.{AllByRecursion}
use Rattle.std.proofs.lemmas.List.{append-nil}
use Rattle.std.proofs.lemmas.Bool.{cases_Bool, cases_eq, ne_eqb}
use Rattle.std.proofs.lemmas.Option.{same_Some, none-some}
use Rattle.pv_values.specs.declared.refusal.ScriptFault.{ScriptFault}
use Rattle.pv_values.specs.declared.refusal.ScriptFault.TheVariants.{Refused}
use Rattle.cfg_tree.specs.declared.token.Lexeme.{Lexeme}
use Rattle.cfg_tree.specs.declared.token.Lexeme.TheVariants as lexeme
use Rattle.cfg_tree.specs.declared.token.Mark as marks
use Rattle.cfg_tree.specs.declared.token.Mark.TheVariants.{Divide}
use Rattle.cfg_tree.specs.Variables.{begins_name}
use Rattle.cfg_lex.specs.declared.shape.TokenShape.TheVariants as shape
use Rattle.cfg_lex.specs.declared.shape.Found.{Found}
use Rattle.cfg_lex.specs.declared.shape.Wrong.{Wrong}
use Rattle.cfg_lex.specs.declared.shape.Wrong.TheVariants.{BadByte, Unclosed}
use Rattle.cfg_lex.specs.Bytes.{is_blank, is_quote}
use Rattle.cfg_lex.specs.Comments.{is_no_comment, before_end}
use Rattle.cfg_lex.specs.Marks.{two_byte_mark, one_byte_mark}
use Rattle.cfg_lex.specs.Shapes.{bad, one_byte, two_bytes, mark_token_at, hash_at, slash_at, ordinary_at, lexeme_of, refused}
use Rattle.cfg_lex.specs.Tokens.{StringPart, IsPart, all_written, blank, IsOrdinary, name, word, long_mark, short_mark, number, string, variable, IsWholeMark, IsStray, IsFault, open_string, open_comment, open_variable, bad_escape, large_number, stray_hash, stray_dollar, stray_byte, place_between}
use Rattle.cfg_lex.proofs.ReadLaw.{Reads, token, ReadsToken}
use Rattle.cfg_lex.proofs.EndLaw.{head_is, none_ends}
use Rattle.cfg_lex.proofs.GapLaw.{hash_reads, slash_reads}
use Rattle.cfg_lex.proofs.WordLaw.{word_reads, number_reads, name_again, keyword_again, number_again, large_again}
use Rattle.cfg_lex.proofs.QuoteLaw.{open_end, open_slash}
use Rattle.cfg_lex.proofs.StringLaw.{string_reads, string_again, escape_again, open_string_again}
use Rattle.cfg_lex.proofs.VariableLaw.{dollar_reads, variable_again, cut_again, stray_dollar_again}
use Rattle.cfg_lex.proofs.MarkLaw.{two_reads, one_reads, divide_is, other_reads}
use Rattle.cfg_lex.proofs.Bytewise.{at_blank, at_hash, at_slash, at_word, at_digit, at_quote, at_dollar, no_slash}

-- ---- from the function

read_as : (fresh : Bool) (text : List ℕ) (r : Result Found Wrong) → ordinary_at fresh text ≡ r → Reads fresh text r → Reads fresh text (ordinary_at fresh text)
read_as fresh text r e h = subst (λ q. Reads fresh text q) (sym e) h

-- a byte that is no other token is an operator, a bracket or stray
record IsOther (b : ℕ) : Type 0 where
  blank : is_blank b ≡ false
  hash : b ≢ 35
  slash : b ≢ 47
  word : begins_name b ≡ false
  digit : is_ascii_digit b ≡ false
  quote : is_quote b ≡ false
  dollar : b ≢ 36

stray_reads : (fresh : Bool) (b : ℕ) (rest : List ℕ) → IsOther b → one_byte_mark b ≡ None →
    ((c : ℕ) (more : List ℕ) → rest ≡ c ∷ more → two_byte_mark b c ≡ None) → IsFault fresh (b ∷ rest) 1 0 1
stray_reads fresh b rest is short long = stray_byte fresh b rest record {
  blank = is.blank;
  hash = is.hash;
  word = is.word;
  digit = is.digit;
  quote = is.quote;
  dollar = is.dollar;
  short = short;
  long = long;
}

one_reads_as : (fresh : Bool) (b : ℕ) (rest : List ℕ) (o : Option marks.Mark) → IsOther b → one_byte_mark b ≡ o → IsWholeMark b rest →
    ((c : ℕ) (more : List ℕ) → rest ≡ c ∷ more → two_byte_mark b c ≡ None) → Reads fresh (b ∷ rest) (one_byte o)
unfolding lexeme_of
one_reads_as fresh b rest None is e whole long = stray_reads fresh b rest is e long
one_reads_as fresh b rest (Some m) is e whole long = short_mark b rest m e whole

two_reads_as : (fresh : Bool) (b c : ℕ) (rest : List ℕ) (o : Option marks.Mark) → IsOther b → two_byte_mark b c ≡ o → Reads fresh (b ∷ c ∷ rest) (two_bytes b o)
unfolding lexeme_of
two_reads_as fresh b c rest (Some m) is e = long_mark b c rest m e
two_reads_as fresh b c rest None is e = one_reads_as fresh b (c ∷ rest) (one_byte_mark b) is refl (e, λ s. absurd (is.slash s))
    (λ d more same. ap (two_byte_mark b) (sym (head_is c d rest more same)) ∙ e)

mark_reads : (fresh : Bool) (b : ℕ) (rest : List ℕ) → IsOther b → Reads fresh (b ∷ rest) (mark_token_at b rest)
unfolding mark_token_at
mark_reads fresh b [] is = one_reads_as fresh b [] (one_byte_mark b) is refl tt (λ c more same. absurd (cc))
mark_reads fresh b (c ∷ rest) is = two_reads_as fresh b c rest (two_byte_mark b c) is refl

-- at the byte b
abbrev ReadsAt : Bool → List ℕ → ℕ → Type 0
ReadsAt fresh cs b = Reads fresh (b ∷ cs) (ordinary_at fresh (b ∷ cs))

reads_hash : (fresh : Bool) (cs : List ℕ) → ReadsAt fresh cs 35
reads_hash fresh cs = read_as fresh (35 ∷ cs) _ (at_hash fresh cs) (hash_reads fresh cs)

reads_slash : (fresh : Bool) (cs : List ℕ) → ReadsAt fresh cs 47
reads_slash fresh cs = read_as fresh (47 ∷ cs) _ (at_slash fresh cs) (slash_reads fresh cs)

reads_dollar : (fresh : Bool) (cs : List ℕ) → ReadsAt fresh cs 36
reads_dollar fresh cs = read_as fresh (36 ∷ cs) _ (at_dollar fresh cs) (dollar_reads fresh cs)

reads_blank : (fresh : Bool) (c : ℕ) (cs : List ℕ) → is_blank c ≡ true → ReadsAt fresh cs c
reads_blank fresh c cs h = read_as fresh (c ∷ cs) _ (at_blank fresh c cs h) (blank fresh c cs h)

-- no blank, `#` or `/`
reads_later : (fresh : Bool) (c : ℕ) (cs : List ℕ) → is_blank c ≡ false → c ≢ 35 → c ≢ 47 → ReadsAt fresh cs c
reads_later fresh c cs b h s = elim (cases_Bool (begins_name c)) [
  | inl t ↦ read_as fresh (c ∷ cs) _ (at_word fresh c cs t) (word_reads fresh c cs t)
  | inr w ↦ elim (cases_Bool (is_ascii_digit c)) [
    | inl t ↦ read_as fresh (c ∷ cs) _ (at_digit fresh c cs t) (number_reads fresh c cs t)
    | inr d ↦ elim (cases_Bool (is_quote c)) [
      | inl t ↦ read_as fresh (c ∷ cs) _ (at_quote fresh c cs t) (string_reads fresh c cs t)
      | inr q ↦ elim (cases_eq c 36) [
        | inl e ↦ subst (λ m. ReadsAt fresh cs m) (sym e) (reads_dollar fresh cs)
        | inr n ↦ read_as fresh (c ∷ cs) _ (other_reads fresh c cs b h s w d q n)
            (mark_reads fresh c cs record { blank = b; hash = h; slash = s; word = w; digit = d; quote = q; dollar = n })
      ]
    ]
  ]
]

pub ordinary_reads : (fresh : Bool) (text : List ℕ) → 0 < length text → Reads fresh text (ordinary_at fresh text)
ordinary_reads fresh [] some = absurd (omega arith)
ordinary_reads fresh (c ∷ cs) some = elim (cases_Bool (is_blank c)) [
  | inl t ↦ reads_blank fresh c cs t
  | inr b ↦ elim (cases_eq c 35) [
    | inl e ↦ subst (λ m. ReadsAt fresh cs m) (sym e) (reads_hash fresh cs)
    | inr h ↦ elim (cases_eq c 47) [
      | inl e ↦ subst (λ m. ReadsAt fresh cs m) (sym e) (reads_slash fresh cs)
      | inr s ↦ reads_later fresh c cs b h s
    ]
  ]
]

-- ---- from the relation

mark_text : (w rest : List ℕ) (m : marks.Mark) (n : ℕ) → lexeme_of (w ++ rest) (shape.Mark m) n ≡ lexeme.Mark m
unfolding lexeme_of
mark_text w rest m n = refl

read_long : (a b : ℕ) (rest : List ℕ) (m : marks.Mark) → two_byte_mark a b ≡ Some m → mark_token_at a (b ∷ rest) ≡ token (shape.Mark m) 2
unfolding mark_token_at
read_long a b rest m h = rw h refl

read_short : (a : ℕ) (rest : List ℕ) (m : marks.Mark) → one_byte_mark a ≡ Some m → IsWholeMark a rest → mark_token_at a rest ≡ token (shape.Mark m) 1
unfolding mark_token_at
read_short a [] m h whole = rw h refl
read_short a (b ∷ rest) m h whole = let none = whole.0 in rw (none, h) refl

read_divide : (rest : List ℕ) → IsWholeMark 47 rest → slash_at rest ≡ token (shape.Mark Divide) 1
unfolding slash_at
read_divide [] whole = refl
read_divide (b ∷ rest) whole =
    let others = whole.1 refl in
    let s = ne_eqb b 47 others.0 in
    let t = ne_eqb b 42 others.1 in
    rw (s, t) refl

long_again : (fresh : Bool) (a b : ℕ) (rest : List ℕ) (m : marks.Mark) → two_byte_mark a b ≡ Some m →
    ReadsToken fresh (a ∷ b ∷ rest) (a ∷ b ∷ []) (lexeme.Mark m)
long_again fresh a b rest m h = record {
  shape = shape.Mark m;
  read = two_reads a b m h fresh (b ∷ rest) ∙ read_long a b rest m h;
  lexeme = mark_text (a ∷ b ∷ []) rest m 2;
}

divide_again : (fresh : Bool) (rest : List ℕ) (m : marks.Mark) → one_byte_mark 47 ≡ Some m → IsWholeMark 47 rest →
    ReadsToken fresh (47 ∷ rest) (47 ∷ []) (lexeme.Mark m)
divide_again fresh rest m h whole =
    let same : Divide ≡ m = same_Some _ _ (sym divide_is ∙ h) in
    record {
      shape = shape.Mark Divide;
      read = at_slash fresh rest ∙ read_divide rest whole;
      lexeme = mark_text (47 ∷ []) rest Divide 1 ∙ ap (λ (k : marks.Mark). lexeme.Mark k) same;
    }

short_again : (fresh : Bool) (a : ℕ) (rest : List ℕ) (m : marks.Mark) → one_byte_mark a ≡ Some m → IsWholeMark a rest →
    ReadsToken fresh (a ∷ rest) (a ∷ []) (lexeme.Mark m)
short_again fresh a rest m h whole = elim (cases_eq a 47) [
  | inl e ↦
      let P : ℕ → Type 0 = λ b. one_byte_mark b ≡ Some m → IsWholeMark b rest → ReadsToken fresh (b ∷ rest) (b ∷ []) (lexeme.Mark m) in
      let at_divide : P 47 = λ k w. divide_again fresh rest m k w in
      subst P (sym e) at_divide h whole
  | inr n ↦ record {
    shape = shape.Mark m;
    read = one_reads a m h n fresh rest ∙ read_short a rest m h whole;
    lexeme = mark_text (a ∷ []) rest m 1;
  }
]

pub token_again : (fresh : Bool) (w rest : List ℕ) (x : Lexeme) → IsOrdinary w rest x → ReadsToken fresh (w ++ rest) w x
token_again fresh _ _ _ (name w rest is e) = name_again fresh w rest is e
token_again fresh _ _ _ (word w rest k is e) = keyword_again fresh w rest k is e
token_again fresh _ _ _ (long_mark a b rest m h) = long_again fresh a b rest m h
token_again fresh _ _ _ (short_mark a rest m h whole) = short_again fresh a rest m h whole
token_again fresh _ _ _ (number w rest d low) = number_again fresh w rest d low
token_again fresh _ _ _ (string q ps rest is all known) = string_again fresh q ps rest is all known
token_again fresh _ _ _ (variable w rest v h) = variable_again fresh w rest v h

-- a text at whose beginning a fault is read, and its place
pub record ReadsFault (fresh : Bool) (text : List ℕ) (kind from to : ℕ) : Type 0 where
  pub wrong : Wrong
  pub read : ordinary_at fresh text ≡ Err wrong
  pub placed : (i : ℕ) → refused i (i + length text) wrong ≡ Refused kind (place_between (i + from) (i + to))

bad_placed : (fresh : Bool) (text : List ℕ) (from to : ℕ) → ordinary_at fresh text ≡ bad from to → ReadsFault fresh text 1 from to
bad_placed fresh text from to h = record { wrong = BadByte from to; read = h; placed = λ i. refl }

abbrev refusal : ℕ → ℕ → ScriptFault
refusal i j = Refused 2 (place_between i j)

open_placed : (fresh : Bool) (text : List ℕ) (n : ℕ) → ordinary_at fresh text ≡ Err Unclosed → length text ≡ n → ReadsFault fresh text 2 0 n
open_placed fresh text n h e = record {
  wrong = Unclosed;
  read = h;
  placed = λ i. ap (λ k. refusal k (i + length text)) (same i) ∙ ap (λ k. refusal (i + 0) (i + k)) e;
}
  where
    same : (i : ℕ) → i ≡ i + 0
    same i = omega arith

read_comment : (w : List ℕ) → before_end w ≡ None → slash_at (42 ∷ w) ≡ Err Unclosed
unfolding slash_at
read_comment w h = rw h refl

read_hash : (fresh : Bool) (w : List ℕ) → is_no_comment fresh w ≡ true → hash_at fresh w ≡ bad 0 1
unfolding hash_at
read_hash fresh w h = rw h refl

read_none : (b : ℕ) (rest : List ℕ) → one_byte_mark b ≡ None → ((c : ℕ) (more : List ℕ) → rest ≡ c ∷ more → two_byte_mark b c ≡ None) → mark_token_at b rest ≡ bad 0 1
unfolding mark_token_at
read_none b [] short long = rw short refl
read_none b (c ∷ rest) short long = let none = long c rest refl in rw (none, short) refl

stray_again : (fresh : Bool) (b : ℕ) (rest : List ℕ) → IsStray b rest → ordinary_at fresh (b ∷ rest) ≡ bad 0 1
stray_again fresh b rest is =
    let slash : b ≢ 47 = λ e. none-some Divide (sym is.short ∙ ap one_byte_mark e ∙ divide_is) in
    other_reads fresh b rest is.blank is.hash slash is.word is.digit is.quote is.dollar ∙ read_none b rest is.short is.long

open_text : (fresh : Bool) (q : ℕ) (ps : List StringPart) (text : List ℕ) → is_quote q ≡ true → AllByRecursion (IsPart q) ps →
    (text ≡ q ∷ all_written ps) ⊎ (text ≡ q ∷ all_written ps ++ 92 ∷ []) → ordinary_at fresh text ≡ Err Unclosed
open_text fresh q ps text is all whole = elim whole [
  | inl e ↦ ap (ordinary_at fresh) (e ∙ ap (λ (xs : List ℕ). q ∷ xs) (sym (append-nil (all_written ps)))) ∙ open_string_again fresh q ps [] is all (open_end q)
  | inr e ↦ ap (ordinary_at fresh) e ∙ open_string_again fresh q ps (92 ∷ []) is all (open_slash q (no_slash q is))
]

pub fault_again : (fresh : Bool) (text : List ℕ) (kind from to : ℕ) → IsFault fresh text kind from to → ReadsFault fresh text kind from to
fault_again _ _ _ _ _ (open_string fresh q ps text is all whole) = open_placed fresh text (length text) (open_text fresh q ps text is all whole) refl
fault_again _ _ _ _ _ (open_comment fresh w none) = open_placed fresh (47 ∷ 42 ∷ w) _ (at_slash fresh (42 ∷ w) ∙ read_comment w (none_ends w none)) (omega arith)
fault_again _ _ _ _ _ (open_variable fresh w h t) = open_placed fresh (36 ∷ w) _ (cut_again fresh w h t) (omega arith)
fault_again _ _ _ _ _ (bad_escape fresh q ps more b rest is all known lacks) = bad_placed fresh _ _ _ (escape_again fresh q ps more b rest is all known lacks)
fault_again _ _ _ _ _ (large_number fresh w rest d high) = bad_placed fresh (w ++ rest) 0 (length w) (large_again fresh w rest d high)
fault_again _ _ _ _ _ (stray_hash fresh w h) = bad_placed fresh (35 ∷ w) 0 1 (at_hash fresh w ∙ read_hash fresh w h)
fault_again _ _ _ _ _ (stray_dollar fresh w h f) = bad_placed fresh (36 ∷ w) 0 1 (stray_dollar_again fresh w h f)
fault_again _ _ _ _ _ (stray_byte fresh b rest is) = bad_placed fresh (b ∷ rest) 0 1 (stray_again fresh b rest is)
