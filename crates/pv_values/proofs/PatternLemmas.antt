-- What `regex` tells of a pattern, in the words of `Matching`.
use Rattle.std.proofs.Common.{◌≡◌, ◌≢◌, ℕ, ◌<◌, ◌≤◌, nat_le, Bool, true, false, ◌&&◌, List, Option, Some, None, IsSomeAnd, IfSome, IsUtf8, is_some, refl, subst, get_or, inl, inr, length, arith, chars}
use Rattle.std.proofs.lemmas.Bool.{cases_Bool, le-leb, leb-true}
use Rattle.std.specs.Str.{is_utf8}
use Rattle.std.proofs.lemmas.Str.{IsUtf8-from_is_utf8, is_utf8-from_IsUtf8}
use Rattle.regex_syntax.specs.Grammar.{Names, read}
use Rattle.regex_syntax.specs.Brackets.{Nested}
use Rattle.regex_syntax.specs.Captures.{SameCaptures}
use Rattle.regex_syntax.specs.Verdict.{Reads, Refuses}
use Rattle.regex_syntax.specs.declared.error.ErrorKind.{ErrorKind}
use Rattle.regex_syntax.specs.declared.error.ErrorKind.TheVariants.{OutOfMemory}
use Rattle.regex_hir.specs.Re.{Re}
use Rattle.regex_hir.specs.Find.{find}
use Rattle.regex_hir.specs.Meaning.{meaning}
use Rattle.regex_hir.specs.declared.hir.Hir.{Hir}
use Rattle.regex.proofs.ForCallers.{is_match_alike}
use Rattle.regex.specs.Bytes.{regex_pattern, regex_source, regex_config, IsReadFromSource}
use Rattle.regex.specs.Names.{names_of}
use Rattle.regex.specs.Sources.{IsRefusal}
use Rattle.regex.specs.Failures.{IsRightKind}
use Rattle.regex.specs.declared.bytes.regex.Regex.{Regex}
use Rattle.regex.specs.declared.error.Error.{Error}
use Rattle.regex.specs.declared.error.Error.TheVariants.{Syntax}
use Rattle.regex_syntax.specs.declared.error.Error as parser
use Rattle.pv_values.specs.Matching.{byte_config, pattern_in, is_shallow, is_pattern, finds, matches_in}

and_false : (a : Bool) → (a && false) ≡ false
and_false true = refl
and_false false = refl

-- what is read within the limit is shallow
shallow_of : (o : Option (Nested Re × Names)) (a : Re) (names : Names) (n : ℕ) →
    IsSomeAnd o (λ (re, found). (re.depth ≤ byte_config.nest_limit) × SameCaptures a re.value × (names ≡ found) × (n ≤ length names)) →
    is_shallow o ≡ true
shallow_of None a names n h = absurd h
shallow_of (Some x) a names n h = le-leb _ _ h.0

-- what is read is a pattern
pub pattern_of_read : (source : List ℕ) (hir : Hir) (names : Names) → IsUtf8 source → Reads byte_config source hir names →
    is_pattern source ≡ true
unfolding Reads pattern_in
pattern_of_read source hir names utf8 reads =
    let a = is_utf8-from_IsUtf8 source utf8 in
    let b = shallow_of (read byte_config (chars source)) (meaning hir) names _ reads in
    rw (a, b) refl

too_deep : (o : Option (Nested Re × Names)) → IfSome o (λ (re, _). byte_config.nest_limit < re.depth) → is_shallow o ≡ false
too_deep None h = refl
too_deep (Some x) h = below_test _ _ h
  where
    below_test : (m n : ℕ) → n < m → nat_le m n ≡ false
    below_test m n h = elim (cases_Bool (nat_le m n)) [
      | inl t ↦ let low = leb-true m n t in absurd (omega (arith, low, h))
      | inr f ↦ f
    ]

-- what is refused by a fault of syntax is none
pub none_of_refusal : (source : List ℕ) (kind : ErrorKind) → Refuses byte_config source kind → kind ≢ OutOfMemory →
    is_pattern source ≡ false
unfolding Refuses pattern_in
none_of_refusal source kind (inl memory) h = absurd (h memory)
none_of_refusal source kind (inr (inl unread)) h = let e : is_shallow (read byte_config (chars source)) ≡ false = rw unread refl in
    rw e (and_false (is_utf8 source))
none_of_refusal source kind (inr (inr deep)) h = let e = too_deep (read byte_config (chars source)) deep.1 in rw e (and_false (is_utf8 source))

pub none_of_bytes : (source : List ℕ) → ¬ (IsUtf8 source) → is_pattern source ≡ false
unfolding pattern_in
none_of_bytes source h = elim (cases_Bool (is_utf8 source)) [
  | inl t ↦ absurd (h (IsUtf8-from_is_utf8 source t))
  | inr f ↦ rw f refl
]

finds_as : (o : Option (Nested Re × Names)) (a : Re) (names : Names) (n : ℕ) (hay : List ℕ) → ((k : ℕ) → get_or hay k 0 < 256) →
    IsSomeAnd o (λ (re, found). (re.depth ≤ byte_config.nest_limit) × SameCaptures a re.value × (names ≡ found) × (n ≤ length names)) →
    is_some (find a hay 0) ≡ finds o hay
finds_as None a names n hay bytes h = absurd h
finds_as (Some x) a names n hay bytes h = is_match_alike h.1 hay bytes false 0

-- a regex that is read from a text matches as its text does
pub match_of_read : (source : List ℕ) (hir : Hir) (names : Names) → Reads byte_config source hir names →
    (hay : List ℕ) → ((k : ℕ) → get_or hay k 0 < 256) → is_some (find (meaning hir) hay 0) ≡ matches_in source hay
unfolding Reads pattern_in matches_in
match_of_read source hir names reads hay bytes = finds_as (read byte_config (chars source)) (meaning hir) names _ hay bytes reads

-- the same of what `Regex::new` gives
module _ (r : Regex) (source : List ℕ) (is_source : regex_source r ≡ source) (is_config : regex_config r ≡ byte_config) (is_read : IsReadFromSource r) where
  read_so : Reads byte_config source r.pattern.program.hir (names_of r.pattern.names.items)
  read_so = rw (is_source, is_config) at is_read

  pub pattern_of_regex : IsUtf8 source → is_pattern source ≡ true
  pattern_of_regex utf8 = pattern_of_read source _ _ utf8 read_so

  pub match_of_regex : (hay : List ℕ) → ((k : ℕ) → get_or hay k 0 < 256) → is_some (find (regex_pattern r) hay 0) ≡ matches_in source hay
  match_of_regex hay bytes = match_of_read source _ _ read_so hay bytes

pub none_of_error : (error : Error) (e : parser.Error) (text source : List ℕ) → text ≡ source → error ≡ Syntax e →
    IsRefusal byte_config text error → IsRightKind byte_config text error → is_pattern source ≡ false
none_of_error error e text source same is refused kind =
    let P : Error → Type 0 = λ x. IsRightKind byte_config text x in
    same_pattern same (none_of_refusal text e.kind (refused e is) (subst P is kind))
  where
    same_pattern : {s t : List ℕ} → s ≡ t → is_pattern s ≡ false → is_pattern t ≡ false
    same_pattern {s} {t} same h = let Q : List ℕ → Type 0 = λ x. is_pattern x ≡ false in subst Q same h
