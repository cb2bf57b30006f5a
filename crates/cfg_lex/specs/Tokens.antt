-- The tokens of a script, and its first fault. Each class of token is told by its bytes and by what stands after it.
use Rattle.std.specs.Prelude.{◌≡◌, ◌≢◌, ℕ, ◌+◌, ◌<◌, ◌≤◌, ◌==◌, ◌⊎◌, pos, Bool, true, false, not, map, List, [], ◌∷◌, ◌++◌, length, drop, Some, None, codes}
use Rattle.std.specs.List.{flat_map, AllByRecursion}
use Rattle.std.specs.Char.{is_ascii_digit}
use Rattle.std.specs.Int.{w32, from_be_bytes}
use Rattle.std.specs.Str.Parse.{digits_value}
use Rattle.sip_words.specs.declared.bytes.Class.TheVariants as class
use Rattle.sip_words.specs.Grammar.{IsWord}
use Rattle.sip_fields.specs.Parts.{host, Numbers, AreOctets}
use Rattle.pv_values.specs.declared.refusal.Place.{Place}
use Rattle.pv_values.specs.declared.refusal.ScriptFault.{ScriptFault}
use Rattle.pv_values.specs.declared.refusal.ScriptFault.TheVariants.{Refused, NoMemory}
use Rattle.cfg_tree.specs.declared.token.Token.{Token}
use Rattle.cfg_tree.specs.declared.token.Variable.{Variable}
use Rattle.cfg_tree.specs.declared.token.Lexeme.{Lexeme}
use Rattle.cfg_tree.specs.declared.token.Lexeme.TheVariants as lexeme
use Rattle.cfg_tree.specs.declared.token.Keyword as keyword
use Rattle.cfg_tree.specs.declared.token.Mark as marks
use Rattle.cfg_tree.specs.declared.setting.Listen.{Listen}
use Rattle.cfg_tree.specs.Variables.{begins_name, goes_on, variable_at}
use Rattle.cfg_lex.specs.declared.context.TokenContext.{TokenContext}
use Rattle.cfg_lex.specs.declared.context.TokenContext.TheVariants.{Plain, Address, BlockName, BehindListen, BehindRoute}
use Rattle.cfg_lex.specs.Bytes.{is_blank, is_block_byte, is_quote}
use Rattle.cfg_lex.specs.Contexts.{behind}
use Rattle.cfg_lex.specs.Comments.{is_no_comment}
use Rattle.cfg_lex.specs.Words.{keyword_of_word}
use Rattle.cfg_lex.specs.Marks.{two_byte_mark, one_byte_mark}
use Rattle.cfg_lex.specs.Numbers.{greatest_number}
use Rattle.cfg_lex.specs.Strings.{is_escape, escaped}
use Rattle.cfg_lex.specs.Variables.{is_cut_off}
use Rattle.cfg_lex.specs.Shapes.{begins_line}
use Rattle.sip_words.specs.ByteNames.{LF, SLASH, COLON, BACKSLASH}
use Rattle.cfg_tree.specs.ByteNames.{DOLLAR}
use Rattle.cfg_lex.specs.ByteNames.{HASH, STAR}
use Rattle.cfg_tree.specs.RefusalKinds.{refusal_number}
use Rattle.cfg_tree.specs.declared.refusal_kind.RefusalKind.TheVariants as refusal

-- ---- bytes

-- the next byte, if there is one, is none of these
abbrev pub Ends : (ℕ → Bool) → List ℕ → Type 0
Ends p [] = Unit {0}
Ends p (b ∷ rest) = p b ≡ false

-- w is a run of such bytes, and of greatest length where this stands after it
pub record IsLongestRun (p : ℕ → Bool) (w rest : List ℕ) : Type 0 where
  pub all : AllByRecursion (λ b. p b ≡ true) w
  pub ends : Ends p rest

-- a run to the line's end
abbrev pub RunsToLineEnd : List ℕ → List ℕ → Type 0
RunsToLineEnd w rest = IsLongestRun (λ b. not (b == LF)) w rest

-- no `*/` stands in these bytes
abbrev pub NoEnd : List ℕ → Type 0
NoEnd text = (front back : List ℕ) → text ≢ front ++ STAR ∷ SLASH ∷ back

-- ---- what stands between tokens

-- w parts tokens, where this stands after it. `fresh`: it begins a line.
pub data IsBlankOrComment : (fresh : Bool) (w rest : List ℕ) → Type 0 where
  -- SP, HTAB, CR or LF
  blank : (fresh : Bool) (b : ℕ) (rest : List ℕ) → is_blank b ≡ true → IsBlankOrComment fresh (b ∷ []) rest
  -- # to the line's end, but for `#!` at a line's beginning without one of the words with which it is a comment
  hash : (fresh : Bool) (w rest : List ℕ) → RunsToLineEnd w rest → is_no_comment fresh (w ++ rest) ≡ false → IsBlankOrComment fresh (HASH ∷ w) rest
  -- // to the line's end
  slashes : (fresh : Bool) (w rest : List ℕ) → RunsToLineEnd w rest → IsBlankOrComment fresh (SLASH ∷ SLASH ∷ w) rest
  -- /* to the first */
  bracketed : (fresh : Bool) (w rest : List ℕ) → NoEnd (w ++ STAR ∷ []) → IsBlankOrComment fresh (SLASH ∷ STAR ∷ w ++ STAR ∷ SLASH ∷ []) rest

-- ---- strings

-- a byte that stands for itself, or one after a backslash
pub data StringPart : Type 0 where
  Itself : ℕ → StringPart
  Escaped : ℕ → StringPart

abbrev pub written : StringPart → List ℕ
written (Itself b) = b ∷ []
written (Escaped b) = BACKSLASH ∷ b ∷ []

-- the byte that it stands for
abbrev pub meant : StringPart → ℕ
meant (Itself b) = b
meant (Escaped b) = escaped b

-- neither the quote nor a backslash stands for itself
abbrev pub IsPart : ℕ → StringPart → Type 0
IsPart q (Itself b) = (b ≢ q) × (b ≢ BACKSLASH)
IsPart q (Escaped b) = Unit {0}

-- \\ \" \' \n \r \t
abbrev pub IsKnown : StringPart → Type 0
IsKnown (Itself b) = Unit {0}
IsKnown (Escaped b) = is_escape b ≡ true

abbrev pub all_written : List StringPart → List ℕ
all_written ps = flat_map written ps

-- with its quotes
abbrev pub in_quotes : ℕ → List StringPart → List ℕ
in_quotes q ps = q ∷ all_written ps ++ q ∷ []

-- ---- tokens

-- no longer operator begins with this byte, where this stands after it, and no comment
abbrev pub IsWholeMark : ℕ → List ℕ → Type 0
IsWholeMark a [] = Unit {0}
IsWholeMark a (b ∷ rest) = (two_byte_mark a b ≡ None) × (a ≡ SLASH → (b ≢ SLASH) × (b ≢ STAR))

-- a word: a letter or `_`, and letters, digits and `_`
abbrev pub IsNamed : List ℕ → List ℕ → Type 0
IsNamed [] rest = ⊥
IsNamed (b ∷ w) rest = (begins_name b ≡ true) × IsLongestRun goes_on w rest

-- one digit or more
abbrev pub AreDigits : List ℕ → List ℕ → Type 0
AreDigits w rest = (0 < length w) × IsLongestRun is_ascii_digit w rest

-- w is this token, where this stands after it
pub data IsOrdinary : (w rest : List ℕ) → Lexeme → Type 0 where
  name : (w rest : List ℕ) → IsNamed w rest → keyword_of_word w ≡ None → IsOrdinary w rest (lexeme.Name w)
  word : (w rest : List ℕ) (k : keyword.Keyword) → IsNamed w rest → keyword_of_word w ≡ Some k → IsOrdinary w rest (lexeme.Keyword k)
  long_mark : (a b : ℕ) (rest : List ℕ) (m : marks.Mark) → two_byte_mark a b ≡ Some m → IsOrdinary (a ∷ b ∷ []) rest (lexeme.Mark m)
  short_mark : (a : ℕ) (rest : List ℕ) (m : marks.Mark) → one_byte_mark a ≡ Some m → IsWholeMark a rest →
      IsOrdinary (a ∷ []) rest (lexeme.Mark m)
  number : (w rest : List ℕ) → AreDigits w rest → digits_value 10 w ≤ greatest_number →
      IsOrdinary w rest (lexeme.Number (pos (digits_value 10 w)))
  string : (q : ℕ) (ps : List StringPart) (rest : List ℕ) → is_quote q ≡ true → AllByRecursion (IsPart q) ps → AllByRecursion IsKnown ps →
      IsOrdinary (in_quotes q ps) rest (lexeme.String (map meant ps))
  variable : (w rest : List ℕ) (v : Variable) → variable_at (w ++ rest) ≡ Some (v, length w) →
      IsOrdinary (DOLLAR ∷ w) rest (lexeme.Variable v)

-- one to five digits that write a number 1 to 65535
pub record IsListenPort (w : List ℕ) : Type 0 where
  pub word : IsWord class.Digit w
  pub few : length w ≤ 5
  pub low : 0 < digits_value 10 w
  pub high : digits_value 10 w < 65536

-- udp:IP:PORT, and no digit after it
pub record IsListen (w rest : List ℕ) (l : Listen) : Type 0 where
  pub a : List ℕ
  pub b : List ℕ
  pub c : List ℕ
  pub d : List ℕ
  pub port : List ℕ
  pub whole : w ≡ codes "udp:" ++ (host (Numbers a b c d) ++ COLON ∷ port)
  pub octets : AreOctets a b c d
  pub is_port : IsListenPort port
  pub ends : Ends is_ascii_digit rest
  pub value : l ≡ record {
    ip = from_be_bytes w32 (digits_value 10 a ∷ digits_value 10 b ∷ digits_value 10 c ∷ digits_value 10 d ∷ []);
    port = digits_value 10 port;
  }

-- no token stands here that may stand in this context alone
abbrev pub NoSpecial : TokenContext → List ℕ → Type 0
NoSpecial BlockName text = Ends is_block_byte text
NoSpecial Address text = (w rest : List ℕ) (l : Listen) → text ≡ w ++ rest → IsListen w rest l → ⊥
NoSpecial Plain text = Unit {0}
NoSpecial BehindListen text = Unit {0}
NoSpecial BehindRoute text = Unit {0}

pub data IsToken : TokenContext → (w rest : List ℕ) → Lexeme → Type 0 where
  block_name : (w rest : List ℕ) → 0 < length w → IsLongestRun is_block_byte w rest → IsToken BlockName w rest (lexeme.BlockName w)
  listen : (w rest : List ℕ) (l : Listen) → IsListen w rest l → IsToken Address w rest (lexeme.Listen l)
  ordinary : (context : TokenContext) (w rest : List ℕ) (x : Lexeme) → NoSpecial context (w ++ rest) → IsOrdinary w rest x →
      IsToken context w rest x

-- ---- faults

-- with this byte nothing begins: no blank, comment, word, number, string, variable, operator or bracket
pub record IsStray (b : ℕ) (rest : List ℕ) : Type 0 where
  pub blank : is_blank b ≡ false
  pub hash : b ≢ HASH
  pub word : begins_name b ≡ false
  pub digit : is_ascii_digit b ≡ false
  pub quote : is_quote b ≡ false
  pub dollar : b ≢ DOLLAR
  pub short : one_byte_mark b ≡ None
  pub long : (c : ℕ) (more : List ℕ) → rest ≡ c ∷ more → two_byte_mark b c ≡ None

-- a fault of these bytes: its kind, and where it begins and ends
pub data IsFault : (fresh : Bool) (text : List ℕ) (kind from to : ℕ) → Type 0 where
  -- a string to whose end the text doesn't go
  open_string : (fresh : Bool) (q : ℕ) (ps : List StringPart) (text : List ℕ) → is_quote q ≡ true → AllByRecursion (IsPart q) ps →
      (text ≡ q ∷ all_written ps) ⊎ (text ≡ q ∷ all_written ps ++ BACKSLASH ∷ []) → IsFault fresh text (refusal_number refusal.Unclosed) 0 (length text)
  open_comment : (fresh : Bool) (w : List ℕ) → NoEnd w → IsFault fresh (SLASH ∷ STAR ∷ w) (refusal_number refusal.Unclosed) 0 (length w + 2)
  open_variable : (fresh : Bool) (w : List ℕ) → variable_at w ≡ None → is_cut_off w ≡ true → IsFault fresh (DOLLAR ∷ w) (refusal_number refusal.Unclosed) 0 (length w + 1)
  -- the first escape of a string that isn't one, with its backslash
  bad_escape : (fresh : Bool) (q : ℕ) (ps more : List StringPart) (b : ℕ) (rest : List ℕ) → is_quote q ≡ true →
      AllByRecursion (IsPart q) (ps ++ Escaped b ∷ more) → AllByRecursion IsKnown ps → is_escape b ≡ false →
      IsFault fresh (in_quotes q (ps ++ Escaped b ∷ more) ++ rest) (refusal_number refusal.BadByte) (length (all_written ps) + 1) (length (all_written ps) + 3)
  large_number : (fresh : Bool) (w rest : List ℕ) → AreDigits w rest → greatest_number < digits_value 10 w →
      IsFault fresh (w ++ rest) (refusal_number refusal.BadByte) 0 (length w)
  -- `#!` at a line's beginning, without one of the words with which it is a comment
  stray_hash : (fresh : Bool) (w : List ℕ) → is_no_comment fresh w ≡ true → IsFault fresh (HASH ∷ w) (refusal_number refusal.BadByte) 0 1
  stray_dollar : (fresh : Bool) (w : List ℕ) → variable_at w ≡ None → is_cut_off w ≡ false → IsFault fresh (DOLLAR ∷ w) (refusal_number refusal.BadByte) 0 1
  stray_byte : (fresh : Bool) (b : ℕ) (rest : List ℕ) → IsStray b rest → IsFault fresh (b ∷ rest) (refusal_number refusal.BadByte) 0 1

-- ---- the text

abbrev pub place_between : ℕ → ℕ → Place
place_between i j = record { from = i; to = j }

-- From the place i on, in this context, the text has these tokens.
pub data HasTokens : (text : List ℕ) (i : ℕ) → TokenContext → List Token → Type 0 where
  at_the_end : (text : List ℕ) (i : ℕ) (context : TokenContext) → drop i text ≡ [] → HasTokens text i context []
  gap : (text : List ℕ) (i : ℕ) (context : TokenContext) (w rest : List ℕ) (ts : List Token) → drop i text ≡ w ++ rest → IsBlankOrComment (begins_line text i) w rest →
      HasTokens text (i + length w) context ts → HasTokens text i context ts
  token : (text : List ℕ) (i : ℕ) (context : TokenContext) (w rest : List ℕ) (x : Lexeme) (ts : List Token) → drop i text ≡ w ++ rest →
      IsToken context w rest x → HasTokens text (i + length w) (behind context x) ts →
      HasTokens text i context (record { lexeme = x; at = place_between i (i + length w) } ∷ ts)

-- From the place i on, in this context, this is the first fault of the text.
pub data FirstFault : (text : List ℕ) (i : ℕ) → TokenContext → ScriptFault → Type 0 where
  here : (text : List ℕ) (i : ℕ) (context : TokenContext) (w : List ℕ) (kind from to : ℕ) → drop i text ≡ w → NoSpecial context w →
      IsFault (begins_line text i) w kind from to → FirstFault text i context (Refused kind (place_between (i + from) (i + to)))
  behind_gap : (text : List ℕ) (i : ℕ) (context : TokenContext) (w rest : List ℕ) (f : ScriptFault) → drop i text ≡ w ++ rest →
      IsBlankOrComment (begins_line text i) w rest → FirstFault text (i + length w) context f → FirstFault text i context f
  behind_token : (text : List ℕ) (i : ℕ) (context : TokenContext) (w rest : List ℕ) (x : Lexeme) (f : ScriptFault) → drop i text ≡ w ++ rest →
      IsToken context w rest x → FirstFault text (i + length w) (behind context x) f → FirstFault text i context f

-- how long a text may be: 1 MiB
abbrev pub longest : ℕ
longest = 1048576

-- The text has these tokens.
pub record TokensOf (text : List ℕ) (ts : List Token) : Type 0 where
  pub short : length text ≤ longest
  pub tokens : HasTokens text 0 Plain ts

-- This is the first fault of the text: TooLarge from the greatest length on, else the first BadByte or Unclosed.
pub data FaultOf : List ℕ → ScriptFault → Type 0 where
  too_long : (text : List ℕ) → longest < length text → FaultOf text (Refused (refusal_number refusal.TooLarge) (place_between longest (length text)))
  inside : (text : List ℕ) (f : ScriptFault) → length text ≤ longest → FirstFault text 0 Plain f → FaultOf text f

-- Whatever is given in place of tokens is the text's first fault, or out of memory.
abbrev pub IsFaultOf : List ℕ → ScriptFault → Type 0
IsFaultOf text (Refused kind at) = FaultOf text (Refused kind at)
IsFaultOf text NoMemory = Unit {0}
