-- What stands at the beginning of a text, as a function: a token, what parts tokens, or what no token begins with.
use Rattle.std.specs.Prelude.{◌≡◌, ◌≤◌, ◌<◌, ℕ, ◌+◌, ◌-◌, ◌==◌, Bool, ◌||◌, List, [], ◌∷◌, take, drop, Option, Some, None, Result, Ok, Err, slice_get, if◌then◌else◌, ℤ}
use Rattle.std.specs.List.{prefix_len}
use Rattle.std.specs.Char.{is_ascii_digit}
use Rattle.sip_words.specs.Words.{is_the}
use Rattle.pv_values.specs.Numbers.{number_in}
use Rattle.pv_values.specs.declared.refusal.ScriptFault.{ScriptFault}
use Rattle.pv_values.specs.declared.refusal.ScriptFault.TheVariants.{Refused}
use Rattle.cfg_tree.specs.declared.token.Lexeme.{Lexeme}
use Rattle.cfg_tree.specs.declared.token.Lexeme.TheVariants as lexeme
use Rattle.cfg_tree.specs.declared.token.Keyword as keyword
use Rattle.cfg_tree.specs.declared.token.Mark as marks
use Rattle.cfg_tree.specs.declared.token.Mark.TheVariants.{Divide}
use Rattle.cfg_tree.specs.declared.setting.Listen.{Listen}
use Rattle.cfg_tree.specs.Variables.{begins_name, name_len, before, begins_with}
use Rattle.cfg_lex.specs.declared.context.TokenContext.{TokenContext}
use Rattle.cfg_lex.specs.declared.context.TokenContext.TheVariants as context
use Rattle.cfg_lex.specs.declared.shape.TokenShape.{TokenShape}
use Rattle.cfg_lex.specs.declared.shape.TokenShape.TheVariants as shape
use Rattle.cfg_lex.specs.declared.shape.Found.{Found}
use Rattle.cfg_lex.specs.declared.shape.Found.TheVariants.{Gap, Token}
use Rattle.cfg_lex.specs.declared.shape.Wrong.{Wrong}
use Rattle.cfg_lex.specs.declared.shape.Wrong.TheVariants.{BadByte, Unclosed}
use Rattle.cfg_lex.specs.declared.variable.VariableForm.{VariableForm}
use Rattle.cfg_lex.specs.Bytes.{is_blank, is_block_byte, is_quote}
use Rattle.cfg_lex.specs.Comments.{is_no_comment, before_end}
use Rattle.cfg_lex.specs.Words.{keyword_of_word}
use Rattle.cfg_lex.specs.Marks.{two_byte_mark, one_byte_mark}
use Rattle.cfg_lex.specs.Strings.{before_quote, bad_escape, unescaped}
use Rattle.cfg_lex.specs.Variables.{form_at, variable_of, is_cut_off, FormIsWithin}
use Rattle.cfg_lex.specs.Listens.{listen_at}
use Rattle.sip_words.specs.ByteNames.{LF, SLASH}
use Rattle.cfg_tree.specs.ByteNames.{DOLLAR}
use Rattle.cfg_lex.specs.ByteNames.{HASH, STAR}
use Rattle.cfg_tree.specs.RefusalKinds.{refusal_number}
use Rattle.cfg_tree.specs.declared.refusal_kind.RefusalKind.TheVariants as refusal

abbrev pub bad : ℕ → ℕ → Result Found Wrong
bad from to = Err (BadByte from to)

-- after a `#`
unfoldable pub hash_at : Bool → List ℕ → Result Found Wrong
hash_at fresh text = if is_no_comment fresh text then bad 0 1 else Ok (Gap (1 + before LF text))

abbrev pub comment_to : Option ℕ → Result Found Wrong
comment_to None = Err Unclosed
comment_to (Some k) = Ok (Gap (k + 4))

-- after a `/`
unfoldable pub slash_at : List ℕ → Result Found Wrong
slash_at text =
    if begins_with SLASH text then Ok (Gap (2 + before LF (drop 1 text)))
    else if begins_with STAR text then comment_to (before_end (drop 1 text)) else Ok (Token (shape.Mark Divide) 1)

abbrev pub word_shape : Option keyword.Keyword → TokenShape
word_shape None = shape.Name
word_shape (Some k) = shape.Keyword k

unfoldable pub word_token_at : List ℕ → Result Found Wrong
word_token_at text = let n = name_len text in Ok (Token (word_shape (keyword_of_word (take n text))) n)

abbrev pub number_to : ℕ → Option ℤ → Result Found Wrong
number_to n None = bad 0 n
number_to n (Some z) = Ok (Token (shape.Number z) n)

unfoldable pub number_token_at : List ℕ → Result Found Wrong
number_token_at text = let n = prefix_len is_ascii_digit text in number_to n (number_in (take n text))

abbrev pub string_of : ℕ → Option ℕ → Result Found Wrong
string_of k None = Ok (Token shape.String (k + 2))
string_of k (Some j) = bad (j + 1) (j + 3)

abbrev pub string_to : List ℕ → Option ℕ → Result Found Wrong
string_to text None = Err Unclosed
string_to text (Some k) = string_of k (bad_escape (take k text))

-- after a quote
unfoldable pub string_at : ℕ → List ℕ → Result Found Wrong
string_at q text = string_to text (before_quote q text)

abbrev pub variable_to : List ℕ → Option VariableForm → Result Found Wrong
variable_to text None = if is_cut_off text then Err Unclosed else bad 0 1
variable_to text (Some f) = Ok (Token (shape.Variable f) (f.len + 1))

-- after a `$`
unfoldable pub dollar_at : List ℕ → Result Found Wrong
dollar_at text = variable_to text (form_at text)

abbrev pub one_byte : Option marks.Mark → Result Found Wrong
one_byte None = bad 0 1
one_byte (Some m) = Ok (Token (shape.Mark m) 1)

abbrev pub two_bytes : ℕ → Option marks.Mark → Result Found Wrong
two_bytes a None = one_byte (one_byte_mark a)
two_bytes a (Some m) = Ok (Token (shape.Mark m) 2)

-- an operator or a bracket, the longest
unfoldable pub mark_token_at : ℕ → List ℕ → Result Found Wrong
mark_token_at a [] = one_byte (one_byte_mark a)
mark_token_at a (b ∷ text) = two_bytes a (two_byte_mark a b)

-- what may stand at every place
unfoldable pub ordinary_at : Bool → List ℕ → Result Found Wrong
ordinary_at fresh [] = bad 0 1
ordinary_at fresh (c ∷ text) =
    if is_blank c then Ok (Gap 1)
    else if c == HASH then hash_at fresh text
    else if c == SLASH then slash_at text
    else if begins_name c then word_token_at (c ∷ text)
    else if is_ascii_digit c then number_token_at (c ∷ text)
    else if is_quote c then string_at c text
    else if c == DOLLAR then dollar_at text
    else mark_token_at c text

abbrev pub block_name_or : ℕ → Result Found Wrong → Result Found Wrong
block_name_or n other = if n == 0 then other else Ok (Token shape.BlockName n)

abbrev pub listen_or : Option (Listen × ℕ) → Result Found Wrong → Result Found Wrong
listen_or None other = other
listen_or (Some l) other = Ok (Token (shape.Listen l.0) l.1)

-- and what may stand here alone
unfoldable pub found_at : Bool → TokenContext → List ℕ → Result Found Wrong
found_at fresh context.BlockName text = block_name_or (prefix_len is_block_byte text) (ordinary_at fresh text)
found_at fresh context.Address text = listen_or (listen_at text) (ordinary_at fresh text)
found_at fresh context.Plain text = ordinary_at fresh text
found_at fresh context.BehindListen text = ordinary_at fresh text
found_at fresh context.BehindRoute text = ordinary_at fresh text

-- the token of this shape and length at the beginning of a text
unfoldable pub lexeme_of : List ℕ → TokenShape → ℕ → Lexeme
lexeme_of text shape.Name n = lexeme.Name (take n text)
lexeme_of text (shape.Keyword k) n = lexeme.Keyword k
lexeme_of text (shape.Mark m) n = lexeme.Mark m
lexeme_of text (shape.Number z) n = lexeme.Number z
lexeme_of text shape.String n = lexeme.String (unescaped (take (n - 2) (drop 1 text)))
lexeme_of text (shape.Variable f) n = lexeme.Variable (variable_of (drop 1 text) f)
lexeme_of text (shape.Listen l) n = lexeme.Listen l
lexeme_of text shape.BlockName n = lexeme.BlockName (take n text)

-- a line begins at this place: at the text's beginning, and after an LF
unfoldable pub begins_line : List ℕ → ℕ → Bool
begins_line text i = (i == 0) || is_the LF (slice_get text (i - 1))

-- a shape of this length lies in so many bytes
abbrev pub IsWhole : ℕ → TokenShape → ℕ → Type 0
IsWhole len shape.Name n = n ≤ len
IsWhole len (shape.Keyword k) n = n ≤ len
IsWhole len (shape.Mark m) n = n ≤ len
IsWhole len (shape.Number z) n = n ≤ len
IsWhole len shape.String n = (2 ≤ n) × (n ≤ len)
IsWhole len (shape.Variable f) n = (f.len + 1 ≡ n) × (1 ≤ len) × FormIsWithin (len - 1) f × (n ≤ len)
IsWhole len (shape.Listen l) n = n ≤ len
IsWhole len shape.BlockName n = n ≤ len

-- so does what was found, and it has a byte
abbrev pub FitsIn : ℕ → Found → Type 0
FitsIn len (Gap n) = (0 < n) × (n ≤ len)
FitsIn len (Token s n) = (0 < n) × (n ≤ len) × IsWhole len s n

abbrev pub WrongEndsIn : ℕ → Wrong → Type 0
WrongEndsIn len (BadByte from to) = (from ≤ len) × (to ≤ len + 1)
WrongEndsIn len Unclosed = Unit {0}

-- the refusal of what stands at the place i of a text of this length
abbrev pub refused : ℕ → ℕ → Wrong → ScriptFault
refused i len (BadByte from to) = Refused (refusal_number refusal.BadByte) (record { from = i + from; to = i + to })
refused i len Unclosed = Refused (refusal_number refusal.Unclosed) (record { from = i; to = len })
