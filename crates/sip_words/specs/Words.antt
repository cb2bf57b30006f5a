-- Words, as functions of a text and a place in it: where the word that stands there ends.
use Rattle.std.specs.Prelude.{ℕ, Bool, false, List, [], ◌∷◌, ◌+◌, ◌==◌, cond, drop, length, Option, Some, None, nat_lt, option_and_then, if◌then◌else◌, slice_get, slice_range, option_map}
use Rattle.std.specs.List.{prefix_len}
use Rattle.std.specs.Str.{str_eq_ignore_ascii_case}
use Rattle.sip_words.specs.ByteNames.{LF, CR, DQUOTE, BACKSLASH}
use Rattle.sip_words.specs.declared.bytes.Class.{Class}
use Rattle.sip_words.specs.Bytes.{is_wsp, has}

infixl 10 ◌>>=◌
abbrev pub ◌>>=◌ : {A B : Type 0} → Option A → (A → Option B) → Option B
o >>= f = option_and_then f o

-- where the longest run of bytes of a class from i on ends
unfoldable pub run_end : Class → List ℕ → ℕ → ℕ
run_end class text i = i + prefix_len (has class) (drop i text)

-- the end of one or more bytes of a class
abbrev pub word_end : Class → List ℕ → ℕ → Option ℕ
word_end class text i = if nat_lt i (run_end class text i) then Some (run_end class text i) else None

-- SP, HTAB, or CRLF and one of these
abbrev pub is_fold : ℕ → ℕ → ℕ → Bool
is_fold a b c = cond (a == CR) (cond (b == LF) (is_wsp c) false) false

-- the length of the SP, HTAB or fold at the front, or 0
unfoldable pub blank_len : List ℕ → ℕ
blank_len [] = 0
blank_len (a ∷ []) = cond (is_wsp a) 1 0
blank_len (a ∷ b ∷ []) = cond (is_wsp a) 1 0
blank_len (a ∷ b ∷ c ∷ rest) = cond (is_wsp a) 1 (cond (is_fold a b c) 3 0)

-- how many bytes of LWS stand at the front
unfoldable pub lws_len : List ℕ → ℕ
lws_len [] = 0
lws_len (a ∷ []) = cond (is_wsp a) 1 0
lws_len (a ∷ b ∷ []) = cond (is_wsp a) (1 + lws_len (b ∷ [])) 0
lws_len (a ∷ b ∷ c ∷ rest) = cond (is_wsp a) (1 + lws_len (b ∷ c ∷ rest)) (cond (is_fold a b c) (3 + lws_len rest) 0)

unfoldable pub lws_end : List ℕ → ℕ → ℕ
lws_end text i = i + lws_len (drop i text)

-- the end of the LWS, where there is some
unfoldable pub gap_end : List ℕ → ℕ → Option ℕ
gap_end text i = if nat_lt i (lws_end text i) then Some (lws_end text i) else None

-- how many bytes up to the closing quote, and with it
unfoldable pub quoted_len : List ℕ → Option ℕ
quoted_len [] = None
quoted_len (b ∷ []) = cond (b == DQUOTE) (Some 1) None
quoted_len (b ∷ c ∷ rest) = cond (b == DQUOTE) (Some 1) (cond (b == BACKSLASH) (option_map (λ n. 2 + n) (quoted_len rest)) (option_map (λ n. 1 + n) (quoted_len (c ∷ rest))))

unfoldable pub quoted_end : List ℕ → ℕ → Option ℕ
quoted_end text i = option_map (λ n. i + n) (quoted_len (drop i text))

abbrev pub is_the : ℕ → Option ℕ → Bool
is_the b None = false
is_the b (Some c) = c == b

-- whether this byte stands at i
unfoldable pub stands : ℕ → List ℕ → ℕ → Bool
stands b text i = is_the b (slice_get text i)

-- the place behind this byte, where it stands at i
unfoldable pub byte_end : ℕ → List ℕ → ℕ → Option ℕ
byte_end b text i = if stands b text i then Some (i + 1) else None

-- the end of this word, whose case is ignored
unfoldable pub word_at : List ℕ → List ℕ → ℕ → Option ℕ
word_at word text i = if str_eq_ignore_ascii_case (slice_range text i (i + length word)) word then Some (i + length word) else None
