-- Strings: what stands between the quotes, and the bytes that it stands for.
use Rattle.std.specs.Prelude.{ℕ, ◌+◌, ◌==◌, Bool, not, ◌&&◌, List, [], ◌∷◌, Option, Some, None, option_map, codes, if◌then◌else◌}
use Rattle.sip_words.specs.Bytes.{is_one_of}
use Rattle.sip_words.specs.ByteNames.{HTAB, LF, CR, BACKSLASH}
use Rattle.cfg_lex.specs.ByteNames.{LETTER_N, LETTER_R, LETTER_T}

-- \\ \" \' \n \r \t
abbrev pub is_escape : ℕ → Bool
is_escape b = is_one_of (codes "\\\"'nrt") b

-- the byte that stands for the one after a backslash
abbrev pub escaped : ℕ → ℕ
escaped b = if b == LETTER_N then LF else if b == LETTER_R then CR else if b == LETTER_T then HTAB else b

-- how many bytes stand before the quote that closes a string; a backslash takes the byte after it along
unfoldable pub before_quote : ℕ → List ℕ → Option ℕ
before_quote q [] = None
before_quote q (b ∷ []) = if b == q then Some 0 else None
before_quote q (b ∷ c ∷ text) =
    if b == q then Some 0
    else if b == BACKSLASH then option_map (λ n. 2 + n) (before_quote q text) else option_map (λ n. 1 + n) (before_quote q (c ∷ text))

-- a backslash after which there is no escape
abbrev pub is_bad : ℕ → ℕ → Bool
is_bad b c = (b == BACKSLASH) && not (is_escape c)

-- where the first one stands
unfoldable pub bad_escape : List ℕ → Option ℕ
bad_escape [] = None
bad_escape (b ∷ []) = None
bad_escape (b ∷ c ∷ text) =
    if is_bad b c then Some 0
    else if b == BACKSLASH then option_map (λ n. 2 + n) (bad_escape text) else option_map (λ n. 1 + n) (bad_escape (c ∷ text))

-- the bytes that these stand for
unfoldable pub unescaped : List ℕ → List ℕ
unescaped [] = []
unescaped (b ∷ []) = b ∷ []
unescaped (b ∷ c ∷ text) = if b == BACKSLASH then escaped c ∷ unescaped text else b ∷ unescaped (c ∷ text)

-- the first of them, and how many bytes are written for it
unfoldable pub first_meant : List ℕ → ℕ × ℕ
first_meant [] = (0, 0)
first_meant (b ∷ []) = (b, 1)
first_meant (b ∷ c ∷ text) = if b == BACKSLASH then (escaped c, 2) else (b, 1)
