-- Variables as they are written, and the pieces of a text that is expanded.
use Rattle.std.specs.Prelude.{ℕ, zero, suc, ◌+◌, ◌==◌, Bool, not, ◌&&◌, ◌||◌, nat_le, List, [], ◌∷◌, length, take, drop, Option, Some, None, option_map, if◌then◌else◌}
use Rattle.std.specs.List.{prefix_len}
use Rattle.std.specs.Char.{is_ascii_alphabetic, is_ascii_alphanumeric}
use Rattle.cfg_tree.specs.declared.token.Variable.{Variable}
use Rattle.cfg_tree.specs.ByteNames.{DOLLAR, LPAREN, RPAREN, UNDERSCORE, LBRACE, RBRACE}

-- a name begins with a letter or `_`, and goes on with these and digits
abbrev pub begins_name : ℕ → Bool
begins_name c = is_ascii_alphabetic c || (c == UNDERSCORE)

abbrev pub goes_on : ℕ → Bool
goes_on c = is_ascii_alphanumeric c || (c == UNDERSCORE)

-- the length of the name at the beginning of a text, the greatest; 0 where none stands there
abbrev pub name_len : List ℕ → ℕ
name_len [] = 0
name_len (c ∷ cs) = if begins_name c then suc (prefix_len goes_on cs) else 0

abbrev pub is_name : List ℕ → Bool
is_name text = nat_le 1 (length text) && (name_len text == length text)

-- the text begins with this byte
abbrev pub begins_with : ℕ → List ℕ → Bool
begins_with b [] = nat_le 1 0
begins_with b (c ∷ cs) = c == b

-- how many bytes stand before the first one of this value
abbrev pub before : ℕ → List ℕ → ℕ
before b = prefix_len (λ c. not (c == b))

-- how many bytes stand before the `)` that closes the bracket; so many more are open
abbrev pub before_close : ℕ → List ℕ → Option ℕ
before_close opened [] = None
before_close zero (c ∷ cs) = if c == RPAREN then Some 0 else option_map suc (before_close (if c == LPAREN then 1 else 0) cs)
before_close (suc opened) (c ∷ cs) =
    option_map suc (before_close (if c == RPAREN then opened else if c == LPAREN then opened + 2 else opened + 1) cs)

-- the variable `NAME(INNER)` with a name of this length, and how many bytes it takes
abbrev pub with_inner : ℕ → List ℕ → Option ℕ → Option (Variable × ℕ)
with_inner n text None = None
with_inner n text (Some k) = Some (
  record {
    name = take n text;
    inner = Some (take k (drop (n + 1) text));
    transformation = None;
  },
  n + k + 2,
)

-- NAME or NAME(INNER) at the beginning of a text, and how many bytes it takes
unfoldable pub named_at : List ℕ → Option (Variable × ℕ)
named_at text =
    let n = name_len text in
    if n == 0 then None
    else if begins_with LPAREN (drop n text) then with_inner n text (before_close 0 (drop (n + 1) text))
    else Some (record { name = take n text; inner = None; transformation = None }, n)

-- the same variable with the transformation after it, in `(NAME{TRANSFORMATION})`
abbrev pub with_transformation : List ℕ → Option (Variable × ℕ) → Option (Variable × ℕ)
with_transformation text None = None
with_transformation text (Some (v, n)) =
    let k = before RBRACE (drop (n + 2) text) in
    if begins_with LBRACE (drop (n + 1) text) && begins_with RBRACE (drop (n + 2 + k) text) && begins_with RPAREN (drop (n + 3 + k) text)
    then Some (record v { transformation = Some (take k (drop (n + 2) text)) }, n + k + 4) else None

-- the variable after a `$`, and how many bytes it takes
unfoldable pub variable_at : List ℕ → Option (Variable × ℕ)
variable_at text = if begins_with LPAREN text then with_transformation text (named_at (drop 1 text)) else named_at text

-- a piece of a text that is expanded
pub data Piece : Type 0 where
  Plain : List ℕ → Piece
  Of : Variable → Piece

-- the pieces after a variable
abbrev pub behind_variable : (List ℕ → Option (List Piece)) → List ℕ → Option (Variable × ℕ) → Option (List Piece)
behind_variable more text None = None
behind_variable more text (Some (v, n)) = option_map (λ ps. Of v ∷ ps) (more (drop n text))

-- The pieces of a text: bytes that stand for themselves, `$$` for `$`, and variables. There are at most so many.
unfoldable pub pieces_in : ℕ → List ℕ → Option (List Piece)
pieces_in count [] = Some []
pieces_in zero (c ∷ cs) = None
pieces_in (suc count) (c ∷ cs) =
    let n = before DOLLAR (c ∷ cs) in
    if nat_le 1 n then option_map (λ ps. Plain (take n (c ∷ cs)) ∷ ps) (pieces_in count (drop n (c ∷ cs)))
    else if begins_with DOLLAR cs then option_map (λ ps. Plain (DOLLAR ∷ []) ∷ ps) (pieces_in count (drop 1 cs))
    else behind_variable (pieces_in count) cs (variable_at cs)

abbrev pub pieces_of : List ℕ → Option (List Piece)
pieces_of text = pieces_in (length text) text
