-- Comments: `#` and `//` to the line's end, and `/*` to the first `*/`.
use Rattle.std.specs.Prelude.{ℕ, ◌+◌, ◌==◌, Bool, false, ◌&&◌, not, List, [], ◌∷◌, take, drop, Option, Some, None, option_map, codes, if◌then◌else◌}
use Rattle.std.specs.List.{prefix_len, list_any}
use Rattle.std.specs.Str.{bytes_eq}
use Rattle.cfg_tree.specs.Variables.{goes_on, begins_with}
use Rattle.sip_words.specs.ByteNames.{SLASH}
use Rattle.cfg_lex.specs.ByteNames.{EXCLAMATION, STAR}

-- the words after a `#!` at a line's beginning with which it is a comment
abbrev pub dialects : List (List ℕ)
dialects = codes "KAMAILIO" ∷ codes "OPENSER" ∷ codes "SER" ∷ codes "MAXCOMPAT" ∷ codes "ALL" ∷ []

-- one of them stands here, and no letter, digit or `_` after it
unfoldable pub names_dialect : List ℕ → Bool
names_dialect text = list_any (bytes_eq (take (prefix_len goes_on text) text)) dialects

-- what stands after a `#` makes it no comment: at a line's beginning a `!`, and none of the dialects
unfoldable pub is_no_comment : Bool → List ℕ → Bool
is_no_comment fresh text = fresh && (begins_with EXCLAMATION text && not (names_dialect (drop 1 text)))

-- `*/` stands at the beginning
unfoldable pub begins_end : List ℕ → Bool
begins_end [] = false
begins_end (a ∷ text) = (a == STAR) && begins_with SLASH text

-- how many bytes stand before the first `*/`
unfoldable pub before_end : List ℕ → Option ℕ
before_end [] = None
before_end (a ∷ text) = if begins_end (a ∷ text) then Some 0 else option_map (λ n. 1 + n) (before_end text)
