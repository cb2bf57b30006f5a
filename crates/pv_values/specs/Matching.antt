-- What a pattern is, and what it matches: `regex`'s grammar, and its definition of a match in bytes.
use Rattle.std.specs.Prelude.{◌≡◌, ℕ, ◌<◌, get_or, Bool, false, ◌&&◌, nat_le, List, Option, Some, None, is_some, chars}
use Rattle.std.specs.Str.{is_utf8}
use Rattle.regex_syntax.specs.Grammar.{Names, read}
use Rattle.regex_syntax.specs.Brackets.{Nested}
use Rattle.regex_syntax.specs.Verdict.{default_config}
use Rattle.regex_syntax.specs.declared.Config.{Config}
use Rattle.regex_hir.specs.Re.{Re}
use Rattle.regex_hir.specs.Find.{find}

-- the default options, for bytes
abbrev pub byte_config : Config
byte_config = record default_config { utf8 = false }

-- what the grammar reads in the text of a pattern
unfoldable pub pattern_in : List ℕ → Option (Nested Re × Names)
pattern_in source = read byte_config (chars source)

abbrev pub is_shallow : Option (Nested Re × Names) → Bool
is_shallow None = false
is_shallow (Some (re, names)) = nat_le re.depth byte_config.nest_limit

-- the text is a pattern, and not nested too deep
abbrev pub is_pattern : List ℕ → Bool
is_pattern source = is_utf8 source && is_shallow (pattern_in source)

abbrev pub finds : Option (Nested Re × Names) → List ℕ → Bool
finds None text = false
finds (Some (re, names)) text = is_some (find re.value text 0)

-- the pattern matches somewhere in the text
unfoldable pub matches_in : List ℕ → List ℕ → Bool
matches_in source text = finds (pattern_in source) text

-- what is searched for is found in the texts of bytes in which the pattern matches
abbrev pub FindsAs : Re → List ℕ → Type 0
FindsAs re source =
    (text : List ℕ) → ((k : ℕ) → get_or text k 0 < 256) → is_some (find re text 0) ≡ matches_in source text
