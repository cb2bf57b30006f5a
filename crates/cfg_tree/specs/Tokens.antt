-- Tokens, by what they are.
use Rattle.std.specs.Prelude.{◌≡◌, ℕ, List, [], ◌∷◌}
use Rattle.pv_values.specs.declared.refusal.Place.{Place}
use Rattle.cfg_tree.specs.declared.token.Token.{Token}
use Rattle.cfg_tree.specs.declared.token.Lexeme.{Lexeme}
use Rattle.cfg_tree.specs.declared.token.Lexeme.TheVariants as lexeme
use Rattle.cfg_tree.specs.declared.token.Keyword as keyword
use Rattle.cfg_tree.specs.declared.token.Mark as mark
use Rattle.cfg_tree.specs.declared.raw.Word.{Word}

abbrev pub IsA : Lexeme → Token → Type 0
IsA x t = t.lexeme ≡ x

abbrev pub IsMark : mark.Mark → Token → Type 0
IsMark m t = IsA (lexeme.Mark m) t

abbrev pub IsKeyword : keyword.Keyword → Token → Type 0
IsKeyword k t = IsA (lexeme.Keyword k) t

-- a name or a string, at its token
abbrev pub word : List ℕ → Token → Word
word text t = record { text = text; at = t.at }

-- the part of the text from the first of the tokens to the last
abbrev pub first_byte : List Token → ℕ
first_byte [] = 0
first_byte (t ∷ ts) = t.at.from

abbrev pub end_behind : ℕ → List Token → ℕ
end_behind end [] = end
end_behind end (t ∷ ts) = end_behind t.at.to ts

abbrev pub whole : List Token → Place
whole ts = record { from = first_byte ts; to = end_behind 0 ts }
