-- What a reading says of a text.
use Rattle.std.proofs.Common.{◌≡◌, ℕ, Bool, List, length, take, drop, subst, Result, Ok, Err}
use Rattle.cfg_tree.specs.declared.token.Lexeme.{Lexeme}
use Rattle.cfg_lex.specs.declared.shape.TokenShape.{TokenShape}
use Rattle.cfg_lex.specs.declared.shape.Found.{Found}
use Rattle.cfg_lex.specs.declared.shape.Found.TheVariants.{Gap, Token}
use Rattle.cfg_lex.specs.declared.shape.Wrong.{Wrong}
use Rattle.cfg_lex.specs.declared.shape.Wrong.TheVariants.{BadByte, Unclosed}
use Rattle.cfg_lex.specs.Shapes.{ordinary_at, lexeme_of}
use Rattle.cfg_lex.specs.Tokens.{IsBlankOrComment, IsOrdinary, IsFault}

-- what is read of a text is what stands at its beginning
abbrev pub Reads : Bool → List ℕ → Result Found Wrong → Type 0
Reads fresh text (Ok (Gap n)) = IsBlankOrComment fresh (take n text) (drop n text)
Reads fresh text (Ok (Token s n)) = IsOrdinary (take n text) (drop n text) (lexeme_of text s n)
Reads fresh text (Err (BadByte from to)) = IsFault fresh text 1 from to
Reads fresh text (Err Unclosed) = IsFault fresh text 2 0 (length text)

abbrev pub token : TokenShape → ℕ → Result Found Wrong
token s n = Ok (Token s n)

-- a text at whose beginning a token of this shape is read, w long
pub record ReadsToken (fresh : Bool) (text w : List ℕ) (x : Lexeme) : Type 0 where
  pub shape : TokenShape
  pub read : ordinary_at fresh text ≡ token shape (length w)
  pub lexeme : lexeme_of text shape (length w) ≡ x

pub same_fault : (fresh : Bool) (a b : List ℕ) (kind i j m n : ℕ) → IsFault fresh a kind i j → a ≡ b → i ≡ m → j ≡ n → IsFault fresh b kind m n
same_fault fresh a b kind i j m n h text from to =
    subst (λ k. IsFault fresh b kind m k) to (subst (λ k. IsFault fresh b kind k j) from (subst (λ xs. IsFault fresh xs kind i j) text h))

pub same_token : (w v rest more : List ℕ) (x y : Lexeme) → IsOrdinary w rest x → w ≡ v → rest ≡ more → x ≡ y → IsOrdinary v more y
same_token w v rest more x y h word behind lexeme =
    subst (λ z. IsOrdinary v more z) lexeme (subst (λ xs. IsOrdinary v xs x) behind (subst (λ xs. IsOrdinary xs rest x) word h))
