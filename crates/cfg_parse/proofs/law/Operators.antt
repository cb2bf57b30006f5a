-- Operators, by the tokens that are them, and what ends an operand of each level.
use Rattle.std.specs.Prelude.{true, false, List, ◌∷◌, Option, Some, None, IfSome}
use Rattle.std.proofs.Common.{◌≡◌, refl, sym, subst}
use Rattle.std.proofs.lemmas.Bool.{both_ways}
use Rattle.pv_values.specs.declared.operator.BinOp.{BinOp}
use Rattle.pv_values.specs.declared.refusal.Place.{Place}
use Rattle.cfg_tree.specs.declared.token.Token.{Token}
use Rattle.cfg_tree.specs.declared.token.Lexeme.{Lexeme}
use Rattle.cfg_tree.specs.declared.token.Lexeme.TheVariants as lexeme
use Rattle.cfg_tree.specs.declared.token.Keyword.TheVariants as word_is
use Rattle.cfg_tree.specs.declared.token.Mark.TheVariants as mark
use Rattle.cfg_tree.specs.Tokens.{IsA}
use Rattle.cfg_tree.specs.Grammar as tree
use Rattle.cfg_tree.specs.Grammar.{LinkIs, JoinIs, CompareIs}
use Rattle.cfg_parse.specs.Reader.{first, holds_for, is_mark}
use Rattle.cfg_parse.specs.Exprs.{factor_operator, term_operator, comparison_operator, is_and, is_or}

pub factor_is : (x : Lexeme) (at : Place) → IfSome (factor_operator (Some x)) (λ op. LinkIs tree.Unary op (record { lexeme = x; at = at }))
factor_is (lexeme.Mark mark.Times) at = tree.times (record { lexeme = lexeme.Mark mark.Times; at = at }) refl
factor_is (lexeme.Mark mark.Divide) at = tree.divided (record { lexeme = lexeme.Mark mark.Divide; at = at }) refl
factor_is (lexeme.Keyword word_is.Mod) at = tree.rest (record { lexeme = lexeme.Keyword word_is.Mod; at = at }) refl
factor_is _ at = tt

pub term_is : (x : Lexeme) (at : Place) → IfSome (term_operator (Some x)) (λ op. LinkIs tree.Product op (record { lexeme = x; at = at }))
term_is (lexeme.Mark mark.Plus) at = tree.plus (record { lexeme = lexeme.Mark mark.Plus; at = at }) refl
term_is (lexeme.Mark mark.Minus) at = tree.minus (record { lexeme = lexeme.Mark mark.Minus; at = at }) refl
term_is _ at = tt

pub comparison_is : (x : Lexeme) (at : Place) → IfSome (comparison_operator (Some x)) (λ op. CompareIs op (record { lexeme = x; at = at }))
comparison_is (lexeme.Mark mark.Equal) at = tree.equal (record { lexeme = lexeme.Mark mark.Equal; at = at }) refl
comparison_is (lexeme.Mark mark.NotEqual) at = tree.not_equal (record { lexeme = lexeme.Mark mark.NotEqual; at = at }) refl
comparison_is (lexeme.Mark mark.Less) at = tree.less (record { lexeme = lexeme.Mark mark.Less; at = at }) refl
comparison_is (lexeme.Mark mark.Greater) at = tree.greater (record { lexeme = lexeme.Mark mark.Greater; at = at }) refl
comparison_is (lexeme.Mark mark.LessOrEqual) at = tree.less_or_equal (record { lexeme = lexeme.Mark mark.LessOrEqual; at = at }) refl
comparison_is (lexeme.Mark mark.GreaterOrEqual) at = tree.greater_or_equal (record { lexeme = lexeme.Mark mark.GreaterOrEqual; at = at }) refl
comparison_is _ at = tt

pub and_is : (x : Lexeme) (at : Place) → is_and (Some x) ≡ true → JoinIs tree.Comparison (record { lexeme = x; at = at })
and_is (lexeme.Mark mark.And) at h = tree.and_mark (record { lexeme = lexeme.Mark mark.And; at = at }) refl
and_is (lexeme.Keyword word_is.And) at h = tree.and_word (record { lexeme = lexeme.Keyword word_is.And; at = at }) refl
and_is _ at h = absurd (both_ways false refl h)

pub or_is : (x : Lexeme) (at : Place) → is_or (Some x) ≡ true → JoinIs tree.And (record { lexeme = x; at = at })
or_is (lexeme.Mark mark.Or) at h = tree.or_mark (record { lexeme = lexeme.Mark mark.Or; at = at }) refl
or_is (lexeme.Keyword word_is.Or) at h = tree.or_word (record { lexeme = lexeme.Keyword word_is.Or; at = at }) refl
or_is _ at h = absurd (both_ways false refl h)

-- ---- what ends an operand of each level

abbrev pub UnaryEnds : Option Lexeme → Type 0
UnaryEnds o = Unit {0}

abbrev pub ProductEnds : Option Lexeme → Type 0
ProductEnds o = factor_operator o ≡ None

abbrev pub SumEnds : Option Lexeme → Type 0
SumEnds o = ProductEnds o × (term_operator o ≡ None)

abbrev pub ComparisonEnds : Option Lexeme → Type 0
ComparisonEnds o = SumEnds o × ((comparison_operator o ≡ None) × (holds_for (is_mark mark.Matches) o ≡ false))

abbrev pub AllEnds : Option Lexeme → Type 0
AllEnds o = ComparisonEnds o × (is_and o ≡ false)

abbrev pub AnyEnds : Option Lexeme → Type 0
AnyEnds o = AllEnds o × (is_or o ≡ false)

-- what holds of a token that is this
at_token : (P : Option Lexeme → Type 0) (t : Token) {x : Lexeme} → IsA x t → P (Some x) → P (Some t.lexeme)
at_token P t h p = subst (λ (y : Lexeme). P (Some y)) (sym h) p

pub at_first : (P : Option Lexeme → Type 0) (t : Token) (ts : List Token) {x : Lexeme} → IsA x t → P (Some x) → P (first (t ∷ ts))
unfolding first
at_first P t ts h p = subst (λ (y : Lexeme). P (Some y)) (sym h) p

pub factor_read : (t : Token) (op : BinOp) → LinkIs tree.Unary op t → factor_operator (Some t.lexeme) ≡ Some op
factor_read _ _ (tree.times t h) = at_token (λ o. factor_operator o ≡ Some BinOp.Mul) t h refl
factor_read _ _ (tree.divided t h) = at_token (λ o. factor_operator o ≡ Some BinOp.Div) t h refl
factor_read _ _ (tree.rest t h) = at_token (λ o. factor_operator o ≡ Some BinOp.Rem) t h refl

pub term_read : (t : Token) (op : BinOp) → LinkIs tree.Product op t → term_operator (Some t.lexeme) ≡ Some op
term_read _ _ (tree.plus t h) = at_token (λ o. term_operator o ≡ Some BinOp.Add) t h refl
term_read _ _ (tree.minus t h) = at_token (λ o. term_operator o ≡ Some BinOp.Sub) t h refl

pub term_ends : (t : Token) (op : BinOp) → LinkIs tree.Product op t → ProductEnds (Some t.lexeme)
term_ends _ _ (tree.plus t h) = at_token ProductEnds t h refl
term_ends _ _ (tree.minus t h) = at_token ProductEnds t h refl

pub comparison_read : (t : Token) (op : BinOp) → CompareIs op t → (comparison_operator (Some t.lexeme) ≡ Some op) × (SumEnds (Some t.lexeme)) × (is_mark mark.Matches t.lexeme ≡ false)
comparison_read _ _ (tree.equal t h) = at_token (λ o. (comparison_operator o ≡ Some BinOp.Eq) × (SumEnds o) × (holds_for (is_mark mark.Matches) o ≡ false)) t h (refl, (refl, refl), refl)
comparison_read _ _ (tree.not_equal t h) = at_token (λ o. (comparison_operator o ≡ Some BinOp.Ne) × (SumEnds o) × (holds_for (is_mark mark.Matches) o ≡ false)) t h (refl, (refl, refl), refl)
comparison_read _ _ (tree.less t h) = at_token (λ o. (comparison_operator o ≡ Some BinOp.Lt) × (SumEnds o) × (holds_for (is_mark mark.Matches) o ≡ false)) t h (refl, (refl, refl), refl)
comparison_read _ _ (tree.greater t h) = at_token (λ o. (comparison_operator o ≡ Some BinOp.Gt) × (SumEnds o) × (holds_for (is_mark mark.Matches) o ≡ false)) t h (refl, (refl, refl), refl)
comparison_read _ _ (tree.less_or_equal t h) = at_token (λ o. (comparison_operator o ≡ Some BinOp.Le) × (SumEnds o) × (holds_for (is_mark mark.Matches) o ≡ false)) t h (refl, (refl, refl), refl)
comparison_read _ _ (tree.greater_or_equal t h) = at_token (λ o. (comparison_operator o ≡ Some BinOp.Ge) × (SumEnds o) × (holds_for (is_mark mark.Matches) o ≡ false)) t h (refl, (refl, refl), refl)

pub and_read : (t : Token) → JoinIs tree.Comparison t → is_and (Some t.lexeme) ≡ true
and_read _ (tree.and_mark t h) = at_token (λ o. is_and o ≡ true) t h refl
and_read _ (tree.and_word t h) = at_token (λ o. is_and o ≡ true) t h refl

pub and_ends : (t : Token) → JoinIs tree.Comparison t → ComparisonEnds (Some t.lexeme)
and_ends _ (tree.and_mark t h) = at_token ComparisonEnds t h ((refl, refl), (refl, refl))
and_ends _ (tree.and_word t h) = at_token ComparisonEnds t h ((refl, refl), (refl, refl))

pub or_read : (t : Token) → JoinIs tree.And t → is_or (Some t.lexeme) ≡ true
or_read _ (tree.or_mark t h) = at_token (λ o. is_or o ≡ true) t h refl
or_read _ (tree.or_word t h) = at_token (λ o. is_or o ≡ true) t h refl

pub or_ends : (t : Token) → JoinIs tree.And t → AllEnds (Some t.lexeme)
or_ends _ (tree.or_mark t h) = at_token AllEnds t h (((refl, refl), (refl, refl)), refl)
or_ends _ (tree.or_word t h) = at_token AllEnds t h (((refl, refl), (refl, refl)), refl)
