-- How an expression begins.
use Rattle.std.specs.Prelude.{ℕ, false, List, [], ◌∷◌, ◌++◌}
use Rattle.std.proofs.Common.{◌≡◌, ap, inl, inr}
use Rattle.cfg_tree.specs.declared.token.Token.{Token}
use Rattle.cfg_tree.specs.declared.token.Keyword.TheVariants as word_is
use Rattle.cfg_tree.specs.declared.token.Mark.TheVariants as mark
use Rattle.cfg_tree.specs.declared.raw.RawCall.{RawCall}
use Rattle.cfg_tree.specs.declared.raw.RawExpr.{RawExpr}
use Rattle.cfg_tree.specs.Grammar as tree
use Rattle.cfg_tree.specs.Grammar.{CallIs, ExprIs}
use Rattle.cfg_parse.specs.Reader.{first, is_mark, is_keyword, sees_mark}

-- an operand begins with neither `uri` nor `;`
pub data OperandBegins : List Token → Type 0 where
  operand_begins : (t : Token) (ts : List Token) → is_keyword word_is.Uri t.lexeme ≡ false → is_mark mark.Semicolon t.lexeme ≡ false → OperandBegins (t ∷ ts)

with_behind : (ts us : List Token) → OperandBegins ts → OperandBegins (ts ++ us)
with_behind _ us (operand_begins t ts h k) = operand_begins t (ts ++ us) h k

call_begins : (us : List Token) (c : RawCall) → CallIs us c → OperandBegins us
call_begins _ _ (tree.plain_call f left right s h k e) = operand_begins f (left ∷ right ∷ []) (ap (is_keyword word_is.Uri) h) (ap (is_mark mark.Semicolon) h)
call_begins _ _ (tree.call_with f left right ts s xs h k d e) = operand_begins f (left ∷ ts ++ right ∷ []) (ap (is_keyword word_is.Uri) h) (ap (is_mark mark.Semicolon) h)
call_begins _ _ (tree.route_call r left b right s h k i e) = operand_begins r (left ∷ b ∷ right ∷ []) (ap (is_keyword word_is.Uri) h) (ap (is_mark mark.Semicolon) h)

unary_begins : (room : ℕ) (us : List Token) (e : RawExpr) → ExprIs tree.Unary room us e → OperandBegins us
unary_begins _ _ _ (tree.not_of room ts t e (inl h) d) = operand_begins t ts (ap (is_keyword word_is.Uri) h) (ap (is_mark mark.Semicolon) h)
unary_begins _ _ _ (tree.not_of room ts t e (inr h) d) = operand_begins t ts (ap (is_keyword word_is.Uri) h) (ap (is_mark mark.Semicolon) h)
unary_begins _ _ _ (tree.negative_of room ts t e h d) = operand_begins t ts (ap (is_keyword word_is.Uri) h) (ap (is_mark mark.Semicolon) h)
unary_begins _ _ _ (tree.number room t n h) = operand_begins t [] (ap (is_keyword word_is.Uri) h) (ap (is_mark mark.Semicolon) h)
unary_begins _ _ _ (tree.string room t s h) = operand_begins t [] (ap (is_keyword word_is.Uri) h) (ap (is_mark mark.Semicolon) h)
unary_begins _ _ _ (tree.variable room t v h) = operand_begins t [] (ap (is_keyword word_is.Uri) h) (ap (is_mark mark.Semicolon) h)
unary_begins _ _ _ (tree.code_of room ts c d) = call_begins ts c d
unary_begins _ _ _ (tree.bracketed room ts left right e h d k) = operand_begins left (ts ++ right ∷ []) (ap (is_keyword word_is.Uri) h) (ap (is_mark mark.Semicolon) h)

product_begins : (room : ℕ) (us : List Token) (e : RawExpr) → ExprIs tree.Product room us e → OperandBegins us
product_begins _ _ _ (tree.one_unary room ts e d) = unary_begins room ts e d
product_begins _ _ _ (tree.product_of room ts us e links d k) = with_behind ts us (unary_begins room ts e d)

pub sum_begins : (room : ℕ) (us : List Token) (e : RawExpr) → ExprIs tree.Sum room us e → OperandBegins us
sum_begins _ _ _ (tree.one_product room ts e d) = product_begins room ts e d
sum_begins _ _ _ (tree.sum_of room ts us e links d k) = with_behind ts us (product_begins room ts e d)

-- an expression doesn't begin with `;`
data ExprBegins : List Token → Type 0 where
  expr_begins : (t : Token) (ts : List Token) → is_mark mark.Semicolon t.lexeme ≡ false → ExprBegins (t ∷ ts)

of_operand : (us : List Token) → OperandBegins us → ExprBegins us
of_operand _ (operand_begins t ts h k) = expr_begins t ts k

behind_expr : (ts us : List Token) → ExprBegins ts → ExprBegins (ts ++ us)
behind_expr _ us (expr_begins t ts h) = expr_begins t (ts ++ us) h

comparison_begins : (room : ℕ) (us : List Token) (e : RawExpr) → ExprIs tree.Comparison room us e → ExprBegins us
comparison_begins _ _ _ (tree.one_sum room ts e d) = of_operand ts (sum_begins room ts e d)
comparison_begins _ _ _ (tree.compared room ts us t op a b d h k) = behind_expr ts (t ∷ us) (of_operand ts (sum_begins room ts a d))
comparison_begins _ _ _ (tree.matches room ts m t a s d h k) = behind_expr ts (m ∷ t ∷ []) (of_operand ts (sum_begins room ts a d))
comparison_begins _ _ _ (tree.is_myself room u o m h k e) = expr_begins u (o ∷ m ∷ []) (ap (is_mark mark.Semicolon) h)
comparison_begins _ _ _ (tree.not_myself room u o m h k e) = expr_begins u (o ∷ m ∷ []) (ap (is_mark mark.Semicolon) h)

all_begins : (room : ℕ) (us : List Token) (e : RawExpr) → ExprIs tree.And room us e → ExprBegins us
all_begins _ _ _ (tree.one_comparison room ts e d) = comparison_begins room ts e d
all_begins _ _ _ (tree.all_of room ts us e xs d k) = behind_expr ts us (comparison_begins room ts e d)

any_begins : (room : ℕ) (us : List Token) (e : RawExpr) → ExprIs tree.Or room us e → ExprBegins us
any_begins _ _ _ (tree.one_and room ts e d) = all_begins room ts e d
any_begins _ _ _ (tree.any_of room ts us e xs d k) = behind_expr ts us (all_begins room ts e d)

pub no_semicolon : (room : ℕ) (us : List Token) (e : RawExpr) (rest : List Token) → ExprIs tree.Or room us e → sees_mark mark.Semicolon (us ++ rest) ≡ false
unfolding sees_mark first
no_semicolon room us e rest d = by us (any_begins room us e d)
  where
    by : (us : List Token) → ExprBegins us → sees_mark mark.Semicolon (us ++ rest) ≡ false
    by _ (expr_begins t ts h) = h
