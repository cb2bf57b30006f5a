-- Expressions: what is derived is read.
use Rattle.std.specs.Prelude.{ℕ, zero, suc, Bool, true, false, List, [], ◌∷◌, ◌++◌, Some}
use Rattle.std.proofs.Common.{◌≡◌, refl, sym, ap, subst, ◌∙◌, append_assoc, inl, inr}
use Rattle.std.proofs.lemmas.Bool.{both_ways}
use Rattle.cfg_tree.specs.declared.token.Token.{Token}
use Rattle.cfg_tree.specs.declared.token.Lexeme.{Lexeme}
use Rattle.cfg_tree.specs.declared.token.Lexeme.TheVariants as lexeme
use Rattle.cfg_tree.specs.declared.token.Keyword.TheVariants as word_is
use Rattle.cfg_tree.specs.declared.token.Mark.TheVariants as mark
use Rattle.cfg_tree.specs.declared.raw.RawExpr.{RawExpr}
use Rattle.cfg_tree.specs.declared.raw.RawExpr.TheOpen.{RawExpr-F}
use Rattle.cfg_tree.specs.declared.raw.RawExpr.TheViews.{roll-RawExpr}
use Rattle.cfg_tree.specs.Tokens.{IsMark, IsKeyword}
use Rattle.cfg_tree.specs.Grammar as tree
use Rattle.cfg_tree.specs.Grammar.{ExprIs, IsExpr, JoinedAre}
use Rattle.cfg_parse.specs.Reader.{Reader, ◌>>=◌, first, one, passed, is_keyword, sees_mark}
use Rattle.cfg_parse.specs.Exprs.{factor_operator, term_operator, is_and, is_or, all, any, is_equal_in, read_myself, more_factors, product, more_terms, sum, compared_by, compared, comparison_by, comparison, more_of_all, all_of, more_of_any, any_of, bracketed, prefixed_by, prefixed, unary, read_expr, expr}
use Rattle.cfg_parse.proofs.law.Steps.{read_then, mark_again, keyword_again, sees, eats, leaves, by_first}
use Rattle.cfg_parse.proofs.law.OneToken.{one_again, string_is, string_again}
use Rattle.cfg_parse.proofs.law.Links as links
use Rattle.cfg_parse.proofs.law.Joins as joins
use Rattle.cfg_parse.proofs.law.Operators.{UnaryEnds, ProductEnds, SumEnds, ComparisonEnds, AllEnds, AnyEnds, at_first, factor_read, term_read, term_ends, comparison_read, and_read, and_ends, or_read, or_ends}
use Rattle.cfg_parse.proofs.law.Atoms.{number_atom, string_atom, variable_atom, call_atom, atom_again, prefixed_atom}
use Rattle.cfg_parse.proofs.law.Begins.{OperandBegins, operand_begins, sum_begins}

-- a bracket or a semicolon ends an expression
pub closes : (t : Token) (ts : List Token) → IsMark mark.CloseRound t → AnyEnds (first (t ∷ ts))
closes t ts h = at_first AnyEnds t ts h ((((refl, refl), (refl, refl)), refl), refl)

pub ends_stmt : (t : Token) (ts : List Token) → IsMark mark.Semicolon t → AnyEnds (first (t ∷ ts))
ends_stmt t ts h = at_first AnyEnds t ts h ((((refl, refl), (refl, refl)), refl), refl)

by_sum : (u : Reader RawExpr) (x : Lexeme) (ts : List Token) → is_keyword word_is.Uri x ≡ false → comparison_by u (Some x) ts ≡ (sum u >>= compared u) ts
by_sum u (lexeme.Keyword word_is.Uri) ts h = absurd (both_ways _ h refl)
by_sum u _ ts h = refl

from_sum : (u : Reader RawExpr) (us rest : List Token) → OperandBegins us → comparison u (us ++ rest) ≡ (sum u >>= compared u) (us ++ rest)
unfolding comparison first
from_sum u _ rest (operand_begins t ts h k) = by_sum u t.lexeme (t ∷ ts ++ rest) h

all_whole : (l : tree.Level) (room : ℕ) (us : List Token) (e : RawExpr) (xs : List RawExpr) → JoinedAre l room us xs → all e xs ≡ roll-RawExpr (RawExpr-F.All (e ∷ xs))
all_whole _ _ _ e _ (tree.last_joined l room t ts x h k) = refl
all_whole _ _ _ e _ (tree.more_joined l room t ts us x xs h k d) = refl

any_whole : (l : tree.Level) (room : ℕ) (us : List Token) (e : RawExpr) (xs : List RawExpr) → JoinedAre l room us xs → any e xs ≡ roll-RawExpr (RawExpr-F.Any (e ∷ xs))
any_whole _ _ _ e _ (tree.last_joined l room t ts x h k) = refl
any_whole _ _ _ e _ (tree.more_joined l room t ts us x xs h k d) = refl

myself_again : (u : Reader RawExpr) (a o m : Token) (rest : List Token) (b : Bool) → IsKeyword word_is.Uri a → one is_equal_in (o ∷ m ∷ rest) ≡ Some (b, m ∷ rest) → IsKeyword word_is.Myself m → comparison u (a ∷ o ∷ m ∷ rest) ≡ Some (roll-RawExpr (RawExpr-F.Myself b), rest)
unfolding comparison read_myself
myself_again u a o m rest b h e k = by_first (comparison_by u) a (o ∷ m ∷ rest) h (read_then _ (keyword_again word_is.Uri a (o ∷ m ∷ rest) h) (read_then _ e (read_then _ (keyword_again word_is.Myself m rest k) refl)))

module _ (room : ℕ) (u : Reader RawExpr) (operand : (us : List Token) (e : RawExpr) (rest : List Token) → ExprIs tree.Unary room us e → u (us ++ rest) ≡ Some (e, rest)) where
  product_again : (us : List Token) (e : RawExpr) (rest : List Token) → ExprIs tree.Product room us e → ProductEnds (first rest) → product u (us ++ rest) ≡ Some (e, rest)
  unfolding product more_factors
  product_again _ _ rest (tree.one_unary _ ts e d) f = links.alone_again tree.Unary room factor_operator u UnaryEnds factor_read (λ _ _ _. tt) (λ us e rest d _. operand us e rest d) ts e rest d tt f
  product_again _ _ rest (tree.product_of _ ts us e xs d k) f = links.chain_again tree.Unary room factor_operator u UnaryEnds factor_read (λ _ _ _. tt) (λ us e rest d _. operand us e rest d) ts us e xs rest d k tt f

  sum_again : (us : List Token) (e : RawExpr) (rest : List Token) → ExprIs tree.Sum room us e → SumEnds (first rest) → sum u (us ++ rest) ≡ Some (e, rest)
  unfolding sum more_terms
  sum_again _ _ rest (tree.one_product _ ts e d) f = links.alone_again tree.Product room term_operator (product u) ProductEnds term_read term_ends product_again ts e rest d f.0 f.1
  sum_again _ _ rest (tree.sum_of _ ts us e xs d k) f = links.chain_again tree.Product room term_operator (product u) ProductEnds term_read term_ends product_again ts us e xs rest d k f.0 f.1

  comparison_again : (us : List Token) (e : RawExpr) (rest : List Token) → ExprIs tree.Comparison room us e → ComparisonEnds (first rest) → comparison u (us ++ rest) ≡ Some (e, rest)
  unfolding compared first passed sees_mark
  comparison_again _ _ rest (tree.one_sum _ ts e d) f =
      from_sum u ts rest (sum_begins room ts e d) ∙ read_then _ (sum_again ts e rest d f.0)
      (leaves _ _ rest f.1.1 (subst (λ o. compared_by u e o rest ≡ Some (e, rest)) (sym f.1.0) refl))
  comparison_again _ _ rest (tree.compared _ ts us t op a b d h k) f =
      let c = comparison_read t op h in
      let begins = from_sum u ts (t ∷ us ++ rest) (sum_begins room ts a d) in
      rw (append_assoc ts (t ∷ us) rest) (begins ∙ read_then _ (sum_again ts a (t ∷ us ++ rest) d c.1)
      (leaves _ _ (t ∷ us ++ rest) c.2 (subst (λ o. compared_by u a o (t ∷ us ++ rest) ≡ Some (roll-RawExpr (RawExpr-F.Chain a ((op, b) ∷ [])), rest)) (sym c.0) (read_then _ (sum_again us b rest k f.0) refl))))
  comparison_again _ _ rest (tree.matches _ ts m t a s d h k) f =
      let begins = from_sum u ts (m ∷ t ∷ rest) (sum_begins room ts a d) in
      rw (append_assoc ts (m ∷ t ∷ []) rest) (begins ∙ read_then _ (sum_again ts a (m ∷ t ∷ rest) d (at_first SumEnds m (t ∷ rest) h (refl, refl)))
      (eats _ _ m (t ∷ rest) (sees mark.Matches m (t ∷ rest) h) (read_then _ (string_again t rest _ (string_is t s k)) refl)))
  comparison_again _ _ rest (tree.is_myself _ a o m h k e) f = myself_again u a o m rest true h (one_again is_equal_in o (m ∷ rest) k refl) e
  comparison_again _ _ rest (tree.not_myself _ a o m h k e) f = myself_again u a o m rest false h (one_again is_equal_in o (m ∷ rest) k refl) e

  all_again : (us : List Token) (e : RawExpr) (rest : List Token) → ExprIs tree.And room us e → AllEnds (first rest) → all_of u (us ++ rest) ≡ Some (e, rest)
  unfolding all_of more_of_all
  all_again _ _ rest (tree.one_comparison _ ts e d) f = joins.alone_again tree.Comparison room is_and (comparison u) all ComparisonEnds and_read and_ends comparison_again ts e rest d f.0 f.1
  all_again _ _ rest (tree.all_of _ ts us e xs d k) f = joins.gather_again tree.Comparison room is_and (comparison u) all ComparisonEnds and_read and_ends comparison_again ts us e xs rest d k f.0 f.1 ∙ ap (λ (x : RawExpr). Some (x, rest)) (all_whole tree.Comparison room us e xs k)

  any_again : (us : List Token) (e : RawExpr) (rest : List Token) → ExprIs tree.Or room us e → AnyEnds (first rest) → any_of u (us ++ rest) ≡ Some (e, rest)
  unfolding any_of more_of_any
  any_again _ _ rest (tree.one_and _ ts e d) f = joins.alone_again tree.And room is_or (all_of u) any AllEnds or_read or_ends all_again ts e rest d f.0 f.1
  any_again _ _ rest (tree.any_of _ ts us e xs d k) f = joins.gather_again tree.And room is_or (all_of u) any AllEnds or_read or_ends all_again ts us e xs rest d k f.0 f.1 ∙ ap (λ (x : RawExpr). Some (x, rest)) (any_whole tree.And room us e xs k)

  prefixed_again : (us : List Token) (e : RawExpr) (rest : List Token) → ExprIs tree.Unary (suc room) us e → prefixed u (us ++ rest) ≡ Some (e, rest)
  unfolding prefixed bracketed passed
  prefixed_again _ _ rest (tree.not_of _ ts t e (inl h) d) = by_first (prefixed_by u) t (ts ++ rest) h (read_then _ (operand ts e rest d) refl)
  prefixed_again _ _ rest (tree.not_of _ ts t e (inr h) d) = by_first (prefixed_by u) t (ts ++ rest) h (read_then _ (operand ts e rest d) refl)
  prefixed_again _ _ rest (tree.negative_of _ ts t e h d) = by_first (prefixed_by u) t (ts ++ rest) h (read_then _ (operand ts e rest d) refl)
  prefixed_again _ _ rest (tree.number _ t n h) = prefixed_atom u _ _ rest (number_atom t n h)
  prefixed_again _ _ rest (tree.string _ t s h) = prefixed_atom u _ _ rest (string_atom t s h)
  prefixed_again _ _ rest (tree.variable _ t v h) = prefixed_atom u _ _ rest (variable_atom t v h)
  prefixed_again _ _ rest (tree.code_of _ ts c d) = prefixed_atom u _ _ rest (call_atom ts c d)
  prefixed_again _ _ rest (tree.bracketed _ ts left right e h d k) = by_first (prefixed_by u) left ((ts ++ right ∷ []) ++ rest) h
      (rw (append_assoc ts (right ∷ []) rest) (read_then _ (mark_again mark.OpenRound left (ts ++ right ∷ rest) h) (read_then _ (any_again ts e (right ∷ rest) d (closes right rest k)) (read_then _ (mark_again mark.CloseRound right rest k) refl))))

unary_again : (room : ℕ) (us : List Token) (e : RawExpr) (rest : List Token) → ExprIs tree.Unary room us e → unary room (us ++ rest) ≡ Some (e, rest)
unfolding unary
unary_again zero _ _ rest (tree.number _ t n h) = atom_again _ _ rest (number_atom t n h)
unary_again zero _ _ rest (tree.string _ t s h) = atom_again _ _ rest (string_atom t s h)
unary_again zero _ _ rest (tree.variable _ t v h) = atom_again _ _ rest (variable_atom t v h)
unary_again zero _ _ rest (tree.code_of _ ts c d) = atom_again _ _ rest (call_atom ts c d)
unary_again (suc room) us e rest d = prefixed_again room (unary room) (unary_again room) us e rest d

expr_in_again : (room : ℕ) (us : List Token) (e : RawExpr) (rest : List Token) → ExprIs tree.Or room us e → AnyEnds (first rest) → read_expr room (us ++ rest) ≡ Some (e, rest)
unfolding read_expr
expr_in_again room us e rest d f = any_again room (unary room) (unary_again room) us e rest d f

pub expr_again : (us : List Token) (e : RawExpr) (rest : List Token) → IsExpr us e → AnyEnds (first rest) → expr (us ++ rest) ≡ Some (e, rest)
unfolding expr
expr_again us e rest d f = expr_in_again 31 us e rest d f
