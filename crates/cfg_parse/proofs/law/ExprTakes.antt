-- Expressions: what is read is derived.
use Rattle.std.specs.Prelude.{ℕ, zero, suc, Bool, true, false, List, [], ◌∷◌, ◌++◌, Option, Some, None, IfSome}
use Rattle.std.proofs.Common.{refl, sym, ap, ◌∙◌, append_assoc, inl, inr}
use Rattle.pv_values.specs.declared.operator.BinOp.{BinOp}
use Rattle.pv_values.specs.declared.refusal.Place.{Place}
use Rattle.cfg_tree.specs.declared.token.Token.{Token}
use Rattle.cfg_tree.specs.declared.token.Lexeme.{Lexeme}
use Rattle.cfg_tree.specs.declared.token.Lexeme.TheVariants as lexeme
use Rattle.cfg_tree.specs.declared.token.Keyword.TheVariants as word_is
use Rattle.cfg_tree.specs.declared.token.Mark.TheVariants as mark
use Rattle.cfg_tree.specs.declared.raw.Word.{Word}
use Rattle.cfg_tree.specs.declared.raw.RawExpr.{RawExpr}
use Rattle.cfg_tree.specs.declared.raw.RawExpr.TheOpen.{RawExpr-F}
use Rattle.cfg_tree.specs.declared.raw.RawExpr.TheViews.{roll-RawExpr}
use Rattle.cfg_tree.specs.Tokens.{IsMark, IsKeyword}
use Rattle.cfg_tree.specs.Grammar as tree
use Rattle.cfg_tree.specs.Grammar.{ExprIs, CompareIs, IsExpr}
use Rattle.cfg_parse.specs.Reader.{Reader, first, passed}
use Rattle.cfg_parse.specs.Exprs.{factor_operator, term_operator, comparison_operator, is_and, is_or, all, any, is_equal_in, read_myself, more_factors, product, more_terms, sum, compared_by, compared, comparison_by, comparison, more_of_all, all_of, more_of_any, any_of, bracketed, prefixed_by, prefixed, unary, read_expr, expr}
use Rattle.cfg_parse.proofs.law.Steps.{OnRead, found, and_so, Front, Takes, mark_takes, keyword_takes, eaten}
use Rattle.cfg_parse.proofs.law.OneToken.{one_takes, StringIs, string_is, string_takes}
use Rattle.cfg_parse.proofs.law.Links.{chained_takes}
use Rattle.cfg_parse.proofs.law.Joins.{gathered_takes}
use Rattle.cfg_parse.proofs.law.Operators.{factor_is, term_is, comparison_is, and_is, or_is}
use Rattle.cfg_parse.proofs.law.Atoms.{atom_takes}

-- ---- `read_myself`

pub data EqualIs : Token → Bool → Type 0 where
  equal_is : (t : Token) → IsMark mark.Equal t → EqualIs t true
  not_equal_is : (t : Token) → IsMark mark.NotEqual t → EqualIs t false

equal_read : (x : Lexeme) (at : Place) → IfSome (is_equal_in x at) (λ b. EqualIs (record { lexeme = x; at = at }) b)
equal_read (lexeme.Mark mark.Equal) at = equal_is (record { lexeme = lexeme.Mark mark.Equal; at = at }) refl
equal_read (lexeme.Mark mark.NotEqual) at = not_equal_is (record { lexeme = lexeme.Mark mark.NotEqual; at = at }) refl
equal_read _ at = tt

myself_is : (room : ℕ) (u o m : Token) (b : Bool) → IsKeyword word_is.Uri u → EqualIs o b → IsKeyword word_is.Myself m → ExprIs tree.Comparison room (u ∷ o ∷ m ∷ []) (roll-RawExpr (RawExpr-F.Myself b))
myself_is room u _ m _ h (equal_is o e) k = tree.is_myself room u o m h e k
myself_is room u _ m _ h (not_equal_is o e) k = tree.not_myself room u o m h e k

myself_takes : (room : ℕ) → Takes (ExprIs tree.Comparison room) read_myself
unfolding read_myself
myself_takes room ts = and_so (keyword_takes word_is.Uri ts) (λ _ s u. and_so (one_takes EqualIs is_equal_in equal_read s) (λ b v o. and_so (keyword_takes word_is.Myself v) (λ _ rest m.
    found _ rest (record { front = u.token ∷ o.token ∷ m.token ∷ []; whole = cc; is = myself_is room u.token o.token m.token b u.is o.is m.is }))))

-- ---- the levels

matches_is : (room : ℕ) (ts : List Token) (m t : Token) (a : RawExpr) (w : Word) → ExprIs tree.Sum room ts a → IsMark mark.Matches m → StringIs t w → ExprIs tree.Comparison room (ts ++ m ∷ t ∷ []) (roll-RawExpr (RawExpr-F.Matches a w))
matches_is room ts m _ a _ d h (string_is t s k) = tree.matches room ts m t a s d h k

module _ (room : ℕ) (u : Reader RawExpr) (operand : Takes (ExprIs tree.Unary room) u) where
  product_takes : Takes (ExprIs tree.Product room) (product u)
  unfolding product more_factors
  product_takes = chained_takes tree.Unary tree.Product room factor_operator u refl factor_is (tree.one_unary room) (tree.product_of room) operand

  sum_takes : Takes (ExprIs tree.Sum room) (sum u)
  unfolding sum more_terms
  sum_takes = chained_takes tree.Product tree.Sum room term_operator (product u) refl term_is (tree.one_product room) (tree.sum_of room) product_takes

  compared_found : (ts s : List Token) (a : RawExpr) → Front (ExprIs tree.Sum room) ts a s → OnRead (Front (ExprIs tree.Comparison room) ts) (compared_by u a (comparison_operator (first s)) s)
  unfolding first passed
  compared_found ts [] a f = found a [] (record { front = f.front; whole = f.whole; is = tree.one_sum room f.front a f.is })
  compared_found ts (t ∷ s) a f = by (comparison_operator (Some t.lexeme)) (comparison_is t.lexeme t.at)
    where
      by : (o : Option BinOp) → IfSome o (λ op. CompareIs op t) → OnRead (Front (ExprIs tree.Comparison room) ts) (compared_by u a o (t ∷ s))
      by None h = found a (t ∷ s) (record { front = f.front; whole = f.whole; is = tree.one_sum room f.front a f.is })
      by (Some op) h = and_so (sum_takes s) (λ b rest g. found _ rest (record {
        front = f.front ++ t ∷ g.front;
        whole = f.whole ∙ ap (λ us. f.front ++ t ∷ us) g.whole ∙ sym (append_assoc f.front (t ∷ g.front) rest);
        is = tree.compared room f.front g.front t op a b f.is h g.is;
      }))

  compared_takes : (ts s : List Token) (a : RawExpr) → Front (ExprIs tree.Sum room) ts a s → OnRead (Front (ExprIs tree.Comparison room) ts) (compared u a s)
  unfolding compared
  compared_takes ts s a f = eaten mark.Matches s _ _
      (λ m mid e h. and_so (string_takes mid) (λ w rest o. found _ rest (record {
        front = f.front ++ m ∷ o.token ∷ [];
        whole = f.whole ∙ ap (λ us. f.front ++ us) (e ∙ ap (λ us. m ∷ us) o.whole) ∙ sym (append_assoc f.front (m ∷ o.token ∷ []) rest);
        is = matches_is room f.front m o.token a w f.is h o.is;
      })))
      (compared_found ts s a f)

  sum_found : (ts : List Token) → OnRead (Front (ExprIs tree.Comparison room) ts) (comparison_by u None ts)
  sum_found ts = and_so (sum_takes ts) (λ a s f. compared_takes ts s a f)

  comparison_found : (x : Lexeme) (ts : List Token) → OnRead (Front (ExprIs tree.Comparison room) ts) (comparison_by u (Some x) ts)
  comparison_found (lexeme.Keyword word_is.Uri) ts = myself_takes room ts
  comparison_found _ ts = sum_found ts

  comparison_takes : Takes (ExprIs tree.Comparison room) (comparison u)
  unfolding comparison first
  comparison_takes [] = sum_found []
  comparison_takes (t ∷ ts) = comparison_found t.lexeme (t ∷ ts)

  all_takes : Takes (ExprIs tree.And room) (all_of u)
  unfolding all_of more_of_all
  all_takes = gathered_takes tree.Comparison tree.And room is_and (comparison u) all refl and_is (tree.one_comparison room) (λ ts us e x xs d k. tree.all_of room ts us e (x ∷ xs) d k) comparison_takes

  any_takes : Takes (ExprIs tree.Or room) (any_of u)
  unfolding any_of more_of_any
  any_takes = gathered_takes tree.And tree.Or room is_or (all_of u) any refl or_is (tree.one_and room) (λ ts us e x xs d k. tree.any_of room ts us e (x ∷ xs) d k) all_takes

  bracketed_takes : Takes (ExprIs tree.Unary (suc room)) (bracketed u)
  unfolding bracketed
  bracketed_takes ts = and_so (mark_takes mark.OpenRound ts) (λ _ s o. and_so (any_takes s) (λ e v f. and_so (mark_takes mark.CloseRound v) (λ _ rest c.
      found e rest (record {
        front = o.token ∷ f.front ++ c.token ∷ [];
        whole = let p = append_assoc f.front (c.token ∷ []) rest in cc;
        is = tree.bracketed room f.front o.token c.token e o.is f.is c.is;
      }))))

  prefixed_found : (x : Lexeme) (at : Place) (ts : List Token) → OnRead (Front (ExprIs tree.Unary (suc room)) (record { lexeme = x; at = at } ∷ ts)) (prefixed_by u (Some x) (record { lexeme = x; at = at } ∷ ts))
  unfolding passed
  prefixed_found (lexeme.Mark mark.Not) at ts =
      let t : Token = record { lexeme = lexeme.Mark mark.Not; at = at } in
      and_so (operand ts) (λ e rest f. found _ rest (record { front = t ∷ f.front; whole = ap (λ us. t ∷ us) f.whole; is = tree.not_of room f.front t e (inl refl) f.is }))
  prefixed_found (lexeme.Keyword word_is.Not) at ts =
      let t : Token = record { lexeme = lexeme.Keyword word_is.Not; at = at } in
      and_so (operand ts) (λ e rest f. found _ rest (record { front = t ∷ f.front; whole = ap (λ us. t ∷ us) f.whole; is = tree.not_of room f.front t e (inr refl) f.is }))
  prefixed_found (lexeme.Mark mark.Minus) at ts =
      let t : Token = record { lexeme = lexeme.Mark mark.Minus; at = at } in
      and_so (operand ts) (λ e rest f. found _ rest (record { front = t ∷ f.front; whole = ap (λ us. t ∷ us) f.whole; is = tree.negative_of room f.front t e refl f.is }))
  prefixed_found (lexeme.Mark mark.OpenRound) at ts = bracketed_takes _
  prefixed_found x at ts = atom_takes (suc room) (record { lexeme = x; at = at } ∷ ts)

  prefixed_takes : Takes (ExprIs tree.Unary (suc room)) (prefixed u)
  unfolding prefixed first
  prefixed_takes [] = atom_takes (suc room) []
  prefixed_takes (t ∷ ts) = prefixed_found t.lexeme t.at ts

unary_takes : (room : ℕ) → Takes (ExprIs tree.Unary room) (unary room)
unfolding unary
unary_takes zero = atom_takes zero
unary_takes (suc room) = prefixed_takes room (unary room) (unary_takes room)

expr_in_takes : (room : ℕ) → Takes (ExprIs tree.Or room) (read_expr room)
unfolding read_expr
expr_in_takes room = any_takes room (unary room) (unary_takes room)

pub expr_takes : Takes IsExpr expr
unfolding expr
expr_takes = expr_in_takes 31
