-- How a statement begins.
use Rattle.std.specs.Prelude.{ℕ, ◌<◌, Bool, true, false, List, [], ◌∷◌, ◌++◌, length, Some}
use Rattle.std.proofs.Common.{◌≡◌, refl, sym, subst, arith}
use Rattle.std.proofs.lemmas.Bool.{both_ways}
use Rattle.cfg_tree.specs.declared.token.Token.{Token}
use Rattle.cfg_tree.specs.declared.token.Lexeme.{Lexeme}
use Rattle.cfg_tree.specs.declared.token.Lexeme.TheVariants as lexeme
use Rattle.cfg_tree.specs.declared.token.Keyword.TheVariants as word_is
use Rattle.cfg_tree.specs.declared.raw.RawStmt.{RawStmt}
use Rattle.cfg_tree.specs.declared.raw.RawCall.{RawCall}
use Rattle.cfg_tree.specs.Tokens.{IsA}
use Rattle.cfg_tree.specs.Grammar as tree
use Rattle.cfg_tree.specs.Grammar.{CallIs, StmtIs}
use Rattle.cfg_parse.specs.Reader.{first, is_keyword, sees_keyword}
use Rattle.cfg_parse.specs.Stmts.{ends_list}

-- a statement begins with nothing that ends a list of statements, and not with `else`
pub data StmtBegins : List Token → Type 0 where
  stmt_begins : (t : Token) (ts : List Token) → ends_list (Some t.lexeme) ≡ false → is_keyword word_is.Else t.lexeme ≡ false → StmtBegins (t ∷ ts)

by_lexeme : (t : Token) (ts us : List Token) {x : Lexeme} → us ≡ t ∷ ts → IsA x t → ends_list (Some x) ≡ false → is_keyword word_is.Else x ≡ false → StmtBegins us
by_lexeme t ts us e h k l = subst StmtBegins (sym e) (stmt_begins t ts (subst (λ (y : Lexeme). ends_list (Some y) ≡ false) (sym h) k) (subst (λ (y : Lexeme). is_keyword word_is.Else y ≡ false) (sym h) l))

call_begins : (us ts : List Token) (c : RawCall) → CallIs us c → StmtBegins (us ++ ts)
call_begins _ ts _ (tree.plain_call f left right s h k e) = by_lexeme f (left ∷ right ∷ ts) _ refl h refl refl
call_begins _ ts _ (tree.call_with f left right us s xs h k d e) = by_lexeme f (left ∷ (us ++ right ∷ []) ++ ts) _ refl h refl refl
call_begins _ ts _ (tree.route_call r left b right s h k i e) = by_lexeme r (left ∷ b ∷ right ∷ ts) _ refl h refl refl

pub begins : (room : ℕ) (loop dangles : Bool) (us : List Token) (s : RawStmt) → StmtIs room loop dangles us s → StmtBegins us
begins _ _ _ _ _ (tree.if_alone room loop dangles us ts vs i o c e s p h k d l r) = by_lexeme i _ us p h refl refl
begins _ _ _ _ _ (tree.if_else room loop dangles us ts vs ws i o c l e s other p h k d m r n q) = by_lexeme i _ us p h refl refl
begins _ _ _ _ _ (tree.while_true room loop dangles us ts vs w o c e s p h k d l r) = by_lexeme w _ us p h refl refl
begins _ _ _ _ _ (tree.switch_on room loop us ts vs ws w o c b d e xs last p h k i l m q r n) = by_lexeme w _ us p h refl refl
begins _ _ _ _ _ (tree.assigned room loop us ts t a c v e p h k d l) = by_lexeme t _ us p h refl refl
begins _ _ _ _ _ (tree.called room loop us ts c f p d h) = subst StmtBegins (sym p) (call_begins ts (c ∷ []) f d)
begins _ _ _ _ _ (tree.return_alone room loop r c h k) = by_lexeme r _ _ refl h refl refl
begins _ _ _ _ _ (tree.return_of room loop us ts r c e p h d k) = by_lexeme r _ us p h refl refl
begins _ _ _ _ _ (tree.exits room loop t c h k) = by_lexeme t _ _ refl h refl refl
begins _ _ _ _ _ (tree.drops room loop t c h k) = by_lexeme t _ _ refl h refl refl
begins _ _ _ _ _ (tree.breaks room t c h k) = by_lexeme t _ _ refl h refl refl
begins _ _ _ _ _ (tree.group_of room loop us ts b d ss p h q k) = by_lexeme b _ us p h refl refl
begins _ _ _ _ _ (tree.empty room loop c h) = by_lexeme c _ _ refl h refl refl

pub goes_on : (us rest : List Token) → StmtBegins us → ends_list (first (us ++ rest)) ≡ false
unfolding first
goes_on _ rest (stmt_begins t ts h k) = h

pub no_else : (us rest : List Token) → StmtBegins us → sees_keyword word_is.Else (us ++ rest) ≡ false
unfolding sees_keyword first
no_else _ rest (stmt_begins t ts h k) = k

pub some_token : (us : List Token) → StmtBegins us → 0 < length us
some_token _ (stmt_begins t ts h k) = omega arith

-- what ends a list isn't `else`
end_is_no_else : (x : Lexeme) → ends_list (Some x) ≡ true → is_keyword word_is.Else x ≡ false
end_is_no_else (lexeme.Keyword word_is.Else) h = absurd (both_ways false refl h)
end_is_no_else _ h = refl

pub no_else_at_end : (rest : List Token) → ends_list (first rest) ≡ true → sees_keyword word_is.Else rest ≡ false
unfolding sees_keyword first
no_else_at_end [] h = refl
no_else_at_end (t ∷ ts) h = end_is_no_else t.lexeme h
