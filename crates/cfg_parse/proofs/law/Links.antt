-- Operands, each after its operator: a chain is read as it is derived.
use Rattle.std.specs.Prelude.{ℕ, ◌<◌, List, [], ◌∷◌, ◌++◌, length, Option, Some, None, IfSome}
use Rattle.std.proofs.Common.{◌≡◌, refl, sym, ap, subst, append_assoc, append-nil, arith}
use Rattle.pv_values.specs.declared.operator.BinOp.{BinOp}
use Rattle.pv_values.specs.declared.refusal.Place.{Place}
use Rattle.cfg_tree.specs.declared.token.Token.{Token}
use Rattle.cfg_tree.specs.declared.token.Lexeme.{Lexeme}
use Rattle.cfg_tree.specs.declared.raw.RawExpr.{RawExpr}
use Rattle.cfg_tree.specs.declared.raw.RawExpr.TheOpen.{RawExpr-F}
use Rattle.cfg_tree.specs.declared.raw.RawExpr.TheViews.{roll-RawExpr}
use Rattle.cfg_tree.specs.Grammar.{Level, LinkIs, ExprIs, LinkedAre, last_linked, more_linked}
use Rattle.cfg_parse.specs.Reader.{Reader, ◌>>=◌, pure, passed, first, many}
use Rattle.cfg_parse.specs.Exprs.{linked_by, read_link, chain}
use Rattle.cfg_parse.proofs.law.Steps.{OnRead, found, and_so, read_then, Takes, both}
use Rattle.cfg_parse.proofs.law.Several.{Several, none, more, OnStep, many_takes, follows, many_again}

pub data LinkItem (l : Level) (room : ℕ) : List Token → BinOp × RawExpr → Type 0 where
  link_item : (t : Token) (ts : List Token) (op : BinOp) (e : RawExpr) → LinkIs l op t → ExprIs l room ts e → LinkItem l room (t ∷ ts) (op, e)

link_some : (l : Level) (room : ℕ) (us : List Token) (x : BinOp × RawExpr) → LinkItem l room us x → 0 < length us
link_some l room _ _ (link_item t ts op e h k) = omega arith

of_links : (l : Level) (room : ℕ) (t : Token) (ts us : List Token) (op : BinOp) (e : RawExpr) (links : List (BinOp × RawExpr)) → LinkIs l op t → ExprIs l room ts e → Several (LinkItem l room) us links → LinkedAre l room (t ∷ ts ++ us) ((op, e) ∷ links)
of_links l room t ts _ op e _ h k none = subst (λ us. LinkedAre l room (t ∷ us) ((op, e) ∷ [])) (sym (append-nil ts)) (last_linked l room t ts op e h k)
of_links l room t ts _ op e _ h k (more _ us _ xs (link_item v vs o x i j) s) = more_linked l room t ts (v ∷ vs ++ us) op e ((o, x) ∷ xs) h k (of_links l room v vs us o x xs i j s)

several_of : (l : Level) (room : ℕ) (us : List Token) (links : List (BinOp × RawExpr)) → LinkedAre l room us links → Several (LinkItem l room) us links
several_of _ _ _ _ (last_linked l room t ts op e h k) = subst (λ us. Several (LinkItem l room) (t ∷ us) ((op, e) ∷ [])) (append-nil ts) (more (t ∷ ts) [] (op, e) [] (link_item t ts op e h k) none)
several_of _ _ _ _ (more_linked l room t ts us op e xs h k d) = more (t ∷ ts) us (op, e) xs (link_item t ts op e h k) (several_of l room us xs d)

chain_whole : (l : Level) (room : ℕ) (us : List Token) (a : RawExpr) (links : List (BinOp × RawExpr)) → LinkedAre l room us links → chain a links ≡ roll-RawExpr (RawExpr-F.Chain a links)
chain_whole _ _ _ a _ (last_linked l room t ts op e h k) = refl
chain_whole _ _ _ a _ (more_linked l room t ts us op e xs h k d) = refl

-- an operand, and others, each after its operator
abbrev pub chained : (Option Lexeme → Option BinOp) → Reader RawExpr → Reader RawExpr
chained operator p = p >>= (λ e. many (read_link operator p) [] >>= (λ links. pure (chain e links)))

module _ (l up : Level) (room : ℕ) (operator : Option Lexeme → Option BinOp) (p : Reader RawExpr)
    (none_is : operator None ≡ None)
    (link_is : (x : Lexeme) (at : Place) → IfSome (operator (Some x)) (λ op. LinkIs l op (record { lexeme = x; at = at })))
    (alone : (ts : List Token) (e : RawExpr) → ExprIs l room ts e → ExprIs up room ts e)
    (with_links : (ts us : List Token) (e : RawExpr) (links : List (BinOp × RawExpr)) → ExprIs l room ts e → LinkedAre l room us links → ExprIs up room (ts ++ us) (roll-RawExpr (RawExpr-F.Chain e links)))
    (operand : Takes (ExprIs l room) p) where
  link_takes : (ts : List Token) → OnRead (OnStep (LinkItem l room) ts) (read_link operator p ts)
  unfolding first passed
  link_takes [] = subst (λ o. OnRead (OnStep (LinkItem l room) []) (linked_by p o [])) (sym none_is) (found None [] refl)
  link_takes (t ∷ ts) = by (operator (Some t.lexeme)) (link_is t.lexeme t.at)
    where
      by : (o : Option BinOp) → IfSome o (λ op. LinkIs l op t) → OnRead (OnStep (LinkItem l room) (t ∷ ts)) (linked_by p o (t ∷ ts))
      by None h = found None (t ∷ ts) refl
      by (Some op) h = and_so (operand ts) (λ x rest f. found (Some (op, x)) rest (record { front = t ∷ f.front; whole = ap (λ us. t ∷ us) f.whole; is = link_item t f.front op x h f.is }))

  chain_is : (ts us : List Token) (e : RawExpr) (links : List (BinOp × RawExpr)) → ExprIs l room ts e → Several (LinkItem l room) us links → ExprIs up room (ts ++ us) (chain e links)
  chain_is ts _ e _ d none = subst (λ us. ExprIs up room us e) (sym (append-nil ts)) (alone ts e d)
  chain_is ts _ e _ d (more _ us _ xs (link_item t vs op x h k) s) = with_links ts (t ∷ vs ++ us) e ((op, x) ∷ xs) d (of_links l room t vs us op x xs h k s)

  pub chained_takes : Takes (ExprIs up room) (chained operator p)
  chained_takes ts = and_so (operand ts) (λ e s f. and_so (many_takes (LinkItem l room) (read_link operator p) link_takes s) (λ links rest g. found (chain e links) rest (both f g (λ us vs d i. chain_is us vs e links d i))))

module _ (l : Level) (room : ℕ) (operator : Option Lexeme → Option BinOp) (p : Reader RawExpr) (Ends : Option Lexeme → Type 0)
    (link_read : (t : Token) (op : BinOp) → LinkIs l op t → operator (Some t.lexeme) ≡ Some op)
    (link_ends : (t : Token) (op : BinOp) → LinkIs l op t → Ends (Some t.lexeme))
    (operand : (us : List Token) (e : RawExpr) (rest : List Token) → ExprIs l room us e → Ends (first rest) → p (us ++ rest) ≡ Some (e, rest)) where
  link_again : (us : List Token) (x : BinOp × RawExpr) (rest : List Token) → LinkItem l room us x → Ends (first rest) → read_link operator p (us ++ rest) ≡ Some (Some x, rest)
  unfolding first passed
  link_again _ _ rest (link_item t ts op e h k) f = subst (λ o. linked_by p o (t ∷ ts ++ rest) ≡ Some (Some (op, e), rest)) (sym (link_read t op h)) (read_then _ (operand ts e rest k f) refl)

  link_starts : (us : List Token) (x : BinOp × RawExpr) (rest : List Token) → LinkItem l room us x → Ends (first (us ++ rest))
  unfolding first
  link_starts _ _ rest (link_item t ts op e h k) = link_ends t op h

  link_stops : (rest : List Token) → operator (first rest) ≡ None → read_link operator p rest ≡ Some (None, rest)
  link_stops rest e = subst (λ o. linked_by p o rest ≡ Some (None, rest)) (sym e) refl

  links_again : (us : List Token) (links : List (BinOp × RawExpr)) (rest : List Token) → Several (LinkItem l room) us links → Ends (first rest) → operator (first rest) ≡ None → many (read_link operator p) [] (us ++ rest) ≡ Some (links, rest)
  links_again us links rest s f e = many_again (LinkItem l room) (read_link operator p) (λ ts. Ends (first ts)) link_again link_starts (link_some l room) us links rest s f (link_stops rest e) []

  pub alone_again : (us : List Token) (e : RawExpr) (rest : List Token) → ExprIs l room us e → Ends (first rest) → operator (first rest) ≡ None → chained operator p (us ++ rest) ≡ Some (e, rest)
  alone_again us e rest d f h = read_then _ (operand us e rest d f) (read_then _ (links_again [] [] rest none f h) refl)

  pub chain_again : (ts us : List Token) (e : RawExpr) (links : List (BinOp × RawExpr)) (rest : List Token) → ExprIs l room ts e → LinkedAre l room us links → Ends (first rest) → operator (first rest) ≡ None → chained operator p ((ts ++ us) ++ rest) ≡ Some (roll-RawExpr (RawExpr-F.Chain e links), rest)
  chain_again ts us e links rest d k f h =
      let s = several_of l room us links k in
      let next : Ends (first (us ++ rest)) = follows (LinkItem l room) (read_link operator p) (λ ts. Ends (first ts)) link_again link_starts (link_some l room) us links rest s f in
      rw (append_assoc ts us rest) (read_then _ (operand ts e (us ++ rest) d next) (read_then _ (links_again us links rest s f h) (ap (λ (x : RawExpr). Some (x, rest)) (chain_whole l room us e links k))))
