-- Operands, each after `&&` or `||`: they are read as they are derived.
use Rattle.std.specs.Prelude.{ℕ, ◌<◌, List, [], ◌∷◌, ◌++◌, length, Option, Some, None, Bool, true, false, if◌then◌else◌}
use Rattle.std.proofs.Common.{◌≡◌, refl, sym, ap, subst, append_assoc, append-nil, arith}
use Rattle.pv_values.specs.declared.refusal.Place.{Place}
use Rattle.cfg_tree.specs.declared.token.Token.{Token}
use Rattle.cfg_tree.specs.declared.token.Lexeme.{Lexeme}
use Rattle.cfg_tree.specs.declared.raw.RawExpr.{RawExpr}
use Rattle.cfg_tree.specs.Grammar.{Level, JoinIs, ExprIs, JoinedAre, last_joined, more_joined}
use Rattle.cfg_parse.specs.Reader.{Reader, ◌>>=◌, ◌>>◌, ◌<$>◌, pure, pass, passed, first, many}
use Rattle.cfg_parse.specs.Exprs.{read_joined}
use Rattle.cfg_parse.proofs.law.Steps.{OnRead, found, and_so, read_then, Takes, both}
use Rattle.cfg_parse.proofs.law.Several.{Several, none, more, OnStep, many_takes, follows, many_again}

pub data JoinItem (l : Level) (room : ℕ) : List Token → RawExpr → Type 0 where
  join_item : (t : Token) (ts : List Token) (e : RawExpr) → JoinIs l t → ExprIs l room ts e → JoinItem l room (t ∷ ts) e

join_some : (l : Level) (room : ℕ) (us : List Token) (x : RawExpr) → JoinItem l room us x → 0 < length us
join_some l room _ _ (join_item t ts e h k) = omega arith

of_joins : (l : Level) (room : ℕ) (t : Token) (ts us : List Token) (e : RawExpr) (xs : List RawExpr) → JoinIs l t → ExprIs l room ts e → Several (JoinItem l room) us xs → JoinedAre l room (t ∷ ts ++ us) (e ∷ xs)
of_joins l room t ts _ e _ h k none = subst (λ us. JoinedAre l room (t ∷ us) (e ∷ [])) (sym (append-nil ts)) (last_joined l room t ts e h k)
of_joins l room t ts _ e _ h k (more _ us _ xs (join_item v vs x i j) s) = more_joined l room t ts (v ∷ vs ++ us) e (x ∷ xs) h k (of_joins l room v vs us x xs i j s)

several_of : (l : Level) (room : ℕ) (us : List Token) (xs : List RawExpr) → JoinedAre l room us xs → Several (JoinItem l room) us xs
several_of _ _ _ _ (last_joined l room t ts e h k) = subst (λ us. Several (JoinItem l room) (t ∷ us) (e ∷ [])) (append-nil ts) (more (t ∷ ts) [] e [] (join_item t ts e h k) none)
several_of _ _ _ _ (more_joined l room t ts us e xs h k d) = more (t ∷ ts) us e xs (join_item t ts e h k) (several_of l room us xs d)

-- an operand, and others, each after what joins them; an operand alone is itself
abbrev pub gathered : (Option Lexeme → Bool) → Reader RawExpr → (RawExpr → List RawExpr → RawExpr) → Reader RawExpr
gathered test p make = p >>= (λ e. many (read_joined test p) [] >>= (λ xs. pure (make e xs)))

module _ (l up : Level) (room : ℕ) (test : Option Lexeme → Bool) (p : Reader RawExpr) (make : RawExpr → List RawExpr → RawExpr)
    (none_is : test None ≡ false)
    (join_is : (x : Lexeme) (at : Place) → test (Some x) ≡ true → JoinIs l (record { lexeme = x; at = at }))
    (alone : (ts : List Token) (e : RawExpr) → ExprIs l room ts e → ExprIs up room ts (make e []))
    (with_more : (ts us : List Token) (e x : RawExpr) (xs : List RawExpr) → ExprIs l room ts e → JoinedAre l room us (x ∷ xs) → ExprIs up room (ts ++ us) (make e (x ∷ xs)))
    (operand : Takes (ExprIs l room) p) where
  join_takes : (ts : List Token) → OnRead (OnStep (JoinItem l room) ts) (read_joined test p ts)
  unfolding first passed
  join_takes [] = subst (λ b. OnRead (OnStep (JoinItem l room) []) ((if b then pass >> Some <$> p else pure None) [])) (sym none_is) (found None [] refl)
  join_takes (t ∷ ts) = by (test (Some t.lexeme)) refl
    where
      by : (b : Bool) → test (Some t.lexeme) ≡ b → OnRead (OnStep (JoinItem l room) (t ∷ ts)) ((if b then pass >> Some <$> p else pure None) (t ∷ ts))
      by false h = found None (t ∷ ts) refl
      by true h = and_so (operand ts) (λ x rest f. found (Some x) rest (record { front = t ∷ f.front; whole = ap (λ us. t ∷ us) f.whole; is = join_item t f.front x (join_is t.lexeme t.at h) f.is }))

  gather_is : (ts us : List Token) (e : RawExpr) (xs : List RawExpr) → ExprIs l room ts e → Several (JoinItem l room) us xs → ExprIs up room (ts ++ us) (make e xs)
  gather_is ts _ e _ d none = subst (λ us. ExprIs up room us (make e [])) (sym (append-nil ts)) (alone ts e d)
  gather_is ts _ e _ d (more _ us _ xs (join_item t vs x h k) s) = with_more ts (t ∷ vs ++ us) e x xs d (of_joins l room t vs us x xs h k s)

  pub gathered_takes : Takes (ExprIs up room) (gathered test p make)
  gathered_takes ts = and_so (operand ts) (λ e s f. and_so (many_takes (JoinItem l room) (read_joined test p) join_takes s) (λ xs rest g. found (make e xs) rest (both f g (λ us vs d i. gather_is us vs e xs d i))))

module _ (l : Level) (room : ℕ) (test : Option Lexeme → Bool) (p : Reader RawExpr) (make : RawExpr → List RawExpr → RawExpr) (Ends : Option Lexeme → Type 0)
    (join_read : (t : Token) → JoinIs l t → test (Some t.lexeme) ≡ true)
    (join_ends : (t : Token) → JoinIs l t → Ends (Some t.lexeme))
    (operand : (us : List Token) (e : RawExpr) (rest : List Token) → ExprIs l room us e → Ends (first rest) → p (us ++ rest) ≡ Some (e, rest)) where
  join_again : (us : List Token) (x : RawExpr) (rest : List Token) → JoinItem l room us x → Ends (first rest) → read_joined test p (us ++ rest) ≡ Some (Some x, rest)
  unfolding first passed
  join_again _ _ rest (join_item t ts e h k) f = subst (λ b. (if b then pass >> Some <$> p else pure None) (t ∷ ts ++ rest) ≡ Some (Some e, rest)) (sym (join_read t h)) (read_then _ (operand ts e rest k f) refl)

  join_starts : (us : List Token) (x : RawExpr) (rest : List Token) → JoinItem l room us x → Ends (first (us ++ rest))
  unfolding first
  join_starts _ _ rest (join_item t ts e h k) = join_ends t h

  join_stops : (rest : List Token) → test (first rest) ≡ false → read_joined test p rest ≡ Some (None, rest)
  join_stops rest e = subst (λ b. (if b then pass >> Some <$> p else pure None) rest ≡ Some (None, rest)) (sym e) refl

  joins_again : (us : List Token) (xs : List RawExpr) (rest : List Token) → Several (JoinItem l room) us xs → Ends (first rest) → test (first rest) ≡ false → many (read_joined test p) [] (us ++ rest) ≡ Some (xs, rest)
  joins_again us xs rest s f e = many_again (JoinItem l room) (read_joined test p) (λ ts. Ends (first ts)) join_again join_starts (join_some l room) us xs rest s f (join_stops rest e) []

  pub alone_again : (us : List Token) (e : RawExpr) (rest : List Token) → ExprIs l room us e → Ends (first rest) → test (first rest) ≡ false → gathered test p make (us ++ rest) ≡ Some (make e [], rest)
  alone_again us e rest d f h = read_then _ (operand us e rest d f) (read_then _ (joins_again [] [] rest none f h) refl)

  pub gather_again : (ts us : List Token) (e : RawExpr) (xs : List RawExpr) (rest : List Token) → ExprIs l room ts e → JoinedAre l room us xs → Ends (first rest) → test (first rest) ≡ false → gathered test p make ((ts ++ us) ++ rest) ≡ Some (make e xs, rest)
  gather_again ts us e xs rest d k f h =
      let s = several_of l room us xs k in
      let next : Ends (first (us ++ rest)) = follows (JoinItem l room) (read_joined test p) (λ ts. Ends (first ts)) join_again join_starts (join_some l room) us xs rest s f in
      rw (append_assoc ts us rest) (read_then _ (operand ts e (us ++ rest) d next) (read_then _ (joins_again us xs rest s f h) refl))
