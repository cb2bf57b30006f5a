-- Readers, step by step: what a step reads, and what is read where a step reads.
use Rattle.std.specs.Prelude.{Bool, true, false, List, [], ◌∷◌, ◌++◌, Option, Some, None, if◌then◌else◌}
use Rattle.std.proofs.Common.{◌≡◌, refl, sym, ap, subst, ◌∙◌, append_assoc}
use Rattle.std.proofs.lemmas.Bool.{both_ways}
use denote.Enum.Bare.{same_true, true_same}
use Rattle.cfg_tree.specs.declared.token.Token.{Token}
use Rattle.cfg_tree.specs.declared.token.Lexeme.{Lexeme}
use Rattle.cfg_tree.specs.declared.token.Lexeme.TheVariants as lexeme
use Rattle.cfg_tree.specs.declared.token.Keyword.{Keyword}
use Rattle.cfg_tree.specs.declared.token.Mark.{Mark}
use Rattle.cfg_tree.specs.contracts.token.Keyword as keyword
use Rattle.cfg_tree.specs.contracts.token.Mark as mark
use Rattle.cfg_tree.specs.Tokens.{IsA, IsMark, IsKeyword}
use Rattle.cfg_parse.specs.Reader.{Reader, and_then, first, is_mark, is_keyword, sees_mark, sees_keyword, passed, after, mark_of, keyword_of}

-- what holds of what is read, and of the tokens that are left, if anything is read
pub data OnRead {A : Type 0} (Q : A → List Token → Type 0) : Option (A × List Token) → Type 0 where
  nothing : OnRead Q None
  found : (a : A) (rest : List Token) → Q a rest → OnRead Q (Some (a, rest))

-- what a step reads, and then what follows
pub and_so : {A B : Type 0} {P : A → List Token → Type 0} {Q : B → List Token → Type 0} {o : Option (A × List Token)} {f : A → Reader B} → OnRead P o → ((a : A) (mid : List Token) → P a mid → OnRead Q (f a mid)) → OnRead Q (and_then o f)
and_so nothing f = nothing
and_so (found a mid p) f = f a mid p

pub weaker : {A : Type 0} {P Q : A → List Token → Type 0} {o : Option (A × List Token)} → OnRead P o → ((a : A) (rest : List Token) → P a rest → Q a rest) → OnRead Q o
weaker nothing f = nothing
weaker (found a rest p) f = found a rest (f a rest p)

pub of_read : {A : Type 0} {Q : A → List Token → Type 0} {o : Option (A × List Token)} (a : A) (rest : List Token) → OnRead Q o → o ≡ Some (a, rest) → Q a rest
of_read {A} {Q} {o} a rest h e = by (subst (OnRead Q) e h)
  where
    by : OnRead Q (Some (a, rest)) → Q a rest
    by (found _ _ q) = q

-- where a step reads, what follows
pub read_then : {A B : Type 0} {o : Option (A × List Token)} (f : A → Reader B) {a : A} {mid : List Token} {r : Option (B × List Token)} → o ≡ Some (a, mid) → f a mid ≡ r → and_then o f ≡ r
read_then {A} {B} {o} f {a} {mid} {r} e h = subst (λ (p : Option (A × List Token)). and_then p f ≡ r) (sym e) h

-- the front of the tokens is such a part, read as this value
pub record Front {A : Type 0} (P : List Token → A → Type 0) (ts : List Token) (a : A) (rest : List Token) : Type 0 where
  pub front : List Token
  pub whole : ts ≡ front ++ rest
  pub is : P front a

abbrev pub Takes : {A : Type 0} (P : List Token → A → Type 0) → Reader A → Type 0
Takes P r = (ts : List Token) → OnRead (Front P ts) (r ts)

pub both : {A B C : Type 0} {P : List Token → A → Type 0} {Q : List Token → B → Type 0} {R : List Token → C → Type 0} {ts mid rest : List Token} {a : A} {b : B} {c : C} → Front P ts a mid → Front Q mid b rest → ((us vs : List Token) → P us a → Q vs b → R (us ++ vs) c) → Front R ts c rest
both {rest = rest} f g make = record { front = f.front ++ g.front; whole = f.whole ∙ ap (λ us. f.front ++ us) g.whole ∙ sym (append_assoc f.front g.front rest); is = make f.front g.front f.is g.is }

-- one token is read as this value
pub record OneToken {A : Type 0} (P : Token → A → Type 0) (ts : List Token) (a : A) (rest : List Token) : Type 0 where
  pub token : Token
  pub whole : ts ≡ token ∷ rest
  pub is : P token a

-- ---- marks and keywords

pub mark_is : (m : Mark) (x : Lexeme) → is_mark m x ≡ true → x ≡ lexeme.Mark m
mark_is m (lexeme.Mark n) h = ap (λ (k : Mark). lexeme.Mark k) (sym (same_true mark.the_type tt m n h))
mark_is m _ h = absurd (both_ways false refl h)

keyword_is : (k : Keyword) (x : Lexeme) → is_keyword k x ≡ true → x ≡ lexeme.Keyword k
keyword_is k (lexeme.Keyword l) h = ap (λ (k : Keyword). lexeme.Keyword k) (sym (same_true keyword.the_type tt k l h))
keyword_is k _ h = absurd (both_ways false refl h)

pub mark_takes : (m : Mark) (ts : List Token) → OnRead (OneToken (λ t _. IsMark m t) ts) (mark_of m ts)
unfolding mark_of sees_mark first passed
mark_takes m [] = nothing
mark_takes m (t ∷ ts) = by (is_mark m t.lexeme) refl
  where
    by : (b : Bool) → is_mark m t.lexeme ≡ b → OnRead (OneToken (λ u _. IsMark m u) (t ∷ ts)) (if b then Some (tt {0}, ts) else None)
    by true h = found tt ts (record { token = t; whole = refl; is = mark_is m t.lexeme h })
    by false h = nothing

pub keyword_takes : (k : Keyword) (ts : List Token) → OnRead (OneToken (λ t _. IsKeyword k t) ts) (keyword_of k ts)
unfolding keyword_of sees_keyword first passed
keyword_takes k [] = nothing
keyword_takes k (t ∷ ts) = by (is_keyword k t.lexeme) refl
  where
    by : (b : Bool) → is_keyword k t.lexeme ≡ b → OnRead (OneToken (λ u _. IsKeyword k u) (t ∷ ts)) (if b then Some (tt {0}, ts) else None)
    by true h = found tt ts (record { token = t; whole = refl; is = keyword_is k t.lexeme h })
    by false h = nothing

-- a mark that is passed where it comes next
pub eaten : {A : Type 0} {Q : A → List Token → Type 0} (m : Mark) (ts : List Token) (p q : Reader A) → ((t : Token) (mid : List Token) → ts ≡ t ∷ mid → IsMark m t → OnRead Q (p mid)) → OnRead Q (q ts) → OnRead Q ((if sees_mark m ts then p else q) (after (sees_mark m ts) ts))
unfolding sees_mark first passed
eaten m [] p q f g = g
eaten {A} {Q} m (t ∷ ts) p q f g = by (is_mark m t.lexeme) refl
  where
    by : (b : Bool) → is_mark m t.lexeme ≡ b → OnRead Q ((if b then p else q) (after b (t ∷ ts)))
    by true h = f t ts refl (mark_is m t.lexeme h)
    by false h = g

pub eaten_word : {A : Type 0} {Q : A → List Token → Type 0} (k : Keyword) (ts : List Token) (p q : Reader A) → ((t : Token) (mid : List Token) → ts ≡ t ∷ mid → IsKeyword k t → OnRead Q (p mid)) → (sees_keyword k ts ≡ false → OnRead Q (q ts)) → OnRead Q ((if sees_keyword k ts then p else q) (after (sees_keyword k ts) ts))
unfolding sees_keyword first passed
eaten_word k [] p q f g = g refl
eaten_word {A} {Q} k (t ∷ ts) p q f g = by (is_keyword k t.lexeme) refl
  where
    by : (b : Bool) → is_keyword k t.lexeme ≡ b → OnRead Q ((if b then p else q) (after b (t ∷ ts)))
    by true h = f t ts refl (keyword_is k t.lexeme h)
    by false h = g h

-- ---- where the next token is known

pub sees : (m : Mark) (t : Token) (ts : List Token) → IsMark m t → sees_mark m (t ∷ ts) ≡ true
unfolding sees_mark first
sees m t ts h = ap (is_mark m) h ∙ true_same mark.the_type m m refl

pub sees_word : (k : Keyword) (t : Token) (ts : List Token) → IsKeyword k t → sees_keyword k (t ∷ ts) ≡ true
unfolding sees_keyword first
sees_word k t ts h = ap (is_keyword k) h ∙ true_same keyword.the_type k k refl

pub unseen : (m : Mark) (t : Token) (ts : List Token) {x : Lexeme} → IsA x t → is_mark m x ≡ false → sees_mark m (t ∷ ts) ≡ false
unfolding sees_mark first
unseen m t ts h e = ap (is_mark m) h ∙ e

pub unseen_word : (k : Keyword) (t : Token) (ts : List Token) {x : Lexeme} → IsA x t → is_keyword k x ≡ false → sees_keyword k (t ∷ ts) ≡ false
unfolding sees_keyword first
unseen_word k t ts h e = ap (is_keyword k) h ∙ e

pub mark_again : (m : Mark) (t : Token) (ts : List Token) → IsMark m t → mark_of m (t ∷ ts) ≡ Some (tt, ts)
unfolding mark_of passed
mark_again m t ts h = rw (sees m t ts h) refl

pub keyword_again : (k : Keyword) (t : Token) (ts : List Token) → IsKeyword k t → keyword_of k (t ∷ ts) ≡ Some (tt, ts)
unfolding keyword_of passed
keyword_again k t ts h = rw (sees_word k t ts h) refl

pub eats : {A : Type 0} {r : Option (A × List Token)} (p q : Reader A) {b : Bool} (t : Token) (ts : List Token) → b ≡ true → p ts ≡ r → (if b then p else q) (after b (t ∷ ts)) ≡ r
unfolding passed
eats {A} {r} p q t ts e h = subst (λ (b : Bool). (if b then p else q) (after b (t ∷ ts)) ≡ r) (sym e) h

pub leaves : {A : Type 0} {r : Option (A × List Token)} (p q : Reader A) {b : Bool} (ts : List Token) → b ≡ false → q ts ≡ r → (if b then p else q) (after b ts) ≡ r
leaves {A} {r} p q ts e h = subst (λ (b : Bool). (if b then p else q) (after b ts) ≡ r) (sym e) h

-- a reader that is chosen by what comes next
pub by_first : {A : Type 0} {r : Option (A × List Token)} (choose : Option Lexeme → Reader A) (t : Token) (ts : List Token) {x : Lexeme} → IsA x t → choose (Some x) (t ∷ ts) ≡ r → choose (first (t ∷ ts)) (t ∷ ts) ≡ r
unfolding first
by_first {A} {r} choose t ts h e = subst (λ (y : Lexeme). choose (Some y) (t ∷ ts) ≡ r) (sym h) e
