-- Readers of tokens: each reads the front of a list of tokens as a value, and leaves the rest.
use Rattle.std.specs.Prelude.{◌≡◌, ◌≢◌, ℕ, zero, suc, ◌-◌, Bool, true, false, List, [], ◌∷◌, ◌++◌, length, take, Option, Some, None, Result, Ok, Err, if◌then◌else◌}
use Rattle.std.specs.Option.{option_map}
use denote.Enum.Bare.{sameb}
use denote.Ref.{MutBor}
use Rattle.pv_values.specs.declared.refusal.Place.{Place}
use Rattle.cfg_parse.specs.declared.fault.Fault.{Fault}
use Rattle.cfg_parse.specs.declared.fault.Fault.TheVariants.{NoMemory}
use Rattle.cfg_tree.specs.declared.token.Token.{Token}
use Rattle.cfg_tree.specs.declared.token.Lexeme.{Lexeme}
use Rattle.cfg_tree.specs.declared.token.Lexeme.TheVariants as lexeme
use Rattle.cfg_tree.specs.declared.token.Keyword.{Keyword}
use Rattle.cfg_tree.specs.declared.token.Mark.{Mark}
use Rattle.cfg_tree.specs.contracts.token.Keyword as keyword
use Rattle.cfg_tree.specs.contracts.token.Mark as mark
use Rattle.cfg_tree.specs.Tokens.{whole}

abbrev pub Reader : Type 0 → Type 0
Reader A = List Token → Option (A × List Token)

abbrev pub and_then : {A B : Type 0} → Option (A × List Token) → (A → Reader B) → Option (B × List Token)
and_then None f = None
and_then (Some r) f = f r.0 r.1

infixl 10 ◌>>=◌
abbrev pub ◌>>=◌ : {A B : Type 0} → Reader A → (A → Reader B) → Reader B
p >>= f = λ ts. and_then (p ts) f

infixl 10 ◌>>◌
abbrev pub ◌>>◌ : {A B : Type 0} → Reader A → Reader B → Reader B
p >> q = p >>= (λ _. q)

abbrev pub pure : {A : Type 0} → A → Reader A
pure a = λ ts. Some (a, ts)

infixr 11 ◌<$>◌
abbrev pub ◌<$>◌ : {A B : Type 0} → (A → B) → Reader A → Reader B
f <$> p = p >>= (λ x. pure (f x))

-- nothing is read
abbrev pub refuse : {A : Type 0} → Reader A
refuse = λ ts. None

-- ---- the next token

unfoldable pub next : List Token → Option Token
next [] = None
next (t ∷ ts) = Some t

-- what it is, if there is one
unfoldable pub first : List Token → Option Lexeme
first [] = None
first (t ∷ ts) = Some t.lexeme

-- the tokens after it
unfoldable pub passed : List Token → List Token
passed [] = []
passed (t ∷ ts) = ts

abbrev pub pass : Reader (Unit {0})
pass = λ ts. Some (tt, passed ts)

-- what is read from it, by what it is and where it stands
unfoldable pub one : {A : Type 0} → (Lexeme → Place → Option A) → Reader A
one read [] = None
one read (t ∷ ts) = option_map (λ a. (a, ts)) (read t.lexeme t.at)

abbrev pub is_mark : Mark → Lexeme → Bool
is_mark m (lexeme.Mark n) = sameb mark.the_type m n
is_mark m _ = false

abbrev pub is_keyword : Keyword → Lexeme → Bool
is_keyword k (lexeme.Keyword l) = sameb keyword.the_type k l
is_keyword k _ = false

abbrev pub holds_for : (Lexeme → Bool) → Option Lexeme → Bool
holds_for test None = false
holds_for test (Some x) = test x

-- this mark comes next, or this keyword
unfoldable pub sees_mark : Mark → List Token → Bool
sees_mark m ts = holds_for (is_mark m) (first ts)

unfoldable pub sees_keyword : Keyword → List Token → Bool
sees_keyword k ts = holds_for (is_keyword k) (first ts)

-- passes the next token, if the test holds
abbrev pub after : Bool → List Token → List Token
after true ts = passed ts
after false ts = ts

abbrev pub eat_mark : Mark → Reader Bool
eat_mark m = λ ts. Some (sees_mark m ts, after (sees_mark m ts) ts)

abbrev pub eat_keyword : Keyword → Reader Bool
eat_keyword k = λ ts. Some (sees_keyword k ts, after (sees_keyword k ts) ts)

-- the next token is this mark, or this keyword
unfoldable pub mark_of : Mark → Reader (Unit {0})
mark_of m = λ ts. if sees_mark m ts then Some (tt, passed ts) else None

unfoldable pub keyword_of : Keyword → Reader (Unit {0})
keyword_of k = λ ts. if sees_keyword k ts then Some (tt, passed ts) else None

-- what a mark or a keyword begins, if it comes next
abbrev pub behind_mark : {A : Type 0} → Mark → Reader A → Reader (Option A)
behind_mark m p = do
  found ← eat_mark m
  if found then Some <$> p else pure None

abbrev pub behind_keyword : {A : Type 0} → Keyword → Reader A → Reader (Option A)
behind_keyword k p = do
  found ← eat_keyword k
  if found then Some <$> p else pure None

-- ---- places

abbrev pub here : Reader (List Token)
here = λ ts. Some (ts, ts)

-- the part of the text of the tokens that were read since there were these
unfoldable pub place_since : List Token → List Token → Place
place_since start ts = whole (take (length start - length ts) start)

abbrev pub since : List Token → Reader Place
since start = λ ts. Some (place_since start ts, ts)

-- ---- repetition

abbrev pub go_on : {A : Type 0} → Option A → List A → (List A → Reader (List A)) → Reader (List A)
go_on None found more = pure found
go_on (Some x) found more = more (found ++ x ∷ [])

-- item by item, until none comes, after those that were found. The number bounds the turns: each takes a token, so the
-- count of tokens is enough.
unfoldable pub many_from : {A : Type 0} → Reader (Option A) → ℕ → List A → Reader (List A)
many_from step zero found = pure found
many_from step (suc n) found = do
  next ← step
  go_on next found (many_from step n)

unfoldable pub many : {A : Type 0} → Reader (Option A) → List A → Reader (List A)
many step found = λ ts. many_from step (length ts) found ts

-- ---- the result of a function that reads so

-- the value that is read, with the rest; or a fault where none is. It may be out of memory at any time.
abbrev pub Reads : {A : Type 0} → Option (A × List Token) → Result A Fault → List Token → Type 0
Reads found (Ok a) rest = found ≡ Some (a, rest)
Reads found (Err fault) rest = fault ≢ NoMemory → found ≡ None

-- a function value that reads an item, or that none comes
abbrev pub Steps : {A : Type 0} → Reader (Option A) → (MutBor (List Token) → Result (Option A) Fault → MutBor (List Token) → Type 0) → Type 0
Steps step post = (old new : MutBor (List Token)) (r : _) → post old r new → Reads (step old.now) r new.now
