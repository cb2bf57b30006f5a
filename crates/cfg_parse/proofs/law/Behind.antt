-- What a keyword begins, where it comes next.
use Rattle.std.specs.Prelude.{◌<◌, false, List, ◌∷◌, length, Some, None}
use Rattle.std.proofs.Common.{◌≡◌, refl, ap, ◌∙◌, arith}
use Rattle.cfg_tree.specs.declared.token.Token.{Token}
use Rattle.cfg_tree.specs.declared.token.Keyword.{Keyword}
use Rattle.cfg_tree.specs.Tokens.{IsKeyword}
use Rattle.cfg_parse.specs.Reader.{Reader, sees_keyword, behind_keyword}
use Rattle.cfg_parse.proofs.law.Steps.{OnRead, found, and_so, read_then, Takes, eaten_word, sees_word, eats, leaves}
use Rattle.cfg_parse.proofs.law.Several.{OnStep}

pub data BehindWord {A : Type 0} (k : Keyword) (P : List Token → A → Type 0) : List Token → A → Type 0 where
  behind_word : (t : Token) (us : List Token) (a : A) → IsKeyword k t → P us a → BehindWord k P (t ∷ us) a

pub behind_word_takes : {A : Type 0} (k : Keyword) (P : List Token → A → Type 0) (p : Reader A) → Takes P p → (ts : List Token) → OnRead (OnStep (BehindWord k P) ts) (behind_keyword k p ts)
behind_word_takes k P p h ts = eaten_word k ts _ _ (λ t mid e i. and_so (h mid) (λ a rest f. found (Some a) rest (record { front = t ∷ f.front; whole = e ∙ ap (λ us. t ∷ us) f.whole; is = behind_word t f.front a i f.is }))) (λ _. found None ts refl)

pub behind_some : {A : Type 0} (k : Keyword) (P : List Token → A → Type 0) (us : List Token) (a : A) → BehindWord k P us a → 0 < length us
behind_some k P _ _ (behind_word t us a h d) = omega arith

pub behind_again : {A : Type 0} (k : Keyword) (p : Reader A) (t : Token) (ts : List Token) {a : A} {rest : List Token} → IsKeyword k t → p ts ≡ Some (a, rest) → behind_keyword k p (t ∷ ts) ≡ Some (Some a, rest)
behind_again k p t ts h e = eats _ _ t ts (sees_word k t ts h) (read_then _ e refl)

pub behind_none : {A : Type 0} (k : Keyword) (p : Reader A) (ts : List Token) → sees_keyword k ts ≡ false → behind_keyword k p ts ≡ Some (None, ts)
behind_none k p ts h = leaves _ _ ts h refl
