-- The words that begin a block, and the kinds that they are.
use Rattle.std.specs.Prelude.{ℕ, Bool, true, false, List, IfSome, if◌then◌else◌, codes}
use Rattle.std.proofs.Common.{◌≡◌, refl, ap, ◌∙◌}
use Rattle.std.specs.Str.{bytes_eq}
use Rattle.std.proofs.lemmas.Slice.Eq.{bytes_eq-Decides}
use Rattle.cfg_tree.specs.declared.token.Token.{Token}
use Rattle.cfg_tree.specs.declared.token.Lexeme.TheVariants as lexeme
use Rattle.cfg_tree.specs.declared.token.Keyword.TheVariants as word_is
use Rattle.cfg_tree.specs.Tokens.{IsA, IsKeyword}
use Rattle.cfg_tree.specs.Grammar as tree
use Rattle.cfg_tree.specs.Grammar.{KindIs, NamedKindIs}
use Rattle.cfg_parse.specs.declared.script.BlockKinds.{BlockKinds}
use Rattle.cfg_parse.specs.Script.{route_kinds, kinds_of}

-- these are the kinds of a block that the token begins
pub record KindsFor (t : Token) (kinds : BlockKinds) : Type 0 where
  pub alone : IfSome kinds.alone (λ kind. KindIs t kind)
  pub named : IfSome kinds.named (λ kind. NamedKindIs t kind)

pub route_kinds_for : (t : Token) → IsKeyword word_is.Route t → KindsFor t route_kinds
route_kinds_for t h = record { alone = tree.route_word t h; named = tree.named_route t h }

chosen : (t : Token) (s text : List ℕ) (these others : BlockKinds) → IsA (lexeme.Name s) t → (IsA (lexeme.Name text) t → KindsFor t these) → KindsFor t others → KindsFor t (if bytes_eq s text then these else others)
chosen t s text these others h f g = by (bytes_eq s text) (λ e. h ∙ ap (λ (u : List ℕ). lexeme.Name u) ((bytes_eq-Decides s text).0 e))
  where
    by : (b : Bool) → (b ≡ true → IsA (lexeme.Name text) t) → KindsFor t (if b then these else others)
    by true k = f (k refl)
    by false k = g

pub name_kinds_for : (t : Token) (s : List ℕ) → IsA (lexeme.Name s) t → KindsFor t (kinds_of s)
unfolding kinds_of
name_kinds_for t s h =
    chosen t s (codes "request_route") _ _ h (λ k. record { alone = tree.request_word t k; named = tt })
    (chosen t s (codes "reply_route") _ _ h (λ k. record { alone = tree.reply_word t k; named = tt })
    (chosen t s (codes "onreply_route") _ _ h (λ k. record { alone = tree.onreply_word t k; named = tree.named_onreply t k })
    (chosen t s (codes "branch_route") _ _ h (λ k. record { alone = tt; named = tree.named_branch t k })
    (chosen t s (codes "failure_route") _ _ h (λ k. record { alone = tt; named = tree.named_failure t k })
    (chosen t s (codes "event_route") _ _ h (λ k. record { alone = tt; named = tree.named_event t k })
    (record { alone = tt; named = tt }))))))
