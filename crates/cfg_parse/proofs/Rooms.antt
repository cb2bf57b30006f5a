-- Where no statement may stand in it, no `if` and no `while` is read.
use Rattle.std.proofs.Common.{◌≡◌, ℕ, Bool, List, Option, Some, None, refl}
use Rattle.cfg_tree.specs.declared.token.Token.{Token}
use Rattle.cfg_tree.specs.declared.token.Keyword.TheVariants.{If, While}
use Rattle.cfg_parse.specs.Reader.{Reader, and_then, keyword_of}
use Rattle.cfg_parse.specs.Stmts.{condition, stmt, if_of, while_of}

dead : {A B : Type 0} (x : Option (A × List Token)) (f : A → Reader B) → ((a : A) (ts : List Token) → f a ts ≡ None) → and_then x f ≡ None
dead None f none = refl
dead (Some r) f none = none r.0 r.1

no_if : (loop : Bool) (ts : List Token) → if_of (stmt 0) loop ts ≡ None
unfolding if_of stmt
no_if loop ts = dead (keyword_of If ts) _ (λ _ us. dead (condition us) _ (λ _ vs. refl))

no_while : (ts : List Token) → while_of (stmt 0) ts ≡ None
unfolding while_of stmt
no_while ts = dead (keyword_of While ts) _ (λ _ us. dead (condition us) _ (λ _ vs. refl))

pub if_without_room : (room : ℕ) (loop : Bool) (ts : List Token) → room ≡ 0 → if_of (stmt room) loop ts ≡ None
if_without_room room loop ts none = rw none (no_if loop ts)

pub while_without_room : (room : ℕ) (ts : List Token) → room ≡ 0 → while_of (stmt room) ts ≡ None
while_without_room room ts none = rw none (no_while ts)

pub ruleset rooms = (if_without_room, while_without_room)
