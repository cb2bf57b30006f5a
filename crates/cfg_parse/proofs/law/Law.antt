-- What is read of a script is what the grammar derives.
use Rattle.std.specs.Prelude.{List, [], ◌∷◌, Option, Some}
use Rattle.std.proofs.Common.{◌≡◌, sym, ap, subst, ◌∙◌, append-nil}
use Rattle.std.proofs.lemmas.Option.{same_Some}
use Rattle.cfg_tree.specs.declared.token.Token.{Token}
use Rattle.cfg_tree.specs.declared.raw.RawItem.{RawItem}
use Rattle.cfg_tree.specs.Grammar.{Derives}
use Rattle.cfg_parse.specs.Script.{items, all_read, script_at}
use Rattle.cfg_parse.proofs.law.Steps.{OnRead, nothing, found, Front}
use Rattle.cfg_parse.proofs.law.ItemTakes.{items_take}
use Rattle.cfg_parse.proofs.law.ItemAgain.{items_again}

whole_read : (tokens : List Token) (xs : List RawItem) (o : Option (List RawItem × List Token)) → OnRead (Front Derives tokens) o → all_read o ≡ Some xs → Derives tokens xs
whole_read tokens xs _ nothing h = absurd (cc)
whole_read tokens xs _ (found ys [] f) h = subst (λ (zs : List RawItem). Derives tokens zs) (same_Some ys xs h) (subst (λ (us : List Token). Derives us ys) (sym (f.whole ∙ append-nil f.front)) f.is)
whole_read tokens xs _ (found ys (t ∷ ts) f) h = absurd (cc)

pub derives : (tokens : List Token) (items : List RawItem) → script_at tokens ≡ Some items → Derives tokens items
unfolding script_at
derives tokens xs h = whole_read tokens xs (items tokens) (items_take tokens) h

pub reads : (tokens : List Token) (items : List RawItem) → Derives tokens items → script_at tokens ≡ Some items
unfolding script_at
reads tokens xs d = ap all_read (items_again tokens xs d)
