-- The tree of the tokens of a text, by what is read of them.
use Rattle.std.proofs.Common.{◌≡◌, ℕ, List, Some, None, refl, sym, ap, ◌∙◌}
use Rattle.std.proofs.lemmas.Option.{same_Some}
use Rattle.cfg_tree.specs.declared.token.Token.{Token}
use Rattle.cfg_tree.specs.declared.raw.RawItem.{RawItem}
use Rattle.cfg_tree.specs.declared.raw.RawScript.{RawScript}
use Rattle.cfg_tree.specs.Checks.{IsTreeOf, IsUnderivable}
use Rattle.cfg_parse.specs.Script.{script_at}
use Rattle.cfg_parse.specs.Answer.{IsTheOnly}
use Rattle.cfg_parse.proofs.law.Law.{derives, reads}

abbrev pub tree_of : ℕ → List RawItem → RawScript
tree_of end items = record { items = items; end = end }

pub the_tree : (ts : List Token) (end : ℕ) (items : List RawItem) → script_at ts ≡ Some items → IsTreeOf ts end (tree_of end items)
the_tree ts end items e = record { derived = derives ts items e; end_is = refl }

same_tree : (a b : RawScript) → a.items ≡ b.items → a.end ≡ b.end → a ≡ b
same_tree a b e f =
    let first : a ≡ tree_of a.end b.items = ap (λ x. tree_of a.end x) e in
    first ∙ ap (λ n. tree_of n b.items) f

pub the_only : (ts : List Token) (end : ℕ) (items : List RawItem) → script_at ts ≡ Some items → IsTheOnly ts end (tree_of end items)
the_only ts end items e other is =
    same_tree other (tree_of end items) (same_Some _ _ (sym (reads ts other.items is.derived) ∙ e)) is.end_is

pub no_tree : (ts : List Token) (end : ℕ) → script_at ts ≡ None → IsUnderivable ts end
no_tree ts end e raw is =
    let clash : Some raw.items ≡ None = sym (reads ts raw.items is.derived) ∙ e in absurd (cc)
