-- The place of the tokens that were read.
use Rattle.std.specs.Prelude.{ℕ, ◌-◌, List, ◌++◌, length, take}
use Rattle.std.proofs.Common.{◌≡◌, sym, ap, subst, ◌∙◌, arith, length-append}
use Rattle.std.proofs.Math.Seq.{take-append_seam}
use Rattle.cfg_tree.specs.declared.token.Token.{Token}
use Rattle.cfg_tree.specs.Tokens.{whole}
use Rattle.cfg_parse.specs.Reader.{place_since}

cut_off : (xs ys : List Token) → take (length (xs ++ ys) - length ys) (xs ++ ys) ≡ xs
cut_off xs ys =
    let n : length (xs ++ ys) - length ys ≡ length xs = omega (arith, length-append xs ys) in
    ap (λ (k : ℕ). take k (xs ++ ys)) n ∙ take-append_seam xs ys

pub placed : (start xs rest : List Token) → start ≡ xs ++ rest → place_since start rest ≡ whole xs
unfolding place_since
placed start xs rest e = subst (λ (us : List Token). place_since us rest ≡ whole xs) (sym e) (ap whole (cut_off xs rest))
