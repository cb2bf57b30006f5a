use Rattle.std.proofs.Common.{◌≡◌, ◌≢◌, ◌<◌, ◌^◌, ◌∙◌, ◌*◌, ◌+◌, ℕ, false, eqb, get_or, arith, rules, ap, sym, length, eq-eqb}
use Rattle.std.proofs.lemmas.Bool.{eqb-true, true≢false}
use Rattle.std.proofs.lemmas.List.{get_or_default}
use Rattle.slot_lists.proofs.Words.{no_bit, few, has_lowest}
use Rattle.slot_lists.specs.Bits.{Has}
use Rattle.std.specs.Int.{trailing_zeros}
use Rattle.std.proofs.Common.{w64}
use Rattle.slot_lists.proofs.bits.Bits.is_empty.Goals as goal

not_zero : (w : ℕ) → eqb w 0 ≡ false → w ≢ 0
not_zero w e z = true≢false (sym (eq-eqb w 0 z) ∙ e)

pub returns-clause-empty : goal.returns-clause-empty
returns-clause-empty c = λ e. let v = ap length c.self.view_is in rw (← c.self.view_is) (no_bit c.self.inside.words.items c.args.word c.index.result.now (c.index.ensures ∙ get_or_default c.self.inside.words.items c.args.word c.index.result.now 0 (omega arith)) (eqb-true c.index.result.now 0 e))

pub returns-clause-some : goal.returns-clause-some
returns-clause-some c = λ e. let v = ap length c.self.view_is in let w = c.index.result.now in
    let is : w ≡ get_or c.self.inside.words.items c.args.word 0 = c.index.ensures ∙ get_or_default c.self.inside.words.items c.args.word w 0 (omega arith) in
    let fits : w < 2 ^ 64 = search rules in
    let some : w ≢ 0 = not_zero w e in
    let h : Has c.args.self.now (c.args.word * 64 + trailing_zeros w64 w) = rw (← c.self.view_is) (has_lowest c.self.inside.words.items c.args.word w is fits some) in
    (trailing_zeros w64 w, few c.self.inside.words.items c.args.word w is fits some, h)
