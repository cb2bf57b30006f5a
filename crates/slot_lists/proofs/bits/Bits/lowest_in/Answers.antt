use Rattle.std.proofs.Common.{◌≡◌, ◌≢◌, ◌<◌, ◌^◌, ◌∙◌, ◌*◌, ◌+◌, ◌/◌, ℕ, List, get_or, arith, rules, length}
use Rattle.std.proofs.lemmas.List.{get_or_default}
use Rattle.slot_lists.proofs.Words.{no_bit, has_lowest, is_lowest, within_words}
use Rattle.slot_lists.specs.Bits.{Has}
use Rattle.slot_lists.proofs.bits.Bits.lowest_in.Goals as goal

in_range : (words : List ℕ) (word bit : ℕ) → bit < 64 → Has words (word * 64 + bit) → word < length words
in_range words word bit l h = let m = within_words words (word * 64 + bit) h in let e : (word * 64 + bit) / 64 ≡ word = omega arith in omega arith

pub index-requires : goal.index-requires
index-requires c = let l = in_range c.self.inside.words.items c.args.word c.requires.0 c.requires.1 (rw c.self.view_is c.requires.2) in omega arith

pub returns-clause-has : goal.returns-clause-has
returns-clause-has c = let w = c.index.result.now in
    let l = in_range c.self.inside.words.items c.args.word c.requires.0 c.requires.1 (rw c.self.view_is c.requires.2) in
    let is : w ≡ get_or c.self.inside.words.items c.args.word 0 = c.index.ensures ∙ get_or_default c.self.inside.words.items c.args.word w 0 (omega arith) in
    let fits : w < 2 ^ 64 = search rules in
    let h : Has c.self.inside.words.items (c.args.word * 64 + c.requires.0) = rw c.self.view_is c.requires.2 in
    let some : w ≢ 0 = λ z. no_bit c.self.inside.words.items c.args.word w is z c.requires.0 c.requires.1 h in
    rw (← c.self.view_is) (has_lowest c.self.inside.words.items c.args.word w is fits some)

pub returns-clause-lowest : goal.returns-clause-lowest
returns-clause-lowest c = let w = c.index.result.now in
    let l = in_range c.self.inside.words.items c.args.word c.requires.0 c.requires.1 (rw c.self.view_is c.requires.2) in
    let is : w ≡ get_or c.self.inside.words.items c.args.word 0 = c.index.ensures ∙ get_or_default c.self.inside.words.items c.args.word w 0 (omega arith) in
    let fits : w < 2 ^ 64 = search rules in
    let h : Has c.self.inside.words.items (c.args.word * 64 + c.requires.0) = rw c.self.view_is c.requires.2 in
    let some : w ≢ 0 = λ z. no_bit c.self.inside.words.items c.args.word w is z c.requires.0 c.requires.1 h in
    rw (← c.self.view_is) (is_lowest c.self.inside.words.items c.args.word w is fits some)
