use Rattle.std.proofs.Common.{get_or, arith}
use Rattle.std.proofs.lemmas.Grind.{pow_more}
use Rattle.std.specs.Char.{IsAsciiDigit}
use Rattle.sip_words.proofs.Digits.{digits_more}
use Rattle.sip_words.proofs.numbers.value_of.Goals as goal

pub loop-digit-preserved : goal.loop-digit-preserved
loop-digit-preserved c =
    let i = c.loop-digit.digit-index in
    let ds = c.args.digits.now in
    let d : IsAsciiDigit (get_or ds i 0) = c.requires.digits i (omega arith) in
    let more = digits_more ds i (omega arith) d in
    (omega (arith, pow_more 10 i), omega (arith, more))
