use Rattle.std.proofs.Common.{◌∙◌, arith}
use Rattle.std.proofs.lemmas.Bool.{lt-ltb}
use Rattle.pv_values.proofs.Digits.{no_digit, too_great, goes_on, no_test, at_least, is_none, is_some_number}
use Rattle.pv_values.proofs.number.digits_number.Goals as goal

pub returns-in_err-digit : goal.returns-in_err-digit
returns-in_err-digit c =
    c.from_residual.ensures ∙ is_none _ _ _ c.if-is_empty.ensures c.loop-byte.invariant
    (no_digit _ _ _ c.loop-byte-test.true (no_test _ _ c.in_err-digit.ensures.value))

pub returns-in_err-checked_mul : goal.returns-in_err-checked_mul
returns-in_err-checked_mul c =
    let high = at_least _ _ c.in_err-checked_mul.ensures in
    c.from_residual-in_err-checked_mul.ensures ∙ is_none _ _ _ c.if-is_empty.ensures c.loop-byte.invariant
    (too_great _ _ _ c.loop-byte-test.true (omega (arith, high)))

pub returns-in_err-n : goal.returns-in_err-n
returns-in_err-n c =
    let high = at_least _ _ c.in_err-n.ensures in
    let tens = c.in_ok-checked_mul.ensures in
    let digit = c.in_ok-digit.ensures.value in
    c.from_residual-in_err-n.ensures ∙ is_none _ _ _ c.if-is_empty.ensures c.loop-byte.invariant
    (too_great _ _ _ c.loop-byte-test.true (omega (arith, high, tens.1, digit.1)))

pub loop-byte-preserved : goal.loop-byte-preserved
loop-byte-preserved c =
    let tens = c.in_ok-checked_mul.ensures in
    let digit = c.in_ok-digit.ensures.value in
    let sum = c.in_ok-n.ensures in
    goes_on _ _ _ _ c.loop-byte-test.true (lt-ltb _ _ digit.0) (omega (arith, sum.1, tens.1, digit.1)) (omega (arith, sum.0, sum.1))
    ∙ c.loop-byte.invariant

pub returns : goal.returns
returns c = is_some_number _ _ _ c.if-is_empty.ensures c.loop-byte.invariant (omega (arith, c.loop-byte-test.false))
