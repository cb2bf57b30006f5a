-- A word that begins as a number is one exactly where it parses.
use Rattle.std.proofs.Common.{sym}
use Rattle.numerals.proofs.Digits.{parsed_found, parsed_none, not_begun, not_utf8}
use Rattle.numerals.proofs.numbers.number.Goals as goal

pub returns-then-not-begins_number-clause-none : goal.returns-then-not-begins_number-clause-none
returns-then-not-begins_number-clause-none c = not_begun c.args.word.now (sym c.if-not-begins_number.ensures)

pub returns-clause-found : goal.returns-clause-found
returns-clause-found c =
    rw c.ok.ensures.value (
    parsed_found c.args.word.now c.parse.result (sym c.if-not-begins_number.ensures)
    (rw c.in-Ok.ensures.cases.0 at c.parse.ensures.value.0))

pub returns-clause-none : goal.returns-clause-none
returns-clause-none c =
    rw c.ok.ensures.value (
    parsed_none c.args.word.now c.parse.result (rw c.in-Ok.ensures.cases.0 at c.parse.ensures.value.0))

pub returns-in_default-clause-none : goal.returns-in_default-clause-none
returns-in_default-clause-none c = not_utf8 c.args.word.now c.in_default.ensures.cases.0
