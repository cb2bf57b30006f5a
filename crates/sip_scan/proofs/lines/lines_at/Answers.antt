use Rattle.std.proofs.Common.{◌∷◌, ◌++◌, [], sym, ◌∙◌, refl, length, ◌+◌, arith}
use Rattle.sip_words.proofs.ManyLaws.{goes_on, fails, ends}
use Rattle.sip_scan.specs.Lines.{next_line, lines_at}
use Rattle.sip_scan.proofs.Turns.{lines_advance, line_next, line_wrong, line_done}
use Rattle.sip_scan.proofs.lines.lines_at.Goals as goal

pub returns-in_err-at-clause-value : goal.returns-in_err-at-clause-value
unfolding lines_at
returns-in_err-at-clause-value c =
    let text = c.args.text.now in
    let seen = c.loop-at.invariant in
    let wrong = line_wrong text c.loop-at.at (sym c.continues.ensures ∙ c.loop-at-test.true) (sym c.in_err-at.ensures.value) in
    let none = fails (length text) (next_line text) c.args.from c.loop-at.at seen.0 wrong seen.3 in
    rw (c.from_residual.ensures, none) refl

pub loop-at-preserved : goal.loop-at-preserved
loop-at-preserved c =
    let text = c.args.text.now in
    let seen = c.loop-at.invariant in
    let end = c.in_ok-at.field-0 in
    let next = line_next text c.loop-at.at end (sym c.continues.ensures ∙ c.loop-at-test.true) (sym c.in_ok-at.ensures.value) in (
      seen.0 ++ end ∷ [],
      omega (arith, c.in_ok-at.ensures.bounds),
      omega (arith, c.in_ok-at.ensures.bounds),
      goes_on (length text) (next_line text) c.args.from c.loop-at.at (end + 2) seen.0 end (lines_advance text) next seen.3,
    )

pub returns-clause-value : goal.returns-clause-value
unfolding lines_at
returns-clause-value c =
    let text = c.args.text.now in
    let seen = c.loop-at.invariant in
    let done = line_done text c.loop-at.at (sym c.continues.ensures ∙ c.loop-at-test.false) in
    rw (ends (length text) (next_line text) c.args.from c.loop-at.at seen.0 done seen.3) refl
