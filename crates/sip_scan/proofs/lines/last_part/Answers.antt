use Rattle.std.proofs.Common.{◌≡◌, ℕ, ◌+◌, ◌-◌, arith, sym, ap, ◌∙◌, drop}
use Rattle.std.proofs.lemmas.List.{take_rest}
use Rattle.sip_scan.proofs.LastPart.{part_is}
use Rattle.sip_scan.proofs.lines.last_part.Goals as goal

pub returns-then-line-at-eq32 : goal.returns-then-line-at-eq32
returns-then-line-at-eq32 c =
    let line = c.args.line.now in
    let at = c.loop-at.at in
    let n : at - 1 + 1 ≡ at = omega arith in
    take_rest line (at - 1 + 1) ∙ ap (λ (m : ℕ). drop m line) n ∙ sym (part_is line at (omega arith) c.loop-at.invariant (λ _. c.if-line-at-eq32.true))

pub returns : goal.returns
returns c =
    let line = c.args.line.now in
    let none : c.loop-at.at ≡ 0 = omega arith in
    sym (part_is line 0 (omega arith) (rw none at c.loop-at.invariant) (λ lt. absurd (omega arith)))
