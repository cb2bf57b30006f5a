-- The line that was taken leaves a sound state, and the rest is shorter.
use Rattle.std.proofs.Common.{◌≡◌, ◌+◌, ◌∷◌, length, arith, length-append, ap, ◌∙◌, subst, Err, sym, ◌==◌, ℕ, List, true, false}
use Rattle.sim_text.specs.Draft.{so_far}
use Rattle.sim_text.proofs.Sound.{sound_takes}
use Rattle.sim_text.proofs.Reading.{read_more, wrong_at, wrong_at_end, no_line, not_taken}
use Rattle.sim_text.specs.Scenario.{IsFirstWrong}
use Rattle.sim_text.proofs.scenario.read_lines.Goals as goal
use Rattle.sim_text.proofs.scenario.read_lines.Goals.{in_default-end-via-in-Some-end+else-is_empty, in_default-end-via-in_default-end}

pub loop-line-preserved : goal.loop-line-preserved
loop-line-preserved c =
    let line = c.in-Some.line.now in
    let more = c.in-Some.more.now in
    let len : length c.loop-line.rest.now ≡ length line + length (10 ∷ more) =
    ap length c.in-Some.ensures.found.whole ∙ length-append line (10 ∷ more) in (
      c.in-Ok.ensures.draft,
      sound_takes (so_far c.loop-line.draft) c.in-Some-read_line.line (so_far c.take.new.self) c.loop-line.invariant.1 c.in-Ok.ensures.taken,
      omega (arith, c.loop-line.invariant.2),
      read_more c.args.text.now c.loop-line.rest.now line more (so_far c.loop-line.draft) (so_far c.take.new.self) c.loop-line.number
          c.loop-line.invariant.3 c.in-Some.ensures.found
          (c.in-Some-read_line.line, c.in-Some-read_line.ensures.found, c.in-Ok.ensures.taken),
    )

pub returns-in_default-read_line-clause-wrong : goal.returns-in_default-read_line-clause-wrong
returns-in_default-read_line-clause-wrong c = λ number e.
    let same : c.loop-line.number ≡ number = cc in
    let line = c.in-Some.line.now in
    subst (IsFirstWrong c.args.text.now) same
    (wrong_at c.args.text.now c.loop-line.rest.now line c.in-Some.more.now (so_far c.loop-line.draft) c.loop-line.number c.loop-line.invariant.3
    c.in-Some.ensures.found (λ new. no_line line (so_far c.loop-line.draft) new c.in_default-read_line.ensures.none))

pub returns-in-Err-Malformed-clause-wrong : goal.returns-in-Err-Malformed-clause-wrong
returns-in-Err-Malformed-clause-wrong c = λ number e.
    let same : c.loop-line.number ≡ number = cc in
    let line = c.in-Some.line.now in
    let none = c.in-Err-Malformed.ensures.malformed (ap Err c.in-Err-Malformed.field-0-is) in
    subst (IsFirstWrong c.args.text.now) same
    (wrong_at c.args.text.now c.loop-line.rest.now line c.in-Some.more.now (so_far c.loop-line.draft) c.loop-line.number c.loop-line.invariant.3
    c.in-Some.ensures.found (λ new. not_taken line c.in-Some-read_line.line (so_far c.loop-line.draft) new c.in-Some-read_line.ensures.found none))

pub returns-in_default-end-clause-wrong : goal.returns-in_default-end-clause-wrong
returns-in_default-end-clause-wrong c = λ number e.
    let same : c.loop-line.number ≡ number = cc in
    subst (IsFirstWrong c.args.text.now) same
    (wrong_at_end c.args.text.now c.loop-line.rest.now (so_far c.loop-line.draft) c.loop-line.number c.loop-line.invariant.3
    c.in_default.ensures.none (λ empty. elim c.in_default-end.branch [
      | in_default-end-via-in-Some-end+else-is_empty w ↦
          let other : false ≡ true = sym w.if-is_empty.false ∙ w.is_empty.ensures ∙ ap (λ (xs : List ℕ). length xs == 0) empty in absurd (cc)
      | in_default-end-via-in_default-end w ↦ w.in_default-end.is
    ]))
