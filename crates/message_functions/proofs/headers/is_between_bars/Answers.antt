use Rattle.std.proofs.Common.{◌≡◌, ◌∷◌, ◌++◌, [], length, sym, ap, ◌∙◌, refl, arith, Bool, ◌||◌, false, true, length-append}
use Rattle.std.specs.List.{list_any}
use Rattle.std.specs.Str.{bytes_eq}
use Rattle.host_meaning.specs.Headers.{between_bars}
use Rattle.message_functions.proofs.Bars.{first_text, last_text, or_none}
use Rattle.message_functions.proofs.headers.is_between_bars.Goals as goal

pub returns-then-eq : goal.returns-then-eq
returns-then-eq c =
    let split = first_text c.loop-first.rest.now c.in-Some.first.now c.in-Some.others.now c.in-Some.ensures.found in
    rw (sym c.loop-first.invariant, split, sym c.if-eq.ensures) refl

pub loop-first-preserved : goal.loop-first-preserved
loop-first-preserved c =
    let split = first_text c.loop-first.rest.now c.in-Some.first.now c.in-Some.others.now c.in-Some.ensures.found in
    let so_far = c.loop-first.invariant in
    rw (split, sym c.if-eq.ensures) at so_far

pub returns : goal.returns
returns c =
    let last = last_text c.loop-first.rest.now c.in_default.ensures.none in
    c.eq-2.ensures ∙ sym (or_none _) ∙ (rw last at c.loop-first.invariant)
