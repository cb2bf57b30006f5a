-- The whole of the bytes is a word of the class, and no four numbers.
use Rattle.std.proofs.Common.{◌≡◌, Bool, true, false, length, sym, ap, ◌∙◌, refl, arith, Some, None}
use Rattle.std.specs.Prelude.{not}
use Rattle.std.proofs.lemmas.Option.{same_Some}
use Rattle.sim_text.proofs.Names.{to_name, from_name}
use Rattle.sim_text.proofs.line.is_host_name.Goals as goal

not_true : (b : Bool) → not b ≡ true → b ≡ false
not_true true h = absurd (cc)
not_true false h = refl

not_false : (b : Bool) → not b ≡ false → b ≡ true
not_false true h = refl
not_false false h = absurd (cc)

pub returns-then-end-bytes-clause-yes : goal.returns-then-end-bytes-clause-yes
returns-then-end-bytes-clause-yes c = λ h.
    let whole : c.in-Some.end ≡ length c.args.bytes.now = omega (arith, c.if-end-bytes.true) in
    to_name c.args.bytes.now (sym c.in-Some.ensures.value ∙ ap Some whole) (c.is_four_numbers.ensures.no (not_true c.is_four_numbers.result h))

pub returns-then-end-bytes-clause-no : goal.returns-then-end-bytes-clause-no
returns-then-end-bytes-clause-no c = λ h name.
    c.is_four_numbers.ensures.yes (not_false c.is_four_numbers.result h) (from_name c.args.bytes.now name).1

pub returns-else-end-bytes-clause-no : goal.returns-else-end-bytes-clause-no
returns-else-end-bytes-clause-no c = λ h name.
    let whole : c.in-Some.end ≡ length c.args.bytes.now = same_Some _ _ (c.in-Some.ensures.value ∙ (from_name c.args.bytes.now name).0) in
    absurd (omega (arith, whole, c.if-end-bytes.false))

pub returns-in-None-clause-no : goal.returns-in-None-clause-no
returns-in-None-clause-no c = λ h name.
    let none : None ≡ Some (length c.args.bytes.now) = c.in-None.ensures.value ∙ (from_name c.args.bytes.now name).0 in absurd (cc)
