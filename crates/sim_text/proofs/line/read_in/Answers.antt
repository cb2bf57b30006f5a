use Rattle.std.specs.Prelude.{codes}
use Rattle.std.proofs.Common.{◌++◌, ◌∷◌, ℕ}
use Rattle.outside_ports.specs.declared.port.Addr.{Addr}
use Rattle.sim_text.specs.Scenario.{IsLine}
use Rattle.sim_text.specs.declared.line.Line.TheVariants.{In}
use Rattle.sim_text.proofs.Lines.{not_stripped, stripped, in_parts, in_unsplit}
use Rattle.numerals.proofs.Addresses.{where_none}
use Rattle.sim_text.proofs.line.read_in.Goals as goal

pub returns-in_err-strip_prefix-clause-none : goal.returns-in_err-strip_prefix-clause-none
returns-in_err-strip_prefix-clause-none c =
    let none : (at : ℕ) (from : Addr) → IsLine c.args.line.now (In at from) → ⊥ = λ at from h.
    not_stripped c.args.line.now (codes "in ") c.in_err-strip_prefix.ensures.cases (h.0 ++ 32 ∷ h.1) h.2 in where_none _ _ none

pub returns-in_err-at-clause-none : goal.returns-in_err-at-clause-none
returns-in_err-at-clause-none c =
    let rest = c.in_ok-strip_prefix.field-0 in
    let whole = stripped c.args.line.now (codes "in ") rest c.in_ok-strip_prefix.ensures.cases in
    let none : (at : ℕ) (from : Addr) → IsLine c.args.line.now (In at from) → ⊥ = λ at from h.
    in_unsplit c.args.line.now rest.now at from whole c.in_err-at.ensures.none h in where_none _ _ none

pub returns-in_err-number-clause-none : goal.returns-in_err-number-clause-none
returns-in_err-number-clause-none c =
    let rest = c.in_ok-strip_prefix.field-0 in
    let whole = stripped c.args.line.now (codes "in ") rest c.in_ok-strip_prefix.ensures.cases in
    let none : (at : ℕ) (from : Addr) → IsLine c.args.line.now (In at from) → ⊥ = λ at from h.
    c.in_err-number.ensures.none at (in_parts c.args.line.now rest.now c.in_ok-at.at.now c.in_ok-at.from.now at from whole c.in_ok-at.ensures.found h).0 in
    where_none _ _ none

pub returns-in_err-address-clause-none : goal.returns-in_err-address-clause-none
returns-in_err-address-clause-none c =
    let rest = c.in_ok-strip_prefix.field-0 in
    let whole = stripped c.args.line.now (codes "in ") rest c.in_ok-strip_prefix.ensures.cases in
    let none : (at : ℕ) (from : Addr) → IsLine c.args.line.now (In at from) → ⊥ = λ at from h.
    c.in_err-address.ensures.none from (in_parts c.args.line.now rest.now c.in_ok-at.at.now c.in_ok-at.from.now at from whole c.in_ok-at.ensures.found h).1 in
    where_none _ _ none
