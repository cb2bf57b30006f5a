use Rattle.std.specs.Prelude.{codes}
use Rattle.std.proofs.Common.{◌≡◌, false, ◌++◌, ◌∷◌, ℕ, List, sym, subst}
use Rattle.outside_ports.specs.declared.port.Addr.{Addr}
use Rattle.sip_fields.specs.Parts.{IsName}
use Rattle.sim_text.specs.Scenario.{IsHostLine}
use Rattle.sim_text.proofs.Lines.{not_stripped, stripped, host_parts, host_unsplit}
use Rattle.numerals.proofs.Addresses.{where_none}
use Rattle.sim_text.proofs.line.read_host.Goals as goal

pub returns-in_err-strip_prefix-clause-none : goal.returns-in_err-strip_prefix-clause-none
returns-in_err-strip_prefix-clause-none c =
    let none : (name : List ℕ) (address : Addr) → IsHostLine c.args.line.now name address → ⊥ = λ name address h.
    not_stripped c.args.line.now (codes "host ") c.in_err-strip_prefix.ensures.cases (name ++ 32 ∷ h.0) h.1 in where_none _ _ none

pub returns-in_err-name-clause-none : goal.returns-in_err-name-clause-none
returns-in_err-name-clause-none c =
    let rest = c.in_ok-strip_prefix.field-0 in
    let whole = stripped c.args.line.now (codes "host ") rest c.in_ok-strip_prefix.ensures.cases in
    let none : (name : List ℕ) (address : Addr) → IsHostLine c.args.line.now name address → ⊥ = λ name address h.
    host_unsplit c.args.line.now rest.now name address whole c.in_err-name.ensures.none h in where_none _ _ none

pub returns-then-not-is_host_name-clause-none : goal.returns-then-not-is_host_name-clause-none
returns-then-not-is_host_name-clause-none c = λ name address h.
    let rest = c.in_ok-strip_prefix.field-0 in
    let whole = stripped c.args.line.now (codes "host ") rest c.in_ok-strip_prefix.ensures.cases in
    let parts = host_parts c.args.line.now rest.now c.in_ok-name.name.now c.in_ok-name.word.now name address whole c.in_ok-name.ensures.found h in
    let other : c.is_host_name.result ≡ false = cc in c.is_host_name.ensures.no other (subst IsName (sym parts.0) h.2)

pub returns-in_err-address-clause-none : goal.returns-in_err-address-clause-none
returns-in_err-address-clause-none c =
    let rest = c.in_ok-strip_prefix.field-0 in
    let whole = stripped c.args.line.now (codes "host ") rest c.in_ok-strip_prefix.ensures.cases in
    let none : (name : List ℕ) (address : Addr) → IsHostLine c.args.line.now name address → ⊥ = λ name address h.
    c.in_err-address.ensures.none address
    (host_parts c.args.line.now rest.now c.in_ok-name.name.now c.in_ok-name.word.now name address whole c.in_ok-name.ensures.found h).1 in
    where_none _ _ none
