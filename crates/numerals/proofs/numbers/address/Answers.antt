-- An address is split at its colon in one way.
use Rattle.outside_ports.specs.declared.port.Addr.{Addr}
use Rattle.numerals.specs.Numerals.{IsSocket}
use Rattle.numerals.proofs.Addresses.{socket_parts, no_colon, where_none}
use Rattle.numerals.proofs.numbers.address.Goals as goal

pub returns-in_err-front-clause-none : goal.returns-in_err-front-clause-none
returns-in_err-front-clause-none c =
    let none : (address : Addr) → IsSocket c.args.word.now address → ⊥ = λ address h. no_colon c.args.word.now address c.in_err-front.ensures.none h in where_none _ _ none

pub returns-in_err-ip-clause-none : goal.returns-in_err-ip-clause-none
returns-in_err-ip-clause-none c =
    let none : (address : Addr) → IsSocket c.args.word.now address → ⊥ = λ address h.
    let parts = socket_parts c.args.word.now c.in_ok-front.front.now c.in_ok-front.back.now address c.in_ok-front.ensures.found h in
    c.in_err-ip.ensures.none address.ip h.0 parts.0 in where_none _ _ none

pub returns-in_err-port-clause-none : goal.returns-in_err-port-clause-none
returns-in_err-port-clause-none c =
    let none : (address : Addr) → IsSocket c.args.word.now address → ⊥ = λ address h.
    let parts = socket_parts c.args.word.now c.in_ok-front.front.now c.in_ok-front.back.now address c.in_ok-front.ensures.found h in
    c.in_err-port.ensures.none address.port h.1 h.2 parts.1 in where_none _ _ none
