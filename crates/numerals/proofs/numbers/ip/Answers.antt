-- A word that std reads as an address is four numbers with dots.
use Rattle.numerals.proofs.Addresses.{ip_found, ip_none}
use Rattle.numerals.proofs.numbers.ip.Goals as goal

pub returns-in-Ok-clause-found : goal.returns-in-Ok-clause-found
returns-in-Ok-clause-found c = rw c.to_bits.ensures (ip_found c.args.word.now c.in-Ok.address c.in-Ok.ensures)

pub returns-in-Err-clause-none : goal.returns-in-Err-clause-none
returns-in-Err-clause-none c = ip_none c.args.word.now c.in-Err.ensures
