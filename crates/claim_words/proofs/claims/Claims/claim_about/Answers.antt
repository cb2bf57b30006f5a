use Rattle.std.proofs.Common.{◌+◌, ◌*◌, arith, ap}
use Rattle.claim_words.specs.Words.{ways}
use Rattle.claim_words.proofs.Rule.{exchanges}
use Rattle.claim_words.proofs.claims.Claims.claim_about.Goals as goal

pub compare_exchange-requires : goal.compare_exchange-requires
compare_exchange-requires g c = let n = c.args.self.now.count in let l = c.requires.own.1 in (c.requires.own.0, (omega arith), exchanges _ _ _ _ _ c.args.seat.now.me c.args.serial c.args.number _ _ _ c.args.by _ c.requires.desk.0 c.requires.desk.1 l c.requires.serial.0 c.requires.about.0 c.requires.about.1 c.requires.about.2 (ap (λ z. ways * c.args.serial + z) c.code_of.ensures))
