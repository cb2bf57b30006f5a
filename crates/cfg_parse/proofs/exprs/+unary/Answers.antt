use Rattle.std.proofs.Common.{◌≡◌, suc, ◌-◌, subst, arith}
use Rattle.cfg_parse.specs.Reader.{Reads}
use Rattle.cfg_parse.specs.Exprs.{unary}
use Rattle.cfg_parse.proofs.exprs.+unary.Goals as goal

pub returns-then-room-eq0 : goal.returns-then-room-eq0
unfolding unary
returns-then-room-eq0 t c =
    let none : 0 ≡ c.args.room = omega arith in
    subst (λ n. Reads (unary n c.args.tokens.now) c.atom.result c.atom.new.tokens) none c.atom.ensures

pub returns : goal.returns
unfolding unary
returns t c =
    let more : suc (c.args.room - 1) ≡ c.args.room = omega arith in
    subst (λ n. Reads (unary n c.args.tokens.now) c.prefixed.result c.prefixed.new.tokens) more c.prefixed.ensures
