use Rattle.std.proofs.Common.{◌≡◌, suc, ◌-◌, None, refl, subst, arith}
use Rattle.cfg_parse.specs.Reader.{Reads}
use Rattle.cfg_parse.specs.Stmts.{stmt}
use Rattle.cfg_parse.proofs.stmts.+stmt.Goals as goal

pub returns-then-room-eq0 : goal.returns-then-room-eq0
unfolding stmt
returns-then-room-eq0 t c _ =
    let none : 0 ≡ c.args.room = omega arith in
    subst (λ n. stmt n c.args.in_loop c.args.tokens.now ≡ None) none refl

pub returns : goal.returns
unfolding stmt
returns t c =
    let more : suc (c.args.room - 1) ≡ c.args.room = omega arith in
    subst (λ n. Reads (stmt n c.args.in_loop c.args.tokens.now) c.stmt_over.result c.stmt_over.new.tokens) more c.stmt_over.ensures
