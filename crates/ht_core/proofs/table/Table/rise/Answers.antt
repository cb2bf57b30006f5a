use Rattle.std.proofs.Common.{◌≡◌, ◌≤◌, ap, sym, ◌∙◌, arith}
use Rattle.std.specs.Prelude.{max}
use Rattle.ht_core.specs.Tables.{live}
use Rattle.ht_core.proofs.Items.{state, live-later}
use Rattle.ht_core.proofs.table.Table.rise.Goals as goal

pub returns : goal.returns
returns c =
    let s = c.args.self.now in
    ap (state s.spec c.max-self.result) c.expire.ensures ∙ ap (λ clock. state s.spec clock (live clock s.held)) c.max-self.ensures
    ∙ ap (state s.spec (max s.clock c.args.now)) (sym (live-later s.clock (max s.clock c.args.now) s.held (omega arith)))
