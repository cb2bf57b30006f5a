use Rattle.std.proofs.Common.{refl}
use Rattle.msg_edits.proofs.Swept.{swept_insert, swept_cut}
use Rattle.msg_edits.proofs.sweep.Progress.with_change.Goals as goal

pub returns-in-Cut : goal.returns-in-Cut
returns-in-Cut c = rw c.in-Cut.is (λ edits b room s. swept_cut edits b c.in-Cut.at c.args.self (record { len = c.args.self.len; from = c.max.result }) room c.args.out.now refl c.max.ensures s)

pub returns-in-Insert : goal.returns-in-Insert
returns-in-Insert c = rw c.in-Insert.is (λ edits b room s. swept_insert edits b c.in-Insert.place c.in-Insert.text.now c.args.self (record { len = c.put.result; from = c.args.self.from }) room c.args.out.now c.put.new.out refl s (λ before w. c.put.ensures room before w))
