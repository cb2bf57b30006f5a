use Rattle.std.proofs.Common.{refl}
use Rattle.msg_edits.proofs.Swept.{swept_over, swept_to}
use Rattle.msg_edits.proofs.sweep.Progress.with_bytes.Goals as goal

pub returns-then-place-self : goal.returns-then-place-self
returns-then-place-self c = λ edits last room le s. swept_over edits c.args.b.now last c.args.place c.args.self room c.args.out.now le c.requires c.if-place-self.true s

pub returns : goal.returns
returns c = λ edits last room le s. swept_to edits c.args.b.now last c.args.place c.args.self (record { len = c.put.result; from = c.args.place }) room c.args.out.now c.put.new.out le c.requires c.if-place-self.false refl s (λ text before. c.put.ensures room text before)
