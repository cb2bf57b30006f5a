-- The table of this number did the operation.
use Rattle.std.proofs.Common.{refl}
use Rattle.solo_run.proofs.Tables.{operated}
use Rattle.solo_run.proofs.objects.Objects.operate.Goals as goal

pub returns : goal.returns
returns c = operated c.args.patterns.now c.args.at c.args.number c.args.op c.in_ok-reply.reply c.args.self.now _ c.in-Some.table.now c.apply.new.self
    c.in-Some.ensures.item.3.0 c.in-Some.ensures.value c.in_ok-reply.ensures.step refl refl
