use Rattle.std.proofs.Common.{subst, sym}
use Rattle.host_meaning.specs.Rows.{call_without}
use Rattle.script_host.specs.Lending.{around_of}
use Rattle.script_host.specs.Rows.{IsRow, with_blocks}
use Rattle.script_host.proofs.calls.call_without.Goals as goal

pub returns-in-ShtRmNameRe : goal.returns-in-ShtRmNameRe
returns-in-ShtRmNameRe c = λ facts blocks.
    subst (λ f. IsRow (call_without (around_of c.args.lent.now) f c.args.values.now (with_blocks facts blocks)) c.counted.result (with_blocks facts blocks)) (sym c.in-ShtRmNameRe.is) (c.counted.ensures facts blocks)

pub returns-in-ShtReset : goal.returns-in-ShtReset
returns-in-ShtReset c = λ facts blocks.
    subst (λ f. IsRow (call_without (around_of c.args.lent.now) f c.args.values.now (with_blocks facts blocks)) c.counted-in-ShtReset.result (with_blocks facts blocks)) (sym c.in-ShtReset.is) (c.counted-in-ShtReset.ensures facts blocks)
