use Rattle.std.proofs.Common.{suc}
use Rattle.host_meaning.specs.Relaying.{takes_blocks}
use Rattle.script_host.specs.Lending.{received_of}
use Rattle.script_host.specs.Rows.{without, relayed_over}
use Rattle.script_host.proofs.Misfits.{misfit}
use Rattle.script_host.proofs.relaying.hear_block.Goals as goal

pub returns : goal.returns
returns c = record {
  goes = tt;
  short = λ there.
      misfit c.args.answer c.args.taken c.args.state.now
      (takes_blocks c.args.more (suc c.args.taken) (without c.args.taken c.args.state.now) (relayed_over (received_of c.args.lent.now.message)))
      there.1 c.in_default.not-Block;
  below = tt;
}
