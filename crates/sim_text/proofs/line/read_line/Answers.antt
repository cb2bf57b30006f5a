-- The first byte of a line tells its kind.
use Rattle.std.proofs.Common.{arith}
use Rattle.sim_text.proofs.Lines.{host_alone, end_alone, in_alone}
use Rattle.sim_text.proofs.line.read_line.Goals as goal

pub returns-in-104-clause-none : goal.returns-in-104-clause-none
returns-in-104-clause-none c = host_alone c.args.line.now c.read_host.result (omega arith) c.read_host.ensures.none

pub returns-in-101-clause-none : goal.returns-in-101-clause-none
returns-in-101-clause-none c = end_alone c.args.line.now c.read_end.result (omega arith) c.read_end.ensures.none

pub returns-in_default-clause-none : goal.returns-in_default-clause-none
returns-in_default-clause-none c =
    in_alone c.args.line.now c.read_in.result c.in_default.len_at_least (record {
      comment = λ e. omega arith;
      text = λ e. omega arith;
      hex = λ e. omega arith;
      host = λ e. omega arith;
      end = λ e. omega arith;
    }) c.read_in.ensures.none
