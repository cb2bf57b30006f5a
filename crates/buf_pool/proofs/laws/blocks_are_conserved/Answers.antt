use Rattle.buf_pool.proofs.Runs.{free_balance, out_balance, size_stays}
use Rattle.buf_pool.proofs.laws.blocks_are_conserved.Goals as goal

pub returns-clause-free : goal.returns-clause-free
returns-clause-free c = free_balance

pub returns-clause-out : goal.returns-clause-out
returns-clause-out c = out_balance

pub returns-clause-size : goal.returns-clause-size
returns-clause-size c = size_stays
