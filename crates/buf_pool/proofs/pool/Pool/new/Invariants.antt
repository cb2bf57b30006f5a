use Rattle.std.proofs.Common.{◌≡◌, ◌≤◌, All, vec_len}
use Rattle.std.specs.Vec.{vec_capacity}
use Rattle.buf_pool.specs.declared.pool.TheConstants.{BLOCK_SIZE}
use Rattle.buf_pool.proofs.pool.Pool.new.Given as goal

abbrev pub invariant-loop-block : goal.invariant-loop-block
invariant-loop-block l = record {
  made : vec_len l.free ≡ l._block;
  room : l.blocks ≤ vec_capacity l.free;
  whole : All (λ memory. vec_len memory ≡ BLOCK_SIZE) l.free.items;
}
