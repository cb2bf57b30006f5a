use Rattle.std.proofs.Common.{◌≡◌, vec_len, arith}
use Rattle.std.proofs.lemmas.List.Elements.{All-push}
use Rattle.buf_pool.specs.declared.pool.TheConstants.{BLOCK_SIZE}
use Rattle.buf_pool.proofs.pool.Pool.new.Goals as goal

pub loop-block-preserved : goal.loop-block-preserved
loop-block-preserved c = record {
  made = omega arith;
  room = omega arith;
  whole = rw c.push_reserved.ensures.items (All-push (λ memory. vec_len memory ≡ BLOCK_SIZE) _ _ c.loop-block.invariant.whole c.in_ok-vec.ensures.len);
}
