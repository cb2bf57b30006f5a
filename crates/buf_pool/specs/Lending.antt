-- What a block is, after a write through its bytes.
use Rattle.std.specs.Prelude.{ℕ, List}
use Rattle.std.specs.Borrow.{Lends, MutBor, Fml, Array, u8}
use Rattle.buf_pool.specs.Pools.{BlockState, overwritten}
use Rattle.buf_pool.specs.contracts.pool.Block.{the_row}

abbrev pub with_bytes : BlockState → List ℕ → BlockState
with_bytes block written = record block { bytes = overwritten block.bytes written }

-- the block ends with the last bytes behind r
abbrev pub LendsBytes : MutBor BlockState → MutBor (List ℕ) → Fml
LendsBytes block r = Lends the_row (Array u8 0) block r (with_bytes block.now)
