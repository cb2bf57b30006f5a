-- The text in a block.
use Rattle.std.specs.Prelude.{ℕ, List, take}
use Rattle.buf_pool.specs.Ledgers.{LedgerName}
use Rattle.txn_state.specs.declared.text_block.TextBlock.{TextBlock}

-- whose block it is
abbrev pub pool_of : TextBlock → LedgerName
pool_of t = t.block.pool

abbrev pub text_in : TextBlock → List ℕ
text_in t = take t.len t.block.bytes
