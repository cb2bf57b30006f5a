-- What `==` says of two kinds and names.
use Rattle.std.proofs.Common.{◌≡◌, rules}
use Rattle.cfg_calls.specs.declared.head.BlockHead.{BlockHead}
use Rattle.cfg_calls.specs.contracts.head.BlockHeadPartialEq.TheImpl.{eq-value}
use Rattle.cfg_calls.specs.Heads.{same_head}

pub tests : (a b : BlockHead) → eq-value.it a b ≡ same_head a b
tests a b = search rules
