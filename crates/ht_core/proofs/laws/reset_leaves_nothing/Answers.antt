use Rattle.std.proofs.Common.{ap, ◌∙◌}
use Rattle.std.specs.FinMap as map
use Rattle.std.specs.FinMap.{get-empty}
use Rattle.ht_core.specs.Tables.{TableState, by_bytes}
use Rattle.ht_core.proofs.laws.reset_leaves_nothing.Goals as goal

pub returns : goal.returns
returns c = λ patterns t u now a key step. ap (λ (s : TableState). map.get s.items key) step.leaves ∙ get-empty by_bytes key
