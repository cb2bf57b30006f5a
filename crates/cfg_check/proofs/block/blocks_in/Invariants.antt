use Rattle.std.proofs.Common.{◌≡◌, ◌++◌, [], map, drop}
use Rattle.cfg_tree.specs.Checks.{blocks_of, block_name, block_refusals}
use Rattle.cfg_check.proofs.block.blocks_in.Given as goal

abbrev pub invariant-loop-item : goal.invariant-loop-item
invariant-loop-item l =
    (map block_name (blocks_of l.items) ≡ l.blocks ++ map block_name (blocks_of (drop l.item-index l.items)))
    × (l.fn.refusals ++ block_refusals [] (blocks_of l.items) ≡ l.refusals ++ block_refusals l.blocks (blocks_of (drop l.item-index l.items)))
