-- The kinds and names of blocks, and the places at which they are found.
use Rattle.std.specs.Prelude.{◌≡◌, ℕ, Bool, List, Option, option_map, position}
use Rattle.std.specs.Map.{lookup}
use Rattle.cfg_tree.specs.declared.raw.RouteKind.{RouteKind}
use Rattle.cfg_tree.specs.Functions.{is_same_block}
use Rattle.cfg_calls.specs.declared.head.BlockHead.{BlockHead}

-- the kind, and the name's bytes
abbrev pub shown : BlockHead → RouteKind × Option (List ℕ)
shown h = (h.kind, option_map (λ n. n.items) h.name)

-- two of them are of one kind and name
abbrev pub same_head : BlockHead → BlockHead → Bool
same_head a b = is_same_block (shown a) (shown b)

-- each kind and name is found at the first of these blocks that has it
abbrev pub FindsFirst : List (BlockHead × ℕ) → List (RouteKind × Option (List ℕ)) → Type 0
FindsFirst places blocks = (h : BlockHead) → lookup (same_head h) places ≡ position (is_same_block (shown h)) blocks
