-- A course: a dialogue that takes memory of its own, which it may find short.

pub data Course (Ask Answer End : Type 0) : Type 0 where
  Ends : (end : End) → Course Ask Answer End
  Asks : (ask : Ask) → (next : Answer → Course Ask Answer End) → Course Ask Answer End
  -- memory is needed here: so where it is short, so where it is found
  Takes : (short on : Course Ask Answer End) → Course Ask Answer End

-- a course, and what comes after its end
abbrev pub and_then : {Ask Answer Middle End : Type 0} → Course Ask Answer Middle → (Middle → Course Ask Answer End) → Course Ask Answer End
and_then (Ends end) after = after end
and_then (Asks ask next) after = Asks ask (λ answer. and_then (next answer) after)
and_then (Takes short on) after = Takes (and_then short after) (and_then on after)
