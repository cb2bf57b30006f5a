-- The text of a branch of this proxy's own (RFC 3261, section 8.1.1.7).
use Rattle.std.specs.Prelude.{ℕ, ◌^◌, ◌<◌, ◌≤◌, List, ◌∷◌, ◌++◌, codes}
use Rattle.std.specs.Fmt.{decimal}
use Rattle.std.specs.Int.{w32, to_be_bytes}
use Rattle.hex.specs.Hex.{encode_lower}
use Rattle.sip_keys.specs.declared.branch.Branch.{Branch}

-- the cookie, the letters of this proxy, and the four bytes of the epoch in hexadecimal, the highest first
abbrev pub front_text : ℕ → List ℕ
front_text epoch = codes "z9hG4bKrs" ++ encode_lower (to_be_bytes w32 epoch)

-- the slot, its generation and the number of the branch, with dots between them
unfoldable pub numbers_text : Branch → List ℕ
numbers_text br = decimal br.slot ++ 46 ∷ (decimal br.generation ++ 46 ∷ decimal br.b)

-- behind these a dot, and the numbers
unfoldable pub branch_text : ℕ → Branch → List ℕ
branch_text epoch br = front_text epoch ++ 46 ∷ numbers_text br

-- a branch within its bounds: a transaction has twelve branches at most
pub record IsBranch (br : Branch) : Type 0 where
  pub slot : br.slot < 2 ^ 32
  pub generation : br.generation < 2 ^ 64
  pub b : br.b ≤ 11
