-- Which of two final responses is the better one to send (RFC 3261, section 16.7, step 6).
use Rattle.std.specs.Prelude.{◌≡◌, ℕ, ◌/◌, ◌<◌, ◌==◌, ◌⊎◌, nat_le, ◌||◌, if◌then◌else◌}

-- a 6xx goes before all others, and then the lowest class
abbrev pub group_of : ℕ → ℕ
group_of code = if nat_le 600 code then 0 else code / 100

-- in their class these go before the others: 401, 407, 415, 420, 484
abbrev pub place_in_class : ℕ → ℕ
place_in_class code = if (code == 401) || (code == 407) || (code == 415) || (code == 420) || (code == 484) then 0 else 1

-- a response with the code c on the branch b is preferred to one with the code d on the branch e
pub data Preferred (c b d e : ℕ) : Type 0 where
  by_class : group_of c < group_of d → Preferred c b d e
  by_place : group_of c ≡ group_of d → place_in_class c < place_in_class d → Preferred c b d e
  by_code : group_of c ≡ group_of d → place_in_class c ≡ place_in_class d → c < d → Preferred c b d e
  by_branch : c ≡ d → b < e → Preferred c b d e

-- the same of two codes, whatever their branches
abbrev pub IsBetterCode : ℕ → ℕ → Type 0
IsBetterCode c d =
    (group_of c < group_of d) ⊎
    ((group_of c ≡ group_of d) × ((place_in_class c < place_in_class d) ⊎ ((place_in_class c ≡ place_in_class d) × (c < d))))
