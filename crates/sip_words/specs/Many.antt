-- A repetition: items one after the other, until one that isn't there.
use Rattle.std.specs.Prelude.{◌≡◌, ℕ, zero, suc, ◌-◌, ◌<◌, List, [], ◌∷◌, Option, Some, None}
use Rattle.std.specs.Option.{option_map}

-- what stands at a place: an item and its end; nothing more, so the repetition ends; or what doesn't read
pub data Next (A : Type 0) : Type 0 where
  Item : A → ℕ → Next A
  Done : Next A
  Wrong : Next A

-- from i to j stand these items, one after the other, and no more: the repetition as a relation
abbrev pub Repeats : {A : Type 0} → (ℕ → Next A) → ℕ → List A → ℕ → Type 0
Repeats step i [] j = (step i ≡ Done) × (i ≡ j)
Repeats step i (x ∷ xs) j = (k : ℕ) × (step i ≡ Item x k) × Repeats step k xs j

-- an item before others
abbrev pub before : {A : Type 0} → A → Option (List A × ℕ) → Option (List A × ℕ)
before x others = option_map (λ r. (x ∷ r.0, r.1)) others

-- the rest behind what stands at i
abbrev pub with_next : {A : Type 0} → Next A → (ℕ → Option (List A × ℕ)) → ℕ → Option (List A × ℕ)
with_next (Item x j) rest i = before x (rest j)
with_next Done rest i = Some ([], i)
with_next Wrong rest i = None

-- the items from i on, and the end of the last one; n is above their number
unfoldable pub many_from : {A : Type 0} → ℕ → (ℕ → Next A) → ℕ → Option (List A × ℕ)
many_from zero step i = None
many_from (suc n) step i = with_next (step i) (many_from n step) i

-- the same in a text of this length
unfoldable pub many : {A : Type 0} → ℕ → (ℕ → Next A) → ℕ → Option (List A × ℕ)
many len step i = many_from (suc (len - i)) step i

-- each item stands in the text and has a byte
abbrev pub Advances : {A : Type 0} → ℕ → (ℕ → Next A) → Type 0
Advances {A} len step = (i j : ℕ) (x : A) → step i ≡ Item x j → (i < j) × (i < len)
