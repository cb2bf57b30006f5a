-- Where a byte stands in a text.
use Rattle.std.proofs.Common.{◌≡◌, ℕ, suc, ◌+◌, ◌<◌, ◌≤◌, true, false, ◌==◌, List, ◌∷◌, length, get_or, take, drop, refl, arith}
use Rattle.std.proofs.lemmas.List.{drop_more, drop_all}
use Rattle.cfg_tree.specs.Variables.{before, begins_with}

-- what stands at a place, and after the end
pub stands_in : (byte : ℕ) (text : List ℕ) (i : ℕ) → i < length text → begins_with byte (drop i text) ≡ (get_or text i 0 == byte)
stands_in byte text i lt = let e = drop_more text i 0 lt in rw e refl

pub stands_past : (byte : ℕ) (text : List ℕ) (i : ℕ) → length text ≤ i → begins_with byte (drop i text) ≡ false
stands_past byte text i le = rw (drop_all i text le) refl

-- one step of the bytes before one
pub stops : (byte : ℕ) (text : List ℕ) (i : ℕ) → i < length text → (get_or text i 0 == byte) ≡ true → i + before byte (drop i text) ≡ i
stops byte text i lt h = let e = drop_more text i 0 lt in rw (e, h) (omega arith)

pub goes_on : (byte : ℕ) (text : List ℕ) (i : ℕ) → i < length text → (get_or text i 0 == byte) ≡ false → (i + 1) + before byte (drop (i + 1) text) ≡ i + before byte (drop i text)
goes_on byte text i lt h = let e = drop_more text i 0 lt in rw (e, h) (omega arith)

pub ends : (byte : ℕ) (text : List ℕ) (i : ℕ) → length text ≤ i → i + before byte (drop i text) ≡ i
ends byte text i le = rw (drop_all i text le) (omega arith)

pub take_one : (n c : ℕ) (cs : List ℕ) → take (1 + n) (c ∷ cs) ≡ c ∷ take n cs
take_one n c cs = let e : 1 + n ≡ suc n = omega arith in rw e refl
