-- The first place that passes, as a loop looks for it.
use Rattle.std.proofs.Common.{◌≡◌, ℕ, suc, ◌+◌, ◌-◌, ◌<◌, ◌≤◌, Bool, true, false, List, length, refl, arith, Some, None}
use Rattle.sip_msg.specs.Basis.{first_from}

pub here : (p : ℕ → Bool) (text : List ℕ) (i : ℕ) → i < length text → p i ≡ true → first_from p text i ≡ Some i
unfolding first_from
here p text i lt h = let n : length text - i ≡ suc (length text - (i + 1)) = omega arith in rw (n, h) refl

pub goes : (p : ℕ → Bool) (text : List ℕ) (i : ℕ) → i < length text → p i ≡ false → first_from p text (i + 1) ≡ first_from p text i
unfolding first_from
goes p text i lt h = let n : length text - i ≡ suc (length text - (i + 1)) = omega arith in rw (n, h) refl

pub none : (p : ℕ → Bool) (text : List ℕ) (i : ℕ) → length text ≤ i → first_from p text i ≡ None
unfolding first_from
none p text i le = let n : length text - i ≡ 0 = omega arith in rw n refl
