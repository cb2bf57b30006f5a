-- What stands below the top of a stack.
use Rattle.std.proofs.Common.{◌≡◌, ℕ, ◌-◌, ◌<◌, ◌≤◌, List, length, get_or, reverse, Option, Some, None, ap, sym, ◌∙◌, arith}
use Rattle.std.specs.Prelude.{slice_get}
use Rattle.std.proofs.lemmas.List.{get_or-reverse, length-reverse}
use Rattle.std.proofs.lemmas.Option.{slice_get-get_or, slice_get_past}

pub below_top_is : {A : Type 0} (items : List A) (depth : ℕ) (x : A) → depth < length items → x ≡ get_or items (length items - 1 - depth) x → Some x ≡ slice_get (reverse items) depth
below_top_is items depth x h is =
    let w : depth < length (reverse items) = omega (arith, h, length-reverse items) in
    ap Some (is ∙ sym (get_or-reverse items depth x h)) ∙ sym (slice_get-get_or (reverse items) depth x w)

pub past_bottom : {A : Type 0} (items : List A) (depth : ℕ) → length items ≤ depth → None ≡ slice_get (reverse items) depth
past_bottom items depth h =
    let w : length (reverse items) ≤ depth = omega (arith, h, length-reverse items) in
    sym (slice_get_past (reverse items) depth w)
