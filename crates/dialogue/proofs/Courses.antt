-- Courses go on from what is left of them.
use Rattle.std.proofs.Common.{◌≡◌, ◌⊎◌, inl, inr, List, [], ◌∷◌, ◌++◌, refl, sym, ap, subst, append-nil}
use Rattle.dialogue.specs.Course.{Course, Ends, Asks, Takes, and_then}
use Rattle.dialogue.specs.Items.{Comes, Goes}
use Rattle.dialogue.specs.declared.item.CourseItem.{CourseItem}
use Rattle.dialogue.specs.declared.item.CourseItem.TheVariants.{Told, Short}

module _ {Ask Answer End : Type 0} where
  pub goes_refl : (c : Course Ask Answer End) → Goes c [] c
  goes_refl (Ends end) = refl
  goes_refl (Asks ask next) = refl
  goes_refl (Takes sh on) = inl refl

  pub goes_on : (sh on : Course Ask Answer End) (is : List (CourseItem Ask Answer)) (d : Course Ask Answer End) → Goes on is d → Goes (Takes sh on) is d
  goes_on sh on [] d g = inr g
  goes_on sh on (Told a h ∷ is) d g = g
  goes_on sh on (Short ∷ is) d g = inr g

  pub comes_on : (sh on : Course Ask Answer End) (is : List (CourseItem Ask Answer)) (e : End) → Comes on is e → Comes (Takes sh on) is e
  comes_on sh on [] e g = g
  comes_on sh on (Told a h ∷ is) e g = g
  comes_on sh on (Short ∷ is) e g = inr g

  pub goes_goes : (c d e : Course Ask Answer End) (is js : List (CourseItem Ask Answer)) → Goes c is d → Goes d js e → Goes c (is ++ js) e
  goes_goes (Ends end) d e [] js g k = subst (λ x. Goes x js e) (sym g) k
  goes_goes (Ends end) d e (i ∷ is) js g k = absurd g
  goes_goes (Asks ask next) d e [] js g k = subst (λ x. Goes x js e) (sym g) k
  goes_goes (Asks ask next) d e (Short ∷ is) js g k = absurd g
  goes_goes (Asks ask next) d e (Told a h ∷ is) js g k = (g.0, goes_goes (next h) d e is js g.1 k)
  goes_goes (Takes sh on) d e [] js (inl g) k = subst (λ x. Goes x js e) (sym g) k
  goes_goes (Takes sh on) d e [] js (inr g) k = goes_on sh on js e (goes_goes on d e [] js g k)
  goes_goes (Takes sh on) d e (Told a h ∷ is) js g k = goes_goes on d e (Told a h ∷ is) js g k
  goes_goes (Takes sh on) d e (Short ∷ is) js (inl g) k = inl (goes_goes sh d e is js g k)
  goes_goes (Takes sh on) d e (Short ∷ is) js (inr g) k = inr (goes_goes on d e (Short ∷ is) js g k)

  pub goes_comes : (c d : Course Ask Answer End) (is js : List (CourseItem Ask Answer)) (e : End) → Goes c is d → Comes d js e → Comes c (is ++ js) e
  goes_comes (Ends end) d [] js e g k = subst (λ x. Comes x js e) (sym g) k
  goes_comes (Ends end) d (i ∷ is) js e g k = absurd g
  goes_comes (Asks ask next) d [] js e g k = subst (λ x. Comes x js e) (sym g) k
  goes_comes (Asks ask next) d (Short ∷ is) js e g k = absurd g
  goes_comes (Asks ask next) d (Told a h ∷ is) js e g k = (g.0, goes_comes (next h) d is js e g.1 k)
  goes_comes (Takes sh on) d [] js e (inl g) k = subst (λ x. Comes x js e) (sym g) k
  goes_comes (Takes sh on) d [] js e (inr g) k = comes_on sh on js e (goes_comes on d [] js e g k)
  goes_comes (Takes sh on) d (Told a h ∷ is) js e g k = goes_comes on d (Told a h ∷ is) js e g k
  goes_comes (Takes sh on) d (Short ∷ is) js e (inl g) k = inl (goes_comes sh d is js e g k)
  goes_comes (Takes sh on) d (Short ∷ is) js e (inr g) k = inr (goes_comes on d (Short ∷ is) js e g k)

  pub goes_asks : (c : Course Ask Answer End) (is : List (CourseItem Ask Answer)) (ask : Ask) (next : Answer → Course Ask Answer End) (answer : Answer) → Goes c is (Asks ask next) → Goes c (is ++ Told ask answer ∷ []) (next answer)
  goes_asks c is ask next answer g = goes_goes c (Asks ask next) (next answer) is (Told ask answer ∷ []) g (refl, goes_refl (next answer))

  pub goes_ends : (c : Course Ask Answer End) (is : List (CourseItem Ask Answer)) (end : End) → Goes c is (Ends end) → Comes c is end
  goes_ends c is end g = subst (λ l. Comes c l end) (append-nil is) (goes_comes c (Ends end) is [] end g refl)

module _ {Ask Answer Middle End : Type 0} (after : Middle → Course Ask Answer End) where
  pub follows_comes : (c : Course Ask Answer Middle) (is js : List (CourseItem Ask Answer)) (m : Middle) (e : End) → Comes c is m → Comes (after m) js e → Comes (and_then c after) (is ++ js) e
  follows_comes (Ends end) [] js m e g k = subst (λ x. Comes (after x) js e) (sym g) k
  follows_comes (Ends end) (i ∷ is) js m e g k = absurd g
  follows_comes (Asks ask next) [] js m e g k = absurd g
  follows_comes (Asks ask next) (Short ∷ is) js m e g k = absurd g
  follows_comes (Asks ask next) (Told a h ∷ is) js m e g k = (g.0, follows_comes (next h) is js m e g.1 k)
  follows_comes (Takes sh on) [] js m e g k = comes_on (and_then sh after) (and_then on after) js e (follows_comes on [] js m e g k)
  follows_comes (Takes sh on) (Told a h ∷ is) js m e g k = follows_comes on (Told a h ∷ is) js m e g k
  follows_comes (Takes sh on) (Short ∷ is) js m e (inl g) k = inl (follows_comes sh is js m e g k)
  follows_comes (Takes sh on) (Short ∷ is) js m e (inr g) k = inr (follows_comes on (Short ∷ is) js m e g k)

  pub follows_goes : (c d : Course Ask Answer Middle) (is : List (CourseItem Ask Answer)) → Goes c is d → Goes (and_then c after) is (and_then d after)
  follows_goes (Ends end) d [] g = subst (λ x. Goes (after end) [] (and_then x after)) g (goes_refl (after end))
  follows_goes (Ends end) d (i ∷ is) g = absurd g
  follows_goes (Asks ask next) d [] g = ap (λ x. and_then x after) g
  follows_goes (Asks ask next) d (Short ∷ is) g = absurd g
  follows_goes (Asks ask next) d (Told a h ∷ is) g = (g.0, follows_goes (next h) d is g.1)
  follows_goes (Takes sh on) d [] (inl g) = inl (ap (λ x. and_then x after) g)
  follows_goes (Takes sh on) d [] (inr g) = inr (follows_goes on d [] g)
  follows_goes (Takes sh on) d (Told a h ∷ is) g = follows_goes on d (Told a h ∷ is) g
  follows_goes (Takes sh on) d (Short ∷ is) (inl g) = inl (follows_goes sh d is g)
  follows_goes (Takes sh on) d (Short ∷ is) (inr g) = inr (follows_goes on d (Short ∷ is) g)
