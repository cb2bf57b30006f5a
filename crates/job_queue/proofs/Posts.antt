-- Each move keeps the rule of the queue.
use Rattle.std.proofs.Common.{◌≡◌, ◌≢◌, ◌⊎◌, ℕ, zero, suc, ◌+◌, ◌-◌, ◌<◌, ◌≤◌, Option, Some, None, MatchOption, MatchResult, Result, Ok, Err, List, [], ◌∷◌, ◌++◌, length, set, refl, sym, ap, ◌∙◌, subst, inl, inr, ⊎_elim, arith}
use mathlib.Core.Option.{some, some-injective, some-ne-none}
use lib.ListN.{get_elem?}
use Rattle.atomic_table.proofs.Lists.{at_set, at_snoc, set_else}
use Rattle.crossbeam_queue.specs.Fifo.{Pushes, Pops, Forks, Merges, Learns}
use Rattle.job_queue.specs.declared.Job.{Job}
use Rattle.job_queue.specs.declared.hand.JobHome.{JobHome}
use Rattle.job_queue.specs.declared.hand.JobHand.{JobHand}
use Rattle.job_queue.specs.Jobs.{all_parts, hand, newcomer, spent_hand, hand_of_home, halved, half, joined_hands, posted, IsJobOf, AllJobs, TakesJob, weigh, total, JobsKept, Rest}

total_set : (f : JobHand → ℕ) (views : List JobHand) (port : ℕ) (v w : JobHand) → get_elem? views port ≡ some v → total f (set views port w) + f v ≡ total f views + f w
total_set f [] port v w e = absurd (some-ne-none v (sym e))
total_set f (x ∷ xs) zero v w e = let s = ap f (some-injective x v e) in omega arith
total_set f (x ∷ xs) (suc port) v w e = let t = total_set f xs port v w e in omega arith

total_snoc : (f : JobHand → ℕ) (views : List JobHand) (u : JobHand) → total f (views ++ u ∷ []) ≡ total f views + f u
total_snoc f [] u = omega arith
total_snoc f (x ∷ xs) u = let t = total_snoc f xs u in omega arith

weigh-append : (h : Job → ℕ) (xs ys : List Job) → weigh h (xs ++ ys) ≡ weigh h xs + weigh h ys
weigh-append h [] ys = omega arith
weigh-append h (x ∷ xs) ys = let t = weigh-append h xs ys in omega arith

all_append : (home : Option JobHome) (xs : List Job) (x : Job) → AllJobs home xs → IsJobOf home x → AllJobs home (xs ++ x ∷ [])
all_append home [] x a b = (b, tt)
all_append home (y ∷ ys) x a b = (a.0, all_append home ys x a.1 b)

no_jobs : (xs : List Job) → AllJobs None xs → xs ≡ []
no_jobs [] a = refl
no_jobs (x ∷ xs) a = absurd a.0

at_least : (views : List JobHand) (port : ℕ) (v : JobHand) → get_elem? views port ≡ some v → v.parts ≤ total (λ u. u.parts) views
at_least [] port v e = absurd (some-ne-none v (sym e))
at_least (x ∷ xs) zero v e = let s = ap (λ (u : JobHand). u.parts) (some-injective x v e) in omega arith
at_least (x ∷ xs) (suc port) v e = let t = at_least xs port v e in omega arith

two_least : (views : List JobHand) (i j : ℕ) (v u : JobHand) → i ≢ j → get_elem? views i ≡ some v → get_elem? views j ≡ some u → v.parts + u.parts ≤ total (λ (z : JobHand). z.parts) views
two_least views i j v u ne a b =
    let s = total_set (λ (z : JobHand). z.parts) views j u spent_hand b in
    let t = at_least (set views j spent_hand) i v (set_else views j i spent_hand ne ∙ a) in omega arith

total_none : (f : JobHand → ℕ) (views : List JobHand) → ((j : ℕ) (u : JobHand) → get_elem? views j ≡ some u → u.parts ≡ 0 → f u ≡ 0) → total (λ u. u.parts) views ≡ 0 → total f views ≡ 0
total_none f [] idle e = refl
total_none f (x ∷ xs) idle e = let a = idle 0 x refl (omega arith) in let b = total_none f xs (λ j u is. idle (suc j) u is) (omega arith) in omega arith

total_only : (f : JobHand → ℕ) (views : List JobHand) (port : ℕ) (v : JobHand) → ((j : ℕ) (u : JobHand) → get_elem? views j ≡ some u → u.parts ≡ 0 → f u ≡ 0) → get_elem? views port ≡ some v → total (λ u. u.parts) views ≡ v.parts → total f views ≡ f v
total_only f [] port v idle at e = absurd (some-ne-none v (sym at))
total_only f (x ∷ xs) zero v idle at e =
    let s = some-injective x v at in let p = ap (λ (u : JobHand). u.parts) s in let q = ap f s in
    let b = total_none f xs (λ j u is. idle (suc j) u is) (omega arith) in omega arith
total_only f (x ∷ xs) (suc port) v idle at e =
    let l = at_least xs port v at in
    let a = idle 0 x refl (omega arith) in
    let b = total_only f xs port v (λ j u is. idle (suc j) u is) at (omega arith) in omega arith

pub begins : JobsKept [] (newcomer ∷ [])
begins = record {
  home = None;
  parts = refl;
  balanced = λ h. refl;
  idle = one;
  same = alike;
  right = tt;
}
  where
    one : (j : ℕ) (v : JobHand) → get_elem? (newcomer ∷ []) j ≡ some v → v.parts ≡ 0 → (v.posted ≡ []) × (v.taken ≡ [])
    one zero v e p = subst (λ (z : JobHand). (z.posted ≡ []) × (z.taken ≡ [])) (some-injective newcomer v e) (refl, refl)
    one (suc j) v e p = absurd (some-ne-none v (sym e))

    alike : (j : ℕ) (v : JobHand) → get_elem? (newcomer ∷ []) j ≡ some v → 0 < v.parts → v.home ≡ None
    alike zero v e p = subst (λ (z : JobHand). z.home ≡ None) (some-injective newcomer v e) refl
    alike (suc j) v e p = absurd (some-ne-none v (sym e))

module _ (jobs : List Job) (views : List JobHand) (r : JobsKept jobs views) (port : ℕ) (v : JobHand) (here : get_elem? views port ≡ some v) (some_part : 0 < v.parts) where
  -- a move of one pass that keeps its parts and its claims
  moves : (jobs' : List Job) (w : JobHand) → w.parts ≡ v.parts → w.home ≡ v.home
      → ((h : Job → ℕ) → weigh h w.posted + weigh h v.taken + weigh h jobs ≡ weigh h v.posted + weigh h w.taken + weigh h jobs') → AllJobs r.home jobs' → JobsKept jobs' (set views port w)
  moves jobs' w parts home change right = record {
    home = r.home;
    parts = let s = total_set (λ (u : JobHand). u.parts) views port v w here in let p = r.parts in omega arith;
    balanced = λ h.
        let s = total_set (λ (u : JobHand). weigh h u.posted) views port v w here in
        let t = total_set (λ (u : JobHand). weigh h u.taken) views port v w here in
        let b = r.balanced h in let c = change h in omega arith;
    idle = λ j u at p. ⊎_elim
        (λ (t : (j ≡ port) × (w ≡ u)). absurd (let q = ap (λ (z : JobHand). z.parts) t.1 in omega arith))
        (λ (t : (j ≢ port) × (get_elem? views j ≡ some u)). r.idle j u t.1 p)
        (at_set views port j w u at);
    same = λ j u at p. ⊎_elim
        (λ (t : (j ≡ port) × (w ≡ u)). sym (ap (λ (z : JobHand). z.home) t.1) ∙ (home ∙ r.same port v here some_part))
        (λ (t : (j ≢ port) × (get_elem? views j ≡ some u)). r.same j u t.1 p)
        (at_set views port j w u at);
    right = right;
  }

  home_is : v.home ≡ r.home
  home_is = r.same port v here some_part

pub posts : (n port : ℕ) (v : JobHand) (x : Job) → 0 < v.parts → IsJobOf v.home x → Pushes JobsKept n port v x (λ w. w ≡ posted v x)
posts n port v x some_part is jobs views _ r here = (
  posted v x,
  moves jobs views r port v here some_part (jobs ++ x ∷ []) (posted v x) refl refl
      (λ h. let a = weigh-append h v.posted (x ∷ []) in let b = weigh-append h jobs (x ∷ []) in omega arith)
      (all_append r.home jobs x r.right (subst (λ o. IsJobOf o x) (home_is jobs views r port v here some_part) is)),
  refl,
)

pub takes : (port : ℕ) (v : JobHand) → 0 < v.parts → Pops JobsKept port v (TakesJob v)
takes port v some_part x jobs views r here =
    let w : JobHand = record v { taken = v.taken ++ x ∷ [] } in (
      w,
      moves (x ∷ jobs) views r port v here some_part jobs w refl refl (λ h. let a = weigh-append h v.taken (x ∷ []) in omega arith) r.right.1,
      (refl, subst (λ o. IsJobOf o x) (sym (home_is (x ∷ jobs) views r port v here some_part)) r.right.0),
    )

pub rests : (port : ℕ) (v : JobHand) → Learns JobsKept port v (Rest v)
rests port v jobs views r here all h =
    let p = r.parts in
    let a = total_only (λ (u : JobHand). weigh h u.posted) views port v (λ j u at z. ap (weigh h) (r.idle j u at z).0) here (p ∙ sym all) in
    let b = total_only (λ (u : JobHand). weigh h u.taken) views port v (λ j u at z. ap (weigh h) (r.idle j u at z).1) here (p ∙ sym all) in
    let c = r.balanced h in omega arith

pub splits : (port : ℕ) (v : JobHand) → 1 < v.parts → Forks JobsKept port v (halved v) (half v)
splits port v more jobs views r here =
    let left : JobHand = halved v in
    let right : JobHand = half v in
    let vs : List JobHand = set views port left in record {
      home = r.home;
      parts = let s = total_set (λ (u : JobHand). u.parts) views port v left here in let t = total_snoc (λ (u : JobHand). u.parts) vs right in let p = r.parts in omega arith;
      balanced = λ h.
          let s = total_set (λ (u : JobHand). weigh h u.posted) views port v left here in
          let s' = total_snoc (λ (u : JobHand). weigh h u.posted) vs right in
          let t = total_set (λ (u : JobHand). weigh h u.taken) views port v left here in
          let t' = total_snoc (λ (u : JobHand). weigh h u.taken) vs right in
          let b = r.balanced h in omega arith;
      idle = λ j u at p. ⊎_elim
          (λ (e : get_elem? vs j ≡ some u). ⊎_elim
          (λ (t : (j ≡ port) × (left ≡ u)). absurd (let q = ap (λ (z : JobHand). z.parts) t.1 in omega arith))
          (λ (t : (j ≢ port) × (get_elem? views j ≡ some u)). r.idle j u t.1 p)
          (at_set views port j left u e))
          (λ (t : right ≡ u). absurd (let q = ap (λ (z : JobHand). z.parts) t in omega arith))
          (at_snoc vs right u j at);
      same = λ j u at p. ⊎_elim
          (λ (e : get_elem? vs j ≡ some u). ⊎_elim
          (λ (t : (j ≡ port) × (left ≡ u)). sym (ap (λ (z : JobHand). z.home) t.1) ∙ r.same port v here (omega arith))
          (λ (t : (j ≢ port) × (get_elem? views j ≡ some u)). r.same j u t.1 p)
          (at_set views port j left u e))
          (λ (t : right ≡ u). sym (ap (λ (z : JobHand). z.home) t) ∙ r.same port v here (omega arith))
          (at_snoc vs right u j at);
      right = r.right;
    }

pub names : (port : ℕ) (v : JobHand) (home : Option JobHome) → v ≡ newcomer → Forks JobsKept port v spent_hand (hand_of_home home v)
names port v home is jobs views r here =
    let right : JobHand = hand_of_home home v in
    let vs : List JobHand = set views port spent_hand in
    let all : v.parts ≡ all_parts = ap (λ (z : JobHand). z.parts) is in
    let no_posts : v.posted ≡ [] = ap (λ (z : JobHand). z.posted) is in
    let no_takes : v.taken ≡ [] = ap (λ (z : JobHand). z.taken) is in
    let none : r.home ≡ None = sym (r.same port v here (omega arith)) ∙ ap (λ (z : JobHand). z.home) is in
    let empty : jobs ≡ [] = no_jobs jobs (subst (λ o. AllJobs o jobs) none r.right) in record {
      home = home;
      parts = let s = total_set (λ (u : JobHand). u.parts) views port v spent_hand here in let t = total_snoc (λ (u : JobHand). u.parts) vs right in let p = r.parts in omega arith;
      balanced = λ h.
          let s = total_set (λ (u : JobHand). weigh h u.posted) views port v spent_hand here in
          let s' = total_snoc (λ (u : JobHand). weigh h u.posted) vs right in
          let t = total_set (λ (u : JobHand). weigh h u.taken) views port v spent_hand here in
          let t' = total_snoc (λ (u : JobHand). weigh h u.taken) vs right in
          let b = r.balanced h in omega arith;
      idle = λ j u at p. ⊎_elim
          (λ (e : get_elem? vs j ≡ some u). ⊎_elim
          (λ (t : (j ≡ port) × (spent_hand ≡ u)). subst (λ (z : JobHand). (z.posted ≡ []) × (z.taken ≡ [])) t.1 (refl, refl))
          (λ (t : (j ≢ port) × (get_elem? views j ≡ some u)). r.idle j u t.1 p)
          (at_set views port j spent_hand u e))
          (λ (t : right ≡ u). absurd (let q = ap (λ (z : JobHand). z.parts) t in omega arith))
          (at_snoc vs right u j at);
      same = λ j u at p. ⊎_elim
          (λ (e : get_elem? vs j ≡ some u). ⊎_elim
          (λ (t : (j ≡ port) × (spent_hand ≡ u)). absurd (let q = ap (λ (z : JobHand). z.parts) t.1 in omega arith))
          (λ (t : (j ≢ port) × (get_elem? views j ≡ some u)). absurd (let q = two_least views port j v u (λ x. t.0 (sym x)) here t.1 in let l = r.parts in omega arith))
          (at_set views port j spent_hand u e))
          (λ (t : right ≡ u). sym (ap (λ (z : JobHand). z.home) t))
          (at_snoc vs right u j at);
      right = subst (λ (l : List Job). AllJobs home l) (sym empty) tt;
    }

pub joins : (port : ℕ) (v : JobHand) (other : ℕ) (u : JobHand) → 0 < v.parts → 0 < u.parts → Merges JobsKept port v other u (joined_hands v u) spent_hand
joins port v other u some_part some_other jobs views r here apart there =
    let w : JobHand = joined_hands v u in
    let vs : List JobHand = set views port w in
    let was : get_elem? views other ≡ some u = sym (set_else views port other w apart) ∙ there in record {
      home = r.home;
      parts = let s = total_set (λ (z : JobHand). z.parts) views port v w here in let t = total_set (λ (z : JobHand). z.parts) vs other u spent_hand there in let p = r.parts in omega arith;
      balanced = λ h.
          let s = total_set (λ (z : JobHand). weigh h z.posted) views port v w here in
          let s' = total_set (λ (z : JobHand). weigh h z.posted) vs other u spent_hand there in
          let t = total_set (λ (z : JobHand). weigh h z.taken) views port v w here in
          let t' = total_set (λ (z : JobHand). weigh h z.taken) vs other u spent_hand there in
          let p = weigh-append h v.posted u.posted in
          let q = weigh-append h v.taken u.taken in
          let b = r.balanced h in omega arith;
      idle = λ j z at p. ⊎_elim
          (λ (t : (j ≡ other) × (spent_hand ≡ z)). subst (λ (y : JobHand). (y.posted ≡ []) × (y.taken ≡ [])) t.1 (refl, refl))
          (λ (t : (j ≢ other) × (get_elem? vs j ≡ some z)). ⊎_elim
          (λ (q : (j ≡ port) × (w ≡ z)). absurd (let e = ap (λ (y : JobHand). y.parts) q.1 in omega arith))
          (λ (q : (j ≢ port) × (get_elem? views j ≡ some z)). r.idle j z q.1 p)
          (at_set views port j w z t.1))
          (at_set vs other j spent_hand z at);
      same = λ j z at p. ⊎_elim
          (λ (t : (j ≡ other) × (spent_hand ≡ z)). absurd (let e = ap (λ (y : JobHand). y.parts) t.1 in omega arith))
          (λ (t : (j ≢ other) × (get_elem? vs j ≡ some z)). ⊎_elim
          (λ (q : (j ≡ port) × (w ≡ z)). sym (ap (λ (y : JobHand). y.home) q.1) ∙ r.same port v here some_part)
          (λ (q : (j ≢ port) × (get_elem? views j ≡ some z)). r.same j z q.1 p)
          (at_set views port j w z t.1))
          (at_set vs other j spent_hand z at);
      right = r.right;
    }

-- with every part, an empty queue has given out what it was given
pub over : (v : JobHand) (jobs : List Job) → length jobs ≡ 0 → Rest v jobs → v.parts ≡ all_parts → (h : Job → ℕ) → weigh h v.posted ≡ weigh h v.taken
over v [] empty rest all h = let r = rest all h in omega arith
over v (x ∷ xs) empty rest all h = absurd (omega arith)

-- a pass that has posted, or was given the job back, is of the same claims and has the same parts
pub post_keeps : {B : Type 0} (r : Result B Job) (v w : JobHand) (x : Job) (Full : Job → Type 0) → MatchResult r (λ _. w ≡ posted v x) (λ y. (y ≡ x) × (w ≡ v) × Full y) → (w.parts ≡ v.parts) × (w.home ≡ v.home)
post_keeps (Ok b) v w x Full is = (ap (λ (z : JobHand). z.parts) is, ap (λ (z : JobHand). z.home) is)
post_keeps (Err y) v w x Full is = (ap (λ (z : JobHand). z.parts) is.1, ap (λ (z : JobHand). z.home) is.1)

pub next_keeps : (o : Option Job) (v w : JobHand) (Empty : Type 0) → MatchOption o ((w ≡ v) × Empty) (λ x. TakesJob v x w) → (w.parts ≡ v.parts) × (w.home ≡ v.home)
next_keeps None v w Empty is = (ap (λ (z : JobHand). z.parts) is.0, ap (λ (z : JobHand). z.home) is.0)
next_keeps (Some x) v w Empty is = (ap (λ (z : JobHand). z.parts) is.0, ap (λ (z : JobHand). z.home) is.0)
