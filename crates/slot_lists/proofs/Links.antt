-- Links of lists: a slot goes into a list, and out of it.
use Rattle.std.proofs.Common.{◌≡◌, ◌≢◌, ℕ, zero, suc, [], ◌∷◌, ◌+◌, ◌-◌, ◌<◌, ◌≤◌, ◌^◌, ◌⊎◌, List, Option, Some, None, length, get_or, set, replicate, refl, sym, ap, ◌∙◌, subst, inl, inr, ⊎_elim, arith, length-set, get_or-set_same, get_or-set_other, MatchOption}
use Rattle.std.specs.List.{slice_get}
use Rattle.std.proofs.lemmas.List.{length-replicate}
use Rattle.std.proofs.lemmas.Bool.{cases_eq, cases_lt}
use Rattle.std.proofs.lemmas.Option.{none-some, same_Some, slice_get_within}
use Rattle.slot_lists.specs.Lists.{IsIn, IsNextIn, IsLastBelow, AreLists}

abbrev pub Places : Type 0
Places = List (Option ℕ)

-- the first number after a slot, 0 without one
abbrev pub past : Option ℕ → ℕ
past None = 0
past (Some slot) = slot + 1

-- no slot of the list is between these two
abbrev pub NoneBetween : Places → ℕ → ℕ → ℕ → Type 0
NoneBetween p k from s = (from ≤ s) × ((q : ℕ) → IsIn p q k → (q < from) ⊎ (s ≤ q))

none_between : (p : Places) (k s : ℕ) (before : Option ℕ) → IsLastBelow p k s before → NoneBetween p k (past before) s
none_between p k s None h = (omega arith, λ q i. inr (h q i))
none_between p k s (Some b) h = (let l = h.1 in omega arith, λ q i. ⊎_elim (λ l. inl (let m = h.2 q i l in omega arith)) inr (cases_lt q s))

-- one slot apart, each slot is in the list in which it was
abbrev pub SameBut : ℕ → Places → Places → Type 0
SameBut s p p' = (q j : ℕ) → q ≢ s → (IsIn p q j → IsIn p' q j) × (IsIn p' q j → IsIn p q j)

-- a walk through a list has come to `next`, and was at `before`
pub record HasCome (p : Places) (k s : ℕ) (before next : Option ℕ) : Type 0 where
  pub at_next : IsNextIn p k (past before) next
  pub was : MatchOption before (Unit {0}) (λ b. IsIn p b k × (b < s))

pub ends : (p : Places) (k s : ℕ) (before : Option ℕ) → HasCome p k s before None → IsLastBelow p k s before
ends p k s None w = λ q i. absurd (let l = w.at_next q i in omega arith)
ends p k s (Some b) w = (w.was.0, w.was.1, λ q i l. let m = w.at_next q i in omega arith)

pub stops : (p : Places) (k s : ℕ) (before : Option ℕ) (at : ℕ) → s ≤ at → HasCome p k s before (Some at) → IsLastBelow p k s before
stops p k s None at l w = λ q i. let m = w.at_next.2 q i (omega arith) in omega arith
stops p k s (Some b) at l w = (w.was.0, w.was.1, λ q i m. ⊎_elim (λ n. omega arith) (λ n. absurd (let o = w.at_next.2 q i n in omega arith)) (cases_lt q (b + 1)))

pub goes_on : (p : Places) (k s : ℕ) (before : Option ℕ) (at : ℕ) (next : Option ℕ) → at < s → HasCome p k s before (Some at) → IsNextIn p k (at + 1) next → HasCome p k s (Some at) next
goes_on p k s before at next l w n = record { at_next = n; was = (w.at_next.0, l) }

-- how far a walk may still go
abbrev pub left : Places → Option ℕ → ℕ
left p None = 0
left p (Some at) = length p - at

pub less : (p : Places) (k from at : ℕ) (next : Option ℕ) → IsNextIn p k from (Some at) → IsNextIn p k (at + 1) next → left p next < left p (Some at)
less p k from at None w n = let l = slice_get_within p at (Some k) w.0 in omega arith
less p k from at (Some t) w n = let l = slice_get_within p at (Some k) w.0 in let m = n.1 in omega arith

-- ---- a slot goes in

module _ (p p' : Places) (s k : ℕ) (same : SameBut s p p') (was : (j : ℕ) → ¬ IsIn p s j) (is : (j : ℕ) → IsIn p' s j → j ≡ k) (is_in : IsIn p' s k) where
  back : (q j : ℕ) → IsIn p' q j → IsIn p q j ⊎ ((q ≡ s) × (j ≡ k))
  back q j i = ⊎_elim (λ e. inr (e, is j (subst (λ x. IsIn p' x j) e i))) (λ n. inl ((same q j n).1 i)) (cases_eq q s)

  forth : (q j : ℕ) → IsIn p q j → IsIn p' q j
  forth q j i = (same q j (λ e. was j (subst (λ x. IsIn p x j) e i))).0 i

  pub in_other : (j from : ℕ) (link : Option ℕ) → j ≢ k → IsNextIn p j from link → IsNextIn p' j from link
  in_other j from None n h = λ q i. ⊎_elim (h q) (λ e. absurd (n e.1)) (back q j i)
  in_other j from (Some t) n h = (forth t j h.0, h.1, λ q i l. ⊎_elim (λ o. h.2 q o l) (λ e. absurd (n e.1)) (back q j i))

  pub in_past : (from : ℕ) (link : Option ℕ) → s < from → IsNextIn p k from link → IsNextIn p' k from link
  in_past from None l h = λ q i. ⊎_elim (h q) (λ e. let f = e.0 in omega arith) (back q k i)
  in_past from (Some t) l h = (forth t k h.0, h.1, λ q i m. ⊎_elim (λ o. h.2 q o m) (λ e. absurd (let f = e.0 in omega arith)) (back q k i))

  pub in_ahead : (b from : ℕ) (link : Option ℕ) → IsIn p b k → from ≤ b → b < s → IsNextIn p k from link → IsNextIn p' k from link
  in_ahead b from None i l m h = absurd (let o = h b i in omega arith)
  in_ahead b from (Some t) i l m h = (forth t k h.0, h.1, λ q j n. ⊎_elim (λ o. h.2 q o n) (λ e. let f = e.0 in let g = h.2 b i l in omega arith) (back q k j))

  pub to_new : (from : ℕ) → NoneBetween p k from s → IsNextIn p' k from (Some s)
  to_new from n = (is_in, n.0, λ q i l. ⊎_elim (λ o. ⊎_elim (λ m. absurd (omega arith)) (λ m. m) (n.1 q o)) (λ e. let f = e.0 in omega arith) (back q k i))

  pub of_new : (from : ℕ) (link : Option ℕ) → NoneBetween p k from s → IsNextIn p k from link → IsNextIn p' k (s + 1) link
  of_new from None n h = λ q i. ⊎_elim (λ o. let l = h q o in let m = n.0 in omega arith) (λ e. let f = e.0 in omega arith) (back q k i)
  of_new from (Some t) n h = (
    forth t k h.0,
    ⊎_elim (λ m. absurd (let l = h.1 in omega arith)) (λ m. ⊎_elim (λ e. absurd (was k (subst (λ x. IsIn p x k) e h.0))) (λ d. omega arith) (cases_eq t s)) (n.1 t h.0),
    λ q i l. ⊎_elim (λ o. h.2 q o (let m = n.0 in omega arith)) (λ e. absurd (let f = e.0 in omega arith)) (back q k i),
  )

-- ---- a slot goes out

module _ (p p' : Places) (s k : ℕ) (same : SameBut s p p') (was : IsIn p s k) (was_one : (j : ℕ) → IsIn p s j → j ≡ k) (is_out : (j : ℕ) → ¬ IsIn p' s j) where
  from_out : (q j : ℕ) → IsIn p' q j → IsIn p q j × (q ≢ s)
  from_out q j i = let n : q ≢ s = λ e. is_out j (subst (λ x. IsIn p' x j) e i) in ((same q j n).1 i, n)

  pub out_other : (j from : ℕ) (link : Option ℕ) → j ≢ k → IsNextIn p j from link → IsNextIn p' j from link
  out_other j from None n h = λ q i. h q (from_out q j i).0
  out_other j from (Some t) n h = ((same t j (λ e. n (was_one j (subst (λ x. IsIn p x j) e h.0)))).0 h.0, h.1, λ q i l. h.2 q (from_out q j i).0 l)

  pub out_past : (from : ℕ) (link : Option ℕ) → s < from → IsNextIn p k from link → IsNextIn p' k from link
  out_past from None l h = λ q i. h q (from_out q k i).0
  out_past from (Some t) l h = ((same t k (λ e. let m = h.1 in omega arith)).0 h.0, h.1, λ q i m. h.2 q (from_out q k i).0 m)

  pub out_ahead : (b from : ℕ) (link : Option ℕ) → IsIn p b k → from ≤ b → b < s → IsNextIn p k from link → IsNextIn p' k from link
  out_ahead b from None i l m h = λ q j. h q (from_out q k j).0
  out_ahead b from (Some t) i l m h = ((same t k (λ e. let g = h.2 b i l in omega arith)).0 h.0, h.1, λ q j n. h.2 q (from_out q k j).0 n)

  pub past_it : (from : ℕ) (link : Option ℕ) → NoneBetween p k from s → IsNextIn p k (s + 1) link → IsNextIn p' k from link
  past_it from None n h = λ q i. let o = from_out q k i in let l = h q o.0 in ⊎_elim (λ m. m) (λ m. absurd (o.1 (omega arith))) (n.1 q o.0)
  past_it from (Some t) n h = (
    (same t k (λ e. let m = h.1 in omega arith)).0 h.0,
    (let m = h.1 in let l = n.0 in omega arith),
    λ q i l. let o = from_out q k i in ⊎_elim (λ m. absurd (omega arith)) (λ m. h.2 q o.0 (let d = o.1 in omega arith)) (n.1 q o.0),
  )

-- ---- one place is set

get_set_same : (p : Places) (s : ℕ) (v : Option ℕ) → s < length p → slice_get (set p s v) s ≡ Some v
get_set_same [] s v l = absurd (omega arith)
get_set_same (x ∷ p) zero v l = refl
get_set_same (x ∷ p) (suc s) v l = get_set_same p s v (omega arith)

get_set_other : (p : Places) (s q : ℕ) (v : Option ℕ) → q ≢ s → slice_get (set p s v) q ≡ slice_get p q
get_set_other [] s q v n = refl
get_set_other (x ∷ p) zero zero v n = absurd (n refl)
get_set_other (x ∷ p) zero (suc q) v n = refl
get_set_other (x ∷ p) (suc s) zero v n = refl
get_set_other (x ∷ p) (suc s) (suc q) v n = get_set_other p s q v (λ e. n (ap suc e))

same_but : (p : Places) (s : ℕ) (v : Option ℕ) → SameBut s p (set p s v)
same_but p s v = λ q j n. ((λ i. get_set_other p s q v n ∙ i), λ i. sym (get_set_other p s q v n) ∙ i)

same_list : (x y : Option ℕ) (j k : ℕ) → x ≡ y → x ≡ Some j → y ≡ Some k → j ≡ k
same_list x y j k e a b = same_Some j k (sym a ∙ (e ∙ b))

one_list : (p : Places) (s j k : ℕ) → IsIn p s j → IsIn p s k → j ≡ k
one_list p s j k a b = same_Some j k (same_Some (Some j) (Some k) (sym a ∙ b))

-- a link that is read at another place, of another list, where these are equal
abbrev moved : (p : Places) (n : List (Option ℕ)) (q q' j j' : ℕ) (link : Option ℕ) → q ≡ q' → j ≡ j' → get_or n q' None ≡ link → IsNextIn p j' (q' + 1) link → IsNextIn p j (q + 1) (get_or n q None)
moved p n q q' j j' link e f r h =
    subst (λ (x : ℕ). IsNextIn p j (x + 1) (get_or n x None)) (sym e)
    (subst (λ (x : ℕ). IsNextIn p x (q' + 1) (get_or n q' None)) (sym f) (subst (λ (x : Option ℕ). IsNextIn p j' (q' + 1) x) (sym r) h))

moved_first : (p : Places) (f : List (Option ℕ)) (j k : ℕ) (link : Option ℕ) → j ≡ k → get_or f k None ≡ link → IsNextIn p k 0 link → IsNextIn p j 0 (get_or f j None)
moved_first p f j k link e r h = subst (λ (x : ℕ). IsNextIn p x 0 (get_or f x None)) (sym e) (subst (λ (x : Option ℕ). IsNextIn p k 0 x) (sym r) h)

module _ (p f n : List (Option ℕ)) (L : AreLists p f n) (s k : ℕ) (k_lt : k < length f) where
  module _ (free : slice_get p s ≡ Some None) where
    p1 : Places
    p1 = set p s (Some k)

    s_lt : s < length p
    s_lt = slice_get_within p s None free

    was_none : (j : ℕ) → ¬ IsIn p s j
    was_none j i = none-some j (same_Some None (Some j) (sym free ∙ i))

    is_k : (j : ℕ) → IsIn (set p s (Some k)) s j → j ≡ k
    is_k j i = one_list (set p s (Some k)) s j k i (get_set_same p s (Some k) s_lt)

    in_k : IsIn (set p s (Some k)) s k
    in_k = get_set_same p s (Some k) s_lt

    old_in : (q j : ℕ) → q ≢ s → IsIn (set p s (Some k)) q j → IsIn p q j
    old_in q j m i = (same_but p s (Some k) q j m).1 i

    listed : (q j : ℕ) → IsIn (set p s (Some k)) q j → j < length f
    listed q j i = ⊎_elim (λ e. let g = is_k j (subst (λ (x : ℕ). IsIn (set p s (Some k)) x j) e i) in omega arith) (λ m. L.listed q j (old_in q j m i)) (cases_eq q s)

    pub put_after : (b : ℕ) → IsLastBelow p k s (Some b) → AreLists (set p s (Some k)) f (set (set n s (get_or n b None)) b (Some s))
    put_after b below =
        let nb = none_between p k s (Some b) below in let b_lt = slice_get_within p b (Some k) below.0 in let ns = L.nexts in
        let apart : s ≢ b = λ e. (let l = below.1 in omega arith) in
        let len = length-set n s (get_or n b None) in let sl = s_lt in
        record {
          few = let l = L.few in let m = length-set p s (Some k) in omega arith;
          few_lists = L.few_lists;
          listed = listed;
          nexts = length-set (set n s (get_or n b None)) b (Some s) ∙ (len ∙ (ns ∙ sym (length-set p s (Some k))));
          firsts = λ j l. ⊎_elim
              (λ e. moved_first (set p s (Some k)) f j k (get_or f k None) e refl (in_ahead p (set p s (Some k)) s k (same_but p s (Some k)) was_none is_k in_k b 0 (get_or f k None) below.0 (omega arith) below.1 (L.firsts k k_lt)))
              (λ m. in_other p (set p s (Some k)) s k (same_but p s (Some k)) was_none is_k in_k j 0 (get_or f j None) m (L.firsts j l))
              (cases_eq j k);
          links = λ q j i. ⊎_elim
              (λ e. moved (set p s (Some k)) (set (set n s (get_or n b None)) b (Some s)) q s j k (get_or n b None) e (is_k j (subst (λ (x : ℕ). IsIn (set p s (Some k)) x j) e i))
              (get_or-set_other (set n s (get_or n b None)) b s (Some s) None apart ∙ get_or-set_same n s (get_or n b None) None (omega arith))
              (of_new p (set p s (Some k)) s k (same_but p s (Some k)) was_none is_k in_k (b + 1) (get_or n b None) nb (L.links b k below.0)))
              (λ m. let o = old_in q j m i in ⊎_elim
              (λ e. moved (set p s (Some k)) (set (set n s (get_or n b None)) b (Some s)) q b j k (Some s) e (one_list p b j k (subst (λ (x : ℕ). IsIn p x j) e o) below.0)
              (get_or-set_same (set n s (get_or n b None)) b (Some s) None (omega arith))
              (to_new p (set p s (Some k)) s k (same_but p s (Some k)) was_none is_k in_k (b + 1) nb))
              (λ d. moved (set p s (Some k)) (set (set n s (get_or n b None)) b (Some s)) q q j j (get_or n q None) refl refl
              (get_or-set_other (set n s (get_or n b None)) b q (Some s) None d ∙ get_or-set_other n s q (get_or n b None) None m)
              (⊎_elim
              (λ e. subst (λ (x : ℕ). IsNextIn (set p s (Some k)) x (q + 1) (get_or n q None)) (sym e) (⊎_elim
              (λ l. let t = below.2 q (subst (λ (x : ℕ). IsIn p q x) e o) l in in_ahead p (set p s (Some k)) s k (same_but p s (Some k)) was_none is_k in_k b (q + 1) (get_or n q None) below.0 (omega arith) below.1 (L.links q k (subst (λ (x : ℕ). IsIn p q x) e o)))
              (λ l. in_past p (set p s (Some k)) s k (same_but p s (Some k)) was_none is_k in_k (q + 1) (get_or n q None) (omega arith) (L.links q k (subst (λ (x : ℕ). IsIn p q x) e o)))
              (cases_lt q s)))
              (λ e. in_other p (set p s (Some k)) s k (same_but p s (Some k)) was_none is_k in_k j (q + 1) (get_or n q None) e (L.links q j o))
              (cases_eq j k)))
              (cases_eq q b))
              (cases_eq q s);
        }

    pub put_first : IsLastBelow p k s None → AreLists (set p s (Some k)) (set f k (Some s)) (set n s (get_or f k None))
    put_first below =
        let nb = none_between p k s None below in let ns = L.nexts in let sl = s_lt in
        record {
          few = let l = L.few in let m = length-set p s (Some k) in omega arith;
          few_lists = let l = L.few_lists in let m = length-set f k (Some s) in omega arith;
          listed = λ q j i. let l = listed q j i in let m = length-set f k (Some s) in omega arith;
          nexts = length-set n s (get_or f k None) ∙ (ns ∙ sym (length-set p s (Some k)));
          firsts = λ j l. ⊎_elim
              (λ e. moved_first (set p s (Some k)) (set f k (Some s)) j k (Some s) e (get_or-set_same f k (Some s) None k_lt) (to_new p (set p s (Some k)) s k (same_but p s (Some k)) was_none is_k in_k 0 nb))
              (λ m. moved_first (set p s (Some k)) (set f k (Some s)) j j (get_or f j None) refl (get_or-set_other f k j (Some s) None m)
              (in_other p (set p s (Some k)) s k (same_but p s (Some k)) was_none is_k in_k j 0 (get_or f j None) m (L.firsts j (let z = length-set f k (Some s) in omega arith))))
              (cases_eq j k);
          links = λ q j i. ⊎_elim
              (λ e. moved (set p s (Some k)) (set n s (get_or f k None)) q s j k (get_or f k None) e (is_k j (subst (λ (x : ℕ). IsIn (set p s (Some k)) x j) e i))
              (get_or-set_same n s (get_or f k None) None (omega arith))
              (of_new p (set p s (Some k)) s k (same_but p s (Some k)) was_none is_k in_k 0 (get_or f k None) nb (L.firsts k k_lt)))
              (λ m. let o = old_in q j m i in
              moved (set p s (Some k)) (set n s (get_or f k None)) q q j j (get_or n q None) refl refl
              (get_or-set_other n s q (get_or f k None) None m)
              (⊎_elim
              (λ e. subst (λ (x : ℕ). IsNextIn (set p s (Some k)) x (q + 1) (get_or n q None)) (sym e)
              (let t = below q (subst (λ (x : ℕ). IsIn p q x) e o) in in_past p (set p s (Some k)) s k (same_but p s (Some k)) was_none is_k in_k (q + 1) (get_or n q None) (omega arith) (L.links q k (subst (λ (x : ℕ). IsIn p q x) e o))))
              (λ e. in_other p (set p s (Some k)) s k (same_but p s (Some k)) was_none is_k in_k j (q + 1) (get_or n q None) e (L.links q j o))
              (cases_eq j k)))
              (cases_eq q s);
        }

  module _ (here : IsIn p s k) where
    s_in : s < length p
    s_in = slice_get_within p s (Some k) here

    one : (j : ℕ) → IsIn p s j → j ≡ k
    one j i = one_list p s j k i here

    out : (j : ℕ) → ¬ IsIn (set p s None) s j
    out j i = none-some j (same_Some None (Some j) (sym (get_set_same p s None s_in) ∙ i))

    apart_in : (q j : ℕ) → IsIn (set p s None) q j → IsIn p q j × (q ≢ s)
    apart_in q j i = let m : q ≢ s = λ e. out j (subst (λ (x : ℕ). IsIn (set p s None) x j) e i) in ((same_but p s None q j m).1 i, m)

    pub take_after : (b : ℕ) → IsLastBelow p k s (Some b) → AreLists (set p s None) f (set n b (get_or n s None))
    take_after b below =
        let nb = none_between p k s (Some b) below in let b_lt = slice_get_within p b (Some k) below.0 in let ns = L.nexts in
        record {
          few = let l = L.few in let m = length-set p s None in omega arith;
          few_lists = L.few_lists;
          listed = λ q j i. L.listed q j (apart_in q j i).0;
          nexts = length-set n b (get_or n s None) ∙ (ns ∙ sym (length-set p s None));
          firsts = λ j l. ⊎_elim
              (λ e. moved_first (set p s None) f j k (get_or f k None) e refl (out_ahead p (set p s None) s k (same_but p s None) here one out b 0 (get_or f k None) below.0 (omega arith) below.1 (L.firsts k k_lt)))
              (λ m. out_other p (set p s None) s k (same_but p s None) here one out j 0 (get_or f j None) m (L.firsts j l))
              (cases_eq j k);
          links = λ q j i. let o = (apart_in q j i).0 in ⊎_elim
              (λ e. moved (set p s None) (set n b (get_or n s None)) q b j k (get_or n s None) e (one_list p b j k (subst (λ (x : ℕ). IsIn p x j) e o) below.0)
              (get_or-set_same n b (get_or n s None) None (omega arith))
              (past_it p (set p s None) s k (same_but p s None) here one out (b + 1) (get_or n s None) nb (L.links s k here)))
              (λ d. moved (set p s None) (set n b (get_or n s None)) q q j j (get_or n q None) refl refl
              (get_or-set_other n b q (get_or n s None) None d)
              (⊎_elim
              (λ e. subst (λ (x : ℕ). IsNextIn (set p s None) x (q + 1) (get_or n q None)) (sym e) (⊎_elim
              (λ l. let t = below.2 q (subst (λ (x : ℕ). IsIn p q x) e o) l in out_ahead p (set p s None) s k (same_but p s None) here one out b (q + 1) (get_or n q None) below.0 (omega arith) below.1 (L.links q k (subst (λ (x : ℕ). IsIn p q x) e o)))
              (λ l. out_past p (set p s None) s k (same_but p s None) here one out (q + 1) (get_or n q None) (omega arith) (L.links q k (subst (λ (x : ℕ). IsIn p q x) e o)))
              (cases_lt q s)))
              (λ e. out_other p (set p s None) s k (same_but p s None) here one out j (q + 1) (get_or n q None) e (L.links q j o))
              (cases_eq j k)))
              (cases_eq q b);
        }

    pub take_first : IsLastBelow p k s None → AreLists (set p s None) (set f k (get_or n s None)) n
    take_first below =
        let nb = none_between p k s None below in let ns = L.nexts in
        record {
          few = let l = L.few in let m = length-set p s None in omega arith;
          few_lists = let l = L.few_lists in let m = length-set f k (get_or n s None) in omega arith;
          listed = λ q j i. let l = L.listed q j (apart_in q j i).0 in let m = length-set f k (get_or n s None) in omega arith;
          nexts = ns ∙ sym (length-set p s None);
          firsts = λ j l. ⊎_elim
              (λ e. moved_first (set p s None) (set f k (get_or n s None)) j k (get_or n s None) e (get_or-set_same f k (get_or n s None) None k_lt) (past_it p (set p s None) s k (same_but p s None) here one out 0 (get_or n s None) nb (L.links s k here)))
              (λ m. moved_first (set p s None) (set f k (get_or n s None)) j j (get_or f j None) refl (get_or-set_other f k j (get_or n s None) None m)
              (out_other p (set p s None) s k (same_but p s None) here one out j 0 (get_or f j None) m (L.firsts j (let z = length-set f k (get_or n s None) in omega arith))))
              (cases_eq j k);
          links = λ q j i. let o = (apart_in q j i).0 in let d = (apart_in q j i).1 in ⊎_elim
              (λ e. subst (λ (x : ℕ). IsNextIn (set p s None) x (q + 1) (get_or n q None)) (sym e)
              (let t = below q (subst (λ (x : ℕ). IsIn p q x) e o) in out_past p (set p s None) s k (same_but p s None) here one out (q + 1) (get_or n q None) (omega arith) (L.links q k (subst (λ (x : ℕ). IsIn p q x) e o))))
              (λ e. out_other p (set p s None) s k (same_but p s None) here one out j (q + 1) (get_or n q None) e (L.links q j o))
              (cases_eq j k);
        }

-- ---- no slot is in a list

none_in : (slots q j : ℕ) → ¬ IsIn (replicate slots None) q j
none_in zero q j i = none-some (Some j) i
none_in (suc slots) zero j i = none-some j (same_Some None (Some j) i)
none_in (suc slots) (suc q) j i = none_in slots q j i

none_read : (m j : ℕ) → get_or {A = Option ℕ} (replicate m None) j None ≡ None
none_read zero j = refl
none_read (suc m) zero = refl
none_read (suc m) (suc j) = none_read m j

pub no_lists : (slots lists : ℕ) → slots < 2 ^ 32 → lists < 2 ^ 32 → AreLists (replicate slots None) (replicate lists None) (replicate slots None)
no_lists slots lists few few_lists = record {
  few_lists = let none : Option ℕ = None in let l = length-replicate lists none in omega arith;
  few = let none : Option ℕ = None in let l = length-replicate slots none in omega arith;
  listed = λ q j i. absurd (none_in slots q j i);
  nexts = refl;
  firsts = λ j l. subst (λ (x : Option ℕ). IsNextIn (replicate slots None) j 0 x) (sym (none_read lists j)) (λ q i. absurd (none_in slots q j i));
  links = λ q j i. absurd (none_in slots q j i);
}
