-- Rings of links: a slot is taken out of its ring, a slot is put at the end of a list, and a list is gone over.
use Rattle.std.proofs.Common.{◌≡◌, ◌≢◌, ℕ, zero, suc, ◌+◌, ◌-◌, ◌<◌, ◌≤◌, Option, Some, None, cond, eqb, refl, sym, ap, ◌∙◌, subst, ⊎_elim, arith}
use Rattle.std.proofs.lemmas.Bool.{cases_eq, cases_lt}
use Rattle.std.proofs.lemmas.Bool.Decides.{nat_tests}
use Rattle.std.proofs.lemmas.Option.{none-some, same_Some}
use Rattle.timer_wheel.specs.Rings.{AreRings}

-- a function that is changed at one place
abbrev pub changed : {X : Type 0} → (ℕ → X) → ℕ → X → ℕ → X
changed f at x i = cond (eqb i at) x (f i)

changed_same : (f : ℕ → ℕ) (at x : ℕ) → changed f at x at ≡ x
changed_same f at x = grind (arith, nat_tests)

changed_other : (f : ℕ → ℕ) (at x i : ℕ) → i ≢ at → changed f at x i ≡ f i
changed_other f at x i n = grind (arith, nat_tests)

pub record TakesOut (s : ℕ) (next prev : ℕ → ℕ) (list : ℕ → Option ℕ) (next' prev' : ℕ → ℕ) (list' : ℕ → Option ℕ) : Type 0 where
  pub next_alone : next' s ≡ s
  pub prev_alone : prev' s ≡ s
  pub next_past : prev s ≢ s → next' (prev s) ≡ next s
  pub prev_past : next s ≢ s → prev' (next s) ≡ prev s
  pub next_others : (i : ℕ) → i ≢ s → i ≢ prev s → next' i ≡ next i
  pub prev_others : (i : ℕ) → i ≢ s → i ≢ next s → prev' i ≡ prev i
  pub list_none : list' s ≡ None
  pub list_others : (i : ℕ) → i ≢ s → list' i ≡ list i

pub record PutsIn (s h k : ℕ) (next prev : ℕ → ℕ) (list : ℕ → Option ℕ) (next' prev' : ℕ → ℕ) (list' : ℕ → Option ℕ) : Type 0 where
  pub next_last : next' (prev h) ≡ s
  pub next_new : next' s ≡ h
  pub prev_new : prev' s ≡ prev h
  pub prev_head : prev' h ≡ s
  pub next_others : (i : ℕ) → i ≢ s → i ≢ prev h → next' i ≡ next i
  pub prev_others : (i : ℕ) → i ≢ s → i ≢ h → prev' i ≡ prev i
  pub list_new : list' s ≡ Some k
  pub list_others : (i : ℕ) → i ≢ s → list' i ≡ list i

module _ (slots nodes : ℕ) (next prev : ℕ → ℕ) (list : ℕ → Option ℕ) (age : ℕ → ℕ) (within : slots ≤ nodes) (R : AreRings slots nodes next prev list age) where
  list_prev : (i : ℕ) → i < nodes → list (prev i) ≡ list i
  list_prev i lt = sym (R.one_list (prev i) (R.prev_within i lt)) ∙ ap list (R.forth i lt)

  module _ (s : ℕ) (lt : s < slots) (next' prev' : ℕ → ℕ) (list' : ℕ → Option ℕ) (t : TakesOut s next prev list next' prev' list') where
    inside : s < nodes
    inside = omega arith

    next_same_prev : prev s ≡ s → next s ≡ s
    next_same_prev e = let f = R.forth s inside in cc

    prev_same_next : next s ≡ s → prev s ≡ s
    prev_same_next e = let f = R.back s inside in cc

    -- the next of another node than the one before s
    next_apart : (i : ℕ) → i < nodes → i ≢ prev s → next i ≢ s
    next_apart i l n e = n (let f = R.back i l in cc)

    prev_apart : (i : ℕ) → i < nodes → i ≢ next s → prev i ≢ s
    prev_apart i l n e = n (let f = R.forth i l in cc)

    next_apart_next : (i : ℕ) → i < nodes → i ≢ s → next i ≢ next s
    next_apart_next i l n e = n (let f = R.back i l in let g = R.back s inside in cc)

    prev_apart_prev : (i : ℕ) → i < nodes → i ≢ s → prev i ≢ prev s
    prev_apart_prev i l n e = n (let f = R.forth i l in let g = R.forth s inside in cc)

    by_next : (P : ℕ → ℕ → Type 0) (i : ℕ) → P s s → (prev s ≢ s → P (prev s) (next s)) → (i ≢ s → i ≢ prev s → P i (next i)) → P i (next' i)
    by_next P i a b c = ⊎_elim
        (λ e. let f : next' i ≡ s = ap next' e ∙ t.next_alone in subst (λ y. P i y) (sym f) (subst (λ x. P x s) (sym e) a))
        (λ n. ⊎_elim
        (λ e. let m : prev s ≢ s = λ q. n (e ∙ q) in let f : next' i ≡ next s = ap next' e ∙ t.next_past m in subst (λ y. P i y) (sym f) (subst (λ x. P x (next s)) (sym e) (b m)))
        (λ m. subst (λ y. P i y) (sym (t.next_others i n m)) (c n m)) (cases_eq i (prev s)))
        (cases_eq i s)

    by_prev : (P : ℕ → ℕ → Type 0) (i : ℕ) → P s s → (next s ≢ s → P (next s) (prev s)) → (i ≢ s → i ≢ next s → P i (prev i)) → P i (prev' i)
    by_prev P i a b c = ⊎_elim
        (λ e. let f : prev' i ≡ s = ap prev' e ∙ t.prev_alone in subst (λ y. P i y) (sym f) (subst (λ x. P x s) (sym e) a))
        (λ n. ⊎_elim
        (λ e. let m : next s ≢ s = λ q. n (e ∙ q) in let f : prev' i ≡ prev s = ap prev' e ∙ t.prev_past m in subst (λ y. P i y) (sym f) (subst (λ x. P x (prev s)) (sym e) (b m)))
        (λ m. subst (λ y. P i y) (sym (t.prev_others i n m)) (c n m)) (cases_eq i (next s)))
        (cases_eq i s)

    pub rings_take_out : AreRings slots nodes next' prev' list' age
    rings_take_out = record {
      next_within = λ i l. by_next (λ x y. y < nodes) i inside (λ _. R.next_within s inside) (λ _ _. R.next_within i l);
      prev_within = λ i l. by_prev (λ x y. y < nodes) i inside (λ _. R.prev_within s inside) (λ _ _. R.prev_within i l);
      back = λ i l. by_next (λ x y. prev' y ≡ x) i t.prev_alone
          (λ m. t.prev_past (λ e. m (prev_same_next e)))
          (λ n m. t.prev_others (next i) (next_apart i l m) (next_apart_next i l n) ∙ R.back i l);
      forth = λ i l. by_prev (λ x y. next' y ≡ x) i t.next_alone
          (λ m. t.next_past (λ e. m (next_same_prev e)))
          (λ n m. t.next_others (prev i) (prev_apart i l m) (prev_apart_prev i l n) ∙ R.forth i l);
      one_list = λ i l. by_next (λ x y. list' y ≡ list' x) i refl
          (λ m. t.list_others (next s) (λ e. m (prev_same_next e)) ∙ (R.one_list s inside ∙ (sym (list_prev s inside) ∙ sym (t.list_others (prev s) m))))
          (λ n m. t.list_others (next i) (next_apart i l m) ∙ (R.one_list i l ∙ sym (t.list_others i n)));
      head = λ k. t.list_others (slots + k) (λ e. omega arith) ∙ R.head k;
      alone = λ i l. by_next (λ x y. list' x ≡ None → y ≡ x) i (λ _. refl)
          (λ m e. absurd (m (let f = t.list_others (prev s) m in let own = R.alone s lt (sym (list_prev s inside) ∙ (sym f ∙ e)) in prev_same_next own)))
          (λ n m e. R.alone i l (sym (t.list_others i n) ∙ e));
      older = λ i k l is. by_prev (λ x y. x < slots → list' x ≡ Some k → y < slots → age y < age x) i
          (λ _ e _. absurd (none-some k (sym t.list_none ∙ e)))
          (λ m q e p. let of_next = sym (t.list_others (next s) m) ∙ e in let of_s : list s ≡ Some k = sym (R.one_list s inside) ∙ of_next in
          let b = R.back s inside in
          let one = R.older s k lt of_s p in let two = R.older (next s) k q of_next (subst (λ x. x < slots) (sym b) lt) in
          let three : age s < age (next s) = subst (λ x. age x < age (next s)) b two in omega arith)
          (λ n m q e p. R.older i k q (sym (t.list_others i n) ∙ e) p) l is;
    }

  module _ (s k : ℕ) (lt : s < slots) (k_lt : slots + k < nodes) (is_alone : list s ≡ None) where
    at_s : s < nodes
    at_s = omega arith

    abbrev pub aged : ℕ → ℕ
    aged = changed age s (suc (age (prev (slots + k))))

    alone_next : next s ≡ s
    alone_next = R.alone s lt is_alone

    alone_prev : prev s ≡ s
    alone_prev = let f = R.back s at_s in let g = alone_next in cc

    last_in : list (prev (slots + k)) ≡ Some k
    last_in = list_prev (slots + k) k_lt ∙ R.head k

    pub last_apart : prev (slots + k) ≢ s
    last_apart e = none-some k (sym is_alone ∙ (sym (ap list e) ∙ last_in))

    head_apart : slots + k ≢ s
    head_apart e = omega arith

    after_apart : (i : ℕ) → i < nodes → i ≢ s → next i ≢ s
    after_apart i l n e = n (let f = R.back i l in let g = alone_prev in cc)

    before_apart : (i : ℕ) → i < nodes → i ≢ s → prev i ≢ s
    before_apart i l n e = n (let f = R.forth i l in let g = alone_next in cc)

    after_apart_head : (i : ℕ) → i < nodes → i ≢ prev (slots + k) → next i ≢ slots + k
    after_apart_head i l n e = n (let f = R.back i l in cc)

    before_apart_last : (i : ℕ) → i < nodes → i ≢ slots + k → prev i ≢ prev (slots + k)
    before_apart_last i l n e = n (let f = R.forth i l in let g = R.forth (slots + k) k_lt in cc)

    module _ (next' prev' : ℕ → ℕ) (list' : ℕ → Option ℕ) (t : PutsIn s (slots + k) k next prev list next' prev' list') where
      via_next : (P : ℕ → ℕ → Type 0) (i : ℕ) → P s (slots + k) → P (prev (slots + k)) s → (i ≢ s → i ≢ prev (slots + k) → P i (next i)) → P i (next' i)
      via_next P i a b c = ⊎_elim
          (λ e. let f : next' i ≡ slots + k = ap next' e ∙ t.next_new in subst (λ y. P i y) (sym f) (subst (λ x. P x (slots + k)) (sym e) a))
          (λ n. ⊎_elim
          (λ e. let f : next' i ≡ s = ap next' e ∙ t.next_last in subst (λ y. P i y) (sym f) (subst (λ x. P x s) (sym e) b))
          (λ m. subst (λ y. P i y) (sym (t.next_others i n m)) (c n m)) (cases_eq i (prev (slots + k))))
          (cases_eq i s)

      via_prev : (P : ℕ → ℕ → Type 0) (i : ℕ) → P s (prev (slots + k)) → P (slots + k) s → (i ≢ s → i ≢ slots + k → P i (prev i)) → P i (prev' i)
      via_prev P i a b c = ⊎_elim
          (λ e. let f : prev' i ≡ prev (slots + k) = ap prev' e ∙ t.prev_new in subst (λ y. P i y) (sym f) (subst (λ x. P x (prev (slots + k))) (sym e) a))
          (λ n. ⊎_elim
          (λ e. let f : prev' i ≡ s = ap prev' e ∙ t.prev_head in subst (λ y. P i y) (sym f) (subst (λ x. P x s) (sym e) b))
          (λ m. subst (λ y. P i y) (sym (t.prev_others i n m)) (c n m)) (cases_eq i (slots + k)))
          (cases_eq i s)

      pub rings_put_in : AreRings slots nodes next' prev' list' aged
      rings_put_in = record {
        next_within = λ i l. via_next (λ x y. y < nodes) i k_lt at_s (λ _ _. R.next_within i l);
        prev_within = λ i l. via_prev (λ x y. y < nodes) i (R.prev_within (slots + k) k_lt) at_s (λ _ _. R.prev_within i l);
        back = λ i l. via_next (λ x y. prev' y ≡ x) i t.prev_head t.prev_new
            (λ n m. t.prev_others (next i) (after_apart i l n) (after_apart_head i l m) ∙ R.back i l);
        forth = λ i l. via_prev (λ x y. next' y ≡ x) i t.next_last t.next_new
            (λ n m. t.next_others (prev i) (before_apart i l n) (before_apart_last i l m) ∙ R.forth i l);
        one_list = λ i l. via_next (λ x y. list' y ≡ list' x) i
            (t.list_others (slots + k) head_apart ∙ (R.head k ∙ sym t.list_new))
            (t.list_new ∙ (sym last_in ∙ sym (t.list_others (prev (slots + k)) last_apart)))
            (λ n m. t.list_others (next i) (after_apart i l n) ∙ (R.one_list i l ∙ sym (t.list_others i n)));
        head = λ j. t.list_others (slots + j) (λ e. omega arith) ∙ R.head j;
        alone = λ i l. via_next (λ x y. list' x ≡ None → y ≡ x) i
            (λ e. absurd (none-some k (sym e ∙ t.list_new)))
            (λ e. absurd (none-some k (sym e ∙ (t.list_others (prev (slots + k)) last_apart ∙ last_in))))
            (λ n m e. R.alone i l (sym (t.list_others i n) ∙ e));
        older = λ i j l is. via_prev (λ x y. x < slots → list' x ≡ Some j → y < slots → aged y < aged x) i
            (λ _ _ _. let a = changed_same age s (suc (age (prev (slots + k)))) in let b = changed_other age s (suc (age (prev (slots + k)))) (prev (slots + k)) last_apart in omega (arith, a, b))
            (λ q _ _. absurd (omega arith))
            (λ n m q e p. let a = changed_other age s (suc (age (prev (slots + k)))) i n in
            let b = changed_other age s (suc (age (prev (slots + k)))) (prev i) (before_apart i (omega arith) n) in
            let c = R.older i j q (sym (t.list_others i n) ∙ e) p in omega (arith, a, b, c)) l is;
      }

-- the slots of a list are in the ring of its head
module _ (slots nodes : ℕ) (next prev : ℕ → ℕ) (list : ℕ → Option ℕ) (age : ℕ → ℕ) (within : slots ≤ nodes) (R : AreRings slots nodes next prev list age) (k : ℕ) where
  -- a node in the ring of list k is a slot of it, or its head
  pub is_head : (i : ℕ) → slots ≤ i → list i ≡ Some k → i ≡ slots + k
  is_head i l e = let f = R.head (i - slots) in let g : slots + (i - slots) ≡ i = omega arith in
      let h : list i ≡ Some (i - slots) = subst (λ x. list x ≡ Some (i - slots)) g f in
      let j : i - slots ≡ k = same_Some (i - slots) k (sym h ∙ e) in omega arith

  -- what holds of the first node, and of the one after each node of which it holds, holds of each slot of the list
  reached_below : (P : ℕ → Type 0) → P (next (slots + k)) → ((i : ℕ) → i < slots → list i ≡ Some k → P i → P (next i))
      → (bound i : ℕ) → age i < bound → i < slots → list i ≡ Some k → P i
  reached_below P first step zero i below l e = absurd (omega arith)
  reached_below P first step (suc bound) i below l e =
      let i_in : i < nodes = omega arith in
      let p_in = R.prev_within i i_in in
      let same : list (prev i) ≡ Some k = list_prev slots nodes next prev list age within R i i_in ∙ e in
      subst P (R.forth i i_in) (⊎_elim
      (λ p. step (prev i) p same (reached_below P first step bound (prev i) (let o = R.older i k l e p in omega arith) p same))
      (λ p. subst (λ x. P (next x)) (sym (is_head (prev i) p same)) first)
      (cases_lt (prev i) slots))

  pub reached : (P : ℕ → Type 0) → P (next (slots + k)) → ((i : ℕ) → i < slots → list i ≡ Some k → P i → P (next i))
      → (i : ℕ) → i < slots → list i ≡ Some k → P i
  reached P first step i l e = reached_below P first step (suc (age i)) i (omega arith) l e

  -- a list whose head is a ring alone has no slot
  pub empty_list : next (slots + k) ≡ slots + k → (i : ℕ) → i < slots → list i ≢ Some k
  empty_list own i l e = let h = reached (λ x. slots ≤ x) (let f = own in omega arith) (λ j m _ n. absurd (omega arith)) i l e in omega arith
