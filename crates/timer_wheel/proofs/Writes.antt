-- What each write to the lists leaves.
use Rattle.std.proofs.Common.{◌≡◌, ◌≢◌, ◌↔◌, ℕ, suc, ◌+◌, ◌-◌, ◌/◌, ◌%◌, ◌^◌, ◌<◌, ◌≤◌, List, Option, Some, None, length, get_or, set, replicate, sym, ap, ◌∙◌, subst, ⊎_elim, arith, get_or-set_same, get_or-set_other}
use Rattle.std.specs.List.{slice_get, range_with_len}
use Rattle.std.specs.Int.{bit_at}
use Rattle.std.proofs.lemmas.Bool.{cases_eq, cases_lt}
use Rattle.std.proofs.lemmas.Bool.Decides.{nat_tests}
use Rattle.std.proofs.lemmas.Option.{none-some, same_Some, slice_get_within, slice_get-get_or, get_or_from_slice_get}
use Rattle.std.proofs.lemmas.List.{length-set, get_or_default, length-replicate, get_or-replicate}
use Rattle.std.proofs.lemmas.List.FromFn.{get_or-range_with_len, length-range_with_len}
use Rattle.std.proofs.lemmas.Nat.Bits.{bit_at-zero}
use Rattle.timer_wheel.specs.Rings.{Places, IsIn, list_of, AreRings, AreLists, TellWhichHaveSlots}
use Rattle.timer_wheel.proofs.Rings.{TakesOut, PutsIn, changed, rings_take_out, rings_put_in, last_apart, empty_list}
use Rattle.timer_wheel.proofs.Words.{bit_of, with_bit, without_bit, set_same, set_other, clear_same, clear_other}

pub slot_list : (places : Places) (i : ℕ) → i < length places → list_of places i ≡ get_or places i None
slot_list places i l = grind (arith, nat_tests)

head_list : (places : Places) (i : ℕ) → length places ≤ i → list_of places i ≡ Some (i - length places)
head_list places i l = grind (arith, nat_tests)

pub head_of : (places : Places) (k : ℕ) → list_of places (length places + k) ≡ Some k
head_of places k = head_list places (length places + k) (omega arith) ∙ ap (λ (x : ℕ). Some x) (omega arith)

new_list : (places : Places) (s : ℕ) (x : Option ℕ) → s < length places → list_of (set places s x) s ≡ x
new_list places s x l = slot_list (set places s x) s (let e = length-set places s x in omega arith) ∙ get_or-set_same places s x None l

other_list : (places : Places) (s : ℕ) (x : Option ℕ) (i : ℕ) → i ≢ s → list_of (set places s x) i ≡ list_of places i
other_list places s x i n = let e = length-set places s x in ⊎_elim
    (λ l. slot_list (set places s x) i (omega arith) ∙ (get_or-set_other places s i x None n ∙ sym (slot_list places i l)))
    (λ l. head_list (set places s x) i (omega arith) ∙ (ap (λ (y : ℕ). Some (i - y)) e ∙ sym (head_list places i l)))
    (cases_lt i (length places))

-- a slot's list is the one of its node
pub in_from_list : (places : Places) (s k : ℕ) → s < length places → list_of places s ≡ Some k → IsIn places s k
in_from_list places s k l e = slice_get-get_or places s None l ∙ ap (λ (x : Option ℕ). Some x) (sym (slot_list places s l) ∙ e)

pub list_from_in : (places : Places) (s k : ℕ) → IsIn places s k → list_of places s ≡ Some k
list_from_in places s k e = slot_list places s (slice_get_within places s (Some k) e) ∙ get_or_from_slice_get places s (Some k) None e

bit_of_none : (k : ℕ) → k < 4096 → bit_of (replicate 64 0) k ≡ 0
bit_of_none k l = ap (λ x. bit_at x (k % 64)) (get_or-replicate 64 (k / 64) 0 0 (omega arith)) ∙ bit_at-zero (k % 64)

module _ (places : Places) (next prev words : List ℕ) (age : ℕ → ℕ) (L : AreLists places next prev words age) where
  next_in : (i : ℕ) → i < length places + 4096 → get_or next i 0 < length places + 4096
  next_in i l = L.rings.next_within i l

  -- the slots that are in lists of few numbers, after a write
  listed_after : (s : ℕ) (x : Option ℕ) → ((k : ℕ) → x ≡ Some k → k < 4096) → (slot k : ℕ) → IsIn (set places s x) slot k → k < 4096
  listed_after s x few slot k e = let l : slot < length places = let w = slice_get_within (set places s x) slot (Some k) e in let m = length-set places s x in omega arith in
      let f = list_from_in (set places s x) slot k e in ⊎_elim
      (λ q. few k (sym (new_list places s x (subst (λ y. y < length places) q l)) ∙ (ap (list_of (set places s x)) (sym q) ∙ f)))
      (λ n. L.listed slot k (in_from_list places slot k l (sym (other_list places s x slot n) ∙ f)))
      (cases_eq slot s)

  module _ (s k p q : ℕ) (place : Option ℕ) (place_is : place ≡ get_or places s place) (is : place ≡ Some k) (lt : s < length places) (p_is : p ≡ get_or prev s p) (q_is : q ≡ get_or next s q) where
    at : get_or places s None ≡ Some k
    at = get_or_default places s None place lt ∙ (sym place_is ∙ is)

    node : s < length places + 4096
    node = omega arith

    p_at : p ≡ get_or prev s 0
    p_at = p_is ∙ get_or_default prev s p 0 (let e = L.prevs in omega arith)

    q_at : q ≡ get_or next s 0
    q_at = q_is ∙ get_or_default next s q 0 (let e = L.nexts in omega arith)

    p_in : p < length places + 4096
    p_in = subst (λ x. x < length places + 4096) (sym p_at) (L.rings.prev_within s node)

    q_in : q < length places + 4096
    q_in = subst (λ x. x < length places + 4096) (sym q_at) (L.rings.next_within s node)

    pub p_within : p < length next
    p_within = let e = L.nexts in let f = p_in in omega arith

    pub q_within : q < length prev
    q_within = let e = L.prevs in let f = q_in in omega arith

    pub k_few : k < 4096
    k_few = L.listed s k (in_from_list places s k lt (slot_list places s lt ∙ at))

    abbrev next_out : List ℕ
    next_out = set (set next p q) s s

    abbrev prev_out : List ℕ
    prev_out = set (set prev q p) s s

    s_next : s < length (set next p q)
    s_next = let e = L.nexts in let f = length-set next p q in omega arith

    s_prev : s < length (set prev q p)
    s_prev = let e = L.prevs in let f = length-set prev q p in omega arith

    takes_out : TakesOut s (λ i. get_or next i 0) (λ i. get_or prev i 0) (list_of places) (λ i. get_or next_out i 0) (λ i. get_or prev_out i 0) (list_of (set places s None))
    takes_out = record {
      next_alone = get_or-set_same (set next p q) s s 0 s_next;
      prev_alone = get_or-set_same (set prev q p) s s 0 s_prev;
      next_past = λ n. let m : p ≢ s = λ e. n (sym p_at ∙ e) in
          ap (λ x. get_or next_out x 0) (sym p_at) ∙ (get_or-set_other (set next p q) s p s 0 m ∙ (get_or-set_same next p q 0 p_within ∙ q_at));
      prev_past = λ n. let m : q ≢ s = λ e. n (sym q_at ∙ e) in
          ap (λ x. get_or prev_out x 0) (sym q_at) ∙ (get_or-set_other (set prev q p) s q s 0 m ∙ (get_or-set_same prev q p 0 q_within ∙ p_at));
      next_others = λ i n m. get_or-set_other (set next p q) s i s 0 n ∙ get_or-set_other next p i q 0 (λ e. m (e ∙ p_at));
      prev_others = λ i n m. get_or-set_other (set prev q p) s i s 0 n ∙ get_or-set_other prev q i p 0 (λ e. m (e ∙ q_at));
      list_none = new_list places s None lt;
      list_others = other_list places s None;
    }

    out_rings : AreRings (length places) (length places + 4096) (λ i. get_or next_out i 0) (λ i. get_or prev_out i 0) (list_of (set places s None)) age
    out_rings = rings_take_out (length places) (length places + 4096) (λ i. get_or next i 0) (λ i. get_or prev i 0) (list_of places) age (omega arith) L.rings s lt
        (λ i. get_or next_out i 0) (λ i. get_or prev_out i 0) (list_of (set places s None)) takes_out

    -- the head of another list keeps its links
    out_other : (j : ℕ) → j < 4096 → j ≢ k → get_or next_out (length places + j) 0 ≡ get_or next (length places + j) 0
    out_other j l n = takes_out.next_others (length places + j) (λ e. omega arith)
        (λ e. n (same_Some j k (sym (L.rings.head j) ∙ (ap (list_of places) e ∙ (sym (L.rings.one_list (get_or prev s 0) (L.rings.prev_within s node)) ∙ (ap (list_of places) (L.rings.forth s node) ∙ (slot_list places s lt ∙ at)))))))

    out_with : (words' : List ℕ) → length words' ≡ 64 → TellWhichHaveSlots (length places) 4096 words' (λ i. get_or next_out i 0)
        → AreLists (set places s None) next_out prev_out words' age
    out_with words' many tell = let e = length-set places s None in record {
      few = let f = L.few in omega arith;
      listed = listed_after s None (λ j f. absurd (none-some j f));
      nexts = length-set (set next p q) s s ∙ (length-set next p q ∙ (L.nexts ∙ ap (λ x. x + 4096) (sym e)));
      prevs = length-set (set prev q p) s s ∙ (length-set prev q p ∙ (L.prevs ∙ ap (λ x. x + 4096) (sym e)));
      all_words = many;
      rings = subst (λ n. AreRings n (n + 4096) (λ i. get_or next_out i 0) (λ i. get_or prev_out i 0) (list_of (set places s None)) age) (sym e) out_rings;
      told = subst (λ n. TellWhichHaveSlots n 4096 words' (λ i. get_or next_out i 0)) (sym e) tell;
    }

    in_k : list_of places s ≡ Some k
    in_k = slot_list places s lt ∙ at

    had_slots : get_or next (length places + k) 0 ≢ length places + k
    had_slots f = empty_list (length places) (length places + 4096) (λ i. get_or next i 0) (λ i. get_or prev i 0) (list_of places) age (omega arith) L.rings k f s lt in_k

    abbrev tells_at : List ℕ → ℕ → Type 0
    tells_at words' j = (bit_of words' j ≡ 1) ↔ (get_or next_out (length places + j) 0 ≢ length places + j)

    pub head_in : length places + k < length next_out
    head_in = let e = L.nexts in let f = length-set next p q in let g = length-set (set next p q) s s in let h = k_few in omega arith

    pub word_in : k / 64 < length words
    word_in = let e = L.all_words in let h = k_few in omega arith

    -- the list has a slot still
    pub taken_out : (h : ℕ) → h ≡ get_or next_out (length places + k) h → h ≢ length places + k → AreLists (set places s None) next_out prev_out words age
    taken_out h h_is some = out_with words L.all_words (λ j l. ⊎_elim
        (λ e. let own : get_or next_out (length places + k) 0 ≢ length places + k = λ f. some (h_is ∙ (get_or_default next_out (length places + k) h 0 head_in ∙ f)) in
        subst (tells_at words) (sym e) (λ _. own, λ _. (L.told k k_few).1 had_slots))
        (λ n. subst (λ x. (bit_of words j ≡ 1) ↔ (x ≢ length places + j)) (sym (out_other j l n)) (L.told j l))
        (cases_eq j k))

    -- it was the last slot of its list
    pub emptied : (h w : ℕ) → h ≡ get_or next_out (length places + k) h → h ≡ length places + k → w ≡ get_or words (k / 64) w
        → AreLists (set places s None) next_out prev_out (without_bit words k w) age
    emptied h w h_is none w_is = out_with (without_bit words k w) (length-set words (k / 64) _ ∙ L.all_words) (λ j l. ⊎_elim
        (λ e. let own : get_or next_out (length places + k) 0 ≡ length places + k = get_or_default next_out (length places + k) 0 h head_in ∙ (sym h_is ∙ none) in
        let bit = clear_same words k w word_in w_is in
        subst (tells_at (without_bit words k w)) (sym e) (λ b. absurd (omega arith), λ n. absurd (n own)))
        (λ n. subst (λ x. (bit_of (without_bit words k w) j ≡ 1) ↔ (x ≢ length places + j)) (sym (out_other j l n))
        (subst (λ b. (b ≡ 1) ↔ (get_or next (length places + j) 0 ≢ length places + j)) (sym (clear_other words k w word_in w_is j n)) (L.told j l)))
        (cases_eq j k))

  module _ (s k p w : ℕ) (free : slice_get places s ≡ Some None) (few : k < 4096) (p_is : p ≡ get_or prev (length places + k) p) (w_is : w ≡ get_or words (k / 64) w) where
    abbrev head : ℕ
    head = length places + k

    pub slot_in : s < length places
    slot_in = slice_get_within places s None free

    pub put_head : head < length prev
    put_head = let e = L.prevs in omega arith

    put_at : p ≡ get_or prev head 0
    put_at = p_is ∙ get_or_default prev head p 0 put_head

    pub put_within : p < length next
    put_within = let e = L.nexts in subst (λ x. x < length next) (sym put_at) (let f = L.rings.prev_within head (omega arith) in omega arith)

    abbrev next_put : List ℕ
    next_put = set (set next p s) s head

    abbrev prev_put : List ℕ
    prev_put = set (set prev s p) head s

    is_free : list_of places s ≡ None
    is_free = slot_list places s slot_in ∙ get_or_from_slice_get places s None None free

    last_other : p ≢ s
    last_other e = last_apart (length places) (length places + 4096) (λ i. get_or next i 0) (λ i. get_or prev i 0) (list_of places) age (omega arith) L.rings s k slot_in (omega arith) is_free (sym put_at ∙ e)

    puts_in : PutsIn s head k (λ i. get_or next i 0) (λ i. get_or prev i 0) (list_of places) (λ i. get_or next_put i 0) (λ i. get_or prev_put i 0) (list_of (set places s (Some k)))
    puts_in = let a = slot_in in let b = L.nexts in let c = L.prevs in let d = length-set next p s in let f = length-set prev s p in record {
      next_last = ap (λ x. get_or next_put x 0) (sym put_at) ∙ (get_or-set_other (set next p s) s p head 0 last_other ∙ get_or-set_same next p s 0 put_within);
      next_new = get_or-set_same (set next p s) s head 0 (omega arith);
      prev_new = get_or-set_other (set prev s p) head s s 0 (λ e. omega arith) ∙ (get_or-set_same prev s p 0 (omega arith) ∙ put_at);
      prev_head = get_or-set_same (set prev s p) head s 0 (omega arith);
      next_others = λ i n m. get_or-set_other (set next p s) s i head 0 n ∙ get_or-set_other next p i s 0 (λ e. m (e ∙ put_at));
      prev_others = λ i n m. get_or-set_other (set prev s p) head i s 0 m ∙ get_or-set_other prev s i p 0 n;
      list_new = new_list places s (Some k) slot_in;
      list_others = other_list places s (Some k);
    }

    abbrev pub put_age : ℕ → ℕ
    put_age = changed age s (suc (age (get_or prev head 0)))

    put_rings : AreRings (length places) (length places + 4096) (λ i. get_or next_put i 0) (λ i. get_or prev_put i 0) (list_of (set places s (Some k))) put_age
    put_rings = rings_put_in (length places) (length places + 4096) (λ i. get_or next i 0) (λ i. get_or prev i 0) (list_of places) age (omega arith) L.rings s k slot_in (omega arith) is_free
        (λ i. get_or next_put i 0) (λ i. get_or prev_put i 0) (list_of (set places s (Some k))) puts_in

    pub word_at : k / 64 < length words
    word_at = let e = L.all_words in omega arith

    last_list : list_of places (get_or prev head 0) ≡ Some k
    last_list = sym (L.rings.one_list (get_or prev head 0) (L.rings.prev_within head (omega arith))) ∙ (ap (list_of places) (L.rings.forth head (omega arith)) ∙ L.rings.head k)

    -- the head of the list isn't a ring alone now
    has_slots : get_or next_put head 0 ≢ head
    has_slots f = let a = slot_in in let b = put_rings.back head (omega arith) in
        let c : get_or prev_put head 0 ≡ head = ap (λ x. get_or prev_put x 0) (sym f) ∙ b in let d = puts_in.prev_head in omega arith

    put_other : (j : ℕ) → j < 4096 → j ≢ k → get_or next_put (length places + j) 0 ≡ get_or next (length places + j) 0
    put_other j l n = let a = slot_in in puts_in.next_others (length places + j) (λ e. omega arith)
        (λ e. n (same_Some j k (sym (L.rings.head j) ∙ (ap (list_of places) e ∙ last_list))))

    pub put_in : AreLists (set places s (Some k)) next_put prev_put (with_bit words k w) put_age
    put_in = let e = length-set places s (Some k) in record {
      few = let f = L.few in omega arith;
      listed = listed_after s (Some k) (λ j f. subst (λ x. x < 4096) (same_Some k j f) few);
      nexts = length-set (set next p s) s head ∙ (length-set next p s ∙ (L.nexts ∙ ap (λ x. x + 4096) (sym e)));
      prevs = length-set (set prev s p) head s ∙ (length-set prev s p ∙ (L.prevs ∙ ap (λ x. x + 4096) (sym e)));
      all_words = length-set words (k / 64) _ ∙ L.all_words;
      rings = subst (λ n. AreRings n (n + 4096) (λ i. get_or next_put i 0) (λ i. get_or prev_put i 0) (list_of (set places s (Some k))) put_age) (sym e) put_rings;
      told = subst (λ n. TellWhichHaveSlots n 4096 (with_bit words k w) (λ i. get_or next_put i 0)) (sym e) (λ j l. ⊎_elim
          (λ f. subst (λ x. (bit_of (with_bit words k w) x ≡ 1) ↔ (get_or next_put (length places + x) 0 ≢ length places + x)) (sym f)
          (λ _. has_slots, λ _. set_same words k w word_at w_is))
          (λ n. subst (λ x. (bit_of (with_bit words k w) j ≡ 1) ↔ (x ≢ length places + j)) (sym (put_other j l n))
          (subst (λ b. (b ≡ 1) ↔ (get_or next (length places + j) 0 ≢ length places + j)) (sym (set_other words k w word_at w_is j n)) (L.told j l)))
          (cases_eq j k));
    }

-- at first each node is a ring alone, and no slot is in a list
module _ (n : ℕ) (few : n < 2 ^ 32) where
  abbrev own_ring : List ℕ
  own_ring = range_with_len 0 (n + 4096)

  first_next : (i : ℕ) → i < n + 4096 → get_or (range_with_len 0 (n + 4096)) i 0 ≡ i
  first_next i l = get_or-range_with_len 0 (n + 4096) i 0 l ∙ (omega arith)

  no_list : (i k : ℕ) → i < n → list_of (replicate n None) i ≢ Some k
  no_list i k l e = let m : length (replicate {A = Option ℕ} n None) ≡ n = length-replicate {A = Option ℕ} n None in
      none-some k (sym (get_or-replicate n i None None l) ∙ (sym (slot_list (replicate n None) i (omega arith)) ∙ e))

  pub no_lists : AreLists (replicate n None) (range_with_len 0 (n + 4096)) (range_with_len 0 (n + 4096)) (replicate 64 0) (λ _. 0)
  no_lists = let m : length (replicate {A = Option ℕ} n None) ≡ n = length-replicate {A = Option ℕ} n None in record {
    few = omega arith;
    listed = λ slot k e. absurd (none-some k (sym (get_or-replicate n slot None None (let w = slice_get_within (replicate n None) slot (Some k) e in omega arith)) ∙ get_or_from_slice_get (replicate n None) slot (Some k) None e));
    nexts = length-range_with_len 0 (n + 4096) ∙ ap (λ x. x + 4096) (sym m);
    prevs = length-range_with_len 0 (n + 4096) ∙ ap (λ x. x + 4096) (sym m);
    all_words = length-replicate {A = ℕ} 64 0;
    rings = subst (λ x. AreRings x (x + 4096) (λ i. get_or own_ring i 0) (λ i. get_or own_ring i 0) (list_of (replicate n None)) (λ _. 0)) (sym m) (record {
      next_within = λ i l. subst (λ x. x < n + 4096) (sym (first_next i l)) l;
      prev_within = λ i l. subst (λ x. x < n + 4096) (sym (first_next i l)) l;
      back = λ i l. ap (λ x. get_or own_ring x 0) (first_next i l) ∙ first_next i l;
      forth = λ i l. ap (λ x. get_or own_ring x 0) (first_next i l) ∙ first_next i l;
      one_list = λ i l. ap (list_of (replicate n None)) (first_next i l);
      head = λ k. subst (λ x. list_of (replicate n None) (x + k) ≡ Some k) m (head_of (replicate n None) k);
      alone = λ i l _. first_next i (omega arith);
      older = λ i k l e _. absurd (no_list i k l e);
    });
    told = subst (λ x. TellWhichHaveSlots x 4096 (replicate 64 0) (λ i. get_or own_ring i 0)) (sym m) (λ k l.
        (λ b. absurd (let z = bit_of_none k l in omega arith), λ d. absurd (d (first_next (n + k) (omega arith)))));
  }
