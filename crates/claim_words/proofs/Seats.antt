-- The table at its start, and the seats that are made and taken in.
use Rattle.std.proofs.Common.{◌≡◌, ◌≢◌, ◌⊎◌, ℕ, zero, suc, ◌+◌, ◌-◌, ◌*◌, ◌<◌, ◌≤◌, eqb, max, true, false, true≢false, cond, Option, Some, None, List, [], ◌∷◌, ◌++◌, map, length, set, get_or, take, drop, replicate, refl, sym, ap, ◌∙◌, subst, inl, inr, ⊎_elim, arith, length-set, length-append, eq-eqb, ne_eqb, append_assoc, add-one}
use Rattle.std.proofs.lemmas.List.{length-map, length-replicate}
use mathlib.Core.Option.{some, some-injective, some-ne-none}
use mathlib.Core.Logic.{dite}
use native.Mathlib.Decide.{ℕ_discrete, dec_lt, dec_le}
use lib.ListN.{get_elem?}
use Rattle.atomic_table.specs.Table.{State, Splits, Joins, opening, Final, Seen}
use Rattle.atomic_table.specs.Seated.{TableId}
use Rattle.atomic_table.specs.declared.shared.Seat.{Seat}
use Rattle.atomic_table.proofs.Lists.{at_set, set_here, set_else, at_longer}
use mathlib.Core.List.{IsPrefix}
use Rattle.claim_words.specs.Lists.{nth_list, with_nth_list, longer_lists}
use Rattle.claim_words.specs.declared.By.{By}
use Rattle.claim_words.specs.declared.ClaimEnd.{ClaimEnd}
use Rattle.claim_words.specs.declared.ClaimEnd.TheVariants.{Won}
use Rattle.claim_words.specs.declared.ClaimRecord.{ClaimRecord}
use Rattle.claim_words.specs.declared.ClaimRecord.TheVariants.{Claimed}
use Rattle.claim_words.specs.declared.view.SeatKind.{SeatKind}
use Rattle.claim_words.specs.declared.view.SeatKind.TheVariants.{Spent, Maker, Desk, Note}
use Rattle.claim_words.specs.declared.view.Clerk.{Clerk}
use Rattle.histories.specs.Records.{recorded}
use Rattle.claim_words.specs.Suspensions.{suspensions, suspension, ClaimEntry, IsClaimHistory}
use Rattle.claim_words.specs.Words.{word_of}
use Rattle.claim_words.specs.Claims.{made_by, of_slot, WordsState, IsTakenIn, ClerkKnows, IsSeenWhole, IsSlotWord, ClaimsKept, spent_clerk, maker, desk, dealt, fresh_desk, note_of, joined_desks, met, IsDesk, AreNumbered, ClaimSeat, ClaimsClosed, HasClaimed}
use Rattle.claim_words.proofs.Lists.{begins_all, begins_more, at_below, at_end, at_there, at_past, seen_best, seen_begins, nil_ends, nth_list-with_nth_list_same}
use Rattle.claim_words.proofs.Items.{length_more, no_opens, nonempty, won_seen}
use Rattle.claim_words.proofs.Rule.{still_gone, desk_alive, desk_gone}

kinds : (a b : SeatKind) → Type 0
kinds a b = a ≡ b → ⊥

maker_desk : Maker ≡ Desk → ⊥
maker_desk e = cc

maker_spent : Maker ≡ Spent → ⊥
maker_spent e = cc

note_spent : Note ≡ Spent → ⊥
note_spent e = cc

note_desk : Note ≡ Desk → ⊥
note_desk e = cc

note_maker : Note ≡ Maker → ⊥
note_maker e = cc

spent_desk : Spent ≡ Desk → ⊥
spent_desk e = cc

spent_maker : Spent ≡ Maker → ⊥
spent_maker e = cc

desk_maker : Desk ≡ Maker → ⊥
desk_maker e = cc

begun_below : (v h : List ClaimEntry) → IsPrefix v h → length (suspensions v) ≤ length (suspensions h)
begun_below v h b = subst (λ (z : List ClaimEntry). length (suspensions v) ≤ length (suspensions z)) b.1 (length_more v b.0)

zero_at : (n k : ℕ) → ◌≡◌ {A = ℕ} (get_or (replicate n 0) k 0) 0
zero_at zero k = refl
zero_at (suc n) zero = refl
zero_at (suc n) (suc k) = zero_at n k

pub begins : (top : ℕ) (key : ℕ × ℕ) → ClaimsKept top key (opening (replicate key.0 0) [] (maker key.1 0))
begins top key = record {
  hs = λ _. [];
  owner = λ _. 0;
  made = 0;
  wide = length-replicate key.0 0;
  words = λ k l. record { is = zero_at key.0 k; legal = tt; short = omega arith };
  views = one;
  nobody = λ _ _ _. refl;
  few = omega arith;
  known = λ k. inl refl;
}
  where
    one : (j : ℕ) (v : Clerk) → get_elem? (maker key.1 0 ∷ []) j ≡ some v → ClerkKnows key.1 key.0 0 (λ _. []) (λ _. 0) (opening (replicate key.0 0) [] (maker key.1 0)) j v
    one zero v is = subst (λ (z : Clerk). ClerkKnows key.1 key.0 0 (λ _. []) (λ _. 0) (opening (replicate key.0 0) [] (maker key.1 0)) 0 z) (some-injective (maker key.1 0) v is) record {
      right = λ d. absurd (maker_desk d);
      newest = λ d. absurd (maker_desk d);
      makes = λ _. (refl, refl, refl);
      seen = λ k. ([], refl);
      has = λ i l e. absurd (some-ne-none l (sym e));
    }
    one (suc j) v is = absurd (some-ne-none v (sym is))

abbrev own_upd : (ℕ → ℕ) → ℕ → ℕ → ℕ → ℕ
own_upd f n a m = cond (eqb m n) a (f m)

own_same : (f : ℕ → ℕ) (n a : ℕ) → own_upd f n a n ≡ a
own_same f n a = ap (λ b. cond b a (f n)) (eq-eqb n n refl)

own_other : (f : ℕ → ℕ) (n a m : ℕ) → m ≢ n → own_upd f n a m ≡ f m
own_other f n a m ne = ap (λ b. cond b a (f m)) (ne_eqb m n ne)

module _ (top : ℕ) (key : ℕ × ℕ) where
  -- the maker makes the next number
  pub deals : (id m : ℕ) (v : Clerk) → v ≡ maker key.1 m → m < key.1 + key.0 → Splits (ClaimsKept top key) id v (dealt v) (fresh_desk v)
  deals id m v is room s r here =
      let kind : v.kind ≡ Maker = ap (λ (z : Clerk). z.kind) is in
      let left : Clerk = dealt v in
      let right : Clerk = fresh_desk v in
      let views : List Clerk = set s.views id left ++ right ∷ [] in
      let s' : WordsState = record { words = s.words; homes = s.homes; views = views } in
      let my = r.views id v here in
      let m_is : v.number ≡ r.made = (my.makes kind).1 in
      let slot_is : v.slot ≡ key.1 = (my.makes kind).2 in
      let number : v.number ≡ m = ap (λ (z : Clerk). z.number) is in
      let owner : ℕ → ℕ = own_upd r.owner r.made (length s.views) in
      let gone : (i : ℕ) → IsTakenIn s i → IsTakenIn s' i = λ i t. let u = still_gone s id v left here (λ z. maker_spent (sym kind ∙ z)) i t in (u.1, at_longer (set s.views id left) (right ∷ []) i u.1 u.2, u.3) in
      let keeps_owner : (n : ℕ) → n < r.made → owner n ≡ r.owner n = λ n l. own_other r.owner r.made (length s.views) n (λ e. omega arith) in
      let has_still : (u : Clerk) (j : ℕ) → ClerkKnows key.1 key.0 r.made r.hs r.owner s j u → (i : ℕ) (l : List (ℕ × ClaimEntry)) → get_elem? u.got i ≡ some l → IsTakenIn s' (owner (suc i)) × (suc i < r.made + 1) × ((k : ℕ) → made_by key.1 (suc i) k (r.hs k) ≡ of_slot k l) =
      λ u j known i l e. let t = known.has i l e in (subst (λ (z : ℕ). IsTakenIn s' z) (sym (keeps_owner (suc i) t.1)) (gone (r.owner (suc i)) t.0), (let a = t.1 in omega arith), t.2) in record {
        hs = r.hs;
        owner = owner;
        made = r.made + 1;
        wide = r.wide;
        words = r.words;
        views = λ j u at_j. ⊎_elim
            (λ (e : get_elem? (set s.views id left) j ≡ some u). ⊎_elim
            (λ (t : (j ≡ id) × (left ≡ u)). subst (λ (z : ℕ × Clerk). ClerkKnows key.1 key.0 (r.made + 1) r.hs owner s' z.0 z.1) (λ x. (sym t.0 x, t.1 x)) record {
              right = λ d. absurd (maker_desk (sym kind ∙ d));
              newest = λ d. absurd (maker_desk (sym kind ∙ d));
              makes = λ _. ((my.makes kind).0, ap (λ z. z + 1) m_is, slot_is);
              seen = my.seen;
              has = has_still v id my;
            })
            (λ (t : (j ≢ id) × (get_elem? s.views j ≡ some u)). let old = r.views j u t.1 in record {
              right = λ d. let o = old.right d in (keeps_owner u.number o.1 ∙ o.0, (let a = o.1 in omega arith), o.2);
              newest = old.newest;
              makes = λ e. absurd (t.0 ((old.makes e).0 ∙ sym (my.makes kind).0));
              seen = old.seen;
              has = has_still u j old;
            })
            (at_set s.views id j left u e))
            (λ (t : (j ≡ length (set s.views id left)) × (right ≡ u)). let end : j ≡ length s.views = t.0 ∙ length-set s.views id left in
            subst (λ (z : Clerk). ClerkKnows key.1 key.0 (r.made + 1) r.hs owner s' j z) t.1 record {
              right = λ _. (ap owner m_is ∙ (own_same r.owner r.made (length s.views) ∙ sym end), (let a = m_is in omega arith), λ k. r.nobody v.number k (let a = m_is in omega arith));
              newest = λ _ k n l. (new_latest k n l, omega arith, (let a = slot_is in omega arith));
              makes = λ e. absurd (desk_maker e);
              seen = λ k. (r.hs k, refl);
              has = λ i l e. absurd (some-ne-none l (sym e));
            })
            (at_end (set s.views id left) right u j at_j);
        nobody = λ n k l. r.nobody n k (omega arith);
        few = let a = m_is in let b = number in omega arith;
        known = λ k. ⊎_elim (λ (e : r.hs k ≡ []). inl e)
            (λ (t : IsSeenWhole s.views k (r.hs k)). inr (
              t.0,
              t.1,
              at_longer (set s.views id left) (right ∷ []) t.0 t.1 (set_else s.views id t.0 left (λ e. maker_desk (sym kind ∙ (ap (λ (z : Clerk). z.kind) (some-injective v t.1 (sym here ∙ subst (λ (y : ℕ). get_elem? s.views y ≡ some t.1) e t.2)) ∙ t.3))) ∙ t.2),
              t.3,
              t.4,
            ))
            (r.known k);
      }
    where
      new_latest : (k : ℕ) → v.number ≡ key.1 + k → k < key.0 → length (suspensions (r.hs k)) ≡ 0
      new_latest k n l = no_opens key.1 k [] (r.hs k) (r.nobody (key.1 + k) k (let a = ((r.views id v here).makes (ap (λ (z : Clerk). z.kind) is)).1 in let b = n in omega arith))

  -- a pass makes a note
  pub notes : (id : ℕ) (v : Clerk) → v.kind ≡ Desk → Splits (ClaimsKept top key) id v v (note_of v)
  notes id v kind s r here =
      let right : Clerk = note_of v in
      let views : List Clerk = set s.views id v ++ right ∷ [] in
      let s' : WordsState = record { words = s.words; homes = s.homes; views = views } in
      let my = r.views id v here in
      let gone : (i : ℕ) → IsTakenIn s i → IsTakenIn s' i = λ i t. let u = still_gone s id v v here (desk_alive v kind) i t in (u.1, at_longer (set s.views id v) (right ∷ []) i u.1 u.2, u.3) in
      let still : (u : Clerk) (j : ℕ) → ClerkKnows key.1 key.0 r.made r.hs r.owner s j u → ClerkKnows key.1 key.0 r.made r.hs r.owner s' j u =
      λ u j old. record { right = old.right; newest = old.newest; makes = old.makes; seen = old.seen; has = λ i l e. let t = old.has i l e in (gone (r.owner (suc i)) t.0, t.1, t.2) } in record {
        hs = r.hs;
        owner = r.owner;
        made = r.made;
        wide = r.wide;
        words = r.words;
        views = λ j u at_j. ⊎_elim
            (λ (e : get_elem? (set s.views id v) j ≡ some u). ⊎_elim
            (λ (t : (j ≡ id) × (v ≡ u)). subst (λ (z : ℕ × Clerk). ClerkKnows key.1 key.0 r.made r.hs r.owner s' z.0 z.1) (λ x. (sym t.0 x, t.1 x)) (still v id my))
            (λ (t : (j ≢ id) × (get_elem? s.views j ≡ some u)). still u j (r.views j u t.1))
            (at_set s.views id j v u e))
            (λ (t : (j ≡ length (set s.views id v)) × (right ≡ u)). subst (λ (z : Clerk). ClerkKnows key.1 key.0 r.made r.hs r.owner s' j z) t.1 record {
              right = λ d. absurd (note_desk d);
              newest = λ d. absurd (note_desk d);
              makes = λ d. absurd (note_maker d);
              seen = my.seen;
              has = λ i l e. absurd (some-ne-none l (sym e));
            })
            (at_end (set s.views id v) right u j at_j);
        nobody = r.nobody;
        few = r.few;
        known = λ k. ⊎_elim (λ (e : r.hs k ≡ []). inl e)
            (λ (t : IsSeenWhole s.views k (r.hs k)). inr (dite (ℕ_discrete t.0 id)
            (λ e. let v_is : v ≡ t.1 = some-injective v t.1 (sym here ∙ subst (λ (y : ℕ). get_elem? s.views y ≡ some t.1) e t.2) in
            (id, v, at_longer (set s.views id v) (right ∷ []) id v (set_here s.views id v (at_below s.views id v here)), kind, ap (λ (y : Clerk). nth_list y.seen k) v_is ∙ t.4))
            (λ ne. (t.0, t.1, at_longer (set s.views id v) (right ∷ []) t.0 t.1 (set_else s.views id t.0 v ne ∙ t.2), t.3, t.4))))
            (r.known k);
      }

  -- a pass or Opener takes another seat in, which has been no maker
  module _ (id other : ℕ) (v w both : Clerk) (s : WordsState) (r : ClaimsKept top key s) (here : get_elem? s.views id ≡ some v) (apart : other ≢ id) (there : get_elem? (set s.views id both) other ≡ some w) (kind : v.kind ≡ Desk) (alive : w.kind ≡ Spent → ⊥) where
    abbrev views1 : List Clerk
    views1 = set s.views id both

    abbrev views2 : List Clerk
    views2 = set views1 other spent_clerk

    abbrev later : WordsState
    later = record { words = s.words; homes = s.homes; views = views2 }

    was : get_elem? s.views other ≡ some w
    was = sym (set_else s.views id other both apart) ∙ there

    gone : (i : ℕ) → IsTakenIn s i → IsTakenIn later i
    gone i t = let a = still_gone s id v both here (desk_alive v kind) i t in let b = still_gone s other w spent_clerk was alive i t in (a.1, set_else views1 other i spent_clerk b.0 ∙ a.2, a.3)

    ended_there : IsTakenIn later other
    ended_there = (spent_clerk, set_here views1 other spent_clerk (at_below views1 other w there), refl)

    still : (u : Clerk) (j : ℕ) → ClerkKnows key.1 key.0 r.made r.hs r.owner s j u → ClerkKnows key.1 key.0 r.made r.hs r.owner later j u
    still u j old = record { right = old.right; newest = old.newest; makes = old.makes; seen = old.seen; has = λ i l e. let t = old.has i l e in (gone (r.owner (suc i)) t.0, t.1, t.2) }

    takes_in : both.kind ≡ Desk → both.seen ≡ longer_lists v.seen w.seen → ClerkKnows key.1 key.0 r.made r.hs r.owner later id both → ClaimsKept top key later
    takes_in kind' seen_is mine =
        let best_seen : (k : ℕ) → (nth_list v.seen k ≡ r.hs k) ⊎ (nth_list w.seen k ≡ r.hs k) → nth_list both.seen k ≡ r.hs k = λ k q. ap (λ z. nth_list z k) seen_is ∙ seen_best v.seen w.seen k (r.hs k) ((r.views id v here).seen k) ((r.views other w was).seen k) q in
        let id_there : get_elem? views2 id ≡ some both = set_else views1 other id spent_clerk (λ e. apart (sym e)) ∙ set_here s.views id both (at_below s.views id v here) in record {
          hs = r.hs;
          owner = r.owner;
          made = r.made;
          wide = r.wide;
          words = r.words;
          views = λ j u at_j. ⊎_elim
              (λ (t : (j ≡ other) × (spent_clerk ≡ u)). subst (λ (z : Clerk). ClerkKnows key.1 key.0 r.made r.hs r.owner later j z) t.1 record {
                right = λ d. absurd (spent_desk d);
                newest = λ d. absurd (spent_desk d);
                makes = λ d. absurd (spent_maker d);
                seen = λ k. (r.hs k, refl);
                has = λ i l e. absurd (some-ne-none l (sym e));
              })
              (λ (t : (j ≢ other) × (get_elem? views1 j ≡ some u)). ⊎_elim
              (λ (q : (j ≡ id) × (both ≡ u)). subst (λ (z : ℕ × Clerk). ClerkKnows key.1 key.0 r.made r.hs r.owner later z.0 z.1) (λ x. (sym q.0 x, q.1 x)) mine)
              (λ (q : (j ≢ id) × (get_elem? s.views j ≡ some u)). still u j (r.views j u q.1))
              (at_set s.views id j both u t.1))
              (at_set views1 other j spent_clerk u at_j);
          nobody = r.nobody;
          few = r.few;
          known = λ k. ⊎_elim (λ (e : r.hs k ≡ []). inl e)
              (λ (t : IsSeenWhole s.views k (r.hs k)). inr (dite (ℕ_discrete t.0 id)
              (λ e. let v_is : v ≡ t.1 = some-injective v t.1 (sym here ∙ subst (λ (y : ℕ). get_elem? s.views y ≡ some t.1) e t.2) in
              (id, both, id_there, kind', best_seen k (inl (ap (λ (y : Clerk). nth_list y.seen k) v_is ∙ t.4))))
              (λ ne. dite (ℕ_discrete t.0 other)
              (λ e. let w_is : w ≡ t.1 = some-injective w t.1 (sym was ∙ subst (λ (y : ℕ). get_elem? s.views y ≡ some t.1) e t.2) in
              (id, both, id_there, kind', best_seen k (inr (ap (λ (y : Clerk). nth_list y.seen k) w_is ∙ t.4))))
              (λ ne'. (t.0, t.1, set_else views1 other t.0 spent_clerk ne' ∙ (set_else s.views id t.0 both ne ∙ t.2), t.3, t.4)))))
              (r.known k);
        }

  -- an Opener takes in a note
  pub meets : (id : ℕ) (v : Clerk) (other : ℕ) (w : Clerk) → v.kind ≡ Desk → w.kind ≡ Note → Joins (ClaimsKept top key) id v other w (met v w) spent_clerk
  meets id v other w kind note s r here apart there =
      let alive : w.kind ≡ Spent → ⊥ = λ e. note_spent (sym note ∙ e) in
      let both : Clerk = met v w in
      let my = r.views id v here in
      let their = r.views other w (was id other v w both s r here apart there kind alive) in
      takes_in id other v w both s r here apart there kind alive kind refl record {
        right = my.right;
        newest = λ d k n l. let o = my.newest d k n l in (o.0, (let a = o.1 in let b = begun_below (nth_list w.seen k) (r.hs k) (their.seen k) in let c : length (suspensions (nth_list w.seen v.slot)) ≡ length (suspensions (nth_list w.seen k)) = ap (λ z. length (suspensions (nth_list w.seen z))) o.2 in let e = o.0 in omega arith), o.2);
        makes = my.makes;
        seen = λ k. seen_begins v.seen w.seen k (r.hs k) (my.seen k) (their.seen k);
        has = λ i l e. let t = my.has i l e in (gone id other v w both s r here apart there kind alive (r.owner (suc i)) t.0, t.1, t.2);
      }

  -- a pass takes in the next number
  pub joins : (id : ℕ) (v : Clerk) (other : ℕ) (w : Clerk) → v.kind ≡ Desk → w.kind ≡ Desk → w.number ≡ length v.got + 1 → Joins (ClaimsKept top key) id v other w (joined_desks v w) spent_clerk
  joins id v other w kind kind_w next s r here apart there =
      let alive : w.kind ≡ Spent → ⊥ = desk_alive w kind_w in
      let both : Clerk = joined_desks v w in
      let my = r.views id v here in
      let their = r.views other w (was id other v w both s r here apart there kind alive) in
      let theirs = their.right kind_w in
      takes_in id other v w both s r here apart there kind alive kind refl record {
        right = my.right;
        newest = my.newest;
        makes = my.makes;
        seen = λ k. seen_begins v.seen w.seen k (r.hs k) (my.seen k) (their.seen k);
        has = λ i l e. ⊎_elim
            (λ (e : get_elem? v.got i ≡ some l). let t = my.has i l e in (gone id other v w both s r here apart there kind alive (r.owner (suc i)) t.0, t.1, t.2))
            (λ (t : (i ≡ length v.got) × (w.mine ≡ l)). let same : w.number ≡ suc i = next ∙ (let a = t.0 in omega arith) in (
              subst (λ (z : ℕ). IsTakenIn (later id other v w both s r here apart there kind alive) z) (sym theirs.0 ∙ ap r.owner same) (ended_there id other v w both s r here apart there kind alive),
              (let a = theirs.1 in omega arith),
              λ k. subst (λ (z : ℕ × List (ℕ × ClaimEntry)). made_by key.1 z.0 k (r.hs k) ≡ of_slot k z.1) (λ x. (same x, t.1 x)) (theirs.2 k),
            ))
            (at_end v.got w.mine l i e);
      }

module _ (top : ℕ) (key : ℕ × ℕ) (s : WordsState) (r : ClaimsKept top key s) (id : ℕ) (v : Clerk) (here : get_elem? s.views id ≡ some v) (kind : v.kind ≡ Desk) (first : v.number ≡ 0) (all : length v.got + 1 ≡ key.1 + key.0) where
  mine : ClerkKnows key.1 key.0 r.made r.hs r.owner s id v
  mine = r.views id v here

  got_at : (n : ℕ) → suc n < r.made → IsTakenIn s (r.owner (suc n)) × (suc n < r.made) × ((k : ℕ) → made_by key.1 (suc n) k (r.hs k) ≡ of_slot k (nth_list v.got n))
  got_at n l = mine.has n (nth_list v.got n) (at_there v.got n (let a = r.few in omega arith))

  -- no other pass or Opener is left
  only : (j : ℕ) (u : Clerk) → get_elem? s.views j ≡ some u → u.kind ≡ Desk → v ≡ u
  only j u is d = named u.number refl
    where
      named : (n : ℕ) → u.number ≡ n → v ≡ u
      named zero e = some-injective v u (sym here ∙ subst (λ (z : ℕ). get_elem? s.views z ≡ some u) (sym (((r.views j u is).right d).0) ∙ (ap r.owner (e ∙ sym first) ∙ (mine.right kind).0)) is)
      named (suc n) e = let o = (r.views j u is).right d in let g = (got_at n (subst (λ (z : ℕ). z < r.made) e o.1)).0 in
          absurd (desk_gone u g.0 d g.2 (some-injective u g.0 (sym is ∙ subst (λ (z : ℕ). get_elem? s.views z ≡ some g.0) (ap r.owner (sym e) ∙ o.0) g.1)))

  whole : (k : ℕ) → nth_list v.seen k ≡ r.hs k
  whole k = ⊎_elim
      (λ (e : r.hs k ≡ []). empty (nth_list v.seen k) (subst (λ (z : List ClaimEntry). IsPrefix (nth_list v.seen k) z) e (mine.seen k)) ∙ sym e)
      (λ (t : IsSeenWhole s.views k (r.hs k)). ap (λ (z : Clerk). nth_list z.seen k) (only t.0 t.1 t.2 t.3) ∙ t.4)
      (r.known k)
    where
      empty : (xs : List ClaimEntry) → IsPrefix xs [] → xs ≡ []
      empty [] b = refl
      empty (x ∷ xs) b = absurd (nonempty b.1)

  lists : (n k : ℕ) → made_by key.1 n k (r.hs k) ≡ of_slot k (nth_list (v.mine ∷ v.got) n)
  lists zero k = subst (λ (z : ℕ). made_by key.1 z k (r.hs k) ≡ of_slot k v.mine) first ((mine.right kind).2 k)
  lists (suc n) k = dite (dec_lt (suc n) r.made)
      (λ l. (got_at n l).2 k)
      (λ not. dite (dec_lt n (length v.got))
      (λ l. (mine.has n (nth_list v.got n) (at_there v.got n l)).2 k)
      (λ past. r.nobody (suc n) k (omega arith) ∙ ap (of_slot k) (sym (at_past v.got n (omega arith)))))

pub closes : (top : ℕ) (key : ℕ × ℕ) (id : ℕ) (v : Clerk) (ws : List ℕ) (xs : List (Unit {0})) → v.kind ≡ Desk → v.number ≡ 0 → length v.got + 1 ≡ key.1 + key.0 → Final (Seen (ClaimsKept top key) id v) ws xs → ClaimsClosed key.1 key.0 v
closes top key id v ws xs kind first all f =
    let s : WordsState = f.0 in
    let r : ClaimsKept top key s = f.1.0 in
    let here = f.1.1 in record {
      legal = λ k l. subst (λ (z : List ClaimEntry). IsClaimHistory z) (sym (whole top key s r id v here kind first all k)) (r.words k l).legal;
      lists = λ n k. ap (made_by key.1 n k) (whole top key s r id v here kind first all k) ∙ lists top key s r id v here kind first all n k;
    }

-- who won a claim has seen it won
pub won_claimed : (k j s : ℕ) (by : By) (v : Clerk) (end : ClaimEnd) (w : Clerk) → HasClaimed k j s by v end w → (p : ℕ) → end ≡ Won p → suspension (suspensions (nth_list w.seen k)) s ≡ Some by
won_claimed k j s by v end w c p e =
    ap (λ (z : Clerk). suspension (suspensions (nth_list z.seen k)) s) c.view ∙ (ap (λ z. suspension (suspensions z) s) (nth_list-with_nth_list_same v.seen k (c.history ++ recorded j (Claimed s by end) ∷ [])) ∙ won_seen c.history j s p by end (sym e ∙ c.right))

module _ {A : Type 0} where
  pub one_more : (P : ℕ → A → Type 0) (ps : List A) (next : A) → ((i : ℕ) (p : A) → get_elem? ps i ≡ some p → P i p) → P (length ps) next → (i : ℕ) (p : A) → get_elem? (ps ++ next ∷ []) i ≡ some p → P i p
  one_more P ps next others mine i p is = ⊎_elim (others i p)
      (λ (t : (i ≡ length ps) × (next ≡ p)). subst (λ (z : ℕ × A). P z.0 z.1) (λ x. (sym t.0 x, t.1 x)) mine)
      (at_end ps next p i is)

  pub head_is : (ps : List A) (p : A) → 0 < length ps → p ≡ get_or ps 0 p → get_elem? ps 0 ≡ some p
  head_is [] p l e = absurd (omega arith)
  head_is (x ∷ xs) p l e = ap some (sym e)

  pub follow_rest : (f : A → ClaimSeat) (z : TableId) (from from' : ℕ) (ps ps' : List A) → 0 < length ps → from + 1 ≡ from' → ps' ≡ take 0 ps ++ drop 1 ps → AreNumbered f z from ps → AreNumbered f z from' ps'
  follow_rest f z from from' [] ps' l next same each i p is = absurd (omega arith)
  follow_rest f z from from' (x ∷ xs) ps' l next same each i p is = let t = each (suc i) p (subst (λ (y : List A). get_elem? y i ≡ some p) same is) in (t.0, t.1, t.2, t.3 ∙ (omega arith))

  abbrev own_lists : (A → ClaimSeat) → List A → List (List (ℕ × ClaimEntry))
  own_lists f ps = map (λ p. (f p).me.0.mine) ps

  pub own_next : (f : A → ClaimSeat) (got got' : List (List (ℕ × ClaimEntry))) (ps ps' : List A) (next : A) → 0 < length ps → next ≡ get_or ps 0 next → ps' ≡ take 0 ps ++ drop 1 ps → got' ≡ got ++ (f next).me.0.mine ∷ []
      → got' ++ own_lists f ps' ≡ got ++ own_lists f ps
  own_next f got got' [] ps' next l e same more = absurd (omega arith)
  own_next f got got' (x ∷ xs) ps' next l e same more = (λ i. more i ++ own_lists f (same i)) ∙ (append_assoc got ((f next).me.0.mine ∷ []) (own_lists f xs) ∙ ap (λ (z : A). got ++ (f z).me.0.mine ∷ own_lists f xs) e)

  pub own_all : (f : A → ClaimSeat) (got : List (List (ℕ × ClaimEntry))) (ps : List A) (all : List (List (ℕ × ClaimEntry))) → length ps ≡ 0 → got ++ own_lists f ps ≡ all → got ≡ all
  own_all f got [] all empty e = sym (nil_ends got) ∙ e
  own_all f got (x ∷ xs) all empty e = absurd (omega arith)

pub not_zero : (n : ℕ) → eqb n 0 ≡ false → 0 < n
not_zero zero e = absurd (true≢false e)
not_zero (suc n) e = omega arith

pub is_zero : (n : ℕ) → eqb n 0 ≡ true → n ≡ 0
is_zero n e = dite (ℕ_discrete n 0) (λ z. z) (λ ne. absurd (true≢false (sym e ∙ ne_eqb n 0 ne)))

pub begins_as : (top slots workers : ℕ) (ws : List ℕ) → ws ≡ replicate slots 0 → ClaimsKept top (slots, workers) (opening ws [] (maker workers 0))
begins_as top slots workers ws same = subst (λ (z : List ℕ). ClaimsKept top (slots, workers) (opening z [] (maker workers 0))) (sym same) (begins top (slots, workers))

module _ {A B : Type 0} (f : A → ClaimSeat) (g : B → ClaimSeat) where
  -- all own lists, in order
  pub own_whole : (ps ps' : List A) (os : List B) (first : A) (mine : List (ℕ × ClaimEntry)) (got1 got2 : List (List (ℕ × ClaimEntry))) → 0 < length ps → first ≡ get_or ps 0 first → ps' ≡ take 0 ps ++ drop 1 ps → (f first).me.0.got ≡ [] → mine ≡ (f first).me.0.mine
      → got1 ≡ (f first).me.0.got ++ own_lists f ps' → got2 ≡ got1 ++ own_lists g os → mine ∷ got2 ≡ own_lists f ps ++ own_lists g os
  own_whole [] ps' os first mine got1 got2 l e same empty m a b = absurd (omega arith)
  own_whole (x ∷ xs) ps' os first mine got1 got2 l e same empty m a b =
      λ i. (m ∙ ap (λ (z : A). (f z).me.0.mine) e) i ∷ (b ∙ ap (λ z. z ++ own_lists g os) (a ∙ (λ j. empty j ++ own_lists f (same j)))) i

pub got_count : {A : Type 0} (f : A → ClaimSeat) (got got1 : List (List (ℕ × ClaimEntry))) (ps : List A) → got1 ≡ got ++ own_lists f ps → length got1 ≡ length got + length ps
got_count f got got1 ps e = ap length e ∙ (length-append got (own_lists f ps) ∙ ap (λ n. length got + n) (length-map ps (λ p. (f p).me.0.mine)))

pub second_is : {A : Type 0} (ps rest : List A) (p : A) → 1 < length ps → rest ≡ take 0 ps ++ drop 1 ps → p ≡ get_or rest 0 p → get_elem? ps 1 ≡ some p
second_is [] rest p l same e = absurd (omega arith)
second_is (x ∷ []) rest p l same e = absurd (omega arith)
second_is (x ∷ y ∷ ys) rest p l same e = ap some (sym (e ∙ ap (λ z. get_or z 0 p) same))

-- what is dealt is new, and of these claims
pub new_opener : (z : TableId) (key : ℕ × ℕ) (workers slots k : ℕ) (seat : ClaimSeat) (slot last : ℕ) → key ≡ (slots, workers) → k < slots
    → (seat.table_id ≡ z) × (seat.me ≡ (desk (workers + k) k, [])) × (slot ≡ k) × (last ≡ 0)
    → (IsDesk z (key.1 + slot) seat × (slot < key.0)) × (slot ≡ k) × (last ≡ 0) × (seat.me.0 ≡ desk (key.1 + k) k)
new_opener z key workers slots k seat slot last is inside t =
    let w : key.1 ≡ workers = ap (λ (q : ℕ × ℕ). q.1) is in
    let n : key.0 ≡ slots = ap (λ (q : ℕ × ℕ). q.0) is in
    let s : slot ≡ k = t.2 in
    let number : seat.me.0.number ≡ workers + k = ap (λ m. m.0.number) t.1 in (
      ((t.0, ap (λ m. m.1) t.1, ap (λ m. m.0.kind) t.1, (omega arith)), (omega arith)),
      s,
      t.3,
      ap (λ m. m.0) t.1 ∙ ap (λ (q : ℕ). desk (q + k) k) (sym w),
    )

pub new_pass : (z : TableId) (i : ℕ) (seat : ClaimSeat) (number : ℕ) → (seat.table_id ≡ z) × (seat.me ≡ (desk i 0, [])) × (number ≡ i)
    → IsDesk z number seat × (number ≡ i) × (seat.me.0 ≡ desk i 0)
new_pass z i seat number t = ((t.0, ap (λ m. m.1) t.1, ap (λ m. m.0.kind) t.1, ap (λ m. m.0.number) t.1 ∙ sym t.2), t.2, ap (λ m. m.0) t.1)
