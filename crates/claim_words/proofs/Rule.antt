-- Each step keeps the rule.
use Rattle.std.proofs.Common.{◌≡◌, ◌≢◌, ◌⊎◌, ℕ, suc, ◌+◌, ◌*◌, ◌/◌, ◌<◌, ◌≤◌, eqb, max, cond, Option, Some, None, List, [], ◌∷◌, ◌++◌, length, set, get_or, refl, sym, ap, ◌∙◌, subst, inl, inr, ⊎_elim, arith, length-set, eq-eqb, ne_eqb, get_or-set_same, get_or-set_other}
use mathlib.Core.Option.{some, none, some-injective}
use mathlib.Core.Logic.{dite}
use native.Mathlib.Decide.{ℕ_discrete, dec_le}
use lib.Seq.{set-get_or}
use prog.Atomic.{either}
use lib.ListN.{get_elem?}
use Rattle.atomic_table.specs.Table.{Me, keeps, step, Allows}
use Rattle.atomic_table.proofs.Lists.{at_set, set_here, set_else, set_again}
use mathlib.Core.List.{IsPrefix}
use Rattle.claim_words.specs.Lists.{nth_list, with_nth_list}
use Rattle.claim_words.specs.declared.By.{By}
use Rattle.claim_words.specs.declared.ClaimEnd.{ClaimEnd}
use Rattle.claim_words.specs.declared.ClaimEnd.TheVariants.{Unknown}
use Rattle.claim_words.specs.declared.ClaimRecord.{ClaimRecord}
use Rattle.claim_words.specs.declared.ClaimRecord.TheVariants.{Opened, Claimed}
use Rattle.claim_words.specs.declared.view.SeatKind.{SeatKind}
use Rattle.claim_words.specs.declared.view.SeatKind.TheVariants.{Spent, Maker, Desk, Note}
use Rattle.claim_words.specs.declared.view.Clerk.{Clerk}
use Rattle.histories.specs.Records.{recorded}
use Rattle.claim_words.specs.Suspensions.{suspension, suspensions, opened, claimed, claim_end, after, IsAnswer, ClaimEntry, IsClaimHistory}
use Rattle.claim_words.specs.Words.{ways, code, end_by_word, word_of}
use Rattle.claim_words.specs.Claims.{author, made_by, of_slot, WordsState, IsTakenIn, ClerkKnows, IsSeenWhole, IsSlotWord, ClaimsKept, acted, HasClaimed, HasOpened, TellsOpened, TellsClaimed, TellsMissed, TellsNewest}
use Rattle.claim_words.proofs.Lists.{nth_list-with_nth_list_same, nth_list-with_nth_list_other, begins_all, begins_more, at_below}
use Rattle.claim_words.proofs.Items.{opened_length, claimed_length, suspensions_more, history_more, listed_own, listed_other, given_own, given_other, end_by_word_law, raised, exchanged, missed, unknown}

abbrev Log : Type 0
Log = List ClaimEntry

abbrev upd : (ℕ → Log) → ℕ → Log → ℕ → Log
upd f k a j = cond (eqb j k) a (f j)

upd_same : (f : ℕ → Log) (k : ℕ) (a : Log) → upd f k a k ≡ a
upd_same f k a = ap (λ b. cond b a (f k)) (eq-eqb k k refl)

upd_other : (f : ℕ → Log) (k : ℕ) (a : Log) (j : ℕ) → j ≢ k → upd f k a j ≡ f j
upd_other f k a j ne = ap (λ b. cond b a (f j)) (ne_eqb j k ne)

-- a rule for each history, at the one that grew and at the others
at_each : (P : ℕ → Log → Type 0) (hs : ℕ → Log) (k : ℕ) (h : Log) → P k h → ((i : ℕ) → i ≢ k → P i (hs i)) → (i : ℕ) → P i (upd hs k h i)
at_each P hs k h here else i = dite (ℕ_discrete i k)
    (λ e. subst (λ (z : ℕ). P z (upd hs k h z)) (sym e) (subst (P k) (sym (upd_same hs k h)) here))
    (λ ne. subst (P i) (sym (upd_other hs k h i ne)) (else i ne))

pub desk_gone : (v u : Clerk) → v.kind ≡ Desk → u.kind ≡ Spent → v ≡ u → ⊥
desk_gone v u a g e = let x : v.kind ≡ u.kind = ap (λ (z : Clerk). z.kind) e in let y : v.kind ≡ Desk = a in let z : u.kind ≡ Spent = g in cc

desk_maker : Desk ≡ Maker → ⊥
desk_maker e = cc

abbrev with_views : WordsState → List Clerk → WordsState
with_views s views = record { words = s.words; homes = s.homes; views = views }

-- where seat id is no spent one, another seat is gone after its step
pub still_gone : (s : WordsState) (id : ℕ) (v w : Clerk) → get_elem? s.views id ≡ some v → (v.kind ≡ Spent → ⊥) → (i : ℕ) → IsTakenIn s i → (i ≢ id) × (u : Clerk) × (get_elem? (set s.views id w) i ≡ some u) × (u.kind ≡ Spent)
still_gone s id v w here alive i gone =
    let apart : i ≢ id = λ e. alive (ap (λ (z : Clerk). z.kind) (some-injective v gone.0 (sym here ∙ subst (λ (z : ℕ). get_elem? s.views z ≡ some gone.0) e gone.1)) ∙ gone.2) in
    (apart, gone.0, set_else s.views id i w apart ∙ gone.1, gone.2)

pub desk_alive : (v : Clerk) → v.kind ≡ Desk → v.kind ≡ Spent → ⊥
desk_alive v a b = absurd (desk_gone v v a b refl)

module _ (top : ℕ) (key : ℕ × ℕ) (s : WordsState) (r : ClaimsKept top key s) (k n id last : ℕ) (v : Clerk) (e : ClaimEntry) where
  abbrev grown : ℕ → Log
  grown = upd r.hs k (r.hs k ++ e ∷ [])

  abbrev became : Clerk
  became = acted v last k (r.hs k) e

  abbrev later : WordsState
  later = record { words = set s.words k n; homes = s.homes; views = set s.views id became }

  -- a record that number m did not make is no record of its list
  same_list : (m : ℕ) (l : List (ℕ × ClaimEntry)) → author key.1 k e ≢ m → ((i : ℕ) → made_by key.1 m i (r.hs i) ≡ of_slot i l) → (i : ℕ) → made_by key.1 m i (grown i) ≡ of_slot i l
  same_list m l ne old = at_each (λ i h. made_by key.1 m i h ≡ of_slot i l) r.hs k (r.hs k ++ e ∷ []) (listed_other key.1 m k (r.hs k) e ne ∙ old k) (λ i _. old i)

  -- what was taken in stays
  same_got : (u : Clerk) (j : ℕ) → get_elem? s.views id ≡ some v → v.kind ≡ Desk → r.owner v.number ≡ id → author key.1 k e ≡ v.number → ClerkKnows key.1 key.0 r.made r.hs r.owner s j u
      → (i : ℕ) (l : List (ℕ × ClaimEntry)) → get_elem? u.got i ≡ some l → IsTakenIn later (r.owner (suc i)) × (suc i < r.made) × ((z : ℕ) → made_by key.1 (suc i) z (grown z) ≡ of_slot z l)
  same_got u j here is own by known i l at_i =
      let t = known.has i l at_i in
      let g = still_gone s id v became here (desk_alive v is) (r.owner (suc i)) t.0 in
      ((g.1, g.2, g.3), t.1, same_list (suc i) l (λ q. g.0 (ap r.owner (sym (sym by ∙ q)) ∙ own)) t.2)

  -- a step that is a record of seat id
  acts : get_elem? s.views id ≡ some v → v.kind ≡ Desk → k < key.0 → author key.1 k e ≡ v.number
      → n ≡ word_of (after (suspensions (r.hs k)) e.what) → IsAnswer (suspensions (r.hs k)) e.what → length (after (suspensions (r.hs k)) e.what) ≤ top
      → ((i : ℕ) → v.number ≡ key.1 + i → i < key.0 → (length (suspensions (grown i)) ≡ last) × (v.floor ≤ last) × (v.slot ≡ i))
      → (key.1 + k ≢ v.number → length (after (suspensions (r.hs k)) e.what) ≡ length (suspensions (r.hs k)))
      → ClaimsKept top key later
  acts here is inside by now legal short newest quiet =
      let h' : Log = r.hs k ++ e ∷ [] in
      let my = r.views id v here in
      let mine = my.right is in
      let wide = r.wide in record {
        hs = grown;
        owner = r.owner;
        made = r.made;
        wide = length-set s.words k n ∙ r.wide;
        words = λ i l. at_each (λ z h. z < key.0 → IsSlotWord top (get_or (set s.words k n) z 0) h) r.hs k h'
            (λ l. record {
              is = get_or-set_same s.words k n 0 (omega arith) ∙ (now ∙ ap word_of (sym (suspensions_more (r.hs k) e)));
              legal = history_more (r.hs k) e (r.words k inside).legal legal;
              short = subst (λ (z : List (Option By)). length z ≤ top) (sym (suspensions_more (r.hs k) e)) short;
            })
            (λ z ne l. let t = r.words z l in record { is = get_or-set_other s.words k z n 0 ne ∙ t.is; legal = t.legal; short = t.short }) i l;
        views = λ j u at_j. ⊎_elim
            (λ (t : (j ≡ id) × (became ≡ u)). subst (λ (z : ℕ × Clerk). ClerkKnows key.1 key.0 r.made grown r.owner later z.0 z.1) (λ x. (sym t.0 x, t.1 x)) record {
              right = λ _. (
                mine.0,
                mine.1,
                at_each (λ i h. made_by key.1 v.number i h ≡ of_slot i (v.mine ++ (k, e) ∷ [])) r.hs k h'
                    (listed_own key.1 v.number k (r.hs k) e by ∙ (ap (λ z. z ++ e ∷ []) (mine.2 k) ∙ sym (given_own k v.mine e)))
                    (λ i ne. mine.2 i ∙ sym (given_other i k v.mine e ne)),
              );
              newest = λ _ i is_i l. newest i is_i l;
              makes = λ m. absurd (desk_maker (sym is ∙ m));
              seen = at_each (λ i h. IsPrefix (nth_list (with_nth_list v.seen k h') i) h) r.hs k h' (subst (λ (z : Log). IsPrefix z h') (sym (nth_list-with_nth_list_same v.seen k h')) (begins_all h'))
                  (λ i ne. subst (λ (z : Log). IsPrefix z (r.hs i)) (sym (nth_list-with_nth_list_other v.seen i k h' ne)) (my.seen i));
              has = same_got v id here is mine.0 by my;
            })
            (λ (t : (j ≢ id) × (get_elem? s.views j ≡ some u)). let known = r.views j u t.1 in record {
              right = λ d. let old = known.right d in (old.0, old.1, same_list u.number u.mine (λ q. t.0 (sym old.0 ∙ (ap r.owner (sym q ∙ by) ∙ mine.0))) old.2);
              newest = λ d i is_i l. let old = known.newest d i is_i l in (
                at_each (λ z h. z ≡ i → length (suspensions h) ≡ u.last) r.hs k h'
                    (λ q. ap length (suspensions_more (r.hs k) e) ∙ (quiet (λ same. t.0 (sym (known.right d).0 ∙ (ap r.owner (is_i ∙ (ap (λ z. key.1 + z) (sym q) ∙ same)) ∙ mine.0))) ∙ (ap (λ z. length (suspensions (r.hs z))) q ∙ old.0)))
                    (λ z _ q. ap (λ y. length (suspensions (r.hs y))) q ∙ old.0) i refl,
                old.1,
                old.2,
              );
              makes = known.makes;
              seen = at_each (λ i h. IsPrefix (nth_list u.seen i) h) r.hs k h' (begins_more (nth_list u.seen k) (r.hs k) (e ∷ []) (known.seen k)) (λ i _. known.seen i);
              has = same_got u j here is mine.0 by known;
            })
            (at_set s.views id j became u at_j);
        nobody = λ m i l. at_each (λ z h. made_by key.1 m z h ≡ []) r.hs k h' (listed_other key.1 m k (r.hs k) e (λ q. let a : v.number ≡ m = sym by ∙ q in let b = mine.1 in omega arith) ∙ r.nobody m k l) (λ z _. r.nobody m z l) i;
        few = r.few;
        known = at_each (λ z h. (h ≡ []) ⊎ IsSeenWhole (set s.views id became) z h) r.hs k h'
            (inr (id, became, set_here s.views id became (at_below s.views id v here), is, nth_list-with_nth_list_same v.seen k h'))
            (λ z ne. ⊎_elim (λ (q : r.hs z ≡ []). inl q)
            (λ (t : IsSeenWhole s.views z (r.hs z)). inr (dite (ℕ_discrete t.0 id)
            (λ same. let v_is : v ≡ t.1 = some-injective v t.1 (sym here ∙ subst (λ (y : ℕ). get_elem? s.views y ≡ some t.1) same t.2) in
            (id, became, set_here s.views id became (at_below s.views id v here), is, nth_list-with_nth_list_other v.seen z k h' ne ∙ (ap (λ (y : Clerk). nth_list y.seen z) v_is ∙ t.4)))
            (λ apart. (t.0, t.1, set_else s.views id t.0 became apart ∙ t.2, t.3, t.4))))
            (r.known z));
      }

module _ (top : ℕ) (key : ℕ × ℕ) (slots id k : ℕ) (me : Me (Unit {0}) Clerk) where
  -- a claim, by a step that makes of a list's word the word of the list after it
  claims_allowed : (serial j : ℕ) (by : By) (f : ℕ → ℕ) (end : ℕ → ClaimEnd) → me.0.kind ≡ Desk → me.0.number ≡ j → k < key.0
      → ((xs : List (Option By)) → length xs ≤ top → (f (word_of xs) ≡ word_of (claimed xs serial by)) × (end (word_of xs) ≡ claim_end xs serial))
      → Allows (ClaimsKept top key) slots id me k f (λ r m'. HasClaimed k j serial by me.0 (end r) m'.0 × (m'.1 ≡ me.1))
  claims_allowed serial j by f end is number inside meets s r len here fits =
      let v : Clerk = me.0 in
      let h : Log = r.hs k in
      let w = r.words k inside in
      let t = meets (suspensions h) w.short in
      let right : end (get_or s.words k 0) ≡ claim_end (suspensions h) serial = ap end w.is ∙ t.1 in
      let e : ClaimEntry = recorded j (Claimed serial by (end (get_or s.words k 0))) in
      let my = r.views id v here in (
        acted v v.last k h e,
        keeps,
        tt,
        acts top key s r k (f (get_or s.words k 0)) id v.last v e here is inside (sym number) (ap f w.is ∙ t.0) right
            (let a = w.short in let b = claimed_length (suspensions h) serial by in omega arith)
            (λ i is_i l. let old = my.newest is i is_i l in (
              at_each (λ z g. z ≡ i → length (suspensions g) ≡ v.last) r.hs k (h ++ e ∷ [])
                  (λ q. ap length (suspensions_more h e) ∙ (claimed_length (suspensions h) serial by ∙ (ap (λ z. length (suspensions (r.hs z))) q ∙ old.0)))
                  (λ z _ q. ap (λ y. length (suspensions (r.hs y))) q ∙ old.0) i refl,
              old.1,
              old.2,
            ))
            (λ _. claimed_length (suspensions h) serial by),
        (record { history = h; begins = my.seen k; legal = w.legal; right = right; view = refl }, refl),
      )

  pub exchanges : (serial number j picked new : ℕ) (by way : By) → me.0.kind ≡ Desk → me.0.number ≡ number → k < key.0 → 0 < serial → j ≡ number → picked ≡ serial → way ≡ by → new ≡ ways * serial + code by
      → Allows (ClaimsKept top key) slots id me k (λ n. either (eqb n (ways * serial)) new n) (TellsClaimed j picked way (step slots k (ways * serial) new none) me)
  exchanges serial number j picked new by way is number_is inside some_serial a b c d =
      subst (λ (z : ℕ × By × ℕ). Allows (ClaimsKept top key) slots id me k (λ n. either (eqb n (ways * serial)) z.2 n) (TellsClaimed j z.0 z.1 (step slots k (ways * serial) z.2 none) me)) (λ i. (sym b i, sym c i, sym d i))
      (claims_allowed serial j by (λ n. either (eqb n (ways * serial)) (ways * serial + code by) n) (λ n. end_by_word n serial) is (number_is ∙ sym a) inside (λ xs _. (exchanged xs serial by some_serial, end_by_word_law xs serial)))

  pub misses : (serial number j picked : ℕ) (by way : By) → me.0.kind ≡ Desk → me.0.number ≡ number → k < key.0 → (serial ≤ top → serial ≡ 0) → j ≡ number → picked ≡ serial → way ≡ by
      → Allows (ClaimsKept top key) slots id me k (λ n. n) (TellsMissed j picked way (step slots k 0 0 none) me)
  misses serial number j picked by way is number_is inside late a b c =
      subst (λ (z : ℕ × By). Allows (ClaimsKept top key) slots id me k (λ n. n) (TellsMissed j z.0 z.1 (step slots k 0 0 none) me)) (λ i. (sym b i, sym c i))
      (claims_allowed serial j by (λ n. n) (λ _. Unknown) is (number_is ∙ sym a) inside (λ xs short. let t = far xs short in (ap word_of (sym (missed xs serial by t)), sym (unknown xs serial t))))
    where
      far : (xs : List (Option By)) → length xs ≤ top → (serial ≡ 0) ⊎ (length xs < serial)
      far xs short = dite (dec_le serial top) (λ l. inl (late l)) (λ not. inr (omega arith))

  pub opens : (last worker picked number : ℕ) → me.0.kind ≡ Desk → me.0.number ≡ key.1 + k → me.0.last ≡ last → k < key.0 → last < top → picked ≡ last → number ≡ worker
      → Allows (ClaimsKept top key) slots id me k (λ n. max n (ways * (last + 1))) (TellsOpened picked number (step slots k (ways * (last + 1)) 0 none) me)
  opens last worker picked number is desk last_is inside room a b =
      subst (λ (z : ℕ × ℕ). Allows (ClaimsKept top key) slots id me k (λ n. max n (ways * (last + 1))) (TellsOpened z.0 z.1 (step slots k (ways * (last + 1)) 0 none) me)) (λ i. (sym a i, sym b i)) one
    where
      one : Allows (ClaimsKept top key) slots id me k (λ n. max n (ways * (last + 1))) (TellsOpened last worker (step slots k (ways * (last + 1)) 0 none) me)
      one s r len here fits =
          let v : Clerk = me.0 in
          let h : Log = r.hs k in
          let w = r.words k inside in
          let my = r.views id v here in
          let old = my.newest is k desk inside in
          let now : length (suspensions h) ≡ last = old.0 ∙ last_is in
          let e : ClaimEntry = recorded worker (Opened (last + 1)) in (
            acted v (last + 1) k h e,
            keeps,
            tt,
            acts top key s r k (max (get_or s.words k 0) (ways * (last + 1))) id (last + 1) v e here is inside (sym desk)
                ((λ i. max (w.is i) (ways * (sym now i + 1))) ∙ raised (suspensions h))
                (ap (λ z. z + 1) (sym now))
                (let p = opened_length (suspensions h) in omega arith)
                (λ i is_i l. let same : k ≡ i = (let p = desk in omega arith) in (
                  subst (λ (z : ℕ). length (suspensions (upd r.hs k (h ++ e ∷ []) z)) ≡ last + 1) same (ap (λ z. length (suspensions z)) (upd_same r.hs k (h ++ e ∷ [])) ∙ (ap length (suspensions_more h e) ∙ (opened_length (suspensions h) ∙ ap (λ z. z + 1) now))),
                  (let p = old.1 in omega arith),
                  old.2 ∙ same,
                ))
                (λ ne. absurd (ne (sym desk))),
            (record { history = h; begins = my.seen k; legal = w.legal; right = now; view = refl }, refl),
          )

  -- a load that tells an Opener that it has opened what it was told of
  pub learns : me.0.kind ≡ Desk → me.0.number ≡ key.1 + k → k < key.0 → Allows (ClaimsKept top key) slots id me k (λ n. n) (TellsNewest (step slots k 0 0 none) me)
  learns is desk inside s r len here fits =
      let v : Clerk = me.0 in (
        v,
        keeps,
        tt,
        subst (λ (z : List ℕ × List Clerk). ClaimsKept top key record { words = z.0; homes = s.homes; views = z.1 }) (λ i. (sym (set-get_or s.words k 0) i, sym (set_again s.views id v here) i)) r,
        (refl, ((r.views id v here).newest is k desk inside).1),
      )
