-- Each step keeps the rule.
use Rattle.std.proofs.Common.{◌≡◌, ◌≢◌, ◌⊎◌, ℕ, suc, ◌+◌, ◌*◌, ◌%◌, ◌^◌, ◌<◌, ◌≤◌, eqb, cond, List, [], ◌∷◌, ◌++◌, map, length, set, get_or, Some, None, Option, refl, sym, ap, ◌∙◌, append-nil, subst, inl, inr, ⊎_elim, arith, append_assoc, length-append, length-set, eq-eqb, ne_eqb, get_or-set_same, get_or-set_other, bit_or}
use Rattle.std.proofs.lemmas.List.{length-map}
use mathlib.Core.Option.{Option as Maybe, some, none, some-injective}
use mathlib.Core.Logic.{dite}
use native.Mathlib.Decide.{ℕ_discrete}
use lib.ListN.{get_elem?}
use Rattle.atomic_table.specs.Table.{State, Me, Act, keeps, takes, gives, step, stepped, rest, Allows, Valid, carried_after}
use Rattle.atomic_table.proofs.Lists.{at_set, set_here, set_else}
use Rattle.histories.specs.declared.record.Recorded.{Recorded}
use Rattle.histories.specs.declared.record.LogItem.{LogItem}
use Rattle.histories.specs.declared.record.LogItem.TheVariants.{Given, Noted}
use Rattle.turn_table.specs.declared.view.PassView.{PassView}
use Rattle.histories.specs.Records.{recorded, records, of, given}
use Rattle.turn_table.specs.Lists.{IsBeginning, list_at, list_put}
use Rattle.turn_table.specs.Views.{view_after_take, view_after_look, view_after_give, view_after_note}
use Rattle.turn_table.specs.Cells.{IsHome, IsOut, IsCell, IsGone, Knows, IsKnownWhole, IsHeld, IsTurnTable, most_turns}
use Rattle.turn_table.specs.Steps.{Took, TakeTells, GiveTells, NoteTells}
use Rattle.turn_table.proofs.Lists.{list_at-put_same, list_at-put_other, begins_all, at_below, of-own, of-other, records-own, given-own, given-other, given-notes, or_even, or_odd}
use Rattle.histories.proofs.Lists.{of_append, records_append, given_append}

module _ {C F R : Type 0} (N : Type 0) (top : ℕ) (stands : F → ℕ → C → List R → Type 0) where
  abbrev H : Type 0
  H = PassView F R N

  abbrev St : Type 0
  St = State (Option C) H

  abbrev Log : Type 0
  Log = List (Recorded R)

  abbrev Word : St → ℕ → ℕ
  Word s k = get_or s.words k 0

  abbrev Home : St → ℕ → Maybe (Maybe (Option C))
  Home s k = get_elem? s.homes k

  abbrev Rule : F → St → Type 0
  Rule = IsTurnTable N top stands

  abbrev Out : ℕ → Maybe (Maybe (Option C)) → Log → Type 0
  Out = IsOut N top stands

  abbrev Cell : F → ℕ → ℕ → Maybe (Maybe (Option C)) → Log → Type 0
  Cell = IsCell N top stands

  abbrev Gone : St → ℕ → Type 0
  Gone = IsGone N top stands

  abbrev Know : (ℕ → Log) → (ℕ → ℕ) → St → ℕ → H → Type 0
  Know = Knows N top stands

  pub alive_gone : (v u : H) (f : F) → v.fixed ≡ Some f → u.fixed ≡ None → v ≡ u → ⊥
  alive_gone v u f a g e = let x : v.fixed ≡ u.fixed = ap (λ (z : H). z.fixed) e in let y : v.fixed ≡ Some f = a in let z : u.fixed ≡ None = g in cc

  -- where seat id lives, another seat is gone in the table after its step
  pub still_gone : (s : St) (id : ℕ) (v w : H) (f : F) (words : List ℕ) (homes : List (Maybe (Option C))) → get_elem? s.views id ≡ some v → v.fixed ≡ Some f → (i : ℕ) → Gone s i
      → (i ≢ id) × Gone (record { words = words; homes = homes; views = set s.views id w }) i
  still_gone s id v w f words homes here alive i gone =
      let apart : i ≢ id = λ e. alive_gone v gone.0 f alive gone.2 (some-injective v gone.0 (sym here ∙ (subst (λ (z : ℕ). get_elem? s.views z ≡ some gone.0) e gone.1))) in
      (apart, (gone.0, set_else s.views id i w apart ∙ gone.1, gone.2))

  -- the table after a step of seat id on the word k
  abbrev after : St → ℕ → ℕ → ℕ → List (Maybe (Option C)) → H → St
  after s k n id homes w = record { words = set s.words k n; homes = homes; views = set s.views id w }

  -- what another pass knows, after a step of seat id that leaves alone the records of others
  others_know : (s : St) (k n id : ℕ) (homes : List (Maybe (Option C))) (v w : H) (f : F) (hs hs' : ℕ → Log) (owner owner' : ℕ → ℕ)
      → get_elem? s.views id ≡ some v → v.fixed ≡ Some f
      → length homes ≡ length s.homes
      → ((j : ℕ) → j ≢ k → get_elem? homes j ≡ Home s j)
      → ((j : ℕ) → j ≢ k → (hs' j ≡ hs j) × (owner' j ≡ owner j))
      → ((i : ℕ) → IsBeginning (hs i) (hs' i))
      → ((j i : ℕ) → j ≢ id → of j (hs' i) ≡ of j (hs i))
      → ((j : ℕ) → j ≢ id → owner k ≡ j → Out (Word s k) (Home s k) (hs k) → (owner' k ≡ j) × (hs' k ≡ hs k) × Out (Word (after s k n id homes w) k) (get_elem? homes k) (hs' k))
      → (j : ℕ) (u : H) → j ≢ id → Know hs owner s j u → Know hs' owner' (after s k n id homes w) j u
  others_know s k n id homes v w f hs hs' owner owner' here alive same_len homes_else else more of_else held j u apart known = record {
    number = known.number;
    makes = λ m. let t = known.makes m in (t.0, t.1 ∙ sym (length-set s.views id w));
    seen = λ i. let a = known.seen i in let b = more i in (a.0 ++ b.0, sym (append_assoc (list_at u.seen i) a.0 b.0) ∙ (ap (λ (l : Log). l ++ b.0) a.1 ∙ b.1));
    own = λ i. of_else j i apart ∙ known.own i;
    holding = λ i is. let old = known.holding i is in dite (ℕ_discrete i k)
        (λ e. let now = held j apart (subst (λ (z : ℕ). owner z ≡ j) e old.1) (subst (λ (z : ℕ). Out (Word s z) (Home s z) (hs z)) e old.3) in
        (subst (λ (z : ℕ). z < length homes) refl (rw same_len old.0), ap owner' e ∙ now.0, old.2 ∙ (ap hs e ∙ (sym now.1 ∙ ap hs' (sym e))), subst (λ (z : ℕ). Out (Word (after s k n id homes w) z) (get_elem? homes z) (hs' z)) (sym e) now.2))
        (λ ne. let t = else i ne in (
          rw same_len old.0,
          t.1 ∙ old.1,
          old.2 ∙ sym t.0,
          subst (λ (z : ℕ × Maybe (Maybe (Option C)) × Log). Out z.0 z.1 z.2) (λ x. (sym (get_or-set_other s.words k i n 0 ne) x, sym (homes_else i ne) x, sym t.0 x)) old.3,
        ));
    has = λ i l is. let old = known.has i l is in let t = still_gone s id v w f (set s.words k n) homes here alive (suc i) old.0 in (t.1, λ c. of_else (suc i) c t.0 ∙ old.1 c);
  }

  -- a cell that was held is held still
  pub held_still : (fixed : F) (vs : List H) (id j i : ℕ) (v w : H) → get_elem? vs id ≡ some v → w.fixed ≡ Some fixed → (v.holds ≡ Some i → w.holds ≡ Some i) → IsHeld N top stands fixed vs j i → IsHeld N top stands fixed (set vs id w) j i
  held_still fixed vs id j i v w here alive still old = dite (ℕ_discrete j id)
      (λ e. let is : v ≡ old.0 = some-injective v old.0 (sym here ∙ subst (λ (z : ℕ). get_elem? vs z ≡ some old.0) e old.1) in
      (w, subst (λ (z : ℕ). get_elem? (set vs id w) z ≡ some w) (sym e) (set_here vs id w (at_below vs id v here)), alive, still (ap (λ (z : H). z.holds) is ∙ old.3)))
      (λ apart. (old.0, set_else vs id j w apart ∙ old.1, old.2, old.3))

  -- a step of seat id on the word k keeps the rule
  moves : (fixed : F) (s : St) (r : Rule fixed s) (k n id : ℕ) (homes : List (Maybe (Option C))) (v w : H) (hs' : ℕ → Log) (owner' : ℕ → ℕ)
      → get_elem? s.views id ≡ some v → v.fixed ≡ Some fixed
      → length homes ≡ length s.homes
      → ((j : ℕ) → j ≢ k → get_elem? homes j ≡ Home s j)
      → ((j : ℕ) → j ≢ k → (hs' j ≡ r.hs j) × (owner' j ≡ r.owner j))
      → ((i : ℕ) → IsBeginning (r.hs i) (hs' i))
      → ((j i : ℕ) → j ≢ id → of j (hs' i) ≡ of j (r.hs i))
      → ((j : ℕ) → j ≢ id → r.owner k ≡ j → Out (Word s k) (Home s k) (r.hs k) → (owner' k ≡ j) × (hs' k ≡ r.hs k) × Out (Word (after s k n id homes w) k) (get_elem? homes k) (hs' k))
      → (k < length homes → Cell fixed k (Word (after s k n id homes w) k) (get_elem? homes k) (hs' k))
      → ((f : F) → w.fixed ≡ Some f → (f ≡ fixed) × Know hs' owner' (after s k n id homes w) id w)
      → w.fixed ≡ Some fixed
      → ((i : ℕ) → i ≢ k → list_at w.seen i ≡ list_at v.seen i)
      → IsKnownWhole N top stands fixed (set s.views id w) k (hs' k)
      → ((i : ℕ) → i ≢ k → v.holds ≡ Some i → w.holds ≡ Some i)
      → (k < length homes → Out (Word (after s k n id homes w) k) (get_elem? homes k) (hs' k) → IsHeld N top stands fixed (set s.views id w) (owner' k) k)
      → Rule fixed (after s k n id homes w)
  moves fixed s r k n id homes v w hs' owner' here alive same_len homes_else else more of_else held cell mine still seen_else known_k holds_else held_k =
      let s' : St = after s k n id homes w in
      let inside : id < length s.views = at_below s.views id v here in record {
        hs = hs';
        owner = owner';
        wide = length-set s.words k n ∙ (r.wide ∙ ap (λ z. z + 1) (sym same_len));
        cells = λ i l. dite (ℕ_discrete i k)
            (λ e. subst (λ (z : ℕ). Cell fixed z (Word s' z) (get_elem? homes z) (hs' z)) (sym e) (cell (subst (λ (z : ℕ). z < length homes) e l)))
            (λ ne. subst (λ (z : ℕ × Maybe (Maybe (Option C)) × Log). Cell fixed i z.0 z.1 z.2) (λ x. (sym (get_or-set_other s.words k i n 0 ne) x, sym (homes_else i ne) x, sym (else i ne).0 x)) (r.cells i (rw same_len at l)));
        views = λ j u is f known. ⊎_elim
            (λ (t : (j ≡ id) × (w ≡ u)). subst (λ (z : ℕ × H). (f ≡ fixed) × Know hs' owner' s' z.0 z.1) (λ x. (sym t.0 x, t.1 x)) (mine f (ap (λ (z : H). z.fixed) t.1 ∙ known)))
            (λ (t : (j ≢ id) × (get_elem? s.views j ≡ some u)). let old = r.views j u t.1 f known in
            (old.0, others_know s k n id homes v w fixed r.hs hs' r.owner owner' here alive same_len homes_else else more of_else held j u t.0 old.1))
            (at_set s.views id j w u is);
        held = λ i l o. dite (ℕ_discrete i k)
            (λ e. subst (λ (z : ℕ). IsHeld N top stands fixed (set s.views id w) (owner' z) z) (sym e) (held_k (subst (λ (z : ℕ). z < length homes) e l) (subst (λ (z : ℕ). Out (Word s' z) (get_elem? homes z) (hs' z)) e o)))
            (λ ne. let t = else i ne in
            let old = r.held i (rw same_len at l) (subst (λ (z : ℕ × Maybe (Maybe (Option C)) × Log). Out z.0 z.1 z.2) (λ x. (get_or-set_other s.words k i n 0 ne x, homes_else i ne x, t.0 x)) o) in
            subst (λ (z : ℕ). IsHeld N top stands fixed (set s.views id w) z i) (sym t.1) (held_still fixed s.views id (r.owner i) i v w here still (holds_else i ne) old));
        nobody = λ j i l. let l' : length s.views ≤ j = rw length-set at l in of_else j i (λ e. omega arith) ∙ r.nobody j i l';
        known = λ i. dite (ℕ_discrete i k)
            (λ e. subst (λ (z : ℕ). IsKnownWhole N top stands fixed (set s.views id w) z (hs' z)) (sym e) known_k)
            (λ ne. let old = r.known i in let t = else i ne in dite (ℕ_discrete old.0 id)
            (λ e. let same : v ≡ old.1 = some-injective v old.1 (sym here ∙ subst (λ (z : ℕ). get_elem? s.views z ≡ some old.1) e old.2) in
            (id, w, set_here s.views id w inside, still, seen_else i ne ∙ (ap (λ (z : H). list_at z.seen i) same ∙ (old.4 ∙ sym t.0))))
            (λ apart. (old.0, old.1, set_else s.views id old.0 w apart ∙ old.2, old.3, old.4 ∙ sym t.0)));
      }

  -- a pass that knew a whole history knows it still, where its own seen lists stay
  pub known_still : (fixed : F) (vs : List H) (id k : ℕ) (v w : H) (h : Log) → get_elem? vs id ≡ some v → w.fixed ≡ Some fixed → list_at w.seen k ≡ list_at v.seen k → IsKnownWhole N top stands fixed vs k h → IsKnownWhole N top stands fixed (set vs id w) k h
  known_still fixed vs id k v w h here alive same old = dite (ℕ_discrete old.0 id)
      (λ e. let is : v ≡ old.1 = some-injective v old.1 (sym here ∙ subst (λ (z : ℕ). get_elem? vs z ≡ some old.1) e old.2) in
      (id, w, set_here vs id w (at_below vs id v here), alive, same ∙ (ap (λ (z : H). list_at z.seen k) is ∙ old.4)))
      (λ apart. (old.0, old.1, set_else vs id old.0 w apart ∙ old.2, old.3, old.4))

  -- a step that changes no history, no home and no more of the view than its own list, in which no record is new
  rests : (fixed : F) (s : St) (r : Rule fixed s) (k n id : ℕ) (v : H) (m : List (LogItem R N)) (q : List (ℕ × ℕ))
      → get_elem? s.views id ≡ some v → v.fixed ≡ Some fixed → k < length s.words
      → (Out (Word s k) (Home s k) (r.hs k) → Out n (Home s k) (r.hs k))
      → (Out n (Home s k) (r.hs k) → Out (Word s k) (Home s k) (r.hs k))
      → (k < length s.homes → Cell fixed k n (Home s k) (r.hs k))
      → ((i : ℕ) → given i m ≡ given i v.mine)
      → Rule fixed (after s k n id s.homes (record v { mine = m; looks = q }))
  rests fixed s r k n id v m q here alive inside out back cell same =
      let w : H = record v { mine = m; looks = q } in
      let s' : St = after s k n id s.homes w in
      let now : Word s' k ≡ n = get_or-set_same s.words k n 0 inside in
      let out' : Out (Word s k) (Home s k) (r.hs k) → Out (Word s' k) (Home s k) (r.hs k) = λ o. subst (λ (z : ℕ). Out z (Home s k) (r.hs k)) (sym now) (out o) in
      let my = (r.views id v here fixed alive).1 in
      moves fixed s r k n id s.homes v w r.hs r.owner here alive refl (λ j _. refl) (λ j _. (refl, refl)) (λ i. begins_all (r.hs i)) (λ j i _. refl)
      (λ j _ own o. (own, refl, out' o))
      (λ l. subst (λ (z : ℕ). Cell fixed k z (Home s k) (r.hs k)) (sym now) (cell l))
      (λ f is. (
        some_fixed f is,
        record {
          number = my.number;
          makes = λ x. let t = my.makes x in (t.0, t.1 ∙ sym (length-set s.views id w));
          seen = my.seen;
          own = λ i. my.own i ∙ sym (same i);
          holding = λ i is. let old = my.holding i is in dite (ℕ_discrete i k)
              (λ e. (old.0, old.1, old.2, subst (λ (z : ℕ). Out (Word s' z) (Home s z) (r.hs z)) (sym e) (out' (subst (λ (z : ℕ). Out (Word s z) (Home s z) (r.hs z)) e old.3))))
              (λ ne. (old.0, old.1, old.2, subst (λ (z : ℕ). Out z (Home s i) (r.hs i)) (sym (get_or-set_other s.words k i n 0 ne)) old.3));
          has = λ i l is. let old = my.has i l is in ((still_gone s id v w fixed (set s.words k n) s.homes here alive (suc i) old.0).1, old.1);
        },
      ))
      alive (λ i _. refl) (known_still fixed s.views id k v w (r.hs k) here alive refl (r.known k)) (λ i _ e. e)
      (λ l o. held_still fixed s.views id (r.owner k) k v w here alive (λ e. e) (r.held k l (back (subst (λ (z : ℕ). Out z (Home s k) (r.hs k)) now o))))
    where
      some_fixed : (f : F) → v.fixed ≡ Some f → f ≡ fixed
      some_fixed f is = let a : v.fixed ≡ Some f = is in let b : v.fixed ≡ Some fixed = alive in cc

  abbrev upd : {A : Type 0} → (ℕ → A) → ℕ → A → ℕ → A
  upd f k a j = cond (eqb j k) a (f j)

  upd_same : {A : Type 0} (f : ℕ → A) (k : ℕ) (a : A) → upd f k a k ≡ a
  upd_same f k a = ap (λ b. cond b a (f k)) (eq-eqb k k refl)

  upd_other : {A : Type 0} (f : ℕ → A) (k : ℕ) (a : A) (j : ℕ) → j ≢ k → upd f k a j ≡ f j
  upd_other f k a j ne = ap (λ b. cond b a (f j)) (ne_eqb j k ne)

  pub one_fixed : (v : H) (fixed f : F) → v.fixed ≡ Some fixed → v.fixed ≡ Some f → f ≡ fixed
  one_fixed v fixed f alive is = cc

  pub home_out : (x : C) → ¬ (some (some (Some x)) ≡ some none)
  home_out x e = cc

  pub none_some : (k : ℕ) → ¬ (None ≡ Some k)
  none_some k e = cc

  pub one_some : (i k : ℕ) → Some k ≡ Some i → k ≡ i
  one_some i k e = cc

  -- a cell at home that had fewer than `top` turns is taken
  takes_it : (fixed : F) (s : St) (r : Rule fixed s) (k n id : ℕ) (v : H) (home : IsHome N top stands fixed k (Word s k) (Home s k) (r.hs k))
      → get_elem? s.views id ≡ some v → v.fixed ≡ Some fixed → v.holds ≡ None → k < length s.homes → length (r.hs k) < top → n ≡ 2 * length (r.hs k) + 1
      → Rule fixed (after s k n id (set s.homes k none) (view_after_take v k (r.hs k)))
  takes_it fixed s r k n id v home here alive free inside short count =
      let h : Log = r.hs k in
      let w : H = view_after_take v k h in
      let homes : List (Maybe (Option C)) = set s.homes k none in
      let s' : St = after s k n id homes w in
      let wide = r.wide in
      let now : Word s' k ≡ n = get_or-set_same s.words k n 0 (omega arith) in
      let my = (r.views id v here fixed alive).1 in
      let owner' : ℕ → ℕ = upd r.owner k id in
      let out : Out (Word s' k) (get_elem? homes k) h = record { away = set_here s.homes k none inside; short = short; counts = now ∙ count } in
      moves fixed s r k n id homes v w r.hs owner' here alive (length-set s.homes k none) (λ j ne. set_else s.homes k j none ne) (λ j ne. (refl, upd_other r.owner k id j ne)) (λ i. begins_all (r.hs i)) (λ j i _. refl)
      (λ j _ own o. absurd (home_out home.value (sym home.at_home ∙ o.away)))
      (λ l. inr out)
      (λ f is. (
        one_fixed v fixed f alive is,
        record {
          number = my.number;
          makes = λ x. let t = my.makes x in (t.0, t.1 ∙ sym (length-set s.views id w));
          seen = λ i. dite (ℕ_discrete i k)
              (λ e. subst (λ (z : ℕ). IsBeginning (list_at (list_put v.seen k h) z) (r.hs z)) (sym e) (subst (λ (z : Log). IsBeginning z h) (sym (list_at-put_same v.seen k h)) (begins_all h)))
              (λ ne. subst (λ (z : Log). IsBeginning z (r.hs i)) (sym (list_at-put_other v.seen i k h ne)) (my.seen i));
          own = my.own;
          holding = λ i is.
              subst (λ (z : ℕ). (z < length homes) × (owner' z ≡ id) × (list_at (list_put v.seen k h) z ≡ r.hs z) × Out (Word s' z) (get_elem? homes z) (r.hs z)) (one_some i k is)
              (rw length-set inside, upd_same r.owner k id, list_at-put_same v.seen k h, out);
          has = λ i l is. let old = my.has i l is in ((still_gone s id v w fixed (set s.words k n) homes here alive (suc i) old.0).1, old.1);
        },
      ))
      alive (λ i ne. list_at-put_other v.seen i k h ne) (id, w, set_here s.views id w (at_below s.views id v here), alive, list_at-put_same v.seen k h)
      (λ i _ e. absurd (none_some i (sym free ∙ e)))
      (λ _ _. (w, subst (λ (z : ℕ). get_elem? (set s.views id w) z ≡ some w) (sym (upd_same r.owner k id)) (set_here s.views id w (at_below s.views id v here)), alive, refl))

  abbrev TakeGoes : F → ℕ → St → ℕ → ℕ → Me (Option C) H → Type 0
  TakeGoes fixed slots s k id me = (w : H) × (a : Act (Option C)) × Valid s.homes me.1 a × Rule fixed (stepped s k (bit_or (Word s k) 1) id me.1 w a)
      × TakeTells N top stands (step slots k 1 0 none) me (Word s k) (w, carried_after me.1 a)

  take_stays : (fixed : F) (slots : ℕ) (s : St) (r : Rule fixed s) (k id : ℕ) (me : Me (Option C) H) → get_elem? s.views id ≡ some me.0 → me.0.fixed ≡ Some fixed → k < length s.homes
      → (Out (Word s k) (Home s k) (r.hs k) → Out (bit_or (Word s k) 1) (Home s k) (r.hs k)) → (Out (bit_or (Word s k) 1) (Home s k) (r.hs k) → Out (Word s k) (Home s k) (r.hs k)) → Cell fixed k (bit_or (Word s k) 1) (Home s k) (r.hs k) → ((Word s k % 2 ≡ 1) ⊎ (2 * top ≤ Word s k))
      → TakeGoes fixed slots s k id me
  take_stays fixed slots s r k id me here alive inside out back cell why = (
    view_after_look me.0 k (Word s k),
    keeps,
    tt,
    (let wide = r.wide in rests fixed s r k (bit_or (Word s k) 1) id me.0 me.0.mine (me.0.looks ++ (k, Word s k) ∷ []) here alive (omega arith) out back (λ _. cell) (λ _. refl)),
    ((λ even less. absurd (⊎_elim (λ (odd : Word s k % 2 ≡ 1). omega arith) (λ (past : 2 * top ≤ Word s k). omega arith) why)), λ _. refl),
  )

  take_home : (fixed : F) (slots : ℕ) (s : St) (r : Rule fixed s) (k id : ℕ) (me : Me (Option C) H) → get_elem? s.views id ≡ some me.0 → me.0.fixed ≡ Some fixed → me.0.holds ≡ None → k < length s.homes
      → IsHome N top stands fixed k (Word s k) (Home s k) (r.hs k) → TakeGoes fixed slots s k id me
  take_home fixed slots s r k id me here alive free inside home = let m : ℕ = length (r.hs k) in let n : ℕ = Word s k in ⊎_elim
      (λ (even : n ≡ 2 * m). let up : bit_or n 1 ≡ n + 1 = or_even n m even in dite (ℕ_discrete m top)
      (λ full. take_stays fixed slots s r k id me here alive inside (λ o. let c = o.short in absurd (omega arith)) (λ o. absurd (home_out home.value (sym home.at_home ∙ o.away)))
      (inl record { value = home.value; at_home = home.at_home; right = home.right; short = home.short; counts = inr (omega arith, full) }) (inr (omega arith)))
      (λ other. let short : m ≤ top = home.short in let less : m < top = omega arith in (
        view_after_take me.0 k (r.hs k),
        takes k (Some home.value),
        home.at_home,
        takes_it fixed s r k (bit_or n 1) id me.0 home here alive free inside less (omega arith),
        (
          (λ _ _. record { value = home.value; history = r.hs k; fixed = fixed; fixed_is = alive; count = even; short = less; begins = (r.views id me.0 here fixed alive).1.seen k; right = home.right; view = refl; carried = refl }),
          (λ t. absurd (⊎_elim (λ (odd : n % 2 ≡ 1). omega arith) (λ (past : 2 * top ≤ n). omega arith) t)),
        ),
      )))
      (λ (ended : (n ≡ 2 * m + 1) × (m ≡ top)). let same : bit_or n 1 ≡ n = or_odd n m ended.0 in
      take_stays fixed slots s r k id me here alive inside (λ o. let c = o.short in let d = ended.1 in absurd (omega arith)) (λ o. absurd (home_out home.value (sym home.at_home ∙ o.away)))
      (inl record { value = home.value; at_home = home.at_home; right = home.right; short = home.short; counts = inr (same ∙ ended.0, ended.1) }) (inl (let d = ended.0 in omega arith)))
      home.counts

  take_out : (fixed : F) (slots : ℕ) (s : St) (r : Rule fixed s) (k id : ℕ) (me : Me (Option C) H) → get_elem? s.views id ≡ some me.0 → me.0.fixed ≡ Some fixed → me.0.holds ≡ None → k < length s.homes
      → Out (Word s k) (Home s k) (r.hs k) → TakeGoes fixed slots s k id me
  take_out fixed slots s r k id me here alive free inside o = let m : ℕ = length (r.hs k) in let n : ℕ = Word s k in let is : n ≡ 2 * m + 1 = o.counts in let same : bit_or n 1 ≡ n = or_odd n m is in
      let out : Out (bit_or n 1) (Home s k) (r.hs k) = record { away = o.away; short = o.short; counts = same ∙ is } in
      take_stays fixed slots s r k id me here alive inside (λ _. out) (λ _. o) (inr out) (inl (omega arith))

  pub takes_allowed : (fixed : F) (slots id k : ℕ) (me : Me (Option C) H) → me.0.fixed ≡ Some fixed → me.0.holds ≡ None → k < slots
      → Allows (Rule fixed) slots id me k (λ n. bit_or n 1) (TakeTells N top stands (step slots k 1 0 none) me)
  takes_allowed fixed slots id k me alive free below s r len here fits = ⊎_elim
      (take_home fixed slots s r k id me here alive free (omega arith)) (take_out fixed slots s r k id me here alive free (omega arith)) (r.cells k (omega arith))

  -- the history of cell k, after a give of number id
  abbrev longer : (ℕ → Log) → ℕ → ℕ → List R → ℕ → Log
  longer hs k id rs = upd hs k (hs k ++ map (recorded id) rs)

  longer_begins : (hs : ℕ → Log) (k id : ℕ) (rs : List R) (i : ℕ) → IsBeginning (hs i) (longer hs k id rs i)
  longer_begins hs k id rs i = dite (ℕ_discrete i k)
      (λ e. subst (λ (z : ℕ). IsBeginning (hs z) (longer hs k id rs z)) (sym e) (map (recorded id) rs, sym (upd_same hs k (hs k ++ map (recorded id) rs))))
      (λ ne. subst (λ (z : Log). IsBeginning (hs i) z) (sym (upd_other hs k (hs k ++ map (recorded id) rs) i ne)) (begins_all (hs i)))

  longer_other : (hs : ℕ → Log) (k id : ℕ) (rs : List R) (j i : ℕ) → j ≢ id → of j (longer hs k id rs i) ≡ of j (hs i)
  longer_other hs k id rs j i apart = dite (ℕ_discrete i k)
      (λ e. subst (λ (z : ℕ). of j (longer hs k id rs z) ≡ of j (hs z)) (sym e)
      (ap (of j) (upd_same hs k (hs k ++ map (recorded id) rs)) ∙ (of_append j (hs k) (map (recorded id) rs) ∙ (ap (λ (l : List R). of j (hs k) ++ l) (of-other j id rs (λ e. apart (sym e))) ∙ append-nil (of j (hs k))))))
      (λ ne. ap (of j) (upd_other hs k (hs k ++ map (recorded id) rs) i ne))

  longer_own : (hs : ℕ → Log) (k id : ℕ) (rs : List R) (mine : List (LogItem R N)) → ((i : ℕ) → of id (hs i) ≡ given i mine) → (i : ℕ) → of id (longer hs k id rs i) ≡ given i (mine ++ map (Given k) rs)
  longer_own hs k id rs mine own i = dite (ℕ_discrete i k)
      (λ e. subst (λ (z : ℕ). of id (longer hs k id rs z) ≡ given z (mine ++ map (Given k) rs)) (sym e)
      (ap (of id) (upd_same hs k (hs k ++ map (recorded id) rs)) ∙ (of_append id (hs k) (map (recorded id) rs) ∙ ((λ x. own k x ++ of-own id rs x) ∙ sym (given_append k mine (map (Given k) rs) ∙ ap (λ (l : List R). given k mine ++ l) (given-own N k rs))))))
      (λ ne. ap (of id) (upd_other hs k (hs k ++ map (recorded id) rs) i ne) ∙ (own i ∙ sym (given_append i mine (map (Given k) rs) ∙ (ap (λ (l : List R). given i mine ++ l) (given-other N i k rs (λ e. ne (sym e))) ∙ append-nil (given i mine)))))

  gives_it : (fixed : F) (s : St) (r : Rule fixed s) (k n id : ℕ) (v : H) (value : C) (x : R)
      → get_elem? s.views id ≡ some v → v.fixed ≡ Some fixed → v.holds ≡ Some k → n ≡ 2 * (length (r.hs k) + 1)
      → stands fixed k value (records (list_at v.seen k) ++ x ∷ [])
      → Rule fixed (after s k n id (set s.homes k (some (Some value))) (view_after_give v k x))
  gives_it fixed s r k n id v value x here alive holds count right =
      let rs : List R = x ∷ [] in
      let my = (r.views id v here fixed alive).1 in
      let has = my.holding k holds in
      let h : Log = r.hs k in
      let w : H = view_after_give v k x in
      let homes : List (Maybe (Option C)) = set s.homes k (some (Some value)) in
      let s' : St = after s k n id homes w in
      let hs' : ℕ → Log = longer r.hs k id rs in
      let wide = r.wide in
      let inside : k < length s.homes = has.0 in
      let short : length h < top = has.3.short in
      let now : Word s' k ≡ n = get_or-set_same s.words k n 0 (omega arith) in
      let is : hs' k ≡ h ++ map (recorded id) rs = upd_same r.hs k (h ++ map (recorded id) rs) in
      let size : length (hs' k) ≡ length h + 1 = ap length is ∙ (length-append h (map (recorded id) rs) ∙ ap (λ (z : ℕ). length h + z) (length-map rs (recorded id))) in
      let seen : list_at v.seen k ++ map (recorded v.number) rs ≡ hs' k = (λ x. has.2 x ++ map (recorded (my.number x)) rs) ∙ sym is in
      let words : records (list_at v.seen k) ++ rs ≡ records (hs' k) = sym (ap records is ∙ (records_append h (map (recorded id) rs) ∙ (λ x. records (sym has.2 x) ++ records-own id rs x))) in
      moves fixed s r k n id homes v w hs' r.owner here alive (length-set s.homes k (some (Some value))) (λ j ne. set_else s.homes k j (some (Some value)) ne)
      (λ j ne. (upd_other r.hs k (h ++ map (recorded id) rs) j ne, refl)) (longer_begins r.hs k id rs) (longer_other r.hs k id rs)
      (λ j apart own _. absurd (apart (sym own ∙ has.1)))
      (λ _. inl record {
        value = value;
        at_home = set_here s.homes k (some (Some value)) inside;
        right = subst (stands fixed k value) words right;
        short = omega arith;
        counts = inl (now ∙ (count ∙ ap (λ (z : ℕ). 2 * z) (sym size)));
      })
      (λ f is. (
        one_fixed v fixed f alive is,
        record {
          number = my.number;
          makes = λ x. let t = my.makes x in (t.0, t.1 ∙ sym (length-set s.views id w));
          seen = λ i. dite (ℕ_discrete i k)
              (λ e. subst (λ (z : ℕ). IsBeginning (list_at w.seen z) (hs' z)) (sym e) (subst (λ (z : Log). IsBeginning z (hs' k)) (sym (list_at-put_same v.seen k (list_at v.seen k ++ map (recorded v.number) rs) ∙ seen)) (begins_all (hs' k))))
              (λ ne. subst (λ (z : Log × Log). IsBeginning z.0 z.1) (λ x. (sym (list_at-put_other v.seen i k (list_at v.seen k ++ map (recorded v.number) rs) ne) x, sym (upd_other r.hs k (h ++ map (recorded id) rs) i ne) x)) (my.seen i));
          own = longer_own r.hs k id rs v.mine my.own;
          holding = λ i is. absurd (none_some i is);
          has = λ i l is. let old = my.has i l is in let t = still_gone s id v w fixed (set s.words k n) homes here alive (suc i) old.0 in (t.1, λ c. longer_other r.hs k id rs (suc i) c t.0 ∙ old.1 c);
        },
      ))
      alive (λ i ne. list_at-put_other v.seen i k (list_at v.seen k ++ map (recorded v.number) rs) ne) (id, w, set_here s.views id w (at_below s.views id v here), alive, list_at-put_same v.seen k (list_at v.seen k ++ map (recorded v.number) rs) ∙ seen)
      (λ i ne e. absurd (ne (one_some k i (sym e ∙ holds))))
      (λ _ o. absurd (home_out value (sym (set_here s.homes k (some (Some value)) inside) ∙ o.away)))

  pub gives_allowed : 2 * top + 1 < 18446744073709551616 → (fixed : F) (slots id k : ℕ) (v : H) (value : C) (told : R → Type 0) (c : List (ℕ × Option C))
      → c ≡ (k, Some value) ∷ [] → v.fixed ≡ Some fixed → v.holds ≡ Some k → ((x : R) × told x × stands fixed k value (records (list_at v.seen k) ++ x ∷ []))
      → Allows (Rule fixed) slots id (v, c) k (λ n. (n + 1) % 2 ^ 64) (GiveTells {C = C} told (step slots k 1 0 none) (v, c))
  gives_allowed room fixed slots id k v value told c is alive holds t =
      subst (λ (z : List (ℕ × Option C)). Allows (Rule fixed) slots id (v, z) k (λ n. (n + 1) % 2 ^ 64) (GiveTells {C = C} told (step slots k 1 0 none) (v, z))) (sym is)
      (λ s r len here fits.
      let out = ((r.views id v here fixed alive).1.holding k holds).3 in
      let short : length (r.hs k) < top = out.short in
      let counts : Word s k ≡ 2 * length (r.hs k) + 1 = out.counts in
      (view_after_give v k t.0, gives, tt, gives_it fixed s r k ((Word s k + 1) % 2 ^ 64) id v value t.0 here alive holds (omega arith) t.2, (t.0, t.1, refl, refl)))

  pub notes_allowed : (fixed : F) (slots id k : ℕ) (me : Me (Option C) H) (told : N → Type 0) → me.0.fixed ≡ Some fixed → slots ≡ k → ((x : N) × told x)
      → Allows (Rule fixed) slots id me k (λ n. n) (NoteTells {R = R} told (step slots k 0 0 none) me)
  notes_allowed fixed slots id k me told alive last t s r len here fits =
      let wide = r.wide in
      let ns : List N = t.0 ∷ [] in (
        view_after_note me.0 t.0,
        keeps,
        tt,
        rests fixed s r k (Word s k) id me.0 (me.0.mine ++ map Noted ns) me.0.looks here alive (omega arith) (λ o. o) (λ o. o) (λ l. absurd (omega arith))
            (λ i. given_append i me.0.mine (map Noted ns) ∙ (ap (λ (l : List R). given i me.0.mine ++ l) (given-notes N i ns) ∙ append-nil (given i me.0.mine))),
        (t.0, t.1, refl, refl),
      )

-- the pass saw the whole history of cell k, which begins with what it had seen, and the value stands for it. Nothing else changed
pub record Taken {C F R N : Type 0} (stands : F → ℕ → C → List R → Type 0) (f : F) (k : ℕ) (v w : PassView F R N) (value : C) : Type 0 where
  pub right : stands f k value (records (list_at w.seen k))
  pub begins : IsBeginning (list_at v.seen k) (list_at w.seen k)
  pub short : length (list_at w.seen k) < most_turns
  pub view : w ≡ view_after_take (record v { looks = w.looks }) k (list_at w.seen k)

module _ {C F R : Type 0} (N : Type 0) (stands : F → ℕ → C → List R → Type 0) where
  pub taken : (f : F) (k r : ℕ) (m m' : Me (Option C) (PassView F R N)) (last : PassView F R N) (result : Option C) (value : C) → Took N most_turns stands k m r m' → m.0.fixed ≡ Some f → m'.1 ≡ (k, result) ∷ rest m'.1 → result ≡ Some value → last ≡ m'.0
      → (last.holds ≡ Some k) × Taken stands f k m.0 last value
  taken f k r m m' last result value t alive out is same =
      let v : PassView F R N = m.0 in
      let view : last ≡ view_after_take v k t.history = same ∙ t.view in
      let seen : list_at last.seen k ≡ t.history = ap (λ (z : PassView F R N). list_at z.seen k) view ∙ list_at-put_same v.seen k t.history in
      let fixed : t.fixed ≡ f = one_fixed (sym t.fixed_is ∙ alive) in
      let got : t.value ≡ value = one_value (same_first k (Some t.value) result m.1 (rest m'.1) (sym t.carried ∙ out) ∙ is) in (
        ap (λ (z : PassView F R N). z.holds) view,
        record {
          right = subst (λ (z : F × C × List (Recorded R)). stands z.0 k z.1 (records z.2)) (λ x. (fixed x, got x, sym seen x)) t.right;
          begins = subst (λ (z : List (Recorded R)). IsBeginning (list_at v.seen k) z) (sym seen) t.begins;
          short = rw seen t.short;
          view = view ∙ (λ i. view_after_take (record v { looks = sym (ap (λ (z : PassView F R N). z.looks) view) i }) k (sym seen i));
        },
      )
    where
      one_fixed : {a b : F} → Some a ≡ Some b → a ≡ b
      one_fixed e = cc

      one_value : {a b : C} → Some a ≡ Some b → a ≡ b
      one_value e = cc

      same_first : (k : ℕ) (a b : Option C) (xs ys : List (ℕ × Option C)) → (k, a) ∷ xs ≡ (k, b) ∷ ys → a ≡ b
      same_first k a b xs ys e = let p : (k, a) ≡ (k, b) = cc in ap (λ (z : ℕ × Option C). z.1) p
