-- The table at its start, and the seats that are made and taken in.
use Rattle.std.proofs.Common.{◌≡◌, ◌≢◌, ◌⊎◌, ℕ, zero, suc, ◌+◌, ◌<◌, ◌≤◌, Bool, true, false, cond, List, [], ◌∷◌, ◌++◌, length, set, get_or, Some, None, Option, append-nil, refl, sym, ap, ◌∙◌, subst, inl, inr, ⊎_elim, arith, length-append, length-set, replicate}
use Rattle.std.proofs.lemmas.List.{length-map, length-replicate, nil_from_length}
use Rattle.std.proofs.lemmas.Bool.{ltb-true, ltb-false, le-ltb, lt-ltb}
use Rattle.std.specs.Prelude.{nat_lt}
use mathlib.Core.Option.{some, some-injective, some-ne-none}
use mathlib.Core.Logic.{dite}
use native.Mathlib.Decide.{ℕ_discrete, dec_le}
use lib.ListN.{get_elem?}
use Rattle.atomic_table.specs.Table.{State, Splits, Joins, opening, Final, Seen}
use Rattle.atomic_table.proofs.Lists.{at_set, set_here, set_else, at_longer, at_map}
use Rattle.histories.specs.declared.record.Recorded.{Recorded}
use Rattle.histories.specs.declared.record.LogItem.{LogItem}
use Rattle.turn_table.specs.declared.view.PassView.{PassView}
use Rattle.histories.specs.Records.{records, of, given}
use Rattle.turn_table.specs.Lists.{IsBeginning, list_at, longer_of}
use Rattle.turn_table.specs.Views.{first_view, view_after_deal, dealt_view, view_after_gather, spent_view, list_of}
use Rattle.turn_table.specs.Cells.{IsHome, IsGone, Knows, IsTurnTable}
use Rattle.turn_table.proofs.Lists.{at_below}
use Rattle.turn_table.proofs.Rule.{known_still, held_still, still_gone, alive_gone, one_fixed, none_some}

pub at_end : {A : Type 0} (l : List A) (a b : A) (j : ℕ) → get_elem? (l ++ a ∷ []) j ≡ some b → (get_elem? l j ≡ some b) ⊎ ((j ≡ length l) × (a ≡ b))
at_end [] a b zero e = inr (refl, some-injective a b e)
at_end [] a b (suc j) e = absurd (some-ne-none b (sym e))
at_end (x ∷ xs) a b zero e = inl e
at_end (x ∷ xs) a b (suc j) e = ⊎_elim (λ t. inl t) (λ (t : (j ≡ length xs) × (a ≡ b)). inr (ap suc t.0, t.1)) (at_end xs a b j e)

never_shorter : {A : Type 0} (n : ℕ) (x : List A) → x ≡ cond (nat_lt n 0) [] x
never_shorter n x = sym (ap (λ b. cond b [] x) (le-ltb n 0 (omega arith)))

or_empty : {A : Type 0} (l : List A) → l ≡ cond (nat_lt 0 (length l)) l []
or_empty [] = refl
or_empty (x ∷ xs) = sym (ap (λ b. cond b (x ∷ xs) []) (lt-ltb 0 (length (x ∷ xs)) (omega arith)))

list_at-longer_of : {A : Type 0} (xs ys : List (List A)) (k : ℕ) → list_at (longer_of xs ys) k ≡ cond (nat_lt (length (list_at xs k)) (length (list_at ys k))) (list_at ys k) (list_at xs k)
list_at-longer_of [] ys k = or_empty (list_at ys k)
list_at-longer_of (x ∷ xs) [] zero = never_shorter (length x) x
list_at-longer_of (x ∷ xs) [] (suc k) = never_shorter (length (list_at xs k)) (list_at xs k)
list_at-longer_of (x ∷ xs) (y ∷ ys) zero = refl
list_at-longer_of (x ∷ xs) (y ∷ ys) (suc k) = list_at-longer_of xs ys k

pub begins_length : {A : Type 0} (v h : List A) → IsBeginning v h → length v ≤ length h
begins_length v h b = let e : length v + length b.0 ≡ length h = sym (length-append v b.0) ∙ ap length b.1 in omega arith

pub begins_whole : {A : Type 0} (v h : List A) → IsBeginning v h → length h ≤ length v → v ≡ h
begins_whole {A} v h b l = let e : length v + length b.0 ≡ length h = sym (length-append v b.0) ∙ ap length b.1 in
    let none_left : b.0 ≡ [] = nil_from_length b.0 (omega arith) in
    sym (append-nil v) ∙ (ap (λ (r : List A). v ++ r) (sym none_left) ∙ b.1)

module _ {A : Type 0} (a b h : List A) where
  either_begins : IsBeginning a h → IsBeginning b h → (t : Bool) → IsBeginning (cond t b a) h
  either_begins p q true = q
  either_begins p q false = p

  best : IsBeginning a h → IsBeginning b h → (a ≡ h) ⊎ (b ≡ h) → (t : Bool) → nat_lt (length a) (length b) ≡ t → cond t b a ≡ h
  best p q known true is = ⊎_elim
      (λ (e : a ≡ h). let l = ltb-true (length a) (length b) is in let m = begins_length b h q in let n : length a ≡ length h = ap length e in absurd (omega arith))
      (λ e. e) known
  best p q known false is = ⊎_elim (λ e. e)
      (λ (e : b ≡ h). let l = ltb-false (length a) (length b) is in let n : length b ≡ length h = ap length e in begins_whole a h p (omega arith)) known

pub seen_best : {A : Type 0} (xs ys : List (List A)) (k : ℕ) (h : List A) → IsBeginning (list_at xs k) h → IsBeginning (list_at ys k) h → (list_at xs k ≡ h) ⊎ (list_at ys k ≡ h) → list_at (longer_of xs ys) k ≡ h
seen_best xs ys k h p q known = list_at-longer_of xs ys k ∙ best (list_at xs k) (list_at ys k) h p q known (nat_lt (length (list_at xs k)) (length (list_at ys k))) refl

pub seen_begins : {A : Type 0} (xs ys : List (List A)) (k : ℕ) (h : List A) → IsBeginning (list_at xs k) h → IsBeginning (list_at ys k) h → IsBeginning (list_at (longer_of xs ys) k) h
seen_begins {A} xs ys k h p q = subst (λ (z : List A). IsBeginning z h) (sym (list_at-longer_of xs ys k)) (either_begins (list_at xs k) (list_at ys k) h p q (nat_lt (length (list_at xs k)) (length (list_at ys k))))

module _ {C F R : Type 0} (N : Type 0) (top : ℕ) (stands : F → ℕ → C → List R → Type 0) where
  abbrev H : Type 0
  H = PassView F R N

  abbrev St : Type 0
  St = State (Option C) H

  abbrev Log : Type 0
  Log = List (Recorded R)

  abbrev Rule : F → St → Type 0
  Rule = IsTurnTable N top stands

  abbrev Gone : St → ℕ → Type 0
  Gone = IsGone N top stands

  abbrev Know : (ℕ → Log) → (ℕ → ℕ) → St → ℕ → H → Type 0
  Know = Knows N top stands

  zero_at : (n k : ℕ) → ◌≡◌ {A = ℕ} (get_or (replicate n 0) k 0) 0
  zero_at zero k = refl
  zero_at (suc n) zero = refl
  zero_at (suc n) (suc k) = zero_at n k

  pub opens : (fixed : F) (cells : List (Option C)) → ((k : ℕ) → k < length cells → (v : C) × (get_elem? cells k ≡ some (Some v)) × stands fixed k v [])
      → Rule fixed (opening (replicate (length cells + 1) 0) cells (first_view fixed 0 1))
  opens fixed cells each = record {
    hs = λ _. [];
    owner = λ _. 0;
    wide = length-replicate (length cells + 1) 0 ∙ ap (λ z. z + 1) (sym (length-map cells some));
    cells = λ k l. let t = each k (rw length-map at l) in inl record { value = t.0; at_home = at_map some cells k (Some t.0) t.1; right = t.2; short = omega arith; counts = inl (zero_at (length cells + 1) k) };
    views = one;
    held = λ k l o. let a = zero_at (length cells + 1) k in let b = o.counts in absurd (omega arith);
    nobody = λ _ _ _. refl;
    known = λ k. (0, first_view fixed 0 1, refl, refl, refl);
  }
    where
      one : (j : ℕ) (v : H) → get_elem? (first_view fixed 0 1 ∷ []) j ≡ some v → (f : F) → v.fixed ≡ Some f → (f ≡ fixed) × Know (λ _. []) (λ _. 0) (opening (replicate (length cells + 1) 0) cells (first_view fixed 0 1)) j v
      one zero v is f known = subst (λ (z : H). (f ≡ fixed) × Know (λ _. []) (λ _. 0) (opening (replicate (length cells + 1) 0) cells (first_view fixed 0 1)) 0 z) (some-injective (first_view fixed 0 1) v is) (
        one_fixed N top stands (first_view fixed 0 1) fixed f refl (ap (λ (z : H). z.fixed) (some-injective (first_view fixed 0 1) v is) ∙ known),
        record {
          number = refl;
          makes = λ _. (refl, refl);
          seen = λ k. ([], refl);
          own = λ k. refl;
          holding = λ k e. absurd (none_some N top stands k e);
          has = λ i l e. absurd (some-ne-none l (sym e));
        },
      )
      one (suc j) v is f known = absurd (some-ne-none v (sym is))

  -- what another pass knows stays, where a seat only changes what it makes, what it has seen and what it took in, and a seat may come
  others_stay : (s : St) (hs : ℕ → Log) (owner : ℕ → ℕ) (views : List H) (j : ℕ) (u : H)
      → (u.made ≢ 0 → length views ≡ length s.views) → ((i : ℕ) → Gone s i → IsGone N top stands (record { words = s.words; homes = s.homes; views = views }) i)
      → Know hs owner s j u → Know hs owner (record { words = s.words; homes = s.homes; views = views }) j u
  others_stay s hs owner views j u same gone k = record {
    number = k.number;
    makes = λ m. let t = k.makes m in (t.0, t.1 ∙ sym (same m));
    seen = k.seen;
    own = k.own;
    holding = k.holding;
    has = λ i l e. let t = k.has i l e in (gone (suc i) t.0, t.1);
  }

  pub splits : (fixed : F) (id : ℕ) (v : H) → v.fixed ≡ Some fixed → v.made ≢ 0 → Splits (Rule fixed) id v (view_after_deal v) (dealt_view v)
  splits fixed id v alive may s r here =
      let left : H = view_after_deal v in
      let right : H = dealt_view v in
      let views : List H = set s.views id left ++ right ∷ [] in
      let s' : St = record { words = s.words; homes = s.homes; views = views } in
      let my = (r.views id v here fixed alive).1 in
      let made : v.made ≡ length s.views = (my.makes may).1 in
      let size : length views ≡ length s.views + 1 = length-append (set s.views id left) (right ∷ []) ∙ ap (λ z. z + 1) (length-set s.views id left) in
      let gone : (i : ℕ) → Gone s i → Gone s' i = λ i t. let u = still_gone N top stands s id v left fixed s.words s.homes here alive i t in (u.1.0, at_longer (set s.views id left) (right ∷ []) i u.1.0 u.1.1, u.1.2) in record {
        hs = r.hs;
        owner = r.owner;
        wide = r.wide;
        cells = r.cells;
        views = λ j u is f known. ⊎_elim
            (λ (e : get_elem? (set s.views id left) j ≡ some u). ⊎_elim
            (λ (t : (j ≡ id) × (left ≡ u)). subst (λ (z : ℕ × H). (f ≡ fixed) × Know r.hs r.owner s' z.0 z.1) (λ x. (sym t.0 x, t.1 x)) (
              one_fixed N top stands v fixed f alive (ap (λ (z : H). z.fixed) t.1 ∙ known),
              record { number = my.number; makes = λ _. ((my.makes may).0, ap (λ z. z + 1) made ∙ sym size); seen = my.seen; own = my.own; holding = my.holding; has = λ i l e. let t = my.has i l e in (gone (suc i) t.0, t.1) },
            ))
            (λ (t : (j ≢ id) × (get_elem? s.views j ≡ some u)). let old = r.views j u t.1 f known in
            (old.0, others_stay s r.hs r.owner views j u (λ m. absurd (t.0 ((old.1.makes m).0 ∙ sym (my.makes may).0))) gone old.1))
            (at_set s.views id j left u e))
            (λ (t : (j ≡ length (set s.views id left)) × (right ≡ u)). let at_end : j ≡ length s.views = t.0 ∙ length-set s.views id left in
            subst (λ (z : H). (f ≡ fixed) × Know r.hs r.owner s' j z) t.1 (
              one_fixed N top stands v fixed f alive (ap (λ (z : H). z.fixed) t.1 ∙ known),
              record {
                number = made ∙ sym at_end;
                makes = λ m. absurd (m refl);
                seen = λ k. (r.hs k, refl);
                own = λ k. r.nobody j k (omega arith);
                holding = λ k e. absurd (none_some N top stands k e);
                has = λ i l e. absurd (some-ne-none l (sym e));
              },
            ))
            (at_end (set s.views id left) right u j is);
        held = λ k l o. let t = held_still N top stands fixed s.views id (r.owner k) k v left here alive (λ e. e) (r.held k l o) in (t.0, at_longer (set s.views id left) (right ∷ []) (r.owner k) t.0 t.1, t.2, t.3);
        nobody = λ j k l. r.nobody j k (omega arith);
        known = λ k. let t = known_still N top stands fixed s.views id k v left (r.hs k) here alive refl (r.known k) in (t.0, t.1, at_longer (set s.views id left) (right ∷ []) t.0 t.1 t.2, t.3, t.4);
      }

  pub joins : (fixed : F) (id : ℕ) (v : H) (other : ℕ) (w : H) → v.fixed ≡ Some fixed → w.fixed ≡ Some fixed → w.holds ≡ None → w.number ≡ length v.got + 1 → Joins (Rule fixed) id v other w (view_after_gather v w) spent_view
  joins fixed id v other w alive alive' free next s r here apart there =
      let both : H = view_after_gather v w in
      let there' : get_elem? s.views other ≡ some w = sym (set_else s.views id other both apart) ∙ there in
      let views1 : List H = set s.views id both in
      let views : List H = set views1 other spent_view in
      let s' : St = record { words = s.words; homes = s.homes; views = views } in
      let my = (r.views id v here fixed alive).1 in
      let their = (r.views other w there' fixed alive').1 in
      let size : length views ≡ length s.views = length-set views1 other spent_view ∙ length-set s.views id both in
      let id_there : get_elem? views id ≡ some both = set_else views1 other id spent_view (λ e. apart (sym e)) ∙ set_here s.views id both (at_below s.views id v here) in
      let gone : (i : ℕ) → Gone s i → Gone s' i = λ i t.
      let a = still_gone N top stands s id v both fixed s.words s.homes here alive i t in
      let b = still_gone N top stands s other w spent_view fixed s.words s.homes there' alive' i t in
      (a.1.0, set_else views1 other i spent_view b.0 ∙ a.1.1, a.1.2) in
      let last : other ≡ length v.got + 1 = sym their.number ∙ next in record {
        hs = r.hs;
        owner = r.owner;
        wide = r.wide;
        cells = r.cells;
        views = λ j u is f known. ⊎_elim
            (λ (t : (j ≡ other) × (spent_view ≡ u)). absurd (none_some_at f (ap (λ (z : H). z.fixed) t.1 ∙ known)))
            (λ (t : (j ≢ other) × (get_elem? views1 j ≡ some u)). ⊎_elim
            (λ (t : (j ≡ id) × (both ≡ u)). subst (λ (z : ℕ × H). (f ≡ fixed) × Know r.hs r.owner s' z.0 z.1) (λ x. (sym t.0 x, t.1 x)) (
              one_fixed N top stands v fixed f alive (ap (λ (z : H). z.fixed) t.1 ∙ known),
              record {
                number = my.number;
                makes = λ m. let t = my.makes m in (t.0, t.1 ∙ sym size);
                seen = λ k. seen_begins v.seen w.seen k (r.hs k) (my.seen k) (their.seen k);
                own = my.own;
                holding = λ k e. let t = my.holding k e in (t.0, t.1, seen_best v.seen w.seen k (r.hs k) (my.seen k) (their.seen k) (inl t.2), t.3);
                has = λ i l e. ⊎_elim
                    (λ (e : get_elem? v.got i ≡ some l). let t = my.has i l e in (gone (suc i) t.0, t.1))
                    (λ (t : (i ≡ length v.got) × (w.mine ≡ l)). let at_other : other ≡ suc i = let a = t.0 in omega arith in (
                      (spent_view, subst (λ (z : ℕ). get_elem? views z ≡ some spent_view) at_other (set_here views1 other spent_view (at_below views1 other w there)), refl),
                      λ k. subst (λ (z : ℕ × List (LogItem R N)). of z.0 (r.hs k) ≡ given k z.1) (λ x. (at_other x, t.1 x)) (their.own k),
                    ))
                    (at_end v.got w.mine l i e);
              },
            ))
            (λ (q : (j ≢ id) × (get_elem? s.views j ≡ some u)). let old = r.views j u q.1 f known in (old.0, others_stay s r.hs r.owner views j u (λ _. size) gone old.1))
            (at_set s.views id j both u t.1))
            (at_set views1 other j spent_view u is);
        held = λ k l o.
            let t = held_still N top stands fixed s.views id (r.owner k) k v both here alive (λ e. e) (r.held k l o) in
            let apart' : r.owner k ≢ other = λ e. none_some N top stands k (sym free ∙ (ap (λ (z : H). z.holds) (some-injective w t.0 (sym there ∙ subst (λ (z : ℕ). get_elem? views1 z ≡ some t.0) e t.1)) ∙ t.3)) in
            (t.0, set_else views1 other (r.owner k) spent_view apart' ∙ t.1, t.2, t.3);
        nobody = λ j k l. r.nobody j k (omega arith);
        known = λ k. let old = r.known k in dite (ℕ_discrete old.0 id)
            (λ e. let same : v ≡ old.1 = some-injective v old.1 (sym here ∙ subst (λ (z : ℕ). get_elem? s.views z ≡ some old.1) e old.2) in
            (id, both, id_there, alive, seen_best v.seen w.seen k (r.hs k) (my.seen k) (their.seen k) (inl (ap (λ (z : H). list_at z.seen k) same ∙ old.4))))
            (λ ne. dite (ℕ_discrete old.0 other)
            (λ e. let same : w ≡ old.1 = some-injective w old.1 (sym there' ∙ subst (λ (z : ℕ). get_elem? s.views z ≡ some old.1) e old.2) in
            (id, both, id_there, alive, seen_best v.seen w.seen k (r.hs k) (my.seen k) (their.seen k) (inr (ap (λ (z : H). list_at z.seen k) same ∙ old.4))))
            (λ ne'. (old.0, old.1, set_else views1 other old.0 spent_view ne' ∙ (set_else s.views id old.0 both ne ∙ old.2), old.3, old.4)));
      }
    where
      none_some_at : (f : F) → ¬ (None ≡ Some f)
      none_some_at f e = cc

  at_there : {A : Type 0} (xs : List (List A)) (i : ℕ) → i < length xs → get_elem? xs i ≡ some (list_at xs i)
  at_there [] i l = absurd (omega arith)
  at_there (x ∷ xs) zero l = refl
  at_there (x ∷ xs) (suc i) l = at_there xs i (omega arith)

  at_past : {A : Type 0} (xs : List (List A)) (i : ℕ) → length xs ≤ i → list_at xs i ≡ []
  at_past [] i l = refl
  at_past (x ∷ xs) zero l = absurd (omega arith)
  at_past (x ∷ xs) (suc i) l = at_past xs i (omega arith)

  module _ (fixed : F) (s : St) (r : Rule fixed s) (id : ℕ) (v : H) (here : get_elem? s.views id ≡ some v) (alive : v.fixed ≡ Some fixed) (may : v.made ≢ 0) (all : length v.got + 1 ≡ v.made) where
    mine : Know r.hs r.owner s id v
    mine = (r.views id v here fixed alive).1

    only : (j : ℕ) (u : H) → get_elem? s.views j ≡ some u → u.fixed ≡ Some fixed → v ≡ u
    only j u is known = dite (ℕ_discrete j id)
        (λ e. some-injective v u (sym here ∙ subst (λ (z : ℕ). get_elem? s.views z ≡ some u) e is))
        (λ ne. absurd (other j is ne))
      where
        other : (j : ℕ) → get_elem? s.views j ≡ some u → j ≢ id → ⊥
        other zero is ne = ne (sym (mine.makes may).0)
        other (suc i) is ne =
            let below : suc i < length s.views = at_below s.views (suc i) u is in
            let made : v.made ≡ length s.views = (mine.makes may).1 in
            let gone = (mine.has i (list_at v.got i) (at_there v.got i (omega arith))).0 in
            alive_gone N top stands u gone.0 fixed known gone.2 (some-injective u gone.0 (sym is ∙ gone.1))

    whole : (k : ℕ) → list_at v.seen k ≡ r.hs k
    whole k = let t = r.known k in ap (λ (z : H). list_at z.seen k) (only t.0 t.1 t.2 t.3) ∙ t.4

    lists : (w k : ℕ) → of w (r.hs k) ≡ given k (list_of v w)
    lists zero k = subst (λ (z : ℕ). of z (r.hs k) ≡ given k v.mine) (mine.makes may).0 (mine.own k)
    lists (suc i) k = dite (dec_le (length v.got) i)
        (λ past. let made : v.made ≡ length s.views = (mine.makes may).1 in r.nobody (suc i) k (omega arith) ∙ ap (given k) (sym (at_past v.got i past)))
        (λ not. (mine.has i (list_at v.got i) (at_there v.got i (omega arith))).1 k)

    at_home : v.holds ≡ None → (k : ℕ) → k < length s.homes → (y : C) × (get_elem? s.homes k ≡ some (some (Some y))) × stands fixed k y (records (r.hs k))
    at_home free k l = ⊎_elim
        (λ (t : IsHome N top stands fixed k (get_or s.words k 0) (get_elem? s.homes k) (r.hs k)). (t.value, t.at_home, t.right))
        (λ o. let t = r.held k l o in absurd (none_some N top stands k (sym free ∙ (ap (λ (z : H). z.holds) (only (r.owner k) t.0 t.1 t.2) ∙ t.3))))
        (r.cells k l)

  pub closes : (fixed : F) (id : ℕ) (v : H) (ws : List ℕ) (xs : List (Option C)) → v.fixed ≡ Some fixed → v.made ≢ 0 → length v.got + 1 ≡ v.made → v.holds ≡ None → Final (Seen (Rule fixed) id v) ws xs
      → ((k : ℕ) → k < length xs → (y : C) × (get_elem? xs k ≡ some (Some y)) × stands fixed k y (records (list_at v.seen k))) × ((w k : ℕ) → of w (list_at v.seen k) ≡ given k (list_of v w))
  closes fixed id v ws xs alive may all free f =
      let s : St = f.0 in
      let r : Rule fixed s = f.1.0 in
      let here = f.1.1 in (
        (λ k l. let t = at_home fixed s r id v here alive may all free k (rw f.3 l) in
            (t.0, f.4 k (Some t.0) t.1, subst (λ (z : Log). stands fixed k t.0 (records z)) (sym (whole fixed s r id v here alive may all k)) t.2)),
        (λ w k. ap (of w) (whole fixed s r id v here alive may all k) ∙ lists fixed s r id v here alive may all w k),
      )
