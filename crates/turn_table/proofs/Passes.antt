-- Lists of passes.
use Rattle.std.proofs.Common.{◌≡◌, ℕ, zero, suc, ◌+◌, ◌<◌, eqb, true, false, cond, List, [], ◌∷◌, ◌++◌, map, length, get_or, take, drop, Some, None, Option, refl, sym, ap, ◌∙◌, append_assoc, append-nil, subst, ⊎_elim, arith, replicate, add-one, ne_eqb, true≢false, add-zero}
use Rattle.std.proofs.lemmas.List.{length-map}
use mathlib.Core.Logic.{dite}
use native.Mathlib.Decide.{ℕ_discrete}
use mathlib.Core.Option.{some, some-injective, some-ne-none}
use lib.ListN.{get_elem?}
use Rattle.atomic_table.specs.Table.{Splits, Joins, opening, Final, Seen}
use Rattle.atomic_table.specs.Seated.{TableId}
use Rattle.atomic_table.specs.declared.shared.Seat.{Seat}
use Rattle.atomic_table.proofs.Lists.{at_map}
use Rattle.turn_table.specs.declared.turn.Turn.{Turn}
use Rattle.turn_table.specs.declared.view.PassView.{PassView}
use Rattle.histories.specs.declared.record.LogItem.{LogItem}
use Rattle.turn_table.specs.Views.{first_view, view_after_deal, dealt_view, view_after_gather, spent_view}
use Rattle.turn_table.specs.Cells.{IsTurnTable}
use Rattle.turn_table.specs.Passes.{IsPass, HoldsNone, AreNewPasses, AreAllPasses, GoesOn, IsSameSeat, TakesTurn, GivesBack, Notes, Follow, IsClosedTable, own_of}
use Rattle.turn_table.proofs.Lists.{at_below}
use Rattle.turn_table.proofs.Seats.{at_end, splits, joins, opens, closes}

pub head_is : {A : Type 0} (ps : List A) (p : A) → 0 < length ps → p ≡ get_or ps 0 p → get_elem? ps 0 ≡ some p
head_is [] p l e = absurd (omega arith)
head_is (x ∷ xs) p l e = ap some (sym e)

pub second_is : {A : Type 0} (ps rest : List A) (p : A) → 1 < length ps → rest ≡ take 0 ps ++ drop 1 ps → p ≡ get_or rest 0 p → get_elem? ps 1 ≡ some p
second_is [] rest p l same e = absurd (omega arith)
second_is (x ∷ []) rest p l same e = absurd (omega arith)
second_is (x ∷ y ∷ ys) rest p l same e = ap some (sym (e ∙ ap (λ z. get_or z 0 p) same))

module _ {C F R N : Type 0} where
  -- the passes that were made so far, but for the first
  abbrev pub Others : TableId → F → List (Seat (Option C) (PassView F R N)) → Type 0
  Others z f ps = (i : ℕ) (p : Seat (Option C) (PassView F R N)) → get_elem? ps i ≡ some p → IsPass z f p × HoldsNone p × (p.me.0 ≡ first_view f (i + 1) 0)

  pub one_more : (z : TableId) (f : F) (m : ℕ) (ps : List (Seat (Option C) (PassView F R N))) (next : Seat (Option C) (PassView F R N)) → next.table_id ≡ z → next.me ≡ (first_view f m 0, []) → length ps + 1 ≡ m → Others z f ps → Others z f (ps ++ next ∷ [])
  one_more z f m ps next table me count others i p is = ⊎_elim (others i p)
      (λ (t : (i ≡ length ps) × (next ≡ p)). subst (λ (q : Seat (Option C) (PassView F R N)). IsPass z f q × HoldsNone q × (q.me.0 ≡ first_view f (i + 1) 0)) t.1
      ((table, ap (λ y. y.0.fixed) me), (ap (λ y. y.1) me, ap (λ y. y.0.holds) me), ap (λ y. y.0) me ∙ ap (λ (n : ℕ). first_view f n 0) (let e = t.0 in omega arith)))
      (at_end ps next p i is)

  -- all passes of a new table
  pub all_new : (z : TableId) (f : F) (n : ℕ) (first : Seat (Option C) (PassView F R N)) (ps : List (Seat (Option C) (PassView F R N))) → IsPass z f first → HoldsNone first → first.me.0 ≡ first_view f 0 n → Others z f ps → length ps + 1 ≡ n → AreNewPasses z f n (first ∷ ps)
  all_new z f n first ps pass free view others count = (omega arith, each)
    where
      each : (i : ℕ) (p : Seat (Option C) (PassView F R N)) → get_elem? (first ∷ ps) i ≡ some p → IsPass z f p × HoldsNone p × (p.me.0 ≡ first_view f i (cond (eqb i 0) n 0))
      each zero p is = subst (λ (q : Seat (Option C) (PassView F R N)). IsPass z f q × HoldsNone q × (q.me.0 ≡ first_view f 0 n)) (some-injective first p is) (pass, free, view)
      each (suc i) p is = let t = others i p is in (t.0, t.1, t.2 ∙ (λ x. first_view f (add-one i x) (cond (sym (ne_eqb (suc i) 0 (λ e. omega arith)) x) n 0)))

  pub follow_rest : (z : TableId) (f : F) (from from' : ℕ) (ps ps' : List (Seat (Option C) (PassView F R N))) → 0 < length ps → from + 1 ≡ from' → ps' ≡ take 0 ps ++ drop 1 ps → Follow z f from ps → Follow z f from' ps'
  follow_rest z f from from' [] ps' l next same each i p is = absurd (omega arith)
  follow_rest z f from from' (x ∷ xs) ps' l next same each i p is = let t = each (suc i) p (subst (λ (z : List (Seat (Option C) (PassView F R N))). get_elem? z i ≡ some p) same is) in (t.0, t.1, t.2 ∙ (omega arith))

  pub all_new_in : (z : TableId) (key f : F) (n : ℕ) (first : Seat (Option C) (PassView F R N)) (ps all : List (Seat (Option C) (PassView F R N))) → IsPass z key first → HoldsNone first → first.me.0 ≡ first_view key 0 n → Others z key ps → length ps + 1 ≡ n
      → key ≡ f → all ≡ first ∷ ps → AreNewPasses z f n all
  all_new_in z key f n first ps all pass free view others count is same = subst (λ (l : List (Seat (Option C) (PassView F R N))). AreNewPasses z f n l) (sym same) (subst (λ (k : F). AreNewPasses z k n (first ∷ ps)) is (all_new z key n first ps pass free view others count))

pub not_zero : (n : ℕ) → eqb n 0 ≡ false → 0 < n
not_zero zero e = absurd (true≢false e)
not_zero (suc n) e = omega arith

pub is_zero : (n : ℕ) → eqb n 0 ≡ true → n ≡ 0
is_zero n e = dite (ℕ_discrete n 0) (λ z. z) (λ ne. absurd (true≢false (sym e ∙ ne_eqb n 0 ne)))

module _ {C F R : Type 0} (N : Type 0) (top : ℕ) (stands : F → ℕ → C → List R → Type 0) where
  pub splits_as : (fixed : F) (id m : ℕ) (v : PassView F R N) → v ≡ first_view fixed 0 m → 0 < m → Splits (IsTurnTable N top stands fixed) id v (view_after_deal v) (dealt_view v)
  splits_as fixed id m v is may = splits N top stands fixed id v (ap (λ (z : PassView F R N). z.fixed) is) (λ e. let a : v.made ≡ m = ap (λ (z : PassView F R N). z.made) is in omega arith)

  pub opens_as : (fixed : F) (words : List ℕ) (slots : List (Option C)) (cells : List C) → slots ≡ map Some cells → words ≡ replicate (length cells + 1) 0
      → ((k : ℕ) (v : C) → get_elem? cells k ≡ some v → stands fixed k v []) → IsTurnTable N top stands fixed (opening words slots (first_view fixed 0 1))
  opens_as fixed words slots cells same zeros each =
      let count : length slots ≡ length cells = ap length same ∙ length-map cells Some in
      subst (λ (z : List ℕ). IsTurnTable N top stands fixed (opening z slots (first_view fixed 0 1))) (sym (zeros ∙ ap (λ (n : ℕ). replicate (n + 1) 0) (sym count)))
      (opens N top stands fixed slots (λ k l. let t = there cells k (rw count at l) in (t.0, ap (λ (z : List (Option C)). get_elem? z k) same ∙ at_map Some cells k t.0 t.1, each k t.0 t.1)))
    where
      there : (xs : List C) (k : ℕ) → k < length xs → (v : C) × (get_elem? xs k ≡ some v)
      there [] k l = absurd (omega arith)
      there (x ∷ xs) zero l = (x, refl)
      there (x ∷ xs) (suc k) l = there xs k (omega arith)

  pub joins_as : (fixed : F) (id : ℕ) (v : PassView F R N) (other : ℕ) (w : PassView F R N) → v.fixed ≡ Some fixed → w.fixed ≡ Some fixed → w.holds ≡ None → w.number ≡ (length v.got + 1) + 0 → Joins (IsTurnTable N top stands fixed) id v other w (view_after_gather v w) spent_view
  joins_as fixed id v other w alive alive' free next = joins N top stands fixed id v other w alive alive' free (next ∙ add-zero (length v.got + 1))

pub get_there : {A : Type 0} (xs : List A) (n : ℕ) (a : A) → get_elem? xs n ≡ some a → take n xs ++ a ∷ [] ≡ take (n + 1) xs
get_there {A} xs n a e = subst (λ (m : ℕ). take n xs ++ a ∷ [] ≡ take m xs) (sym (add-one n)) (one xs n e)
  where
    one : (xs : List A) (n : ℕ) → get_elem? xs n ≡ some a → take n xs ++ a ∷ [] ≡ take (suc n) xs
    one [] n e = absurd (some-ne-none a (sym e))
    one (x ∷ xs) zero e = ap (λ (y : A). y ∷ []) (sym (some-injective x a e))
    one (x ∷ xs) (suc n) e = ap (λ (l : List A). x ∷ l) (one xs n e)

module _ {C F R : Type 0} (N : Type 0) (top : ℕ) (stands : F → ℕ → C → List R → Type 0) where
  pub closes_as : (fixed : F) (id : ℕ) (v last : PassView F R N) (ws : List ℕ) (xs left : List (Option C)) → v.fixed ≡ Some fixed → 0 < v.made → length v.got + 1 ≡ v.made → v.holds ≡ None
      → Final (Seen (IsTurnTable N top stands fixed) id v) ws xs → left ≡ xs → last ≡ v → IsClosedTable stands fixed left last
  closes_as fixed id v last ws xs left alive may all free final same is =
      let t = closes N top stands fixed id v ws xs alive (λ e. omega arith) all free final in
      subst (λ (z : List (Option C)). IsClosedTable stands fixed z last) (sym same) (subst (λ (u : PassView F R N). IsClosedTable stands fixed xs u) (sym is) (record { each = t.0; lists = t.1 }))

module _ {C F R N : Type 0} where
  pub own_next : (got got' : List (List (LogItem R N))) (ps ps' : List (Seat (Option C) (PassView F R N))) (next : Seat (Option C) (PassView F R N)) → 0 < length ps → next ≡ get_or ps 0 next → ps' ≡ take 0 ps ++ drop 1 ps → got' ≡ got ++ own_of next ∷ []
      → got' ++ map own_of ps' ≡ got ++ map own_of ps
  own_next got got' [] ps' next l e same more = absurd (omega arith)
  own_next got got' (x ∷ xs) ps' next l e same more = (λ i. more i ++ map own_of (same i)) ∙ (append_assoc got (own_of next ∷ []) (map own_of xs) ∙ ap (λ (z : Seat (Option C) (PassView F R N)). got ++ own_of z ∷ map own_of xs) e)

  pub own_all : (got : List (List (LogItem R N))) (ps all : List (Seat (Option C) (PassView F R N))) → length ps ≡ 0 → got ++ map own_of ps ≡ map own_of all → got ≡ map own_of all
  own_all got [] all empty e = sym (append-nil got) ∙ e
  own_all got (x ∷ xs) all empty e = absurd (omega arith)

  -- all own lists, in order
  pub own_whole : (first : Seat (Option C) (PassView F R N)) (ps ps' : List (Seat (Option C) (PassView F R N))) (last : PassView F R N) → 0 < length ps → first ≡ get_or ps 0 first → ps' ≡ take 0 ps ++ drop 1 ps → last.mine ≡ first.me.0.mine → last.got ≡ map own_of ps'
      → last.mine ∷ last.got ≡ map own_of ps
  own_whole first [] ps' last l e same mine got = absurd (omega arith)
  own_whole first (x ∷ xs) ps' last l e same mine got = λ i. (mine ∙ ap own_of e) i ∷ (got ∙ ap (map own_of) same) i

get_or_there : {A : Type 0} (xs : List A) (i : ℕ) (a d : A) → get_elem? xs i ≡ some a → get_or xs i d ≡ a
get_or_there [] i a d e = absurd (some-ne-none a (sym e))
get_or_there (x ∷ xs) zero a d e = some-injective x a e
get_or_there (x ∷ xs) (suc i) a d e = get_or_there xs i a d e

there_get_or : {A : Type 0} (xs : List A) (i : ℕ) (d : A) → i < length xs → get_elem? xs i ≡ some (get_or xs i d)
there_get_or [] i d l = absurd (omega arith)
there_get_or (x ∷ xs) zero d l = refl
there_get_or (x ∷ xs) (suc i) d l = there_get_or xs i d (omega arith)

module _ {C F R N : Type 0} where
  -- each pass of a new table is its own, and holds no cell
  pub each_new : (z : TableId) (f : F) (n : ℕ) (ps : List (Seat (Option C) (PassView F R N))) → AreNewPasses z f n ps → (i : ℕ) (d : Seat (Option C) (PassView F R N)) → i < length ps → IsPass z f (get_or ps i d) × HoldsNone (get_or ps i d)
  each_new z f n ps new i d l = let t = new.1 i (get_or ps i d) (there_get_or ps i d l) in (t.0, t.1)

  -- where each pass of a new table has gone on, these are all its passes
  pub all_gone_on : (z : TableId) (f : F) (n : ℕ) (ps qs : List (Seat (Option C) (PassView F R N))) → AreNewPasses z f n ps → 0 < n → length qs ≡ length ps
      → ((i : ℕ) (d : Seat (Option C) (PassView F R N)) → i < length ps → GoesOn (get_or ps i d) (get_or qs i d)) → AreAllPasses z f qs
  all_gone_on z f n ps qs new some_pass count on = record { some_pass = let l = new.0 in omega arith; each = each; first = first }
    where
      on_at : (i : ℕ) (q : Seat (Option C) (PassView F R N)) → get_elem? qs i ≡ some q → GoesOn (get_or ps i q) q
      on_at i q e = subst (λ (z : Seat (Option C) (PassView F R N)). GoesOn (get_or ps i q) z) (get_or_there qs i q q e) (on i q (let l = at_below qs i q e in omega arith))

      new_at : (i : ℕ) (q : Seat (Option C) (PassView F R N)) → get_elem? qs i ≡ some q → IsPass z f (get_or ps i q) × HoldsNone (get_or ps i q) × ((get_or ps i q).me.0 ≡ first_view f i (cond (eqb i 0) n 0))
      new_at i q e = new.1 i (get_or ps i q) (there_get_or ps i q (let l = at_below qs i q e in omega arith))

      each : (i : ℕ) (q : Seat (Option C) (PassView F R N)) → get_elem? qs i ≡ some q → IsPass z f q × HoldsNone q × (q.me.0.number ≡ 0 + i)
      each i q e = let g = on_at i q e in let t = new_at i q e in ((g.same.0 ∙ t.0.0, g.fixed ∙ t.0.1), g.free, g.number ∙ (ap (λ (v : PassView F R N). v.number) t.2 ∙ (omega arith)))

      first : (q : Seat (Option C) (PassView F R N)) → get_elem? qs 0 ≡ some q → (q.me.0.made ≡ length qs) × (q.me.0.got ≡ [])
      first q e = let g = on_at 0 q e in let t = new_at 0 q e in (g.made ∙ (ap (λ (v : PassView F R N). v.made) t.2 ∙ (sym new.0 ∙ sym count)), g.got ∙ ap (λ (v : PassView F R N). v.got) t.2)

  -- the passes of a table for two, taken out of their list one after the other, and put back
  pub both_gone_on : (z : TableId) (f : F) (ps rest none one both : List (Seat (Option C) (PassView F R N))) (p q p' q' : Seat (Option C) (PassView F R N)) → AreNewPasses z f 2 ps
      → p ≡ get_or ps 0 p → rest ≡ take 0 ps ++ drop 1 ps → q ≡ get_or rest 0 q → none ≡ take 0 rest ++ drop 1 rest → one ≡ none ++ p' ∷ [] → both ≡ one ++ q' ∷ []
      → GoesOn p p' → GoesOn q q' → AreAllPasses z f both
  both_gone_on z f [] rest none one both p q p' q' new is_p is_rest is_q is_none is_one is_both on_p on_q = absurd (let l = new.0 in omega arith)
  both_gone_on z f (x ∷ []) rest none one both p q p' q' new is_p is_rest is_q is_none is_one is_both on_p on_q = absurd (let l = new.0 in omega arith)
  both_gone_on z f (x ∷ y ∷ u ∷ us) rest none one both p q p' q' new is_p is_rest is_q is_none is_one is_both on_p on_q = absurd (let l = new.0 in omega arith)
  both_gone_on z f (x ∷ y ∷ []) rest none one both p q p' q' new is_p is_rest is_q is_none is_one is_both on_p on_q =
      subst (λ (l : List (Seat (Option C) (PassView F R N))). AreAllPasses z f l) (sym all) (all_gone_on z f 2 (x ∷ y ∷ []) (p' ∷ q' ∷ []) new (omega arith) refl each)
    where
      all : both ≡ p' ∷ q' ∷ []
      all = is_both ∙ ap (λ (l : List (Seat (Option C) (PassView F R N))). l ++ q' ∷ []) (is_one ∙ ap (λ (l : List (Seat (Option C) (PassView F R N))). l ++ p' ∷ []) (is_none ∙ ap (λ (l : List (Seat (Option C) (PassView F R N))). take 0 l ++ drop 1 l) is_rest))

      each : (i : ℕ) (d : Seat (Option C) (PassView F R N)) → i < 2 → GoesOn (get_or (x ∷ y ∷ []) i d) (get_or (p' ∷ q' ∷ []) i d)
      each zero d l = subst (λ (z : Seat (Option C) (PassView F R N)). GoesOn z p') is_p on_p
      each (suc zero) d l = subst (λ (z : Seat (Option C) (PassView F R N)). GoesOn z q') (is_q ∙ ap (λ (l : List (Seat (Option C) (PassView F R N))). get_or l 0 q) is_rest) on_q
      each (suc (suc i)) d l = absurd (omega arith)

  pub goes_on_start : (p : Seat (Option C) (PassView F R N)) → HoldsNone p → GoesOn p p
  goes_on_start p free = record { same = (refl, refl); free = free; fixed = refl; number = refl; made = refl; got = refl }

  pub goes_on_more : (p q r : Seat (Option C) (PassView F R N)) → GoesOn p q → GoesOn q r → GoesOn p r
  goes_on_more p q r a b = record {
    same = (b.same.0 ∙ a.same.0, b.same.1 ∙ a.same.1);
    free = b.free;
    fixed = b.fixed ∙ a.fixed;
    number = b.number ∙ a.number;
    made = b.made ∙ a.made;
    got = b.got ∙ a.got;
  }

  -- a turn that was given back
  pub given_goes_on : (k : ℕ) (p q : Seat (Option C) (PassView F R N)) (what : R) → IsSameSeat p q → GivesBack k what p q → GoesOn p q
  given_goes_on k p q what s g = record {
    same = s;
    free = (g.free, ap (λ (v : PassView F R N). v.holds) g.view);
    fixed = ap (λ (v : PassView F R N). v.fixed) g.view;
    number = ap (λ (v : PassView F R N). v.number) g.view;
    made = ap (λ (v : PassView F R N). v.made) g.view;
    got = ap (λ (v : PassView F R N). v.got) g.view;
  }

  -- a turn that was taken, and after which the pass went on
  pub taken_goes_on : (stands : F → ℕ → C → List R → Type 0) (f : F) (k : ℕ) (p q r : Seat (Option C) (PassView F R N)) (turn : Turn C) → IsSameSeat p q → TakesTurn stands f k p q turn → GoesOn q r → GoesOn p r
  taken_goes_on stands f k p q r turn s t g = record {
    same = (g.same.0 ∙ s.0, g.same.1 ∙ s.1);
    free = g.free;
    fixed = g.fixed ∙ ap (λ (v : PassView F R N). v.fixed) t.view;
    number = g.number ∙ ap (λ (v : PassView F R N). v.number) t.view;
    made = g.made ∙ ap (λ (v : PassView F R N). v.made) t.view;
    got = g.got ∙ ap (λ (v : PassView F R N). v.got) t.view;
  }

  -- a note
  pub noted_goes_on : (p q : Seat (Option C) (PassView F R N)) (what : N) → HoldsNone p → IsSameSeat p q → Notes what p q → GoesOn p q
  noted_goes_on p q what free s n = record {
    same = s;
    free = (n.carries ∙ free.0, ap (λ (v : PassView F R N). v.holds) n.view ∙ free.1);
    fixed = ap (λ (v : PassView F R N). v.fixed) n.view;
    number = ap (λ (v : PassView F R N). v.number) n.view;
    made = ap (λ (v : PassView F R N). v.made) n.view;
    got = ap (λ (v : PassView F R N). v.got) n.view;
  }
