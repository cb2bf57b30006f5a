-- A turn that was taken and given back, and what an object did in it.
use Rattle.std.proofs.Common.{◌≡◌, ◌≢◌, ℕ, List, [], ◌∷◌, ◌++◌, Option, refl, sym, ap, ◌∙◌, subst}
use Rattle.atomic_table.specs.declared.shared.Seat.{Seat}
use Rattle.histories.specs.declared.record.Recorded.{Recorded}
use Rattle.histories.specs.declared.record.LogItem.TheVariants.{Given}
use Rattle.histories.specs.Records.{recorded, records}
use Rattle.histories.specs.Runs.{Runs}
use Rattle.histories.proofs.Lists.{runs_more}
use Rattle.turn_table.specs.declared.turn.Turn.{Turn}
use Rattle.turn_table.specs.declared.view.PassView.{PassView}
use Rattle.turn_table.specs.Lists.{list_at, list_put}
use Rattle.turn_table.specs.Passes.{IsSameSeat, TakesTurn, GivesBack, GivesTold, HadTurn, GoesOn, history_of, own_of}
use Rattle.turn_table.specs.Objects.{DidInTurn}
use Rattle.turn_table.proofs.Lists.{list_at-put_same, list_at-put_other}
use Rattle.turn_table.proofs.Passes.{given_goes_on, taken_goes_on}

module _ {C F R N : Type 0} (stands : F → ℕ → C → List R → Type 0) where
  pub had_turn : (f : F) (k : ℕ) (p q r : Seat (Option C) (PassView F R N)) (turn : Turn C) (what : R) → IsSameSeat p q → TakesTurn stands f k p q turn → IsSameSeat q r → GivesBack turn.cell what q r → HadTurn k (history_of q k) what p r
  had_turn f k p q r turn what s t s' g = record {
    on = taken_goes_on stands f k p q r turn s t (given_goes_on turn.cell q r what s' g);
    begins = t.begins;
    history = ap (λ (l : List (List (Recorded R))). list_at l k) given ∙ (list_at-put_same q.me.0.seen k (history_of q k ++ recorded q.me.0.number what ∷ []) ∙ ap (λ (n : ℕ). history_of q k ++ recorded n what ∷ []) (ap (λ (v : PassView F R N). v.number) t.view));
    own = ap (λ (v : PassView F R N). v.mine) back.view ∙ ap (λ (v : PassView F R N). v.mine ++ Given k what ∷ []) t.view;
    others = λ j ne. ap (λ (l : List (List (Recorded R))). list_at l j) given ∙ (list_at-put_other q.me.0.seen j k (history_of q k ++ recorded q.me.0.number what ∷ []) ne
        ∙ (ap (λ (v : PassView F R N). list_at v.seen j) t.view ∙ list_at-put_other p.me.0.seen j k (history_of q k) ne));
  }
    where
      back : GivesBack k what q r
      back = subst (λ (c : ℕ). GivesBack c what q r) t.cell g

      given : r.me.0.seen ≡ list_put q.me.0.seen k (history_of q k ++ recorded q.me.0.number what ∷ [])
      given = ap (λ (v : PassView F R N). v.seen) back.view

  module _ {S : Type 0} (step : S → R → S → Type 0) where
    -- the one record that is told was given
    pub did_in_turn : (first old new : S) (f : F) (k : ℕ) (p q r : Seat (Option C) (PassView F R N)) (turn : Turn C) (told : R → Type 0) (x : R) → ((y : R) → told y → y ≡ x) → IsSameSeat p q → TakesTurn stands f k p q turn → IsSameSeat q r → GivesTold told turn.cell q r
        → Runs step first (records (history_of q k)) old → step old x new → DidInTurn step first k x p r
    did_in_turn first old new f k p q r turn told x only s t s' g was does = record {
      before = history_of q k;
      had = subst (λ (y : R). HadTurn k (history_of q k) y p r) (only g.what g.is_told) (had_turn f k p q r turn g.what s t s' g.gave);
      old = old;
      new = new;
      was = was;
      does = does;
    }

module _ {R S : Type 0} (step : S → R → S → Type 0) where
  -- what the object is for the record to be given to the cell of the turn
  pub runs_told : (first old new : S) (cell k : ℕ) (x : R) (h : ℕ → List (Recorded R)) → cell ≡ k → Runs step first (records (h k)) old → step old x new → Runs step first (records (h cell) ++ x ∷ []) new
  runs_told first old new cell k x h is was does = subst (λ (c : ℕ). Runs step first (records (h c) ++ x ∷ []) new) (sym is) (runs_more step first old new (records (h k)) x was does)
