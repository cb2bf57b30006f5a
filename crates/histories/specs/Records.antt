-- The records of a history and of a log.
use Rattle.std.specs.Prelude.{ℕ, cond, ◌==◌, List, [], ◌∷◌, map}
use Rattle.histories.specs.declared.record.Recorded.{Recorded}
use Rattle.histories.specs.declared.record.LogItem.{LogItem}
use Rattle.histories.specs.declared.record.LogItem.TheVariants.{Given, Noted}

module _ {R : Type 0} where
  abbrev pub recorded : ℕ → R → Recorded R
  recorded worker r = record { by = worker; what = r }

  -- the records of a history
  abbrev pub records : List (Recorded R) → List R
  records h = map (λ (e : Recorded R). e.what) h

  -- the records of one worker in a history
  abbrev pub of : ℕ → List (Recorded R) → List R
  of worker [] = []
  of worker (e ∷ es) = cond (e.by == worker) (e.what ∷ of worker es) (of worker es)

module _ {R N : Type 0} where
  -- the records that a log gave to the object of this number
  abbrev pub given : ℕ → List (LogItem R N) → List R
  given k [] = []
  given k (Given i r ∷ items) = cond (i == k) (r ∷ given k items) (given k items)
  given k (Noted n ∷ items) = given k items

  -- its notes
  abbrev pub noted : List (LogItem R N) → List N
  noted [] = []
  noted (Given i r ∷ items) = noted items
  noted (Noted n ∷ items) = n ∷ noted items
