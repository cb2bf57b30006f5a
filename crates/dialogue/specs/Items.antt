-- Which items lead along a course, and where to.
use Rattle.std.specs.Prelude.{◌≡◌, ◌⊎◌, List, [], ◌∷◌}
use Rattle.dialogue.specs.Course.{Course, Ends, Asks, Takes}
use Rattle.dialogue.specs.declared.item.CourseItem.{CourseItem}
use Rattle.dialogue.specs.declared.item.CourseItem.TheVariants.{Told, Short}

module _ {Ask Answer End : Type 0} where
  -- the course comes to this end on exactly these items
  abbrev pub Comes : Course Ask Answer End → List (CourseItem Ask Answer) → End → Type 0
  Comes (Ends end) [] e = end ≡ e
  Comes (Ends end) (item ∷ items) e = ⊥
  Comes (Asks ask next) [] e = ⊥
  Comes (Asks ask next) (Short ∷ items) e = ⊥
  Comes (Asks ask next) (Told a h ∷ items) e = (a ≡ ask) × Comes (next h) items e
  Comes (Takes short on) [] e = Comes on [] e
  Comes (Takes short on) (Told a h ∷ items) e = Comes on (Told a h ∷ items) e
  Comes (Takes short on) (Short ∷ items) e = Comes short items e ⊎ Comes on (Short ∷ items) e

  -- the course has gone on these items to what is left of it. A place that takes memory may be passed with no item
  abbrev pub Goes : Course Ask Answer End → List (CourseItem Ask Answer) → Course Ask Answer End → Type 0
  Goes (Ends end) [] rest = Ends end ≡ rest
  Goes (Ends end) (item ∷ items) rest = ⊥
  Goes (Asks ask next) [] rest = Asks ask next ≡ rest
  Goes (Asks ask next) (Short ∷ items) rest = ⊥
  Goes (Asks ask next) (Told a h ∷ items) rest = (a ≡ ask) × Goes (next h) items rest
  Goes (Takes short on) [] rest = (Takes short on ≡ rest) ⊎ Goes on [] rest
  Goes (Takes short on) (Told a h ∷ items) rest = Goes on (Told a h ∷ items) rest
  Goes (Takes short on) (Short ∷ items) rest = Goes short items rest ⊎ Goes on (Short ∷ items) rest

-- the asks that were answered, in their order, and their answers
module _ {Ask Answer : Type 0} where
  abbrev pub asks_of : List (CourseItem Ask Answer) → List (Ask × Answer)
  asks_of [] = []
  asks_of (Told ask answer ∷ items) = (ask, answer) ∷ asks_of items
  asks_of (Short ∷ items) = asks_of items

  abbrev pub answers_of : List (CourseItem Ask Answer) → List Answer
  answers_of [] = []
  answers_of (Told ask answer ∷ items) = answer ∷ answers_of items
  answers_of (Short ∷ items) = answers_of items
