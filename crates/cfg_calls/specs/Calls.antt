-- What is read of the arguments of a call.
use Rattle.std.specs.Prelude.{◌≡◌, ℕ, ◌<◌, List, Option, None, Some}
use Rattle.pv_values.specs.declared.function.Func.{Func}
use Rattle.cfg_tree.specs.declared.raw.Word.{Word}
use Rattle.cfg_tree.specs.declared.raw.RawArg.{RawArg}
use Rattle.cfg_tree.specs.Functions as functions

-- what is made of each number below this one
abbrev pub Makes : ℕ → (ℕ → Func → Type 0) → (ℕ → Func) → Type 0
Makes end made make = (n : ℕ) (f : Func) → n < end → made n f → f ≡ make n

-- what is made of each text
abbrev pub MakesText : (List ℕ → Func → Type 0) → (List ℕ → Func) → Type 0
MakesText made make = (t : List ℕ) (f : Func) → made t f → f ≡ make t

-- the one argument, where there is one and it is a literal
abbrev pub literal_in : Option RawArg → Option Word
literal_in None = None
literal_in (Some a) = functions.literal a

abbrev pub only_literal : List RawArg → Option Word
only_literal args = literal_in (functions.one_arg args)
