-- Code whose jumps stay in it, and whose instructions find what they take.
use Rattle.std.specs.Prelude.{◌≡◌, ℕ, ◌+◌, ◌<◌, List, [], ◌∷◌, Some, slice_get, slice_index_or}
use Rattle.cfg_code.specs.declared.instr.Instr.{Instr}
use Rattle.cfg_code.specs.declared.instr.Instr.TheVariants.{Push, Load, LoadCode, LoadSuccess, Store, Read, ReadItem, Write, WriteItem, Transform, Concat, PushArgument, CallFunction, ExitOnZero, CallBlock, Binary, Negate, Not, ToBool, Match, JumpIfFalseOrPop, JumpIfTrueOrPop, Pop, CountStatement, JumpIfFalse, Jump, Case, BeginLoop, BeginRound, LoopBack, EndLoop, Break, Return, Exit, Drop, EndBlock}
use Rattle.cfg_code.specs.Flat.{Flat}

-- what stands where an instruction begins, of the block alone: values on the operand stack, and open loops
pub record Shape : Type 0 where
  pub values : ℕ
  pub loops : ℕ

abbrev pub nothing : Shape
nothing = record { values = 0; loops = 0 }

-- the instruction so many after the next one is in the code, and this stands there
abbrev pub Leads : List Shape → ℕ → Shape → Type 0
Leads behind n s = slice_get behind n ≡ Some s

-- takes so many values, leaves so many, and leads to the next instruction
abbrev pub Moves : ℕ → ℕ → Shape → List Shape → Type 0
Moves takes leaves s behind =
    (rest : ℕ) × (after : ℕ) × (s.values ≡ takes + rest) × (after ≡ leaves + rest) × Leads behind 0 (record s { values = after })

-- an instruction finds what it takes, and leads into the code; `behind` is what stands after it, place by place
abbrev pub IsFine : Instr → Shape → List Shape → Type 0
IsFine (Push v) s behind = Moves 0 1 s behind
IsFine (Load x) s behind = Moves 0 1 s behind
IsFine LoadCode s behind = Moves 0 1 s behind
IsFine LoadSuccess s behind = Moves 0 1 s behind
IsFine (Store x) s behind = Moves 1 0 s behind
IsFine (Read x) s behind = Moves 0 1 s behind
IsFine (ReadItem way t) s behind = Moves 1 1 s behind
IsFine (Write x) s behind = Moves 1 0 s behind
IsFine (WriteItem way t) s behind = Moves 2 0 s behind
IsFine (Transform tr) s behind = Moves 1 1 s behind
IsFine Concat s behind = Moves 2 1 s behind
IsFine PushArgument s behind = Moves 1 0 s behind
IsFine (CallFunction f) s behind = Moves 0 0 s behind
IsFine ExitOnZero s behind = Moves 0 0 s behind
IsFine (CallBlock block) s behind = Moves 0 0 s behind
IsFine (Binary op) s behind = Moves 2 1 s behind
IsFine Negate s behind = Moves 1 1 s behind
IsFine Not s behind = Moves 1 1 s behind
IsFine ToBool s behind = Moves 1 1 s behind
IsFine (Match p) s behind = Moves 1 1 s behind
IsFine (JumpIfFalseOrPop n) s behind = Moves 1 0 s behind × Leads behind n s
IsFine (JumpIfTrueOrPop n) s behind = Moves 1 0 s behind × Leads behind n s
IsFine Pop s behind = Moves 1 0 s behind
IsFine CountStatement s behind = Moves 0 0 s behind
IsFine (JumpIfFalse n) s behind = Moves 1 0 s behind × (rest : ℕ) × (s.values ≡ 1 + rest) × Leads behind n (record s { values = rest })
IsFine (Jump n) s behind = Leads behind n s
IsFine (Case label n) s behind = Moves 1 0 s behind × Leads behind n s
IsFine (BeginLoop n) s behind = (s.values ≡ 0) × Leads behind 0 (record s { loops = s.loops + 1 }) × Leads behind n s
IsFine BeginRound s behind = (s.values ≡ 0) × (0 < s.loops) × Leads behind 0 s
IsFine LoopBack s behind = (s.values ≡ 0) × (0 < s.loops)
IsFine EndLoop s behind = (s.values ≡ 0) × (rest : ℕ) × (s.loops ≡ rest + 1) × Leads behind 0 (record s { loops = rest })
IsFine Break s behind = s.values ≡ 0
IsFine Return s behind = s.values ≡ 1
IsFine Exit s behind = Unit {0}
IsFine Drop s behind = Unit {0}
IsFine EndBlock s behind = s ≡ nothing

-- these instructions are fine, where these shapes stand at their places, and those after them
abbrev pub AreFine : List Instr → List Shape → List Shape → Type 0
AreFine [] shapes behind = shapes ≡ behind
AreFine (i ∷ is) [] behind = ⊥
AreFine (i ∷ is) (s ∷ shapes) behind = IsFine i s shapes × AreFine is shapes behind

-- the code is sound, with these shapes at its places: each block begins with nothing, in the code
pub record IsSound (code : Flat) (shapes : List Shape) : Type 0 where
  pub fine : AreFine code.instrs shapes []
  pub blocks : (b : ℕ) → Leads shapes (slice_index_or code.entries b 0) nothing

-- there are shapes with which these instructions are sound, whose blocks begin at these places
pub record AllSound (instrs : List Instr) (entries : List ℕ) : Type 0 where
  pub shapes : ∥ ((shapes : List Shape) × IsSound (record { instrs = instrs; entries = entries }) shapes) ∥₁

-- what stands at these instructions, and after them, where this stands at the first of them
abbrev pub Shaped : List Instr → Shape → List Shape → Type 0
Shaped instrs s behind = (all : List Shape) × AreFine instrs all behind × Leads all 0 s
