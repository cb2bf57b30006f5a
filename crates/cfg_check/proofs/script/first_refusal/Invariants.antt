use Rattle.std.proofs.Common.{◌∷◌, take}
use Rattle.cfg_tree.specs.Refusals.{IsFirst}
use Rattle.cfg_check.proofs.script.first_refusal.Given as goal

abbrev pub invariant-loop-refusal : goal.invariant-loop-refusal
invariant-loop-refusal l = IsFirst (l.initial.least ∷ take l.refusal-index l.rest) l.least
