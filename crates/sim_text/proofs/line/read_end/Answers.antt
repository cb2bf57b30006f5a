use Rattle.std.specs.Prelude.{codes}
use Rattle.std.proofs.Common.{ℕ}
use Rattle.sim_text.specs.Scenario.{IsLine}
use Rattle.sim_text.specs.declared.line.Line.TheVariants.{End}
use Rattle.sim_text.proofs.Lines.{not_stripped}
use Rattle.numerals.proofs.Addresses.{where_none}
use Rattle.sim_text.proofs.line.read_end.Goals as goal

pub returns-in_err-strip_prefix-clause-none : goal.returns-in_err-strip_prefix-clause-none
returns-in_err-strip_prefix-clause-none c =
    let none : (at : ℕ) → IsLine c.args.line.now (End at) → ⊥ = λ at h. not_stripped c.args.line.now (codes "end ") c.in_err-strip_prefix.ensures.cases h.0 h.1 in
    where_none _ _ none
