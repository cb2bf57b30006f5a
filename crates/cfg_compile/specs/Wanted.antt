-- What an expression is read for.
use Rattle.cfg_tree.specs.Meaning.{AsValue, AsTruth}
use Rattle.cfg_tree.specs.Meaning as meaning
use Rattle.cfg_compile.specs.declared.expr.Wanted.{Wanted}
use Rattle.cfg_compile.specs.declared.expr.Wanted.TheVariants.{Value, Truth}

abbrev pub as_meant : Wanted → meaning.Wanted
as_meant Value = AsValue
as_meant Truth = AsTruth
