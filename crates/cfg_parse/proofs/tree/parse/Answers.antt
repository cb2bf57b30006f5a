use Rattle.std.proofs.Common.{◌≡◌, length, sym}
use Rattle.pv_values.specs.declared.refusal.Place.{Place}
use Rattle.cfg_parse.specs.declared.fault.Fault.{Fault}
use Rattle.cfg_parse.specs.declared.fault.Fault.TheVariants.{Syntax, NoMemory}
use Rattle.cfg_parse.proofs.Trees.{the_tree, the_only, no_tree}
use Rattle.cfg_parse.proofs.tree.parse.Goals as goal

is_no_want : (f : Fault) (at : Place) → f ≡ Syntax at → f ≡ NoMemory → ⊥
is_no_want f at is other = absurd (cc)

pub returns-in-Ok-clause-tree : goal.returns-in-Ok-clause-tree
returns-in-Ok-clause-tree c = the_tree c.args.tokens.now (length c.args.text.now) c.in-Ok.items c.in-Ok.ensures

pub returns-in-Ok-clause-only : goal.returns-in-Ok-clause-only
returns-in-Ok-clause-only c = the_only c.args.tokens.now (length c.args.text.now) c.in-Ok.items c.in-Ok.ensures

pub returns-in-Ok-clause-exists : goal.returns-in-Ok-clause-exists
returns-in-Ok-clause-exists c raw is = sym (the_only c.args.tokens.now (length c.args.text.now) c.in-Ok.items c.in-Ok.ensures raw is)

pub returns-in-Ok-clause-none : goal.returns-in-Ok-clause-none
returns-in-Ok-clause-none c none = none _ (the_tree c.args.tokens.now (length c.args.text.now) c.in-Ok.items c.in-Ok.ensures)

pub returns-in-Err-Syntax-clause-refused : goal.returns-in-Err-Syntax-clause-refused
returns-in-Err-Syntax-clause-refused c = (c.number.ensures, no_tree c.args.tokens.now (length c.args.text.now) (c.in-Err-Syntax.ensures (is_no_want _ _ c.in-Err-Syntax.field-0-is)))

pub returns-in-Err-Syntax-clause-exists : goal.returns-in-Err-Syntax-clause-exists
returns-in-Err-Syntax-clause-exists c raw is = no_tree c.args.tokens.now (length c.args.text.now) (c.in-Err-Syntax.ensures (is_no_want _ _ c.in-Err-Syntax.field-0-is)) raw is
