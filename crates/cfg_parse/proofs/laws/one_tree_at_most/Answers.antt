use Rattle.std.proofs.Common.{sym, ◌∙◌}
use Rattle.std.proofs.lemmas.Option.{same_Some}
use Rattle.cfg_parse.proofs.laws.one_tree_at_most.Goals as goal
use Rattle.cfg_parse.proofs.law.Law.{reads}

pub returns : goal.returns
returns c = λ tokens one other d e. same_Some one other (sym (reads tokens one d) ∙ reads tokens other e)
