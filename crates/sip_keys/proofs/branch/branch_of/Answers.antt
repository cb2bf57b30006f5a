-- The branch that is found is the only one.
use Rattle.sip_keys.proofs.Names.{only_one}
use Rattle.sip_keys.proofs.branch.branch_of.Goals as goal

pub returns-clause-only : goal.returns-clause-only
returns-clause-only c = only_one c.args.epoch c.args.text.now _ c.named_branch.ensures.found c.named_branch.ensures.none
