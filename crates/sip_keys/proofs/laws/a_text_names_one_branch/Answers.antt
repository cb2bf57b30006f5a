use Rattle.sip_keys.proofs.Names.{one_name}
use Rattle.sip_keys.proofs.laws.a_text_names_one_branch.Goals as goal

pub returns : goal.returns
returns c = one_name
