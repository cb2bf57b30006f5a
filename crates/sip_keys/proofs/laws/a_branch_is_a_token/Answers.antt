use Rattle.sip_keys.proofs.Tokens.{is_token}
use Rattle.sip_keys.proofs.laws.a_branch_is_a_token.Goals as goal

pub returns : goal.returns
returns c = is_token
