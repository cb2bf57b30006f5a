use Rattle.proxy_top.proofs.Texts.{accepted_not_refused}
use Rattle.proxy_top.proofs.accept.no_text_is_accepted_and_refused.Goals as goal

pub returns : goal.returns
returns c = accepted_not_refused c.a_text_has_one_list_of_tokens.ensures c.a_text_with_a_fault_has_no_tokens.ensures c.one_tree_at_most.ensures
