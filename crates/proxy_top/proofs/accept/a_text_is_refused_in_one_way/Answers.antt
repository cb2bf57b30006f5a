use Rattle.proxy_top.proofs.Texts.{refused_once}
use Rattle.proxy_top.proofs.accept.a_text_is_refused_in_one_way.Goals as goal

pub returns : goal.returns
returns c =
    refused_once c.a_text_has_one_list_of_tokens.ensures c.a_text_has_one_first_fault.ensures
    c.a_text_with_a_fault_has_no_tokens.ensures c.one_tree_at_most.ensures
