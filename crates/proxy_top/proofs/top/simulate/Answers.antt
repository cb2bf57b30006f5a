-- Where the folder is told, the words and the files leave one status.
use Rattle.proxy_top.proofs.Causes.{accepts, refuses, too_long, ready, malformed, line}
use Rattle.proxy_top.proofs.top.simulate.Goals as goal

pub returns-clause-in_wrong_line : goal.returns-clause-in_wrong_line
returns-clause-in_wrong_line g c = malformed _ _ _ _ c.no_text_is_accepted_and_refused.ensures _ _ _ _ _ _ _ c.run_and_print.ensures.ended

pub returns-clause-ready : goal.returns-clause-ready
returns-clause-ready g c = ready _ _ _ _ c.no_text_is_accepted_and_refused.ensures _ _ _ _ _ _ _ c.run_and_print.ensures.ended

pub returns-clause-check_accepts : goal.returns-clause-check_accepts
returns-clause-check_accepts g c = accepts _ _ _ _ c.no_text_is_accepted_and_refused.ensures _ _ _ _ _ _ _ c.run_and_print.ensures.ended

pub returns-clause-refuses : goal.returns-clause-refuses
returns-clause-refuses g c = refuses _ _ _ _ c.no_text_is_accepted_and_refused.ensures _ _ _ _ _ _ _ c.run_and_print.ensures.ended

pub returns-clause-too_long : goal.returns-clause-too_long
returns-clause-too_long g c = too_long _ _ _ _ _ _ _ _ _ _ _ c.run_and_print.ensures.ended

pub returns-clause-refused_line : goal.returns-clause-refused_line
returns-clause-refused_line g c = line c.a_text_is_refused_in_one_way.ensures _ _ _ _ _ _ _ _ _ _ _ c.run_and_print.ensures.ended
