use Rattle.sip_build.proofs.LineLaw.{only_value_away, first_value_away}
use Rattle.sip_build.proofs.laws.the_top_via_is_taken_away.Goals as goal

pub returns-clause-only : goal.returns-clause-only
returns-clause-only c = only_value_away

pub returns-clause-more : goal.returns-clause-more
returns-clause-more c = first_value_away
