use Rattle.sip_build.proofs.Away.{field_away}
use Rattle.sip_build.proofs.laws.the_fields_below_stand.Goals as goal

pub returns : goal.returns
returns c = field_away
