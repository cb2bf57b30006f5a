use Rattle.histories.proofs.Lists.{records_append, of_append, given_append}
use Rattle.histories.proofs.laws.records_go_on.Goals as goal

pub returns : goal.returns
returns g c = record { records = records_append; of = of_append; given = given_append }
