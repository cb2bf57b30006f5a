use Rattle.histories.proofs.Lists.{grows_append, grows_keeps, grows_flat}
use Rattle.histories.proofs.laws.lists_go_on.Goals as goal

pub returns : goal.returns
returns g c = record { append = grows_append; keeps = grows_keeps; projection = grows_flat }
