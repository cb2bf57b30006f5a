use Rattle.std.proofs.Common.{refl}
use Rattle.cfg_tree.specs.declared.raw.RawStmt.TheFolds.{fold-roll-RawStmt}
use Rattle.cfg_tree.specs.Checks.{refusals_of, bodies_of}
use Rattle.cfg_tree.proofs.laws.a_relay_of_an_event_is_refused.Goals as goal

pub returns : goal.returns
unfolding refusals_of bodies_of
returns c = rw (fold-roll-RawStmt) refl
