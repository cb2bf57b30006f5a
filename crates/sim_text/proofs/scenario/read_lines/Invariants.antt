-- The lines so far were taken, each of which has a byte at least.
use Rattle.std.proofs.Common.{◌+◌, ◌≤◌, length}
use Rattle.sim_text.specs.Draft.{IsDraft, so_far}
use Rattle.sim_text.proofs.Sound.{IsSound}
use Rattle.sim_text.proofs.Reading.{IsReadTo}
use Rattle.sim_text.proofs.scenario.read_lines.Given as goal

abbrev pub invariant-loop-line : goal.invariant-loop-line
invariant-loop-line l =
    IsDraft l.draft × IsSound (so_far l.draft) × (l.number + length l.rest ≤ length l.text + 1)
    × IsReadTo l.text l.rest (so_far l.draft) l.number

abbrev pub decreases-loop-line : goal.decreases-loop-line
decreases-loop-line l = length l.rest
