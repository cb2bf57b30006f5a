use Rattle.std.proofs.Common.{◌≡◌, length}
use Rattle.std.specs.List.{list_any}
use Rattle.std.specs.Str.{bytes_eq}
use Rattle.host_meaning.specs.Headers.{between_bars}
use Rattle.message_functions.proofs.headers.is_between_bars.Given as goal

-- none of those before is the word
abbrev pub invariant-loop-first : goal.invariant-loop-first
invariant-loop-first l = list_any (bytes_eq l.word) (between_bars l.rest) ≡ list_any (bytes_eq l.word) (between_bars l.words)

abbrev pub decreases-loop-first : goal.decreases-loop-first
decreases-loop-first l = length l.rest
