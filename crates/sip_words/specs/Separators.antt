-- Separators: bytes that part two words.
use Rattle.std.specs.Prelude.{ℕ, ◌+◌, List, Option, Some, None, if◌then◌else◌}
use Rattle.sip_words.specs.declared.separators.Separator.{Separator}
use Rattle.sip_words.specs.declared.separators.Surroundings.{Surroundings}
use Rattle.sip_words.specs.declared.separators.Surroundings.TheVariants.{Field, Uri}
use Rattle.sip_words.specs.Words.{lws_end, stands}

-- LWS may stand round a separator in a field, and none in a URI
abbrev pub skip : Surroundings → List ℕ → ℕ → ℕ
skip Field text i = lws_end text i
skip Uri text i = i

unfoldable pub separator_at : Surroundings → ℕ → List ℕ → ℕ → Option Separator
separator_at surroundings byte text i =
    let place = skip surroundings text i in
    if stands byte text place then Some record { place = place; end = skip surroundings text (place + 1) } else None
