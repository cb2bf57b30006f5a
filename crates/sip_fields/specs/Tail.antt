-- What stands behind a value in its field.
use Rattle.std.specs.Prelude.{ℕ, List, ◌==◌, length, Option, Some, None, Result, Ok, Err, if◌then◌else◌}
use Rattle.sip_words.specs.ByteNames.{COMMA}
use Rattle.sip_words.specs.declared.separators.Separator.{Separator}
use Rattle.sip_words.specs.declared.separators.Surroundings.TheVariants.{Field}
use Rattle.sip_words.specs.Words.{lws_end}
use Rattle.sip_words.specs.Separators.{separator_at}
use Rattle.sip_fields.specs.declared.tail.Bad.{Bad}

-- LWS and the end of the field; or a comma, and then the place of the next value
abbrev pub next_after : Option Separator → List ℕ → ℕ → Option (Option ℕ)
next_after None text i = if lws_end text i == length text then Some None else None
next_after (Some comma) text i = Some (Some comma.end)

unfoldable pub next_at : List ℕ → ℕ → Option (Option ℕ)
next_at text i = next_after (separator_at Field COMMA text i) text i

abbrev pub or_bad : {A : Type 0} → Option A → Result A Bad
or_bad None = Err record {}
or_bad (Some x) = Ok x
