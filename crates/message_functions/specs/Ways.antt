-- What the code's way of a request shows.
use Rattle.std.specs.Prelude.{◌≡◌, Bool, true, false, ℕ, List, ◌++◌, Option, Some, None}
use Rattle.std.specs.Option.{option_copied}
use Rattle.sip_words.specs.Spans.{IsWithin}
use Rattle.msg_edits.specs.declared.parts.Edit.{Edit}
use Rattle.host_meaning.specs.declared.routing.RouteValue.{RouteValue}
use Rattle.host_meaning.specs.Headers.{all_fit}
use Rattle.host_meaning.specs.Routing as routing
use Rattle.message_functions.specs.declared.routing.Way.{Way}
use Rattle.message_functions.specs.declared.routing.Routed.{Routed}

-- the way that it stands for
abbrev pub shown : Way → routing.Way
shown w = record {
  uri = w.uri.now;
  destination = option_copied w.destination;
  cut = w.cut.items;
  left = w.left.now;
  back = option_copied w.back;
}

-- the value's URI lies in the message
abbrev pub LiesIn : List ℕ → RouteValue → Type 0
LiesIn b v = IsWithin b v.uri

-- the edits of the way fit and are made, and these are its target and destination; or they don't all fit, and none is made
abbrev pub IsRouted : routing.Way → List Edit → List Edit → List Edit → Option Routed → Type 0
IsRouted w more old new None = (all_fit old more ≡ false) × (new ≡ old)
IsRouted w more old new (Some r) = (all_fit old more ≡ true) × (new ≡ old ++ more) × (r.uri ≡ w.uri) × (r.destination ≡ w.destination)
