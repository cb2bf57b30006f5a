-- Which URIs are this proxy's.
use Rattle.std.specs.Prelude.{ℕ, ◌==◌, Bool, false, ◌&&◌, ◌||◌, List, Option, Some, None, unwrap_or}
use Rattle.std.specs.List.{list_any}
use Rattle.std.specs.Str.{str_eq_ignore_ascii_case}
use Rattle.outside_ports.specs.declared.port.Addr.{Addr}
use Rattle.sip_fields.specs.declared.host.Host.{Host}
use Rattle.sip_fields.specs.declared.host.Host.TheVariants.{V4, Name}
use Rattle.sip_fields.specs.declared.uri.Uri.{Uri}
use Rattle.sip_fields.specs.declared.uri.Scheme as scheme
use Rattle.sip_fields.specs.declared.uri.Scheme.TheVariants.{Sip, Sips, Other}
use Rattle.sip_fields.specs.Uri.{uri_at}
use Rattle.pv_table.specs.UriParts.{bytes_at}
use Rattle.pv_table.specs.Reading.{default_port, target_of}
use Rattle.host_meaning.specs.Run.{Around, RunState}

-- the address on which the proxy listens
abbrev pub is_listening : Addr → Host → ℕ → Bool
is_listening listen (V4 ip) port = (ip == listen.ip) && (port == listen.port)
is_listening listen Name port = false

-- an alias, on every port, without regard to case
abbrev pub is_alias : List (List ℕ) → List ℕ → Bool
is_alias aliases host = list_any (str_eq_ignore_ascii_case host) aliases

-- of `sip` and `sips` alike
abbrev pub by_sip_scheme : scheme.Scheme → Bool → Bool
by_sip_scheme Sip b = b
by_sip_scheme Sips b = b
by_sip_scheme Other b = false

abbrev pub is_own_host : Around → List ℕ → Uri → Bool
is_own_host a text u =
    is_listening a.settings.listen u.host (unwrap_or u.port default_port) || is_alias a.parameters.aliases (bytes_at text u.host_at)

abbrev pub is_own_uri : Around → List ℕ → Option Uri → Bool
is_own_uri a text None = false
is_own_uri a text (Some u) = by_sip_scheme u.scheme (is_own_host a text u)

-- the text is a URI of this proxy
abbrev pub is_ours : Around → List ℕ → Bool
is_ours a text = is_own_uri a text (uri_at text 0)

abbrev pub is_ours_maybe : Around → Option (List ℕ) → Bool
is_ours_maybe a None = false
is_ours_maybe a (Some text) = is_ours a text

-- `uri == myself`: the target is ours
abbrev pub is_myself : Around → RunState → Bool
is_myself a s = is_ours_maybe a (target_of s.facts)

-- the URI has the parameter `lr` (RFC 3261, section 19.1.1)
abbrev pub has_lr : Option Uri → Bool
has_lr None = false
has_lr (Some u) = u.lr

abbrev pub is_loose : List ℕ → Bool
is_loose text = has_lr (uri_at text 0)
