-- A `sip` URI as its parts (RFC 3261, section 19.1.1), and what becomes of it where one of them is replaced.
use Rattle.std.specs.Prelude.{ℕ, ◌+◌, ◌-◌, Bool, true, false, ◌&&◌, List, [], ◌++◌, take, drop, Option, Some, None, if◌then◌else◌, slice_range, option_map, codes}
use Rattle.std.specs.Str.{bytes_eq}
use Rattle.std.specs.Fmt.{decimal}
use Rattle.sip_words.specs.declared.Span.{Span}
use Rattle.sip_words.specs.declared.bytes.Class.TheVariants.{Digit}
use Rattle.sip_words.specs.Words.{◌>>=◌, stands, run_end}
use Rattle.sip_fields.specs.declared.uri.Uri.{Uri}
use Rattle.sip_fields.specs.declared.uri.Scheme as scheme
use Rattle.sip_fields.specs.declared.uri.Scheme.TheVariants.{Sip, Sips, Other}
use Rattle.sip_fields.specs.Uri.{uri_at}

-- the parts of a URI, as texts
pub record UriParts : Type 0 where
  -- with its colon
  pub scheme : List ℕ
  pub user : Option (List ℕ)
  -- with its colon; empty where there is none
  pub password : List ℕ
  pub host : List ℕ
  -- with its colon; empty where there is none
  pub port : List ℕ
  -- parameters and headers
  pub rest : List ℕ

-- the user with its password, and the `@` behind them
abbrev pub login_text : Option (List ℕ) → List ℕ → List ℕ
login_text None password = []
login_text (Some user) password = user ++ password ++ codes "@"

-- the URI of these parts
abbrev pub uri_text : UriParts → List ℕ
uri_text p = p.scheme ++ login_text p.user p.password ++ p.host ++ p.port ++ p.rest

-- a span's bytes
abbrev pub bytes_at : List ℕ → Span → List ℕ
bytes_at text s = slice_range text s.from s.to

-- where the first part behind the scheme's colon begins
abbrev pub scheme_end_of : Option Span → Span → ℕ
scheme_end_of None host = host.from
scheme_end_of (Some user) host = user.from

-- what stands between the user and the `@`
abbrev pub password_of : List ℕ → Option Span → Span → List ℕ
password_of text None host = []
password_of text (Some user) host = slice_range text user.to (host.from - 1)

-- where a port ends that stands behind a host, with a colon
abbrev pub port_end : List ℕ → ℕ → ℕ
port_end text i = if stands 58 text i then run_end Digit text (i + 1) else i

-- the parts of a text that reads as this URI
abbrev pub parts_of : List ℕ → Uri → UriParts
parts_of text u = record {
  scheme = take (scheme_end_of u.user u.host_at) text;
  user = option_map (bytes_at text) u.user;
  password = password_of text u.user u.host_at;
  host = bytes_at text u.host_at;
  port = slice_range text u.host_at.to (port_end text u.host_at.to);
  rest = drop (port_end text u.host_at.to) text;
}

-- the parts of a `sip` URI; None for every other text
abbrev pub by_sip : scheme.Scheme → UriParts → Option UriParts
by_sip Sip p = Some p
by_sip Sips p = None
by_sip Other p = None

abbrev pub sip_parts : List ℕ → Option UriParts
sip_parts text = uri_at text 0 >>= (λ u. by_sip u.scheme (parts_of text u))

abbrev pub is_same_user : Option (List ℕ) → Option (List ℕ) → Bool
is_same_user None None = true
is_same_user None (Some b) = false
is_same_user (Some a) None = false
is_same_user (Some a) (Some b) = bytes_eq a b

-- the same parts
abbrev pub is_same : UriParts → UriParts → Bool
is_same p q =
    bytes_eq p.scheme q.scheme && is_same_user p.user q.user && bytes_eq p.password q.password && bytes_eq p.host q.host
    && bytes_eq p.port q.port && bytes_eq p.rest q.rest

-- the text of these parts, where it reads as a `sip` URI of these parts
abbrev pub when_same : UriParts → Option UriParts → Option (List ℕ)
when_same p None = None
when_same p (Some q) = if is_same p q then Some (uri_text p) else None

abbrev pub uri_of : UriParts → Option (List ℕ)
uri_of p = when_same p (sip_parts (uri_text p))

-- a `sip` URI with another user; without a user it has no password either
abbrev pub user_replaced : Option (List ℕ) → UriParts → UriParts
user_replaced None p = record p { user = None; password = [] }
user_replaced (Some user) p = record p { user = Some user }

abbrev pub with_user : List ℕ → Option (List ℕ) → Option (List ℕ)
with_user text user = sip_parts text >>= (λ p. uri_of (user_replaced user p))

-- with another host
abbrev pub with_host : List ℕ → List ℕ → Option (List ℕ)
with_host text host = sip_parts text >>= (λ p. uri_of (record p { host = host }))

-- with another port
abbrev pub with_port : List ℕ → ℕ → Option (List ℕ)
with_port text port = sip_parts text >>= (λ p. uri_of (record p { port = codes ":" ++ decimal port }))
