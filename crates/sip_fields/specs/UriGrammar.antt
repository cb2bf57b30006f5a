-- The grammar of URIs (RFC 3261, sections 19.1.1 and 25.1: SIP-URI, SIPS-URI, absoluteURI).
use Rattle.std.specs.Prelude.{◌≡◌, ◌≢◌, ℕ, ◌+◌, ◌<◌, true, false, List, [], ◌∷◌, ◌++◌, length, drop, is_some, Option, Some, None, IfSome, IfNone, codes}
use Rattle.std.specs.List.{AllByRecursion}
use Rattle.sip_words.specs.ByteNames.{COLON, QUESTION, AT}
use Rattle.sip_words.specs.declared.Span.{Span}
use Rattle.sip_words.specs.declared.bytes.Class.{Class}
use Rattle.sip_words.specs.declared.bytes.Class.TheVariants.{Letter, Scheme, User, Password, BeforeAt}
use Rattle.sip_words.specs.declared.separators.Surroundings.TheVariants as surroundings
use Rattle.sip_words.specs.Bytes.{has}
use Rattle.sip_words.specs.Spans.{span}
use Rattle.sip_words.specs.Grammar.{IsWord, ParamTree, IsParam, params, named_tree}
use Rattle.sip_fields.specs.declared.host.Host.TheVariants.{Name}
use Rattle.sip_fields.specs.declared.uri.Uri.{Uri}
use Rattle.sip_fields.specs.declared.uri.Scheme.TheVariants.{Other}
use Rattle.sip_fields.specs.Uri.{scheme_of}
use Rattle.sip_fields.specs.Parts.{HostTree, host, IsHost, host_value, PortTree, port, IsPort, port_value}

-- its first byte is of the class
abbrev pub Starts : Class → List ℕ → Type 0
Starts class [] = ⊥
Starts class (b ∷ w) = has class b ≡ true

-- zero or more bytes of a class
abbrev pub AreAll : Class → List ℕ → Type 0
AreAll class w = AllByRecursion (λ b. has class b ≡ true) w

-- a letter, then letters, digits, + - and .
pub record IsScheme (w : List ℕ) : Type 0 where
  pub first : Starts Letter w
  pub all : AreAll Scheme w

-- scheme:rest
pub record AbsoluteTree : Type 0 where
  pub scheme : List ℕ
  pub rest : List ℕ

abbrev pub absolute : AbsoluteTree → List ℕ
absolute t = t.scheme ++ (COLON ∷ t.rest)

pub record IsAbsolute (t : AbsoluteTree) : Type 0 where
  pub scheme : IsScheme t.scheme
  pub rest : 0 < length t.rest

-- user@ or user:password@
pub record LoginTree : Type 0 where
  pub user : List ℕ
  pub password : Option (List ℕ)

abbrev pub password : Option (List ℕ) → List ℕ
password None = []
password (Some w) = COLON ∷ w

abbrev pub login : Option LoginTree → List ℕ
login None = []
login (Some l) = l.user ++ (password l.password ++ AT ∷ [])

pub record IsLogin (l : LoginTree) : Type 0 where
  pub user : IsWord User l.user
  pub password : IfSome l.password (AreAll Password)

abbrev pub headers : Option (List ℕ) → List ℕ
headers None = []
headers (Some w) = QUESTION ∷ w

-- sip: or sips:, then user:password@host:port;parameters?headers
pub record SipTree : Type 0 where
  pub scheme : List ℕ
  pub login : Option LoginTree
  pub host : HostTree
  pub port : Option PortTree
  pub params : List ParamTree
  pub headers : Option (List ℕ)

abbrev pub behind_login : SipTree → List ℕ
behind_login t = host t.host ++ (port t.port ++ (params t.params ++ headers t.headers))

-- a user stands exactly where an @ comes
pub record IsSip (t : SipTree) : Type 0 where
  pub scheme : IsScheme t.scheme
  pub kind : scheme_of t.scheme ≢ Other
  pub login : IfSome t.login IsLogin
  pub no_login : IfNone t.login (AreAll BeforeAt (behind_login t))
  pub host : IsHost t.host
  pub port : IfSome t.port (IsPort surroundings.Uri)
  pub params : AllByRecursion (IsParam surroundings.Uri) t.params

pub data UriTree : Type 0 where
  SipUri : SipTree → UriTree
  OtherUri : AbsoluteTree → UriTree

abbrev pub uri : UriTree → List ℕ
uri (SipUri t) = t.scheme ++ (COLON ∷ (login t.login ++ behind_login t))
uri (OtherUri t) = absolute t

pub record IsOther (t : AbsoluteTree) : Type 0 where
  pub absolute : IsAbsolute t
  pub kind : scheme_of t.scheme ≡ Other

abbrev pub IsUri : UriTree → Type 0
IsUri (SipUri t) = IsSip t
IsUri (OtherUri t) = IsOther t

abbrev pub user_place : ℕ → Option LoginTree → Option Span
user_place i None = None
user_place i (Some l) = Some (span i (i + length l.user))

-- each part at its place, where the URI begins at i
abbrev pub uri_place : ℕ → UriTree → Uri
uri_place i (SipUri t) =
    let at = i + length t.scheme + 1 in
    let host_from = at + length (login t.login) in
    record {
      scheme = scheme_of t.scheme;
      user = user_place at t.login;
      host = host_value t.host;
      host_at = span host_from (host_from + length (host t.host));
      port = port_value t.port;
      lr = is_some (named_tree (codes "lr") t.params);
    }
uri_place i (OtherUri t) =
    let at = i + length t.scheme + 1 in
    record { scheme = Other; user = None; host = Name; host_at = span at at; port = None; lr = false }

-- from i to the end of the text stands a URI, and u has its parts at their places
abbrev pub IsUriAt : List ℕ → ℕ → Uri → Type 0
IsUriAt text i u = (t : UriTree) × IsUri t × (drop i text ≡ uri t) × (u ≡ uri_place i t)
