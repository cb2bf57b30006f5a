-- The grammar of a value of Via, and of what may follow it in its field (RFC 3261, sections 20.42 and 25.1: via-parm).
use Rattle.std.specs.Prelude.{◌≡◌, ℕ, ◌+◌, ◌<◌, true, List, ◌++◌, length, drop, Option, Some, None, IfSome, codes}
use Rattle.std.specs.List.{list_all, AllByRecursion}
use Rattle.std.specs.Str.{str_eq_ignore_ascii_case}
use Rattle.sip_words.specs.ByteNames.{SLASH}
use Rattle.sip_words.specs.declared.bytes.Class.TheVariants.{Token}
use Rattle.sip_words.specs.declared.separators.Surroundings.TheVariants.{Field}
use Rattle.sip_words.specs.Bytes.{has}
use Rattle.sip_words.specs.Spans.{span}
use Rattle.sip_words.specs.Grammar.{Blank, lws, SeparatorTree, separator, IsWord, ValueTree, value, ParamTree, IsParam, params, named_tree, named_place}
use Rattle.sip_fields.specs.declared.via.Via.{Via}
use Rattle.sip_fields.specs.Via.{rport_of, received_of}
use Rattle.sip_fields.specs.Parts.{HostTree, host, IsHost, host_value, PortTree, port, IsPort, port_value, Tail, tail, IsTail, next_place, value_of_param}

pub record ViaTree : Type 0 where
  pub lead : List Blank
  pub sip : List ℕ
  pub slash : SeparatorTree
  pub version : List ℕ
  pub second_slash : SeparatorTree
  pub transport : List ℕ
  pub gap : List Blank
  pub host : HostTree
  pub port : Option PortTree
  pub params : List ParamTree
  pub tail : Tail

abbrev pub protocol : ViaTree → List ℕ
protocol t = t.sip ++ (separator SLASH t.slash ++ (t.version ++ (separator SLASH t.second_slash ++ (t.transport ++ lws t.gap))))

-- SIP/2.0/transport host:port;parameters
abbrev pub via : ViaTree → List ℕ
via t = lws t.lead ++ (protocol t ++ (host t.host ++ (port t.port ++ (params t.params ++ tail t.tail))))

abbrev pub HasToken : Option ValueTree → Type 0
HasToken None = ⊥
HasToken (Some v) = list_all (has Token) (value v) ≡ true

pub record IsVia (t : ViaTree) : Type 0 where
  pub sip : str_eq_ignore_ascii_case t.sip (codes "SIP") ≡ true
  pub version : str_eq_ignore_ascii_case t.version (codes "2.0") ≡ true
  pub transport : IsWord Token t.transport
  pub gap : 0 < length t.gap
  pub host : IsHost t.host
  pub port : IfSome t.port (IsPort Field)
  pub params : AllByRecursion (IsParam Field) t.params
  pub branch : IfSome (named_tree (codes "branch") t.params) (λ p. HasToken p.value)
  pub tail : IsTail t.tail

-- each part at its place, where the value's LWS begins at i
abbrev pub via_place : ℕ → ViaTree → Via
via_place i t =
    let start = i + length (lws t.lead) in
    let at = start + length (protocol t) in
    let host_end = at + length (host t.host) in
    let port_end = host_end + length (port t.port) in
    let end = port_end + length (params t.params) in
    record {
      host = host_value t.host;
      host_at = span at host_end;
      port = port_value t.port;
      branch = value_of_param (named_place (codes "branch") port_end t.params);
      rport = rport_of (named_place (codes "rport") port_end t.params);
      received = received_of (named_place (codes "received") port_end t.params);
      whole = span start end;
      next = next_place end t.tail;
    }

-- a value of Via begins at i, and v has its parts at their places
abbrev pub IsViaAt : List ℕ → ℕ → Via → Type 0
IsViaAt text i v = (t : ViaTree) × IsVia t × (drop i text ≡ via t) × (v ≡ via_place i t)
