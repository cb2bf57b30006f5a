-- The grammar of a value of From, To and Route, and of what may follow it in its field (RFC 3261, sections 20.10, 20.20, 20.34 and 25.1:
-- name-addr, addr-spec).
use Rattle.std.specs.Prelude.{◌≡◌, ℕ, ◌+◌, ◌<◌, List, [], ◌∷◌, ◌++◌, length, drop, codes}
use Rattle.std.specs.List.{flat_map, AllByRecursion}
use Rattle.sip_words.specs.ByteNames.{LAQUOT, RAQUOT}
use Rattle.sip_words.specs.declared.Span.{Span}
use Rattle.sip_words.specs.declared.bytes.Class.TheVariants as class
use Rattle.sip_words.specs.declared.separators.Surroundings.TheVariants.{Field}
use Rattle.sip_words.specs.Spans.{span}
use Rattle.sip_words.specs.Grammar.{Blank, lws, IsWord, Quotable, IsQuotable, quoted, ParamTree, IsParam, params, named_place}
use Rattle.sip_fields.specs.declared.name_addr.NameAddr.{NameAddr}
use Rattle.sip_fields.specs.Parts.{Tail, tail, IsTail, next_place, value_of_param}
use Rattle.sip_fields.specs.UriGrammar.{AbsoluteTree, absolute, IsAbsolute, AreAll, UriTree, uri, IsUri}

-- a token behind LWS
pub record SpacedToken : Type 0 where
  pub gap : List Blank
  pub token : List ℕ

abbrev pub spaced_token : SpacedToken → List ℕ
spaced_token n = lws n.gap ++ n.token

pub record IsSpacedToken (n : SpacedToken) : Type 0 where
  pub gap : 0 < length n.gap
  pub token : IsWord class.Token n.token

-- a display name, with the LWS behind it: none, a quoted string, or tokens with LWS between
pub data DisplayTree : Type 0 where
  Nothing : DisplayTree
  Quotation : List Quotable → List Blank → DisplayTree
  Tokens : List ℕ → List SpacedToken → List Blank → DisplayTree

abbrev pub display : DisplayTree → List ℕ
display Nothing = []
display (Quotation q gap) = quoted q ++ lws gap
display (Tokens first more gap) = first ++ (flat_map spaced_token more ++ lws gap)

abbrev pub IsDisplay : DisplayTree → Type 0
IsDisplay Nothing = Unit {0}
IsDisplay (Quotation q gap) = AllByRecursion IsQuotable q
IsDisplay (Tokens first more gap) = IsWord class.Token first × AllByRecursion IsSpacedToken more

-- a display name and <uri>; or a uri alone
pub data AddressTree : Type 0 where
  Bracketed : DisplayTree → AbsoluteTree → AddressTree
  Plain : AbsoluteTree → AddressTree

abbrev pub address : AddressTree → List ℕ
address (Bracketed d u) = display d ++ (LAQUOT ∷ (absolute u ++ RAQUOT ∷ []))
address (Plain u) = absolute u

pub record IsBracketed (d : DisplayTree) (u : AbsoluteTree) : Type 0 where
  pub display : IsDisplay d
  pub uri : IsAbsolute u
  pub bytes : AreAll class.InBrackets (absolute u)

pub record IsPlain (u : AbsoluteTree) : Type 0 where
  pub uri : IsAbsolute u
  pub bytes : AreAll class.Bare (absolute u)

abbrev pub IsAddress : AddressTree → Type 0
IsAddress (Bracketed d u) = IsBracketed d u
IsAddress (Plain u) = IsPlain u

-- the place of the uri, where the address begins at i
abbrev pub address_place : ℕ → AddressTree → Span
address_place i (Bracketed d u) = let at = i + length (display d) + 1 in span at (at + length (absolute u))
address_place i (Plain u) = span i (i + length (absolute u))

-- address;parameters
pub record NameAddrTree : Type 0 where
  pub lead : List Blank
  pub address : AddressTree
  pub params : List ParamTree
  pub tail : Tail

abbrev pub name_addr : NameAddrTree → List ℕ
name_addr t = lws t.lead ++ (address t.address ++ (params t.params ++ tail t.tail))

pub record IsNameAddr (t : NameAddrTree) : Type 0 where
  pub address : IsAddress t.address
  pub params : AllByRecursion (IsParam Field) t.params
  pub tail : IsTail t.tail

-- each part at its place, where the value's LWS begins at i
abbrev pub name_addr_place : ℕ → NameAddrTree → NameAddr
name_addr_place i t =
    let start = i + length (lws t.lead) in
    let address_end = start + length (address t.address) in
    let end = address_end + length (params t.params) in
    record {
      uri = address_place start t.address;
      tag = value_of_param (named_place (codes "tag") address_end t.params);
      whole = span start end;
      next = next_place end t.tail;
    }

-- a value of From or To begins at i, and n has its parts at their places
abbrev pub IsNameAddrAt : List ℕ → ℕ → NameAddr → Type 0
IsNameAddrAt text i n = (t : NameAddrTree) × IsNameAddr t × (drop i text ≡ name_addr t) × (n ≡ name_addr_place i t)

-- in Route the uri stands in brackets and reads by itself
abbrev pub IsRouteAddress : AddressTree → Type 0
IsRouteAddress (Bracketed d u) = (t : UriTree) × IsUri t × (absolute u ≡ uri t)
IsRouteAddress (Plain u) = ⊥

pub record IsRoute (t : NameAddrTree) : Type 0 where
  pub value : IsNameAddr t
  pub address : IsRouteAddress t.address

-- a value of Route begins at i, and n has its parts at their places
abbrev pub IsRouteAt : List ℕ → ℕ → NameAddr → Type 0
IsRouteAt text i n = (t : NameAddrTree) × IsRoute t × (drop i text ≡ name_addr t) × (n ≡ name_addr_place i t)
