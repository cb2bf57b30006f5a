-- What is read in a part of a text lies in it.
use Rattle.std.proofs.Common.{◌≡◌, ℕ, ◌+◌, ◌<◌, ◌≤◌, List, [], ◌∷◌, ◌++◌, length, length-append, sym, subst, ◌∙◌, arith, Option, Some, None}
use Rattle.std.specs.Prelude.{IfSome, codes}
use Rattle.std.proofs.lemmas.Option.{same_Some, IfSome_then}
use Rattle.sip_words.specs.declared.Span.{Span}
use Rattle.sip_words.specs.declared.params.Param.{Param}
use Rattle.sip_words.specs.Spans.{span, IsBetween, HasParts}
use Rattle.sip_words.specs.Grammar.{lws, separator, ParamTree, params, named_place}
use Rattle.sip_words.proofs.Lies.{ends_text, wider_span, wider_parts, separator_length, named_lies}
use Rattle.sip_fields.specs.declared.via.Via.{Via}
use Rattle.sip_fields.specs.declared.name_addr.NameAddr.{NameAddr}
use Rattle.sip_fields.specs.declared.cseq.CSeq.{CSeq}
use Rattle.sip_fields.specs.Parts.{host, host_value, port, port_value, Tail, Last, More, tail, next_place, value_of_param}
use Rattle.sip_fields.specs.Via.{rport_value, rport_of, with_value, received_of, via_at, IsRportBetween, IsViaBetween}
use Rattle.sip_fields.specs.ViaGrammar.{ViaTree, protocol, via, via_place}
use Rattle.sip_fields.specs.NameAddr.{name_addr_at, IsNameAddrBetween}
use Rattle.sip_fields.specs.UriGrammar.{absolute}
use Rattle.sip_fields.specs.NameAddrGrammar.{display, AddressTree, Bracketed, Plain, address, address_place, NameAddrTree, name_addr, name_addr_place}
use Rattle.sip_fields.specs.CSeq.{cseq_at, IsCSeqBetween}
use Rattle.sip_fields.specs.CSeqGrammar.{CSeqTree, cseq, cseq_place}
use Rattle.sip_fields.proofs.ViaAgain.{via_again}
use Rattle.sip_fields.proofs.ViaTakes.{via_takes}
use Rattle.sip_fields.proofs.NameAddrLaw.{name_addr_again, name_addr_takes}
use Rattle.sip_fields.proofs.CSeqLaw.{cseq_again, cseq_takes}

-- the parameter of a name, where the parameters lie from i to j
named_within : (name : List ℕ) (i j at : ℕ) (ps : List ParamTree) → i ≤ at → at + length (params ps) ≤ j → IfSome (named_place name at ps) (HasParts i j)
named_within name i j at ps low high = IfSome_then (named_place name at ps) (named_lies name at ps) (λ p lie. wider_parts at (at + length (params ps)) i j p low high lie)

value_lies : (i j : ℕ) (o : Option Param) → IfSome o (HasParts i j) → IfSome (value_of_param o) (IsBetween i j)
value_lies i j None lie = tt
value_lies i j (Some p) lie = lie.value

rport_lies : (i j : ℕ) (o : Option Param) → IfSome o (HasParts i j) → IsRportBetween i j (rport_of o)
rport_lies i j None lie = tt
rport_lies i j (Some p) lie = by_value p.value lie.value
  where
    by_value : (v : Option Span) → IfSome v (IsBetween i j) → IsRportBetween i j (rport_value p.name v)
    by_value None h = lie.name
    by_value (Some s) h = h

received_lies : (i j : ℕ) (o : Option Param) → IfSome o (HasParts i j) → IfSome (received_of o) (IsBetween i j)
received_lies i j None lie = tt
received_lies i j (Some p) lie = by_value p.value
  where
    by_value : (v : Option Span) → IfSome (with_value p.whole v) (IsBetween i j)
    by_value None = tt
    by_value (Some s) = lie.whole

next_lies : (i j end : ℕ) (t : Tail) → i ≤ end → end + length (tail t) ≤ j → IfSome (next_place end t) (λ n. (i < n) × (n ≤ j))
next_lies i j end (Last bs) low high = tt
next_lies i j end (More m rest) low high = let len = separator_length 44 m in let whole = length-append (separator 44 m) rest in (omega (arith, low, len), omega (arith, high, whole))

-- lengths of texts that stand one behind the other
three : (a b c : List ℕ) → length (a ++ (b ++ c)) ≡ length a + length b + length c
three a b c = omega (arith, length-append a (b ++ c), length-append b c)

four : (a b c d : List ℕ) → length (a ++ (b ++ (c ++ d))) ≡ length a + length b + length c + length d
four a b c d = omega (arith, length-append a (b ++ (c ++ d)), three b c d)

five : (a b c d e : List ℕ) → length (a ++ (b ++ (c ++ (d ++ e)))) ≡ length a + length b + length c + length d + length e
five a b c d e = omega (arith, length-append a (b ++ (c ++ (d ++ e))), four b c d e)

six : (a b c d e f : List ℕ) → length (a ++ (b ++ (c ++ (d ++ (e ++ f))))) ≡ length a + length b + length c + length d + length e + length f
six a b c d e f = omega (arith, length-append a (b ++ (c ++ (d ++ (e ++ f)))), five b c d e f)

-- a span of m bytes that begins at a place
piece : (i j at m : ℕ) → i ≤ at → at + m ≤ j → IsBetween i j (span at (at + m))
piece i j at m low high = record { low = low; order = omega arith; high = high }

-- each part of a value of Via, by the lengths of its texts
pub via_lies : (i j : ℕ) (t : ViaTree) → i + length (via t) ≤ j → IsViaBetween i j (via_place i t)
via_lies i j t inside =
    let len = six (lws t.lead) (protocol t) (host t.host) (port t.port) (params t.params) (tail t.tail) in
    by_lengths (length (lws t.lead)) (length (protocol t)) (length (host t.host)) (length (port t.port)) (omega (arith, inside, len))
  where
    by_lengths : (lead front name number : ℕ) → i + lead + front + name + number + length (params t.params) + length (tail t.tail) ≤ j
        → let at = i + lead + front in
        let port_end = at + name + number in
        let end = port_end + length (params t.params) in
        let v : Via = record {
          host = host_value t.host;
          host_at = span at (at + name);
          port = port_value t.port;
          branch = value_of_param (named_place (codes "branch") port_end t.params);
          rport = rport_of (named_place (codes "rport") port_end t.params);
          received = received_of (named_place (codes "received") port_end t.params);
          whole = span (i + lead) end;
          next = next_place end t.tail;
        } in
        IsViaBetween i j v
    by_lengths lead front name number all =
        let at = i + lead + front + name + number in
        let low : i ≤ at = omega arith in
        let high : at + length (params t.params) ≤ j = omega (arith, all) in
        record {
          host_at = piece i j (i + lead + front) name (omega arith) (omega (arith, all));
          branch = value_lies i j _ (named_within (codes "branch") i j at t.params low high);
          rport = rport_lies i j _ (named_within (codes "rport") i j at t.params low high);
          received = received_lies i j _ (named_within (codes "received") i j at t.params low high);
          whole = record { low = omega arith; order = omega arith; high = high };
          next = next_lies i j (at + length (params t.params)) t.tail (omega arith) (omega (arith, all));
        }

pub via_between : (text : List ℕ) (i : ℕ) (v : Via) → i ≤ length text → via_at text i ≡ Some v → IsViaBetween i (length text) v
via_between text i v le h =
    let t = via_takes text i v h in
    let place : via_place i t.0 ≡ v = same_Some _ v (sym (via_again text i t.0 le t.2 t.1) ∙ h) in
    let end = ends_text text i (via t.0) le t.2 in
    subst (IsViaBetween i (length text)) place (via_lies i (length text) t.0 (omega (arith, end)))

-- the URI of an address
address_lies : (i : ℕ) (a : AddressTree) → IsBetween i (i + length (address a)) (address_place i a)
address_lies i (Bracketed d u) =
    let len = length-append (display d) (60 ∷ (absolute u ++ 62 ∷ [])) in
    let rest = length-append (absolute u) (62 ∷ []) in
    piece i (i + length (address (Bracketed d u))) (i + length (display d) + 1) (length (absolute u)) (omega arith) (omega (arith, len, rest))
address_lies i (Plain u) = piece i (i + length (absolute u)) i (length (absolute u)) (omega arith) (omega arith)

-- each part of a value of From, To or Route
pub name_addr_lies : (i j : ℕ) (t : NameAddrTree) → i + length (name_addr t) ≤ j → IsNameAddrBetween i j (name_addr_place i t)
name_addr_lies i j t inside =
    let len = four (lws t.lead) (address t.address) (params t.params) (tail t.tail) in
    by_lengths (length (lws t.lead)) (length (address t.address)) (address_lies (i + length (lws t.lead)) t.address) (omega (arith, inside, len))
  where
    by_lengths : (lead front : ℕ) → IsBetween (i + lead) (i + lead + front) (address_place (i + lead) t.address) → i + lead + front + length (params t.params) + length (tail t.tail) ≤ j
        → let at = i + lead + front in
        let end = at + length (params t.params) in
        let n : NameAddr = record {
          uri = address_place (i + lead) t.address;
          tag = value_of_param (named_place (codes "tag") at t.params);
          whole = span (i + lead) end;
          next = next_place end t.tail;
        } in
        IsNameAddrBetween i j n
    by_lengths lead front uri all =
        let at = i + lead + front in
        let low : i ≤ at = omega arith in
        let high : at + length (params t.params) ≤ j = omega (arith, all) in
        record {
          uri = wider_span (i + lead) at i j (address_place (i + lead) t.address) (omega arith) (omega (arith, all)) uri;
          tag = value_lies i j _ (named_within (codes "tag") i j at t.params low high);
          whole = record { low = omega arith; order = omega arith; high = high };
          next = next_lies i j (at + length (params t.params)) t.tail (omega arith) (omega (arith, all));
        }

pub name_addr_between : (text : List ℕ) (i : ℕ) (n : NameAddr) → i ≤ length text → name_addr_at text i ≡ Some n → IsNameAddrBetween i (length text) n
name_addr_between text i n le h =
    let t = name_addr_takes text i n h in
    let place : name_addr_place i t.0 ≡ n = same_Some _ n (sym (name_addr_again text i t.0 le t.2 t.1) ∙ h) in
    let end = ends_text text i (name_addr t.0) le t.2 in
    subst (IsNameAddrBetween i (length text)) place (name_addr_lies i (length text) t.0 (omega (arith, end)))

-- the method of a value of CSeq
pub cseq_lies : (i j : ℕ) (t : CSeqTree) → i + length (cseq t) ≤ j → IsCSeqBetween i j (cseq_place i t)
cseq_lies i j t inside =
    let len = five (lws t.lead) t.digits (lws t.gap) t.method (lws t.trail) in
    record { method = piece i j (i + length (lws t.lead) + length t.digits + length (lws t.gap)) (length t.method) (omega arith) (omega (arith, inside, len)) }

pub cseq_between : (text : List ℕ) (i : ℕ) (c : CSeq) → i ≤ length text → cseq_at text i ≡ Some c → IsCSeqBetween i (length text) c
cseq_between text i c le h =
    let t = cseq_takes text i c h in
    let place : cseq_place i t.0 ≡ c = same_Some _ c (sym (cseq_again text i t.0 le t.2 t.1) ∙ h) in
    let end = ends_text text i (cseq t.0) le t.2 in
    subst (IsCSeqBetween i (length text)) place (cseq_lies i (length text) t.0 (omega (arith, end)))
