-- From, To and Route: what the grammar spells is read again, and what is read is spelled by the grammar.
use Rattle.std.proofs.Common.{◌≡◌, ℕ, ◌+◌, ◌≤◌, List, ◌++◌, length, drop, refl, subst, sym, ap, ◌∙◌, Option, Some, None}
use Rattle.std.specs.Prelude.{codes}
use Rattle.sip_words.specs.declared.Span.{Span}
use Rattle.sip_words.specs.declared.separators.Surroundings.TheVariants.{Field}
use Rattle.sip_words.specs.declared.params.Param.{Param}
use Rattle.sip_words.specs.Words.{lws_end}
use Rattle.sip_words.specs.Params.{params_at}
use Rattle.sip_words.specs.Grammar.{Blank, lws, params, named_place}
use Rattle.sip_words.proofs.Steps.{bind_some}
use Rattle.sip_words.proofs.Pieces.{behind, within, lws_again}
use Rattle.sip_words.proofs.Again.{stops_params, params_again, named_is}
use Rattle.sip_words.proofs.Takes.{Takes, lws_takes, params_takes}
use Rattle.sip_fields.specs.declared.name_addr.NameAddr.{NameAddr}
use Rattle.sip_fields.specs.Tail.{next_at}
use Rattle.sip_fields.specs.NameAddr.{any_uri, route_uri, tag_of, rest_at, name_addr_at, route_at}
use Rattle.sip_fields.specs.Parts.{tail, value_of_param}
use Rattle.sip_fields.specs.NameAddrGrammar.{AddressTree, address, IsAddress, address_place, IsRouteAddress, NameAddrTree, name_addr, IsNameAddr, name_addr_place, IsRoute}
use Rattle.sip_fields.proofs.Ports.{no_separator_here, tail_without, stops_tail, next_again, next_takes}
use Rattle.sip_fields.proofs.Addresses.{address_again, address_solid, address_takes, route_again, route_takes}

tag_is : (o : Option Param) → tag_of o ≡ value_of_param o
tag_is None = refl
tag_is (Some p) = refl

-- behind the address
rest_again : (text : List ℕ) (i : ℕ) (t : NameAddrTree) → i ≤ length text → drop i text ≡ name_addr t → IsNameAddr t → rest_at text (i + length (lws t.lead)) (address_place (i + length (lws t.lead)) t.address, i + length (lws t.lead) + length (address t.address)) ≡ Some (name_addr_place i t)
unfolding rest_at
rest_again text i t le h is =
    let at_1 = behind text i (lws t.lead) _ h in
    let at_2 = behind text _ (address t.address) _ at_1 in
    let at_3 = behind text _ (params t.params) _ at_2 in
    let none = no_separator_here Field 59 text _ (tail t.tail) at_3 (tail_without 59 t.tail refl) in
    let params_is = params_again Field text _ t.params (tail t.tail) at_2 is.params (stops_tail t.tail) none in
    let tag_name = named_is (codes "tag") text _ t.params _ at_2 in
    let tag = tag_is (named_place (codes "tag") (i + length (lws t.lead) + length (address t.address)) t.params) in
    let in_1 = within text i (lws t.lead) _ le h in
    let in_2 = within text _ (address t.address) _ in_1 at_1 in
    let in_3 = within text _ (params t.params) _ in_2 at_2 in
    let next = next_again text _ t.tail in_3 at_3 is.tail in
    rw (params_is, tag_name, tag, next) refl

pub name_addr_again : (text : List ℕ) (i : ℕ) (t : NameAddrTree) → i ≤ length text → drop i text ≡ name_addr t → IsNameAddr t → name_addr_at text i ≡ Some (name_addr_place i t)
unfolding name_addr_at
name_addr_again text i t le h is =
    let start = lws_again text i t.lead _ h (address_solid t.address _ is.address) in
    let at_1 = behind text i (lws t.lead) _ h in
    let uri_is = address_again text _ t.address _ at_1 is.address (stops_params Field t.params (tail t.tail) is.params (stops_tail t.tail)) in
    rw (start, uri_is) (rest_again text i t le h is)

pub route_value_again : (text : List ℕ) (i : ℕ) (t : NameAddrTree) → i ≤ length text → drop i text ≡ name_addr t → IsRoute t → route_at text i ≡ Some (name_addr_place i t)
unfolding route_at
route_value_again text i t le h is =
    let value = is.value in
    let start = lws_again text i t.lead _ h (address_solid t.address _ value.address) in
    let at_1 = behind text i (lws t.lead) _ h in
    let in_1 = within text i (lws t.lead) _ le h in
    let uri_is = route_again text _ t.address _ in_1 at_1 value.address is.address in
    rw (start, uri_is) (rest_again text i t le h value)

-- behind an address that was taken
rest_takes : (text : List ℕ) (i start : ℕ) (u : Span × ℕ) (n : NameAddr) (a : AddressTree) → rest_at text start u ≡ Some n → (lead : List Blank) → Takes text i start (lws lead) → Takes text start u.1 (address a) → IsAddress a → (t : NameAddrTree) × IsNameAddr t × (drop i text ≡ name_addr t) × (t.address ≡ a)
unfolding rest_at
rest_takes text i start u n a h lead before takes is =
    let ps = bind_some (params_at Field text u.1) _ n h in
    let next = bind_some (next_at text ps.0.1) _ n ps.2 in
    let q = params_takes Field text u.1 ps.0 ps.1 in
    let r = next_takes text ps.0.1 next.0 next.1 in
    let tree : NameAddrTree = record { lead = lead; address = a; params = q.trees; tail = r.0 } in
    let whole : drop i text ≡ name_addr tree = before.whole ∙ ap (λ xs. lws lead ++ xs) (takes.whole ∙ ap (λ xs. address a ++ xs) (q.takes.whole ∙ ap (λ xs. params q.trees ++ xs) r.1)) in
    (tree, record { address = is; params = q.are; tail = r.2 }, whole, refl)

pub name_addr_takes : (text : List ℕ) (i : ℕ) (n : NameAddr) → name_addr_at text i ≡ Some n → (t : NameAddrTree) × IsNameAddr t × (drop i text ≡ name_addr t)
unfolding name_addr_at
name_addr_takes text i n h =
    let lead = lws_takes text i in
    let u = bind_some (any_uri text (lws_end text i)) _ n h in
    let a = address_takes text (lws_end text i) u.0 u.1 in
    let t = rest_takes text i (lws_end text i) u.0 n a.0 u.2 lead.0 lead.1 a.1 a.2 in
    (t.0, t.1, t.2)

pub route_value_takes : (text : List ℕ) (i : ℕ) (n : NameAddr) → i ≤ length text → route_at text i ≡ Some n → (t : NameAddrTree) × IsRoute t × (drop i text ≡ name_addr t)
unfolding route_at
route_value_takes text i n le h =
    let lead = lws_takes text i in
    let u = bind_some (route_uri text (lws_end text i)) _ n h in
    let lead_takes = lead.1 in
    let in_1 : lws_end text i ≤ length text = subst (λ k. k ≤ length text) (sym lead_takes.end) (within text i (lws lead.0) _ le lead_takes.whole) in
    let a = route_takes text (lws_end text i) u.0 in_1 u.1 in
    let t = rest_takes text i (lws_end text i) u.0 n a.0 u.2 lead.0 lead.1 a.1 a.2 in
    (t.0, record { value = t.1; address = subst IsRouteAddress (sym t.3) a.3 }, t.2)
