-- What the first call of loose routing comes to, where there is a Route field.
use Rattle.std.proofs.Common.{◌≡◌, ℕ, Bool, true, false, not, List, ◌++◌, length, refl, sym, ap, ◌∙◌}
use Rattle.std.specs.Prelude.{◌==◌, Option, Some, None, negsuc, pos, if◌then◌else◌}
use Rattle.std.specs.List.{filter, flat_map}
use Rattle.sip_scan.specs.declared.field.HeaderSpan.{HeaderSpan}
use Rattle.sip_scan.specs.declared.field.Kind.TheVariants as kind
use Rattle.sip_msg.specs.Fields.{is_of}
use Rattle.msg_edits.specs.declared.parts.Edit.{Edit}
use Rattle.pv_table.specs.declared.facts.Facts.{Facts}
use Rattle.host_meaning.specs.declared.routing.RouteValue.{RouteValue}
use Rattle.host_meaning.specs.Run.{Received, Around, RunState, ComesTo, code, with_facts}
use Rattle.host_meaning.specs.Headers.{all_fit}
use Rattle.host_meaning.specs.Routing.{Way, values_of, route_fields, route_values, way, way_edits, settled, gone, first_call}

-- there is a Route field, and this is the way of the request
pub record Goes (a : Around) (r : Received) (facts : Facts) (w : Way) : Type 0 where
  pub some : (length (route_fields r) == 0) ≡ false
  pub is : w ≡ way a r.bytes (route_values r) facts.uri facts.destination

is_false : (b : Bool) → not b ≡ true → b ≡ false
is_false true e = sym e
is_false false e = refl

-- as the code finds it
pub goes : (a : Around) (r : Received) (facts : Facts) (fields : List HeaderSpan) (found : Bool) (items values : List RouteValue) (uri : List ℕ) (destination : Option (List ℕ)) (w : Way)
    → fields ≡ r.message.head.fields.items → found ≡ not (length (filter (is_of kind.Route) fields) == 0) → found ≡ true
    → items ≡ flat_map (values_of r.bytes) (filter (is_of kind.Route) fields) → values ≡ items → uri ≡ facts.uri → destination ≡ facts.destination
    → w ≡ way a r.bytes values uri destination → Goes a r facts w
goes a r facts fields found items values uri destination w of_fields has is_found of_items of_values of_uri of_destination of_way =
    let none = λ (l : List HeaderSpan). length (filter (is_of kind.Route) l) == 0 in
    let all = of_values ∙ of_items ∙ ap (λ (l : List HeaderSpan). flat_map (values_of r.bytes) (filter (is_of kind.Route) l)) of_fields in record {
      some = ap none (sym of_fields) ∙ is_false (none fields) (sym has ∙ is_found);
      is = of_way ∙ ap (λ (l : List RouteValue). way a r.bytes l uri destination) all ∙ ap (λ (t : List ℕ). way a r.bytes (route_values r) t destination) of_uri ∙ ap (λ (d : Option (List ℕ)). way a r.bytes (route_values r) facts.uri d) of_destination;
    }

follows : (a : Around) (r : Received) (s : RunState) (w : Way) → Goes a r s.facts w → first_call a r s ≡ gone r s w
follows a r s w g =
    let way_now = way a r.bytes (route_values r) s.facts.uri s.facts.destination in
    ap (λ (b : Bool). if b then settled (negsuc 0) s else gone r s way_now) g.some ∙ ap (λ (x : Way). gone r s x) (sym g.is)

-- its edits don't all fit
pub stays : (a : Around) (r : Received) (facts : Facts) (w : Way) (edits : List Edit) → Goes a r facts w → all_fit facts.edits (way_edits r w) ≡ false → edits ≡ facts.edits
    → ComesTo (first_call a r) facts (negsuc 1) (record facts { edits = edits; loose_route = Some (negsuc 1) })
stays a r facts w edits g fit same = λ blocks.
    let s : RunState = record { facts = facts; blocks = blocks } in
    let after = with_facts s (record s.facts { uri = w.uri; destination = w.destination; edits = s.facts.edits ++ way_edits r w }) in
    follows a r s w g
    ∙ ap (λ (b : Bool). if not b then settled (negsuc 1) s else settled (pos 1) after) fit
    ∙ ap (λ (l : List Edit). code (negsuc 1) (with_facts s (record facts { edits = l; loose_route = Some (negsuc 1) }))) (sym same)

-- they fit and are made
pub moves : (a : Around) (r : Received) (facts : Facts) (w : Way) (edits : List Edit) (uri : List ℕ) (destination : Option (List ℕ)) → Goes a r facts w
    → all_fit facts.edits (way_edits r w) ≡ true → edits ≡ facts.edits ++ way_edits r w → uri ≡ w.uri → destination ≡ w.destination
    → ComesTo (first_call a r) facts (pos 1) (record facts { edits = edits; uri = uri; destination = destination; loose_route = Some (pos 1) })
moves a r facts w edits uri destination g fit made of_uri of_destination = λ blocks.
    let s : RunState = record { facts = facts; blocks = blocks } in
    let after = with_facts s (record s.facts { uri = w.uri; destination = w.destination; edits = s.facts.edits ++ way_edits r w }) in
    let comes = λ (l : List Edit) (t : List ℕ) (d : Option (List ℕ)). code (pos 1) (with_facts s (record facts { edits = l; uri = t; destination = d; loose_route = Some (pos 1) })) in
    follows a r s w g
    ∙ ap (λ (b : Bool). if not b then settled (negsuc 1) s else settled (pos 1) after) fit
    ∙ ap (λ (l : List Edit). comes l w.uri w.destination) (sym made)
    ∙ ap (λ (t : List ℕ). comes edits t w.destination) (sym of_uri)
    ∙ ap (λ (d : Option (List ℕ)). comes edits uri d) (sym of_destination)
