-- Route processing: loose_route() (RFC 3261, sections 16.4 and 16.12).
use Rattle.std.specs.Prelude.{ℕ, ℤ, zero, suc, ◌+◌, ◌-◌, ◌==◌, pos, negsuc, Bool, true, false, not, ◌&&◌, List, [], ◌∷◌, ◌++◌, length, take, map, Option, Some, None, if◌then◌else◌, codes}
use Rattle.std.specs.List.{filter, flat_map, list_any, list_all, last_or}
use Rattle.sip_words.specs.declared.Span.{Span}
use Rattle.sip_words.specs.Spans.{span}
use Rattle.sip_fields.specs.declared.name_addr.NameAddr.{NameAddr}
use Rattle.sip_fields.specs.NameAddr.{route_at}
use Rattle.sip_scan.specs.declared.field.HeaderSpan.{HeaderSpan}
use Rattle.sip_scan.specs.declared.field.Kind.TheVariants as kind
use Rattle.sip_msg.specs.Fields.{is_of}
use Rattle.msg_edits.specs.declared.parts.Edit.{Edit}
use Rattle.msg_edits.specs.declared.parts.Edit.TheVariants.{Cut, Insert}
use Rattle.pv_table.specs.UriParts.{bytes_at}
use Rattle.host_meaning.specs.declared.routing.RouteValue.{RouteValue}
use Rattle.host_meaning.specs.Run.{Received, Around, RunState, RowCourse, code, with_facts}
use Rattle.host_meaning.specs.Ours.{is_ours, is_loose}
use Rattle.host_meaning.specs.Headers.{all_fit, before_empty_line}

-- ---- the values of the Route fields

-- what is cut with a value where its field stays: all up to the next value; with the last one, all from the end of the one before it
abbrev pub alone : Option ℕ → Span → Option ℕ → Span
alone before whole (Some next) = span whole.from next
alone None whole None = whole
alone (Some end) whole None = span end whole.to

abbrev pub route_value : Option ℕ → NameAddr → RouteValue
route_value before n = record { uri = n.uri; from = n.whole.from; alone = alone before n.whole n.next }

abbrev pub with_rest : Option ℕ → (ℕ → List RouteValue) → List RouteValue
with_rest None rest = []
with_rest (Some place) rest = rest place

abbrev pub and_rest : Option ℕ → Option NameAddr → (Option ℕ → ℕ → List RouteValue) → List RouteValue
and_rest before None rest = []
and_rest before (Some n) rest = route_value before n ∷ with_rest n.next (rest (Some n.whole.to))

-- the values from a place on, behind the end of the one before; n is above their number
abbrev pub values_from : ℕ → List ℕ → Option ℕ → ℕ → List RouteValue
values_from zero text before i = []
values_from (suc n) text before i = and_rest before (route_at text i) (values_from n text)

abbrev pub values_of : List ℕ → HeaderSpan → List RouteValue
values_of b f = values_from (suc (length b)) (take f.value.to b) None f.value.from

abbrev pub route_fields : Received → List HeaderSpan
route_fields r = filter (is_of kind.Route) r.message.head.fields.items

abbrev pub route_values : Received → List RouteValue
route_values r = flat_map (values_of r.bytes) (route_fields r)

-- ---- the three rules, one after another

-- the way of a request so far: its target, its destination, the places of the values that are cut, the values that are left, and a
-- target that goes back among the Route fields
pub record Way : Type 0 where
  pub uri : List ℕ
  pub destination : Option (List ℕ)
  pub cut : List ℕ
  pub left : List RouteValue
  pub back : Option (List ℕ)

-- all values but the last
abbrev pub without_last : List RouteValue → List RouteValue
without_last values = take (length values - 1) values

-- a strict router sent the request here: the last Route value is its target
abbrev pub last_becomes : List ℕ → Way → Option RouteValue → Way
last_becomes b w None = w
last_becomes b w (Some v) = record w { uri = bytes_at b v.uri; cut = w.cut ++ v.from ∷ []; left = without_last w.left }

abbrev pub from_strict : Around → List ℕ → Way → Way
from_strict a b w = if is_ours a w.uri && is_loose w.uri then last_becomes b w (last_or None w.left) else w

-- a top value that is ours is cut
abbrev pub top_cut : Around → List ℕ → Way → List RouteValue → Way
top_cut a b w [] = w
top_cut a b w (v ∷ vs) = if is_ours a (bytes_at b v.uri) then record w { cut = w.cut ++ v.from ∷ []; left = vs } else w

-- the next router: by the destination where it is a loose one; a strict one becomes the target, and the target goes behind the
-- Route fields. Where no value is left there is none
abbrev pub to_next : List ℕ → Way → List RouteValue → Way
to_next b w [] = w
to_next b w (v ∷ vs) =
    if is_loose (bytes_at b v.uri) then record w { destination = Some (bytes_at b v.uri) }
    else record w { uri = bytes_at b v.uri; cut = w.cut ++ v.from ∷ []; left = vs; back = Some w.uri }

abbrev pub onward : List ℕ → Way → Way
onward b w = to_next b w w.left

abbrev pub behind_strict : Around → List ℕ → Way → Way
behind_strict a b w = onward b (top_cut a b w w.left)

-- the way of a request with these Route values, this target and this destination
abbrev pub way : Around → List ℕ → List RouteValue → List ℕ → Option (List ℕ) → Way
way a b values uri destination =
    behind_strict a b (from_strict a b (record { uri = uri; destination = destination; cut = []; left = values; back = None }))

-- ---- its edits

abbrev pub is_among : List ℕ → RouteValue → Bool
is_among cut v = list_any (λ place. place == v.from) cut

-- a field all of whose values are cut is cut whole
abbrev pub cuts_in : List ℕ → HeaderSpan → List RouteValue → List Edit
cuts_in cut f values =
    if list_all (is_among cut) values then Cut f.whole ∷ []
    else map (λ v. Cut v.alone) (filter (is_among cut) values)

-- Route: <URI>
abbrev pub route_line : List ℕ → List ℕ
route_line uri = codes "Route: <" ++ (uri ++ codes ">\r\n")

abbrev pub back_edit : Received → Option (List ℕ) → List Edit
back_edit r None = []
back_edit r (Some uri) = before_empty_line r.message (route_line uri) ∷ []

abbrev pub way_edits : Received → Way → List Edit
way_edits r w = flat_map (λ f. cuts_in w.cut f (values_of r.bytes f)) (route_fields r) ++ back_edit r w.back

-- ---- the call

-- the code is kept for later calls
abbrev pub settled : ℤ → RunState → RowCourse
settled n s = code n (with_facts s (record s.facts { loose_route = Some n }))

abbrev pub gone : Received → RunState → Way → RowCourse
gone r s w =
    if not (all_fit s.facts.edits (way_edits r w)) then settled (negsuc 1) s
    else settled (pos 1) (with_facts s (record s.facts { uri = w.uri; destination = w.destination; edits = s.facts.edits ++ way_edits r w }))

abbrev pub first_call : Around → Received → RunState → RowCourse
first_call a r s =
    if length (route_fields r) == 0 then settled (negsuc 0) s
    else gone r s (way a r.bytes (route_values r) s.facts.uri s.facts.destination)

-- loose_route(): -1 without a Route field; -2 where its edits don't all fit; else 1. A later call changes nothing and answers the same
abbrev pub again : Option ℤ → RowCourse → RunState → RowCourse
again None now s = now
again (Some n) now s = code n s

abbrev pub loose_route : Around → Received → RunState → RowCourse
loose_route a r s = again s.facts.loose_route (first_call a r s) s
