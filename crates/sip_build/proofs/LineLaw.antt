-- The line Via among the edits of a forwarded request, and the top Via value of a relayed reply.
use Rattle.std.proofs.Common.{◌≡◌, ◌≢◌, ℕ, ◌+◌, ◌-◌, ◌<◌, ◌≤◌, Bool, true, false, List, [], ◌∷◌, ◌++◌, length, take, drop, refl, sym, ap, ◌∙◌, subst, arith, append_assoc, length-take, Some, None}
use Rattle.std.specs.Prelude.{Option, IfSome, if◌then◌else◌, slice_range, codes}
use Rattle.std.specs.Fmt.{decimal}
use Rattle.std.proofs.lemmas.Bool.{ne_eqb}
use Rattle.std.proofs.lemmas.Option.{same_Some}
use Rattle.std.proofs.lemmas.List.{append-nil, take-take, drop-take}
use Rattle.std.proofs.lemmas.List.Concat.{flat_map-append}
use Rattle.sip_words.specs.declared.Span.{Span}
use Rattle.sip_words.specs.Spans.{span}
use Rattle.sip_fields.specs.declared.via.Via.{Via}
use Rattle.sip_fields.specs.declared.via.Rport.{Rport}
use Rattle.sip_fields.specs.declared.via.Rport.TheVariants.{Absent, Empty, Given}
use Rattle.sip_words.specs.Grammar.{separator}
use Rattle.sip_words.proofs.Steps.{bind_some}
use Rattle.sip_fields.specs.Parts.{Tail, Last, More, next_place}
use Rattle.sip_fields.specs.Via.{via_at, IsRportBetween, IsViaBetween}
use Rattle.sip_fields.specs.ViaGrammar.{via_place}
use Rattle.sip_fields.proofs.ViaAgain.{via_again}
use Rattle.sip_fields.proofs.ViaTakes.{via_takes}
use Rattle.sip_scan.specs.declared.field.HeaderSpan.{HeaderSpan}
use Rattle.sip_scan.specs.declared.field.Kind.TheVariants as kind
use Rattle.msg_edits.specs.declared.parts.Edit.{Edit}
use Rattle.msg_edits.specs.declared.parts.Edit.TheVariants.{Cut, Insert}
use Rattle.msg_edits.specs.Edited.{text_at, inserted_at, edited}
use Rattle.msg_edits.specs.Laws.{LiesWithin, left_by_cut}
use Rattle.msg_edits.proofs.Grown.{cut_law}
use Rattle.sip_msg.specs.declared.message.Message.{Message}
use Rattle.sip_msg.specs.Fields.{first}
use Rattle.sip_msg.specs.Table.{Reads}
use Rattle.sip_msg.specs.Values.{via_of}
use Rattle.outside_ports.specs.declared.port.Addr.{Addr}
use Rattle.sip_build.specs.Parts.{uri_of, place_of}
use Rattle.sip_build.specs.Stamp.{without_received, with_port, wants_received, with_received, stamp}
use Rattle.sip_build.specs.Forwarded.{replaced, via_line, with_via, with_hops, forwarding, forwarded_text}
use Rattle.sip_build.specs.Relayed.{without_value, without_top_via, relayed_text}
use Rattle.sip_build.specs.Laws.{other_edits, before_place, from_place}
use Rattle.sip_build.proofs.Readings.{ViaStands, via_stands, uri_within, uri_end, end_within}
use Rattle.sip_build.proofs.PutIn.{put_in, two_parts}
use Rattle.sip_build.proofs.SameTexts.{none_from}

nothing_twice : (a b : List Edit) (k : ℕ) → inserted_at a k ≡ [] → inserted_at b k ≡ [] → inserted_at (a ++ b) k ≡ []
nothing_twice a b k p q = flat_map-append (text_at k) a b ∙ rw (p, q) refl

one_insert : (at k : ℕ) (text : List ℕ) → at ≢ k → inserted_at (Insert at text ∷ []) k ≡ []
one_insert at k text ne = rw (ne_eqb at k ne) refl

no_received : (o : Option Span) (k : ℕ) → inserted_at (without_received o) k ≡ []
no_received None k = refl
no_received (Some s) k = refl

no_port : (r : Rport) (port i j k : ℕ) → IsRportBetween i j r → k < i → inserted_at (with_port r port) k ≡ []
no_port (Empty word) port i j k h lt = one_insert word.to k (codes "=" ++ decimal port) (λ e. omega (arith, h.low, h.order))
no_port (Given value) port i j k h lt = refl
no_port Absent port i j k h lt = refl

either : (b : Bool) (e : Edit) (k : ℕ) → inserted_at (e ∷ []) k ≡ [] → inserted_at (if b then e ∷ [] else []) k ≡ []
either true e k h = h
either false e k h = refl

no_address : (via : Via) (ip i j k : ℕ) → IsViaBetween i j via → k < i → inserted_at (with_received via ip) k ≡ []
no_address via ip i j k h lt = either (wants_received via ip) (Insert via.whole.to _) k (one_insert via.whole.to k _ (λ e. omega (arith, h.whole.low, h.whole.order)))

no_stamp : (via : Via) (source : Addr) (i j k : ℕ) → IsViaBetween i j via → k < i → inserted_at (stamp via source) k ≡ []
unfolding stamp
no_stamp via source i j k h lt =
    nothing_twice (without_received via.received) (with_port via.rport source.port ++ with_received via source.ip) k (no_received via.received k)
    (nothing_twice (with_port via.rport source.port) (with_received via source.ip) k (no_port via.rport source.port i j k h.rport lt) (no_address via source.ip i j k h lt))

place_is : (b : List ℕ) (m : Message) (f : HeaderSpan) → ViaStands b m f → place_of (first kind.Via m.head.fields.items) (m.head.start.to + 2) ≡ f.whole.from
place_is b m f h = ap (λ (o : Option HeaderSpan). place_of o (m.head.start.to + 2)) h.first

nothing_before : (b : List ℕ) (m : Message) (source : Addr) (uri : List ℕ) (f : HeaderSpan) → Reads b m → ViaStands b m f → inserted_at (stamp m.via source ++ replaced (uri_of m.start) uri) f.whole.from ≡ []
nothing_before b m source uri f r h =
    let uri_low = uri_end b m r in
    let order = (uri_within b m r).order in
    nothing_twice (stamp m.via source) (replaced (uri_of m.start) uri) f.whole.from (no_stamp m.via source f.value.from f.value.to f.whole.from h.between h.colon)
    (one_insert (uri_of m.start).from f.whole.from uri (λ e. omega (arith, h.low)))

all_edits : (a b c d e : List Edit) → (a ++ (b ++ (c ++ d))) ++ e ≡ (a ++ b) ++ (c ++ (d ++ e))
all_edits a b c d e = simp append_assoc

pub line_is_put_in : (b : List ℕ) (m : Message) (source : Addr) (edits : List Edit) (uri : List ℕ) (listen : Addr) (branch : List ℕ) (absent : ℕ) → Reads b m
    → let text = take m.end b in
    let others = other_edits b m source edits uri absent in
    let place = place_of (first kind.Via m.head.fields.items) (m.head.start.to + 2) in
    (forwarded_text b m source edits uri listen branch absent ≡ before_place text others place ++ (via_line listen branch ++ from_place text others place))
    × (edited text others ≡ before_place text others place ++ from_place text others place)
unfolding forwarding forwarded_text
line_is_put_in b m source edits uri listen branch absent r =
    let stands = via_stands b m r in
    let f = stands.0 in
    let h = stands.1 in
    let text = take m.end b in
    let place = place_of (first kind.Via m.head.fields.items) (m.head.start.to + 2) in
    let is = place_is b m f h in
    let a = stamp m.via source ++ replaced (uri_of m.start) uri in
    let hops = with_hops b (first kind.MaxForwards m.head.fields.items) m.max_forwards m.head.body absent in
    let none : inserted_at a place ≡ [] = rw is (nothing_before b m source uri f r h) in
    let long : place < length text = omega (arith, is, length-take m.end b, end_within b m r, h.high, h.value, h.colon, h.between.whole.low, h.between.whole.order, h.between.whole.high) in
    let order = all_edits (stamp m.via source) (replaced (uri_of m.start) uri) (with_via m (via_line listen branch)) hops edits in (
      ap (λ (es : List Edit). edited text es) order ∙ put_in text (via_line listen branch) a (hops ++ edits) place none long,
      two_parts text (a ++ (hops ++ edits)) place (omega arith),
    )

left_none : (i : ℕ) (bytes : List ℕ) → left_by_cut [] i bytes ≡ []
left_none i [] = refl
left_none i (b ∷ bytes) = left_none (i + 1) bytes

-- a text without the bytes of a span
take_away : (b : List ℕ) (end : ℕ) (s : Span) → s.from ≤ s.to → s.to ≤ end → end ≤ length b → edited (take end b) (Cut s ∷ []) ≡ take s.from b ++ slice_range b s.to end
take_away b end s order high le =
    let text = take end b in
    let lies_in : LiesWithin text (Cut s) = (order, omega (arith, length-take end b)) in
    let front : take s.from text ≡ take s.from b = take-take s.from end b (omega arith) in
    let back : drop s.to text ≡ slice_range b s.to end = ap (λ (n : ℕ). drop s.to (take n b)) (omega arith) ∙ drop-take s.to (end - s.to) b in
    cut_law text [] s lies_in ∙ rw (none_from 0 (take s.from text), left_none s.from (slice_range text s.from s.to), none_from s.to (drop s.to text)) (rw (front, back) (simp append-nil))

tail_behind : (end n : ℕ) (t : Tail) → next_place end t ≡ Some n → end ≤ n
tail_behind end n (Last bs) e = absurd (cc)
tail_behind end n (More m rest) e = let is : end + length (separator 44 m) ≡ n = same_Some _ n e in omega arith

-- the next value stands behind the value
pub next_behind : (text : List ℕ) (i n : ℕ) (v : Via) → i ≤ length text → via_at text i ≡ Some v → v.next ≡ Some n → v.whole.to ≤ n
next_behind text i n v le e h =
    let t = via_takes text i v e in
    let is = same_Some (via_place i t.0) v (sym (via_again text i t.0 le t.2 t.1) ∙ e) in
    let P : Via → Type 0 = λ w. w.next ≡ Some n → w.whole.to ≤ n in
    subst P is (λ k. tail_behind (via_place i t.0).whole.to n t.0.tail k) h

pub via_reads : (b : List ℕ) (m : Message) (f : HeaderSpan) → via_of b m.head.fields.items ≡ Some m.via → first kind.Via m.head.fields.items ≡ Some f → via_at (take f.value.to b) f.value.from ≡ Some m.via
unfolding via_of
via_reads b m f e h =
    let g = bind_some (first kind.Via m.head.fields.items) _ m.via e in
    let same = same_Some g.0 f (sym g.1 ∙ h) in
    let P : HeaderSpan → Type 0 = λ x. via_at (take x.value.to b) x.value.from ≡ Some m.via in
    subst P same g.2

pub only_value_away : (b : List ℕ) (m : Message) (field : HeaderSpan) → Reads b m → m.via.next ≡ None → first kind.Via m.head.fields.items ≡ Some field → relayed_text b m [] ≡ take field.whole.from b ++ slice_range b field.whole.to m.end
unfolding relayed_text without_top_via
only_value_away b m field r none is =
    let stands = via_stands b m r in
    let h = stands.1 in
    let same = same_Some stands.0 field (sym h.first ∙ is) in
    let low : field.whole.from ≤ field.whole.to = subst (λ (x : HeaderSpan). x.whole.from ≤ x.whole.to) same (omega (arith, h.value, h.colon, h.between.whole.low, h.between.whole.order, h.between.whole.high)) in
    let high : field.whole.to ≤ m.end = subst (λ (x : HeaderSpan). x.whole.to ≤ m.end) same (omega (arith, h.high)) in
    let P : Option ℕ → Option HeaderSpan → Type 0 = λ n o. edited (take m.end b) (without_value n m.via o ++ []) ≡ take field.whole.from b ++ slice_range b field.whole.to m.end in
    let cut = take_away b m.end field.whole low high (end_within b m r) in
    subst (λ (n : Option ℕ). P n (first kind.Via m.head.fields.items)) (sym none) (subst (λ (o : Option HeaderSpan). P None o) (sym is) cut)

pub first_value_away : (b : List ℕ) (m : Message) (next : ℕ) → Reads b m → m.via.next ≡ Some next → relayed_text b m [] ≡ take m.via.whole.from b ++ slice_range b next m.end
unfolding relayed_text without_top_via
first_value_away b m next r more =
    let stands = via_stands b m r in
    let f = stands.0 in
    let h = stands.1 in
    let count : length (take f.value.to b) ≡ f.value.to = omega (arith, length-take f.value.to b, end_within b m r, h.high, h.value) in
    let reads = via_reads b m f r.parts.via h.first in
    let behind = next_behind (take f.value.to b) f.value.from next m.via (omega (arith, count, h.between.whole.low, h.between.whole.order, h.between.whole.high)) reads more in
    let inside : (f.value.from < next) × (next ≤ f.value.to) = subst (λ (o : Option ℕ). IfSome o (λ n. (f.value.from < n) × (n ≤ f.value.to))) more h.between.next in
    let cut = take_away b m.end (span m.via.whole.from next) (omega (arith, h.between.whole.order)) (omega (arith, h.value, h.high, inside.1)) (end_within b m r) in
    let P : Option ℕ → Type 0 = λ n. edited (take m.end b) (without_value n m.via (first kind.Via m.head.fields.items) ++ []) ≡ take m.via.whole.from b ++ slice_range b next m.end in
    subst P (sym more) cut
