-- What is forwarded reads under the proxy's line Via, and what stood below the top value of a reply reads in its place.
use Rattle.std.proofs.Common.{◌≡◌, ℕ, ◌+◌, ◌-◌, ◌<◌, ◌≤◌, true, List, [], ◌++◌, length, take, drop, sym, ap, ◌∙◌, subst, arith, length-take, length-drop, length-append, Some, slice_range}
use Rattle.std.specs.Prelude.{Option, IfSome, codes, nat_eq}
use Rattle.std.specs.List.{starts_with}
use Rattle.std.proofs.lemmas.Option.{same_Some}
use Rattle.std.proofs.lemmas.List.{take_at, drop_at, take-take, drop-take}
use Rattle.sip_fields.specs.declared.via.Via.{Via}
use Rattle.sip_fields.specs.Via.{via_at}
use Rattle.sip_fields.specs.ViaGrammar.{ViaTree, via_place}
use Rattle.sip_fields.proofs.ViaAgain.{via_again}
use Rattle.sip_fields.proofs.ViaTakes.{via_takes}
use Rattle.sip_scan.specs.declared.field.HeaderSpan.{HeaderSpan}
use Rattle.sip_scan.specs.declared.field.Kind.TheVariants as kind
use Rattle.msg_edits.specs.declared.parts.Edit.{Edit}
use Rattle.msg_edits.specs.Edited.{edited}
use Rattle.sip_msg.specs.declared.message.Message.{Message}
use Rattle.sip_msg.specs.Fields.{first}
use Rattle.sip_msg.specs.Table.{Reads}
use Rattle.outside_ports.specs.declared.port.Addr.{Addr}
use Rattle.sip_build.specs.Parts.{place_of}
use Rattle.sip_build.specs.Forwarded.{via_line, forwarded_text}
use Rattle.sip_build.specs.Relayed.{relayed_text}
use Rattle.sip_build.specs.Laws.{IsOwn, other_edits, before_place, from_place, ReadsUnder}
use Rattle.sip_build.proofs.LineLaw.{line_is_put_in, first_value_away, via_reads, next_behind}
use Rattle.sip_build.proofs.Readings.{via_stands, end_within}
use Rattle.sip_build.proofs.ReadsUnder.{reads_under}

-- a text put into two parts at the length of the first
put_together : (P : List ℕ → ℕ → Type 0) (now front back line whole : List ℕ) (p : ℕ) → now ≡ front ++ back → whole ≡ front ++ (line ++ back)
    → p ≡ length front → P (take p now ++ (line ++ drop p now)) p → P whole (length front)
put_together P now front back line whole p e f at h =
    let before : take p now ≡ front = ap (λ (t : List ℕ). take p t) e ∙ take_at front back p (sym at) in
    let behind : drop p now ≡ back = ap (λ (t : List ℕ). drop p t) e ∙ drop_at front back p (sym at) in
    let text : take p now ++ (line ++ drop p now) ≡ whole = rw (before, behind) (sym f) in
    subst (λ (n : ℕ). P whole n) at (subst (λ (t : List ℕ). P t p) text h)

pub forwarded_reads : (b : List ℕ) (m : Message) (source : Addr) (edits : List Edit) (uri : List ℕ) (listen : Addr) (branch : List ℕ) (absent : ℕ) (t : Message)
    → Reads b m → IsOwn listen branch → starts_with nat_eq branch (codes "z9hG4bK") ≡ true
    → let text = take m.end b in
    let others = other_edits b m source edits uri absent in
    let front = before_place text others (place_of (first kind.Via m.head.fields.items) (m.head.start.to + 2)) in
    Reads (edited text others) t → place_of (first kind.Via t.head.fields.items) (t.head.start.to + 2) ≡ length front
    → length t.head.fields.items ≤ 127 → length (edited text others) + length (via_line listen branch) ≤ 8192
    → (under : Message) × ReadsUnder (edited text others) t (forwarded_text b m source edits uri listen branch absent) (length front) listen branch under
forwarded_reads b m source edits uri listen branch absent t r own cookie reads at few short =
    let text = take m.end b in
    let others = other_edits b m source edits uri absent in
    let place = place_of (first kind.Via m.head.fields.items) (m.head.start.to + 2) in
    let put = line_is_put_in b m source edits uri listen branch absent r in
    let under = reads_under (edited text others) t listen branch reads own cookie few short in (
      under.0,
      put_together (λ c n. ReadsUnder (edited text others) t c n listen branch under.0) (edited text others) (before_place text others place) (from_place text others place)
          (via_line listen branch) (forwarded_text b m source edits uri listen branch absent) (place_of (first kind.Via t.head.fields.items) (t.head.start.to + 2)) put.1 put.0 at under.1,
    )

-- what stands behind a cut, up to a place behind it
behind_cut : (b whole : List ℕ) (from next to end : ℕ) → from ≤ next → next ≤ to → to ≤ end → end ≤ length b → whole ≡ take from b ++ slice_range b next end
    → drop from (take (from + (to - next)) whole) ≡ drop next (take to b)
behind_cut b whole from next to end low mid high within e =
    let k = to - next in
    let front : length (take from b) ≡ from = omega (arith, length-take from b) in
    let rest : drop from whole ≡ take (end - next) (drop next b) = ap (λ (t : List ℕ). drop from t) e ∙ drop_at (take from b) (slice_range b next end) from front in
    let mine : drop from (take (from + k) whole) ≡ take k (drop next b) = drop-take from k whole ∙ ap (λ (t : List ℕ). take k t) rest ∙ take-take k (end - next) (drop next b) (omega arith) in
    let its : drop next (take (next + k) b) ≡ take k (drop next b) = drop-take next k b in
    let at : next + k ≡ to = omega arith in
    mine ∙ sym its ∙ ap (λ (n : ℕ). drop next (take n b)) at

-- the places of the top value and of the one below it
value_places : (b : List ℕ) (m : Message) (field : HeaderSpan) (next : ℕ) → Reads b m → first kind.Via m.head.fields.items ≡ Some field → m.via.next ≡ Some next
    → (m.via.whole.from ≤ next) × (next ≤ field.value.to) × (field.value.to ≤ m.end) × (m.end ≤ length b)
value_places b m field next r is more =
    let stands = via_stands b m r in
    let f = stands.0 in
    let h = stands.1 in
    let found : f ≡ field = same_Some f field (sym h.first ∙ is) in
    let count : length (take f.value.to b) ≡ f.value.to = omega (arith, length-take f.value.to b, end_within b m r, h.high, h.value) in
    let reads = via_reads b m f r.parts.via h.first in
    let behind = next_behind (take f.value.to b) f.value.from next m.via (omega (arith, count, h.between.whole.low, h.between.whole.order, h.between.whole.high)) reads more in
    let inside : (f.value.from < next) × (next ≤ f.value.to) = subst (λ (o : Option ℕ). IfSome o (λ n. (f.value.from < n) × (n ≤ f.value.to))) more h.between.next in
    let low : m.via.whole.from ≤ next = omega (arith, behind, h.between.whole.order) in
    let high : f.value.to ≤ m.end = omega (arith, h.value, h.high) in
    (low, subst (λ (x : HeaderSpan). next ≤ x.value.to) found inside.1, subst (λ (x : HeaderSpan). x.value.to ≤ m.end) found high, end_within b m r)

whole_length : (b whole : List ℕ) (from next end : ℕ) → (from ≤ next) × (next ≤ end) → end ≤ length b → whole ≡ take from b ++ slice_range b next end
    → length whole ≡ from + (end - next)
whole_length b whole from next end order within e =
    let k = end - next in
    let len : length whole ≡ length (take from b ++ take k (drop next b)) = ap (λ (t : List ℕ). length t) e in
    omega (arith, len, length-append (take from b) (take k (drop next b)), length-take from b, length-take k (drop next b), length-drop next b, order.0, order.1, within)

pub value_below : (b : List ℕ) (m : Message) (field : HeaderSpan) (next : ℕ) (v : Via) → Reads b m → first kind.Via m.head.fields.items ≡ Some field
    → m.via.next ≡ Some next → via_at (take field.value.to b) next ≡ Some v
    → (t : ViaTree) × (v ≡ via_place next t)
    × (via_at (take (m.via.whole.from + (field.value.to - next)) (relayed_text b m [])) m.via.whole.from ≡ Some (via_place m.via.whole.from t))
value_below b m field next v r is more reads =
    let p = value_places b m field next r is more in
    let low = p.0 in
    let mid = p.1 in
    let text = take field.value.to b in
    let whole = relayed_text b m [] in
    let stop = m.via.whole.from + (field.value.to - next) in
    let cut = first_value_away b m next r more in
    let same = behind_cut b whole m.via.whole.from next field.value.to m.end low mid p.2 p.3 cut in
    let long : next ≤ length text = omega (arith, length-take field.value.to b, mid, p.2, p.3) in
    let count : length whole ≡ m.via.whole.from + (m.end - next) = whole_length b whole m.via.whole.from next m.end (low, omega (arith, mid, p.2)) p.3 cut in
    let fits : m.via.whole.from ≤ length (take stop whole) = omega (arith, length-take stop whole, count, mid, p.2) in
    let t = via_takes text next v reads in
    let is_there = via_again text next t.0 long t.2 t.1 in
    (t.0, sym (same_Some (via_place next t.0) v (sym is_there ∙ reads)), via_again (take stop whole) m.via.whole.from t.0 fits (same ∙ t.2) t.1)
