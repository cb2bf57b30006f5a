-- A message whose first Via field is taken away.
use Rattle.std.proofs.Common.{◌≡◌, ℕ, suc, ◌+◌, ◌-◌, ◌≤◌, List, [], ◌∷◌, ◌++◌, length, take, drop, refl, sym, ap, ◌∙◌, subst, arith, append_assoc, length-append, Some, None, Ok, slice_range}
use Rattle.std.specs.List.{AllByRecursion}
use Rattle.std.proofs.lemmas.Bool.{le-ltb}
use Rattle.std.proofs.lemmas.Option.{same_Some}
use Rattle.std.proofs.lemmas.List.{take_at, drop_at}
use Rattle.std.proofs.Math.Seq.{take-append-add}
use Rattle.sip_scan.specs.declared.Head.{Head}
use Rattle.sip_scan.specs.declared.field.HeaderSpan.{HeaderSpan}
use Rattle.sip_scan.specs.declared.field.Kind.TheVariants as kind
use Rattle.sip_scan.specs.Head.{scanned, at_most_128}
use Rattle.sip_scan.specs.Grammar.{crlf, FieldTree, field, IsFieldTree, field_place, fields, field_places, MessageTree, message, IsMessageTree, head_place}
use Rattle.sip_scan.proofs.HeadAgain.{only_head}
use Rattle.sip_msg.specs.declared.message.Message.{Message}
use Rattle.sip_msg.specs.Fields.{first}
use Rattle.sip_msg.specs.Table.{Reads}
use Rattle.sip_msg.proofs.Lies.{lies, few}
use Rattle.sip_build.specs.Relayed.{relayed_text}
use Rattle.sip_build.specs.Laws.{HasAllBut, SameFields}
use Rattle.sip_build.proofs.LineLaw.{only_value_away}
use Rattle.sip_build.proofs.ReadsUnder.{places_length, same_fields}
use Rattle.sip_build.proofs.Spelt.{Spelt, spelt, fields_from, before_fields, behind_fields, front_length, in_fields, fields_append}
use Rattle.sip_build.proofs.Twins.{AreTwins, twins_here, twins_append, places_append}

-- the tree without the field, and with so many bytes of its body
abbrev pub without_field : MessageTree → List FieldTree → List FieldTree → ℕ → MessageTree
without_field t before after k = record { skipped = t.skipped; start = t.start; fields = before ++ after; body = take k t.body }

pub all_but : (before : List FieldTree) (here : FieldTree) (after : List FieldTree) → AllByRecursion IsFieldTree (before ++ (here ∷ after)) → AllByRecursion IsFieldTree (before ++ after)
all_but [] here after h = h.1
all_but (t ∷ before) here after h = (h.0, all_but before here after h.1)

-- the text in its parts
five : (pre a h r last : List ℕ) → pre ++ ((a ++ (h ++ r)) ++ last) ≡ (pre ++ a) ++ (h ++ (r ++ last))
five pre a h r last = simp append_assoc

whole_parts : (b : List ℕ) (t : MessageTree) (before : List FieldTree) (here : FieldTree) (after : List FieldTree) → b ≡ message t → t.fields ≡ before ++ (here ∷ after)
    → b ≡ (before_fields t ++ fields before) ++ (field here ++ (fields after ++ behind_fields t))
whole_parts b t before here after h e =
    h ∙ in_fields t ∙ ap (λ (ts : List FieldTree). before_fields t ++ (fields ts ++ behind_fields t)) e
    ∙ ap (λ (x : List ℕ). before_fields t ++ (x ++ behind_fields t)) (fields_append before (here ∷ after))
    ∙ five (before_fields t) (fields before) (field here) (fields after) (behind_fields t)

four : (pre a r last : List ℕ) → pre ++ ((a ++ r) ++ last) ≡ (pre ++ a) ++ (r ++ last)
four pre a r last = simp append_assoc

left_parts : (t : MessageTree) (before after : List FieldTree) (k : ℕ) → message (without_field t before after k) ≡ (before_fields t ++ fields before) ++ (fields after ++ (crlf ++ take k t.body))
left_parts t before after k =
    let u = without_field t before after k in
    in_fields u ∙ ap (λ (x : List ℕ). before_fields t ++ (x ++ (crlf ++ take k t.body))) (fields_append before after)
    ∙ four (before_fields t) (fields before) (fields after) (crlf ++ take k t.body)

-- the front of a text behind another
front_of : (r c body : List ℕ) (n k : ℕ) → n ≡ length (r ++ c) + k → take n (r ++ (c ++ body)) ≡ r ++ (c ++ take k body)
front_of r c body n k e =
    ap (λ (x : List ℕ). take n x) (sym (append_assoc r c body)) ∙ ap (λ (i : ℕ). take i ((r ++ c) ++ body)) e
    ∙ take-append-add (r ++ c) body k ∙ append_assoc r c (take k body)

-- a part of a text taken away
part_away : (b front h r c body : List ℕ) (from to end k : ℕ) → b ≡ front ++ (h ++ (r ++ (c ++ body))) → from ≡ length front → to ≡ length front + length h
    → end - to ≡ length (r ++ c) + k → take from b ++ slice_range b to end ≡ front ++ (r ++ (c ++ take k body))
part_away b front h r c body from to end k e f g size =
    let before : take from b ≡ front = ap (λ (x : List ℕ). take from x) e ∙ take_at front (h ++ (r ++ (c ++ body))) from (sym f) in
    let two : b ≡ (front ++ h) ++ (r ++ (c ++ body)) = e ∙ sym (append_assoc front h (r ++ (c ++ body))) in
    let len : length (front ++ h) ≡ to = omega (arith, g, length-append front h) in
    let behind : drop to b ≡ r ++ (c ++ body) = ap (λ (x : List ℕ). drop to x) two ∙ drop_at (front ++ h) (r ++ (c ++ body)) to len in
    let rest : slice_range b to end ≡ r ++ (c ++ take k body) = ap (λ (x : List ℕ). take (end - to) x) behind ∙ front_of r c body (end - to) k size in
    rw (before, rest) refl

sizes : (t : MessageTree) (before : List FieldTree) (here : FieldTree) (after : List FieldTree) → t.fields ≡ before ++ (here ∷ after)
    → length (fields t.fields) ≡ length (fields before) + (length (field here) + length (fields after))
sizes t before here after e =
    ap (λ (ts : List FieldTree). length (fields ts)) e ∙ ap (λ (x : List ℕ). length x) (fields_append before (here ∷ after))
    ∙ length-append (fields before) (field here ++ fields after) ∙ ap (λ (n : ℕ). length (fields before) + n) (length-append (field here) (fields after))

-- the relayed text is spelled by the tree without its first Via field
pub left_is : (b : List ℕ) (m : Message) (f : HeaderSpan) (r : Reads b m) (s : Spelt b m) → f ≡ s.via → m.via.next ≡ None → first kind.Via m.head.fields.items ≡ Some f
    → relayed_text b m [] ≡ message (without_field s.tree s.cut.before s.cut.after (m.end - m.head.body))
left_is b m f r s same none is =
    let t = s.tree in
    let before = s.cut.before in
    let here = s.cut.here in
    let after = s.cut.after in
    let front = before_fields t ++ fields before in
    let k = m.end - m.head.body in
    let place : f ≡ field_place (fields_from t + length (fields before)) here = same ∙ s.cut.place in
    let at = front_length t in
    let len = length-append (before_fields t) (fields before) in
    let from : f.whole.from ≡ length front = ap (λ (x : HeaderSpan). x.whole.from) place ∙ omega (arith, at, len) in
    let to : f.whole.to ≡ length front + length (field here) = ap (λ (x : HeaderSpan). x.whole.to) place ∙ omega (arith, at, len) in
    let body : m.head.body ≡ fields_from t + length (fields t.fields) + 2 = ap (λ (h : Head). h.body) s.head in
    let size = sizes t before here after s.cut.whole in
    let low = (lies b m r).parts.end_low in
    let gap : m.end - f.whole.to ≡ length (fields after ++ crlf) + k = omega (arith, to, at, len, body, size, low, length-append (fields after) crlf) in
    only_value_away b m f r none is
    ∙ part_away b front (field here) (fields after) crlf t.body f.whole.from f.whole.to m.end k (whole_parts b t before here after s.text s.cut.whole) from to gap
    ∙ sym (left_parts t before after k)

few_left : (m : Message) (t u : MessageTree) (before : List FieldTree) (here : FieldTree) (after : List FieldTree) → m.head ≡ head_place t → t.fields ≡ before ++ (here ∷ after)
    → length m.head.fields.items ≤ 128 → u.fields ≡ before ++ after → at_most_128 (head_place u) ≡ Ok (head_place u)
few_left m t u before here after h e all is =
    let old : length m.head.fields.items ≡ length before + suc (length after) = ap (λ (x : Head). length x.fields.items) h ∙ places_length (fields_from t) t.fields ∙ ap (λ (ts : List FieldTree). length ts) e ∙ length-append before (here ∷ after) in
    let new : length (field_places (fields_from u) u.fields) ≡ length before + length after = places_length (fields_from u) u.fields ∙ ap (λ (ts : List FieldTree). length ts) is ∙ length-append before after in
    let test = le-ltb 128 (length (field_places (fields_from u) u.fields)) (omega (arith, old, new, all)) in
    rw test refl

more_front : (pre a h rest : List ℕ) → (pre ++ a) ++ (h ++ rest) ≡ pre ++ (a ++ (h ++ rest))
more_front pre a h rest = simp append_assoc

more_middle : (pre a h rest : List ℕ) → (pre ++ a) ++ (h ++ rest) ≡ ((pre ++ a) ++ h) ++ rest
more_middle pre a h rest = simp append_assoc

-- the fields that are left have the same bytes
twins_left : (b : List ℕ) (t : MessageTree) (before : List FieldTree) (here : FieldTree) (after : List FieldTree) (k : ℕ) → b ≡ message t → t.fields ≡ before ++ (here ∷ after)
    → let c = message (without_field t before after k) in
    let i = fields_from t in
    let q = i + length (fields before) in
    SameFields c (field_places i (before ++ after)) b (field_places i before ++ field_places (q + length (field here)) after)
twins_left b t before here after k h e =
    let c = message (without_field t before after k) in
    let pre = before_fields t in
    let i = fields_from t in
    let q = i + length (fields before) in
    let len = front_length t in
    let last = crlf ++ take k t.body in
    let mine = left_parts t before after k in
    let its = whole_parts b t before here after h e in
    let front_twins = twins_here c b pre pre (fields after ++ last) (field here ++ (fields after ++ behind_fields t)) i i before len len
    (mine ∙ append_assoc pre (fields before) (fields after ++ last)) (its ∙ append_assoc pre (fields before) (field here ++ (fields after ++ behind_fields t))) in
    let size = length-append pre (fields before) in
    let back_twins = twins_here c b (pre ++ fields before) ((pre ++ fields before) ++ field here) last (behind_fields t) q (q + length (field here)) after
    (omega (arith, len, size)) (omega (arith, len, size, length-append (pre ++ fields before) (field here)))
    mine (its ∙ more_middle pre (fields before) (field here) (fields after ++ behind_fields t)) in
    let both = twins_append c b (field_places i before) (field_places i before) (field_places q after) (field_places (q + length (field here)) after) front_twins back_twins in
    let moved = subst (λ (xs : List HeaderSpan). AreTwins c xs b (field_places i before ++ field_places (q + length (field here)) after)) (sym (places_append i before after)) both in
    same_fields c b (field_places i (before ++ after)) (field_places i before ++ field_places (q + length (field here)) after) moved

pub field_away : (b : List ℕ) (m : Message) (f : HeaderSpan) → Reads b m → m.via.next ≡ None → first kind.Via m.head.fields.items ≡ Some f
    → (h : Head) × (scanned (relayed_text b m []) ≡ Ok h) × HasAllBut b m.head.fields.items f (relayed_text b m []) h.fields.items
field_away b m f r none is =
    let s = spelt b m r in
    let t = s.tree in
    let same : f ≡ s.via = same_Some f s.via (sym is ∙ s.via_is) in
    let k = m.end - m.head.body in
    let u = without_field t s.cut.before s.cut.after k in
    let text = left_is b m f r s same none is in
    let tree : IsMessageTree u = record {
      skipped = s.is.skipped;
      start = s.is.start;
      sip = s.is.sip;
      fields = all_but s.cut.before s.cut.here s.cut.after (subst (λ (ts : List FieldTree). AllByRecursion IsFieldTree ts) s.cut.whole s.is.fields);
    } in
    let i = fields_from t in
    let q = i + length (fields s.cut.before) in
    let places : m.head.fields.items ≡ field_places i s.cut.before ++ (f ∷ field_places (q + length (field s.cut.here)) s.cut.after) =
    ap (λ (h : Head). h.fields.items) s.head ∙ ap (λ (ts : List FieldTree). field_places i ts) s.cut.whole ∙ places_append i s.cut.before (s.cut.here ∷ s.cut.after)
    ∙ ap (λ (x : HeaderSpan). field_places i s.cut.before ++ (x ∷ field_places (q + length (field s.cut.here)) s.cut.after)) (sym (same ∙ s.cut.place)) in (
      head_place u,
      only_head (relayed_text b m []) u tree text ∙ few_left m t u s.cut.before s.cut.here s.cut.after s.head s.cut.whole (few r) refl,
      record {
        before = field_places i s.cut.before;
        after = field_places (q + length (field s.cut.here)) s.cut.after;
        whole = places;
        none = s.cut.none;
        same = subst (λ (c : List ℕ). SameFields c (field_places i (s.cut.before ++ s.cut.after)) b (field_places i s.cut.before ++ field_places (q + length (field s.cut.here)) s.cut.after)) (sym text)
            (twins_left b t s.cut.before s.cut.here s.cut.after k s.text s.cut.whole);
      },
    )
