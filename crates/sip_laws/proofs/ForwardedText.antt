-- The text of a forwarded request as a start line, fields and a body.
use Rattle.std.proofs.Common.{◌≡◌, ℕ, ◌+◌, ◌-◌, ◌≤◌, List, [], ◌∷◌, ◌++◌, length, take, drop, refl, sym, ap, ◌∙◌, arith, append_assoc, length-append}
use Rattle.std.specs.Prelude.{Option}
use Rattle.std.proofs.lemmas.Bool.{ne_eqb}
use Rattle.std.proofs.lemmas.List.{append-nil, take_at, drop_at}
use Rattle.std.proofs.Math.Seq.{take-append-add}
use Rattle.sip_scan.specs.declared.Head.{Head}
use Rattle.sip_scan.specs.declared.field.HeaderSpan.{HeaderSpan}
use Rattle.sip_scan.specs.declared.field.Kind.TheVariants as kind
use Rattle.sip_scan.specs.Grammar.{crlf, FieldTree, field, fields, message}
use Rattle.sip_msg.specs.declared.message.Message.{Message}
use Rattle.sip_msg.specs.Fields.{first}
use Rattle.sip_msg.specs.Table.{Reads}
use Rattle.sip_msg.proofs.Lies.{lies}
use Rattle.msg_edits.specs.declared.parts.Edit.{Edit}
use Rattle.msg_edits.specs.Edited.{inserted_at, edited_from}
use Rattle.msg_edits.proofs.Pieces.{from_append}
use Rattle.outside_ports.specs.declared.port.Addr.{Addr}
use Rattle.sip_build.specs.Parts.{uri_of, place_of}
use Rattle.sip_build.specs.Stamp.{stamp}
use Rattle.sip_build.specs.Forwarded.{replaced, via_line, forwarded_text}
use Rattle.sip_build.specs.Laws.{before_place, from_place}
use Rattle.sip_build.proofs.LineLaw.{line_is_put_in}
use Rattle.sip_build.proofs.NewVia.{new_field, new_field_is}
use Rattle.sip_build.proofs.Spelt.{Spelt, fields_from, before_fields, front_length, fields_append}
use Rattle.sip_laws.proofs.StampedField.{stamps}
use Rattle.sip_laws.proofs.StampedVia.{StampedVia}
use Rattle.sip_laws.proofs.Around.{front_text, Around}
use Rattle.sip_laws.proofs.StampedVias.{quiet_cut, quiet_put}
use Rattle.sip_laws.proofs.Again.{tree_again}
use Rattle.sip_laws.proofs.StartWith.{request_with}
use Rattle.sip_laws.proofs.StartParts.{StartParts, start_replaced, uri_place}
use Rattle.sip_laws.proofs.Groups.{QuietAt, groups, only_first, only_second, only_third, same_piece, quiet_above}
use Rattle.sip_laws.proofs.HopsMoved.{hops_edits, after_place, empty_place, HopsMoved}

-- the body as far as the message goes
abbrev pub body_left : (b : List ℕ) (m : Message) → Spelt b m → List ℕ
body_left b m s = take (m.end - m.head.body) s.tree.body

in_one : (f h a n body : List ℕ) → f ++ (h ++ (a ++ (n ++ body))) ≡ (f ++ (h ++ (a ++ n))) ++ body
in_one f h a n body = simp append_assoc

-- the message up to its end, in its parts
text_is : (b : List ℕ) (m : Message) (s : Spelt b m) (a : Around b m s) → Reads b m → take m.end b ≡ front_text b m s ++ (field s.cut.here ++ (fields s.cut.after ++ (crlf ++ body_left b m s)))
text_is b m s a r =
    let f = front_text b m s in
    let h = field s.cut.here in
    let after = fields s.cut.after in
    let x = f ++ (h ++ (after ++ crlf)) in
    let whole : b ≡ x ++ s.tree.body = a.text ∙ in_one f h after crlf s.tree.body in
    let body : m.head.body ≡ fields_from s.tree + length (fields s.tree.fields) + 2 = ap (λ (z : Head). z.body) s.head in
    let low = (lies b m r).parts.end_low in
    let end : m.end ≡ length x + (m.end - m.head.body) = omega (arith, body, a.sizes, a.at, low, length-append f (h ++ (after ++ crlf)), length-append h (after ++ crlf), length-append after crlf) in
    ap (λ (z : List ℕ). take m.end z) whole ∙ ap (λ (n : ℕ). take n (x ++ s.tree.body)) end ∙ take-append-add x s.tree.body (m.end - m.head.body) ∙ sym (in_one f h after crlf (body_left b m s))

-- where the stamp does nothing
stamp_low : (b : List ℕ) (m : Message) (source : Addr) (q : ℕ) (here : FieldTree) → StampedVia b q here m.via source → (k : ℕ) → k ≤ q → QuietAt (stamp m.via source) k
stamp_low b m source q here st k le =
    let w = st.below k le in
    let off = ne_eqb m.via.whole.to k w.1.1 in
    record {
      cut = (stamps m.via source k (k + 1)).cut k (omega arith) (omega arith) ∙ w.0;
      put = (stamps m.via source k (k + 1)).put k (omega arith) (omega arith) ∙ (let p = w.1.0 in rw (p, off) refl);
    }

stamp_high : (b : List ℕ) (m : Message) (source : Addr) (q : ℕ) (here : FieldTree) → StampedVia b q here m.via source → (k : ℕ) → q + length (field here) ≤ k → QuietAt (stamp m.via source) k
stamp_high b m source q here st k le = record { cut = quiet_cut b m source q here st k le; put = quiet_put b m source q here st k le }

-- the edits of the three parts
abbrev three_groups : List ℕ → Message → Addr → List ℕ → ℕ → List Edit
three_groups b m source uri absent = groups (stamp m.via source) (replaced (uri_of m.start) uri) (hops_edits b m absent)

-- what they make of the text before the first Via field
front_edited : (b : List ℕ) (m : Message) (s : Spelt b m) (a : Around b m s) (source : Addr) (uri : List ℕ) (absent : ℕ) (p : StartParts s.tree m.start) (st : StampedVia b (length (front_text b m s)) s.cut.here m.via source) (h : HopsMoved b m s (hops_edits b m absent) absent (body_left b m s))
    → edited_from (three_groups b m source uri absent) 0 (front_text b m s) ≡ (s.tree.skipped ++ (request_with p.method uri p.version ++ crlf)) ++ fields h.before.new
front_edited b m s a source uri absent p st h =
    let t = s.tree in
    let q = length (front_text b m s) in
    let sd = stamp m.via source in
    let ur = replaced (uri_of m.start) uri in
    let ho = hops_edits b m absent in
    let all = three_groups b m source uri absent in
    let front_len = front_length t in
    let u = uri_place t m.start p in
    let one = same_piece all ur 0 (before_fields t) (λ k low high. only_second sd ur ho k (stamp_low b m source q s.cut.here st k (omega (arith, high, front_len, a.at))) (h.low k (omega (arith, high, front_len)))) in
    let two = same_piece all ho (fields_from t) (fields s.cut.before) (λ k low high. only_third sd ur ho k (stamp_low b m source q s.cut.here st k (omega (arith, high, a.at))) (quiet_above (uri_of m.start) uri k u.some (omega (arith, low, front_len, u.high)))) in
    let at : 0 + length (before_fields t) ≡ fields_from t = omega (arith, front_len) in
    from_append all 0 (before_fields t) (fields s.cut.before) ∙ ap (λ (n : ℕ). edited_from all 0 (before_fields t) ++ edited_from all n (fields s.cut.before)) at
    ∙ ap (λ (z : List ℕ). z ++ edited_from all (fields_from t) (fields s.cut.before)) (one ∙ start_replaced t m.start p uri)
    ∙ ap (λ (z : List ℕ). (t.skipped ++ (request_with p.method uri p.version ++ crlf)) ++ z) (two ∙ h.before.text)

-- and of what stands from it on
back_edited : (b : List ℕ) (m : Message) (s : Spelt b m) (a : Around b m s) (source : Addr) (uri : List ℕ) (absent : ℕ) (p : StartParts s.tree m.start) (st : StampedVia b (length (front_text b m s)) s.cut.here m.via source) (h : HopsMoved b m s (hops_edits b m absent) absent (body_left b m s))
    → edited_from (three_groups b m source uri absent) (length (front_text b m s)) (field s.cut.here ++ (fields s.cut.after ++ (crlf ++ body_left b m s))) ≡ field st.new ++ (fields h.after.new ++ (fields h.extra ++ (crlf ++ body_left b m s)))
back_edited b m s a source uri absent p st h =
    let t = s.tree in
    let q = length (front_text b m s) in
    let here = s.cut.here in
    let j = after_place b m s in
    let e = empty_place b m s in
    let sd = stamp m.via source in
    let ur = replaced (uri_of m.start) uri in
    let ho = hops_edits b m absent in
    let all = three_groups b m source uri absent in
    let front_len = front_length t in
    let u = uri_place t m.start p in
    let last = crlf ++ body_left b m s in
    let off : (k : ℕ) → q ≤ k → QuietAt ur k = λ k low. quiet_above (uri_of m.start) uri k u.some (omega (arith, low, front_len, u.high, a.at)) in
    let one = same_piece all sd q (field here) (λ k low high. only_first sd ur ho k (off k low) (h.via k low high)) in
    let two = same_piece all ho j (fields s.cut.after) (λ k low high. only_third sd ur ho k (stamp_high b m source q here st k low) (off k (omega (arith, low)))) in
    let three = same_piece all ho e last (λ k low high. only_third sd ur ho k (stamp_high b m source q here st k (omega (arith, low))) (off k (omega (arith, low)))) in
    from_append all q (field here) (fields s.cut.after ++ last) ∙ ap (λ (z : List ℕ). edited_from all q (field here) ++ z) (from_append all j (fields s.cut.after) last)
    ∙ ap (λ (z : List ℕ). z ++ (edited_from all j (fields s.cut.after) ++ edited_from all e last)) (one ∙ st.text sd (stamps m.via source q (q + length (field here))))
    ∙ ap (λ (z : List ℕ). field st.new ++ (z ++ edited_from all e last)) (two ∙ h.after.text)
    ∙ ap (λ (z : List ℕ). field st.new ++ (fields h.after.new ++ z)) (three ∙ h.text)

nothing_last : (b : List ℕ) (m : Message) (s : Spelt b m) (a : Around b m s) (source : Addr) (uri : List ℕ) (absent : ℕ) (p : StartParts s.tree m.start) (st : StampedVia b (length (front_text b m s)) s.cut.here m.via source) (h : HopsMoved b m s (hops_edits b m absent) absent (body_left b m s)) (k : ℕ)
    → empty_place b m s + 2 ≤ k → inserted_at (three_groups b m source uri absent) k ≡ []
nothing_last b m s a source uri absent p st h k le =
    let u = uri_place s.tree m.start p in
    let q = length (front_text b m s) in
    (only_third (stamp m.via source) (replaced (uri_of m.start) uri) (hops_edits b m absent) k (stamp_high b m source q s.cut.here st k (omega (arith, le))) (quiet_above (uri_of m.start) uri k u.some (omega (arith, le, front_length s.tree, u.high, a.at)))).put ∙ h.high k le

in_message : (sk rl n be li ne af ex body : List ℕ) → ((sk ++ (rl ++ n)) ++ be) ++ (li ++ ((ne ++ (af ++ (ex ++ (n ++ body)))) ++ [])) ≡ sk ++ (rl ++ (n ++ ((be ++ (li ++ (ne ++ (af ++ ex)))) ++ (n ++ body))))
in_message sk rl n be li ne af ex body = simp (append_assoc, append-nil)

pub forwarded_is : (b : List ℕ) (m : Message) (s : Spelt b m) (a : Around b m s) (source : Addr) (uri : List ℕ) (listen : Addr) (branch : List ℕ) (absent : ℕ) → Reads b m → (p : StartParts s.tree m.start) (st : StampedVia b (length (front_text b m s)) s.cut.here m.via source) (h : HopsMoved b m s (hops_edits b m absent) absent (body_left b m s))
    → forwarded_text b m source [] uri listen branch absent ≡ message (tree_again s.tree (request_with p.method uri p.version) (h.before.new ++ (new_field listen branch ∷ (st.new ∷ (h.after.new ++ h.extra)))) (m.end - m.head.body))
forwarded_is b m s a source uri listen branch absent r p st h =
    let front = front_text b m s in
    let q = length front in
    let rest = field s.cut.here ++ (fields s.cut.after ++ (crlf ++ body_left b m s)) in
    let all = three_groups b m source uri absent in
    let text = text_is b m s a r in
    let place : place_of (first kind.Via m.head.fields.items) (m.head.start.to + 2) ≡ q = ap (λ (o : Option HeaderSpan). place_of o (m.head.start.to + 2)) a.place in
    let laid = (line_is_put_in b m source [] uri listen branch absent r).0 in
    let size : length (take m.end b) ≡ empty_place b m s + (2 + length (body_left b m s)) = ap (λ (z : List ℕ). length z) text ∙ omega (arith, length-append front rest, length-append (field s.cut.here) (fields s.cut.after ++ (crlf ++ body_left b m s)), length-append (fields s.cut.after) (crlf ++ body_left b m s), length-append crlf (body_left b m s)) in
    let before : before_place (take m.end b) all (place_of (first kind.Via m.head.fields.items) (m.head.start.to + 2)) ≡ edited_from all 0 front = ap (λ (n : ℕ). edited_from all 0 (take n (take m.end b))) place ∙ ap (λ (z : List ℕ). edited_from all 0 (take q z)) text ∙ ap (λ (z : List ℕ). edited_from all 0 z) (take_at front rest q refl) in
    let last = nothing_last b m s a source uri absent p st h (length (take m.end b)) (omega (arith, size)) in
    let behind : from_place (take m.end b) all (place_of (first kind.Via m.head.fields.items) (m.head.start.to + 2)) ≡ edited_from all q rest ++ [] = ap (λ (n : ℕ). edited_from all n (drop n (take m.end b)) ++ inserted_at all (length (take m.end b))) place ∙ ap (λ (z : List ℕ). edited_from all q (drop q (take m.end b)) ++ z) last ∙ ap (λ (z : List ℕ). edited_from all q (drop q z) ++ []) text ∙ ap (λ (z : List ℕ). edited_from all q z ++ []) (drop_at front rest q refl) in
    let xs = h.before.new ++ (new_field listen branch ∷ (st.new ∷ (h.after.new ++ h.extra))) in
    let xs_text : fields xs ≡ fields h.before.new ++ (via_line listen branch ++ (field st.new ++ (fields h.after.new ++ fields h.extra))) = fields_append h.before.new (new_field listen branch ∷ (st.new ∷ (h.after.new ++ h.extra))) ∙ ap (λ (z : List ℕ). fields h.before.new ++ (z ++ (field st.new ++ fields (h.after.new ++ h.extra)))) (new_field_is listen branch) ∙ ap (λ (z : List ℕ). fields h.before.new ++ (via_line listen branch ++ (field st.new ++ z))) (fields_append h.after.new h.extra) in
    laid ∙ ap (λ (z : List ℕ). z ++ (via_line listen branch ++ from_place (take m.end b) all (place_of (first kind.Via m.head.fields.items) (m.head.start.to + 2)))) (before ∙ front_edited b m s a source uri absent p st h)
    ∙ ap (λ (z : List ℕ). ((s.tree.skipped ++ (request_with p.method uri p.version ++ crlf)) ++ fields h.before.new) ++ (via_line listen branch ++ z)) (behind ∙ ap (λ (z : List ℕ). z ++ []) (back_edited b m s a source uri absent p st h))
    ∙ in_message s.tree.skipped (request_with p.method uri p.version) crlf (fields h.before.new) (via_line listen branch) (field st.new) (fields h.after.new) (fields h.extra) (body_left b m s)
    ∙ ap (λ (z : List ℕ). s.tree.skipped ++ (request_with p.method uri p.version ++ (crlf ++ (z ++ (crlf ++ body_left b m s))))) (sym xs_text)
