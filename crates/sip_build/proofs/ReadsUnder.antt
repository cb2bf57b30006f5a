-- A request reads under the proxy's line Via: the whole.
use Rattle.std.proofs.Common.{◌≡◌, ℕ, suc, ◌+◌, ◌-◌, ◌≤◌, true, false, List, [], ◌∷◌, ◌++◌, length, take, drop, refl, sym, ap, ◌∙◌, subst, arith, append_assoc, length-append, Some, None, Ok}
use Rattle.std.specs.Prelude.{Option, codes, nat_eq, slice_range, IfSome}
use Rattle.std.specs.List.{starts_with}
use Rattle.std.proofs.lemmas.Bool.{le-ltb}
use Rattle.std.proofs.lemmas.Option.{same_Some}
use Rattle.std.proofs.lemmas.List.{take_at}
use Rattle.sip_words.specs.declared.Span.{Span}
use Rattle.sip_words.proofs.Steps.{bind_some}
use Rattle.sip_scan.specs.declared.Head.{Head}
use Rattle.sip_scan.specs.declared.field.HeaderSpan.{HeaderSpan}
use Rattle.sip_scan.specs.declared.field.Kind.TheVariants as kind
use Rattle.sip_scan.specs.Lines.{start_line}
use Rattle.sip_scan.specs.Head.{scanned, at_most_128}
use Rattle.sip_scan.specs.Grammar.{crlf, FieldTree, field, fields, field_places, MessageTree, message, head_place}
use Rattle.sip_scan.proofs.HeadAgain.{start_place, start_again, only_head}
use Rattle.sip_msg.specs.declared.message.Message.{Message}
use Rattle.sip_msg.specs.declared.start.Start.{Start}
use Rattle.sip_msg.specs.Fields.{first}
use Rattle.sip_fields.specs.declared.cseq.CSeq.{CSeq}
use Rattle.sip_fields.specs.Via.{via_at}
use Rattle.sip_msg.specs.Start.{start_at, start_of, IsStartBetween}
use Rattle.sip_msg.specs.Values.{via_of, content_length_of}
use Rattle.sip_msg.specs.Table.{is_above, end_behind, end_of, Reads}
use Rattle.sip_msg.proofs.Lies.{lies, complete}
use Rattle.sip_msg.proofs.Rows.{Begins, begins, is_head, later, no_later}
use Rattle.outside_ports.specs.declared.port.Addr.{Addr}
use Rattle.sip_build.specs.Forwarded.{via_line}
use Rattle.sip_build.specs.Laws.{IsOwn, own_via, SameFields, HasOneMore, ReadsUnder}
use Rattle.sip_build.specs.Parts.{place_of}
use Rattle.sip_build.proofs.NewVia.{new_field, new_field_is, is_new_field}
use Rattle.sip_build.proofs.Under.{Under}
use Rattle.sip_build.proofs.Spelt.{Spelt, spelt, fields_from, with_field, is_with, before_fields, behind_fields, front_length, fields_append, old_fields, new_fields, put_before, under}
use Rattle.sip_build.proofs.Twins.{AreTwins, places_append}
use Rattle.std.proofs.lemmas.Slice.{between_is}
use Rattle.sip_build.proofs.UnderVia.{new_place, values_stand, stand, stand_up, value_reads, place_is, branch_is, values_under_via, none_missing, via_under, new_list_reads, new_is_via, cookie_is}

front_pieces : (a b c : List ℕ) → a ++ (b ++ c) ≡ (a ++ b) ++ c
front_pieces a b c = simp append_assoc

-- the text up to the end of the start line
front_is : (t : MessageTree) → take (start_place t).to (message t) ≡ t.skipped ++ t.start
front_is t =
    let rest = crlf ++ (fields t.fields ++ (crlf ++ t.body)) in
    ap (λ (x : List ℕ). take (start_place t).to x) (front_pieces t.skipped t.start rest) ∙ take_at (t.skipped ++ t.start) rest (start_place t).to (omega (arith, length-append t.skipped t.start))

start_here : (b : List ℕ) (line : Span) (s : Start) → start_line b ≡ Some line → start_of b ≡ Some s → start_at (take line.to b) line.from ≡ Some s
unfolding start_of
start_here b line s e h =
    let l = bind_some (start_line b) _ s h in
    let same = same_Some l.0 line (sym l.1 ∙ e) in
    let P : Span → Type 0 = λ x. start_at (take x.to b) x.from ≡ Some s in
    subst P same l.2

pub places_length : (i : ℕ) (ts : List FieldTree) → length (field_places i ts) ≡ length ts
places_length i [] = refl
places_length i (t ∷ ts) = let rest = places_length (i + length (field t)) ts in omega (arith, rest)

-- where the message ends
pub end_moves : (b c : List ℕ) (body more : ℕ) (o : Option ℕ) → length c ≡ length b + more → end_behind c (body + more) o ≡ end_behind b body o + more
end_moves b c body more None e = e
end_moves b c body more (Some n) e = omega arith

pub not_above : (b c : List ℕ) (body more : ℕ) (o : Option ℕ) → length c ≡ length b + more → body ≤ length b → end_behind b body o ≤ length b → is_above (length c - (body + more)) o ≡ false
not_above b c body more None e le high = refl
not_above b c body more (Some n) e le high = le-ltb (length c - (body + more)) n (omega arith)

pub end_is : (b : List ℕ) (h : Head) (o : Option ℕ) → content_length_of b h.fields.items ≡ Some o → end_of b h ≡ Some (end_behind b h.body o)
end_is b h o e = rw e refl

-- what is known of the new text
pub record NewText (b : List ℕ) (m : Message) (c : List ℕ) (q : ℕ) (listen : Addr) (branch : List ℕ) : Type 0 where
  pub line : Span
  pub head : Head
  pub begun : Begins c line m.start
  pub scan : scanned c ≡ Ok head
  pub long : length c ≡ length b + length (via_line listen branch)
  pub same : take line.to b ≡ take line.to c
  pub lie : IsStartBetween line.from line.to m.start
  pub under : Under b m.head.fields.items c head.fields.items (new_place q listen branch)
  pub via : via_of c head.fields.items ≡ Some (own_via (q + 4) listen branch)
  pub reads : via_at (take (new_place q listen branch).value.to c) (new_place q listen branch).value.from ≡ Some (own_via (q + 4) listen branch)
  pub token : IfSome (own_via (q + 4) listen branch).branch (λ s. slice_range c s.from s.to ≡ branch)
  pub body : head.body ≡ m.head.body + length (via_line listen branch)

-- twins have the same bytes
pub same_fields : (b c : List ℕ) (xs ys : List HeaderSpan) → AreTwins b xs c ys → SameFields b xs c ys
same_fields b c [] [] h = tt
same_fields b c [] (y ∷ ys) h = absurd h
same_fields b c (x ∷ xs) [] h = absurd h
same_fields b c (x ∷ xs) (y ∷ ys) h = (h.0.kind, between_is b x.value.from x.value.to ∙ h.0.value.bytes ∙ sym (between_is c y.value.from y.value.to), same_fields b c xs ys h.1)

one_more : (b : List ℕ) (xs : List HeaderSpan) (c : List ℕ) (ys : List HeaderSpan) (n : HeaderSpan) → Under b xs c ys n → HasOneMore b xs c ys
one_more b xs c ys n u = record { before = u.before; one = n; after = u.after; whole = u.whole; same = same_fields b c xs (u.before ++ u.after) u.twins }

-- a message that stands on these values
pub reads_by : (b : List ℕ) (m : Message) (c : List ℕ) (q : ℕ) (listen : Addr) (branch : List ℕ) → Reads b m → starts_with nat_eq branch (codes "z9hG4bK") ≡ true → NewText b m c q listen branch → (w : Message) × ReadsUnder b m c q listen branch w
reads_by b m c q listen branch r cookie x =
    let items = m.head.fields.items in
    let more = length (via_line listen branch) in
    let own = own_via (q + 4) listen branch in
    let l = lies b m r in
    let vb = values_stand b m r in
    let sb = stand b m.start items vb.0 vb.1 in
    let o = vb.0.content_length in
    let w = values_under_via b c m.start x.line.to x.line.from items x.head.fields.items vb.0 q listen branch own x.under (omega (arith, x.long)) x.same x.lie x.via (new_list_reads c q (q + 4) listen branch x.reads) (cookie_is c (q + 4) listen branch x.token cookie) sb in
    let standing = w.1 in
    let stands = none_missing b c items x.head.fields.items q listen branch x.under (complete b m r) in
    let end_b : m.end ≡ end_behind b m.head.body o = same_Some m.end (end_behind b m.head.body o) (sym r.parts.end ∙ end_is b m.head o sb.content_length) in
    let len_c : content_length_of c x.head.fields.items ≡ Some o = standing.content_length ∙ ap (λ (y : Option ℕ). Some y) w.5 in
    let moved = end_moves b c m.head.body more o x.long in
    let end_c : end_of c x.head ≡ Some (m.end + more) = end_is c x.head o len_c ∙ ap (λ (y : ℕ). Some y) (ap (λ (k : ℕ). end_behind c k o) x.body ∙ moved ∙ ap (λ (k : ℕ). k + more) (sym end_b)) in
    let enough = not_above b c m.head.body more o x.long l.head.body_high (omega (arith, end_b, l.parts.end_high)) in
    let above : is_above (length c - x.head.body) w.0.content_length ≡ false = ap (λ (k : ℕ). is_above (length c - k) w.0.content_length) x.body ∙ ap (λ (y : Option ℕ). is_above (length c - (m.head.body + more)) y) w.5 ∙ enough in
    let none = later c x.line m.start x.head x.begun x.scan ∙ no_later c m.start x.head w.0 stands.0 stands.1 (stand_up c m.start x.head.fields.items w.0 standing) above in
    let hops : vb.0.max_forwards ≡ m.max_forwards = same_Some vb.0.max_forwards m.max_forwards (sym sb.max_forwards ∙ r.parts.max_forwards) in
    let number : vb.0.cseq.number ≡ m.cseq.number = ap (λ (y : CSeq). y.number) (same_Some vb.0.cseq m.cseq (sym sb.cseq ∙ r.parts.cseq)) in
    let made : Message = record { head = x.head; start = m.start; via = own; from = w.0.from; to = w.0.to; call_id = w.0.call_id; cseq = w.0.cseq; max_forwards = w.0.max_forwards; end = m.end + more } in (
      made,
      record {
        reads = record {
          no_fault = none;
          head = is_head c x.line m.start x.head x.begun x.scan;
          start = x.begun.start_is;
          parts = record { via = x.via; from = standing.from; to = standing.to; call_id = standing.call_id; cseq = standing.cseq; max_forwards = standing.max_forwards; end = end_c };
        };
        via = refl;
        token = x.token;
        start = refl;
        fields = one_more b items c x.head.fields.items (new_place q listen branch) x.under;
        number = w.3 ∙ number;
        max_forwards = w.4 ∙ hops;
        body = x.body;
        end = refl;
      },
    )

-- the tree with the new field, its text, and the field's place
abbrev pub tree_with : (b : List ℕ) (m : Message) → Spelt b m → Addr → List ℕ → MessageTree
tree_with b m s listen branch = with_field s.tree s.cut.before (new_field listen branch) (s.cut.here ∷ s.cut.after)

abbrev pub line_place : (b : List ℕ) (m : Message) → Spelt b m → ℕ
line_place b m s = fields_from s.tree + length (fields s.cut.before)

five : (pre a r last : List ℕ) → length (pre ++ ((a ++ r) ++ last)) ≡ length pre + (length a + length r + length last)
five pre a r last = omega (arith, length-append pre ((a ++ r) ++ last), length-append (a ++ r) last, length-append a r)

longer : (b : List ℕ) (t : MessageTree) (before : List FieldTree) (n : FieldTree) (after : List FieldTree) → b ≡ message t → t.fields ≡ before ++ after → length (message (with_field t before n after)) ≡ length b + length (field n)
longer b t before n after h e =
    let old = ap (λ (x : List ℕ). length x) (old_fields b t before after h e) ∙ five (before_fields t) (fields before) (fields after) (behind_fields t) in
    let new = ap (λ (x : List ℕ). length x) (new_fields t before n after) ∙ five (before_fields t) (fields before) (field n ++ fields after) (behind_fields t) in
    omega (arith, old, new, length-append (field n) (fields after))

body_moves : (t : MessageTree) (before : List FieldTree) (n : FieldTree) (after : List FieldTree) → t.fields ≡ before ++ after → (head_place (with_field t before n after)).body ≡ (head_place t).body + length (field n)
body_moves t before n after e =
    let old = ap (λ (ts : List FieldTree). length (fields ts)) e ∙ ap (λ (x : List ℕ). length x) (fields_append before after) ∙ length-append (fields before) (fields after) in
    let new = ap (λ (x : List ℕ). length x) (fields_append before (n ∷ after)) ∙ length-append (fields before) (field n ++ fields after) in
    omega (arith, old, new, length-append (field n) (fields after))

few_fields : (m : Message) (t : MessageTree) (before : List FieldTree) (n : FieldTree) (after : List FieldTree) → m.head ≡ head_place t → t.fields ≡ before ++ after → length m.head.fields.items ≤ 127 → at_most_128 (head_place (with_field t before n after)) ≡ Ok (head_place (with_field t before n after))
few_fields m t before n after h e few =
    let old : length m.head.fields.items ≡ length before + length after = ap (λ (x : Head). length x.fields.items) h ∙ places_length (fields_from t) t.fields ∙ ap (λ (ts : List FieldTree). length ts) e ∙ length-append before after in
    let new : length (field_places (fields_from t) (before ++ (n ∷ after))) ≡ length before + suc (length after) = places_length (fields_from t) (before ++ (n ∷ after)) ∙ length-append before (n ∷ after) in
    let test = le-ltb 128 (length (field_places (fields_from t) (before ++ (n ∷ after)))) (omega (arith, old, new)) in
    rw test refl

more_pieces : (pre a n r last : List ℕ) → pre ++ ((a ++ (n ++ r)) ++ last) ≡ (pre ++ a) ++ (n ++ (r ++ last))
more_pieces pre a n r last = simp append_assoc

pub new_text : (b : List ℕ) (m : Message) (s : Spelt b m) (listen : Addr) (branch : List ℕ) → Reads b m → IsOwn listen branch → length m.head.fields.items ≤ 127 → length b + length (via_line listen branch) ≤ 8192 → NewText b m (message (tree_with b m s listen branch)) (line_place b m s) listen branch
new_text b m s listen branch r own few short =
    let t = s.tree in
    let before = s.cut.before in
    let after = s.cut.here ∷ s.cut.after in
    let n = new_field listen branch in
    let u = tree_with b m s listen branch in
    let c = message u in
    let q = line_place b m s in
    let line = start_place t in
    let is = is_with t before n after s.is s.cut.whole (is_new_field listen branch own) in
    let same : take line.to b ≡ take line.to c = ap (λ (x : List ℕ). take line.to x) s.text ∙ front_is t ∙ sym (front_is u) in
    let start_b = start_here b line m.start (start_again b t s.is s.text) r.start in
    let start_c = subst (λ (x : List ℕ). start_at x line.from ≡ Some m.start) same start_b in
    let size = ap (λ (x : List ℕ). length x) (new_field_is listen branch) in
    let long = longer b t before n after s.text s.cut.whole ∙ ap (λ (k : ℕ). length b + k) size in
    let pre = before_fields t ++ fields before in
    let rest = fields after ++ behind_fields t in
    let at : q ≡ length pre = omega (arith, front_length t, length-append (before_fields t) (fields before)) in
    let whole : c ≡ pre ++ (field n ++ rest) = new_fields t before n after ∙ more_pieces (before_fields t) (fields before) (field n) (fields after) (behind_fields t) in
    let value = value_reads c pre rest listen branch own whole in
    let here : via_at (take (new_place q listen branch).value.to c) (new_place q listen branch).value.from ≡ Some (own_via (new_place q listen branch).value.from listen branch) = subst (λ (k : ℕ). via_at (take (new_place k listen branch).value.to c) (new_place k listen branch).value.from ≡ Some (own_via (new_place k listen branch).value.from listen branch)) (sym at) value in
    let reads = here ∙ ap (λ (k : ℕ). Some (own_via k listen branch)) (place_is q listen branch) in
    let via_is = via_under c (field_places (fields_from t) before) (field_places (q + length (field n)) after) (new_place q listen branch) (own_via (q + 4) listen branch) s.cut.none (new_is_via q listen branch) reads in
    let places = places_append (fields_from t) before (n ∷ after) in
    let token = branch_is c pre rest listen branch whole in
    let l = lies b m r in
    let lie : IsStartBetween line.from line.to m.start = subst (λ (h : Head). IsStartBetween h.start.from h.start.to m.start) s.head l.start in
    record {
      line = line;
      head = head_place u;
      begun = begins c line m.start (omega (arith, long)) (start_again c u is refl) start_c;
      scan = only_head c u is refl ∙ few_fields m t before n after s.head s.cut.whole few;
      long = long;
      same = same;
      lie = lie;
      under = under b m t before listen branch after s.text s.head s.cut.whole;
      via = subst (λ (ys : List HeaderSpan). via_of c ys ≡ Some (own_via (q + 4) listen branch)) (sym places) via_is;
      reads = reads;
      token = subst (λ (k : ℕ). IfSome (own_via (k + 4) listen branch).branch (λ (x : Span). slice_range c x.from x.to ≡ branch)) (sym at) token;
      body = body_moves t before n after s.cut.whole ∙ rw (size, s.head) refl;
    }

pub reads_under : (b : List ℕ) (m : Message) (listen : Addr) (branch : List ℕ) → Reads b m → IsOwn listen branch → starts_with nat_eq branch (codes "z9hG4bK") ≡ true → length m.head.fields.items ≤ 127 → length b + length (via_line listen branch) ≤ 8192
    → let place = place_of (first kind.Via m.head.fields.items) (m.head.start.to + 2) in
    (w : Message) × ReadsUnder b m (take place b ++ (via_line listen branch ++ drop place b)) place listen branch w
reads_under b m listen branch r own cookie few short =
    let s = spelt b m r in
    let n = new_field listen branch in
    let place = place_of (first kind.Via m.head.fields.items) (m.head.start.to + 2) in
    let q = line_place b m s in
    let at : place ≡ q = ap (λ (o : Option HeaderSpan). place_of o (m.head.start.to + 2)) s.via_is ∙ ap (λ (f : HeaderSpan). f.whole.from) s.cut.place in
    let text = put_before b s.tree s.cut.before n (s.cut.here ∷ s.cut.after) place s.text s.cut.whole at ∙ ap (λ (x : List ℕ). take place b ++ (x ++ drop place b)) (new_field_is listen branch) in
    let found = reads_by b m (message (tree_with b m s listen branch)) q listen branch r cookie (new_text b m s listen branch r own few short) in
    let moved = subst (λ (k : ℕ). ReadsUnder b m (message (tree_with b m s listen branch)) k listen branch found.0) (sym at) found.1 in
    (found.0, subst (λ (x : List ℕ). ReadsUnder b m x place listen branch found.0) text moved)
