-- A request that is forwarded without edits of a script reads.
use Rattle.std.proofs.Common.{◌≡◌, ℕ, ◌+◌, ◌-◌, ◌<◌, ◌≤◌, ◌^◌, Bool, true, false, List, [], ◌∷◌, ◌++◌, length, take, drop, refl, sym, ap, ◌∙◌, subst, arith, length-append, Some, None}
use Rattle.std.specs.Prelude.{codes, nat_eq}
use Rattle.std.specs.List.{find, starts_with, AllByRecursion}
use Rattle.std.specs.Cmp.Lexicographic.{same_text}
use Rattle.std.proofs.lemmas.Option.{same_Some}
use Rattle.std.proofs.lemmas.List.{append-nil, drop_at}
use Rattle.std.proofs.lemmas.List.Elements.{filter-append}
use Rattle.sip_words.specs.declared.bytes.Class.TheVariants.{Visible}
use Rattle.sip_words.specs.Bytes.{◌and◌}
use Rattle.sip_words.specs.Spans.{span}
use Rattle.sip_words.specs.Grammar.{IsWord}
use Rattle.sip_fields.specs.declared.via.Via.{Via}
use Rattle.sip_fields.specs.declared.cseq.CSeq.{CSeq}
use Rattle.sip_scan.specs.declared.field.Kind.{Kind}
use Rattle.sip_scan.specs.declared.field.Kind.TheVariants as kind
use Rattle.sip_scan.specs.Field.{is_same_kind, kind_of}
use Rattle.sip_scan.specs.Grammar.{crlf, IsLine, FieldTree, IsFieldTree, fields, MessageTree, message, IsMessageTree}
use Rattle.sip_scan.proofs.HeadAgain.{start_place}
use Rattle.sip_msg.specs.declared.message.Message.{Message}
use Rattle.sip_msg.specs.declared.start.Start.{Start}
use Rattle.sip_msg.specs.declared.start.Start.TheVariants.{Request, Status}
use Rattle.sip_msg.specs.Start.{start_at}
use Rattle.sip_msg.specs.Values.{fits, has_cookie}
use Rattle.sip_msg.specs.Table.{Reads}
use Rattle.outside_ports.specs.declared.port.Addr.{Addr}
use Rattle.sip_build.specs.Parts.{part}
use Rattle.sip_build.specs.Forwarded.{via_line, forwarded_text}
use Rattle.sip_build.specs.Laws.{IsOwn, own_via}
use Rattle.sip_build.proofs.NewVia.{new_field, new_field_is}
use Rattle.sip_build.proofs.Spelt.{Spelt, spelt}
use Rattle.sip_build.proofs.Twins.{value_text}
use Rattle.sip_build.proofs.UnderVia.{values_stand, stand}
use Rattle.sip_laws.specs.Sent.{SameVia, IsRequest, IsRequestLine, all_fields, method_in, most_fields, IsForwarded}
use Rattle.sip_laws.proofs.Trees.{is_named, all_named, count_stands, texts_stand, Fields, ListReads}
use Rattle.sip_laws.proofs.Tags.{all_append}
use Rattle.sip_laws.proofs.Hops.{filter_count}
use Rattle.sip_laws.proofs.Reading.{TreeFits}
use Rattle.sip_laws.proofs.Known.{KnownBy, known_by}
use Rattle.sip_laws.proofs.Relaying.{all_behind, find_behind, named_behind, other_kind, front_is}
use Rattle.sip_laws.proofs.StampedVia.{StampedVia}
use Rattle.sip_laws.proofs.Around.{front_text, Around, around}
use Rattle.sip_laws.proofs.StampedVias.{first_stamped, vias_text}
use Rattle.sip_laws.proofs.Renewed.{SameOthers, NewFields, renewed, same_find, same_count}
use Rattle.sip_laws.proofs.Again.{tree_again, again}
use Rattle.sip_laws.proofs.StartWith.{request_with, with_again, with_speaks, with_is_line, with_spans}
use Rattle.sip_laws.proofs.StartParts.{StartParts, start_parts}
use Rattle.sip_laws.proofs.HopsMoved.{hops_edits, HopsMoved, hops_moved}
use Rattle.sip_laws.proofs.ForwardedText.{body_left, forwarded_is}
use Rattle.sip_laws.proofs.OwnField.{OwnField, own_field}

-- the fields of what is forwarded
abbrev sent_fields : (b : List ℕ) (m : Message) (s : Spelt b m) (source : Addr) (listen : Addr) (branch : List ℕ) (absent : ℕ) → StampedVia b (length (front_text b m s)) s.cut.here m.via source → HopsMoved b m s (hops_edits b m absent) absent (body_left b m s) → List FieldTree
sent_fields b m s source listen branch absent st h = h.before.new ++ (new_field listen branch ∷ (st.new ∷ (h.after.new ++ h.extra)))

-- those of a kind, where neither Via is of it
named_of : (k : Kind) (before : List FieldTree) (one two : FieldTree) (after extra : List FieldTree) → is_named k one ≡ false → is_named k two ≡ false → all_named k (before ++ (one ∷ (two ∷ (after ++ extra)))) ≡ all_named k before ++ (all_named k after ++ all_named k extra)
named_of k before one two after extra a c =
    let behind : all_named k (one ∷ (two ∷ (after ++ extra))) ≡ all_named k (after ++ extra) = rw (a, c) refl in
    filter-append (is_named k) before (one ∷ (two ∷ (after ++ extra))) ∙ ap (λ (z : List FieldTree). all_named k before ++ z) (behind ∙ filter-append (is_named k) after extra)

vias_of : (before : List FieldTree) (one two : FieldTree) (after extra : List FieldTree) → is_named kind.Via one ≡ true → is_named kind.Via two ≡ true → all_named kind.Via (before ++ (one ∷ (two ∷ (after ++ extra)))) ≡ all_named kind.Via before ++ (one ∷ (two ∷ (all_named kind.Via after ++ all_named kind.Via extra)))
vias_of before one two after extra a c =
    let behind : all_named kind.Via (one ∷ (two ∷ (after ++ extra))) ≡ one ∷ (two ∷ all_named kind.Via (after ++ extra)) = rw (a, c) refl in
    filter-append (is_named kind.Via) before (one ∷ (two ∷ (after ++ extra))) ∙ ap (λ (z : List FieldTree). all_named kind.Via before ++ z) (behind ∙ ap (λ (z : List FieldTree). one ∷ (two ∷ z)) (filter-append (is_named kind.Via) after extra))

stamped_named : (b : List ℕ) (m : Message) (s : Spelt b m) (source : Addr) → Around b m s → (st : StampedVia b (length (front_text b m s)) s.cut.here m.via source) → is_named kind.Via st.new ≡ true
stamped_named b m s source a st = ap (λ (x : List ℕ). is_same_kind kind.Via (kind_of x)) st.name ∙ a.named

-- those of other kinds than Via and Max-Forwards are the same
sent_others : (b : List ℕ) (m : Message) (s : Spelt b m) (a : Around b m s) (source : Addr) (listen : Addr) (branch : List ℕ) (absent : ℕ) (st : StampedVia b (length (front_text b m s)) s.cut.here m.via source) (h : HopsMoved b m s (hops_edits b m absent) absent (body_left b m s)) → OwnField listen branch → SameOthers s.tree.fields (sent_fields b m s source listen branch absent st h)
sent_others b m s a source listen branch absent st h o k via hops =
    let off = other_kind k kind.Via s.cut.here a.named via in
    let old : all_named k s.tree.fields ≡ all_named k s.cut.before ++ all_named k s.cut.after = ap (λ (z : List FieldTree). all_named k z) s.cut.whole ∙ filter-append (is_named k) s.cut.before (s.cut.here ∷ s.cut.after) ∙ rw off refl in
    let none : all_named k h.after.new ++ all_named k h.extra ≡ all_named k s.cut.after = ap (λ (z : List FieldTree). all_named k h.after.new ++ z) (h.same k hops) ∙ append-nil (all_named k h.after.new) ∙ h.after.same k hops in
    named_of k h.before.new (new_field listen branch) st.new h.after.new h.extra (other_kind k kind.Via (new_field listen branch) o.named via) (other_kind k kind.Via st.new (stamped_named b m s source a st) via)
    ∙ ap (λ (z : List FieldTree). z ++ (all_named k h.after.new ++ all_named k h.extra)) (h.before.same k hops) ∙ ap (λ (z : List FieldTree). all_named k s.cut.before ++ z) none ∙ sym old

-- what is new
abbrev sent_new : (b : List ℕ) (m : Message) (s : Spelt b m) (k : KnownBy b m s.tree) (a : Around b m s) (source : Addr) (listen : Addr) (branch : List ℕ) (absent : ℕ) (st : StampedVia b (length (front_text b m s)) s.cut.here m.via source) (h : HopsMoved b m s (hops_edits b m absent) absent (body_left b m s)) → OwnField listen branch → NewFields (sent_fields b m s source listen branch absent st h)
sent_new b m s k a source listen branch absent st h o =
    let us = sent_fields b m s source listen branch absent st h in
    let line = new_field listen branch in
    let rest = line ∷ (st.new ∷ (h.after.new ++ h.extra)) in
    let none : find (is_named kind.Via) h.before.new ≡ None = same_find kind.Via s.cut.before h.before.new (h.before.same kind.Via refl) ∙ a.none in
    let first_of : find (is_named kind.Via) rest ≡ Some line = (let on = o.named in rw on refl) in
    let hops_off = other_kind kind.MaxForwards kind.Via line o.named refl in
    let hops_off_2 = other_kind kind.MaxForwards kind.Via st.new (stamped_named b m s source a st) refl in
    let kept = named_of kind.MaxForwards h.before.new line st.new h.after.new h.extra hops_off hops_off_2 in
    let all : all_named kind.MaxForwards us ≡ all_named kind.MaxForwards (h.before.new ++ (h.after.new ++ h.extra)) = kept ∙ sym (filter-append (is_named kind.MaxForwards) h.before.new (h.after.new ++ h.extra) ∙ ap (λ (z : List FieldTree). all_named kind.MaxForwards h.before.new ++ z) (filter-append (is_named kind.MaxForwards) h.after.new h.extra)) in
    let lists = all_behind ListReads s.cut.before s.cut.here s.cut.after (subst (λ (z : List FieldTree). AllByRecursion ListReads z) s.cut.whole k.fields.lists) in
    record {
      via_field = line;
      via = own_via 0 listen branch;
      via_first = find_behind kind.Via h.before.new rest none ∙ first_of;
      via_reads = o.reads;
      hops = Some (Rattle.sip_laws.specs.Sent.hops_left m.max_forwards absent);
      hops_read = ap (Rattle.sip_laws.proofs.Trees.maybe Rattle.sip_msg.specs.Values.hops_at) (same_find kind.MaxForwards (h.before.new ++ (h.after.new ++ h.extra)) us all) ∙ h.hops_read;
      few_hops = omega (arith, filter_count kind.MaxForwards us, ap (λ (z : List FieldTree). length z) kept, h.few, length-append (all_named kind.MaxForwards h.before.new) (all_named kind.MaxForwards h.after.new ++ all_named kind.MaxForwards h.extra), length-append (all_named kind.MaxForwards h.after.new) (all_named kind.MaxForwards h.extra));
      lists = all_append ListReads h.before.new rest h.before.lists (o.list, (st.lists a.named lists.0, all_append ListReads h.after.new h.extra h.after.lists h.lists));
    }

-- the method of CSeq is that of the start line
and_first : (x y : Bool) → (x and y) ≡ true → x ≡ true
and_first true y h = refl
and_first false y h = h

method_of_fits : (b : List ℕ) (s : Start) (c : CSeq) (v : Via) → IsRequest s → fits b s c v ≡ true → part b c.method ≡ method_in b s
method_of_fits b (Status code reason) c v is h = absurd is
method_of_fits b (Request method uri) c v is h = same_text (part b c.method) (part b method) (sym (and_first _ (has_cookie b v.branch) h))

pub cseq_method_is : (b : List ℕ) (m : Message) → Reads b m → IsRequest m.start → part b m.cseq.method ≡ method_in b m.start
cseq_method_is b m r is =
    let v = values_stand b m r in
    let s = stand b m.start m.head.fields.items v.0 v.1 in
    let same = same_Some v.0.cseq m.cseq (sym s.cseq ∙ r.parts.cseq) in
    subst (λ (c : CSeq). part b c.method ≡ method_in b m.start) same (method_of_fits b m.start v.0.cseq v.0.via is s.fits)

-- the start line with another URI, in the text
abbrev pub placed_start : (t : MessageTree) (s : Start) → StartParts t s → List ℕ → Start
placed_start t s p uri = let i = length t.skipped in Request (span i (i + length p.method)) (span (i + length p.method + 1) (i + length p.method + 1 + length uri))

pub record NewStart (b : List ℕ) (m : Message) (c uri : List ℕ) (u : MessageTree) (start : Start) : Type 0 where
  pub begins : start_at (take (start_place u).to c) (start_place u).from ≡ Some start
  pub line : IsRequestLine c start (method_in b m.start) uri

pub new_start : (b : List ℕ) (m : Message) (t : MessageTree) (p : StartParts t m.start) (uri c : List ℕ) (us : List FieldTree) (rest : List ℕ) → b ≡ message t → c ≡ message (record { skipped = t.skipped; start = request_with p.method uri p.version; fields = us; body = rest }) → IsWord Visible uri → NewStart b m c uri (record { skipped = t.skipped; start = request_with p.method uri p.version; fields = us; body = rest }) (placed_start t m.start p uri)
new_start b m t p uri c us rest old e word =
    let line = request_with p.method uri p.version in
    let u : MessageTree = record { skipped = t.skipped; start = line; fields = us; body = rest } in
    let i = length t.skipped in
    let n = (start_place u).to in
    let front : take n c ≡ t.skipped ++ line = ap (λ (z : List ℕ). take n z) e ∙ front_is u in
    let at : drop i (take n c) ≡ line = ap (λ (z : List ℕ). drop i z) front ∙ drop_at t.skipped line i refl in
    let low : i ≤ length (take n c) = omega (arith, ap (λ (z : List ℕ). length z) front, length-append t.skipped line) in
    let there : drop i c ≡ line ++ (crlf ++ (fields us ++ (crlf ++ rest))) = ap (λ (z : List ℕ). drop i z) e ∙ drop_at t.skipped (line ++ (crlf ++ (fields us ++ (crlf ++ rest)))) i refl in
    let spans = with_spans c i p.method uri p.version (crlf ++ (fields us ++ (crlf ++ rest))) there in
    let old_there : drop i b ≡ request_with p.method p.uri p.version ++ (crlf ++ (fields t.fields ++ (crlf ++ t.body))) = ap (λ (z : List ℕ). drop i z) old ∙ drop_at t.skipped (t.start ++ (crlf ++ (fields t.fields ++ (crlf ++ t.body)))) i refl ∙ ap (λ (z : List ℕ). z ++ (crlf ++ (fields t.fields ++ (crlf ++ t.body)))) p.text in
    let old_spans = with_spans b i p.method p.uri p.version (crlf ++ (fields t.fields ++ (crlf ++ t.body))) old_there in
    let method : method_in b m.start ≡ p.method = ap (λ (z : Start). method_in b z) p.start ∙ old_spans.0 in
    record {
      begins = with_again (take n c) i p.method uri p.version low at p.method_word word p.is_version;
      line = (spans.0 ∙ sym method, spans.1);
    }

pub line_method : (c : List ℕ) (s : Start) (method uri : List ℕ) (ts : List FieldTree) (x : Fields ts) → IsRequestLine c s method uri → part (value_text x.cseq_field) x.cseq.method ≡ method → Rattle.sip_laws.proofs.Reading.cookie_in (Rattle.sip_laws.specs.Sent.bytes_at (value_text x.via_field) x.via.branch) ≡ true → TreeFits c ts x s
line_method c (Status code reason) method uri ts x line same cookie = tt
line_method c (Request me ur) method uri ts x line same cookie = (same ∙ sym line.0, cookie)

pub forwarded_reads : (b : List ℕ) (m : Message) (source : Addr) (uri : List ℕ) (listen : Addr) (branch : List ℕ) (absent : ℕ) → Reads b m → IsRequest m.start → source.port < 2 ^ 16 → IsWord Visible uri → IsOwn listen branch → starts_with nat_eq branch (codes "z9hG4bK") ≡ true → absent < 256 → length m.head.fields.items ≤ most_fields m.max_forwards
    → length (forwarded_text b m source [] uri listen branch absent) ≤ 8192 → (w : Message) × IsForwarded b m source uri listen branch absent (forwarded_text b m source [] uri listen branch absent) w
forwarded_reads b m source uri listen branch absent r is small word own starts below few short =
    let s = spelt b m r in
    let t = s.tree in
    let k = known_by b m s r in
    let a = around b m s r in
    let p = start_parts b m t s.is s.text r is in
    let st = first_stamped b m source s small a in
    let h = hops_moved b m s k a absent below (body_left b m s) in
    let o = own_field listen branch own starts in
    let us = sent_fields b m s source listen branch absent st h in
    let count = m.end - m.head.body in
    let line = request_with p.method uri p.version in
    let u = tree_again t line us count in
    let c = forwarded_text b m source [] uri listen branch absent in
    let e = forwarded_is b m s a source uri listen branch absent r p st h in
    let others = sent_others b m s a source listen branch absent st h o in
    let x = renewed t.fields us k.fields (λ n via hops _. others n via hops) (sent_new b m s k a source listen branch absent st h o) in
    let is_tree : IsMessageTree u = record {
      skipped = s.is.skipped;
      start = with_is_line p.method p.uri uri p.version (subst IsLine p.text s.is.start) p.method_word word;
      sip = with_speaks p.method uri p.version p.is_version;
      fields = all_append IsFieldTree h.before.new (new_field listen branch ∷ (st.new ∷ (h.after.new ++ h.extra))) h.before.are (o.is, (st.is, all_append IsFieldTree h.after.new h.extra h.after.are h.are));
    } in
    let ns = new_start b m t p uri c us (body_left b m s) s.text e word in
    let method = k.method ∙ cseq_method_is b m r is in
    let fit = line_method c (placed_start t m.start p uri) (method_in b m.start) uri us x ns.line method o.cookie in
    let us_len : length us ≤ 128 = omega (arith, few, a.count, h.before.count, h.after.count, h.room, length-append h.before.new (new_field listen branch ∷ (st.new ∷ (h.after.new ++ h.extra))), length-append h.after.new h.extra) in
    let made = again b m t k c line us (placed_start t m.start p uri) r e is_tree x refl ns.begins fit short us_len in
    let w = made.0 in
    let d = made.1.0 in
    let fs = w.head.fields.items in
    let none : all_named kind.Via h.before.new ≡ [] = h.before.same kind.Via refl ∙ sym (append-nil _) ∙ sym (filter-append (is_named kind.Via) s.cut.before []) ∙ named_behind kind.Via s.cut.before [] a.none in
    let kept : all_named kind.Via us ≡ new_field listen branch ∷ (st.new ∷ all_named kind.Via s.cut.after) = vias_of h.before.new (new_field listen branch) st.new h.after.new h.extra o.named (stamped_named b m s source a st) ∙ ap (λ (z : List FieldTree). z ++ (new_field listen branch ∷ (st.new ∷ (all_named kind.Via h.after.new ++ all_named kind.Via h.extra)))) none ∙ ap (λ (z : List FieldTree). new_field listen branch ∷ (st.new ∷ (all_named kind.Via h.after.new ++ z))) (h.same kind.Via refl) ∙ ap (λ (z : List FieldTree). new_field listen branch ∷ (st.new ∷ z)) (append-nil (all_named kind.Via h.after.new) ∙ h.after.same kind.Via refl) in (
      w,
      record {
        reads = d.reads;
        line = subst (λ (z : Start). IsRequestLine c z (method_in b m.start) uri) (sym d.start) ns.line;
        via = subst (λ (z : List ℕ). SameVia z (own_via 0 listen branch) c w.via) o.value d.via;
        vias = texts_stand kind.Via c fs us d.stand ∙ ap fields kept ∙ ap (λ (z : List ℕ). z ++ fields (st.new ∷ all_named kind.Via s.cut.after)) (new_field_is listen branch) ∙ ap (λ (z : List ℕ). via_line listen branch ++ z) (sym (vias_text b m source s a st));
        max_forwards = d.hops;
        others = λ n via hops. texts_stand n c fs us d.stand ∙ ap fields (others n via hops) ∙ sym (texts_stand n b m.head.fields.items t.fields k.stand);
        counts = λ n via hops. count_stands n c fs us d.stand ∙ same_count n t.fields us (others n via hops) ∙ sym (count_stands n b m.head.fields.items t.fields k.stand);
        number = sym d.number ∙ k.number;
        cseq_method = sym d.method ∙ k.method;
        to_tag = sym d.tag ∙ k.tag;
        body = made.1.1;
      },
    )
