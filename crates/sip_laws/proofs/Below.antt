-- A response that goes back without its top Via value reads.
use Rattle.std.proofs.Common.{◌≡◌, ℕ, ◌+◌, ◌-◌, ◌≤◌, true, false, List, [], ◌∷◌, ◌++◌, length, take, drop, refl, sym, ap, ◌∙◌, subst, arith, append_assoc, length-append, length-take, Option, Some, None}
use Rattle.std.specs.Prelude.{slice_range}
use Rattle.std.specs.List.{find, filter, flat_map, AllByRecursion}
use Rattle.std.proofs.lemmas.Option.{same_Some}
use Rattle.std.proofs.lemmas.List.{append-nil, take_at, drop_at}
use Rattle.std.proofs.Math.Seq.{take-append-add}
use Rattle.sip_words.specs.Spans.{span}
use Rattle.sip_fields.specs.declared.via.Via.{Via}
use Rattle.sip_fields.specs.Via.{via_at}
use Rattle.sip_scan.specs.declared.Head.{Head}
use Rattle.sip_scan.specs.declared.field.HeaderSpan.{HeaderSpan}
use Rattle.sip_scan.specs.declared.field.Kind.{Kind}
use Rattle.sip_scan.specs.declared.field.Kind.TheVariants as kind
use Rattle.sip_scan.specs.Field.{is_same_kind, kind_of}
use Rattle.sip_scan.specs.Grammar.{crlf, FieldTree, field, IsFieldTree, field_place, fields, field_places, MessageTree, message, IsMessageTree, head_place}
use Rattle.sip_scan.proofs.HeadAgain.{start_place}
use Rattle.sip_msg.specs.declared.message.Message.{Message}
use Rattle.sip_msg.specs.Fields.{is_of, first}
use Rattle.sip_msg.specs.Start.{start_at}
use Rattle.sip_msg.specs.Values.{via_of}
use Rattle.sip_msg.specs.Table.{Reads}
use Rattle.sip_msg.proofs.Lies.{few, lies}
use Rattle.sip_build.proofs.Under.{in_front}
use Rattle.sip_build.specs.Parts.{part}
use Rattle.sip_build.specs.Relayed.{relayed_text}
use Rattle.sip_build.proofs.Away.{left_is}
use Rattle.sip_build.proofs.LineLaw.{first_value_away}
use Rattle.sip_build.proofs.Spelt.{Spelt, spelt, fields_from, before_fields, behind_fields, in_fields, fields_append}
use Rattle.sip_build.proofs.Twins.{value_text}
use Rattle.sip_laws.specs.Sent.{SameVia, IsResponse, all_fields, behind_first, second_via, value_behind, value_below, field_left, vias_below, IsRelayed}
use Rattle.sip_laws.proofs.Trees.{is_named, all_named, texts_stand, ListReads}
use Rattle.sip_laws.proofs.Tags.{AllOf, named_past, named_all}
use Rattle.sip_laws.proofs.Hops.{via_sym, via_then}
use Rattle.sip_laws.proofs.Reading.{via_in, via_there}
use Rattle.sip_laws.proofs.Known.{KnownBy, known_by}
use Rattle.sip_laws.proofs.Relaying.{all_behind, find_behind, named_behind, other_kind, front_is, start_of_tree, status_fits, not_long, sizes}
use Rattle.sip_laws.proofs.Around.{front_text, via_field_place, Around, five, around, named_swap, all_swap}
use Rattle.sip_laws.proofs.Renewed.{SameKnown, NewFields, renewed, hops_stay}
use Rattle.sip_laws.proofs.Again.{tree_again, again, made_count}
use Rattle.sip_laws.proofs.NextValue.{less_via}

-- what stands in the place of the first Via field: none, or one whose text is what is left of it
pub record LeftVia (b : List ℕ) (m : Message) (s : Spelt b m) (v : Via) (c : List ℕ) : Type 0 where
  pub mid : List FieldTree
  pub field : FieldTree
  pub via : Via
  pub text : c ≡ message (tree_again s.tree s.tree.start (s.cut.before ++ (mid ++ s.cut.after)) (m.end - m.head.body))
  pub are : AllByRecursion IsFieldTree mid
  pub named : AllOf kind.Via mid
  pub lists : AllByRecursion ListReads mid
  pub is_first : find (is_named kind.Via) (mid ++ s.cut.after) ≡ Some field
  pub reads : via_at (value_text field) 0 ≡ Some via
  pub same : SameVia (value_text field) via b v
  pub one : length mid ≤ 1
  pub short : length (fields mid) ≤ length (Rattle.sip_scan.specs.Grammar.field s.cut.here)
  pub left : field_left b m.via m.via.next (first kind.Via m.head.fields.items) ≡ fields mid

abbrev left_fields : (b : List ℕ) (m : Message) (s : Spelt b m) (k : KnownBy b m s.tree) (v : Via) (c : List ℕ) (l : LeftVia b m s v c) → Around b m s → SameKnown s.tree.fields (s.cut.before ++ (l.mid ++ s.cut.after)) × NewFields (s.cut.before ++ (l.mid ++ s.cut.after))
left_fields b m s k v c l a =
    let before = s.cut.before in
    let here = s.cut.here in
    let after = s.cut.after in
    let ts = s.tree.fields in
    let us = before ++ (l.mid ++ after) in
    let others : (n : Kind) → is_same_kind n kind.Via ≡ false → all_named n us ≡ all_named n ts = λ n ne. named_swap n before here l.mid after (other_kind n kind.Via here a.named ne) (named_past n kind.Via l.mid after ne l.named) ∙ ap (λ (z : List FieldTree). all_named n z) (sym s.cut.whole) in
    let hops = hops_stay ts us k.fields (others kind.MaxForwards refl) in (
      λ n ne _ _. others n ne,
      record {
        via_field = l.field;
        via = l.via;
        via_first = find_behind kind.Via before (l.mid ++ after) a.none ∙ l.is_first;
        via_reads = l.reads;
        hops = k.fields.hops;
        hops_read = hops.0;
        few_hops = hops.1;
        lists = all_swap ListReads before here l.mid after l.lists (subst (λ (z : List FieldTree). AllByRecursion ListReads z) s.cut.whole k.fields.lists);
      },
    )

pub below_reads : (b : List ℕ) (m : Message) (s : Spelt b m) (v : Via) (c : List ℕ) → Reads b m → IsResponse m.start → LeftVia b m s v c → (w : Message) × IsRelayed b m v c w
below_reads b m s v c r is l =
    let t = s.tree in
    let k = known_by b m s r in
    let a = around b m s r in
    let ts = t.fields in
    let before = s.cut.before in
    let here = s.cut.here in
    let after = s.cut.after in
    let us = before ++ (l.mid ++ after) in
    let count = m.end - m.head.body in
    let u = tree_again t t.start us count in
    let new = left_fields b m s k v c l a in
    let x = renewed ts us k.fields new.0 new.1 in
    let is_tree : IsMessageTree u = record { skipped = s.is.skipped; start = s.is.start; sip = s.is.sip; fields = all_swap IsFieldTree before here l.mid after l.are (subst (λ (z : List FieldTree). AllByRecursion IsFieldTree z) s.cut.whole s.is.fields) } in
    let n = (start_place t).to in
    let same_front : take n b ≡ take n c = ap (λ (z : List ℕ). take n z) s.text ∙ front_is t ∙ sym (ap (λ (z : List ℕ). take n z) l.text ∙ front_is u) in
    let start = subst (λ (z : List ℕ). start_at z (start_place t).from ≡ Some m.start) same_front (start_of_tree b t m.start s.is s.text r.start) in
    let size_b : length b ≡ fields_from t + (length (fields ts) + (2 + length t.body)) = ap (λ (z : List ℕ). length z) s.text ∙ sizes t in
    let size_c : length c ≡ fields_from u + (length (fields us) + (2 + length (take count t.body))) = ap (λ (z : List ℕ). length z) l.text ∙ sizes u in
    let fields_c : length (fields us) ≡ length (fields before) + (length (fields l.mid) + length (fields after)) = ap (λ (z : List ℕ). length z) (fields_append before (l.mid ++ after)) ∙ omega (arith, length-append (fields before) (fields (l.mid ++ after)), ap (λ (z : List ℕ). length z) (fields_append l.mid after), length-append (fields l.mid) (fields after)) in
    let short : length c ≤ 8192 = omega (arith, not_long b r.no_fault, size_b, size_c, a.sizes, fields_c, l.short, length-take count t.body) in
    let us_len : length us ≤ 128 = omega (arith, few r, a.count, l.one, length-append before (l.mid ++ after), length-append l.mid after) in
    let made = again b m t k c t.start us m.start r l.text is_tree x refl start (status_fits c us x m.start is) short us_len in
    let w = made.0 in
    let d = made.1.0 in
    let fs = w.head.fields.items in
    let from = length t.skipped in
    let line_b : part b m.head.start ≡ part (take n b) (span from n) = ap (λ (h : Head). part b h.start) s.head ∙ sym (in_front b n from n (omega arith) (omega arith)) in
    let line_c : part c w.head.start ≡ part (take n c) (span from n) = ap (λ (h : Head). part c h.start) d.head ∙ sym (in_front c n from n (omega arith) (omega arith)) in
    let kept : all_named kind.Via us ≡ l.mid ++ all_named kind.Via after = named_behind kind.Via before (l.mid ++ after) a.none ∙ named_all kind.Via l.mid after l.named in
    let mine : all_fields kind.Via c w ≡ fields l.mid ++ fields (all_named kind.Via after) = texts_stand kind.Via c fs us d.stand ∙ ap fields kept ∙ fields_append l.mid (all_named kind.Via after) in
    let theirs : vias_below b m ≡ fields l.mid ++ fields (all_named kind.Via after) = ap (λ (z : List ℕ). z ++ flat_map (λ (f : HeaderSpan). part b f.whole) (filter (is_of kind.Via) (behind_first kind.Via m.head.fields.items))) l.left ∙ ap (λ (z : List HeaderSpan). fields l.mid ++ flat_map (λ (f : HeaderSpan). part b f.whole) (filter (is_of kind.Via) z)) a.behind ∙ ap (λ (z : List ℕ). fields l.mid ++ z) (texts_stand kind.Via b (field_places (length (front_text b m s) + length (field here)) after) after a.stand) in (
      w,
      record {
        reads = d.reads;
        start = d.start;
        start_line = line_c ∙ ap (λ (z : List ℕ). part z (span from n)) (sym same_front) ∙ sym line_b;
        via = via_then (via_sym l.same) d.via;
        vias = mine ∙ sym theirs;
        fields = omega (arith, made_count c u x m.start w d, a.count, l.one, length-append before (l.mid ++ after), length-append l.mid after);
        others = λ o ne. texts_stand o c fs us d.stand ∙ ap fields (named_swap o before here l.mid after (other_kind o kind.Via here a.named ne) (named_past o kind.Via l.mid after ne l.named) ∙ ap (λ (z : List FieldTree). all_named o z) (sym s.cut.whole)) ∙ sym (texts_stand o b m.head.fields.items ts k.stand);
        number = sym d.number ∙ k.number;
        cseq_method = sym d.method ∙ k.method;
        to_tag = sym d.tag ∙ k.tag;
        max_forwards = d.hops ∙ sym k.hops;
        body = made.1.1;
      },
    )

-- the value is alone in its field
field_gone : (b : List ℕ) (m : Message) (s : Spelt b m) (v : Via) → Reads b m → m.via.next ≡ None → via_of b (behind_first kind.Via m.head.fields.items) ≡ Some v → LeftVia b m s v (relayed_text b m [])
field_gone b m s v r none second =
    let a = around b m s r in
    let after = s.cut.after in
    let places = field_places (length (front_text b m s) + length (field s.cut.here)) after in
    let reads_v : via_of b places ≡ Some v = ap (λ (z : List HeaderSpan). via_of b z) (sym a.behind) ∙ second in
    let next = via_in b places after v a.stand reads_v in
    let its = via_there b places after next.field next.via a.stand next.is_first next.reads in
    let its_is = same_Some its.via v (sym its.reads ∙ reads_v) in
    record {
      mid = [];
      field = next.field;
      via = next.via;
      text = left_is b m s.via r s refl none s.via_is;
      are = tt;
      named = tt;
      lists = tt;
      is_first = next.is_first;
      reads = next.reads;
      same = subst (λ (z : Via). SameVia (value_text next.field) next.via b z) its_is its.same;
      one = omega arith;
      short = omega arith;
      left = rw none refl;
    }

-- a text without a part of it, up to a place in its body
part_gone : (b pre a h z post body : List ℕ) (from to end k : ℕ) → b ≡ pre ++ ((a ++ (h ++ z)) ++ (post ++ (crlf ++ body))) → from ≡ length pre + length a → to ≡ length pre + length a + length h → end - to ≡ length z + (length post + (2 + k))
    → take from b ++ slice_range b to end ≡ pre ++ ((a ++ z) ++ (post ++ (crlf ++ take k body)))
part_gone b pre a h z post body from to end k e f g size =
    let rest = ((z ++ post) ++ crlf) ++ body in
    let one : b ≡ (pre ++ a) ++ (h ++ rest) = e ∙ first_pieces pre a h z post crlf body in
    let two : b ≡ ((pre ++ a) ++ h) ++ rest = one ∙ sym (append_assoc (pre ++ a) h rest) in
    let front : take from b ≡ pre ++ a = ap (λ (x : List ℕ). take from x) one ∙ take_at (pre ++ a) (h ++ rest) from (omega (arith, f, length-append pre a)) in
    let behind : drop to b ≡ rest = ap (λ (x : List ℕ). drop to x) two ∙ drop_at ((pre ++ a) ++ h) rest to (omega (arith, g, length-append pre a, length-append (pre ++ a) h)) in
    let len : end - to ≡ length ((z ++ post) ++ crlf) + k = omega (arith, size, length-append (z ++ post) crlf, length-append z post) in
    let back : slice_range b to end ≡ ((z ++ post) ++ crlf) ++ take k body = ap (λ (x : List ℕ). take (end - to) x) behind ∙ ap (λ (n : ℕ). take n rest) len ∙ take-append-add ((z ++ post) ++ crlf) body k in
    rw (front, back) (last_pieces pre a z post crlf (take k body))
  where
    first_pieces : (pre a h z post n body : List ℕ) → pre ++ ((a ++ (h ++ z)) ++ (post ++ (n ++ body))) ≡ (pre ++ a) ++ (h ++ (((z ++ post) ++ n) ++ body))
    first_pieces pre a h z post n body = simp append_assoc

    last_pieces : (pre a z post n body : List ℕ) → (pre ++ a) ++ (((z ++ post) ++ n) ++ body) ≡ pre ++ ((a ++ z) ++ (post ++ (n ++ body)))
    last_pieces pre a z post n body = simp append_assoc

left_text : (t : MessageTree) (before : List FieldTree) (new : FieldTree) (after : List FieldTree) (k : ℕ) → message (tree_again t t.start (before ++ (new ∷ after)) k) ≡ (before_fields t ++ fields before) ++ (field new ++ (fields after ++ (crlf ++ take k t.body)))
left_text t before new after k = in_fields (tree_again t t.start (before ++ (new ∷ after)) k) ∙ ap (λ (z : List ℕ). before_fields t ++ (z ++ (crlf ++ take k t.body))) (fields_append before (new ∷ after)) ∙ five (before_fields t) (fields before) (field new) (fields after) (crlf ++ take k t.body)

-- another value stands behind it
value_gone : (b : List ℕ) (m : Message) (s : Spelt b m) (v : Via) (j : ℕ) → Reads b m → m.via.next ≡ Some j → value_behind b (first kind.Via m.head.fields.items) j ≡ Some v → LeftVia b m s v (relayed_text b m [])
value_gone b m s v j r more second =
    let t = s.tree in
    let a = around b m s r in
    let k = known_by b m s r in
    let before = s.cut.before in
    let here = s.cut.here in
    let after = s.cut.after in
    let front = front_text b m s in
    let f = via_field_place b m s in
    let count = m.end - m.head.body in
    let lists = all_behind ListReads before here after (subst (λ (z : List FieldTree). AllByRecursion ListReads z) s.cut.whole k.fields.lists) in
    let below : via_at (take f.value.to b) j ≡ Some v = ap (λ (o : Option HeaderSpan). value_behind b o j) (sym a.place) ∙ second in
    let n = less_via b front (fields after ++ behind_fields t) here m.via j v a.text a.is a.reads more below in
    let text : b ≡ front ++ ((n.front ++ (n.middle ++ n.back)) ++ (fields after ++ (crlf ++ t.body))) = a.text ∙ ap (λ (z : List ℕ). front ++ (z ++ (fields after ++ behind_fields t))) n.whole in
    let body : m.head.body ≡ fields_from t + length (fields t.fields) + 2 = ap (λ (h : Head). h.body) s.head in
    let here_len : length (field here) ≡ length n.front + (length n.middle + length n.back) = ap (λ (z : List ℕ). length z) n.whole ∙ omega (arith, length-append n.front (n.middle ++ n.back), length-append n.middle n.back) in
    let gap : m.end - j ≡ length n.back + (length (fields after) + (2 + count)) = omega (arith, body, a.sizes, here_len, n.to, a.at, (lies b m r).parts.end_low) in
    let c : relayed_text b m [] ≡ message (tree_again t t.start (before ++ (n.new ∷ after)) count) = first_value_away b m j r more ∙ part_gone b front n.front n.middle n.back (fields after) t.body m.via.whole.from j m.end count text n.from n.to gap ∙ ap (λ (z : List ℕ). front ++ (z ++ (fields after ++ (crlf ++ take count t.body)))) (sym n.text) ∙ sym (left_text t before n.new after count) in
    let named : is_named kind.Via n.new ≡ true = ap (λ (x : List ℕ). is_same_kind kind.Via (kind_of x)) n.name ∙ a.named in
    record {
      mid = n.new ∷ [];
      field = n.new;
      via = n.via;
      text = c;
      are = (n.is, tt);
      named = (named, tt);
      lists = (n.lists a.named lists.0, tt);
      is_first = rw named refl;
      reads = n.reads;
      same = n.same;
      one = omega arith;
      short = omega (arith, here_len, ap (λ (z : List ℕ). length z) n.text, length-append n.front n.back, length-append (field n.new) []);
      left = ap (λ (o : Option ℕ). field_left b m.via o (first kind.Via m.head.fields.items)) more ∙ ap (λ (o : Option HeaderSpan). field_left b m.via (Some j) o) a.place ∙ n.left ∙ sym (append-nil (field n.new));
    }

by_next : (b : List ℕ) (m : Message) (s : Spelt b m) (v : Via) (o : Option ℕ) → Reads b m → m.via.next ≡ o → value_below b m.head.fields.items o ≡ Some v → LeftVia b m s v (relayed_text b m [])
by_next b m s v None r e second = field_gone b m s v r e second
by_next b m s v (Some j) r e second = value_gone b m s v j r e second

pub relayed_reads : (b : List ℕ) (m : Message) (v : Via) → Reads b m → IsResponse m.start → second_via b m ≡ Some v → (w : Message) × IsRelayed b m v (relayed_text b m []) w
relayed_reads b m v r is second =
    let s = spelt b m r in
    below_reads b m s v (relayed_text b m []) r is (by_next b m s v m.via.next r refl second)
