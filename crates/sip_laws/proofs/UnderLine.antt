-- A request that is forwarded with edits of a script reads, where the text with all edits but the proxy's Via reads.
use Rattle.std.proofs.Common.{◌≡◌, ℕ, ◌+◌, ◌≤◌, true, false, List, [], ◌∷◌, ◌++◌, length, take, drop, refl, sym, ap, ◌∙◌, subst, arith, append_assoc, length-append, Option, Some}
use Rattle.std.specs.Prelude.{codes, nat_eq}
use Rattle.std.specs.List.{find, starts_with, AllByRecursion}
use Rattle.std.proofs.lemmas.List.{take_at, drop_at}
use Rattle.std.proofs.lemmas.List.Elements.{filter-append}
use Rattle.sip_words.specs.Spans.{span}
use Rattle.sip_scan.specs.declared.Head.{Head}
use Rattle.sip_scan.specs.declared.field.HeaderSpan.{HeaderSpan}
use Rattle.sip_scan.specs.declared.field.Kind.{Kind}
use Rattle.sip_scan.specs.declared.field.Kind.TheVariants as kind
use Rattle.sip_scan.specs.Field.{is_same_kind}
use Rattle.sip_scan.specs.Grammar.{crlf, FieldTree, field, IsFieldTree, fields, MessageTree, message, IsMessageTree}
use Rattle.sip_scan.proofs.HeadAgain.{start_place}
use Rattle.sip_msg.specs.declared.message.Message.{Message}
use Rattle.sip_msg.specs.declared.start.Start.{Start}
use Rattle.sip_msg.specs.Fields.{first}
use Rattle.sip_msg.specs.Start.{start_at}
use Rattle.sip_msg.specs.Table.{Reads}
use Rattle.msg_edits.specs.declared.parts.Edit.{Edit}
use Rattle.msg_edits.specs.Edited.{edited}
use Rattle.outside_ports.specs.declared.port.Addr.{Addr}
use Rattle.sip_build.specs.Parts.{part, place_of}
use Rattle.sip_build.specs.Forwarded.{via_line, forwarded_text}
use Rattle.sip_build.specs.Laws.{IsOwn, own_via, other_edits, before_place, from_place}
use Rattle.sip_build.proofs.LineLaw.{line_is_put_in}
use Rattle.sip_build.proofs.NewVia.{new_field, new_field_is}
use Rattle.sip_build.proofs.Spelt.{Spelt, spelt, before_fields, behind_fields, in_fields, fields_append}
use Rattle.sip_build.proofs.Under.{in_front}
use Rattle.sip_laws.specs.Sent.{SameVia, IsRequest, all_fields, method_in, IsUnderVia}
use Rattle.sip_laws.proofs.Trees.{is_named, all_named, count_stands, texts_stand, ListReads}
use Rattle.sip_laws.proofs.Known.{KnownBy, known_by}
use Rattle.sip_laws.proofs.Relaying.{find_behind, named_behind, other_kind, front_is, start_of_tree}
use Rattle.sip_laws.proofs.Around.{front_text, Around, five, around}
use Rattle.sip_laws.proofs.Renewed.{NewFields, renewed, hops_stay, same_count}
use Rattle.sip_laws.proofs.Again.{whole_body, again_with}
use Rattle.sip_laws.proofs.StartParts.{start_parts}
use Rattle.sip_laws.proofs.Forwarding.{cseq_method_is, new_start, line_method}
use Rattle.sip_laws.proofs.OwnField.{OwnField, own_field}

-- one field more before the first Via
named_line : (k : Kind) (before : List FieldTree) (new : FieldTree) (rest : List FieldTree) → is_named k new ≡ false → all_named k (before ++ (new ∷ rest)) ≡ all_named k (before ++ rest)
named_line k before new rest off =
    let behind : all_named k (new ∷ rest) ≡ all_named k rest = rw off refl in
    filter-append (is_named k) before (new ∷ rest) ∙ ap (λ (z : List FieldTree). all_named k before ++ z) behind ∙ sym (filter-append (is_named k) before rest)

all_line : (P : FieldTree → Type 0) (before : List FieldTree) (new : FieldTree) (rest : List FieldTree) → P new → AllByRecursion P (before ++ rest) → AllByRecursion P (before ++ (new ∷ rest))
all_line P [] new rest p a = (p, a)
all_line P (u ∷ before) new rest p a = (a.0, all_line P before new rest p a.1)

abbrev line_fields : (b : List ℕ) (m : Message) → Spelt b m → Addr → List ℕ → List FieldTree
line_fields b m s listen branch = s.cut.before ++ (new_field listen branch ∷ (s.cut.here ∷ s.cut.after))

abbrev line_new : (b : List ℕ) (m : Message) (s : Spelt b m) (k : KnownBy b m s.tree) (a : Around b m s) (listen : Addr) (branch : List ℕ) → OwnField listen branch → NewFields (line_fields b m s listen branch)
line_new b m s k a listen branch o =
    let new = new_field listen branch in
    let rest = s.cut.here ∷ s.cut.after in
    let us = line_fields b m s listen branch in
    let first_of : find (is_named kind.Via) (new ∷ rest) ≡ Some new = (let on = o.named in rw on refl) in
    let hops = hops_stay s.tree.fields us k.fields (named_line kind.MaxForwards s.cut.before new rest (other_kind kind.MaxForwards kind.Via new o.named refl) ∙ ap (λ (z : List FieldTree). all_named kind.MaxForwards z) (sym s.cut.whole)) in
    record {
      via_field = new;
      via = own_via 0 listen branch;
      via_first = find_behind kind.Via s.cut.before (new ∷ rest) a.none ∙ first_of;
      via_reads = o.reads;
      hops = k.fields.hops;
      hops_read = hops.0;
      few_hops = hops.1;
      lists = all_line ListReads s.cut.before new rest o.list (subst (λ (z : List FieldTree). AllByRecursion ListReads z) s.cut.whole k.fields.lists);
    }

line_text : (t : MessageTree) (before : List FieldTree) (new here : FieldTree) (after : List FieldTree) → let u : MessageTree = record { skipped = t.skipped; start = t.start; fields = before ++ (new ∷ (here ∷ after)); body = t.body } in message u ≡ (before_fields t ++ fields before) ++ (field new ++ (field here ++ (fields after ++ behind_fields t)))
line_text t before new here after =
    let u : MessageTree = record { skipped = t.skipped; start = t.start; fields = before ++ (new ∷ (here ∷ after)); body = t.body } in
    in_fields u ∙ ap (λ (z : List ℕ). before_fields t ++ (z ++ behind_fields t)) (fields_append before (new ∷ (here ∷ after))) ∙ five (before_fields t) (fields before) (field new) (field here ++ fields after) (behind_fields t) ∙ ap (λ (z : List ℕ). (before_fields t ++ fields before) ++ (field new ++ z)) (append_assoc (field here) (fields after) (behind_fields t))

pub under_line : (b : List ℕ) (m : Message) (listen : Addr) (branch : List ℕ) (s : Spelt b m) (c : List ℕ) → Reads b m → IsRequest m.start → IsOwn listen branch → starts_with nat_eq branch (codes "z9hG4bK") ≡ true → length m.head.fields.items ≤ 127 → length c ≤ 8192
    → c ≡ front_text b m s ++ (via_line listen branch ++ (field s.cut.here ++ (fields s.cut.after ++ behind_fields s.tree))) → (w : Message) × IsUnderVia b m listen branch c w
under_line b m listen branch s c r is own starts few short laid =
    let t = s.tree in
    let k = known_by b m s r in
    let a = around b m s r in
    let o = own_field listen branch own starts in
    let new = new_field listen branch in
    let rest = s.cut.here ∷ s.cut.after in
    let ts = t.fields in
    let us = line_fields b m s listen branch in
    let u : MessageTree = record { skipped = t.skipped; start = t.start; fields = us; body = t.body } in
    let e : c ≡ message u = laid ∙ ap (λ (z : List ℕ). front_text b m s ++ (z ++ (field s.cut.here ++ (fields s.cut.after ++ behind_fields t)))) (sym (new_field_is listen branch)) ∙ sym (line_text t s.cut.before new s.cut.here s.cut.after) in
    let others : (n : Kind) → is_same_kind n kind.Via ≡ false → all_named n us ≡ all_named n ts = λ n ne. named_line n s.cut.before new rest (other_kind n kind.Via new o.named ne) ∙ ap (λ (z : List FieldTree). all_named n z) (sym s.cut.whole) in
    let x = renewed ts us k.fields (λ n via _ _. others n via) (line_new b m s k a listen branch o) in
    let is_tree : IsMessageTree u = record { skipped = s.is.skipped; start = s.is.start; sip = s.is.sip; fields = all_line IsFieldTree s.cut.before new rest o.is (subst (λ (z : List FieldTree). AllByRecursion IsFieldTree z) s.cut.whole s.is.fields) } in
    let n = (start_place t).to in
    let same_front : take n b ≡ take n c = ap (λ (z : List ℕ). take n z) s.text ∙ front_is t ∙ sym (ap (λ (z : List ℕ). take n z) e ∙ front_is u) in
    let start = subst (λ (z : List ℕ). start_at z (start_place t).from ≡ Some m.start) same_front (start_of_tree b t m.start s.is s.text r.start) in
    let p = start_parts b m t s.is s.text r is in
    let with_parts : c ≡ message (record { skipped = t.skipped; start = Rattle.sip_laws.proofs.StartWith.request_with p.method p.uri p.version; fields = us; body = t.body }) = e ∙ ap (λ (z : List ℕ). t.skipped ++ (z ++ (crlf ++ (fields us ++ (crlf ++ t.body))))) p.text in
    let ns = new_start b m t p p.uri c us t.body s.text with_parts p.uri_word in
    let method = k.method ∙ cseq_method_is b m r is in
    let fit = line_method c m.start (method_in b m.start) p.uri us x (subst (λ (z : Start). Rattle.sip_laws.specs.Sent.IsRequestLine c z (method_in b m.start) p.uri) (sym p.start) ns.line) method o.cookie in
    let us_len : length us ≤ 128 = omega (arith, few, a.count, length-append s.cut.before (new ∷ rest)) in
    let made = again_with b m t k c t.start us m.start t.body r e is_tree x refl (whole_body b m t k.fields.size r s.text s.head k.end) start fit short us_len in
    let w = made.0 in
    let d = made.1.0 in
    let fs = w.head.fields.items in
    let from = length t.skipped in
    let line_b : part b m.head.start ≡ part (take n b) (span from n) = ap (λ (h : Head). part b h.start) s.head ∙ sym (in_front b n from n (omega arith) (omega arith)) in
    let line_c : part c w.head.start ≡ part (take n c) (span from n) = ap (λ (h : Head). part c h.start) d.head ∙ sym (in_front c n from n (omega arith) (omega arith)) in
    let on_top : all_named kind.Via (new ∷ rest) ≡ new ∷ all_named kind.Via rest = (let on = o.named in rw on refl) in
    let kept : all_named kind.Via us ≡ new ∷ all_named kind.Via ts = named_behind kind.Via s.cut.before (new ∷ rest) a.none ∙ on_top ∙ ap (λ (z : List FieldTree). new ∷ z) (sym (ap (λ (z : List FieldTree). all_named kind.Via z) s.cut.whole ∙ named_behind kind.Via s.cut.before rest a.none)) in (
      w,
      record {
        reads = d.reads;
        start = d.start;
        start_line = line_c ∙ ap (λ (z : List ℕ). part z (span from n)) (sym same_front) ∙ sym line_b;
        via = subst (λ (z : List ℕ). SameVia z (own_via 0 listen branch) c w.via) o.value d.via;
        vias = texts_stand kind.Via c fs us d.stand ∙ ap fields kept ∙ ap (λ (z : List ℕ). z ++ fields (all_named kind.Via ts)) (new_field_is listen branch) ∙ ap (λ (z : List ℕ). via_line listen branch ++ z) (sym (texts_stand kind.Via b m.head.fields.items ts k.stand));
        others = λ q ne. texts_stand q c fs us d.stand ∙ ap fields (others q ne) ∙ sym (texts_stand q b m.head.fields.items ts k.stand);
        counts = λ q ne. count_stands q c fs us d.stand ∙ same_count q ts us (others q ne) ∙ sym (count_stands q b m.head.fields.items ts k.stand);
        number = sym d.number ∙ k.number;
        cseq_method = sym d.method ∙ k.method;
        to_tag = sym d.tag ∙ k.tag;
        max_forwards = d.hops ∙ sym k.hops;
        body = made.1.1;
      },
    )

-- where the line is put in
pub edited_reads : (b : List ℕ) (m : Message) (source : Addr) (edits : List Edit) (uri : List ℕ) (listen : Addr) (branch : List ℕ) (absent : ℕ) (t : Message) → Reads b m → IsOwn listen branch → starts_with nat_eq branch (codes "z9hG4bK") ≡ true
    → let text = take m.end b in
    let others = other_edits b m source edits uri absent in
    let front = before_place text others (place_of (first kind.Via m.head.fields.items) (m.head.start.to + 2)) in
    Reads (edited text others) t → IsRequest t.start → place_of (first kind.Via t.head.fields.items) (t.head.start.to + 2) ≡ length front → length t.head.fields.items ≤ 127 → length (forwarded_text b m source edits uri listen branch absent) ≤ 8192
    → (w : Message) × IsUnderVia (edited text others) t listen branch (forwarded_text b m source edits uri listen branch absent) w
edited_reads b m source edits uri listen branch absent t r own starts rt is at few short =
    let text = take m.end b in
    let others = other_edits b m source edits uri absent in
    let place = place_of (first kind.Via m.head.fields.items) (m.head.start.to + 2) in
    let front = before_place text others place in
    let back = from_place text others place in
    let laid = line_is_put_in b m source edits uri listen branch absent r in
    let whole = edited text others in
    let s = spelt whole t rt in
    let a = around whole t s rt in
    let rest = field s.cut.here ++ (fields s.cut.after ++ behind_fields s.tree) in
    let len : length (front_text whole t s) ≡ length front = sym (ap (λ (z : Option HeaderSpan). place_of z (t.head.start.to + 2)) a.place) ∙ at in
    let same_front : front ≡ front_text whole t s = sym (ap (λ (z : List ℕ). take (length front) z) laid.1 ∙ take_at front back (length front) refl) ∙ ap (λ (z : List ℕ). take (length front) z) a.text ∙ take_at (front_text whole t s) rest (length front) len in
    let same_back : back ≡ rest = sym (ap (λ (z : List ℕ). drop (length front) z) laid.1 ∙ drop_at front back (length front) refl) ∙ ap (λ (z : List ℕ). drop (length front) z) a.text ∙ drop_at (front_text whole t s) rest (length front) len in
    under_line whole t listen branch s (forwarded_text b m source edits uri listen branch absent) rt is own starts few short (laid.0 ∙ ap (λ (z : List ℕ). z ++ (via_line listen branch ++ back)) same_front ∙ ap (λ (z : List ℕ). front_text whole t s ++ (via_line listen branch ++ z)) same_back)
