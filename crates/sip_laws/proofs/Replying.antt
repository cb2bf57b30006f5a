-- The proxy's response to a request reads.
use Rattle.std.proofs.Common.{◌≡◌, ◌≢◌, ℕ, zero, suc, ◌+◌, ◌<◌, ◌≤◌, ◌^◌, Bool, true, false, List, [], ◌∷◌, ◌++◌, length, take, drop, refl, sym, ap, ◌∙◌, subst, arith, append_assoc, length-append, Option, Some, None, inl, inr, option_map}
use Rattle.std.specs.Prelude.{IfSome, codes, is_none, if◌then◌else◌, nat_eq}
use Rattle.std.specs.List.{find, count_by, list_all, starts_with, AllByRecursion}
use Rattle.std.specs.Fmt.{decimal}
use Rattle.std.proofs.lemmas.Bool.{cases_Bool}
use Rattle.std.proofs.lemmas.Fmt.{decimal_nonempty}
use Rattle.std.proofs.lemmas.Option.{same_Some, none-some, cond_some}
use Rattle.std.proofs.lemmas.List.{append-nil, take_at}
use Rattle.sip_words.specs.Bytes.{has, ◌and◌}
use Rattle.sip_words.specs.Spans.{span}
use Rattle.sip_words.specs.declared.Span.{Span}
use Rattle.sip_words.specs.declared.bytes.Class.TheVariants.{Token, Value, Digit}
use Rattle.sip_words.specs.Grammar.{IsWord, ValueTree, value, ParamTree, named_tree}
use Rattle.sip_words.proofs.Steps.{bind_some}
use Rattle.sip_words.proofs.Pieces.{behind, part_is}
use Rattle.sip_fields.specs.declared.via.Via.{Via}
use Rattle.sip_fields.specs.declared.name_addr.NameAddr.{NameAddr}
use Rattle.sip_fields.specs.Via.{via_at}
use Rattle.sip_fields.specs.ViaGrammar.{HasToken}
use Rattle.sip_fields.specs.NameAddr.{name_addr_at}
use Rattle.sip_fields.specs.Parts.{tail}
use Rattle.sip_scan.specs.declared.field.HeaderSpan.{HeaderSpan}
use Rattle.sip_scan.specs.declared.field.Kind.{Kind}
use Rattle.sip_scan.specs.declared.field.Kind.TheVariants as kind
use Rattle.sip_scan.specs.Field.{kind_of, is_same_kind}
use Rattle.sip_scan.specs.Grammar.{crlf, IsLine, FieldTree, field, IsFieldTree, field_place, fields, MessageTree, message, IsMessageTree}
use Rattle.sip_msg.specs.declared.message.Message.{Message}
use Rattle.sip_msg.specs.declared.start.Start.{Start}
use Rattle.sip_msg.specs.declared.start.Start.TheVariants.{Status}
use Rattle.sip_msg.specs.Fields.{first, count}
use Rattle.sip_msg.specs.Values.{whole_number, hops_at, name_addr_of}
use Rattle.sip_msg.specs.Table.{Reads}
use Rattle.outside_ports.specs.declared.port.Addr.{Addr}
use Rattle.sip_build.specs.Parts.{part, field_text, edited_vias}
use Rattle.sip_build.specs.Reply.{answer, reply_text, without_cookie, reply_tag, gives_tag, tagged, reply_to_field}
use Rattle.sip_build.specs.Reply as reply
use Rattle.sip_build.specs.Stamp.{stamp}
use Rattle.sip_build.proofs.OwnVia.{decimal_digits}
use Rattle.sip_build.proofs.Twins.{value_text}
use Rattle.sip_build.proofs.Spelt.{Spelt, spelt, fields_append}
use Rattle.sip_laws.specs.Sent.{bytes_at, SameVia, IsStatusLine, NoBareTag, IsReply}
use Rattle.sip_laws.proofs.Folded.{Folded, value_folded, field_with, is_field_with, value_with, text_with, name_with}
use Rattle.sip_laws.proofs.Shift.{tree_value, spelled, tag_says}
use Rattle.sip_laws.proofs.Trees.{is_named, all_named, text_stands, texts_stand, count_stands, only_name, maybe, Fields, ListReads}
use Rattle.sip_laws.proofs.StartAgain.{status_line, status_again, status_is_line, status_speaks, code_word, line_token}
use Rattle.sip_laws.proofs.Reading.{tree_reads}
use Rattle.sip_laws.proofs.Tags.{Tagged, pick, tally, keep, find_tagged, count_tagged, named_tagged, AllOf, all_of, find_past, count_past, named_all, at_found, at_named, all_append}
use Rattle.sip_laws.proofs.Known.{KnownBy, known_by}
use Rattle.sip_laws.proofs.Hops.{via_sym, via_then, size_field, is_size, no_list, filter_count, back_tags}
use Rattle.sip_laws.proofs.Relaying.{all_behind, find_behind, named_behind, some_count}
use Rattle.sip_laws.proofs.Again.{made_count}
use Rattle.sip_laws.proofs.Around.{around}
use Rattle.sip_laws.proofs.StampedVias.{first_stamped, vias_text}
use Rattle.sip_laws.proofs.Placed.{placed}
use Rattle.sip_laws.proofs.TaggedTo.{front_of, tagged_value, to_spelt}
use Rattle.sip_laws.proofs.Values.{token_byte}

-- the tag of a response is a word
pub all_tokens : (w : List ℕ) → list_all (has Token) w ≡ true → AllByRecursion (λ b. has Token b ≡ true) w
all_tokens [] h = tt
all_tokens (b ∷ w) h = elim (cases_Bool (has Token b)) [ inl y ↦ (y, all_tokens w (rw y at h)) | inr n ↦ absurd (cc (rw n at h)) ]

all_drop : (n : ℕ) (w : List ℕ) → AllByRecursion (λ b. has Token b ≡ true) w → AllByRecursion (λ b. has Token b ≡ true) (drop n w)
all_drop zero w a = a
all_drop (suc n) [] a = tt
all_drop (suc n) (b ∷ w) a = all_drop n w a.1

pub without : (w : List ℕ) → AllByRecursion (λ b. has Token b ≡ true) w → AllByRecursion (λ b. has Token b ≡ true) (without_cookie w)
without w a = elim (cases_Bool (starts_with nat_eq w (codes "z9hG4bK"))) [ inl y ↦ rw y (all_drop 7 w a) | inr n ↦ rw n a ]

values_of : (w : List ℕ) → AllByRecursion (λ b. has Token b ≡ true) w → AllByRecursion (λ b. has Value b ≡ true) w
values_of [] a = tt
values_of (b ∷ w) a = (token_byte b a.0, values_of w a.1)

pub token_of_tree : (o : Option ParamTree) (w : List ℕ) → IfSome o (λ p. HasToken p.value) → tree_value o ≡ Some w → list_all (has Token) w ≡ true
token_of_tree None w h e = absurd (none-some w e)
token_of_tree (Some p) w h e = by_value p.value h e
  where
    by_value : (v : Option ValueTree) → HasToken v → option_map value v ≡ Some w → list_all (has Token) w ≡ true
    by_value None k f = absurd k
    by_value (Some v) k f = subst (λ (x : List ℕ). list_all (has Token) x ≡ true) (same_Some (value v) w f) k

record TagWord (w : List ℕ) : Type 0 where
  pub value : IsWord Value w
  pub line : IsLine w

plain_tag : (w : List ℕ) → AllByRecursion (λ b. has Token b ≡ true) w → TagWord (codes "rt" ++ w)
unfolding has
plain_tag w a =
    let all : AllByRecursion (λ b. has Token b ≡ true) (codes "rt" ++ w) = (refl, (refl, a)) in
    record { value = record { some = omega arith; all = values_of (codes "rt" ++ w) all }; line = line_token (codes "rt" ++ w) (record { some = omega arith; all = all }) }

tag_word : (b : List ℕ) (o : Option Span) (t : Option ParamTree) → IfSome t (λ p. HasToken p.value) → tree_value t ≡ bytes_at b o → TagWord (reply_tag b o)
tag_word b None t h e = plain_tag [] tt
tag_word b (Some s) t h e = plain_tag (without_cookie (part b s)) (without (part b s) (all_tokens (part b s) (token_of_tree t (part b s) h e)))

-- To in the response
record ReplyTo (b : List ℕ) (m : Message) (code : ℕ) (ts : List FieldTree) : Type 0 where
  new : FieldTree
  is : IsFieldTree new
  named : is_named kind.To new ≡ true
  name : NameAddr
  reads : only_name (value_text new) ≡ Some name
  text : reply_to_field b (first kind.To m.head.fields.items) (Some m.to) code (reply_tag b m.via.branch) ≡ field new
  tag : NoBareTag b m → bytes_at (value_text new) name.tag ≡ (if gives_tag code m.to then Some (reply_tag b m.via.branch) else bytes_at b m.to.tag)

both_of : (x y : Bool) → (x and y) ≡ true → y ≡ true
both_of true y h = h
both_of false y h = absurd (cc)

none_of : {A : Type 0} (o : Option A) → is_none o ≡ true → o ≡ None
none_of None h = refl
none_of (Some x) h = absurd (cc)

no_param : (o : Option ParamTree) → IfSome o (λ p. p.value ≢ None) → tree_value o ≡ None → o ≡ None
no_param None h e = refl
no_param (Some p) h e = absurd (h (none_value p.value e))
  where
    none_value : (v : Option ValueTree) → option_map value v ≡ None → v ≡ None
    none_value None e = refl
    none_value (Some v) e = absurd (none-some (value v) (sym e))

kept_to : (b : List ℕ) (to : Option HeaderSpan) (n : NameAddr) (code : ℕ) (w : List ℕ) → gives_tag code n ≡ false → reply_to_field b to (Some n) code w ≡ field_text b to
kept_to b None n code w off = refl
kept_to b (Some f) n code w off = rw off refl

tagged_to : (b : List ℕ) (f : HeaderSpan) (n : NameAddr) (code : ℕ) (w : List ℕ) → gives_tag code n ≡ true → reply_to_field b (Some f) (Some n) code w ≡ tagged b f n w
tagged_to b f n code w on = rw on refl

to_pieces : (nm gap fr tg w tl c : List ℕ) → ((nm ++ (gap ++ 58 ∷ [])) ++ fr) ++ (tg ++ (w ++ (tl ++ c))) ≡ nm ++ (gap ++ (58 ∷ ((fr ++ ((tg ++ w) ++ tl)) ++ c)))
to_pieces nm gap fr tg w tl c = simp append_assoc

record ToRead (b : List ℕ) (m : Message) : Type 0 where
  span : HeaderSpan
  is_first : first kind.To m.head.fields.items ≡ Some span
  reads : name_addr_at (take span.value.to b) span.value.from ≡ Some m.to
  last : is_none m.to.next ≡ true

to_read : (b : List ℕ) (m : Message) → Reads b m → ToRead b m
unfolding name_addr_of
to_read b m r =
    let f = bind_some (first kind.To m.head.fields.items) _ m.to r.parts.to in
    let value = bind_some (name_addr_at (take f.0.value.to b) f.0.value.from) _ m.to f.2 in
    let test = cond_some (is_none value.0.next) value.0 m.to value.2 in
    record { span = f.0; is_first = f.1; reads = value.1 ∙ ap (λ (x : NameAddr). Some x) test.1; last = subst (λ (x : NameAddr). is_none x.next ≡ true) test.1 test.0 }

new_to : (b : List ℕ) (m : Message) (t : MessageTree) (code : ℕ) → Reads b m → KnownBy b m t → TagWord (reply_tag b m.via.branch) → gives_tag code m.to ≡ true → ReplyTo b m code t.fields
new_to b m t code r k word on =
    let w = reply_tag b m.via.branch in
    let a = to_read b m r in
    let p = placed kind.To b m t a.span k.text k.head a.is_first in
    let here = p.tree in
    let found = at_found IsFieldTree kind.To t.fields here k.is.fields p.is_first in
    let f = field_place (length p.front) here in
    let reads : name_addr_at (take f.value.to b) f.value.from ≡ Some m.to = subst (λ (x : HeaderSpan). name_addr_at (take x.value.to b) x.value.from ≡ Some m.to) p.place a.reads in
    let s = to_spelt b p.front p.behind here m.to p.text found.0 reads in
    let last = subst (λ (x : NameAddr). is_none x.next ≡ true) (sym s.place) a.last in
    let v = tagged_value s.tree w f.value.from s.is (subst Folded s.value (value_folded here found.0)) last word.value word.line in
    let nf = field_with here v.folded in
    let first_is : first kind.To m.head.fields.items ≡ Some f = a.is_first ∙ ap (λ (x : HeaderSpan). Some x) p.place in
    let none_tag : m.to.tag ≡ None = none_of m.to.tag (both_of _ (is_none m.to.tag) on) in
    record {
      new = nf;
      is = is_field_with here v.folded found.0;
      named = ap (λ (n : List ℕ). is_same_kind kind.To (kind_of n)) (name_with here v.folded) ∙ found.1;
      name = v.name;
      reads = ap only_name (value_with here v.folded) ∙ v.reads;
      text = ap (λ (o : Option HeaderSpan). reply_to_field b o (Some m.to) code w) first_is ∙ tagged_to b f m.to code w on ∙ (let be = s.before in let af = s.after in rw (be, af) refl) ∙ to_pieces here.name here.gap (front_of s.tree) (codes ";tag=") w (tail s.tree.tail) crlf ∙ sym (text_with here v.folded);
      tag = λ nb.
          let bare = nb f s.tree first_is s.is s.there in
          let says = tag_says (take f.value.to b) f.value.from s.tree s.there in
          let empty : tree_value (named_tree (codes "tag") s.tree.params) ≡ None = sym says ∙ ap (λ (x : NameAddr). bytes_at (take f.value.to b) x.tag) s.place ∙ ap (λ (o : Option Span). bytes_at (take f.value.to b) o) none_tag in
          let none = no_param (named_tree (codes "tag") s.tree.params) bare empty in
          ap (λ (x : List ℕ). bytes_at x v.name.tag) (value_with here v.folded) ∙ v.tag none ∙ rw on refl;
    }

old_to : (b : List ℕ) (m : Message) (t : MessageTree) (code : ℕ) → KnownBy b m t → gives_tag code m.to ≡ false → ReplyTo b m code t.fields
old_to b m t code k off =
    let x = k.fields in
    let found = at_found IsFieldTree kind.To t.fields x.to_field k.is.fields x.to_first in
    record {
      new = x.to_field;
      is = found.0;
      named = found.1;
      name = x.to;
      reads = x.to_reads;
      text = kept_to b (first kind.To m.head.fields.items) m.to code (reply_tag b m.via.branch) off ∙ text_stands kind.To b m.head.fields.items t.fields x.to_field k.stand x.to_first;
      tag = λ nb. k.tag ∙ rw off refl;
    }

reply_to : (b : List ℕ) (m : Message) (t : MessageTree) (code : ℕ) → Reads b m → KnownBy b m t → TagWord (reply_tag b m.via.branch) → ReplyTo b m code t.fields
reply_to b m t code r k word = elim (cases_Bool (gives_tag code m.to)) [ inl y ↦ new_to b m t code r k word y | inr n ↦ old_to b m t code k n ]

-- the fields in order
record ReplyOrder (vs back : List FieldTree) : Type 0 where
  vias : AllOf kind.Via vs
  back_is : Tagged back_tags back

found : (vs back : List FieldTree) → ReplyOrder vs back → (k : Kind) → is_same_kind k kind.Via ≡ false → find (is_named k) (vs ++ (back ++ [])) ≡ pick k back_tags back None
found vs back o k ne = find_past k kind.Via vs (back ++ []) ne o.vias ∙ find_tagged k back_tags back [] o.back_is

counted : (vs back : List FieldTree) → ReplyOrder vs back → (k : Kind) → is_same_kind k kind.Via ≡ false → count_by (is_named k) (vs ++ (back ++ [])) ≡ tally k back_tags 0
counted vs back o k ne = count_past k kind.Via vs (back ++ []) ne o.vias ∙ count_tagged k back_tags back [] o.back_is

vias_kept : (vs back : List FieldTree) → ReplyOrder vs back → all_named kind.Via (vs ++ (back ++ [])) ≡ vs
vias_kept vs back o = named_all kind.Via vs (back ++ []) o.vias ∙ ap (λ (x : List FieldTree). vs ++ x) (named_tagged kind.Via back_tags back [] o.back_is ∙ none_kept back o.back_is) ∙ append-nil vs
  where
    none_kept : (ts : List FieldTree) → Tagged back_tags ts → keep kind.Via back_tags ts [] ≡ []
    none_kept [] h = absurd h
    none_kept (a ∷ []) h = absurd h.1
    none_kept (a ∷ b ∷ []) h = absurd h.1.1
    none_kept (a ∷ b ∷ c ∷ []) h = absurd h.1.1.1
    none_kept (a ∷ b ∷ c ∷ d ∷ []) h = absurd h.1.1.1.1
    none_kept (a ∷ b ∷ c ∷ d ∷ e ∷ ts) h = refl

reply_lines : (s d sp r nl v fr to ca cs size : List ℕ) → (s ++ (d ++ (sp ++ (r ++ nl)))) ++ (v ++ (fr ++ (to ++ (ca ++ (cs ++ (size ++ nl)))))) ≡ (s ++ (d ++ (sp ++ r))) ++ (nl ++ ((v ++ (fr ++ (to ++ (ca ++ (cs ++ size))))) ++ nl))
reply_lines s d sp r nl v fr to ca cs size = simp append_assoc

reason_is : (c d reason rest : List ℕ) → c ≡ status_line d reason ++ rest → part c (span (0 + 8 + length d + 1) (0 + 8 + length d + 1 + length reason)) ≡ reason
reason_is c d reason rest e =
    let at_0 : drop 0 c ≡ codes "SIP/2.0 " ++ (d ++ (32 ∷ (reason ++ rest))) = e ∙ append_assoc (codes "SIP/2.0 ") (d ++ (32 ∷ reason)) rest ∙ ap (λ (x : List ℕ). codes "SIP/2.0 " ++ x) (append_assoc d (32 ∷ reason) rest) in
    let at_1 = behind c 0 (codes "SIP/2.0 ") _ at_0 in
    let at_2 = behind c (0 + 8) d _ at_1 in
    let at_3 = behind c (0 + 8 + length d) (32 ∷ []) (reason ++ rest) at_2 in
    part_is c (0 + 8 + length d + 1) reason rest at_3

record ReplyVias (b : List ℕ) (m : Message) (source : Addr) (t : MessageTree) (x : Fields t.fields) : Type 0 where
  new : FieldTree
  rest : List FieldTree
  via : Via
  reads : via_at (value_text new) 0 ≡ Some via
  are : AllByRecursion IsFieldTree (new ∷ rest)
  named : AllOf kind.Via (new ∷ rest)
  lists : AllByRecursion ListReads (new ∷ rest)
  text : edited_vias b (stamp m.via source) m.head.fields.items ≡ fields (new ∷ rest)
  same : SameVia (value_text x.via_field) x.via (value_text new) via
  size : length (new ∷ rest) ≡ count kind.Via m.head.fields.items

reply_vias : (b : List ℕ) (m : Message) (source : Addr) (s : Spelt b m) (k : KnownBy b m s.tree) → source.port < 2 ^ 16 → Reads b m → ReplyVias b m source s.tree k.fields
reply_vias b m source s k small r =
    let t = s.tree in
    let x = k.fields in
    let before = s.cut.before in
    let here = s.cut.here in
    let after = s.cut.after in
    let a = around b m s r in
    let st = first_stamped b m source s small a in
    let lists = all_behind ListReads before here after (subst (λ (z : List FieldTree). AllByRecursion ListReads z) s.cut.whole x.lists) in
    let kept : all_named kind.Via (here ∷ after) ≡ here ∷ all_named kind.Via after = (let on = a.named in rw on refl) in
    let all_b : all_named kind.Via t.fields ≡ here ∷ all_named kind.Via after = ap (λ (z : List FieldTree). all_named kind.Via z) s.cut.whole ∙ named_behind kind.Via before (here ∷ after) a.none ∙ kept in
    let first_of : find (is_named kind.Via) (here ∷ after) ≡ Some here = (let on = a.named in rw on refl) in
    let first_here : find (is_named kind.Via) t.fields ≡ Some here = ap (λ (z : List FieldTree). find (is_named kind.Via) z) s.cut.whole ∙ find_behind kind.Via before (here ∷ after) a.none ∙ first_of in
    let here_is : here ≡ x.via_field = same_Some here x.via_field (sym first_here ∙ x.via_first) in
    let new_named : is_named kind.Via st.new ≡ true = ap (λ (n : List ℕ). is_same_kind kind.Via (kind_of n)) st.name ∙ a.named in
    let counts = count_stands kind.Via b m.head.fields.items t.fields k.stand in
    record {
      new = st.new;
      rest = all_named kind.Via after;
      via = st.via;
      reads = st.reads;
      are = (st.is, at_named IsFieldTree kind.Via after a.are_behind);
      named = (new_named, all_of kind.Via after);
      lists = (st.lists a.named lists.0, at_named ListReads kind.Via after lists.1);
      text = vias_text b m source s a st;
      same = subst (λ (z : FieldTree). SameVia (value_text z) x.via (value_text st.new) st.via) here_is (st.same x.via (ap (λ (z : FieldTree). via_at (value_text z) 0) here_is ∙ x.via_reads));
      size = omega (arith, counts, filter_count kind.Via t.fields, ap (λ (z : List FieldTree). length z) all_b);
    }

branch_tag : (b : List ℕ) (m : Message) (t : MessageTree) → KnownBy b m t → TagWord (reply_tag b m.via.branch)
branch_tag b m t k =
    let x = k.fields in
    let sp = spelled (value_text x.via_field) 0 x.via (omega arith) x.via_reads in
    tag_word b m.via.branch (named_tree (codes "branch") sp.tree.params) sp.is.branch (sym sp.says.branch ∙ k.via.branch)

pub reply_reads : (b : List ℕ) (m : Message) (source : Addr) (code : ℕ) (reason : List ℕ) → Reads b m → source.port < 2 ^ 16 → 100 ≤ code → code ≤ 699 → IsLine reason → count kind.Via m.head.fields.items ≤ 123 → length (reply_text b m source code reason) ≤ 8192
    → (w : Message) × IsReply b m source code reason (reply_text b m source code reason) w
unfolding reply_text
reply_reads b m source code reason r small low high one few short =
    let s = spelt b m r in
    let k = known_by b m s r in
    let x = k.fields in
    let ts = s.tree.fields in
    let all = k.is.fields in
    let items = m.head.fields.items in
    let vi = reply_vias b m source s k small r in
    let to = reply_to b m s.tree code r k (branch_tag b m s.tree k) in
    let from = at_found IsFieldTree kind.From ts x.from_field all x.from_first in
    let call = at_found IsFieldTree kind.CallId ts x.call_field all x.call_first in
    let cseq = at_found IsFieldTree kind.CSeq ts x.cseq_field all x.cseq_first in
    let vs = vi.new ∷ vi.rest in
    let back = x.from_field ∷ to.new ∷ x.call_field ∷ x.cseq_field ∷ size_field ∷ [] in
    let o : ReplyOrder vs back = record { vias = vi.named; back_is = (from.1, (to.named, (call.1, (cseq.1, (is_size.tag, tt))))) } in
    let us = vs ++ back in
    let word : IsWord Digit (decimal code) = record { some = decimal_nonempty code (omega (arith, high)); all = decimal_digits code (omega (arith, high)) } in
    let digits = code_word code low high word in
    let start_text = status_line (decimal code) reason in
    let t : MessageTree = record { skipped = []; start = start_text; fields = us; body = [] } in
    let is_tree : IsMessageTree t = record {
      skipped = tt;
      start = status_is_line (decimal code) reason word one;
      sip = status_speaks (decimal code) reason;
      fields = all_append IsFieldTree vs back vi.are (from.0, (to.is, (call.0, (cseq.0, (is_size.is, tt)))));
    } in
    let f = found vs back o in
    let g = counted vs back o in
    let new_first : find (is_named kind.Via) us ≡ Some vi.new = (let on = vi.named.0 in rw on refl) in
    let fields_are : Fields us = record {
      via_field = vi.new;
      via = vi.via;
      via_first = new_first;
      via_reads = vi.reads;
      from_field = x.from_field;
      from = x.from;
      from_first = f kind.From refl;
      from_reads = x.from_reads;
      to_field = to.new;
      to = to.name;
      to_first = f kind.To refl;
      to_reads = to.reads;
      call_field = x.call_field;
      call = x.call;
      call_first = f kind.CallId refl;
      call_reads = x.call_reads;
      cseq_field = x.cseq_field;
      cseq = x.cseq;
      cseq_first = f kind.CSeq refl;
      cseq_reads = x.cseq_reads;
      hops = None;
      hops_read = ap (maybe hops_at) (f kind.MaxForwards refl);
      size = Some 0;
      size_read = ap (maybe (whole_number 10)) (f kind.ContentLength refl) ∙ Rattle.sip_laws.proofs.Hops.size_is_read;
      lists = all_append ListReads vs back vi.lists (no_list kind.From x.from_field from.1 refl refl, (no_list kind.To to.new to.named refl refl, (no_list kind.CallId x.call_field call.1 refl refl, (no_list kind.CSeq x.cseq_field cseq.1 refl refl, (no_list kind.ContentLength size_field is_size.tag refl refl, tt)))));
      some_via = some_count kind.Via us vi.new new_first;
      one_from = g kind.From refl;
      one_to = g kind.To refl;
      one_call = g kind.CallId refl;
      one_cseq = g kind.CSeq refl;
      few_hops = omega (arith, g kind.MaxForwards refl);
      few_sizes = omega (arith, g kind.ContentLength refl);
    } in
    let c = reply_text b m source code reason in
    let nl = codes "\r\n" in
    let from_text = text_stands kind.From b items ts x.from_field k.stand x.from_first in
    let call_text = text_stands kind.CallId b items ts x.call_field k.stand x.call_first in
    let cseq_text = text_stands kind.CSeq b items ts x.cseq_field k.stand x.cseq_first in
    let pieces : c ≡ reply.status_line code reason ++ (fields vs ++ (field x.from_field ++ (field to.new ++ (field x.call_field ++ (field x.cseq_field ++ (codes "Content-Length: 0\r\n" ++ nl)))))) = same_answer (reply.status_line code reason) (edited_vias b (stamp m.via source) items) (field_text b (first kind.From items)) (reply_to_field b (first kind.To items) (Some m.to) code (reply_tag b m.via.branch)) (field_text b (first kind.CallId items)) (field_text b (first kind.CSeq items)) (fields vs) (field x.from_field) (field to.new) (field x.call_field) (field x.cseq_field) (codes "Content-Length: 0\r\n\r\n") vi.text from_text to.text call_text cseq_text in
    let all_text : fields us ≡ fields vs ++ (field x.from_field ++ (field to.new ++ (field x.call_field ++ (field x.cseq_field ++ codes "Content-Length: 0\r\n")))) = fields_append vs back ∙ ap (λ (z : List ℕ). fields vs ++ (field x.from_field ++ (field to.new ++ (field x.call_field ++ (field x.cseq_field ++ z))))) (append-nil (field size_field) ∙ is_size.text) in
    let e : c ≡ message t = pieces ∙ reply_lines (codes "SIP/2.0 ") (decimal code) (codes " ") reason nl (fields vs) (field x.from_field) (field to.new) (field x.call_field) (field x.cseq_field) (codes "Content-Length: 0\r\n") ∙ ap (λ (z : List ℕ). start_text ++ (nl ++ (z ++ nl))) (sym all_text) in
    let rest = nl ++ (fields us ++ nl) in
    let front_text : take (0 + length start_text) c ≡ start_text = ap (λ (z : List ℕ). take (0 + length start_text) z) e ∙ take_at start_text rest (0 + length start_text) (omega arith) in
    let st : Start = Status code (span (0 + 8 + length (decimal code) + 1) (0 + 8 + length (decimal code) + 1 + length reason)) in
    let start = status_again (take (0 + length start_text) c) 0 code (decimal code) reason (omega arith) front_text word digits.0 digits.1 low high in
    let us_len : length us ≤ 128 = omega (arith, vi.size, few, length-append vs back) in
    let made = tree_reads c t st e is_tree fields_are start tt short us_len (omega arith) in
    let w = made.0 in
    let d = made.1 in
    let fs = w.head.fields.items in (
      w,
      record {
        reads = d.reads;
        line = subst (λ (y : Start). IsStatusLine c y code reason) (sym d.start) (refl, reason_is c (decimal code) reason rest e);
        via = via_then (via_sym k.via) (via_then vi.same d.via);
        vias = texts_stand kind.Via c fs us d.stand ∙ ap fields (vias_kept vs back o) ∙ sym vi.text;
        fields = omega (arith, made_count c t fields_are st w d, vi.size, length-append vs back);
        from = text_stands kind.From c fs us x.from_field d.stand fields_are.from_first ∙ sym from_text;
        to = text_stands kind.To c fs us to.new d.stand fields_are.to_first ∙ sym to.text;
        to_tag = λ nb. sym d.tag ∙ to.tag nb;
        call_id = text_stands kind.CallId c fs us x.call_field d.stand fields_are.call_first ∙ sym call_text;
        cseq = text_stands kind.CSeq c fs us x.cseq_field d.stand fields_are.cseq_first ∙ sym cseq_text;
        number = sym d.number ∙ k.number;
        cseq_method = sym d.method ∙ k.method;
        body = d.end ∙ omega arith;
      },
    )
  where
    same_answer : (st v fr to ca cs v2 fr2 to2 ca2 cs2 last : List ℕ) → v ≡ v2 → fr ≡ fr2 → to ≡ to2 → ca ≡ ca2 → cs ≡ cs2 → st ++ (v ++ (fr ++ (to ++ (ca ++ (cs ++ last))))) ≡ st ++ (v2 ++ (fr2 ++ (to2 ++ (ca2 ++ (cs2 ++ last)))))
    same_answer st v fr to ca cs v2 fr2 to2 ca2 cs2 last a b2 c2 d e = rw (a, b2, c2, d, e) refl
