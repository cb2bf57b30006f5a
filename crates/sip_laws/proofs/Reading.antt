-- A text that is a start line, fields and a body reads, where its fields read; and a message that reads has such fields.
use Rattle.std.proofs.Common.{◌≡◌, ℕ, ◌-◌, ◌≤◌, ◌==◌, Bool, true, false, List, [], ◌∷◌, ◌++◌, length, take, refl, sym, ap, ◌∙◌, subst, arith, length-append, length-take, Option, Some, None, option_map, Ok}
use Rattle.std.specs.Prelude.{IfSome, is_none, nat_lt, nat_eq, codes}
use Rattle.std.specs.List.{find, count_by, starts_with}
use Rattle.std.specs.Str.{bytes_eq}
use Rattle.std.proofs.lemmas.Bool.{ne_eqb, eq-eqb, le-ltb}
use Rattle.std.proofs.lemmas.Option.{cond_some}
use Rattle.sip_words.specs.declared.Span.{Span}
use Rattle.sip_words.proofs.Steps.{bind_some}
use Rattle.sip_fields.specs.declared.via.Via.{Via}
use Rattle.sip_fields.specs.declared.name_addr.NameAddr.{NameAddr}
use Rattle.sip_fields.specs.declared.cseq.CSeq.{CSeq}
use Rattle.sip_fields.specs.Via.{via_at}
use Rattle.sip_fields.specs.NameAddr.{name_addr_at}
use Rattle.sip_fields.specs.CSeq.{cseq_at}
use Rattle.sip_fields.proofs.Lies.{via_between, name_addr_between, cseq_between}
use Rattle.sip_scan.specs.declared.Head.{Head}
use Rattle.sip_scan.specs.declared.field.HeaderSpan.{HeaderSpan}
use Rattle.sip_scan.specs.declared.field.Kind.{Kind}
use Rattle.sip_scan.specs.declared.field.Kind.TheVariants as kind
use Rattle.sip_scan.specs.Head.{scanned, at_most_128}
use Rattle.sip_scan.specs.Grammar.{FieldTree, fields, field_places, MessageTree, message, IsMessageTree, head_place}
use Rattle.sip_scan.proofs.HeadAgain.{start_place, start_again, only_head}
use Rattle.sip_msg.specs.declared.message.Message.{Message}
use Rattle.sip_msg.specs.declared.start.Start.{Start}
use Rattle.sip_msg.specs.declared.start.Start.TheVariants.{Request, Status}
use Rattle.sip_msg.specs.declared.values.Values.{Values}
use Rattle.sip_msg.specs.Fields.{first, count, is_missing, is_repeated}
use Rattle.sip_msg.specs.Start.{start_at}
use Rattle.sip_msg.specs.Values.{whole_number, hops_at, call_id_at, via_of, name_addr_of, call_id_of, cseq_of, optional, max_forwards_of, content_length_of, has_cookie, fits}
use Rattle.sip_msg.specs.Table.{is_above, end_behind, Reads}
use Rattle.sip_msg.proofs.Lies.{complete}
use Rattle.sip_msg.proofs.Rows.{begins, is_head, later, no_later}
use Rattle.sip_build.specs.Parts.{part}
use Rattle.sip_build.proofs.ReadTwins.{Alike, NextAlike, via_alike, name_alike, cseq_alike, call_id_alike, whole_alike, hops_alike}
use Rattle.sip_build.proofs.Twins.{value_text}
use Rattle.sip_build.proofs.Under.{in_front}
use Rattle.sip_build.proofs.UnderVia.{values_stand, Stand, stand, stand_up}
use Rattle.sip_build.proofs.ReadsUnder.{places_length, end_is}
use Rattle.sip_build.proofs.Spelt.{before_fields, behind_fields, front_length, fields_from, in_fields}
use Rattle.sip_laws.specs.Sent.{bytes_at, SameVia}
use Rattle.sip_laws.proofs.Shift.{via_same, tag_same}
use Rattle.sip_laws.proofs.Trees.{is_named, Stands, AllStand, all_stand, find_stands, find_tree, none_stands, none_tree, count_stands, only_name, maybe, Fields, lists_here, lists_there}

no_next : (text other : List ℕ) (o p : Option ℕ) → NextAlike text o other p → is_none o ≡ true → is_none p ≡ true
no_next text other None None a h = refl
no_next text other None (Some l) a h = absurd a
no_next text other (Some k) None a h = refl
no_next text other (Some k) (Some l) a h = absurd (cc)

-- From or To, here and there
name_here : (text : List ℕ) (i : ℕ) (other : List ℕ) (n : NameAddr) → Alike text i other 0 → name_addr_at text i ≡ Some n → is_none n.next ≡ true → (k : NameAddr) × (only_name other ≡ Some k) × (bytes_at text n.tag ≡ bytes_at other k.tag)
unfolding only_name
name_here text i other n a e none =
    let there = name_alike text i other 0 n a e in
    let end = no_next text other n.next there.0.next there.2 none in
    (there.0, rw (there.1, end) refl, tag_same text i other 0 n there.0 a e there.1)

name_there : (text other : List ℕ) (j : ℕ) (n : NameAddr) → Alike text 0 other j → only_name text ≡ Some n → (k : NameAddr) × (name_addr_at other j ≡ Some k) × (is_none k.next ≡ true) × (bytes_at text n.tag ≡ bytes_at other k.tag)
unfolding only_name
name_there text other j n a e =
    let value = bind_some (name_addr_at text 0) _ n e in
    let test = cond_some (is_none value.0.next) value.0 n value.2 in
    let reads : name_addr_at text 0 ≡ Some n = value.1 ∙ ap (λ (x : NameAddr). Some x) test.1 in
    let there = name_alike text 0 other j n a reads in
    let none : is_none n.next ≡ true = subst (λ (x : NameAddr). is_none x.next ≡ true) test.1 test.0 in
    (there.0, there.1, no_next text other n.next there.0.next there.2 none, tag_same text 0 other j n there.0 a reads there.1)

-- the values of a message, field by field
record NameIn (k : Kind) (b : List ℕ) (ts : List FieldTree) (n : NameAddr) : Type 0 where
  pub field : FieldTree
  pub name : NameAddr
  pub is_first : find (is_named k) ts ≡ Some field
  pub reads : only_name (value_text field) ≡ Some name

name_in : (k : Kind) (b : List ℕ) (fs : List HeaderSpan) (ts : List FieldTree) (n : NameAddr) → AllStand b fs ts → name_addr_of k b fs ≡ Some n → NameIn k b ts n
unfolding name_addr_of
name_in k b fs ts n h e =
    let f = bind_some (first k fs) _ n e in
    let value = bind_some (name_addr_at (take f.0.value.to b) f.0.value.from) _ n f.2 in
    let test = cond_some (is_none value.0.next) value.0 n value.2 in
    let t = find_tree k b fs ts f.0 h f.1 in
    let there = name_here (take f.0.value.to b) f.0.value.from (value_text t.0) value.0 t.2.here value.1 test.0 in
    record { field = t.0; name = there.0; is_first = t.1; reads = there.1 }

pub record ViaIn (ts : List FieldTree) (b : List ℕ) (v : Via) : Type 0 where
  pub field : FieldTree
  pub via : Via
  pub is_first : find (is_named kind.Via) ts ≡ Some field
  pub reads : via_at (value_text field) 0 ≡ Some via

pub via_in : (b : List ℕ) (fs : List HeaderSpan) (ts : List FieldTree) (v : Via) → AllStand b fs ts → via_of b fs ≡ Some v → ViaIn ts b v
unfolding via_of
via_in b fs ts v h e =
    let f = bind_some (first kind.Via fs) _ v e in
    let t = find_tree kind.Via b fs ts f.0 h f.1 in
    let there = via_alike (take f.0.value.to b) f.0.value.from (value_text t.0) 0 v t.2.here f.2 in
    record { field = t.0; via = there.0; is_first = t.1; reads = there.1 }

record CallIn (ts : List FieldTree) : Type 0 where
  pub field : FieldTree
  pub call : Span
  pub is_first : find (is_named kind.CallId) ts ≡ Some field
  pub reads : call_id_at (value_text field) 0 ≡ Some call

call_in : (b : List ℕ) (fs : List HeaderSpan) (ts : List FieldTree) (s : Span) → AllStand b fs ts → call_id_of b fs ≡ Some s → CallIn ts
unfolding call_id_of
call_in b fs ts s h e =
    let f = bind_some (first kind.CallId fs) _ s e in
    let t = find_tree kind.CallId b fs ts f.0 h f.1 in
    let there = call_id_alike (take f.0.value.to b) f.0.value.from (value_text t.0) 0 s t.2.here f.2 in
    record { field = t.0; call = there.0; is_first = t.1; reads = there.1 }

record CSeqIn (ts : List FieldTree) (b : List ℕ) (c : CSeq) : Type 0 where
  pub field : FieldTree
  pub cseq : CSeq
  pub is_first : find (is_named kind.CSeq) ts ≡ Some field
  pub reads : cseq_at (value_text field) 0 ≡ Some cseq

cseq_in : (b : List ℕ) (fs : List HeaderSpan) (ts : List FieldTree) (c : CSeq) → AllStand b fs ts → cseq_of b fs ≡ Some c → CSeqIn ts b c
unfolding cseq_of
cseq_in b fs ts c h e =
    let f = bind_some (first kind.CSeq fs) _ c e in
    let t = find_tree kind.CSeq b fs ts f.0 h f.1 in
    let there = cseq_alike (take f.0.value.to b) f.0.value.from (value_text t.0) 0 c t.2.here f.2 in
    record { field = t.0; cseq = there.0; is_first = t.1; reads = there.1 }

number_in : (k : Kind) (read : List ℕ → ℕ → Option ℕ) (b : List ℕ) (fs : List HeaderSpan) (ts : List FieldTree) (o : Option ℕ) → ((text : List ℕ) (i : ℕ) (other : List ℕ) (j v : ℕ) → Alike text i other j → read text i ≡ Some v → read other j ≡ Some v) → AllStand b fs ts → optional read b (first k fs) ≡ Some o → maybe read (find (is_named k) ts) ≡ Some o
number_in k read b fs ts o alike h e = by_first (first k fs) refl e
  where
    by_value : (f : HeaderSpan) (t : FieldTree) (r : Option ℕ) → Stands b f t → read (take f.value.to b) f.value.from ≡ r → option_map Some r ≡ Some o → maybe read (Some t) ≡ Some o
    by_value f t None s is g = absurd (cc)
    by_value f t (Some v) s is g = rw (alike (take f.value.to b) f.value.from (value_text t) 0 v s.here is) g

    by_first : (x : Option HeaderSpan) → first k fs ≡ x → optional read b x ≡ Some o → maybe read (find (is_named k) ts) ≡ Some o
    by_first None is g = rw (none_tree k b fs ts h is) g
    by_first (Some f) is g = let t = find_tree k b fs ts f h is in rw t.1 (by_value f t.0 (read (take f.value.to b) f.value.from) t.2 refl g)

number_there : (k : Kind) (read : List ℕ → ℕ → Option ℕ) (c : List ℕ) (fs : List HeaderSpan) (ts : List FieldTree) (o : Option ℕ) → ((text : List ℕ) (i : ℕ) (other : List ℕ) (j v : ℕ) → Alike text i other j → read text i ≡ Some v → read other j ≡ Some v) → AllStand c fs ts → maybe read (find (is_named k) ts) ≡ Some o → optional read c (first k fs) ≡ Some o
number_there k read c fs ts o alike h e = by_first (find (is_named k) ts) refl e
  where
    by_value : (f : HeaderSpan) (t : FieldTree) (r : Option ℕ) → Stands c f t → read (value_text t) 0 ≡ r → option_map Some r ≡ Some o → optional read c (Some f) ≡ Some o
    by_value f t None s is g = absurd (cc)
    by_value f t (Some v) s is g = rw (alike (value_text t) 0 (take f.value.to c) f.value.from v s.back is) g

    by_first : (x : Option FieldTree) → find (is_named k) ts ≡ x → maybe read x ≡ Some o → optional read c (first k fs) ≡ Some o
    by_first None is g = rw (none_stands k c fs ts h is) g
    by_first (Some t) is g = let f = find_stands k c fs ts t h is in rw f.1 (by_value f.0 t (read (value_text t) 0) f.2 refl g)

hops_here : (b : List ℕ) (fs : List HeaderSpan) (ts : List FieldTree) (o : Option ℕ) → AllStand b fs ts → max_forwards_of b fs ≡ Some o → maybe hops_at (find (is_named kind.MaxForwards) ts) ≡ Some o
unfolding max_forwards_of
hops_here b fs ts o h e = number_in kind.MaxForwards hops_at b fs ts o hops_alike h e

size_here : (b : List ℕ) (fs : List HeaderSpan) (ts : List FieldTree) (o : Option ℕ) → AllStand b fs ts → content_length_of b fs ≡ Some o → maybe (whole_number 10) (find (is_named kind.ContentLength) ts) ≡ Some o
unfolding content_length_of
size_here b fs ts o h e = number_in kind.ContentLength (whole_number 10) b fs ts o (whole_alike 10) h e

pub hops_there : (c : List ℕ) (fs : List HeaderSpan) (ts : List FieldTree) (o : Option ℕ) → AllStand c fs ts → maybe hops_at (find (is_named kind.MaxForwards) ts) ≡ Some o → max_forwards_of c fs ≡ Some o
unfolding max_forwards_of
hops_there c fs ts o h e = number_there kind.MaxForwards hops_at c fs ts o hops_alike h e

pub size_there : (c : List ℕ) (fs : List HeaderSpan) (ts : List FieldTree) (o : Option ℕ) → AllStand c fs ts → maybe (whole_number 10) (find (is_named kind.ContentLength) ts) ≡ Some o → content_length_of c fs ≡ Some o
unfolding content_length_of
size_there c fs ts o h e = number_there kind.ContentLength (whole_number 10) c fs ts o (whole_alike 10) h e

-- the fields of a message stand as its trees
pub fields_stand : (b : List ℕ) (t : MessageTree) → b ≡ message t → AllStand b (field_places (fields_from t) t.fields) t.fields
fields_stand b t e = all_stand b (before_fields t) (behind_fields t) (fields_from t) t.fields (front_length t) (e ∙ in_fields t)

pub items_stand : (b : List ℕ) (m : Message) (t : MessageTree) → b ≡ message t → m.head ≡ head_place t → AllStand b m.head.fields.items t.fields
items_stand b m t e h = subst (λ (fs : List HeaderSpan). AllStand b fs t.fields) (sym (ap (λ (x : Head). x.fields.items) h)) (fields_stand b t e)

-- what is read of the fields of a message that reads
pub fields_read : (b : List ℕ) (m : Message) (t : MessageTree) → Reads b m → b ≡ message t → m.head ≡ head_place t → Fields t.fields
fields_read b m t r e head =
    let fs = m.head.fields.items in
    let ts = t.fields in
    let h = items_stand b m t e head in
    let v = values_stand b m r in
    let s = stand b m.start fs v.0 v.1 in
    let one = complete b m r in
    let via = via_in b fs ts v.0.via h s.via in
    let from = name_in kind.From b fs ts v.0.from h s.from in
    let to = name_in kind.To b fs ts v.0.to h s.to in
    let call = call_in b fs ts v.0.call_id h s.call_id in
    let cseq = cseq_in b fs ts v.0.cseq h s.cseq in
    let counts : (k : Kind) → count_by (is_named k) ts ≡ count k fs = λ k. sym (count_stands k b fs ts h) in
    record {
      via_field = via.field;
      via = via.via;
      via_first = via.is_first;
      via_reads = via.reads;
      from_field = from.field;
      from = from.name;
      from_first = from.is_first;
      from_reads = from.reads;
      to_field = to.field;
      to = to.name;
      to_first = to.is_first;
      to_reads = to.reads;
      call_field = call.field;
      call = call.call;
      call_first = call.is_first;
      call_reads = call.reads;
      cseq_field = cseq.field;
      cseq = cseq.cseq;
      cseq_first = cseq.is_first;
      cseq_reads = cseq.reads;
      hops = v.0.max_forwards;
      hops_read = hops_here b fs ts v.0.max_forwards h s.max_forwards;
      size = v.0.content_length;
      size_read = size_here b fs ts v.0.content_length h s.content_length;
      lists = lists_here b fs ts h s.lists;
      some_via = omega (arith, counts kind.Via, one.via);
      one_from = counts kind.From ∙ one.from;
      one_to = counts kind.To ∙ one.to;
      one_call = counts kind.CallId ∙ one.call_id;
      one_cseq = counts kind.CSeq ∙ one.cseq;
      few_hops = omega (arith, counts kind.MaxForwards, one.max_forwards);
      few_sizes = omega (arith, counts kind.ContentLength, one.content_length);
    }

-- a branch begins with the cookie
abbrev pub cookie_in : Option (List ℕ) → Bool
cookie_in None = false
cookie_in (Some w) = starts_with nat_eq w (codes "z9hG4bK")

pub cookie_is : (b : List ℕ) (o : Option Span) → has_cookie b o ≡ cookie_in (bytes_at b o)
cookie_is b None = refl
cookie_is b (Some s) = refl

-- the start line and the fields of a request fit
abbrev pub TreeFits : (c : List ℕ) → (ts : List FieldTree) → Fields ts → Start → Type 0
TreeFits c ts x (Status code reason) = Unit {0}
TreeFits c ts x (Request method uri) = (part (value_text x.cseq_field) x.cseq.method ≡ part c method) × (cookie_in (bytes_at (value_text x.via_field) x.via.branch) ≡ true)

-- a Via value in the front of a text
bytes_front : (text : List ℕ) (n : ℕ) (o : Option Span) (i : ℕ) → IfSome o (λ s. (s.from ≤ s.to) × (s.to ≤ n)) → bytes_at (take n text) o ≡ bytes_at text o
bytes_front text n None i h = refl
bytes_front text n (Some s) i h = ap (λ (w : List ℕ). Some w) (in_front text n s.from s.to h.0 h.1)

if_between : (i j n : ℕ) (o : Option Span) → j ≤ n → IfSome o (Rattle.sip_words.specs.Spans.IsBetween i j) → IfSome o (λ s. (s.from ≤ s.to) × (s.to ≤ n))
if_between i j n None le h = tt
if_between i j n (Some s) le h = (h.order, omega (arith, h.high, le))

pub via_front : (x : List ℕ) (v : Via) (c : List ℕ) (n i : ℕ) (w : Via) → i ≤ length (take n c) → via_at (take n c) i ≡ Some w → SameVia x v (take n c) w × (part x v.whole ≡ part (take n c) w.whole) → SameVia x v c w × (part x v.whole ≡ part c w.whole)
via_front x v c n i w le e both =
    let s = both.0 in
    let k = via_between (take n c) i w le e in
    let short : length (take n c) ≤ n = omega (arith, length-take n c) in (
      record {
        host = s.host;
        host_bytes = s.host_bytes ∙ in_front c n w.host_at.from w.host_at.to k.host_at.order (omega (arith, k.host_at.high, short));
        port = s.port;
        branch = s.branch ∙ bytes_front c n w.branch i (if_between i (length (take n c)) n w.branch short k.branch);
      },
      both.1 ∙ in_front c n w.whole.from w.whole.to k.whole.order (omega (arith, k.whole.high, short)),
    )

-- the values of the fields, read in the text
pub record ViaThere (c : List ℕ) (fs : List HeaderSpan) (text : List ℕ) (v : Via) : Type 0 where
  pub via : Via
  pub reads : via_of c fs ≡ Some via
  pub same : SameVia text v c via
  pub whole : part text v.whole ≡ part c via.whole

pub via_there : (c : List ℕ) (fs : List HeaderSpan) (ts : List FieldTree) (t : FieldTree) (v : Via) → AllStand c fs ts → find (is_named kind.Via) ts ≡ Some t → via_at (value_text t) 0 ≡ Some v → ViaThere c fs (value_text t) v
unfolding via_of
via_there c fs ts t v h e reads =
    let f = find_stands kind.Via c fs ts t h e in
    let there = via_alike (value_text t) 0 (take f.0.value.to c) f.0.value.from v f.2.back reads in
    let same = via_same (value_text t) 0 (take f.0.value.to c) f.0.value.from v there.0 f.2.back reads there.1 in
    let all = via_front (value_text t) v c f.0.value.to f.0.value.from there.0 f.2.back.right there.1 same in
    record { via = there.0; reads = rw (f.1, there.1) refl; same = all.0; whole = all.1 }

pub record NameThere (k : Kind) (c : List ℕ) (fs : List HeaderSpan) (text : List ℕ) (n : NameAddr) : Type 0 where
  pub name : NameAddr
  pub reads : name_addr_of k c fs ≡ Some name
  pub tag : bytes_at text n.tag ≡ bytes_at c name.tag

pub name_is_there : (k : Kind) (c : List ℕ) (fs : List HeaderSpan) (ts : List FieldTree) (t : FieldTree) (n : NameAddr) → AllStand c fs ts → find (is_named k) ts ≡ Some t → only_name (value_text t) ≡ Some n → NameThere k c fs (value_text t) n
unfolding name_addr_of
name_is_there k c fs ts t n h e reads =
    let f = find_stands k c fs ts t h e in
    let other = take f.0.value.to c in
    let there = name_there (value_text t) other f.0.value.from n f.2.back reads in
    let lies = name_addr_between other f.0.value.from there.0 f.2.back.right there.1 in
    record { name = there.0; reads = rw (f.1, there.1, there.2) refl; tag = there.3 ∙ bytes_front c f.0.value.to there.0.tag 0 (if_between f.0.value.from (length other) f.0.value.to there.0.tag (omega (arith, length-take f.0.value.to c)) lies.tag) }

pub call_there : (c : List ℕ) (fs : List HeaderSpan) (ts : List FieldTree) (t : FieldTree) (s : Span) → AllStand c fs ts → find (is_named kind.CallId) ts ≡ Some t → call_id_at (value_text t) 0 ≡ Some s → (r : Span) × (call_id_of c fs ≡ Some r)
unfolding call_id_of
call_there c fs ts t s h e reads =
    let f = find_stands kind.CallId c fs ts t h e in
    let there = call_id_alike (value_text t) 0 (take f.0.value.to c) f.0.value.from s f.2.back reads in
    (there.0, rw (f.1, there.1) refl)

pub record CSeqThere (c : List ℕ) (fs : List HeaderSpan) (text : List ℕ) (s : CSeq) : Type 0 where
  pub cseq : CSeq
  pub reads : cseq_of c fs ≡ Some cseq
  pub number : s.number ≡ cseq.number
  pub method : part text s.method ≡ part c cseq.method

pub cseq_there : (c : List ℕ) (fs : List HeaderSpan) (ts : List FieldTree) (t : FieldTree) (s : CSeq) → AllStand c fs ts → find (is_named kind.CSeq) ts ≡ Some t → cseq_at (value_text t) 0 ≡ Some s → CSeqThere c fs (value_text t) s
unfolding cseq_of
cseq_there c fs ts t s h e reads =
    let f = find_stands kind.CSeq c fs ts t h e in
    let other = take f.0.value.to c in
    let there = cseq_alike (value_text t) 0 other f.0.value.from s f.2.back reads in
    let lies = (cseq_between other f.0.value.from there.0 f.2.back.right there.1).method in
    record { cseq = there.0; reads = rw (f.1, there.1) refl; number = there.2.number; method = there.2.method ∙ in_front c f.0.value.to there.0.method.from there.0.method.to lies.order (omega (arith, lies.high, length-take f.0.value.to c)) }

-- no field is missing, and none stands twice
one_is : (n : ℕ) → n ≡ 1 → ((n == 0) ≡ false) × (nat_lt 1 n ≡ false)
one_is n e = (ne_eqb n 0 (λ z. omega arith), le-ltb 1 n (omega arith))

none_missing : (c : List ℕ) (fs : List HeaderSpan) (ts : List FieldTree) (x : Fields ts) → AllStand c fs ts → (is_missing fs ≡ false) × (is_repeated fs ≡ false)
unfolding is_missing is_repeated
none_missing c fs ts x h =
    let counts : (k : Kind) → count k fs ≡ count_by (is_named k) ts = λ k. count_stands k c fs ts h in
    let via = ne_eqb (count kind.Via fs) 0 (λ z. omega (arith, counts kind.Via, x.some_via)) in
    let from = one_is (count kind.From fs) (counts kind.From ∙ x.one_from) in
    let to = one_is (count kind.To fs) (counts kind.To ∙ x.one_to) in
    let call = one_is (count kind.CallId fs) (counts kind.CallId ∙ x.one_call) in
    let cseq = one_is (count kind.CSeq fs) (counts kind.CSeq ∙ x.one_cseq) in
    let hops = le-ltb 1 (count kind.MaxForwards fs) (omega (arith, counts kind.MaxForwards, x.few_hops)) in
    let len = le-ltb 1 (count kind.ContentLength fs) (omega (arith, counts kind.ContentLength, x.few_sizes)) in
    (rw (via, from.0, to.0, call.0, cseq.0) refl, rw (from.1, to.1, call.1, cseq.1, hops, len) refl)

fits_there : (c : List ℕ) (ts : List FieldTree) (x : Fields ts) (s : Start) (q : CSeq) (w : Via) → TreeFits c ts x s → part (value_text x.cseq_field) x.cseq.method ≡ part c q.method → SameVia (value_text x.via_field) x.via c w → fits c s q w ≡ true
fits_there c ts x (Status code reason) q w f method via = refl
fits_there c ts x (Request method uri) q w f same via =
    let is : part c q.method ≡ part c method = sym same ∙ f.0 in
    let cookie : has_cookie c w.branch ≡ true = cookie_is c w.branch ∙ ap cookie_in (sym via.branch) ∙ f.1 in
    rw (is, bytes_same (part c method), cookie) refl
  where
    bytes_same : (w : List ℕ) → bytes_eq w w ≡ true
    bytes_same [] = refl
    bytes_same (b ∷ w) = rw (eq-eqb b b refl) (bytes_same w)

not_above : (left : ℕ) (o : Option ℕ) → IfSome o (λ n. n ≤ left) → is_above left o ≡ false
not_above left None h = refl
not_above left (Some n) h = le-ltb left n h

-- the message that a text of these fields is
pub record Made (c : List ℕ) (t : MessageTree) (x : Fields t.fields) (s : Start) (w : Message) : Type 0 where
  pub reads : Reads c w
  pub head : w.head ≡ head_place t
  pub start : w.start ≡ s
  pub stand : AllStand c w.head.fields.items t.fields
  pub via : SameVia (value_text x.via_field) x.via c w.via
  pub whole : part (value_text x.via_field) x.via.whole ≡ part c w.via.whole
  pub number : x.cseq.number ≡ w.cseq.number
  pub method : part (value_text x.cseq_field) x.cseq.method ≡ part c w.cseq.method
  pub hops : w.max_forwards ≡ x.hops
  pub tag : bytes_at (value_text x.to_field) x.to.tag ≡ bytes_at c w.to.tag
  pub end : w.end ≡ end_behind c w.head.body x.size

few_items : (t : MessageTree) → length t.fields ≤ 128 → at_most_128 (head_place t) ≡ Ok (head_place t)
few_items t few =
    let items = places_length (fields_from t) t.fields in
    let test = le-ltb 128 (length (field_places (fields_from t) t.fields)) (omega (arith, items, few)) in
    rw test refl

left_is : (c : List ℕ) (t : MessageTree) → c ≡ message t → length c - (head_place t).body ≡ length t.body
left_is c t e =
    let whole : length c ≡ length (before_fields t ++ (fields t.fields ++ behind_fields t)) = ap (λ (x : List ℕ). length x) (e ∙ in_fields t) in
    omega (arith, whole, length-append (before_fields t) (fields t.fields ++ behind_fields t), length-append (fields t.fields) (behind_fields t), front_length t, length-append (13 ∷ 10 ∷ []) t.body)

pub tree_reads : (c : List ℕ) (t : MessageTree) (s : Start) → c ≡ message t → IsMessageTree t → (x : Fields t.fields) → start_at (take (start_place t).to c) (start_place t).from ≡ Some s → TreeFits c t.fields x s → length c ≤ 8192 → length t.fields ≤ 128 → IfSome x.size (λ n. n ≤ length t.body) → (w : Message) × Made c t x s w
tree_reads c t s e is x start fit short few body =
    let h = head_place t in
    let fs = field_places (fields_from t) t.fields in
    let ts = t.fields in
    let all = fields_stand c t e in
    let begun = begins c (start_place t) s short (start_again c t is e) start in
    let scan : scanned c ≡ Ok h = only_head c t is e ∙ few_items t few in
    let via = via_there c fs ts x.via_field x.via all x.via_first x.via_reads in
    let from = name_is_there kind.From c fs ts x.from_field x.from all x.from_first x.from_reads in
    let to = name_is_there kind.To c fs ts x.to_field x.to all x.to_first x.to_reads in
    let call = call_there c fs ts x.call_field x.call all x.call_first x.call_reads in
    let cseq = cseq_there c fs ts x.cseq_field x.cseq all x.cseq_first x.cseq_reads in
    let hops = hops_there c fs ts x.hops all x.hops_read in
    let size = size_there c fs ts x.size all x.size_read in
    let stands = none_missing c fs ts x all in
    let v : Values = record { via = via.via; from = from.name; to = to.name; call_id = call.0; cseq = cseq.cseq; max_forwards = x.hops; content_length = x.size } in
    let up : Stand c s fs v = record { via = via.reads; from = from.reads; to = to.reads; call_id = call.1; cseq = cseq.reads; max_forwards = hops; content_length = size; lists = lists_there c fs ts all x.lists; fits = fits_there c ts x s cseq.cseq via.via fit cseq.method via.same } in
    let above : is_above (length c - h.body) x.size ≡ false = ap (λ (n : ℕ). is_above n x.size) (left_is c t e) ∙ not_above (length t.body) x.size body in
    let none = later c (start_place t) s h begun scan ∙ no_later c s h v stands.0 stands.1 (stand_up c s fs v up) above in
    let made : Message = record { head = h; start = s; via = via.via; from = from.name; to = to.name; call_id = call.0; cseq = cseq.cseq; max_forwards = x.hops; end = end_behind c h.body x.size } in (
      made,
      record {
        reads = record {
          no_fault = none;
          head = is_head c (start_place t) s h begun scan;
          start = begun.start_is;
          parts = record { via = via.reads; from = from.reads; to = to.reads; call_id = call.1; cseq = cseq.reads; max_forwards = hops; end = end_is c h x.size size };
        };
        head = refl;
        start = refl;
        stand = all;
        via = via.same;
        whole = via.whole;
        number = cseq.number;
        method = cseq.method;
        hops = refl;
        tag = to.tag;
        end = refl;
      },
    )
