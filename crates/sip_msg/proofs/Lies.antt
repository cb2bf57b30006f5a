-- A message that a datagram reads as has its parts within the datagram, and its fields are complete.
use Rattle.std.proofs.Common.{◌≡◌, ℕ, ◌+◌, ◌-◌, ◌≤◌, Bool, true, false, cond, List, [], ◌∷◌, ◌++◌, length, length-append, take, length-take-le, refl, sym, subst, ap, ◌∙◌, arith, Option, Some, None, Result, Ok, Err}
use Rattle.std.specs.Prelude.{All, IfSome, is_none, nat_lt, if◌then◌else◌}
use Rattle.std.specs.List.{list_all}
use Rattle.std.specs.Result.{result_ok}
use Rattle.std.proofs.lemmas.Bool.{ltb-false}
use Rattle.std.proofs.lemmas.Option.{same_Some, none-some, cond_some}
use Rattle.sip_words.specs.declared.Span.{Span}
use Rattle.sip_words.specs.declared.bytes.Class.TheVariants.{Unbroken}
use Rattle.sip_words.specs.Bytes.{◌and◌}
use Rattle.sip_words.specs.Spans.{span, IsBetween}
use Rattle.sip_words.specs.Words.{◌>>=◌, word_end, lws_end}
use Rattle.sip_words.proofs.Steps.{bind_some}
use Rattle.sip_words.proofs.Takes.{lws_takes, word_takes}
use Rattle.sip_words.proofs.Lies.{ends_text, taken_within}
use Rattle.sip_fields.specs.declared.via.Via.{Via}
use Rattle.sip_fields.specs.declared.name_addr.NameAddr.{NameAddr}
use Rattle.sip_fields.specs.declared.cseq.CSeq.{CSeq}
use Rattle.sip_fields.specs.NameAddr.{name_addr_at, IsNameAddrBetween}
use Rattle.sip_fields.specs.Via.{via_at, IsViaBetween}
use Rattle.sip_fields.specs.CSeq.{cseq_at, IsCSeqBetween}
use Rattle.sip_fields.proofs.Lies.{via_between, name_addr_between, cseq_between}
use Rattle.sip_scan.specs.declared.Head.{Head}
use Rattle.sip_scan.specs.declared.ScanFault.{ScanFault}
use Rattle.sip_scan.specs.declared.field.HeaderSpan.{HeaderSpan}
use Rattle.sip_scan.specs.declared.field.Kind.{Kind}
use Rattle.sip_scan.specs.declared.field.Kind.TheVariants as kind
use Rattle.sip_scan.specs.Lines.{start_line}
use Rattle.sip_scan.specs.Field.{IsField}
use Rattle.sip_scan.specs.Head.{head_behind, scanned}
use Rattle.sip_scan.specs.Head as scan
use Rattle.sip_scan.proofs.HeadTakes.{head_takes, found_head}
use Rattle.sip_scan.proofs.Lies.{spelled_lies}
use Rattle.sip_msg.specs.declared.basis.Basis.{Basis}
use Rattle.sip_msg.specs.declared.message.Message.{Message}
use Rattle.sip_msg.specs.declared.message.MsgFault.{MsgFault}
use Rattle.sip_msg.specs.declared.message.MsgFault.TheVariants.{NotSip, BadStartLine, BadHeader, Missing, Repeated, BadField, ShortBody, TooManyHeaders, TooLong}
use Rattle.sip_msg.specs.declared.start.Start.{Start}
use Rattle.sip_msg.specs.declared.values.Values.{Values}
use Rattle.sip_msg.specs.Start.{request_at, status_at, or_else, start_at, start_of, IsStartBetween}
use Rattle.sip_msg.specs.StartGrammar.{LineTree, RequestLine, StatusLine, line, line_place, IsStartAt}
use Rattle.sip_msg.specs.Fields.{first, is_missing, is_repeated}
use Rattle.sip_msg.specs.Values.{call_id_at, via_of, name_addr_of, call_id_of, cseq_of, max_forwards_of, content_length_of, list_reads, fits, values_of}
use Rattle.sip_msg.specs.Table.{head_of, fields_in, fields_of, values_under, announced, is_above, left_in, fault_of, end_behind, end_of, Reads}
use Rattle.sip_msg.specs.Basis.{answerable_at, basis_in, basis_of}
use Rattle.sip_msg.specs.Places.{InFirst, MessageLiesIn, BasisLiesIn, IsComplete}
use Rattle.sip_msg.proofs.Firsts.{found_is}
use Rattle.sip_msg.proofs.StartLaw.{request_taken, status_taken}
use Rattle.sip_msg.proofs.Complete.{start_stands}
use Rattle.sip_msg.proofs.Complete as counts

-- the parts of a start line
line_lies : (i j : ℕ) (t : LineTree) → i + length (line t) ≤ j → IsStartBetween i j (line_place i t)
line_lies i j (RequestLine method uri version) inside =
    let len = length-append method (32 ∷ (uri ++ (32 ∷ version))) in
    let rest = length-append uri (32 ∷ version) in
    (record { low = omega arith; order = omega arith; high = omega (arith, inside, len) }, record { low = omega arith; order = omega arith; high = omega (arith, inside, len, rest) })
line_lies i j (StatusLine version code None) inside =
    let len = length-append version (32 ∷ (code ++ [])) in
    let rest = length-append code [] in
    record { low = omega arith; order = omega arith; high = omega (arith, inside, len, rest) }
line_lies i j (StatusLine version code (Some w)) inside =
    let len = length-append version (32 ∷ (code ++ (32 ∷ w))) in
    let rest = length-append code (32 ∷ w) in
    record { low = omega arith; order = omega arith; high = omega (arith, inside, len, rest) }

start_taken : (text : List ℕ) (i : ℕ) (s : Start) → start_at text i ≡ Some s → IsStartAt text i s
unfolding start_at
start_taken text i s h = by_request (request_at text i) refl h
  where
    by_request : (o : Option Start) → request_at text i ≡ o → or_else o (status_at text i) ≡ Some s → IsStartAt text i s
    by_request None e k = status_taken text i s k
    by_request (Some other) e k = request_taken text i s (e ∙ k)

start_between : (text : List ℕ) (i : ℕ) (s : Start) → i ≤ length text → start_at text i ≡ Some s → IsStartBetween i (length text) s
start_between text i s le h =
    let t = start_taken text i s h in
    let end = ends_text text i (line t.0) le t.2 in
    subst (IsStartBetween i (length text)) (sym t.3) (line_lies i (length text) t.0 (omega (arith, end)))

call_id_between : (text : List ℕ) (i : ℕ) (s : Span) → i ≤ length text → call_id_at text i ≡ Some s → IsBetween i (length text) s
unfolding call_id_at
call_id_between text i s le h =
    let end = bind_some (word_end Unbroken text (lws_end text i)) _ s h in
    let c = cond_some _ _ s end.2 in
    let lead = lws_takes text i in
    let start = taken_within text i (lws_end text i) _ le lead.1 in
    let word = word_takes Unbroken text (lws_end text i) end.0 end.1 in
    let to = taken_within text (lws_end text i) end.0 word.0 start.1 word.1 in
    let lies : IsBetween i (length text) (span (lws_end text i) end.0) = record { low = start.0; order = to.0; high = to.1 } in
    subst (IsBetween i (length text)) c.1 lies

-- a value of From or To that is the only one of its field
abbrev only_value : List ℕ → ℕ → Option NameAddr
only_value text i = do
  n ← name_addr_at text i
  if is_none n.next then Some n else None

only_between : (text : List ℕ) (i : ℕ) (n : NameAddr) → i ≤ length text → only_value text i ≡ Some n → IsNameAddrBetween i (length text) n
only_between text i n le h =
    let value = bind_some (name_addr_at text i) _ n h in
    let c = cond_some _ _ n value.2 in
    subst (IsNameAddrBetween i (length text)) c.1 (name_addr_between text i value.0 le value.1)

-- what is read in the first field of a kind lies in its value
in_first : {A : Type 0} (k : Kind) (b : List ℕ) (fields : List HeaderSpan) (read : List ℕ → ℕ → Option A) (P : ℕ → ℕ → A → Type 0) (x : A)
    → ((text : List ℕ) (i : ℕ) (y : A) → i ≤ length text → read text i ≡ Some y → P i (length text) y)
    → All (IsField b) fields → (first k fields >>= (λ f. read (take f.value.to b) f.value.from)) ≡ Some x → InFirst k fields (λ i j. P i j x)
in_first {A} k b fields read P x between each h =
    let f = bind_some (first k fields) _ x h in
    let is = found_is b k fields f.0 each f.1 in
    let len : length (take f.0.value.to b) ≡ f.0.value.to = length-take-le f.0.value.to b (omega (arith, is.end, is.within)) in
    let lies = between (take f.0.value.to b) f.0.value.from x (omega (arith, len, is.value)) f.2 in
    let there : P f.0.value.from f.0.value.to x = subst (λ (n : ℕ). P f.0.value.from n x) len lies in
    let Q : Option HeaderSpan → Type 0 = λ o. IfSome o (λ g. P g.value.from g.value.to x) in
    subst Q (sym f.1) there

-- the rows of the table that don't hold, in a datagram without a fault
record NoFault (b : List ℕ) : Type 0 where
  few : nat_lt 128 (length (fields_of b)) ≡ false
  none_missing : is_missing (fields_of b) ≡ false
  none_repeated : is_repeated (fields_of b) ≡ false
  values : is_none (values_under b (start_of b) (head_of b)) ≡ false
  enough : is_above (left_in b (head_of b)) (announced (values_under b (start_of b) (head_of b))) ≡ false

no_row : (f : MsgFault) (test : Bool) (others : Option MsgFault) → cond test (Some f) others ≡ None → (test ≡ false) × (others ≡ None)
no_row f true others h = absurd (none-some f (sym h))
no_row f false others h = (refl, h)

no_fault : (b : List ℕ) → fault_of b ≡ None → NoFault b
unfolding fault_of
no_fault b h =
    let short = no_row TooLong _ _ h in
    let sip = no_row NotSip _ _ short.1 in
    let start = no_row BadStartLine _ _ sip.1 in
    let head = no_row BadHeader _ _ start.1 in
    let few = no_row TooManyHeaders _ _ head.1 in
    let stand = no_row Missing _ _ few.1 in
    let once = no_row Repeated _ _ stand.1 in
    let values = no_row BadField _ _ once.1 in
    let enough = no_row ShortBody _ _ values.1 in
    record { few = few.0; none_missing = stand.0; none_repeated = once.0; values = values.0; enough = enough.0 }

-- the fields of the head are those that the table speaks of
items_are : (b : List ℕ) (m : Message) → Reads b m → fields_of b ≡ m.head.fields.items
items_are b m r = ap fields_in r.head

pub few : {b : List ℕ} {m : Message} → Reads b m → length m.head.fields.items ≤ 128
few {b} {m} r =
    let low : nat_lt 128 (length m.head.fields.items) ≡ false = subst (λ (xs : List HeaderSpan). nat_lt 128 (length xs) ≡ false) (items_are b m r) (no_fault b r.no_fault).few in
    ltb-false 128 (length m.head.fields.items) low

pub complete : (b : List ℕ) (m : Message) → Reads b m → IsComplete m.head.fields.items
complete b m r =
    let none = no_fault b r.no_fault in
    let items = items_are b m r in
    counts.complete m.head.fields.items
    (subst (λ (xs : List HeaderSpan). is_missing xs ≡ false) items none.none_missing)
    (subst (λ (xs : List HeaderSpan). is_repeated xs ≡ false) items none.none_repeated)

-- the Content-Length among the values
announced_is : (b : List ℕ) (start : Start) (fields : List HeaderSpan) (v : Values) → values_of b start fields ≡ Some v → content_length_of b fields ≡ Some v.content_length
unfolding values_of
announced_is b start fields v h =
    let via = bind_some (via_of b fields) _ v h in
    let from = bind_some (name_addr_of kind.From b fields) _ v via.2 in
    let to = bind_some (name_addr_of kind.To b fields) _ v from.2 in
    let call_id = bind_some (call_id_of b fields) _ v to.2 in
    let cseq = bind_some (cseq_of b fields) _ v call_id.2 in
    let hops = bind_some (max_forwards_of b fields) _ v cseq.2 in
    let number = bind_some (content_length_of b fields) _ v hops.2 in
    let c = cond_some (list_all (list_reads b) fields and fits b start cseq.0 via.0) _ v number.2 in
    number.1 ∙ ap (λ (x : Values). Some x.content_length) c.1

-- the end of a body that is there
end_between : (b : List ℕ) (body end : ℕ) (number : Option ℕ) → body ≤ length b → is_above (length b - body) number ≡ false → end_behind b body number ≡ end → (body ≤ end) × (end ≤ length b)
end_between b body end None le h is = (omega (arith, le, is), omega (arith, is))
end_between b body end (Some n) le h is = let high = ltb-false (length b - body) n h in (omega (arith, is), omega (arith, is, le, high))

end_lies : (b : List ℕ) (start : Start) (h : Head) (end : ℕ) (o : Option Values) → values_of b start h.fields.items ≡ o → is_none o ≡ false → is_above (length b - h.body) (announced o) ≡ false → end_of b h ≡ Some end → h.body ≤ length b → (h.body ≤ end) × (end ≤ length b)
end_lies b start h end None values some enough is le = absurd (cc)
end_lies b start h end (Some v) values some enough is le =
    let number = announced_is b start h.fields.items v values in
    let there : Some (end_behind b h.body v.content_length) ≡ Some end = rw number at is in
    end_between b h.body end v.content_length le enough (same_Some (end_behind b h.body v.content_length) end there)

-- the start line and the head lie in the datagram
head_lies : (b : List ℕ) (h : Head) → head_of b ≡ Some h → scan.HeadLiesIn b h
unfolding head_of
head_lies b h is =
    let l = bind_some (start_line b) _ h is in
    spelled_lies b h (head_takes b l.0 h l.1 l.2)

start_lies : (b : List ℕ) (h : Head) (s : Start) → head_of b ≡ Some h → start_of b ≡ Some s → scan.HeadLiesIn b h → IsStartBetween h.start.from h.start.to s
unfolding head_of start_of
start_lies b h s head_is start_is lie =
    let l = bind_some (start_line b) _ h head_is in
    let k = bind_some (start_line b) _ s start_is in
    let same : k.0 ≡ h.start = same_Some k.0 l.0 (sym k.1 ∙ l.1) ∙ start_stands b l.0 h l.2 in
    let read : start_at (take h.start.to b) h.start.from ≡ Some s = subst (λ (x : Span). start_at (take x.to b) x.from ≡ Some s) same k.2 in
    let len : length (take h.start.to b) ≡ h.start.to = length-take-le h.start.to b lie.start.end in
    subst (λ (n : ℕ). IsStartBetween h.start.from n s) len (start_between (take h.start.to b) h.start.from s (omega (arith, len, lie.start.order)) read)

via_lies : (b : List ℕ) (fields : List HeaderSpan) → All (IsField b) fields → (v : Via) → via_of b fields ≡ Some v → InFirst kind.Via fields (λ i j. IsViaBetween i j v)
unfolding via_of
via_lies b fields each v h = in_first kind.Via b fields via_at IsViaBetween v via_between each h

name_addr_lies : (k : Kind) (b : List ℕ) (fields : List HeaderSpan) → All (IsField b) fields → (n : NameAddr) → name_addr_of k b fields ≡ Some n → InFirst k fields (λ i j. IsNameAddrBetween i j n)
unfolding name_addr_of
name_addr_lies k b fields each n h = in_first k b fields only_value IsNameAddrBetween n only_between each h

call_id_lies : (b : List ℕ) (fields : List HeaderSpan) → All (IsField b) fields → (s : Span) → call_id_of b fields ≡ Some s → InFirst kind.CallId fields (λ i j. IsBetween i j s)
unfolding call_id_of
call_id_lies b fields each s h = in_first kind.CallId b fields call_id_at IsBetween s call_id_between each h

cseq_lies : (b : List ℕ) (fields : List HeaderSpan) → All (IsField b) fields → (c : CSeq) → cseq_of b fields ≡ Some c → InFirst kind.CSeq fields (λ i j. IsCSeqBetween i j c)
unfolding cseq_of
cseq_lies b fields each c h = in_first kind.CSeq b fields cseq_at IsCSeqBetween c cseq_between each h

pub lies : (b : List ℕ) (m : Message) → Reads b m → MessageLiesIn b m
lies b m r =
    let head = head_lies b m.head r.head in
    let p = r.parts in
    let none = no_fault b r.no_fault in
    let items = m.head.fields.items in
    let values : values_under b (start_of b) (head_of b) ≡ values_of b m.start items = rw (r.start, r.head) refl in
    let some : is_none (values_of b m.start items) ≡ false = subst (λ (o : Option Values). is_none o ≡ false) values none.values in
    let left : left_in b (head_of b) ≡ length b - m.head.body = ap (left_in b) r.head in
    let enough : is_above (length b - m.head.body) (announced (values_of b m.start items)) ≡ false = subst (λ (o : Option Values). is_above (length b - m.head.body) (announced o) ≡ false) values (subst (λ (n : ℕ). is_above n (announced (values_under b (start_of b) (head_of b))) ≡ false) left none.enough) in
    let end = end_lies b m.start m.head m.end (values_of b m.start items) refl some enough p.end head.body_high in
    record {
      head = head;
      start = start_lies b m.head m.start r.head r.start head;
      parts = record {
        via = via_lies b items head.each m.via p.via;
        from = name_addr_lies kind.From b items head.each m.from p.from;
        to = name_addr_lies kind.To b items head.each m.to p.to;
        call_id = call_id_lies b items head.each m.call_id p.call_id;
        cseq = cseq_lies b items head.each m.cseq p.cseq;
        end_low = end.0;
        end_high = end.1;
      };
    }

is_ok : (r : Result Head ScanFault) (h : Head) → result_ok r ≡ Some h → r ≡ Ok h
is_ok (Ok g) h e = ap (λ (x : Head). Ok x) (same_Some g h e)
is_ok (Err f) h e = absurd (none-some h e)

basis_in_lies : (front : List ℕ) (too_long : Bool) (x : Basis) → basis_in front too_long ≡ Some x → BasisLiesIn front x
unfolding basis_in
basis_in_lies front too_long x h =
    let l = bind_some (start_line front) _ x h in
    let version = bind_some (answerable_at (take l.0.to front) l.0.from) _ x l.2 in
    let head = bind_some (result_ok (scanned front)) _ x version.2 in
    let via = bind_some (via_of front head.0.fields.items) _ x head.2 in
    let lie = spelled_lies front head.0 (found_head front head.0 (is_ok (scanned front) head.0 head.1)) in
    let basis : Basis = record { head = head.0; via = via.0; version_ok = version.0; too_long = too_long } in
    let all : BasisLiesIn front basis = record { head = lie; via = via_lies front head.0.fields.items lie.each via.0 via.1 } in
    subst (BasisLiesIn front) (same_Some basis x via.2) all

pub basis_lies : (b : List ℕ) (x : Basis) → basis_of b ≡ Some x → BasisLiesIn (take 8192 b) x
basis_lies b x h = basis_in_lies (take 8192 b) (nat_lt 8192 (length b)) x h
