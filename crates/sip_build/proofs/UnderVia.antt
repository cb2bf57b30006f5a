-- A request reads under the proxy's line Via.
use Rattle.std.proofs.Common.{◌≡◌, ℕ, ◌+◌, ◌-◌, ◌≤◌, ◌==◌, Bool, true, false, cond, List, [], ◌∷◌, ◌++◌, length, take, drop, refl, sym, ap, ◌∙◌, subst, arith, append_assoc, length-append, Some, None, inl, inr}
use Rattle.std.specs.Prelude.{Option, codes, is_none, nat_lt, nat_eq, slice_range, IfSome}
use Rattle.std.specs.Fmt.{decimal}
use Rattle.std.specs.List.{find, list_all, starts_with}
use Rattle.std.specs.Str.{bytes_eq}
use Rattle.std.proofs.lemmas.Bool.{cases_Bool, ne_eqb, le-ltb}
use Rattle.std.proofs.lemmas.Option.{none-some, cond_some}
use Rattle.std.proofs.lemmas.List.{take_at, drop_at}
use Rattle.sip_words.specs.Bytes.{◌and◌}
use Rattle.sip_words.specs.declared.Span.{Span}
use Rattle.sip_words.proofs.Steps.{bind_some}
use Rattle.sip_words.proofs.Pieces.{part_is}
use Rattle.sip_fields.specs.declared.via.Via.{Via}
use Rattle.sip_fields.specs.declared.cseq.CSeq.{CSeq}
use Rattle.sip_fields.specs.Via.{via_at}
use Rattle.sip_scan.specs.declared.field.HeaderSpan.{HeaderSpan}
use Rattle.sip_scan.specs.declared.field.Kind.TheVariants as kind
use Rattle.sip_scan.specs.Field.{full_name, kind_of}
use Rattle.sip_scan.specs.Grammar.{crlf, field, field_place}
use Rattle.sip_msg.specs.declared.message.Message.{Message}
use Rattle.sip_msg.specs.declared.message.MsgFault.{MsgFault}
use Rattle.sip_msg.specs.declared.message.MsgFault.TheVariants.{NotSip, BadStartLine, BadHeader, Missing, Repeated, BadField, TooManyHeaders, TooLong}
use Rattle.sip_msg.specs.declared.start.Start.{Start}
use Rattle.sip_msg.specs.declared.start.Start.TheVariants.{Request, Status}
use Rattle.sip_msg.specs.declared.values.Values.{Values}
use Rattle.sip_msg.specs.Fields.{is_of, count, is_missing, is_repeated}
use Rattle.sip_msg.specs.Places.{IsComplete}
use Rattle.sip_msg.specs.Start.{IsStartBetween}
use Rattle.sip_msg.specs.Values.{via_of, name_addr_of, call_id_of, cseq_of, max_forwards_of, content_length_of, next_via, values_read, list_reads, has_cookie, fits, values_of}
use Rattle.sip_msg.specs.Table.{head_of, values_under, fault_of, Reads}
use Rattle.sip_msg.specs.Start.{start_of}
use Rattle.outside_ports.specs.declared.port.Addr.{Addr}
use Rattle.numerals.specs.Numerals.{dotted, socket}
use Rattle.sip_build.specs.Laws.{IsOwn, own_value, own_via}
use Rattle.sip_build.proofs.OwnVia.{own_reads}
use Rattle.sip_build.proofs.ReadTwins.{SameCSeq}
use Rattle.sip_build.proofs.Twins.{behind_colon, value_text, field_value}
use Rattle.sip_build.proofs.Under.{Under, in_front, count_under, more_under, name_under, call_id_under, cseq_under, hops_under, length_under, lists_under}
use Rattle.sip_build.proofs.NewVia.{new_field, new_field_is}

-- the rows of the table that don't hold
no_row : (f : MsgFault) (test : Bool) (others : Option MsgFault) → cond test (Some f) others ≡ None → (test ≡ false) × (others ≡ None)
no_row f true others h = absurd (none-some f (sym h))
no_row f false others h = (refl, h)

no_bad_field : (b : List ℕ) → fault_of b ≡ None → is_none (values_under b (start_of b) (head_of b)) ≡ false
unfolding fault_of
no_bad_field b h =
    let short = no_row TooLong _ _ h in
    let sip = no_row NotSip _ _ short.1 in
    let start = no_row BadStartLine _ _ sip.1 in
    let head = no_row BadHeader _ _ start.1 in
    let few = no_row TooManyHeaders _ _ head.1 in
    let stand = no_row Missing _ _ few.1 in
    let once = no_row Repeated _ _ stand.1 in
    (no_row BadField _ _ once.1).0

some_of : {A : Type 0} (o : Option A) → is_none o ≡ false → (x : A) × (o ≡ Some x)
some_of None h = absurd (cc)
some_of (Some x) h = (x, refl)

pub values_stand : (b : List ℕ) (m : Message) → Reads b m → (v : Values) × (values_of b m.start m.head.fields.items ≡ Some v)
values_stand b m r =
    let o = some_of (values_under b (start_of b) (head_of b)) (no_bad_field b r.no_fault) in
    let is : values_under b (start_of b) (head_of b) ≡ values_of b m.start m.head.fields.items = rw (r.start, r.head) refl in
    (o.0, sym is ∙ o.1)

-- what a table of values stands on
pub record Stand (b : List ℕ) (start : Start) (fields : List HeaderSpan) (v : Values) : Type 0 where
  pub via : via_of b fields ≡ Some v.via
  pub from : name_addr_of kind.From b fields ≡ Some v.from
  pub to : name_addr_of kind.To b fields ≡ Some v.to
  pub call_id : call_id_of b fields ≡ Some v.call_id
  pub cseq : cseq_of b fields ≡ Some v.cseq
  pub max_forwards : max_forwards_of b fields ≡ Some v.max_forwards
  pub content_length : content_length_of b fields ≡ Some v.content_length
  pub lists : list_all (list_reads b) fields ≡ true
  pub fits : fits b start v.cseq v.via ≡ true

both_true : (x y : Bool) → (x and y) ≡ true → (x ≡ true) × (y ≡ true)
both_true true y h = (refl, h)
both_true false y h = absurd (cc)

pub stand : (b : List ℕ) (start : Start) (fields : List HeaderSpan) (v : Values) → values_of b start fields ≡ Some v → Stand b start fields v
unfolding values_of
stand b start fields v e =
    let via = bind_some (via_of b fields) _ v e in
    let from = bind_some (name_addr_of kind.From b fields) _ v via.2 in
    let to = bind_some (name_addr_of kind.To b fields) _ v from.2 in
    let call = bind_some (call_id_of b fields) _ v to.2 in
    let cseq = bind_some (cseq_of b fields) _ v call.2 in
    let hops = bind_some (max_forwards_of b fields) _ v cseq.2 in
    let len = bind_some (content_length_of b fields) _ v hops.2 in
    let c = cond_some (list_all (list_reads b) fields and fits b start cseq.0 via.0) _ v len.2 in
    let tests = both_true (list_all (list_reads b) fields) (fits b start cseq.0 via.0) c.0 in
    let made : Stand b start fields (record { via = via.0; from = from.0; to = to.0; call_id = call.0; cseq = cseq.0; max_forwards = hops.0; content_length = len.0 }) = record { via = via.1; from = from.1; to = to.1; call_id = call.1; cseq = cseq.1; max_forwards = hops.1; content_length = len.1; lists = tests.0; fits = tests.1 } in
    subst (Stand b start fields) c.1 made

pub stand_up : (b : List ℕ) (start : Start) (fields : List HeaderSpan) (v : Values) → Stand b start fields v → values_of b start fields ≡ Some v
unfolding values_of
stand_up b start fields v s = rw (s.via, s.from, s.to, s.call_id, s.cseq, s.max_forwards, s.content_length, s.lists, s.fits) refl

-- the new field is none of another kind
abbrev pub new_place : ℕ → Addr → List ℕ → HeaderSpan
new_place q listen branch = field_place q (new_field listen branch)

pub of_no_kind : (q : ℕ) (listen : Addr) (branch : List ℕ) → (is_of kind.From (new_place q listen branch) ≡ false) × (is_of kind.To (new_place q listen branch) ≡ false) × (is_of kind.CallId (new_place q listen branch) ≡ false) × (is_of kind.CSeq (new_place q listen branch) ≡ false) × (is_of kind.MaxForwards (new_place q listen branch) ≡ false) × (is_of kind.ContentLength (new_place q listen branch) ≡ false)
unfolding new_field kind_of full_name is_of
of_no_kind q listen branch = (refl, refl, refl, refl, refl, refl)

is_via : (q : ℕ) (listen : Addr) (branch : List ℕ) → is_of kind.Via (new_place q listen branch) ≡ true
unfolding new_field kind_of full_name is_of
is_via q listen branch = refl

find_here : (p : HeaderSpan → Bool) (xs ys : List HeaderSpan) (n : HeaderSpan) → find p xs ≡ None → p n ≡ true → find p (xs ++ (n ∷ ys)) ≡ Some n
find_here p [] ys n h e = rw e refl
find_here p (x ∷ xs) ys n h e = elim (cases_Bool (p x)) [ inl t ↦ absurd (none-some x (sym (rw t at h))) | inr f ↦ rw f (find_here p xs ys n (rw f at h) e) ]

-- its value
value_is : (listen : Addr) (branch : List ℕ) → value_text (new_field listen branch) ≡ own_value listen branch
unfolding value_text behind_colon new_field
value_is listen branch =
    let v = own_value listen branch in
    take_at v (crlf ++ []) (length (v ++ (crlf ++ [])) - 2) (omega (arith, length-append v (crlf ++ [])))

-- its value reads, where the field stands
pub value_reads : (c pre rest : List ℕ) (listen : Addr) (branch : List ℕ) → IsOwn listen branch → c ≡ pre ++ (field (new_field listen branch) ++ rest) → via_at (take (new_place (length pre) listen branch).value.to c) (new_place (length pre) listen branch).value.from ≡ Some (own_via (new_place (length pre) listen branch).value.from listen branch)
value_reads c pre rest listen branch own e =
    let value = field_value c pre rest (new_field listen branch) e in
    own_reads (take (new_place (length pre) listen branch).value.to c) (new_place (length pre) listen branch).value.from listen branch own value.1 (value.0 ∙ value_is listen branch)

pub place_is : (q : ℕ) (listen : Addr) (branch : List ℕ) → (new_place q listen branch).value.from ≡ q + 4
unfolding new_field
place_is q listen branch = omega arith

branch_pieces : (pre a s b branch last rest : List ℕ) → pre ++ ((a ++ (s ++ (b ++ (branch ++ last)))) ++ rest) ≡ (pre ++ (a ++ (s ++ b))) ++ (branch ++ (last ++ rest))
branch_pieces pre a s b branch last rest = simp append_assoc

-- its branch has its bytes
pub branch_is : (c pre rest : List ℕ) (listen : Addr) (branch : List ℕ) → c ≡ pre ++ (field (new_field listen branch) ++ rest) → IfSome (own_via (length pre + 4) listen branch).branch (λ (s : Span). slice_range c s.from s.to ≡ branch)
branch_is c pre rest listen branch e =
    let front = pre ++ (codes "Via: SIP/2.0/UDP " ++ (socket listen ++ codes ";branch=")) in
    let last = codes "\r\n" ++ rest in
    let whole : c ≡ front ++ (branch ++ last) = e ∙ ap (λ (t : List ℕ). pre ++ (t ++ rest)) (new_field_is listen branch) ∙ branch_pieces pre (codes "Via: SIP/2.0/UDP ") (socket listen) (codes ";branch=") branch (codes "\r\n") rest in
    let at = length pre + 4 + 13 + length (dotted listen.ip) + 1 + length (decimal listen.port) + 8 in
    let len : length front ≡ at = omega (arith, length-append pre (codes "Via: SIP/2.0/UDP " ++ (socket listen ++ codes ";branch=")), length-append (codes "Via: SIP/2.0/UDP ") (socket listen ++ codes ";branch="), length-append (socket listen) (codes ";branch="), length-append (dotted listen.ip) (58 ∷ decimal listen.port)) in
    part_is c at branch last (ap (λ (x : List ℕ). drop at x) whole ∙ drop_at front (branch ++ last) at len)

-- a list of one value that reads
one_value : (c : List ℕ) (x : HeaderSpan) (v : Via) → x.kind ≡ kind.Via → via_at (take x.value.to c) x.value.from ≡ Some v → v.next ≡ None → list_reads c x ≡ true
unfolding list_reads values_read next_via
one_value c x v k e none = rw (k, e, none) refl

-- the start line's method stands in both texts
fits_under : (b c : List ℕ) (n i : ℕ) (s : Start) (p q : CSeq) (v w : Via) → take n b ≡ take n c → IsStartBetween i n s → SameCSeq b p c q → has_cookie c w.branch ≡ true → fits b s p v ≡ true → fits c s q w ≡ true
fits_under b c n i (Status code reason) p q v w same lie cseq cookie h = refl
fits_under b c n i (Request method uri) p q v w same lie cseq cookie h =
    let parts = both_true (bytes_eq (slice_range b p.method.from p.method.to) (slice_range b method.from method.to)) (has_cookie b v.branch) h in
    let mine = in_front b n method.from method.to lie.0.order lie.0.high in
    let its = in_front c n method.from method.to lie.0.order lie.0.high in
    let method_is : slice_range b method.from method.to ≡ slice_range c method.from method.to = sym mine ∙ ap (λ (t : List ℕ). slice_range t method.from method.to) same ∙ its in
    rw (← method_is, ← cseq.method, parts.0, cookie) refl

-- the values in the new text
pub values_under_via : (b c : List ℕ) (start : Start) (n i : ℕ) (xs ys : List HeaderSpan) (v : Values) (q : ℕ) (listen : Addr) (branch : List ℕ) (own : Via) → Under b xs c ys (new_place q listen branch) → length b ≤ length c → take n b ≡ take n c → IsStartBetween i n start → via_of c ys ≡ Some own → list_reads c (new_place q listen branch) ≡ true → has_cookie c own.branch ≡ true → Stand b start xs v
    → (w : Values) × Stand c start ys w × (w.via ≡ own) × (w.cseq.number ≡ v.cseq.number) × (w.max_forwards ≡ v.max_forwards) × (w.content_length ≡ v.content_length)
values_under_via b c start n i xs ys v q listen branch own u le same lie via reads cookie s =
    let x = new_place q listen branch in
    let no_kind = of_no_kind q listen branch in
    let from = name_under kind.From b c xs ys x v.from u no_kind.0 s.from in
    let to = name_under kind.To b c xs ys x v.to u no_kind.1 s.to in
    let call = call_id_under b c xs ys x v.call_id u no_kind.2 s.call_id in
    let cseq = cseq_under b c xs ys x v.cseq u no_kind.3 s.cseq in
    let hops = hops_under b c xs ys x v.max_forwards u no_kind.4 s.max_forwards in
    let len = length_under b c xs ys x v.content_length u no_kind.5 s.content_length in
    let lists = lists_under b c xs ys x u le reads s.lists in (
      record { via = own; from = from.0; to = to.0; call_id = call.0; cseq = cseq.0; max_forwards = v.max_forwards; content_length = v.content_length },
      record { via = via; from = from.1; to = to.1; call_id = call.1; cseq = cseq.1; max_forwards = hops; content_length = len; lists = lists; fits = fits_under b c n i start v.cseq cseq.0 v.via own same lie cseq.2 cookie s.fits },
      refl,
      sym cseq.2.number,
      refl,
      refl,
    )

-- no field is missing, and none stands twice
one_is : (n : ℕ) → n ≡ 1 → ((n == 0) ≡ false) × (nat_lt 1 n ≡ false)
one_is n e = (ne_eqb n 0 (λ z. omega arith), le-ltb 1 n (omega arith))

pub none_missing : (b c : List ℕ) (xs ys : List HeaderSpan) (q : ℕ) (listen : Addr) (branch : List ℕ) → Under b xs c ys (new_place q listen branch) → IsComplete xs → (is_missing ys ≡ false) × (is_repeated ys ≡ false)
unfolding is_missing is_repeated
none_missing b c xs ys q listen branch u h =
    let x = new_place q listen branch in
    let no_kind = of_no_kind q listen branch in
    let via = ne_eqb (count kind.Via ys) 0 (λ z. omega (arith, more_under kind.Via b c xs ys x u, h.via)) in
    let from = one_is (count kind.From ys) (count_under kind.From b c xs ys x u no_kind.0 ∙ h.from) in
    let to = one_is (count kind.To ys) (count_under kind.To b c xs ys x u no_kind.1 ∙ h.to) in
    let call = one_is (count kind.CallId ys) (count_under kind.CallId b c xs ys x u no_kind.2 ∙ h.call_id) in
    let cseq = one_is (count kind.CSeq ys) (count_under kind.CSeq b c xs ys x u no_kind.3 ∙ h.cseq) in
    let hops = le-ltb 1 (count kind.MaxForwards ys) (omega (arith, count_under kind.MaxForwards b c xs ys x u no_kind.4, h.max_forwards)) in
    let len = le-ltb 1 (count kind.ContentLength ys) (omega (arith, count_under kind.ContentLength b c xs ys x u no_kind.5, h.content_length)) in
    (rw (via, from.0, to.0, call.0, cseq.0) refl, rw (from.1, to.1, call.1, cseq.1, hops, len) refl)

-- the first Via of the new text is the new one
pub via_under : (c : List ℕ) (xs ys : List HeaderSpan) (x : HeaderSpan) (v : Via) → find (is_of kind.Via) xs ≡ None → is_of kind.Via x ≡ true → via_at (take x.value.to c) x.value.from ≡ Some v → via_of c (xs ++ (x ∷ ys)) ≡ Some v
unfolding via_of
via_under c xs ys x v none is reads = rw (find_here (is_of kind.Via) xs ys x none is) reads

pub new_list_reads : (c : List ℕ) (q i : ℕ) (listen : Addr) (branch : List ℕ) → via_at (take (new_place q listen branch).value.to c) (new_place q listen branch).value.from ≡ Some (own_via i listen branch) → list_reads c (new_place q listen branch) ≡ true
unfolding new_field kind_of full_name
new_list_reads c q i listen branch e = one_value c (new_place q listen branch) (own_via i listen branch) refl e refl

pub new_is_via : (q : ℕ) (listen : Addr) (branch : List ℕ) → is_of kind.Via (new_place q listen branch) ≡ true
new_is_via q listen branch = is_via q listen branch

pub cookie_is : (c : List ℕ) (i : ℕ) (listen : Addr) (branch : List ℕ) → IfSome (own_via i listen branch).branch (λ (s : Span). slice_range c s.from s.to ≡ branch) → starts_with nat_eq branch (codes "z9hG4bK") ≡ true → has_cookie c (own_via i listen branch).branch ≡ true
cookie_is c i listen branch e h = rw e h
