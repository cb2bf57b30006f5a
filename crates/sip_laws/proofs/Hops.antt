-- An ACK and a CANCEL read.
use Rattle.std.proofs.Common.{◌≡◌, ℕ, ◌+◌, ◌≤◌, ◌<◌, ◌^◌, Bool, true, false, List, [], ◌∷◌, ◌++◌, length, take, drop, refl, sym, ap, ◌∙◌, subst, arith, append_assoc, length-append, Option, Some, None, option_map, inl, inr}
use Rattle.std.specs.Prelude.{codes}
use Rattle.std.specs.List.{find, count_by, AllByRecursion}
use Rattle.std.specs.Fmt.{decimal}
use Rattle.std.proofs.lemmas.Fmt.{decimal_is_IsNumeral, length-decimal-le, decimal_nonempty}
use Rattle.std.proofs.lemmas.Option.{same_Some}
use Rattle.std.proofs.lemmas.List.{append-nil, drop_at, take_at}
use Rattle.sip_words.specs.Bytes.{has, ◌and◌}
use Rattle.std.proofs.lemmas.Bool.{cases_Bool}
use Rattle.sip_words.specs.declared.bytes.Class.TheVariants.{Token}
use Rattle.sip_words.specs.Spans.{span}
use Rattle.sip_words.specs.Words.{lws_len, lws_end, run_end}
use Rattle.sip_words.specs.Numbers.{number_at}
use Rattle.sip_words.specs.Grammar.{Space, lws, IsWord, params}
use Rattle.sip_words.proofs.Pieces.{part_is, behind}
use Rattle.sip_fields.specs.declared.via.Via.{Via}
use Rattle.sip_fields.specs.declared.name_addr.NameAddr.{NameAddr}
use Rattle.sip_fields.specs.declared.cseq.CSeq.{CSeq}
use Rattle.sip_fields.specs.Parts.{host, port, Last, tail}
use Rattle.sip_fields.specs.Via.{via_at}
use Rattle.sip_fields.specs.ViaGrammar.{ViaTree, IsVia, protocol, via, via_place}
use Rattle.sip_fields.specs.CSeq.{cseq_at}
use Rattle.sip_fields.specs.CSeqGrammar.{CSeqTree, IsCSeq, cseq, cseq_place}
use Rattle.sip_fields.proofs.ViaAgain.{via_again}
use Rattle.sip_fields.proofs.CSeqLaw.{cseq_again, cseq_takes}
use Rattle.sip_scan.specs.declared.field.Kind.{Kind}
use Rattle.sip_scan.specs.declared.field.Kind.TheVariants as kind
use Rattle.sip_scan.specs.Field.{full_name, kind_of, is_same_kind}
use Rattle.sip_scan.specs.Grammar.{crlf, FieldTree, field, IsFieldTree, fields, MessageTree, message, IsMessageTree}
use Rattle.sip_msg.specs.declared.message.Message.{Message}
use Rattle.sip_msg.specs.declared.start.Start.{Start}
use Rattle.sip_msg.specs.declared.start.Start.TheVariants.{Request, Status}
use Rattle.sip_msg.specs.Fields.{first, count}
use Rattle.sip_msg.specs.Values.{whole_number, hops_at, next_via, next_value, values_read, fits, has_cookie}
use Rattle.sip_build.proofs.UnderVia.{values_stand, stand}
use Rattle.sip_msg.specs.Table.{Reads}
use Rattle.sip_build.specs.Parts.{part, field_text, routes, uri_of}
use Rattle.sip_build.specs.Hop.{hop_request, ack_text, cancel_text}
use Rattle.sip_build.proofs.Twins.{value_text}
use Rattle.sip_build.proofs.OwnVia.{decimal_digits}
use Rattle.sip_build.proofs.Spelt.{fields_append}
use Rattle.sip_laws.specs.Sent.{bytes_at, SameVia, IsRequest, IsRequestLine, the_field, IsOnItsWay}
use Rattle.sip_laws.proofs.Folded.{Folded, folded_both, folded_line, folded_lws, cut_folded, value_folded, field_of, is_field_of, value_of_field, text_of_field}
use Rattle.sip_laws.proofs.Endings.{ends_lws, ends_via}
use Rattle.sip_laws.proofs.Shift.{core, says, both_say, spelled}
use Rattle.sip_laws.proofs.Trees.{is_named, all_named, text_stands, texts_stand, only_name, maybe, Fields, ListReads, count_stands, count_trees}
use Rattle.sip_laws.proofs.StartAgain.{request_line, request_again, request_is_line, request_speaks, line_token, line_digits}
use Rattle.sip_laws.proofs.Reading.{cookie_in, cookie_is, TreeFits, tree_reads}
use Rattle.sip_laws.proofs.Tags.{test_of, Tagged, pick, tally, find_tagged, count_tagged, AllOf, all_of, find_past, count_past, named_past, named_all, keep, named_tagged, at_found, at_named, all_append}
use Rattle.sip_laws.proofs.Known.{known, request_has}

-- a Via value alone in its field
pub record Alone (text : List ℕ) (v : Via) : Type 0 where
  pub folded : Folded (32 ∷ part text v.whole)
  pub via : Via
  pub reads : via_at (32 ∷ part text v.whole) 0 ≡ Some via
  pub last : via.next ≡ None
  pub same : SameVia text v (32 ∷ part text v.whole) via
  pub whole : part (32 ∷ part text v.whole) via.whole ≡ part text v.whole

regroup : (a b c d e : List ℕ) → a ++ (b ++ (c ++ (d ++ e))) ≡ (a ++ (b ++ (c ++ d))) ++ e
regroup a b c d e = simp append_assoc

alone_tree : ViaTree → ViaTree
alone_tree t = record { lead = Space ∷ []; sip = t.sip; slash = t.slash; version = t.version; second_slash = t.second_slash; transport = t.transport; gap = t.gap; host = t.host; port = t.port; params = t.params; tail = Last [] }

alone_text : (t : ViaTree) → via (alone_tree t) ≡ 32 ∷ core t
unfolding alone_tree
alone_text t = ap (λ (x : List ℕ). 32 ∷ (protocol t ++ (host t.host ++ (port t.port ++ x)))) (append-nil (params t.params))

pub alone : (text : List ℕ) (v : Via) → Folded text → via_at text 0 ≡ Some v → Alone text v
unfolding alone_tree
alone text v f e =
    let s = spelled text 0 v (omega arith) e in
    let t = s.tree in
    let u = alone_tree t in
    let is : IsVia u = record { sip = s.is.sip; version = s.is.version; transport = s.is.transport; gap = s.is.gap; host = s.is.host; port = s.is.port; params = s.is.params; branch = s.is.branch; tail = tt } in
    let text_is : text ≡ lws t.lead ++ (core t ++ tail t.tail) = s.text_is ∙ ap (λ (x : List ℕ). lws t.lead ++ x) (regroup (protocol t) (host t.host) (port t.port) (params t.params) (tail t.tail)) in
    let one = cut_folded (lws t.lead) (core t ++ tail t.tail) (ends_lws [] tt t.lead) (subst Folded text_is f) in
    let two = cut_folded (core t) (tail t.tail) (ends_via [] t s.is) one.back in
    let made = 32 ∷ core t in
    let reads = via_again made 0 u (omega arith) (sym (alone_text t)) is in
    let its = says made 0 u (sym (alone_text t)) in
    let same = both_say text v t made (via_place 0 u) u s.says its refl refl refl refl in
    let P : List ℕ → Type 0 = λ w. (w ≡ core t) → Alone text v in
    let is_core : part text v.whole ≡ core t = s.says.whole in
    record {
      folded = subst (λ (w : List ℕ). Folded (32 ∷ w)) (sym is_core) (folded_both (folded_lws (Space ∷ [])) two.front);
      via = via_place 0 u;
      reads = subst (λ (w : List ℕ). via_at (32 ∷ w) 0 ≡ Some (via_place 0 u)) (sym is_core) reads;
      last = refl;
      same = subst (λ (w : List ℕ). SameVia text v (32 ∷ w) (via_place 0 u)) (sym is_core) same;
      whole = subst (λ (w : List ℕ). part (32 ∷ w) (via_place 0 u).whole ≡ w) (sym is_core) its.whole;
    }

pub via_kind : (k : Kind) → is_same_kind kind.Via k ≡ true → k ≡ kind.Via
via_kind kind.Via h = refl
via_kind kind.From h = absurd (cc)
via_kind kind.To h = absurd (cc)
via_kind kind.CallId h = absurd (cc)
via_kind kind.CSeq h = absurd (cc)
via_kind kind.MaxForwards h = absurd (cc)
via_kind kind.Route h = absurd (cc)
via_kind kind.RecordRoute h = absurd (cc)
via_kind kind.Contact h = absurd (cc)
via_kind kind.ContentLength h = absurd (cc)
via_kind kind.Other h = absurd (cc)

none_next : (k : Kind) (text : List ℕ) (i : ℕ) → is_same_kind kind.Via k ≡ false → is_same_kind kind.Route k ≡ false → next_value k text i ≡ Some None
none_next kind.Via text i v r = absurd (cc)
none_next kind.From text i v r = refl
none_next kind.To text i v r = refl
none_next kind.CallId text i v r = refl
none_next kind.CSeq text i v r = refl
none_next kind.MaxForwards text i v r = refl
none_next kind.Route text i v r = absurd (cc)
none_next kind.RecordRoute text i v r = refl
none_next kind.Contact text i v r = refl
none_next kind.ContentLength text i v r = refl
none_next kind.Other text i v r = refl

-- a field of one Via value
pub one_list : (t : FieldTree) (v : Via) → is_named kind.Via t ≡ true → via_at (value_text t) 0 ≡ Some v → v.next ≡ None → ListReads t
unfolding values_read next_via
one_list t v k e none = let same = via_kind (kind_of t.name) k in rw (same, e, none) refl

-- CSeq with a number and a method
cseq_tree : ℕ → List ℕ → CSeqTree
cseq_tree n method = record { lead = Space ∷ []; digits = decimal n; gap = Space ∷ []; method = method; trail = [] }

abbrev pub cseq_value : ℕ → List ℕ → List ℕ
cseq_value n method = 32 ∷ (decimal n ++ (32 ∷ method))

pub cseq_reads : (n : ℕ) (method : List ℕ) → n < 2 ^ 31 → IsWord Token method → (c : CSeq) × (cseq_at (cseq_value n method) 0 ≡ Some c) × (c.number ≡ n) × (part (cseq_value n method) c.method ≡ method)
unfolding cseq_tree
cseq_reads n method small word =
    let t = cseq_tree n method in
    let text = cseq_value n method in
    let number = (decimal_is_IsNumeral n (omega arith)).1 in
    let is : IsCSeq t = record {
      digits = record { some = decimal_nonempty n (omega arith); all = decimal_digits n (omega arith) };
      few = length-decimal-le 10 n (omega arith) (omega arith) (omega arith);
      below = omega (arith, number, small);
      gap = omega arith;
      method = word;
    } in
    let spelled : text ≡ cseq t = ap (λ (x : List ℕ). 32 ∷ (decimal n ++ (32 ∷ x))) (sym (append-nil method)) in
    let at : drop (1 + length (decimal n) + 1) text ≡ method ++ [] = ap (λ (x : List ℕ). drop (1 + length (decimal n) + 1) x) (front_of (decimal n) method) ∙ drop_at ((32 ∷ decimal n) ++ 32 ∷ []) (method ++ []) (1 + length (decimal n) + 1) (omega (arith, length-append (32 ∷ decimal n) (32 ∷ []))) in
    (cseq_place 0 t, cseq_again text 0 t (omega arith) spelled is, number, part_is text (1 + length (decimal n) + 1) method [] at)
  where
    front_of : (d m : List ℕ) → 32 ∷ (d ++ (32 ∷ m)) ≡ ((32 ∷ d) ++ 32 ∷ []) ++ (m ++ [])
    front_of d m = ap (λ (x : List ℕ). 32 ∷ (d ++ (32 ∷ x))) (sym (append-nil m)) ∙ sym (append_assoc (32 ∷ d) (32 ∷ []) (m ++ []))

pub cseq_line : (n : ℕ) (method : List ℕ) → n < 2 ^ 31 → IsWord Token method → Folded (cseq_value n method)
cseq_line n method small word =
    let d = folded_line (decimal n) (line_digits (decimal n) (record { some = decimal_nonempty n (omega arith); all = decimal_digits n (omega arith) })) in
    let m = folded_line method (line_token method word) in
    folded_both (folded_lws (Space ∷ [])) (folded_both d (folded_both (folded_lws (Space ∷ [])) m))

-- the number of a CSeq that reads
pub small_number : (text : List ℕ) (c : CSeq) → cseq_at text 0 ≡ Some c → c.number < 2 ^ 31
small_number text c e =
    let t = cseq_takes text 0 c e in
    let same = same_Some (cseq_place 0 t.0) c (sym (cseq_again text 0 t.0 (omega arith) t.2 t.1) ∙ e) in
    subst (λ (x : CSeq). x.number < 2 ^ 31) same t.1.below

-- the fields that the proxy writes of itself
hops_folded : Folded (codes " 70")
hops_folded = folded_line (codes " 70") (refl, (refl, (refl, tt)))

size_folded : Folded (codes " 0")
size_folded = folded_line (codes " 0") (refl, (refl, tt))

pub hops_field : FieldTree
hops_field = field_of (codes "Max-Forwards") hops_folded

pub size_field : FieldTree
size_field = field_of (codes "Content-Length") size_folded

hops_read : hops_at (codes " 70") 0 ≡ Some 70
unfolding hops_at whole_number number_at lws_end lws_len run_end has
hops_read = refl

size_read : whole_number 10 (codes " 0") 0 ≡ Some 0
unfolding whole_number number_at lws_end lws_len run_end has
size_read = refl

name_word : (name : List ℕ) → 0 < length name → AllByRecursion (λ b. has Token b ≡ true) name → IsWord Token name
name_word name some all = record { some = some; all = all }

pub record WrittenField (k : Kind) (name : List ℕ) (v : List ℕ) (t : FieldTree) : Type 0 where
  pub tag : is_named k t ≡ true
  pub is : IsFieldTree t
  pub value : value_text t ≡ v
  pub text : field t ≡ name ++ (58 ∷ (v ++ crlf))

pub is_hops : WrittenField kind.MaxForwards (codes "Max-Forwards") (codes " 70") hops_field
unfolding hops_field field_of kind_of full_name has
is_hops = record { tag = refl; is = is_field_of (codes "Max-Forwards") hops_folded (record { some = omega arith; all = (refl, (refl, (refl, (refl, (refl, (refl, (refl, (refl, (refl, (refl, (refl, (refl, tt)))))))))))) }); value = value_of_field (codes "Max-Forwards") hops_folded; text = text_of_field (codes "Max-Forwards") hops_folded }

pub is_size : WrittenField kind.ContentLength (codes "Content-Length") (codes " 0") size_field
unfolding size_field field_of kind_of full_name has
is_size = record { tag = refl; is = is_field_of (codes "Content-Length") size_folded (record { some = omega arith; all = (refl, (refl, (refl, (refl, (refl, (refl, (refl, (refl, (refl, (refl, (refl, (refl, (refl, (refl, tt)))))))))))))) }); value = value_of_field (codes "Content-Length") size_folded; text = text_of_field (codes "Content-Length") size_folded }

pub is_via_field : {v : List ℕ} (f : Folded v) → WrittenField kind.Via (codes "Via") v (field_of (codes "Via") f)
unfolding field_of kind_of full_name has
is_via_field f = record { tag = refl; is = is_field_of (codes "Via") f (record { some = omega arith; all = (refl, (refl, (refl, tt))) }); value = value_of_field (codes "Via") f; text = text_of_field (codes "Via") f }

pub is_cseq_field : {v : List ℕ} (f : Folded v) → WrittenField kind.CSeq (codes "CSeq") v (field_of (codes "CSeq") f)
unfolding field_of kind_of full_name has
is_cseq_field f = record { tag = refl; is = is_field_of (codes "CSeq") f (record { some = omega arith; all = (refl, (refl, (refl, (refl, tt)))) }); value = value_of_field (codes "CSeq") f; text = text_of_field (codes "CSeq") f }

pub size_is_read : maybe (whole_number 10) (Some size_field) ≡ Some (Some 0)
size_is_read = ap (λ (y : List ℕ). option_map Some (whole_number 10 y 0)) is_size.value ∙ ap (λ (y : Option ℕ). option_map Some y) size_read

-- of other kinds than Via and Route no list is asked
pub no_list : (k : Kind) (t : FieldTree) → is_named k t ≡ true → is_same_kind kind.Via k ≡ false → is_same_kind kind.Route k ≡ false → ListReads t
unfolding values_read
no_list k t h v r = let e = none_next (kind_of t.name) (value_text t) 0 (test_of kind.Via k t h ∙ v) (test_of kind.Route k t h ∙ r) in rw e refl

both_true : (x y : Bool) → (x and y) ≡ true → y ≡ true
both_true true y h = h
both_true false y h = absurd (cc)

cookie_of_fits : (b : List ℕ) (s : Start) (c : CSeq) (v : Via) → IsRequest s → fits b s c v ≡ true → cookie_in (bytes_at b v.branch) ≡ true
cookie_of_fits b (Status code reason) c v is h = absurd is
cookie_of_fits b (Request method uri) c v is h = sym (cookie_is b v.branch) ∙ both_true _ (has_cookie b v.branch) h

-- the branch of a request begins with the cookie
pub request_cookie : (b : List ℕ) (m : Message) → Reads b m → IsRequest m.start → cookie_in (bytes_at b m.via.branch) ≡ true
request_cookie b m r is =
    let v = values_stand b m r in
    let s = stand b m.start m.head.fields.items v.0 v.1 in
    let same = same_Some v.0.via m.via (sym s.via ∙ r.parts.via) in
    subst (λ (x : Via). cookie_in (bytes_at b x.branch) ≡ true) same (cookie_of_fits b m.start v.0.cseq v.0.via is s.fits)

abbrev front_tags : List Kind
front_tags = kind.Via ∷ kind.MaxForwards ∷ []

abbrev pub back_tags : List Kind
back_tags = kind.From ∷ kind.To ∷ kind.CallId ∷ kind.CSeq ∷ kind.ContentLength ∷ []

-- fields of these kinds with Route fields between
record InOrder (front rs back : List FieldTree) : Type 0 where
  pub front_is : Tagged front_tags front
  pub rest_is : AllOf kind.Route rs
  pub back_is : Tagged back_tags back

found : (front rs back : List FieldTree) → InOrder front rs back → (k : Kind) → is_same_kind k kind.Route ≡ false → find (is_named k) (front ++ (rs ++ (back ++ []))) ≡ pick k front_tags front (pick k back_tags back None)
found front rs back o k ne = find_tagged k front_tags front (rs ++ (back ++ [])) o.front_is ∙ ap (λ (x : Option FieldTree). pick k front_tags front x) (find_past k kind.Route rs (back ++ []) ne o.rest_is ∙ find_tagged k back_tags back [] o.back_is)

counted : (front rs back : List FieldTree) → InOrder front rs back → (k : Kind) → is_same_kind k kind.Route ≡ false → count_by (is_named k) (front ++ (rs ++ (back ++ []))) ≡ tally k front_tags (tally k back_tags 0)
counted front rs back o k ne = count_tagged k front_tags front (rs ++ (back ++ [])) o.front_is ∙ ap (λ (n : ℕ). tally k front_tags n) (count_past k kind.Route rs (back ++ []) ne o.rest_is ∙ count_tagged k back_tags back [] o.back_is)

-- the text of the request
in_lines : (me a ur v nl via wh hops rs fr to ca cs de size : List ℕ) → me ++ (a ++ (ur ++ ((v ++ nl) ++ (via ++ (wh ++ (nl ++ (hops ++ (rs ++ (fr ++ (to ++ (ca ++ (cs ++ (de ++ (a ++ (me ++ (nl ++ (size ++ nl)))))))))))))))))
    ≡ (me ++ (a ++ (ur ++ v))) ++ (nl ++ (((via ++ (wh ++ nl)) ++ (hops ++ (rs ++ (fr ++ (to ++ (ca ++ ((cs ++ ((de ++ (a ++ me)) ++ nl)) ++ size))))))) ++ nl))
in_lines me a ur v nl via wh hops rs fr to ca cs de size = simp append_assoc

pub filter_count : (k : Kind) (ts : List FieldTree) → length (all_named k ts) ≡ count_by (is_named k) ts
filter_count k [] = refl
filter_count k (t ∷ ts) = elim (cases_Bool (is_named k t)) [
  | inl y ↦ rw y (omega (arith, filter_count k ts, rw y at (count_trees (is_named k) t ts)))
  | inr n ↦ rw n (omega (arith, filter_count k ts, rw n at (count_trees (is_named k) t ts)))
]

kept : (front rs back : List FieldTree) → InOrder front rs back → (k : Kind) → is_same_kind k kind.Route ≡ false → all_named k (front ++ (rs ++ (back ++ []))) ≡ keep k front_tags front (keep k back_tags back [])
kept front rs back o k ne = named_tagged k front_tags front (rs ++ (back ++ [])) o.front_is ∙ ap (λ (x : List FieldTree). keep k front_tags front x) (named_past k kind.Route rs (back ++ []) ne o.rest_is ∙ named_tagged k back_tags back [] o.back_is)

routes_kept : (front rs back : List FieldTree) → InOrder front rs back → all_named kind.Route (front ++ (rs ++ (back ++ []))) ≡ rs
routes_kept front rs back o =
    let last : all_named kind.Route (back ++ []) ≡ [] = named_tagged kind.Route back_tags back [] o.back_is ∙ none_kept back o.back_is in
    named_tagged kind.Route front_tags front (rs ++ (back ++ [])) o.front_is ∙ front_kept front (all_named kind.Route (rs ++ (back ++ []))) o.front_is ∙ named_all kind.Route rs (back ++ []) o.rest_is ∙ ap (λ (x : List FieldTree). rs ++ x) last ∙ append-nil rs
  where
    none_kept : (ts : List FieldTree) → Tagged back_tags ts → keep kind.Route back_tags ts [] ≡ []
    none_kept [] h = absurd h
    none_kept (a ∷ []) h = absurd h.1
    none_kept (a ∷ b ∷ []) h = absurd h.1.1
    none_kept (a ∷ b ∷ c ∷ []) h = absurd h.1.1.1
    none_kept (a ∷ b ∷ c ∷ d ∷ []) h = absurd h.1.1.1.1
    none_kept (a ∷ b ∷ c ∷ d ∷ e ∷ ts) h = refl

    front_kept : (ts more : List FieldTree) → Tagged front_tags ts → keep kind.Route front_tags ts more ≡ more
    front_kept [] more h = absurd h
    front_kept (a ∷ []) more h = absurd h.1
    front_kept (a ∷ b ∷ ts) more h = refl

pub via_sym : {b c : List ℕ} {v w : Via} → SameVia b v c w → SameVia c w b v
via_sym {b} {c} {v} {w} s = record { host = sym s.host; host_bytes = sym s.host_bytes; port = sym s.port; branch = sym s.branch }

pub via_then : {b c d : List ℕ} {v w x : Via} → SameVia b v c w → SameVia c w d x → SameVia b v d x
via_then {b} {c} {d} {v} {w} {x} s r = record { host = s.host ∙ r.host; host_bytes = s.host_bytes ∙ r.host_bytes; port = s.port ∙ r.port; branch = s.branch ∙ r.branch }

abbrev hop_pieces : List ℕ → List ℕ → List ℕ → List ℕ → List ℕ → List ℕ → List ℕ → ℕ → List ℕ
hop_pieces me ur wh rs fr to ca n =
    me ++ (codes " " ++ (ur ++ (codes " SIP/2.0\r\n" ++ (codes "Via: " ++ (wh ++ (codes "\r\n" ++ (codes "Max-Forwards: 70\r\n" ++ (rs ++ (fr ++ (to ++ (ca ++ (codes "CSeq: " ++ (decimal n ++ (codes " " ++ (me ++ (codes "\r\n" ++ codes "Content-Length: 0\r\n\r\n"))))))))))))))))

same_pieces : (me ur wh rs fr to ca ur2 wh2 rs2 fr2 ca2 : List ℕ) (n n2 : ℕ) → ur ≡ ur2 → wh ≡ wh2 → rs ≡ rs2 → fr ≡ fr2 → ca ≡ ca2 → n ≡ n2 → hop_pieces me ur wh rs fr to ca n ≡ hop_pieces me ur2 wh2 rs2 fr2 to ca2 n2
same_pieces me ur wh rs fr to ca ur2 wh2 rs2 fr2 ca2 n n2 a c d e f g = rw (a, c, d, e, f, g) refl

request_spans : (c method uri rest : List ℕ) → c ≡ request_line method uri ++ rest → IsRequestLine c (Request (span 0 (0 + length method)) (span (0 + length method + 1) (0 + length method + 1 + length uri))) method uri
request_spans c method uri rest e =
    let at_0 : drop 0 c ≡ method ++ (32 ∷ (uri ++ (32 ∷ codes "SIP/2.0") ++ rest)) = e ∙ append_assoc method (32 ∷ (uri ++ (32 ∷ codes "SIP/2.0"))) rest in
    let at_1 = behind c 0 method _ at_0 in
    let at_2 : drop (0 + length method + 1) c ≡ (uri ++ (32 ∷ codes "SIP/2.0")) ++ rest = behind c (0 + length method) (32 ∷ []) _ at_1 in
    (part_is c 0 method _ at_0, part_is c (0 + length method + 1) uri _ (at_2 ∙ append_assoc uri (32 ∷ codes "SIP/2.0") rest))

pub hop_reads : (method : List ℕ) (b : List ℕ) (m : Message) (to_field : FieldTree) (name : NameAddr) → IsWord Token method → Reads b m → IsRequest m.start → count kind.Route m.head.fields.items ≤ 121
    → IsFieldTree to_field → is_named kind.To to_field ≡ true → only_name (value_text to_field) ≡ Some name
    → length (hop_request method b m (field to_field)) ≤ 8192 → (w : Message) × IsOnItsWay method b m (field to_field) (hop_request method b m (field to_field)) w
unfolding hop_request
hop_reads method b m to_field name word r is few to_is to_tag to_reads short =
    let k = known b m r in
    let x = k.fields in
    let ts = k.tree.fields in
    let all = k.is.fields in
    let q = request_has b m k r is in
    let uri = part b q.uri in
    let v_text = value_text x.via_field in
    let via_at_first = at_found IsFieldTree kind.Via ts x.via_field all x.via_first in
    let a = alone v_text x.via (value_folded x.via_field via_at_first.0) x.via_reads in
    let whole = part v_text x.via.whole in
    let via_t = field_of (codes "Via") a.folded in
    let via_w = is_via_field a.folded in
    let n = x.cseq.number in
    let small = small_number (value_text x.cseq_field) x.cseq x.cseq_reads in
    let c_fold = cseq_line n method small word in
    let cseq_t = field_of (codes "CSeq") c_fold in
    let cseq_w = is_cseq_field c_fold in
    let cs = cseq_reads n method small word in
    let from = at_found IsFieldTree kind.From ts x.from_field all x.from_first in
    let call = at_found IsFieldTree kind.CallId ts x.call_field all x.call_first in
    let rs = all_named kind.Route ts in
    let front = via_t ∷ hops_field ∷ [] in
    let back = x.from_field ∷ to_field ∷ x.call_field ∷ cseq_t ∷ size_field ∷ [] in
    let o : InOrder front rs back = record { front_is = (via_w.tag, (is_hops.tag, tt)); rest_is = all_of kind.Route ts; back_is = (from.1, (to_tag, (call.1, (cseq_w.tag, (is_size.tag, tt))))) } in
    let us = front ++ (rs ++ back) in
    let t : MessageTree = record { skipped = []; start = request_line method uri; fields = us; body = [] } in
    let is_tree : IsMessageTree t = record {
      skipped = tt;
      start = request_is_line method uri word q.uri_word;
      sip = request_speaks method uri;
      fields = (via_w.is, (is_hops.is, all_append IsFieldTree rs back (at_named IsFieldTree kind.Route ts all) (from.0, (to_is, (call.0, (cseq_w.is, (is_size.is, tt)))))));
    } in
    let f = found front rs back o in
    let g = counted front rs back o in
    let fields_are : Fields us = record {
      via_field = via_t;
      via = a.via;
      via_first = f kind.Via refl;
      via_reads = ap (λ (y : List ℕ). via_at y 0) via_w.value ∙ a.reads;
      from_field = x.from_field;
      from = x.from;
      from_first = f kind.From refl;
      from_reads = x.from_reads;
      to_field = to_field;
      to = name;
      to_first = f kind.To refl;
      to_reads = to_reads;
      call_field = x.call_field;
      call = x.call;
      call_first = f kind.CallId refl;
      call_reads = x.call_reads;
      cseq_field = cseq_t;
      cseq = cs.0;
      cseq_first = f kind.CSeq refl;
      cseq_reads = ap (λ (y : List ℕ). cseq_at y 0) cseq_w.value ∙ cs.1;
      hops = Some 70;
      hops_read = ap (maybe hops_at) (f kind.MaxForwards refl) ∙ ap (λ (y : List ℕ). option_map Some (hops_at y 0)) is_hops.value ∙ ap (λ (y : Option ℕ). option_map Some y) hops_read;
      size = Some 0;
      size_read = ap (maybe (whole_number 10)) (f kind.ContentLength refl) ∙ ap (λ (y : List ℕ). option_map Some (whole_number 10 y 0)) is_size.value ∙ ap (λ (y : Option ℕ). option_map Some y) size_read;
      lists = (
        one_list via_t a.via via_w.tag (ap (λ (y : List ℕ). via_at y 0) via_w.value ∙ a.reads) a.last,
        (
          no_list kind.MaxForwards hops_field is_hops.tag refl refl,
          all_append ListReads rs back (at_named ListReads kind.Route ts x.lists) (no_list kind.From x.from_field from.1 refl refl, (no_list kind.To to_field to_tag refl refl, (no_list kind.CallId x.call_field call.1 refl refl, (no_list kind.CSeq cseq_t cseq_w.tag refl refl, (no_list kind.ContentLength size_field is_size.tag refl refl, tt))))),
        ),
      );
      some_via = omega (arith, g kind.Via refl);
      one_from = g kind.From refl;
      one_to = g kind.To refl;
      one_call = g kind.CallId refl;
      one_cseq = g kind.CSeq refl;
      few_hops = omega (arith, g kind.MaxForwards refl);
      few_sizes = omega (arith, g kind.ContentLength refl);
    } in
    let items = m.head.fields.items in
    let c = hop_request method b m (field to_field) in
    let uri_is : part b (uri_of m.start) ≡ uri = ap (λ (y : Start). part b (uri_of y)) q.start in
    let filled : c ≡ hop_pieces method uri whole (fields rs) (field x.from_field) (field to_field) (field x.call_field) n =
    same_pieces method (part b (uri_of m.start)) (part b m.via.whole) (routes b items) (field_text b (first kind.From items)) (field to_field) (field_text b (first kind.CallId items)) uri whole (fields rs) (field x.from_field) (field x.call_field) m.cseq.number n
    uri_is (sym k.whole) (texts_stand kind.Route b items ts k.stand) (text_stands kind.From b items ts x.from_field k.stand x.from_first) (text_stands kind.CallId b items ts x.call_field k.stand x.call_first) (sym k.number) in
    let nl = codes "\r\n" in
    let all_text : fields us ≡ (codes "Via: " ++ (whole ++ nl)) ++ (codes "Max-Forwards: 70\r\n" ++ (fields rs ++ (field x.from_field ++ (field to_field ++ (field x.call_field ++ ((codes "CSeq: " ++ ((decimal n ++ (32 ∷ method)) ++ nl)) ++ codes "Content-Length: 0\r\n")))))) = rw (via_w.text, is_hops.text, fields_append rs back, cseq_w.text, is_size.text) refl in
    let e : c ≡ message t = filled ∙ in_lines method (codes " ") uri (codes " SIP/2.0") nl (codes "Via: ") whole (codes "Max-Forwards: 70\r\n") (fields rs) (field x.from_field) (field to_field) (field x.call_field) (codes "CSeq: ") (decimal n) (codes "Content-Length: 0\r\n")
    ∙ ap (λ (y : List ℕ). request_line method uri ++ (nl ++ (y ++ nl))) (sym all_text) in
    let rest = nl ++ (fields us ++ nl) in
    let front_text : take (0 + length (request_line method uri)) c ≡ request_line method uri = ap (λ (y : List ℕ). take (0 + length (request_line method uri)) y) e ∙ take_at (request_line method uri) rest (0 + length (request_line method uri)) (omega arith) in
    let s : Start = Request (span 0 (0 + length method)) (span (0 + length method + 1) (0 + length method + 1 + length uri)) in
    let start = request_again (take (0 + length (request_line method uri)) c) 0 method uri (omega arith) front_text word q.uri_word in
    let spans = request_spans c method uri rest e in
    let method_there : part (value_text cseq_t) cs.0.method ≡ method = ap (λ (y : List ℕ). part y cs.0.method) cseq_w.value ∙ cs.3 in
    let via_there : SameVia v_text x.via (value_text via_t) a.via = subst (λ (y : List ℕ). SameVia v_text x.via y a.via) (sym via_w.value) a.same in
    let cookie : cookie_in (bytes_at (value_text via_t) a.via.branch) ≡ true = ap cookie_in (sym via_there.branch ∙ k.via.branch) ∙ request_cookie b m r is in
    let fit : TreeFits c us fields_are s = (method_there ∙ sym spans.0, cookie) in
    let rs_len : length rs ≡ count kind.Route items = filter_count kind.Route ts ∙ sym (count_stands kind.Route b items ts k.stand) in
    let us_len : length us ≤ 128 = omega (arith, rs_len, few, length-append rs back) in
    let w = tree_reads c t s e is_tree fields_are start fit short us_len (omega arith) in
    let d = w.1 in
    let fs = w.0.head.fields.items in (
      w.0,
      record {
        reads = d.reads;
        line = subst (λ (y : Start). IsRequestLine c y method (part b (uri_of m.start))) (sym d.start) (spans.0, spans.1 ∙ sym uri_is);
        via = via_then (via_sym k.via) (via_then via_there d.via);
        top_value = sym d.whole ∙ ap (λ (y : List ℕ). part y a.via.whole) via_w.value ∙ a.whole ∙ k.whole;
        one_via = texts_stand kind.Via c fs us d.stand ∙ ap fields (kept front rs back o kind.Via refl) ∙ append-nil (field via_t) ∙ via_w.text ∙ ap (λ (y : List ℕ). codes "Via: " ++ (y ++ nl)) k.whole;
        route = texts_stand kind.Route c fs us d.stand ∙ ap fields (routes_kept front rs back o) ∙ sym (texts_stand kind.Route b items ts k.stand);
        from = text_stands kind.From c fs us x.from_field d.stand fields_are.from_first ∙ sym (text_stands kind.From b items ts x.from_field k.stand x.from_first);
        to = text_stands kind.To c fs us to_field d.stand fields_are.to_first;
        call_id = text_stands kind.CallId c fs us x.call_field d.stand fields_are.call_first ∙ sym (text_stands kind.CallId b items ts x.call_field k.stand x.call_first);
        number = sym d.number ∙ cs.2 ∙ k.number;
        cseq_method = sym d.method ∙ method_there;
        max_forwards = d.hops;
        body = d.end ∙ omega arith;
      },
    )

-- the two requests
word_of : (w : List ℕ) → 0 < length w → AllByRecursion (λ b. has Token b ≡ true) w → IsWord Token w
word_of w some all = record { some = some; all = all }

pub ack_reads : (b : List ℕ) (m : Message) (response : List ℕ) (rm : Message) → Reads b m → IsRequest m.start → Reads response rm → count kind.Route m.head.fields.items ≤ 121 → length (ack_text b m response rm) ≤ 8192
    → (w : Message) × IsOnItsWay (codes "ACK") b m (the_field kind.To response rm) (ack_text b m response rm) w
unfolding ack_text has
ack_reads b m response rm r is rr few short =
    let k = known response rm rr in
    let x = k.fields in
    let to = at_found IsFieldTree kind.To k.tree.fields x.to_field k.is.fields x.to_first in
    let text : field_text response (first kind.To rm.head.fields.items) ≡ field x.to_field = text_stands kind.To response rm.head.fields.items k.tree.fields x.to_field k.stand x.to_first in
    let P : List ℕ → Type 0 = λ y. length (hop_request (codes "ACK") b m y) ≤ 8192 → (w : Message) × IsOnItsWay (codes "ACK") b m y (hop_request (codes "ACK") b m y) w in
    let made : P (field x.to_field) = λ le. hop_reads (codes "ACK") b m x.to_field x.to (word_of (codes "ACK") (omega arith) (refl, (refl, (refl, tt)))) r is few to.0 to.1 x.to_reads le in
    subst P (sym text) made short

pub cancel_reads : (b : List ℕ) (m : Message) → Reads b m → IsRequest m.start → count kind.Route m.head.fields.items ≤ 121 → length (cancel_text b m) ≤ 8192
    → (w : Message) × IsOnItsWay (codes "CANCEL") b m (the_field kind.To b m) (cancel_text b m) w
unfolding cancel_text has
cancel_reads b m r is few short =
    let k = known b m r in
    let x = k.fields in
    let to = at_found IsFieldTree kind.To k.tree.fields x.to_field k.is.fields x.to_first in
    let text : field_text b (first kind.To m.head.fields.items) ≡ field x.to_field = text_stands kind.To b m.head.fields.items k.tree.fields x.to_field k.stand x.to_first in
    let P : List ℕ → Type 0 = λ y. length (hop_request (codes "CANCEL") b m y) ≤ 8192 → (w : Message) × IsOnItsWay (codes "CANCEL") b m y (hop_request (codes "CANCEL") b m y) w in
    let made : P (field x.to_field) = λ le. hop_reads (codes "CANCEL") b m x.to_field x.to (word_of (codes "CANCEL") (omega arith) (refl, (refl, (refl, (refl, (refl, (refl, tt))))))) r is few to.0 to.1 x.to_reads le in
    subst P (sym text) made short
