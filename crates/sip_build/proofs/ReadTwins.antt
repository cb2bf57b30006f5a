-- One value in two texts is read alike.
use Rattle.std.proofs.Common.{◌≡◌, ℕ, zero, suc, ◌+◌, ◌-◌, ◌<◌, ◌≤◌, ◌==◌, true, List, ◌++◌, length, drop, refl, sym, ap, ◌∙◌, subst, arith, append_assoc, length-append, length-drop, Some, None}
use Rattle.std.specs.Prelude.{Option, nat_lt, slice_range}
use Rattle.std.specs.Str.Parse.{digits_value}
use Rattle.std.proofs.lemmas.Bool.{eq-eqb, eqb-true, lt-ltb, ltb-true}
use Rattle.std.proofs.lemmas.Option.{same_Some, cond_some}
use Rattle.sip_words.specs.declared.bytes.Class.{Class}
use Rattle.sip_words.specs.declared.bytes.Class.TheVariants.{Unbroken, Digit}
use Rattle.sip_words.specs.declared.Span.{Span}
use Rattle.sip_words.specs.Spans.{span}
use Rattle.sip_words.specs.Words.{run_end, word_end, lws_end}
use Rattle.sip_words.specs.Numbers.{number_at}
use Rattle.sip_words.specs.Grammar.{lws, separator}
use Rattle.sip_words.proofs.Steps.{bind_some}
use Rattle.sip_words.proofs.Pieces.{behind, part_is}
use Rattle.std.proofs.lemmas.List.{drop-drop}
use Rattle.sip_words.proofs.Lies.{ends_text}
use Rattle.sip_words.proofs.Takes.{not_none}
use Rattle.sip_fields.specs.declared.via.Via.{Via}
use Rattle.sip_fields.specs.declared.name_addr.NameAddr.{NameAddr}
use Rattle.sip_fields.specs.declared.cseq.CSeq.{CSeq}
use Rattle.sip_fields.specs.Parts.{Tail, Last, More, tail, next_place}
use Rattle.sip_fields.specs.Via.{via_at}
use Rattle.sip_fields.specs.ViaGrammar.{ViaTree, via, via_place, protocol}
use Rattle.sip_fields.specs.Parts as parts
use Rattle.sip_fields.specs.NameAddr.{name_addr_at, route_at}
use Rattle.sip_fields.specs.NameAddrGrammar.{NameAddrTree, name_addr, name_addr_place}
use Rattle.sip_fields.specs.CSeq.{cseq_at}
use Rattle.sip_fields.specs.CSeqGrammar.{CSeqTree, cseq, cseq_place}
use Rattle.sip_fields.proofs.ViaAgain.{via_again}
use Rattle.sip_fields.proofs.ViaTakes.{via_takes}
use Rattle.sip_fields.proofs.NameAddrLaw.{name_addr_again, name_addr_takes, route_value_again, route_value_takes}
use Rattle.sip_fields.proofs.CSeqLaw.{cseq_again, cseq_takes}
use Rattle.sip_scan.specs.declared.field.Kind.{Kind}
use Rattle.sip_scan.specs.declared.field.Kind.TheVariants as kind
use Rattle.sip_msg.specs.Values.{call_id_at, whole_number, hops_at, next_via, next_route, next_value, rest_reads, values_read}

-- the same bytes stand from i on in text, and from j on in other
pub record Alike (text : List ℕ) (i : ℕ) (other : List ℕ) (j : ℕ) : Type 0 where
  pub bytes : drop i text ≡ drop j other
  pub left : i ≤ length text
  pub right : j ≤ length other

-- so they do some bytes later
later : (text : List ℕ) (i : ℕ) (other : List ℕ) (j k l : ℕ) (w rest : List ℕ) → Alike text i other j → drop i text ≡ w ++ rest → k ≡ i + length w → l ≡ j + length w → Alike text k other l
later text i other j k l w rest a h e f =
    let mine = ends_text text i (w ++ rest) a.left h in
    let its = ends_text other j (w ++ rest) a.right (sym a.bytes ∙ h) in
    record {
      bytes = rw (e, f) (behind text i w rest h ∙ sym (behind other j w rest (sym a.bytes ∙ h)));
      left = omega (arith, mine, length-append w rest);
      right = omega (arith, its, length-append w rest);
    }

-- the place of a next value in either text
abbrev pub NextAlike : List ℕ → Option ℕ → List ℕ → Option ℕ → Type 0
NextAlike text None other None = Unit {0}
NextAlike text None other (Some l) = ⊥
NextAlike text (Some k) other None = ⊥
NextAlike text (Some k) other (Some l) = Alike text k other l

tail_alike : (text : List ℕ) (i : ℕ) (other : List ℕ) (j at to : ℕ) (w : List ℕ) (t : Tail) → Alike text i other j → drop i text ≡ w ++ tail t → at ≡ i + length w → to ≡ j + length w → NextAlike text (next_place at t) other (next_place to t)
tail_alike text i other j at to w (Last bs) a h e f = tt
tail_alike text i other j at to w (More m rest) a h e f = later text i other j (at + length (separator 44 m)) (to + length (separator 44 m)) (w ++ separator 44 m) rest a (h ∙ sym (append_assoc w (separator 44 m) rest)) (omega (arith, length-append w (separator 44 m))) (omega (arith, length-append w (separator 44 m)))

four_front : (a b c d e t : List ℕ) → a ++ (b ++ (c ++ (d ++ (e ++ t)))) ≡ (a ++ (b ++ (c ++ (d ++ e)))) ++ t
four_front a b c d e t = simp append_assoc

three_front : (a b c t : List ℕ) → a ++ (b ++ (c ++ t)) ≡ (a ++ (b ++ c)) ++ t
three_front a b c t = simp append_assoc

via_next : (text : List ℕ) (i : ℕ) (other : List ℕ) (j : ℕ) (t : ViaTree) → Alike text i other j → drop i text ≡ via t → NextAlike text (via_place i t).next other (via_place j t).next
via_next text i other j t a h =
    let lead = lws t.lead in
    let p = protocol t in
    let host = parts.host t.host in
    let port = parts.port t.port in
    let params = Rattle.sip_words.specs.Grammar.params t.params in
    let front = lead ++ (p ++ (host ++ (port ++ params))) in
    let len : length front ≡ length lead + (length p + (length host + (length port + length params))) = omega (arith, length-append lead (p ++ (host ++ (port ++ params))), length-append p (host ++ (port ++ params)), length-append host (port ++ params), length-append port params) in
    tail_alike text i other j (via_place i t).whole.to (via_place j t).whole.to front t.tail a (h ∙ four_front lead p host port params (tail t.tail)) (omega (arith, len)) (omega (arith, len))

pub via_alike : (text : List ℕ) (i : ℕ) (other : List ℕ) (j : ℕ) (v : Via) → Alike text i other j → via_at text i ≡ Some v → (w : Via) × (via_at other j ≡ Some w) × NextAlike text v.next other w.next
via_alike text i other j v a e =
    let t = via_takes text i v e in
    let same = same_Some (via_place i t.0) v (sym (via_again text i t.0 a.left t.2 t.1) ∙ e) in
    let there = via_again other j t.0 a.right (sym a.bytes ∙ t.2) t.1 in
    (via_place j t.0, there, subst (λ (x : Via). NextAlike text x.next other (via_place j t.0).next) same (via_next text i other j t.0 a t.2))

name_next : (text : List ℕ) (i : ℕ) (other : List ℕ) (j : ℕ) (t : NameAddrTree) → Alike text i other j → drop i text ≡ name_addr t → NextAlike text (name_addr_place i t).next other (name_addr_place j t).next
name_next text i other j t a h =
    let lead = lws t.lead in
    let address = Rattle.sip_fields.specs.NameAddrGrammar.address t.address in
    let params = Rattle.sip_words.specs.Grammar.params t.params in
    let front = lead ++ (address ++ params) in
    let len : length front ≡ length lead + (length address + length params) = omega (arith, length-append lead (address ++ params), length-append address params) in
    tail_alike text i other j (name_addr_place i t).whole.to (name_addr_place j t).whole.to front t.tail a (h ∙ three_front lead address params (tail t.tail)) (omega (arith, len)) (omega (arith, len))

pub name_alike : (text : List ℕ) (i : ℕ) (other : List ℕ) (j : ℕ) (n : NameAddr) → Alike text i other j → name_addr_at text i ≡ Some n → (k : NameAddr) × (name_addr_at other j ≡ Some k) × NextAlike text n.next other k.next
name_alike text i other j n a e =
    let t = name_addr_takes text i n e in
    let same = same_Some (name_addr_place i t.0) n (sym (name_addr_again text i t.0 a.left t.2 t.1) ∙ e) in
    let there = name_addr_again other j t.0 a.right (sym a.bytes ∙ t.2) t.1 in
    (name_addr_place j t.0, there, subst (λ (x : NameAddr). NextAlike text x.next other (name_addr_place j t.0).next) same (name_next text i other j t.0 a t.2))

pub route_alike : (text : List ℕ) (i : ℕ) (other : List ℕ) (j : ℕ) (n : NameAddr) → Alike text i other j → route_at text i ≡ Some n → (k : NameAddr) × (route_at other j ≡ Some k) × NextAlike text n.next other k.next
route_alike text i other j n a e =
    let t = route_value_takes text i n a.left e in
    let same = same_Some (name_addr_place i t.0) n (sym (route_value_again text i t.0 a.left t.2 t.1) ∙ e) in
    let there = route_value_again other j t.0 a.right (sym a.bytes ∙ t.2) t.1 in
    (name_addr_place j t.0, there, subst (λ (x : NameAddr). NextAlike text x.next other (name_addr_place j t.0).next) same (name_next text i other j t.0 a t.2))

method_is : (text : List ℕ) (i : ℕ) (t : CSeqTree) → drop i text ≡ cseq t → slice_range text (cseq_place i t).method.from (cseq_place i t).method.to ≡ t.method
method_is text i t h =
    let a = behind text i (lws t.lead) (t.digits ++ (lws t.gap ++ (t.method ++ lws t.trail))) h in
    let b = behind text (i + length (lws t.lead)) t.digits (lws t.gap ++ (t.method ++ lws t.trail)) a in
    let c = behind text (i + length (lws t.lead) + length t.digits) (lws t.gap) (t.method ++ lws t.trail) b in
    part_is text (i + length (lws t.lead) + length t.digits + length (lws t.gap)) t.method (lws t.trail) c

-- the number is the same, and so are the bytes of the method
pub record SameCSeq (text : List ℕ) (c : CSeq) (other : List ℕ) (d : CSeq) : Type 0 where
  pub number : c.number ≡ d.number
  pub method : slice_range text c.method.from c.method.to ≡ slice_range other d.method.from d.method.to

pub cseq_alike : (text : List ℕ) (i : ℕ) (other : List ℕ) (j : ℕ) (c : CSeq) → Alike text i other j → cseq_at text i ≡ Some c → (d : CSeq) × (cseq_at other j ≡ Some d) × SameCSeq text c other d
cseq_alike text i other j c a e =
    let t = cseq_takes text i c e in
    let same = same_Some (cseq_place i t.0) c (sym (cseq_again text i t.0 a.left t.2 t.1) ∙ e) in
    let there = cseq_again other j t.0 a.right (sym a.bytes ∙ t.2) t.1 in
    let both : SameCSeq text (cseq_place i t.0) other (cseq_place j t.0) = record { number = refl; method = method_is text i t.0 t.2 ∙ sym (method_is other j t.0 (sym a.bytes ∙ t.2)) } in
    (cseq_place j t.0, there, subst (λ (x : CSeq). SameCSeq text x other (cseq_place j t.0)) same both)

-- LWS, runs and words end as many bytes behind
lws_alike : (text : List ℕ) (i : ℕ) (other : List ℕ) (j : ℕ) → drop i text ≡ drop j other → lws_end other j ≡ j + (lws_end text i - i)
unfolding lws_end
lws_alike text i other j h = rw (← h) (omega arith)

lws_low : (text : List ℕ) (i : ℕ) → i ≤ lws_end text i
unfolding lws_end
lws_low text i = omega arith

run_alike : (class : Class) (text : List ℕ) (i : ℕ) (other : List ℕ) (j : ℕ) → drop i text ≡ drop j other → run_end class other j ≡ j + (run_end class text i - i)
unfolding run_end
run_alike class text i other j h = rw (← h) (omega arith)

drop_more : (text : List ℕ) (i k : ℕ) → i ≤ k → drop k text ≡ drop (k - i) (drop i text)
drop_more text i k le = ap (λ (n : ℕ). drop n text) (omega arith) ∙ sym (drop-drop (k - i) i text)

drop_alike : (text : List ℕ) (i : ℕ) (other : List ℕ) (j k : ℕ) → drop i text ≡ drop j other → i ≤ k → drop k text ≡ drop (j + (k - i)) other
drop_alike text i other j k h le =
    let n : j + (k - i) - j ≡ k - i = omega arith in
    drop_more text i k le ∙ ap (λ (t : List ℕ). drop (k - i) t) h ∙ sym (drop_more other j (j + (k - i)) (omega arith) ∙ ap (λ (m : ℕ). drop m (drop j other)) n)

word_alike : (class : Class) (text : List ℕ) (i : ℕ) (other : List ℕ) (j k : ℕ) → drop i text ≡ drop j other → word_end class text i ≡ Some k → (i < k) × (word_end class other j ≡ Some (j + (k - i)))
word_alike class text i other j k h e =
    let c = cond_some _ (run_end class text i) k e in
    let lt : i < run_end class text i = ltb-true i (run_end class text i) c.0 in
    let there = run_alike class text i other j h in
    let end : j + (run_end class text i - i) ≡ j + (k - i) = omega (arith, c.1) in
    let test : nat_lt j (j + (k - i)) ≡ true = lt-ltb j (j + (k - i)) (omega (arith, c.1)) in
    (omega (arith, c.1), rw (there, end, test) refl)

length_alike : (text : List ℕ) (i : ℕ) (other : List ℕ) (j : ℕ) → Alike text i other j → length other ≡ j + (length text - i)
length_alike text i other j a = let same = ap (λ (t : List ℕ). length t) a.bytes in omega (arith, length-drop i text, length-drop j other, a.left, a.right)

-- LWS up to the end of the text
ends_alike : (text : List ℕ) (i : ℕ) (other : List ℕ) (j k : ℕ) → Alike text i other j → i ≤ k → (lws_end text k == length text) ≡ true → (lws_end other (j + (k - i)) == length other) ≡ true
ends_alike text i other j k a le e =
    let is = eqb-true (lws_end text k) (length text) e in
    let there = lws_alike text k other (j + (k - i)) (drop_alike text i other j k a.bytes le) in
    eq-eqb (lws_end other (j + (k - i))) (length other) (omega (arith, is, there, length_alike text i other j a, lws_low text k))

pub call_id_alike : (text : List ℕ) (i : ℕ) (other : List ℕ) (j : ℕ) (s : Span) → Alike text i other j → call_id_at text i ≡ Some s → (r : Span) × (call_id_at other j ≡ Some r)
unfolding call_id_at
call_id_alike text i other j s a e =
    let start = lws_end text i in
    let there = lws_alike text i other j a.bytes in
    let low = lws_low text i in
    let end = bind_some (word_end Unbroken text start) _ s e in
    let at_start = drop_alike text i other j start a.bytes low in
    let word = word_alike Unbroken text start other (j + (start - i)) end.0 at_start end.1 in
    let c = cond_some _ _ s end.2 in
    let n : j + (start - i) + (end.0 - start) ≡ j + (end.0 - i) = omega (arith, word.0) in
    let last = ends_alike text i other j end.0 a (omega (arith, word.0)) c.0 in
    (span (j + (start - i)) (j + (end.0 - i)), rw (there, word.1, n, last) refl)

number_alike : (most : ℕ) (text : List ℕ) (i : ℕ) (other : List ℕ) (j : ℕ) (r : ℕ × ℕ) → drop i text ≡ drop j other → number_at most text i ≡ Some r → (i < r.1) × (number_at most other j ≡ Some (r.0, j + (r.1 - i)))
unfolding number_at
number_alike most text i other j r h e =
    let end = bind_some (word_end Digit text i) _ r e in
    let word = word_alike Digit text i other j end.0 h end.1 in
    let c = not_none (nat_lt most (end.0 - i)) _ r end.2 in
    let count : j + (end.0 - i) - j ≡ end.0 - i = omega arith in
    let made : ℕ × ℕ = (digits_value 10 (slice_range text i end.0), end.0) in
    let P : ℕ × ℕ → Type 0 = λ x. (i < x.1) × (number_at most other j ≡ Some (x.0, j + (x.1 - i))) in
    subst P c.1 (word.0, rw (word.1, count, c.0, ← h) refl)

pub whole_alike : (most : ℕ) (text : List ℕ) (i : ℕ) (other : List ℕ) (j n : ℕ) → Alike text i other j → whole_number most text i ≡ Some n → whole_number most other j ≡ Some n
unfolding whole_number
whole_alike most text i other j n a e =
    let start = lws_end text i in
    let low = lws_low text i in
    let r = bind_some (number_at most text start) _ n e in
    let at_start = drop_alike text i other j start a.bytes low in
    let number = number_alike most text start other (j + (start - i)) r.0 at_start r.1 in
    let c = cond_some _ _ n r.2 in
    let k : j + (start - i) + (r.0.1 - start) ≡ j + (r.0.1 - i) = omega (arith, number.0) in
    let last = ends_alike text i other j r.0.1 a (omega (arith, number.0)) c.0 in
    rw (lws_alike text i other j a.bytes, number.1, k, last) (ap (λ (x : ℕ). Some x) c.1)

pub hops_alike : (text : List ℕ) (i : ℕ) (other : List ℕ) (j n : ℕ) → Alike text i other j → hops_at text i ≡ Some n → hops_at other j ≡ Some n
unfolding hops_at
hops_alike text i other j n a e =
    let k = bind_some (whole_number 3 text i) _ n e in
    rw (whole_alike 3 text i other j k.0 a k.1) k.2

-- the values of a list
next_step : (text other : List ℕ) (o p : Option ℕ) (n m : ℕ) (next after : ℕ → Option (Option ℕ)) → NextAlike text o other p → ((k l : ℕ) → Alike text k other l → values_read n next k ≡ true → values_read m after l ≡ true) → rest_reads (Some o) (values_read n next) ≡ true → rest_reads (Some p) (values_read m after) ≡ true
next_step text other None None n m next after a go h = refl
next_step text other None (Some l) n m next after a go h = absurd a
next_step text other (Some k) None n m next after a go h = absurd a
next_step text other (Some k) (Some l) n m next after a go h = go k l a h

-- where one step is alike, so is the list
list_alike : (text other : List ℕ) (next after : ℕ → Option (Option ℕ)) → ((k l : ℕ) (o : Option ℕ) → Alike text k other l → next k ≡ Some o → (p : Option ℕ) × (after l ≡ Some p) × NextAlike text o other p) → (n m i j : ℕ) → n ≤ m → Alike text i other j → values_read n next i ≡ true → values_read m after j ≡ true
unfolding values_read
list_alike text other next after step zero m i j le a h = absurd (cc)
list_alike text other next after step (suc n) zero i j le a h = absurd (omega arith)
list_alike text other next after step (suc n) (suc m) i j le a h = by_next (next i) refl (λ x y b g. list_alike text other next after step n m x y (omega arith) b g) h
  where
    by_next : (o : Option (Option ℕ)) → next i ≡ o → ((x y : ℕ) → Alike text x other y → values_read n next x ≡ true → values_read m after y ≡ true) → rest_reads o (values_read n next) ≡ true → rest_reads (after j) (values_read m after) ≡ true
    by_next None e go k = absurd (cc)
    by_next (Some o) e go k =
        let s = step i j o a e in
        rw s.1 (next_step text other o s.0 n m next after s.2 go k)

via_step : (text other : List ℕ) (k l : ℕ) (o : Option ℕ) → Alike text k other l → next_via text k ≡ Some o → (p : Option ℕ) × (next_via other l ≡ Some p) × NextAlike text o other p
unfolding next_via
via_step text other k l o a e =
    let v = bind_some (via_at text k) _ o e in
    let there = via_alike text k other l v.0 a v.1 in
    let is = same_Some v.0.next o v.2 in
    (there.0.next, rw there.1 refl, subst (λ (x : Option ℕ). NextAlike text x other there.0.next) is there.2)

route_step : (text other : List ℕ) (k l : ℕ) (o : Option ℕ) → Alike text k other l → next_route text k ≡ Some o → (p : Option ℕ) × (next_route other l ≡ Some p) × NextAlike text o other p
unfolding next_route
route_step text other k l o a e =
    let v = bind_some (route_at text k) _ o e in
    let there = route_alike text k other l v.0 a v.1 in
    let is = same_Some v.0.next o v.2 in
    (there.0.next, rw there.1 refl, subst (λ (x : Option ℕ). NextAlike text x other there.0.next) is there.2)

other_step : (text other : List ℕ) (k l : ℕ) (o : Option ℕ) → Alike text k other l → Some None ≡ Some o → (p : Option ℕ) × (Some None ≡ Some p) × NextAlike text o other p
other_step text other k l o a e = (None, refl, subst (λ (x : Option ℕ). NextAlike text x other None) (same_Some None o e) tt)

value_step : (kd : Kind) (text other : List ℕ) (k l : ℕ) (o : Option ℕ) → Alike text k other l → next_value kd text k ≡ Some o → (p : Option ℕ) × (next_value kd other l ≡ Some p) × NextAlike text o other p
value_step kind.Via text other k l o a e = via_step text other k l o a e
value_step kind.Route text other k l o a e = route_step text other k l o a e
value_step kind.From text other k l o a e = other_step text other k l o a e
value_step kind.To text other k l o a e = other_step text other k l o a e
value_step kind.CallId text other k l o a e = other_step text other k l o a e
value_step kind.CSeq text other k l o a e = other_step text other k l o a e
value_step kind.MaxForwards text other k l o a e = other_step text other k l o a e
value_step kind.RecordRoute text other k l o a e = other_step text other k l o a e
value_step kind.Contact text other k l o a e = other_step text other k l o a e
value_step kind.ContentLength text other k l o a e = other_step text other k l o a e
value_step kind.Other text other k l o a e = other_step text other k l o a e

pub values_alike : (kd : Kind) (text other : List ℕ) (n m i j : ℕ) → n ≤ m → Alike text i other j → values_read n (next_value kd text) i ≡ true → values_read m (next_value kd other) j ≡ true
values_alike kd text other n m i j le a h = list_alike text other (next_value kd text) (next_value kd other) (value_step kd text other) n m i j le a h
