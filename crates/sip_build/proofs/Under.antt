-- The values of a message in a text that has one Via field more.
use Rattle.std.proofs.Common.{◌≡◌, ℕ, ◌+◌, ◌-◌, ◌≤◌, true, false, List, ◌∷◌, ◌++◌, length, take, drop, refl, sym, ap, ◌∙◌, arith, length-take, Some, None}
use Rattle.std.specs.Prelude.{Option, is_none, slice_range, option_map}
use Rattle.std.specs.List.{list_all}
use Rattle.std.proofs.lemmas.Option.{cond_some}
use Rattle.std.proofs.lemmas.List.{take-take, drop-take}
use Rattle.sip_words.specs.declared.Span.{Span}
use Rattle.sip_words.proofs.Steps.{bind_some}
use Rattle.sip_fields.specs.declared.name_addr.NameAddr.{NameAddr}
use Rattle.sip_fields.specs.declared.cseq.CSeq.{CSeq}
use Rattle.sip_fields.specs.NameAddr.{name_addr_at}
use Rattle.sip_fields.proofs.Lies.{cseq_between}
use Rattle.sip_scan.specs.declared.field.HeaderSpan.{HeaderSpan}
use Rattle.sip_scan.specs.declared.field.Kind.{Kind}
use Rattle.sip_scan.specs.declared.field.Kind.TheVariants as kind
use Rattle.sip_msg.specs.Fields.{is_of, first, count}
use Rattle.sip_msg.specs.Values.{whole_number, hops_at, name_addr_of, call_id_of, cseq_of, optional, max_forwards_of, content_length_of, list_reads}
use Rattle.sip_build.proofs.ReadTwins.{Alike, NextAlike, name_alike, SameCSeq, cseq_alike, call_id_alike, whole_alike, hops_alike}
use Rattle.sip_build.proofs.Twins.{Twin, AreTwins, first_twin, none_twin, count_twin, lists_twin, find_past, count_past, all_past}

-- ys are the twins of xs, and one field more
pub record Under (b : List ℕ) (xs : List HeaderSpan) (c : List ℕ) (ys : List HeaderSpan) (n : HeaderSpan) : Type 0 where
  pub before : List HeaderSpan
  pub after : List HeaderSpan
  pub whole : ys ≡ before ++ (n ∷ after)
  pub twins : AreTwins b xs c (before ++ after)
  pub kind : n.kind ≡ kind.Via

pub first_under : (k : Kind) (b c : List ℕ) (xs ys : List HeaderSpan) (n x : HeaderSpan) → Under b xs c ys n → is_of k n ≡ false → first k xs ≡ Some x → (y : HeaderSpan) × (first k ys ≡ Some y) × Twin b x c y
first_under k b c xs ys n x u no_kind e =
    let twin = first_twin k b c xs (u.before ++ u.after) x u.twins e in
    (twin.0, ap (λ (zs : List HeaderSpan). first k zs) u.whole ∙ find_past (is_of k) u.before u.after n no_kind ∙ twin.1, twin.2)

pub none_under : (k : Kind) (b c : List ℕ) (xs ys : List HeaderSpan) (n : HeaderSpan) → Under b xs c ys n → is_of k n ≡ false → first k xs ≡ None → first k ys ≡ None
none_under k b c xs ys n u no_kind e = ap (λ (zs : List HeaderSpan). first k zs) u.whole ∙ find_past (is_of k) u.before u.after n no_kind ∙ none_twin k b c xs (u.before ++ u.after) u.twins e

pub count_under : (k : Kind) (b c : List ℕ) (xs ys : List HeaderSpan) (n : HeaderSpan) → Under b xs c ys n → is_of k n ≡ false → count k ys ≡ count k xs
count_under k b c xs ys n u no_kind =
    let past = ap (λ (zs : List HeaderSpan). count k zs) u.whole ∙ count_past (is_of k) u.before u.after n in
    let none : count k ys ≡ 0 + count k (u.before ++ u.after) = past ∙ rw no_kind refl in
    none ∙ omega (arith, count_twin k b c xs (u.before ++ u.after) u.twins)

pub more_under : (k : Kind) (b c : List ℕ) (xs ys : List HeaderSpan) (n : HeaderSpan) → Under b xs c ys n → count k xs ≤ count k ys
more_under k b c xs ys n u =
    let past = ap (λ (zs : List HeaderSpan). count k zs) u.whole ∙ count_past (is_of k) u.before u.after n in
    omega (arith, past, count_twin k b c xs (u.before ++ u.after) u.twins)

-- no next value
no_next : (text other : List ℕ) (o p : Option ℕ) → NextAlike text o other p → is_none o ≡ true → is_none p ≡ true
no_next text other None None a h = refl
no_next text other None (Some l) a h = absurd a
no_next text other (Some k) None a h = refl
no_next text other (Some k) (Some l) a h = absurd (cc)

pub name_under : (k : Kind) (b c : List ℕ) (xs ys : List HeaderSpan) (n : HeaderSpan) (v : NameAddr) → Under b xs c ys n → is_of k n ≡ false → name_addr_of k b xs ≡ Some v → (w : NameAddr) × (name_addr_of k c ys ≡ Some w)
unfolding name_addr_of
name_under k b c xs ys n v u no_kind e =
    let f = bind_some (first k xs) _ v e in
    let value = bind_some (name_addr_at (take f.0.value.to b) f.0.value.from) _ v f.2 in
    let test = cond_some (is_none value.0.next) value.0 v value.2 in
    let twin = first_under k b c xs ys n f.0 u no_kind f.1 in
    let there = name_alike (take f.0.value.to b) f.0.value.from (take twin.0.value.to c) twin.0.value.from value.0 twin.2.value value.1 in
    let none = no_next (take f.0.value.to b) (take twin.0.value.to c) value.0.next there.0.next there.2 test.0 in
    (there.0, rw (twin.1, there.1, none) refl)

pub call_id_under : (b c : List ℕ) (xs ys : List HeaderSpan) (n : HeaderSpan) (s : Span) → Under b xs c ys n → is_of kind.CallId n ≡ false → call_id_of b xs ≡ Some s → (r : Span) × (call_id_of c ys ≡ Some r)
unfolding call_id_of
call_id_under b c xs ys n s u no_kind e =
    let f = bind_some (first kind.CallId xs) _ s e in
    let twin = first_under kind.CallId b c xs ys n f.0 u no_kind f.1 in
    let there = call_id_alike (take f.0.value.to b) f.0.value.from (take twin.0.value.to c) twin.0.value.from s twin.2.value f.2 in
    (there.0, rw (twin.1, there.1) refl)

-- a part of the front of a text
pub in_front : (text : List ℕ) (n i j : ℕ) → i ≤ j → j ≤ n → slice_range (take n text) i j ≡ slice_range text i j
in_front text n i j low high =
    let e : drop i (take n text) ≡ take (n - i) (drop i text) = ap (λ (k : ℕ). drop i (take k text)) (omega arith) ∙ drop-take i (n - i) text in
    ap (λ (t : List ℕ). take (j - i) t) e ∙ take-take (j - i) (n - i) (drop i text) (omega arith)

pub cseq_under : (b c : List ℕ) (xs ys : List HeaderSpan) (n : HeaderSpan) (s : CSeq) → Under b xs c ys n → is_of kind.CSeq n ≡ false → cseq_of b xs ≡ Some s → (r : CSeq) × (cseq_of c ys ≡ Some r) × SameCSeq b s c r
unfolding cseq_of
cseq_under b c xs ys n s u no_kind e =
    let f = bind_some (first kind.CSeq xs) _ s e in
    let twin = first_under kind.CSeq b c xs ys n f.0 u no_kind f.1 in
    let here = take f.0.value.to b in
    let other = take twin.0.value.to c in
    let there = cseq_alike here f.0.value.from other twin.0.value.from s twin.2.value f.2 in
    let mine = (cseq_between here f.0.value.from s twin.2.value.left f.2).method in
    let its = (cseq_between other twin.0.value.from there.0 twin.2.value.right there.1).method in
    let m = in_front b f.0.value.to s.method.from s.method.to mine.order (omega (arith, mine.high, length-take f.0.value.to b)) in
    let o = in_front c twin.0.value.to there.0.method.from there.0.method.to its.order (omega (arith, its.high, length-take twin.0.value.to c)) in
    (there.0, rw (twin.1, there.1) refl, record { number = there.2.number; method = sym m ∙ there.2.method ∙ o })

-- a value that may be absent
optional_under : (k : Kind) (read : List ℕ → ℕ → Option ℕ) (b c : List ℕ) (xs ys : List HeaderSpan) (n : HeaderSpan) (o : Option ℕ) → ((text : List ℕ) (i : ℕ) (other : List ℕ) (j v : ℕ) → Alike text i other j → read text i ≡ Some v → read other j ≡ Some v) → Under b xs c ys n → is_of k n ≡ false → optional read b (first k xs) ≡ Some o → optional read c (first k ys) ≡ Some o
optional_under k read b c xs ys n o alike u no_kind e = by_first (first k xs) refl e
  where
    by_value : (f y : HeaderSpan) (r : Option ℕ) → Twin b f c y → read (take f.value.to b) f.value.from ≡ r → option_map Some r ≡ Some o → optional read c (Some y) ≡ Some o
    by_value f y None twin is h = absurd (cc)
    by_value f y (Some v) twin is h = rw (alike (take f.value.to b) f.value.from (take y.value.to c) y.value.from v twin.value is) h

    by_first : (x : Option HeaderSpan) → first k xs ≡ x → optional read b x ≡ Some o → optional read c (first k ys) ≡ Some o
    by_first None is h = rw (none_under k b c xs ys n u no_kind is) h
    by_first (Some f) is h =
        let twin = first_under k b c xs ys n f u no_kind is in
        rw twin.1 (by_value f twin.0 (read (take f.value.to b) f.value.from) twin.2 refl h)

pub hops_under : (b c : List ℕ) (xs ys : List HeaderSpan) (n : HeaderSpan) (o : Option ℕ) → Under b xs c ys n → is_of kind.MaxForwards n ≡ false → max_forwards_of b xs ≡ Some o → max_forwards_of c ys ≡ Some o
unfolding max_forwards_of
hops_under b c xs ys n o u no_kind e = optional_under kind.MaxForwards hops_at b c xs ys n o hops_alike u no_kind e

pub length_under : (b c : List ℕ) (xs ys : List HeaderSpan) (n : HeaderSpan) (o : Option ℕ) → Under b xs c ys n → is_of kind.ContentLength n ≡ false → content_length_of b xs ≡ Some o → content_length_of c ys ≡ Some o
unfolding content_length_of
length_under b c xs ys n o u no_kind e = optional_under kind.ContentLength (whole_number 10) b c xs ys n o (whole_alike 10) u no_kind e

pub lists_under : (b c : List ℕ) (xs ys : List HeaderSpan) (n : HeaderSpan) → Under b xs c ys n → length b ≤ length c → list_reads c n ≡ true → list_all (list_reads b) xs ≡ true → list_all (list_reads c) ys ≡ true
lists_under b c xs ys n u le reads e =
    ap (λ (zs : List HeaderSpan). list_all (list_reads c) zs) u.whole ∙ all_past (list_reads c) u.before u.after n reads (lists_twin b c xs (u.before ++ u.after) le u.twins e)
