-- The parameters of a Via value that is stamped: an old received is cut, rport is filled.
use Rattle.std.proofs.Common.{◌≡◌, ℕ, ◌+◌, ◌<◌, ◌≤◌, ◌==◌, Bool, true, false, List, [], ◌∷◌, ◌++◌, length, refl, ap, ◌∙◌, arith, append_assoc, length-append, Option, Some, None, inl, inr}
use Rattle.std.specs.Prelude.{if◌then◌else◌, cond, codes, nat_le, nat_lt, ◌&&◌}
use Rattle.std.specs.Str.{str_eq_ignore_ascii_case}
use Rattle.std.proofs.lemmas.Bool.{cases_Bool, ne_eqb, eq-eqb, le-ltb}
use Rattle.std.proofs.lemmas.List.{append-nil}
use Rattle.sip_words.specs.Bytes.{◌and◌}
use Rattle.sip_words.specs.Spans.{span}
use Rattle.sip_words.specs.declared.Span.{Span}
use Rattle.sip_words.specs.Grammar.{lws, separator, ValueTree, ParamTree, assigned, param, params, param_place, named_place}
use Rattle.sip_fields.specs.declared.via.Rport.{Rport}
use Rattle.sip_fields.specs.declared.via.Rport.TheVariants.{Absent, Empty, Given}
use Rattle.sip_fields.specs.Via.{rport_of, received_of}
use Rattle.msg_edits.specs.declared.parts.Edit.{Edit}
use Rattle.msg_edits.specs.Edited.{has_byte, is_cut, inserted_at}
use Rattle.msg_edits.proofs.Grown.{has_inside, has_below}
use Rattle.sip_laws.proofs.After.{edited_after, after_append, after_kept, after_filled, after_cut}

-- the bytes that go, and what is put in
abbrev pub cuts : Option Span → ℕ → Bool
cuts None k = false
cuts (Some s) k = has_byte s k

abbrev pub puts : Rport → List ℕ → ℕ → List ℕ
puts (Empty w) d k = if w.to == k then codes "=" ++ d else []
puts (Given v) d k = []
puts Absent d k = []

-- what is still looked for
abbrev pub received_in : Bool → ℕ → List ParamTree → Option Span
received_in false i ps = None
received_in true i ps = received_of (named_place (codes "received") i ps)

abbrev pub rport_in : Bool → ℕ → List ParamTree → Rport
rport_in false i ps = Absent
rport_in true i ps = rport_of (named_place (codes "rport") i ps)

abbrev pub is_received : ParamTree → Bool
is_received p = str_eq_ignore_ascii_case p.name (codes "received")

abbrev pub is_rport : ParamTree → Bool
is_rport p = str_eq_ignore_ascii_case p.name (codes "rport")

abbrev pub still : Bool → Bool → Bool
still found sought = cond found false sought

-- what a parameter becomes
abbrev pub fate : Bool → Bool → Option ValueTree → List ℕ → ParamTree → List ℕ
fate true y (Some v) d p = lws p.semicolon.before
fate false y (Some v) d p = param p
fate x true None d p = param p ++ (codes "=" ++ d)
fate x false None d p = param p

abbrev pub walk : Bool → Bool → List ℕ → List ParamTree → List ℕ
walk c r d [] = []
walk c r d (p ∷ ps) = fate (c and is_received p) (r and is_rport p) p.value d p ++ walk (still (is_received p) c) (still (is_rport p) r) d ps

-- the cut and the insert of one parameter
abbrev own_cut : Bool → ℕ → ParamTree → Option Span
own_cut false i p = None
own_cut true i p = received_of (Some (param_place i p))

abbrev own_port : Bool → ℕ → ParamTree → Rport
own_port false i p = Absent
own_port true i p = rport_of (Some (param_place i p))

and_no : (x y : Bool) → y ≡ false → (x && y) ≡ false
and_no true y h = h
and_no false y h = refl

has_above : (s : Span) (k : ℕ) → s.to ≤ k → has_byte s k ≡ false
has_above s k le = and_no (nat_le s.from k) (nat_lt k s.to) (le-ltb k s.to le)

param_length : (p : ParamTree) → length (param p) ≡ length (separator 59 p.semicolon) + (length p.name + length (assigned p.value))
param_length p = omega (arith, length-append (separator 59 p.semicolon) (p.name ++ assigned p.value), length-append p.name (assigned p.value))

separator_length : (p : ParamTree) → length (separator 59 p.semicolon) ≡ length (lws p.semicolon.before) + (1 + length (lws p.semicolon.after))
separator_length p = omega (arith, length-append (lws p.semicolon.before) (59 ∷ lws p.semicolon.after))

own_low : (i k : ℕ) (p : ParamTree) → k < i → cuts (received_of (Some (param_place i p))) k ≡ false
own_low i k p lt = by_value p.value refl
  where
    by_value : (v : Option ValueTree) → p.value ≡ v → cuts (received_of (Some (param_place i p))) k ≡ false
    by_value None e = rw e refl
    by_value (Some v) e = rw e (has_below (span (i + length (lws p.semicolon.before)) (i + length (separator 59 p.semicolon) + length p.name + length (assigned (Some v)))) k (omega (arith, lt)))

own_high : (i k : ℕ) (p : ParamTree) → i + length (param p) ≤ k → cuts (received_of (Some (param_place i p))) k ≡ false
own_high i k p le = by_value p.value refl
  where
    by_value : (v : Option ValueTree) → p.value ≡ v → cuts (received_of (Some (param_place i p))) k ≡ false
    by_value None e = rw e refl
    by_value (Some v) e =
        let len = param_length p ∙ ap (λ (o : Option ValueTree). length (separator 59 p.semicolon) + (length p.name + length (assigned o))) e in
        rw e (has_above (span (i + length (lws p.semicolon.before)) (i + length (separator 59 p.semicolon) + length p.name + length (assigned (Some v)))) k (omega (arith, le, len)))

cuts_low : (name : List ℕ) (ps : List ParamTree) (i k : ℕ) → k < i → cuts (received_of (named_place name i ps)) k ≡ false
cuts_low name [] i k lt = refl
cuts_low name (p ∷ ps) i k lt = elim (cases_Bool (str_eq_ignore_ascii_case p.name name)) [
  | inl y ↦ rw y (own_low i k p lt)
  | inr n ↦ rw n (cuts_low name ps (i + length (param p)) k (omega (arith, lt)))
]

port_at_end : (i k : ℕ) (p : ParamTree) (d : List ℕ) → k ≤ i → puts (rport_of (Some (param_place i p))) d k ≡ []
port_at_end i k p d le = by_value p.value refl
  where
    by_value : (v : Option ValueTree) → p.value ≡ v → puts (rport_of (Some (param_place i p))) d k ≡ []
    by_value None e = let off = ne_eqb (i + length (separator 59 p.semicolon) + length p.name) k (λ z. omega (arith, z, le, separator_length p)) in rw (e, off) refl
    by_value (Some v) e = rw e refl

port_high : (i k : ℕ) (p : ParamTree) (d : List ℕ) → i + length (param p) < k → puts (rport_of (Some (param_place i p))) d k ≡ []
port_high i k p d lt = by_value p.value refl
  where
    by_value : (v : Option ValueTree) → p.value ≡ v → puts (rport_of (Some (param_place i p))) d k ≡ []
    by_value None e = let off = ne_eqb (i + length (separator 59 p.semicolon) + length p.name) k (λ z. omega (arith, z, lt, param_length p)) in rw (e, off) refl
    by_value (Some v) e = rw e refl

pub puts_low : (name : List ℕ) (ps : List ParamTree) (i k : ℕ) (d : List ℕ) → k ≤ i → puts (rport_of (named_place name i ps)) d k ≡ []
puts_low name [] i k d le = refl
puts_low name (p ∷ ps) i k d le = elim (cases_Bool (str_eq_ignore_ascii_case p.name name)) [
  | inl y ↦ rw y (port_at_end i k p d le)
  | inr n ↦ rw n (puts_low name ps (i + length (param p)) k d (omega (arith, le)))
]

-- within the first parameter, and behind it
cut_here : (c : Bool) (p : ParamTree) (ps : List ParamTree) (i k : ℕ) → k < i + length (param p) → cuts (received_in c i (p ∷ ps)) k ≡ cuts (own_cut (c and is_received p) i p) k
cut_here false p ps i k lt = refl
cut_here true p ps i k lt = elim (cases_Bool (is_received p)) [
  | inl y ↦ rw y refl
  | inr n ↦ rw n (cuts_low (codes "received") ps (i + length (param p)) k lt)
]

cut_behind : (c : Bool) (p : ParamTree) (ps : List ParamTree) (i k : ℕ) → i + length (param p) ≤ k → cuts (received_in c i (p ∷ ps)) k ≡ cuts (received_in (still (is_received p) c) (i + length (param p)) ps) k
cut_behind false p ps i k le = elim (cases_Bool (is_received p)) [ inl y ↦ rw y refl | inr n ↦ rw n refl ]
cut_behind true p ps i k le = elim (cases_Bool (is_received p)) [
  | inl y ↦ rw y (own_high i k p le)
  | inr n ↦ rw n refl
]

port_here : (r : Bool) (d : List ℕ) (p : ParamTree) (ps : List ParamTree) (i k : ℕ) → k ≤ i + length (param p) → puts (rport_in r i (p ∷ ps)) d k ≡ puts (own_port (r and is_rport p) i p) d k
port_here false d p ps i k le = refl
port_here true d p ps i k le = elim (cases_Bool (is_rport p)) [
  | inl y ↦ rw y refl
  | inr n ↦ rw n (puts_low (codes "rport") ps (i + length (param p)) k d le)
]

port_behind : (r : Bool) (d : List ℕ) (p : ParamTree) (ps : List ParamTree) (i k : ℕ) → i + length (param p) < k → puts (rport_in r i (p ∷ ps)) d k ≡ puts (rport_in (still (is_rport p) r) (i + length (param p)) ps) d k
port_behind false d p ps i k lt = elim (cases_Bool (is_rport p)) [ inl y ↦ rw y refl | inr n ↦ rw n refl ]
port_behind true d p ps i k lt = elim (cases_Bool (is_rport p)) [
  | inl y ↦ rw y (port_high i k p d lt)
  | inr n ↦ rw n refl
]

-- one parameter
no_cut : (x : Bool) (i k : ℕ) (p : ParamTree) → p.value ≡ None → cuts (own_cut x i p) k ≡ false
no_cut false i k p e = refl
no_cut true i k p e = rw e refl

no_put : (y : Bool) (i k : ℕ) (p : ParamTree) (v : ValueTree) (d : List ℕ) → p.value ≡ Some v → puts (own_port y i p) d k ≡ []
no_put false i k p v d e = refl
no_put true i k p v d e = rw e refl

value_cut : (i k : ℕ) (p : ParamTree) (v : ValueTree) → p.value ≡ Some v → cuts (own_cut true i p) k ≡ has_byte (span (i + length (lws p.semicolon.before)) (i + length (param p))) k
value_cut i k p v e =
    let len : i + length (separator 59 p.semicolon) + length p.name + length (assigned p.value) ≡ i + length (param p) = omega (arith, param_length p) in
    let made : cuts (own_cut true i p) k ≡ has_byte (span (i + length (lws p.semicolon.before)) (i + length (separator 59 p.semicolon) + length p.name + length (assigned p.value))) k = rw e refl in
    made ∙ ap (λ (n : ℕ). has_byte (span (i + length (lws p.semicolon.before)) n) k) len

empty_put : (i k : ℕ) (p : ParamTree) (d : List ℕ) → p.value ≡ None → puts (own_port true i p) d k ≡ (if i + length (separator 59 p.semicolon) + length p.name == k then codes "=" ++ d else [])
empty_put i k p d e = rw e refl

one_param : (edits : List Edit) (x y : Bool) (d : List ℕ) (p : ParamTree) (i : ℕ) → ((k : ℕ) → i ≤ k → k < i + length (param p) → is_cut edits k ≡ cuts (own_cut x i p) k) → ((k : ℕ) → i < k → k ≤ i + length (param p) → inserted_at edits k ≡ puts (own_port y i p) d k) → edited_after edits i (param p) ≡ fate x y p.value d p
one_param edits x y d p i cut put = by_value x y p.value refl cut put
  where
    by_value : (x y : Bool) (v : Option ValueTree) → p.value ≡ v → ((k : ℕ) → i ≤ k → k < i + length (param p) → is_cut edits k ≡ cuts (own_cut x i p) k) → ((k : ℕ) → i < k → k ≤ i + length (param p) → inserted_at edits k ≡ puts (own_port y i p) d k) → edited_after edits i (param p) ≡ fate x y v d p
    by_value true y (Some v) e cut put =
        let a = lws p.semicolon.before in
        let z = (59 ∷ lws p.semicolon.after) ++ (p.name ++ assigned p.value) in
        let whole : param p ≡ a ++ z = append_assoc a (59 ∷ lws p.semicolon.after) (p.name ++ assigned p.value) in
        let len : length (param p) ≡ length a + length z = ap (λ (t : List ℕ). length t) whole ∙ length-append a z in
        let at = span (i + length a) (i + length (param p)) in
        let none : (k : ℕ) → i < k → k ≤ i + length (param p) → inserted_at edits k ≡ [] = λ k low high. put k low high ∙ no_put y i k p v d e in
        let front = after_kept edits i a (λ k low high. cut k low (omega (arith, high, len)) ∙ value_cut i k p v e ∙ has_below at k high) (λ k low high. none k low (omega (arith, high, len))) in
        let back = after_cut edits (i + length a) z (λ k low high. cut k (omega (arith, low)) (omega (arith, high, len)) ∙ value_cut i k p v e ∙ has_inside at k low (omega (arith, high, len))) (λ k low high. none k (omega (arith, low)) (omega (arith, high, len))) in
        ap (λ (t : List ℕ). edited_after edits i t) whole ∙ after_append edits i a z ∙ rw (front, back) (append-nil a)
    by_value false y (Some v) e cut put = after_kept edits i (param p) cut (λ k low high. put k low high ∙ no_put y i k p v d e)
    by_value x true None e cut put =
        let size = param_length p ∙ ap (λ (o : Option ValueTree). length (separator 59 p.semicolon) + (length p.name + length (assigned o))) e in
        let end = i + length (separator 59 p.semicolon) + length p.name in
        let same : end ≡ i + length (param p) = omega (arith, size) in
        let on = eq-eqb end (i + length (param p)) same in
        let there : (if end == i + length (param p) then codes "=" ++ d else []) ≡ codes "=" ++ d = rw on refl in
        after_filled edits i (param p) (codes "=" ++ d) (omega (arith, param_length p, separator_length p)) (λ k low high. cut k low high ∙ no_cut x i k p e)
        (λ k low high. let off = ne_eqb end k (λ z. omega (arith, z, high, same)) in put k low (omega (arith, high)) ∙ empty_put i k p d e ∙ rw off refl)
        (put (i + length (param p)) (omega (arith, param_length p, separator_length p)) (omega arith) ∙ empty_put i (i + length (param p)) p d e ∙ there)
    by_value x false None e cut put = after_kept edits i (param p) (λ k low high. cut k low high ∙ no_cut x i k p e) (λ k low high. put k low high)

pub walked : (edits : List Edit) (c r : Bool) (d : List ℕ) (ps : List ParamTree) (i : ℕ) → ((k : ℕ) → i ≤ k → k < i + length (params ps) → is_cut edits k ≡ cuts (received_in c i ps) k) → ((k : ℕ) → i < k → k ≤ i + length (params ps) → inserted_at edits k ≡ puts (rport_in r i ps) d k) → edited_after edits i (params ps) ≡ walk c r d ps
walked edits c r d [] i cut put = refl
walked edits c r d (p ∷ ps) i cut put =
    let n = length (param p) in
    let len : length (params (p ∷ ps)) ≡ n + length (params ps) = length-append (param p) (params ps) in
    let one = one_param edits (c and is_received p) (r and is_rport p) d p i
    (λ k low high. cut k low (omega (arith, high, len)) ∙ cut_here c p ps i k high)
    (λ k low high. put k low (omega (arith, high, len)) ∙ port_here r d p ps i k high) in
    let rest = walked edits (still (is_received p) c) (still (is_rport p) r) d ps (i + n)
    (λ k low high. cut k (omega (arith, low)) (omega (arith, high, len)) ∙ cut_behind c p ps i k low)
    (λ k low high. put k (omega (arith, low)) (omega (arith, high, len)) ∙ port_behind r d p ps i k low) in
    after_append edits i (param p) (params ps) ∙ ap (λ (t : List ℕ). t ++ edited_after edits (i + n) (params ps)) one ∙ ap (λ (t : List ℕ). fate (c and is_received p) (r and is_rport p) p.value d p ++ t) rest

-- behind all parameters
pub cuts_high : (name : List ℕ) (ps : List ParamTree) (i k : ℕ) → i + length (params ps) ≤ k → cuts (received_of (named_place name i ps)) k ≡ false
cuts_high name [] i k le = refl
cuts_high name (p ∷ ps) i k le =
    let len : length (params (p ∷ ps)) ≡ length (param p) + length (params ps) = length-append (param p) (params ps) in
    elim (cases_Bool (str_eq_ignore_ascii_case p.name name)) [
      | inl y ↦ rw y (own_high i k p (omega (arith, le, len)))
      | inr n ↦ rw n (cuts_high name ps (i + length (param p)) k (omega (arith, le, len)))
    ]

pub puts_high : (name : List ℕ) (ps : List ParamTree) (i k : ℕ) (d : List ℕ) → i + length (params ps) < k → puts (rport_of (named_place name i ps)) d k ≡ []
puts_high name [] i k d lt = refl
puts_high name (p ∷ ps) i k d lt =
    let len : length (params (p ∷ ps)) ≡ length (param p) + length (params ps) = length-append (param p) (params ps) in
    elim (cases_Bool (str_eq_ignore_ascii_case p.name name)) [
      | inl y ↦ rw y (port_high i k p d (omega (arith, lt, len)))
      | inr n ↦ rw n (puts_high name ps (i + length (param p)) k d (omega (arith, lt, len)))
    ]

pub cuts_front : (name : List ℕ) (ps : List ParamTree) (i k : ℕ) → k < i → cuts (received_of (named_place name i ps)) k ≡ false
cuts_front name ps i k lt = cuts_low name ps i k lt
