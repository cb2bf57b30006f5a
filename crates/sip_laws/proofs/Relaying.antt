-- Fields among others, and the parts of a message's text.
use Rattle.std.proofs.Common.{◌≡◌, ℕ, ◌+◌, ◌-◌, ◌≤◌, Bool, true, false, List, [], ◌∷◌, ◌++◌, length, take, drop, refl, sym, ap, ◌∙◌, subst, arith, append_assoc, length-append, length-take, Option, Some, None, inl, inr}
use Rattle.std.specs.Prelude.{IfSome, cond}
use Rattle.std.specs.List.{find, count_by, AllByRecursion}
use Rattle.std.proofs.lemmas.Bool.{cases_Bool}
use Rattle.std.proofs.lemmas.Bool.{cases_lt}
use Rattle.std.proofs.lemmas.Option.{same_Some, none-some}
use Rattle.std.proofs.lemmas.List.{take_at, drop_at}
use Rattle.sip_words.specs.declared.Span.{Span}
use Rattle.sip_words.proofs.Steps.{bind_some}
use Rattle.sip_scan.specs.declared.field.HeaderSpan.{HeaderSpan}
use Rattle.sip_scan.specs.declared.field.Kind.{Kind}
use Rattle.sip_scan.specs.Lines.{start_line}
use Rattle.sip_scan.specs.Field.{is_same_kind}
use Rattle.sip_scan.specs.Grammar.{crlf, FieldTree, field, field_place, fields, field_places, MessageTree, message, IsMessageTree, head_place}
use Rattle.sip_scan.proofs.HeadAgain.{start_place, start_again}
use Rattle.sip_msg.specs.declared.start.Start.{Start}
use Rattle.sip_msg.specs.declared.start.Start.TheVariants.{Request, Status}
use Rattle.sip_msg.specs.Fields.{is_of}
use Rattle.sip_msg.specs.Start.{start_at, start_of}
use Rattle.sip_msg.specs.declared.message.MsgFault.TheVariants.{TooLong}
use Rattle.sip_msg.specs.Table.{fault_of, end_behind}
use Rattle.sip_msg.proofs.Rows.{too_long}
use Rattle.sip_msg.proofs.Lies.{few}
use Rattle.sip_build.proofs.Spelt.{fields_from, before_fields, behind_fields, front_length, in_fields}
use Rattle.sip_laws.specs.Sent.{IsResponse, behind_first}
use Rattle.sip_laws.proofs.Trees.{is_named, all_named, Fields, count_trees}
use Rattle.sip_laws.proofs.Reading.{TreeFits}

-- a field of another kind changes nothing
find_without : (k : Kind) (before after : List FieldTree) (t : FieldTree) → is_named k t ≡ false → find (is_named k) (before ++ after) ≡ find (is_named k) (before ++ (t ∷ after))
find_without k [] after t ne = rw ne refl
find_without k (u ∷ before) after t ne = elim (cases_Bool (is_named k u)) [ inl y ↦ rw y refl | inr n ↦ rw n (find_without k before after t ne) ]

count_without : (k : Kind) (before after : List FieldTree) (t : FieldTree) → is_named k t ≡ false → count_by (is_named k) (before ++ after) ≡ count_by (is_named k) (before ++ (t ∷ after))
count_without k [] after t ne = let e : count_by (is_named k) (t ∷ after) ≡ 0 + count_by (is_named k) after = count_trees (is_named k) t after ∙ ap (λ (q : Bool). cond q 1 0 + count_by (is_named k) after) ne in omega (arith, e)
count_without k (u ∷ before) after t ne =
    let rest = count_without k before after t ne in
    omega (arith, rest, count_trees (is_named k) u (before ++ after), count_trees (is_named k) u (before ++ (t ∷ after)))

pub named_without : (k : Kind) (before after : List FieldTree) (t : FieldTree) → is_named k t ≡ false → all_named k (before ++ after) ≡ all_named k (before ++ (t ∷ after))
named_without k [] after t ne = rw ne refl
named_without k (u ∷ before) after t ne = elim (cases_Bool (is_named k u)) [ inl y ↦ rw y (ap (λ (x : List FieldTree). u ∷ x) (named_without k before after t ne)) | inr n ↦ rw n (named_without k before after t ne) ]

all_without : (P : FieldTree → Type 0) (before after : List FieldTree) (t : FieldTree) → AllByRecursion P (before ++ (t ∷ after)) → AllByRecursion P (before ++ after)
all_without P [] after t a = a.1
all_without P (u ∷ before) after t a = (a.0, all_without P before after t a.1)

pub find_behind : (k : Kind) (before after : List FieldTree) → find (is_named k) before ≡ None → find (is_named k) (before ++ after) ≡ find (is_named k) after
find_behind k [] after e = refl
find_behind k (u ∷ before) after e = elim (cases_Bool (is_named k u)) [ inl y ↦ absurd (none-some u (sym (rw y at e))) | inr n ↦ rw n (find_behind k before after (rw n at e)) ]

pub named_behind : (k : Kind) (before after : List FieldTree) → find (is_named k) before ≡ None → all_named k (before ++ after) ≡ all_named k after
named_behind k [] after e = refl
named_behind k (u ∷ before) after e = elim (cases_Bool (is_named k u)) [ inl y ↦ absurd (none-some u (sym (rw y at e))) | inr n ↦ rw n (named_behind k before after (rw n at e)) ]

pub some_count : (k : Kind) (ts : List FieldTree) (t : FieldTree) → find (is_named k) ts ≡ Some t → 1 ≤ count_by (is_named k) ts
some_count k [] t e = absurd (none-some t e)
some_count k (u ∷ ts) t e = elim (cases_Bool (is_named k u)) [
  | inl y ↦ let c : count_by (is_named k) (u ∷ ts) ≡ 1 + count_by (is_named k) ts = count_trees (is_named k) u ts ∙ ap (λ (q : Bool). cond q 1 0 + count_by (is_named k) ts) y in omega (arith, c)
  | inr n ↦
      let c : count_by (is_named k) (u ∷ ts) ≡ 0 + count_by (is_named k) ts = count_trees (is_named k) u ts ∙ ap (λ (q : Bool). cond q 1 0 + count_by (is_named k) ts) n in
      let rest = some_count k ts t (rw n at e) in
      omega (arith, c, rest)
]

pub all_behind : (P : FieldTree → Type 0) (before : List FieldTree) (here : FieldTree) (after : List FieldTree) → AllByRecursion P (before ++ (here ∷ after)) → P here × AllByRecursion P after
all_behind P [] here after a = (a.0, a.1)
all_behind P (u ∷ before) here after a = all_behind P before here after a.1

-- the first of a kind by its place
pub named_here : (k : Kind) (i : ℕ) (t : FieldTree) → is_of k (field_place i t) ≡ is_named k t
unfolding is_of
named_here k i t = refl

pub none_named : (k : Kind) (i : ℕ) (ts : List FieldTree) → find (is_of k) (field_places i ts) ≡ None → find (is_named k) ts ≡ None
none_named k i [] e = refl
none_named k i (t ∷ ts) e = elim (cases_Bool (is_named k t)) [
  | inl y ↦ let test = named_here k i t ∙ y in absurd (none-some (field_place i t) (sym (rw test at e)))
  | inr n ↦ let test = named_here k i t ∙ n in rw n (none_named k (i + length (field t)) ts (rw test at e))
]

pub behind_is : (k : Kind) (xs ys : List HeaderSpan) (f : HeaderSpan) → find (is_of k) xs ≡ None → is_of k f ≡ true → behind_first k (xs ++ (f ∷ ys)) ≡ ys
behind_is k [] ys f none is = rw is refl
behind_is k (x ∷ xs) ys f none is = elim (cases_Bool (is_of k x)) [ inl y ↦ absurd (none-some x (sym (rw y at none))) | inr n ↦ rw n (behind_is k xs ys f (rw n at none) is) ]

pub found_is : (k : Kind) (xs : List HeaderSpan) (f : HeaderSpan) → find (is_of k) xs ≡ Some f → is_of k f ≡ true
found_is k [] f e = absurd (none-some f e)
found_is k (x ∷ xs) f e = elim (cases_Bool (is_of k x)) [ inl y ↦ subst (λ (z : HeaderSpan). is_of k z ≡ true) (same_Some x f (rw y at e)) y | inr n ↦ found_is k xs f (rw n at e) ]

-- of another kind
pub other_kind : (k l : Kind) (t : FieldTree) → is_named l t ≡ true → is_same_kind k l ≡ false → is_named k t ≡ false
other_kind k l t h ne = Rattle.sip_laws.proofs.Tags.test_of k l t h ∙ ne

front_pieces : (a b c : List ℕ) → a ++ (b ++ c) ≡ (a ++ b) ++ c
front_pieces a b c = sym (append_assoc a b c)

pub front_is : (t : MessageTree) → take (start_place t).to (message t) ≡ t.skipped ++ t.start
front_is t =
    let rest = crlf ++ (fields t.fields ++ (crlf ++ t.body)) in
    ap (λ (x : List ℕ). take (start_place t).to x) (front_pieces t.skipped t.start rest) ∙ take_at (t.skipped ++ t.start) rest (start_place t).to (omega (arith, length-append t.skipped t.start))

pub start_of_tree : (b : List ℕ) (t : MessageTree) (s : Start) → IsMessageTree t → b ≡ message t → start_of b ≡ Some s → start_at (take (start_place t).to b) (start_place t).from ≡ Some s
unfolding start_of
start_of_tree b t s is e h =
    let l = bind_some (start_line b) _ s h in
    let same = same_Some l.0 (start_place t) (sym l.1 ∙ start_again b t is e) in
    subst (λ (x : Span). start_at (take x.to b) x.from ≡ Some s) same l.2

pub status_fits : (c : List ℕ) (ts : List FieldTree) (x : Fields ts) (s : Start) → IsResponse s → TreeFits c ts x s
status_fits c ts x (Request method uri) is = absurd is
status_fits c ts x (Status code reason) is = tt

-- the body that is left
pub left_body : (size : Option ℕ) (b : List ℕ) (body end : ℕ) (rest : List ℕ) → end ≡ end_behind b body size → end ≤ length b → length b ≡ body + length rest → IfSome size (λ n. n ≤ length (take (end - body) rest))
left_body None b body end rest e le h = tt
left_body (Some n) b body end rest e le h = omega (arith, e, le, h, length-take (end - body) rest)

pub not_long : (b : List ℕ) → fault_of b ≡ None → length b ≤ 8192
not_long b e = elim (cases_lt 8192 (length b)) [ inl more ↦ absurd (none-some TooLong (sym e ∙ too_long b more)) | inr few ↦ few ]

pub sizes : (t : MessageTree) → length (message t) ≡ fields_from t + (length (fields t.fields) + (2 + length t.body))
sizes t = ap (λ (x : List ℕ). length x) (in_fields t) ∙ omega (arith, front_length t, length-append (before_fields t) (fields t.fields ++ behind_fields t), length-append (fields t.fields) (behind_fields t), length-append crlf t.body)

pub body_there : (t : MessageTree) → drop (head_place t).body (message t) ≡ t.body
body_there t =
    let front = before_fields t ++ (fields t.fields ++ crlf) in
    let whole : message t ≡ front ++ t.body = in_fields t ∙ regroup (before_fields t) (fields t.fields) crlf t.body in
    let len : length front ≡ (head_place t).body = omega (arith, front_length t, length-append (before_fields t) (fields t.fields ++ crlf), length-append (fields t.fields) crlf) in
    ap (λ (x : List ℕ). drop (head_place t).body x) whole ∙ drop_at front t.body (head_place t).body len
  where
    regroup : (p f c r : List ℕ) → p ++ (f ++ (c ++ r)) ≡ (p ++ (f ++ c)) ++ r
    regroup p f c r = simp append_assoc
