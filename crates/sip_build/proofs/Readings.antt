-- Where the parts of a reading lie.
use Rattle.std.proofs.Common.{◌≡◌, ℕ, ◌+◌, ◌-◌, ◌<◌, ◌≤◌, Bool, inl, inr, List, [], ◌∷◌, length, take, refl, subst, arith, Some, None, length-take}
use Rattle.std.specs.Prelude.{All, Option, IfSome}
use Rattle.std.specs.List.{find, AllByRecursion}
use Rattle.std.proofs.lemmas.List.Elements.{recursion_from_All, All-from_recursion}
use Rattle.std.proofs.lemmas.Bool.{cases_Bool}
use Rattle.std.proofs.lemmas.Option.{same_Some, none-some}
use Rattle.sip_words.specs.declared.Span.{Span}
use Rattle.sip_words.specs.Spans.{IsBetween, IsWithin}
use Rattle.sip_words.proofs.Steps.{bind_some}
use Rattle.sip_fields.specs.declared.name_addr.NameAddr.{NameAddr}
use Rattle.sip_fields.specs.Via.{IsViaBetween}
use Rattle.sip_fields.specs.NameAddr.{IsNameAddrBetween}
use Rattle.sip_scan.specs.declared.field.HeaderSpan.{HeaderSpan}
use Rattle.sip_scan.specs.declared.field.Kind.{Kind}
use Rattle.sip_scan.specs.declared.field.Kind.TheVariants as kind
use Rattle.sip_scan.specs.Field.{IsField}
use Rattle.sip_msg.specs.declared.basis.Basis.{Basis}
use Rattle.sip_msg.specs.declared.message.Message.{Message}
use Rattle.sip_msg.specs.declared.start.Start.{Start}
use Rattle.sip_msg.specs.declared.start.Start.TheVariants.{Request, Status}
use Rattle.std.specs.Result.{result_ok}
use Rattle.sip_scan.specs.Lines.{start_line}
use Rattle.sip_scan.specs.Head.{scanned}
use Rattle.sip_msg.specs.Basis.{basis_in, basis_of, answerable_at}
use Rattle.sip_scan.specs.Head.{LieFrom}
use Rattle.sip_msg.specs.Fields.{is_of, first}
use Rattle.sip_msg.proofs.Firsts.{found_is}
use Rattle.sip_msg.specs.Places.{InFirst}
use Rattle.sip_msg.specs.Start.{IsStartBetween}
use Rattle.sip_msg.specs.Table.{Reads}
use Rattle.sip_msg.specs.Values.{via_of}
use Rattle.sip_msg.proofs.Lies.{lies, basis_lies}
use Rattle.sip_build.specs.Parts.{uri_of}
use Rattle.sip_build.specs.Writing.{FieldLies, FieldsLie, EndsIn}
use Rattle.sip_build.proofs.Found.{found_lies}

field_lies : (b : List ℕ) (f : HeaderSpan) → IsField b f → FieldLies b f
field_lies b f is = record { low = omega (arith, is.name_first, is.name, is.colon); value = is.value; high = omega (arith, is.end); within = is.within }

every_one : {X : Type 0} (P Q : X → Type 0) → ((x : X) → P x → Q x) → (xs : List X) → AllByRecursion P xs → AllByRecursion Q xs
every_one P Q f [] a = tt
every_one P Q f (x ∷ xs) a = (f x a.0, every_one P Q f xs a.1)

all_lie : (b : List ℕ) (fields : List HeaderSpan) → All (IsField b) fields → FieldsLie b fields
all_lie b fields a = All-from_recursion (FieldLies b) fields (every_one (IsField b) (FieldLies b) (field_lies b) fields (recursion_from_All (IsField b) fields a))

pub fields_lie : (b : List ℕ) (m : Message) → Reads b m → FieldsLie b m.head.fields.items
fields_lie b m r = all_lie b m.head.fields.items (lies b m r).head.each

longer : (b : List ℕ) (f : HeaderSpan) → FieldLies (take 8192 b) f → FieldLies b f
longer b f h = record { low = h.low; value = h.value; high = h.high; within = omega (arith, h.within, length-take 8192 b) }

pub basis_fields_lie : (b : List ℕ) (x : Basis) → basis_of b ≡ Some x → FieldsLie b x.head.fields.items
basis_fields_lie b x e =
    let fields = x.head.fields.items in
    let front = all_lie (take 8192 b) fields (basis_lies b x e).head.each in
    All-from_recursion (FieldLies b) fields (every_one (FieldLies (take 8192 b)) (FieldLies b) (longer b) fields (recursion_from_All (FieldLies (take 8192 b)) fields front))

if_some : {X : Type 0} (P Q : X → Type 0) → ((x : X) → P x → Q x) → (o : Option X) → IfSome o P → IfSome o Q
if_some P Q f None h = tt
if_some P Q f (Some x) h = f x h

-- what is said of the first field of a kind
at_first : (k : Kind) (fields : List HeaderSpan) (P : ℕ → ℕ → Type 0) (f : HeaderSpan) → first k fields ≡ Some f → InFirst k fields P → P f.value.from f.value.to
at_first k fields P f e h = let Q : Option HeaderSpan → Type 0 = λ o. IfSome o (λ g. P g.value.from g.value.to) in subst Q e h

pub via_field : (b : List ℕ) (fields : List HeaderSpan) (m : Message) → via_of b fields ≡ Some m.via → (f : HeaderSpan) × (first kind.Via fields ≡ Some f)
unfolding via_of
via_field b fields m e = let f = bind_some (first kind.Via fields) _ m.via e in (f.0, f.1)

via_between : (b : List ℕ) (m : Message) → Reads b m → (f : HeaderSpan) × FieldLies b f × IsViaBetween f.value.from f.value.to m.via
via_between b m r =
    let fields = m.head.fields.items in
    let f = via_field b fields m r.parts.via in
    (f.0, found_lies b kind.Via fields f.0 (fields_lie b m r) f.1, at_first kind.Via fields (λ i j. IsViaBetween i j m.via) f.0 f.1 (lies b m r).parts.via)

within : (b : List ℕ) (f : HeaderSpan) (s : Span) → FieldLies b f → IsBetween f.value.from f.value.to s → IsWithin b s
within b f s l is = record { order = is.order; end = omega (arith, is.high, l.high, l.within) }

pub via_within : (b : List ℕ) (m : Message) → Reads b m → IsWithin b m.via.whole
via_within b m r = let v = via_between b m r in within b v.0 m.via.whole v.1 v.2.whole

pub branch_within : (b : List ℕ) (m : Message) → Reads b m → IfSome m.via.branch (IsWithin b)
branch_within b m r = let v = via_between b m r in if_some (IsBetween v.0.value.from v.0.value.to) (IsWithin b) (λ s h. within b v.0 s v.1 h) m.via.branch v.2.branch

uri_lies : (b : List ℕ) (line : Span) (start : Start) → line.to ≤ length b → line.from ≤ line.to → IsStartBetween line.from line.to start → IsWithin b (uri_of start)
uri_lies b line (Request method uri) le order h = record { order = h.1.order; end = omega (arith, h.1.high) }
uri_lies b line (Status code reason) le order h = record { order = omega arith; end = omega (arith, h.order, h.high) }

pub uri_within : (b : List ℕ) (m : Message) → Reads b m → IsWithin b (uri_of m.start)
uri_within b m r = let l = lies b m r in uri_lies b m.head.start m.start l.head.start.end l.head.start.order l.start

pub body_low : (b : List ℕ) (m : Message) → Reads b m → 2 ≤ m.head.body
body_low b m r = let l = lies b m r in omega (arith, l.head.body_low)

pub line_low : (b : List ℕ) (m : Message) → Reads b m → m.head.start.to + 4 ≤ length b
line_low b m r = let l = lies b m r in omega (arith, l.head.body_low, l.head.body_high)

pub end_within : (b : List ℕ) (m : Message) → Reads b m → m.end ≤ length b
end_within b m r = (lies b m r).parts.end_high

-- the value of To ends in its field
ends_there : (b : List ℕ) (n : NameAddr) (o : Option HeaderSpan) → ((f : HeaderSpan) → o ≡ Some f → FieldLies b f) → IfSome o (λ f. IsNameAddrBetween f.value.from f.value.to n) → IfSome o (EndsIn n)
ends_there b n None l h = tt
ends_there b n (Some f) l h = let lie = l f refl in (omega (arith, lie.low, h.whole.low, h.whole.order), omega (arith, lie.high, h.whole.high))

pub to_ends : (b : List ℕ) (m : Message) → Reads b m → IfSome (first kind.To m.head.fields.items) (EndsIn m.to)
to_ends b m r = ends_there b m.to (first kind.To m.head.fields.items) (λ f e. found_lies b kind.To m.head.fields.items f (fields_lie b m r) e) (lies b m r).parts.to

basis_via : (b : List ℕ) (x : Basis) → basis_of b ≡ Some x → via_of (take 8192 b) x.head.fields.items ≡ Some x.via
unfolding basis_in
basis_via b x e =
    let front = take 8192 b in
    let line = bind_some (start_line front) _ x e in
    let version = bind_some (answerable_at (take line.0.to front) line.0.from) _ x line.2 in
    let head = bind_some (result_ok (scanned front)) _ x version.2 in
    let via = bind_some (via_of front head.0.fields.items) _ x head.2 in
    let same = same_Some _ x via.2 in
    rw (← same) via.1

basis_via_between : (b : List ℕ) (x : Basis) → basis_of b ≡ Some x → (f : HeaderSpan) × FieldLies b f × IsViaBetween f.value.from f.value.to x.via
unfolding via_of
basis_via_between b x e =
    let fields = x.head.fields.items in
    let f = bind_some (first kind.Via fields) _ x.via (basis_via b x e) in
    (f.0, found_lies b kind.Via fields f.0 (basis_fields_lie b x e) f.1, at_first kind.Via fields (λ i j. IsViaBetween i j x.via) f.0 f.1 (basis_lies b x e).via)

pub basis_branch_within : (b : List ℕ) (x : Basis) → basis_of b ≡ Some x → IfSome x.via.branch (IsWithin b)
basis_branch_within b x e = let v = basis_via_between b x e in if_some (IsBetween v.0.value.from v.0.value.to) (IsWithin b) (λ s h. within b v.0 s v.1 h) x.via.branch v.2.branch

-- the fields lie between the start line and the empty line
lie_order : (b : List ℕ) (fields : List HeaderSpan) (i j : ℕ) → AllByRecursion (FieldLies b) fields → LieFrom i fields j → i ≤ j
lie_order b [] i j a h = omega arith
lie_order b (f ∷ fields) i j a h = let rest = lie_order b fields f.whole.to j a.1 h.1 in omega (arith, h.0, a.0.low, a.0.value, a.0.high)

found_between : (b : List ℕ) (p : HeaderSpan → Bool) (fields : List HeaderSpan) (i j : ℕ) (f : HeaderSpan) → AllByRecursion (FieldLies b) fields → LieFrom i fields j → find p fields ≡ Some f → (i ≤ f.whole.from) × (f.whole.to ≤ j)
found_between b p [] i j f a h e = absurd (none-some f e)
found_between b p (g ∷ fields) i j f a h e = elim (cases_Bool (p g)) [
  | inl t ↦ let here : g ≡ f = same_Some g f (rw t at e) in let rest = lie_order b fields g.whole.to j a.1 h.1 in let P : HeaderSpan → Type 0 = λ x. (i ≤ x.whole.from) × (x.whole.to ≤ j) in subst P here (omega (arith, h.0), omega arith)
  | inr n ↦ let later = found_between b p fields g.whole.to j f a.1 h.1 (rw n at e) in (omega (arith, later.0, h.0, a.0.low, a.0.value, a.0.high), later.1)
]

-- the first Via field, where it stands, and where its first value lies
pub record ViaStands (b : List ℕ) (m : Message) (f : HeaderSpan) : Type 0 where
  pub first : first kind.Via m.head.fields.items ≡ Some f
  pub low : m.head.start.to + 2 ≤ f.whole.from
  pub colon : f.whole.from < f.value.from
  pub value : f.value.to + 2 ≡ f.whole.to
  pub high : f.whole.to + 2 ≤ m.end
  pub between : IsViaBetween f.value.from f.value.to m.via

pub via_stands : (b : List ℕ) (m : Message) → Reads b m → (f : HeaderSpan) × ViaStands b m f
via_stands b m r =
    let fields = m.head.fields.items in
    let l = lies b m r in
    let f = via_field b fields m r.parts.via in
    let is = found_is b kind.Via fields f.0 l.head.each f.1 in
    let where_it_is = found_between b (is_of kind.Via) fields (m.head.start.to + 2) (m.head.body - 2) f.0 (recursion_from_All (FieldLies b) fields (fields_lie b m r)) l.head.fields f.1 in
    let low = l.head.body_low in
    let end = l.parts.end_low in (
      f.0,
      record {
        first = f.1;
        low = where_it_is.0;
        colon = omega (arith, is.name_first, is.name, is.colon);
        value = is.end;
        high = omega (arith, where_it_is.1);
        between = at_first kind.Via fields (λ i j. IsViaBetween i j m.via) f.0 f.1 l.parts.via;
      },
    )

uri_low : (line : Span) (start : Start) → line.from ≤ line.to → IsStartBetween line.from line.to start → (uri_of start).from ≤ line.to
uri_low line (Request method uri) order h = omega (arith, h.1.order, h.1.high)
uri_low line (Status code reason) order h = omega (arith, h.order, h.high)

pub uri_end : (b : List ℕ) (m : Message) → Reads b m → (uri_of m.start).from ≤ m.head.start.to
uri_end b m r = let l = lies b m r in uri_low m.head.start m.start l.head.start.order l.start
