-- Each row of the table of faults, once the rows above it don't hold.
use Rattle.std.proofs.Common.{◌≡◌, ℕ, ◌<◌, ◌≤◌, ◌-◌, true, false, List, length, take, refl, subst, sym, ap, ◌∙◌, inl, inr, Option, Some, None, Result, Ok, Err}
use Rattle.std.specs.Prelude.{nat_lt, IfOk, IfErr}
use Rattle.std.proofs.lemmas.Bool.{lt-ltb, le-ltb, cases_Bool}
use Rattle.sip_words.specs.declared.Span.{Span}
use Rattle.sip_scan.specs.declared.Head.{Head}
use Rattle.sip_scan.specs.declared.ScanFault.TheVariants as scan_fault
use Rattle.sip_scan.specs.Lines.{start_line}
use Rattle.sip_scan.specs.Head.{head_behind, counted, scanned}
use Rattle.sip_msg.specs.declared.message.Message.{Message}
use Rattle.sip_msg.specs.declared.message.MsgFault.{MsgFault}
use Rattle.sip_msg.specs.declared.message.MsgFault.TheVariants.{NotSip, BadStartLine, BadHeader, Missing, Repeated, BadField, ShortBody, TooManyHeaders, TooLong}
use Rattle.sip_msg.specs.declared.start.Start.{Start}
use Rattle.sip_msg.specs.declared.values.Values.{Values}
use Rattle.sip_msg.specs.Start.{start_at, start_of}
use Rattle.sip_msg.specs.Fields.{is_missing, is_repeated}
use Rattle.sip_msg.specs.Start.{IsStartBetween}
use Rattle.sip_msg.specs.StartGrammar.{IsStartAt}
use Rattle.sip_msg.specs.Places.{PartsLie, MessageLiesIn}
use Rattle.sip_msg.specs.Values.{values_of}
use Rattle.sip_scan.specs.Head as scan
use Rattle.sip_msg.proofs.Complete.{start_stands}
use Rattle.sip_msg.specs.Table.{head_of, is_above, first_row, fault_of, later_rows, HasMessageParts, Reads}

pub too_long : (b : List ℕ) → 8192 < length b → fault_of b ≡ Some TooLong
unfolding fault_of
too_long b h = let t : nat_lt 8192 (length b) ≡ true = lt-ltb _ _ h in rw t refl

pub not_sip : (b : List ℕ) → length b ≤ 8192 → start_line b ≡ None → fault_of b ≡ Some NotSip
unfolding fault_of
not_sip b h none = let t : nat_lt 8192 (length b) ≡ false = le-ltb _ _ h in rw (t, none) refl

start_is : (b : List ℕ) (line : Span) → start_line b ≡ Some line → start_of b ≡ start_at (take line.to b) line.from
unfolding start_of
start_is b line h = rw h refl

pub bad_start : (b : List ℕ) (line : Span) → length b ≤ 8192 → start_line b ≡ Some line → start_at (take line.to b) line.from ≡ None → fault_of b ≡ Some BadStartLine
unfolding fault_of
bad_start b line h some none =
    let t : nat_lt 8192 (length b) ≡ false = le-ltb _ _ h in
    let start : start_of b ≡ None = start_is b line some ∙ none in
    rw (t, some, start) refl

-- the first three rows don't hold
pub record Begins (b : List ℕ) (line : Span) (start : Start) : Type 0 where
  pub short : nat_lt 8192 (length b) ≡ false
  pub line_is : start_line b ≡ Some line
  pub start_is : start_of b ≡ Some start

pub begins : (b : List ℕ) (line : Span) (start : Start) → length b ≤ 8192 → start_line b ≡ Some line → start_at (take line.to b) line.from ≡ Some start → Begins b line start
begins b line start h some is = record { short = le-ltb _ _ h; line_is = some; start_is = start_is b line some ∙ is }

head_is : (b : List ℕ) (line : Span) → start_line b ≡ Some line → head_of b ≡ head_behind b line
unfolding head_of
head_is b line h = rw h refl

scanned_is : (b : List ℕ) (line : Span) → start_line b ≡ Some line → scanned b ≡ counted (head_of b)
unfolding scanned
scanned_is b line h = rw (head_is b line h) (rw h refl)

none_of : (o : Option Head) → counted o ≡ Err scan_fault.BadHeader → o ≡ None
none_of None h = refl
none_of (Some head) h = elim (cases_Bool (nat_lt 128 (length head.fields.items))) [
  | inl t ↦ let e : Err scan_fault.TooManyHeaders ≡ Err scan_fault.BadHeader = rw t at h in absurd (cc)
  | inr f ↦ let e : Ok head ≡ Err scan_fault.BadHeader = rw f at h in absurd (cc)
]

pub never : (o : Option Head) → counted o ≡ Err scan_fault.NotSip → ⊥
never None h = cc
never (Some head) h = elim (cases_Bool (nat_lt 128 (length head.fields.items))) [
  | inl t ↦ let e : Err scan_fault.TooManyHeaders ≡ Err scan_fault.NotSip = rw t at h in cc
  | inr f ↦ let e : Ok head ≡ Err scan_fault.NotSip = rw f at h in cc
]

many_of : (o : Option Head) → counted o ≡ Err scan_fault.TooManyHeaders → (h : Head) × (o ≡ Some h) × (nat_lt 128 (length h.fields.items) ≡ true)
many_of None h = absurd (cc)
many_of (Some head) h = elim (cases_Bool (nat_lt 128 (length head.fields.items))) [
  | inl t ↦ (head, refl, t)
  | inr f ↦ let e : Ok head ≡ Err scan_fault.TooManyHeaders = rw f at h in absurd (cc)
]

few_of : (o : Option Head) (h : Head) → counted o ≡ Ok h → (o ≡ Some h) × (nat_lt 128 (length h.fields.items) ≡ false)
few_of None head h = absurd (cc)
few_of (Some other) head h = elim (cases_Bool (nat_lt 128 (length other.fields.items))) [
  | inl t ↦ let e : Err scan_fault.TooManyHeaders ≡ Ok head = rw t at h in absurd (cc)
  | inr f ↦ let e : Ok other ≡ Ok head = rw f at h in let same : other ≡ head = cc in (ap (λ (x : Head). Some x) same, subst (λ (x : Head). nat_lt 128 (length x.fields.items) ≡ false) same f)
]

pub bad_header : (b : List ℕ) (line : Span) (start : Start) → Begins b line start → scanned b ≡ Err scan_fault.BadHeader → fault_of b ≡ Some BadHeader
unfolding fault_of
bad_header b line start is h =
    let short = is.short in let some = is.line_is in let begun = is.start_is in
    let none : head_of b ≡ None = none_of (head_of b) (sym (scanned_is b line is.line_is) ∙ h) in
    rw (short, some, begun, none) refl

pub never_not_sip : (b : List ℕ) (line : Span) (start : Start) → Begins b line start → scanned b ≡ Err scan_fault.NotSip → ⊥
never_not_sip b line start is h = never (head_of b) (sym (scanned_is b line is.line_is) ∙ h)

pub too_many : (b : List ℕ) (line : Span) (start : Start) → Begins b line start → scanned b ≡ Err scan_fault.TooManyHeaders → fault_of b ≡ Some TooManyHeaders
unfolding fault_of
too_many b line start is h =
    let short = is.short in let some = is.line_is in let begun = is.start_is in
    let m = many_of (head_of b) (sym (scanned_is b line is.line_is) ∙ h) in
    let head : head_of b ≡ Some m.0 = m.1 in
    let many : nat_lt 128 (length m.0.fields.items) ≡ true = m.2 in
    rw (short, some, begun, head, many) refl

pub is_head : (b : List ℕ) (line : Span) (start : Start) (h : Head) → Begins b line start → scanned b ≡ Ok h → head_of b ≡ Some h
is_head b line start h is ok = (few_of (head_of b) h (sym (scanned_is b line is.line_is) ∙ ok)).0

-- the first five rows don't hold: the others decide
pub later : (b : List ℕ) (line : Span) (start : Start) (h : Head) → Begins b line start → scanned b ≡ Ok h → fault_of b ≡ first_row (later_rows b start h)
unfolding fault_of
later b line start h is ok =
    let short = is.short in let some = is.line_is in let begun = is.start_is in
    let f = few_of (head_of b) h (sym (scanned_is b line is.line_is) ∙ ok) in
    let head : head_of b ≡ Some h = f.0 in
    let few : nat_lt 128 (length h.fields.items) ≡ false = f.1 in
    rw (short, some, begun, head, few) refl

pub missing : (b : List ℕ) (start : Start) (h : Head) → is_missing h.fields.items ≡ true → first_row (later_rows b start h) ≡ Some Missing
missing b start h m = rw m refl

pub repeated : (b : List ℕ) (start : Start) (h : Head) → is_missing h.fields.items ≡ false → is_repeated h.fields.items ≡ true → first_row (later_rows b start h) ≡ Some Repeated
repeated b start h m r = rw (m, r) refl

pub bad_field : (b : List ℕ) (start : Start) (h : Head) → is_missing h.fields.items ≡ false → is_repeated h.fields.items ≡ false → values_of b start h.fields.items ≡ None → first_row (later_rows b start h) ≡ Some BadField
bad_field b start h m r none = rw (m, r, none) refl

pub short_body : (b : List ℕ) (start : Start) (h : Head) (v : Values) → is_missing h.fields.items ≡ false → is_repeated h.fields.items ≡ false → values_of b start h.fields.items ≡ Some v → is_above (length b - h.body) v.content_length ≡ true → first_row (later_rows b start h) ≡ Some ShortBody
short_body b start h v m r some t = rw (m, r, some, t) refl

pub no_later : (b : List ℕ) (start : Start) (h : Head) (v : Values) → is_missing h.fields.items ≡ false → is_repeated h.fields.items ≡ false → values_of b start h.fields.items ≡ Some v → is_above (length b - h.body) v.content_length ≡ false → first_row (later_rows b start h) ≡ None
no_later b start h v m r some f = rw (m, r, some, f) refl

pub message_found : {U : Type 0} (b : List ℕ) (line : Span) (start : Start) (h : Head) (m : Message) (r : Result U MsgFault) → Begins b line start → scanned b ≡ Ok h → IfOk r (λ _. first_row (later_rows b start h) ≡ None) → IfOk r (λ _. m.head ≡ h) → IfOk r (λ _. m.start ≡ start) → IfOk r (λ _. HasMessageParts b m) → IfOk r (λ _. Reads b m)
message_found b line start h m (Err f) is ok none head begun parts = tt
message_found b line start h m (Ok u) is ok none head begun parts = record {
  no_fault = later b line start h is ok ∙ none;
  head = is_head b line start h is ok ∙ ap (λ (x : Head). Some x) (sym head);
  start = is.start_is ∙ ap (λ (x : Start). Some x) (sym begun);
  parts = parts;
}

pub fault_found : {U : Type 0} (b : List ℕ) (line : Span) (start : Start) (h : Head) (r : Result U MsgFault) → Begins b line start → scanned b ≡ Ok h → IfErr r (λ f. first_row (later_rows b start h) ≡ Some f) → IfErr r (λ f. fault_of b ≡ Some f)
fault_found b line start h (Ok u) is ok fault = tt
fault_found b line start h (Err f) is ok fault = later b line start h is ok ∙ fault

pub message_lies : {U : Type 0} (b : List ℕ) (line : Span) (start : Start) (h : Head) (m : Message) (r : Result U MsgFault) → Begins b line start → scanned b ≡ Ok h → scan.HeadLiesIn b h → IsStartBetween line.from line.to start → IfOk r (λ _. m.head ≡ h) → IfOk r (λ _. m.start ≡ start) → IfOk r (λ _. PartsLie b m) → IfOk r (λ _. MessageLiesIn b m)
message_lies b line start h m (Err f) is ok head_lies between head begun parts = tt
message_lies b line start h m (Ok u) is ok head_lies between head begun parts =
    let stands : line ≡ m.head.start = start_stands b line h (sym (head_is b line is.line_is) ∙ is_head b line start h is ok) ∙ ap (λ (x : Head). x.start) (sym head) in
    record {
      head = subst (λ (x : Head). scan.HeadLiesIn b x) (sym head) head_lies;
      start = subst (λ (x : Start). IsStartBetween m.head.start.from m.head.start.to x) (sym begun) (subst (λ (l : Span). IsStartBetween l.from l.to start) stands between);
      parts = parts;
    }

pub start_spelled : {U : Type 0} (b : List ℕ) (line : Span) (start : Start) (h : Head) (m : Message) (r : Result U MsgFault) → Begins b line start → scanned b ≡ Ok h → IsStartAt (take line.to b) line.from start → IfOk r (λ _. m.head ≡ h) → IfOk r (λ _. m.start ≡ start) → IfOk r (λ _. IsStartAt (take m.head.start.to b) m.head.start.from m.start)
start_spelled b line start h m (Err f) is ok spelled head begun = tt
start_spelled b line start h m (Ok u) is ok spelled head begun =
    let stands : line ≡ m.head.start = start_stands b line h (sym (head_is b line is.line_is) ∙ is_head b line start h is ok) ∙ ap (λ (x : Head). x.start) (sym head) in
    subst (λ (x : Start). IsStartAt (take m.head.start.to b) m.head.start.from x) (sym begun) (subst (λ (l : Span). IsStartAt (take l.to b) l.from start) stands spelled)
