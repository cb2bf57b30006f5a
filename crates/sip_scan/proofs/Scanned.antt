-- The exits of a scan.
use Rattle.std.proofs.Common.{◌≡◌, ℕ, zero, suc, ◌+◌, ◌-◌, ◌<◌, ◌≤◌, true, false, List, length, take, get_or, refl, sym, ap, ◌∙◌, inl, inr, arith, Some, None, Ok, Err}
use Rattle.std.specs.Prelude.{slice_range}
use Rattle.std.proofs.lemmas.List.{take_all}
use Rattle.std.proofs.lemmas.Bool.{false≢true, cases_Bool, cases_lt, lt-ltb, le-ltb}
use Rattle.std.proofs.lemmas.Option.{same_Some, cond_some, get_or_from_slice_get}
use Rattle.sip_words.specs.declared.Span.{Span}
use Rattle.sip_words.specs.Words.{stands}
use Rattle.sip_words.proofs.Steps.{bind_some, stands_is}
use Rattle.sip_scan.specs.declared.field.HeaderSpan.{HeaderSpan}
use Rattle.sip_scan.specs.declared.ScanFault.TheVariants.{NotSip, BadHeader, TooManyHeaders}
use Rattle.sip_scan.specs.Lines.{is_plain, plain_end, is_crlf, line_end, skipped, first_crlf, speaks_sip, start_line}
use Rattle.sip_scan.specs.Field.{fields_at}
use Rattle.sip_scan.specs.Head.{head, head_behind, scanned}
use Rattle.sip_scan.proofs.Runs.{plain_stops, plain_goes, plain_all, crlf_here, crlf_later}
use Rattle.sip_scan.proofs.Turns.{line_is, line_past}

pub not_sip : (text : List ℕ) → start_line text ≡ None → Err NotSip ≡ scanned text
unfolding scanned
not_sip text start = rw start refl

pub bad_line : (text : List ℕ) (s : Span) → start_line text ≡ Some s → line_end text s.from ≡ None → Err BadHeader ≡ scanned text
unfolding scanned head_behind
bad_line text s start line = rw (start, line) refl

pub bad_field : (text : List ℕ) (s : Span) (e : ℕ) → start_line text ≡ Some s → line_end text s.from ≡ Some e → fields_at text (e + 2) ≡ None → Err BadHeader ≡ scanned text
unfolding scanned head_behind
bad_field text s e start line fields = rw (start, line, fields) refl

pub behind_is : (text : List ℕ) (s : Span) (e : ℕ) (all : List HeaderSpan) (end : ℕ) → line_end text s.from ≡ Some e → fields_at text (e + 2) ≡ Some (all, end) → head_behind text s ≡ Some (head s all (end + 2))
unfolding head_behind
behind_is text s e all end line fields = rw (line, fields) refl

pub too_many : (text : List ℕ) (s : Span) (e : ℕ) (all : List HeaderSpan) (end : ℕ) → start_line text ≡ Some s → line_end text s.from ≡ Some e → fields_at text (e + 2) ≡ Some (all, end) → 128 < length all → Err TooManyHeaders ≡ scanned text
unfolding scanned
too_many text s e all end start line fields many = rw (start, behind_is text s e all end line fields, lt-ltb 128 (length all) many) refl

pub is_head : (text : List ℕ) (s : Span) (e : ℕ) (all : List HeaderSpan) (end : ℕ) → start_line text ≡ Some s → line_end text s.from ≡ Some e → fields_at text (e + 2) ≡ Some (all, end) → length all ≤ 128 → Ok (head s all (end + 2)) ≡ scanned text
unfolding scanned
is_head text s e all end start line fields few = rw (start, behind_is text s e all end line fields, le-ltb 128 (length all) few) refl

-- where at most 128 are counted, all are kept
pub kept : (items all : List HeaderSpan) (count : ℕ) → items ≡ take 128 all → count ≡ length all → count ≤ 128 → items ≡ all
kept items all count is counted few = is ∙ take_all 128 all (omega arith)

plain_here : (text : List ℕ) (i n : ℕ) → plain_end text i ≡ i + suc n → (i < length text) × (is_plain (get_or text i 0) ≡ true)
plain_here text i n h = elim (cases_lt i (length text)) [
  | inr past ↦ let e = plain_all text i past in absurd (omega arith)
  | inl lt ↦ elim (cases_Bool (is_plain (get_or text i 0))) [ inl plain ↦ (lt, plain) | inr stop ↦ let e = plain_stops text i lt stop in absurd (omega arith) ]
]

-- no CRLF stands at a plain byte
not_crlf : (text : List ℕ) (i : ℕ) → is_plain (get_or text i 0) ≡ true → is_crlf text i ≡ false
unfolding is_crlf
not_crlf text i plain = elim (cases_Bool (stands 13 text i)) [
  | inl cr ↦ let is = get_or_from_slice_get text i 13 0 (stands_is 13 text i cr) in absurd (false≢true (rw is at plain))
  | inr none ↦ rw none refl
]

-- a line ends at the first CRLF
pub line_first : (n : ℕ) (text : List ℕ) (i e : ℕ) → plain_end text i ≡ e → e ≡ i + n → is_crlf text e ≡ true → e < length text → first_crlf text i ≡ Some e
line_first zero text i e run len at_crlf lt = let same : i ≡ e = omega arith in rw same (crlf_here text e lt at_crlf)
line_first (suc n) text i e run len at_crlf lt =
    let here = plain_here text i n (run ∙ len) in
    let later = crlf_later text i here.0 (not_crlf text i here.1) in
    let goes = plain_goes text i here.0 here.1 in
    sym later ∙ line_first n text (i + 1) e (goes ∙ run) (omega arith) at_crlf lt

-- the start line
pub start_is : (text : List ℕ) (s : Span) → start_line text ≡ Some s → (s.from ≡ skipped text) × (first_crlf text s.from ≡ Some s.to) × (speaks_sip (slice_range text s.from s.to) ≡ true)
unfolding start_line
start_is text s h =
    let end = bind_some (first_crlf text (skipped text)) _ s h in
    let c = cond_some (speaks_sip (slice_range text (skipped text) end.0)) _ s end.2 in
    let from : skipped text ≡ s.from = ap (λ (x : Span). x.from) c.1 in
    let to : end.0 ≡ s.to = ap (λ (x : Span). x.to) c.1 in
    (sym from, rw (← from, ← to) end.1, rw (← from, ← to) c.0)

pub start_ends : (text : List ℕ) (s : Span) (e : ℕ) → start_line text ≡ Some s → line_end text s.from ≡ Some e → e ≡ s.to
start_ends text s e start line =
    let is = line_is text s.from e line in
    let past = line_past text s.from e line in
    let first = line_first (e - s.from) text s.from e is.0 (omega (arith, past)) is.1 past.1 in
    same_Some e s.to (sym first ∙ (start_is text s start).1)
