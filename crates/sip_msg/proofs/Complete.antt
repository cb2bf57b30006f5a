-- Which fields stand, once none is missing or repeated; and where the start line of a head stands.
use Rattle.std.proofs.Common.{◌≡◌, ℕ, ◌+◌, ◌≤◌, ◌==◌, Bool, true, false, List, refl, ap, arith, Some, nat_lt}
use Rattle.std.proofs.lemmas.Bool.Decides.{nat_tests}
use Rattle.sip_words.specs.declared.Span.{Span}
use Rattle.sip_words.specs.Bytes.{◌or◌}
use Rattle.sip_words.proofs.Steps.{bind_some}
use Rattle.std.proofs.lemmas.Option.{same_Some}
use Rattle.sip_scan.specs.declared.Head.{Head}
use Rattle.sip_scan.specs.declared.field.HeaderSpan.{HeaderSpan}
use Rattle.sip_scan.specs.declared.field.Kind.TheVariants as kind
use Rattle.sip_scan.specs.Lines.{line_end}
use Rattle.sip_scan.specs.Field.{fields_at}
use Rattle.sip_scan.specs.Head.{head_behind}
use Rattle.sip_msg.specs.Fields.{count, is_missing, is_repeated}
use Rattle.sip_msg.specs.Places.{IsComplete}

pub neither : (a b : Bool) → (a or b) ≡ false → (a ≡ false) × (b ≡ false)
neither true b h = absurd (cc)
neither false b h = (refl, h)

some_stand : (n : ℕ) → (n == 0) ≡ false → 1 ≤ n
some_stand n h = grind (arith, nat_tests)

few_stand : (n : ℕ) → nat_lt 1 n ≡ false → n ≤ 1
few_stand n h = grind (arith, nat_tests)

once : (n : ℕ) → (n == 0) ≡ false → nat_lt 1 n ≡ false → n ≡ 1
once n h k = omega (arith, some_stand n h, few_stand n k)

pub complete : (fields : List HeaderSpan) → is_missing fields ≡ false → is_repeated fields ≡ false → IsComplete fields
unfolding is_missing is_repeated
complete fields m r =
    let a = neither (count kind.Via fields == 0) _ m in
    let b = neither (count kind.From fields == 0) _ a.1 in
    let c = neither (count kind.To fields == 0) _ b.1 in
    let d = neither (count kind.CallId fields == 0) _ c.1 in
    let e = neither (nat_lt 1 (count kind.From fields)) _ r in
    let f = neither (nat_lt 1 (count kind.To fields)) _ e.1 in
    let g = neither (nat_lt 1 (count kind.CallId fields)) _ f.1 in
    let h = neither (nat_lt 1 (count kind.CSeq fields)) _ g.1 in
    let i = neither (nat_lt 1 (count kind.MaxForwards fields)) _ h.1 in
    record {
      via = some_stand (count kind.Via fields) a.0;
      from = once (count kind.From fields) b.0 e.0;
      to = once (count kind.To fields) c.0 f.0;
      call_id = once (count kind.CallId fields) d.0 g.0;
      cseq = once (count kind.CSeq fields) d.1 h.0;
      max_forwards = few_stand (count kind.MaxForwards fields) i.0;
      content_length = few_stand (count kind.ContentLength fields) i.1;
    }

pub start_stands : (b : List ℕ) (line : Span) (h : Head) → head_behind b line ≡ Some h → line ≡ h.start
unfolding head_behind
start_stands b line h e =
    let end = bind_some (line_end b line.from) _ h e in
    let fields = bind_some (fields_at b (end.0 + 2)) _ h end.2 in
    ap (λ (x : Head). x.start) (same_Some _ h fields.2)
