-- A text with the body of a message that reads, and with these fields, reads; its body is that of the message.
use Rattle.std.proofs.Common.{◌≡◌, ℕ, ◌+◌, ◌-◌, ◌≤◌, List, length, take, drop, refl, sym, ap, ◌∙◌, subst, arith, length-take, Option, Some, None}
use Rattle.std.specs.Prelude.{IfSome, slice_range}
use Rattle.std.proofs.lemmas.List.{take-take}
use Rattle.sip_scan.specs.declared.Head.{Head}
use Rattle.sip_scan.specs.Grammar.{FieldTree, fields, MessageTree, message, IsMessageTree, head_place}
use Rattle.sip_scan.proofs.HeadAgain.{start_place}
use Rattle.sip_msg.specs.declared.message.Message.{Message}
use Rattle.sip_msg.specs.declared.start.Start.{Start}
use Rattle.sip_msg.specs.Start.{start_at}
use Rattle.sip_msg.specs.Table.{end_behind, Reads}
use Rattle.sip_msg.proofs.Lies.{lies}
use Rattle.sip_build.proofs.ReadsUnder.{places_length}
use Rattle.sip_build.proofs.Spelt.{fields_from}
use Rattle.sip_laws.proofs.Trees.{Fields}
use Rattle.sip_laws.proofs.Reading.{TreeFits, Made, tree_reads}
use Rattle.sip_laws.proofs.Known.{KnownBy}
use Rattle.sip_laws.proofs.Relaying.{left_body, sizes, body_there}

-- the tree with another start line and other fields, and with the body as far as the message goes
abbrev pub tree_again : MessageTree → List ℕ → List FieldTree → ℕ → MessageTree
tree_again t start us count = record { skipped = t.skipped; start = start; fields = us; body = take count t.body }

slice_by : (text : List ℕ) (i j there n : ℕ) (rest : List ℕ) → i ≡ there → j ≡ there + n → drop there text ≡ rest → slice_range text i j ≡ take n rest
slice_by text i j there n rest e f h = let g : j - i ≡ n = omega (arith, e, f) in ap (λ (z : ℕ). take z (drop i text)) g ∙ ap (λ (z : ℕ). take n (drop z text)) e ∙ ap (λ (z : List ℕ). take n z) h

-- how long the body is
pub kept_body : (b : List ℕ) (m : Message) (t : MessageTree) → Reads b m → b ≡ message t → m.head ≡ head_place t → length (take (m.end - m.head.body) t.body) ≡ m.end - m.head.body
kept_body b m t r e h =
    let l = lies b m r in
    let body : m.head.body ≡ fields_from t + length (fields t.fields) + 2 = ap (λ (x : Head). x.body) h in
    let size : length b ≡ fields_from t + (length (fields t.fields) + (2 + length t.body)) = ap (λ (z : List ℕ). length z) e ∙ sizes t in
    omega (arith, length-take (m.end - m.head.body) t.body, l.parts.end_low, l.parts.end_high, body, size)

-- a body that begins with that of the message, and is it where the message has no Content-Length
pub record HasBody (b : List ℕ) (m : Message) (t : MessageTree) (size : Option ℕ) (rest : List ℕ) : Type 0 where
  pub same : take (m.end - m.head.body) rest ≡ take (m.end - m.head.body) t.body
  pub long : m.end - m.head.body ≤ length rest
  pub whole : size ≡ None → length rest ≡ m.end - m.head.body

pub cut_body : (b : List ℕ) (m : Message) (t : MessageTree) (size : Option ℕ) → Reads b m → b ≡ message t → m.head ≡ head_place t → HasBody b m t size (take (m.end - m.head.body) t.body)
cut_body b m t size r e h =
    let kept = kept_body b m t r e h in
    record { same = take-take (m.end - m.head.body) (m.end - m.head.body) t.body (omega arith); long = omega (arith, kept); whole = λ none. kept }

pub whole_body : (b : List ℕ) (m : Message) (t : MessageTree) (size : Option ℕ) → Reads b m → b ≡ message t → m.head ≡ head_place t → m.end ≡ end_behind b m.head.body size → HasBody b m t size t.body
whole_body b m t size r e h end =
    let l = lies b m r in
    let body : m.head.body ≡ fields_from t + length (fields t.fields) + 2 = ap (λ (x : Head). x.body) h in
    let long : length b ≡ fields_from t + (length (fields t.fields) + (2 + length t.body)) = ap (λ (z : List ℕ). length z) e ∙ sizes t in
    record {
      same = refl;
      long = omega (arith, l.parts.end_high, body, long);
      whole = λ none.
          let all : m.end ≡ length b = end ∙ ap (λ (o : Option ℕ). end_behind b m.head.body o) none in
          omega (arith, all, body, long);
    }

body_stands : (size : Option ℕ) (n : ℕ) (rest : List ℕ) → IfSome size (λ k. k ≤ n) → n ≤ length rest → IfSome size (λ k. k ≤ length rest)
body_stands None n rest h le = tt
body_stands (Some k) n rest h le = omega (arith, h, le)

-- where the message ends in its body
ends_here : (size : Option ℕ) (b c : List ℕ) (body end there count : ℕ) (rest : List ℕ) → end ≡ end_behind b body size → body ≤ end → count ≡ end - body → length c ≡ there + length rest → (size ≡ None → length rest ≡ count) → end_behind c there size ≡ there + count
ends_here None b c body end there count rest e le h k whole = let w = whole refl in omega (arith, k, w)
ends_here (Some n) b c body end there count rest e le h k whole = omega (arith, e, h)

pub again_with : (b : List ℕ) (m : Message) (t : MessageTree) (k : KnownBy b m t) (c start : List ℕ) (us : List FieldTree) (st : Start) (rest : List ℕ) → Reads b m
    → let u : MessageTree = record { skipped = t.skipped; start = start; fields = us; body = rest } in
    c ≡ message u → IsMessageTree u → (x : Fields us) → x.size ≡ k.fields.size → HasBody b m t k.fields.size rest → start_at (take (start_place u).to c) (start_place u).from ≡ Some st → TreeFits c us x st → length c ≤ 8192 → length us ≤ 128
    → (w : Message) × (Made c u x st w × (slice_range c w.head.body w.end ≡ slice_range b m.head.body m.end))
again_with b m t k c start us st rest r e is x same_size has begins fit short few =
    let count = m.end - m.head.body in
    let u : MessageTree = record { skipped = t.skipped; start = start; fields = us; body = rest } in
    let l = lies b m r in
    let low = l.parts.end_low in
    let high = l.parts.end_high in
    let body : m.head.body ≡ fields_from t + length (fields t.fields) + 2 = ap (λ (h : Head). h.body) k.head in
    let size_b : length b ≡ fields_from t + (length (fields t.fields) + (2 + length t.body)) = ap (λ (z : List ℕ). length z) k.text ∙ sizes t in
    let size_c : length c ≡ fields_from u + (length (fields us) + (2 + length rest)) = ap (λ (z : List ℕ). length z) e ∙ sizes u in
    let kept = kept_body b m t r k.text k.head in
    let end_b : m.end ≡ end_behind b m.head.body x.size = k.end ∙ ap (λ (o : Option ℕ). end_behind b m.head.body o) (sym same_size) in
    let fits = subst (λ (n : ℕ). IfSome x.size (λ i. i ≤ n)) kept (left_body x.size b m.head.body m.end t.body end_b high (omega (arith, size_b, body))) in
    let made = tree_reads c u st e is x begins fit short few (body_stands x.size count rest fits has.long) in
    let w = made.0 in
    let d = made.1 in
    let there = (head_place u).body in
    let ends = ends_here x.size b c m.head.body m.end there count rest end_b low refl (omega (arith, size_c)) (λ none. has.whole (sym same_size ∙ none)) in
    let w_body : w.head.body ≡ there = ap (λ (h : Head). h.body) d.head in
    let w_end : w.end ≡ there + count = d.end ∙ ap (λ (z : ℕ). end_behind c z x.size) w_body ∙ ends in
    let rest_c : drop there c ≡ rest = ap (λ (z : List ℕ). drop there z) e ∙ body_there u in
    let rest_b : drop m.head.body b ≡ t.body = ap (λ (z : ℕ). drop z b) (ap (λ (h : Head). h.body) k.head) ∙ ap (λ (z : List ℕ). drop (head_place t).body z) k.text ∙ body_there t in
    let bodies : slice_range c w.head.body w.end ≡ take count t.body = slice_by c w.head.body w.end there count rest w_body w_end rest_c ∙ has.same in
    (w, (d, bodies ∙ ap (λ (z : List ℕ). take count z) (sym rest_b)))

pub again : (b : List ℕ) (m : Message) (t : MessageTree) (k : KnownBy b m t) (c start : List ℕ) (us : List FieldTree) (st : Start) → Reads b m
    → let u = tree_again t start us (m.end - m.head.body) in
    c ≡ message u → IsMessageTree u → (x : Fields us) → x.size ≡ k.fields.size → start_at (take (start_place u).to c) (start_place u).from ≡ Some st → TreeFits c us x st → length c ≤ 8192 → length us ≤ 128
    → (w : Message) × (Made c u x st w × (slice_range c w.head.body w.end ≡ slice_range b m.head.body m.end))
again b m t k c start us st r e is x same_size begins fit short few = again_with b m t k c start us st (take (m.end - m.head.body) t.body) r e is x same_size (cut_body b m t k.fields.size r k.text k.head) begins fit short few

-- how many fields the text has
pub made_count : (c : List ℕ) (t : MessageTree) (x : Fields t.fields) (st : Start) (w : Message) → Made c t x st w → length w.head.fields.items ≡ length t.fields
made_count c t x st w d = ap (λ (h : Head). length h.fields.items) d.head ∙ places_length (fields_from t) t.fields
