-- A Via field without its first value, where another stands behind it.
use Rattle.std.proofs.Common.{◌≡◌, ℕ, suc, ◌+◌, ◌≤◌, true, List, [], ◌∷◌, ◌++◌, length, take, drop, refl, sym, ap, ◌∙◌, subst, arith, append_assoc, length-append, Some}
use Rattle.std.specs.Prelude.{slice_range}
use Rattle.std.proofs.lemmas.Option.{same_Some, none-some}
use Rattle.std.proofs.lemmas.List.{drop_at}
use Rattle.std.proofs.lemmas.List.Concat.{flat_map-append}
use Rattle.sip_words.specs.Grammar.{blank, lws, SeparatorTree, separator, params}
use Rattle.sip_words.proofs.Pieces.{behind, part_is}
use Rattle.sip_words.proofs.Lies.{ends_text}
use Rattle.sip_fields.specs.declared.via.Via.{Via}
use Rattle.sip_fields.specs.Parts.{host, port, Tail, Last, More, tail, next_place}
use Rattle.sip_fields.specs.Via.{via_at}
use Rattle.sip_fields.specs.ViaGrammar.{ViaTree, protocol, via, via_place, IsVia}
use Rattle.sip_fields.proofs.ViaAgain.{via_again}
use Rattle.sip_scan.specs.declared.field.Kind.TheVariants as kind
use Rattle.sip_scan.specs.Field.{kind_of}
use Rattle.sip_scan.specs.Grammar.{crlf, FieldTree, field, IsFieldTree, field_place}
use Rattle.sip_msg.specs.Values.{next_via, values_read}
use Rattle.sip_build.proofs.ReadTwins.{Alike, values_alike}
use Rattle.sip_build.proofs.Twins.{value_text, field_value}
use Rattle.sip_laws.specs.Sent.{SameVia}
use Rattle.sip_laws.proofs.Folded.{Folded, folded_both, folded_lws, cut_folded, value_folded, field_with, is_field_with, value_with, text_with, name_with}
use Rattle.sip_laws.proofs.Endings.{ends_lws, ends_mark}
use Rattle.sip_laws.proofs.Shift.{core, spelled, says, both_say}
use Rattle.sip_laws.proofs.Trees.{is_named, ListReads, enough}
use Rattle.sip_laws.proofs.Hops.{via_kind}
use Rattle.sip_laws.proofs.Reading.{via_front}
use Rattle.sip_laws.proofs.StampedVia.{old_field, via_list, list_by_kind, list_of_kind}

-- the text of the field in its parts: name and lead, the first value with its comma, and the rest
pub record Parted (b : List ℕ) (q : ℕ) (here : FieldTree) (v : Via) (j : ℕ) : Type 0 where
  pub tree : ViaTree
  pub comma : SeparatorTree
  pub rest : List ℕ
  pub is : IsVia tree
  pub value : value_text here ≡ via tree
  pub ends : tree.tail ≡ More comma rest
  pub whole : field here ≡ (here.name ++ (here.gap ++ (58 ∷ lws tree.lead))) ++ ((core tree ++ separator 44 comma) ++ (rest ++ crlf))
  pub from : v.whole.from ≡ q + length (here.name ++ (here.gap ++ (58 ∷ lws tree.lead)))
  pub to : j ≡ q + length (here.name ++ (here.gap ++ (58 ∷ lws tree.lead))) + length (core tree ++ separator 44 comma)
  pub front : slice_range b q v.whole.from ≡ here.name ++ (here.gap ++ (58 ∷ lws tree.lead))
  pub back : slice_range b j (q + length (field here)) ≡ rest ++ crlf
  pub there : drop j (take (field_place q here).value.to b) ≡ rest
  pub low : j ≤ length (take (field_place q here).value.to b)

pieces : (nm gap l c s r n : List ℕ) → nm ++ (gap ++ (58 ∷ ((l ++ (c ++ (s ++ r))) ++ n))) ≡ (nm ++ (gap ++ (58 ∷ l))) ++ ((c ++ s) ++ (r ++ n))
pieces nm gap l c s r n = simp append_assoc

value_pieces : (l a h p ps s r : List ℕ) → l ++ (a ++ (h ++ (p ++ (ps ++ (s ++ r))))) ≡ l ++ ((a ++ (h ++ (p ++ ps))) ++ (s ++ r))
value_pieces l a h p ps s r = simp append_assoc

three : (a c r z : List ℕ) → (a ++ (c ++ r)) ++ z ≡ a ++ (c ++ (r ++ z))
three a c r z = simp append_assoc

two : (l c s r : List ℕ) → l ++ (c ++ (s ++ r)) ≡ (l ++ (c ++ s)) ++ r
two l c s r = simp append_assoc

-- the text of a value with another behind it
via_more : (t : ViaTree) (m : SeparatorTree) (r : List ℕ) → t.tail ≡ More m r → via t ≡ lws t.lead ++ (core t ++ (separator 44 m ++ r))
via_more t m r e = ap (λ (x : Tail). lws t.lead ++ (protocol t ++ (host t.host ++ (port t.port ++ (params t.params ++ tail x))))) e ∙ value_pieces (lws t.lead) (protocol t) (host t.host) (port t.port) (params t.params) (separator 44 m) r

core_length : (t : ViaTree) → length (core t) ≡ length (protocol t) + (length (host t.host) + (length (port t.port) + length (params t.params)))
core_length t = omega (arith, length-append (protocol t) (host t.host ++ (port t.port ++ params t.params)), length-append (host t.host) (port t.port ++ params t.params), length-append (port t.port) (params t.params))

place_next : (i : ℕ) (t : ViaTree) (m : SeparatorTree) (r : List ℕ) → t.tail ≡ More m r → (via_place i t).next ≡ Some (i + length (lws t.lead) + length (core t) + length (separator 44 m))
place_next i t m r e =
    let end = i + length (lws t.lead) + length (protocol t) + length (host t.host) + length (port t.port) + length (params t.params) in
    let at : end + length (separator 44 m) ≡ i + length (lws t.lead) + length (core t) + length (separator 44 m) = omega (arith, core_length t) in
    ap (λ (x : Tail). next_place end x) e ∙ ap (λ (n : ℕ). Some n) at

-- the comma and what stands behind it
comma_of : (i : ℕ) (t : ViaTree) (j : ℕ) → (via_place i t).next ≡ Some j → (m : SeparatorTree) × (r : List ℕ) × (t.tail ≡ More m r)
comma_of i t j e = by_tail t.tail refl
  where
    by_tail : (x : Tail) → t.tail ≡ x → (m : SeparatorTree) × (r : List ℕ) × (t.tail ≡ More m r)
    by_tail (Last bs) f = absurd (none-some j (sym (ap (λ (x : Tail). next_place (i + length (lws t.lead) + length (protocol t) + length (host t.host) + length (port t.port) + length (params t.params)) x) f) ∙ e))
    by_tail (More m r) f = (m, r, f)

pub parted : (b front rest : List ℕ) (here : FieldTree) (v : Via) (j : ℕ) → b ≡ front ++ (field here ++ rest) → IsFieldTree here
    → let f = field_place (length front) here in
    via_at (take f.value.to b) f.value.from ≡ Some v → v.next ≡ Some j → Parted b (length front) here v j
parted b front rest here v j e is reads next =
    let q = length front in
    let f = field_place q here in
    let i = f.value.from in
    let val = field_value b front rest here e in
    let sp = spelled (take f.value.to b) i v val.1 reads in
    let t = sp.tree in
    let next_t : (via_place i t).next ≡ Some j = ap (λ (x : Via). x.next) sp.place ∙ next in
    let c = comma_of i t j next_t in
    let m = c.0 in
    let r = c.1 in
    let s = separator 44 m in
    let text = via_more t m r c.2 in
    let value : value_text here ≡ via t = sym val.0 ∙ sp.text_is in
    let at : i + length (lws t.lead) + length (core t) + length s ≡ j = same_Some _ j (sym (place_next i t m r c.2) ∙ next_t) in
    let a = here.name ++ (here.gap ++ (58 ∷ lws t.lead)) in
    let old : field here ≡ a ++ ((core t ++ s) ++ (r ++ crlf)) = old_field here is (lws t.lead ++ (core t ++ (s ++ r))) (value ∙ text) ∙ pieces here.name here.gap (lws t.lead) (core t) s r crlf in
    let a_len : length a ≡ length here.name + (length here.gap + (1 + length (lws t.lead))) = omega (arith, length-append here.name (here.gap ++ (58 ∷ lws t.lead)), length-append here.gap (58 ∷ lws t.lead)) in
    let from : v.whole.from ≡ q + length a = sym (ap (λ (x : Via). x.whole.from) sp.place) ∙ omega (arith, a_len) in
    let c_len = length-append (core t) s in
    let behind_is : j ≡ q + length a + length (core t ++ s) = omega (arith, at, a_len, c_len) in
    let size : length (field here) ≡ length a + (length (core t ++ s) + length (r ++ crlf)) = ap (λ (x : List ℕ). length x) old ∙ omega (arith, length-append a ((core t ++ s) ++ (r ++ crlf)), length-append (core t ++ s) (r ++ crlf)) in
    let end : q + length (field here) ≡ q + length a + length (core t ++ s) + length (r ++ crlf) = omega (arith, size) in
    let at_0 : drop q b ≡ a ++ ((core t ++ s) ++ ((r ++ crlf) ++ rest)) = ap (λ (x : List ℕ). drop q x) e ∙ drop_at front (field here ++ rest) q refl ∙ ap (λ (x : List ℕ). x ++ rest) old ∙ three a (core t ++ s) (r ++ crlf) rest in
    let at_1 = behind b q a ((core t ++ s) ++ ((r ++ crlf) ++ rest)) at_0 in
    let at_2 = behind b (q + length a) (core t ++ s) ((r ++ crlf) ++ rest) at_1 in
    let l = lws t.lead ++ (core t ++ s) in
    let here_is : drop i (take f.value.to b) ≡ l ++ r = sp.text_is ∙ text ∙ two (lws t.lead) (core t) s r in
    let l_len : i + length l ≡ j = omega (arith, at, length-append (lws t.lead) (core t ++ s), c_len) in
    let tail_is = behind (take f.value.to b) i l r here_is in
    record {
      tree = t;
      comma = m;
      rest = r;
      is = sp.is;
      value = value;
      ends = c.2;
      whole = old;
      from = from;
      to = behind_is;
      front = ap (λ (x : ℕ). slice_range b q x) from ∙ part_is b q a _ at_0;
      back = ap (λ (x : ℕ). slice_range b x (q + length (field here))) behind_is ∙ ap (λ (x : ℕ). slice_range b (q + length a + length (core t ++ s)) x) end ∙ part_is b (q + length a + length (core t ++ s)) (r ++ crlf) rest at_2;
      there = ap (λ (x : ℕ). drop x (take f.value.to b)) (sym l_len) ∙ tail_is;
      low = omega (arith, l_len, ends_text (take f.value.to b) i (l ++ r) val.1 here_is, length-append l r);
    }

-- the field that is left
pub record LessVia (b : List ℕ) (q : ℕ) (here : FieldTree) (v : Via) (j : ℕ) (w : Via) : Type 0 where
  pub new : FieldTree
  pub is : IsFieldTree new
  pub name : new.name ≡ here.name
  pub front : List ℕ
  pub middle : List ℕ
  pub back : List ℕ
  pub whole : field here ≡ front ++ (middle ++ back)
  pub from : v.whole.from ≡ q + length front
  pub to : j ≡ q + length front + length middle
  pub text : field new ≡ front ++ back
  pub left : slice_range b q v.whole.from ++ slice_range b j (q + length (field here)) ≡ field new
  pub via : Via
  pub reads : via_at (value_text new) 0 ≡ Some via
  pub same : SameVia (value_text new) via b w
  pub lists : is_named kind.Via here ≡ true → ListReads here → ListReads new

-- the second value with the LWS of both before it
abbrev led : ViaTree → ViaTree → ViaTree
led t u = record { lead = t.lead ++ u.lead; sip = u.sip; slash = u.slash; version = u.version; second_slash = u.second_slash; transport = u.transport; gap = u.gap; host = u.host; port = u.port; params = u.params; tail = u.tail }

led_text : (t u : ViaTree) → via (led t u) ≡ lws t.lead ++ via u
led_text t u = ap (λ (x : List ℕ). x ++ (protocol u ++ (host u.host ++ (port u.port ++ (params u.params ++ tail u.tail))))) (flat_map-append blank t.lead u.lead) ∙ append_assoc (lws t.lead) (lws u.lead) _

is_led : (t u : ViaTree) → IsVia u → IsVia (led t u)
is_led t u is = record { sip = is.sip; version = is.version; transport = is.transport; gap = is.gap; host = is.host; port = is.port; params = is.params; branch = is.branch; tail = is.tail }

-- the values of the list behind the first
led_list : (here : FieldTree) (t u : ViaTree) (m : SeparatorTree) (r : List ℕ) (new : FieldTree) → value_text here ≡ via t → IsVia t → t.tail ≡ More m r → r ≡ via u → IsVia u → value_text new ≡ via (led t u) → values_read (suc (length (value_text here))) (next_via (value_text here)) 0 ≡ true → values_read (suc (length (value_text new))) (next_via (value_text new)) 0 ≡ true
unfolding values_read next_via
led_list here t u m r new e is ends f is_u g h =
    let old = value_text here in
    let reads : via_at old 0 ≡ Some (via_place 0 t) = via_again old 0 t (omega arith) e is in
    let j = 0 + length (lws t.lead) + length (core t) + length (separator 44 m) in
    let next = place_next 0 t m r ends in
    let left : values_read (length old) (next_via old) j ≡ true = rw (reads, next) at h in
    let front = lws t.lead ++ (core t ++ separator 44 m) in
    let whole : old ≡ front ++ r = e ∙ via_more t m r ends ∙ two (lws t.lead) (core t) (separator 44 m) r in
    let len : length front ≡ j = omega (arith, length-append (lws t.lead) (core t ++ separator 44 m), length-append (core t) (separator 44 m)) in
    let tail_is : drop j old ≡ r = ap (λ (x : List ℕ). drop j x) whole ∙ drop_at front r j len in
    let size = ap (λ (x : List ℕ). length x) whole ∙ length-append front r in
    let alike : Alike old j r 0 = record { bytes = tail_is; left = omega (arith, size, len); right = omega arith } in
    let long = values_alike kind.Via old r (length old) (length old + suc (length r)) j 0 (omega arith) alike left in
    let short = enough kind.Via r (length old + suc (length r)) (suc (length r)) 0 (omega arith) (omega arith) long in
    via_list r (value_text new) u (led t u) f g is_u (is_led t u is_u) refl short

pub less_via : (b front rest : List ℕ) (here : FieldTree) (v : Via) (j : ℕ) (w : Via) → b ≡ front ++ (field here ++ rest) → IsFieldTree here
    → let f = field_place (length front) here in
    via_at (take f.value.to b) f.value.from ≡ Some v → v.next ≡ Some j → via_at (take f.value.to b) j ≡ Some w → LessVia b (length front) here v j w
less_via b front rest here v j w e is reads next below =
    let q = length front in
    let f = field_place q here in
    let p = parted b front rest here v j e is reads next in
    let t = p.tree in
    let text = take f.value.to b in
    let sp = spelled text j w p.low below in
    let u = sp.tree in
    let r_is : p.rest ≡ via u = sym p.there ∙ sp.text_is in
    let value : value_text here ≡ lws t.lead ++ ((core t ++ separator 44 p.comma) ++ p.rest) = p.value ∙ via_more t p.comma p.rest p.ends ∙ ap (λ (x : List ℕ). lws t.lead ++ x) (sym (append_assoc (core t) (separator 44 p.comma) p.rest)) in
    let one = cut_folded (lws t.lead) ((core t ++ separator 44 p.comma) ++ p.rest) (ends_lws [] tt t.lead) (subst Folded value (value_folded here is)) in
    let back = cut_folded (core t ++ separator 44 p.comma) p.rest (ends_mark (core t) 44 p.comma refl) one.back in
    let folded = folded_both (folded_lws t.lead) back.back in
    let new = field_with here folded in
    let its : value_text new ≡ via (led t u) = value_with here folded ∙ ap (λ (x : List ℕ). lws t.lead ++ x) r_is ∙ sym (led_text t u) in
    let there = via_again (value_text new) 0 (led t u) (omega arith) its (is_led t u sp.is) in
    let said = says (value_text new) 0 (led t u) its in
    let spelled_new : field new ≡ (here.name ++ (here.gap ++ (58 ∷ lws t.lead))) ++ (p.rest ++ crlf) = text_with here folded ∙ sym (new_pieces here.name here.gap (lws t.lead) p.rest crlf) in
    record {
      new = new;
      is = is_field_with here folded is;
      name = name_with here folded;
      front = here.name ++ (here.gap ++ (58 ∷ lws t.lead));
      middle = core t ++ separator 44 p.comma;
      back = p.rest ++ crlf;
      whole = p.whole;
      from = p.from;
      to = p.to;
      text = spelled_new;
      left = rw (p.front, p.back) (sym spelled_new);
      via = via_place 0 (led t u);
      reads = there;
      same = (via_front (value_text new) (via_place 0 (led t u)) b f.value.to j w p.low below (both_say (value_text new) (via_place 0 (led t u)) (led t u) text w u said sp.says refl refl refl refl, said.whole ∙ sym sp.says.whole)).0;
      lists = λ named h0.
          let k = via_kind (kind_of here.name) named in
          list_of_kind new (ap kind_of (name_with here folded) ∙ k) (led_list here t u p.comma p.rest new p.value p.is p.ends r_is sp.is its (list_by_kind here k h0));
    }
  where
    new_pieces : (nm gap l r n : List ℕ) → (nm ++ (gap ++ (58 ∷ l))) ++ (r ++ n) ≡ nm ++ (gap ++ (58 ∷ ((l ++ r) ++ n)))
    new_pieces nm gap l r n = simp append_assoc
