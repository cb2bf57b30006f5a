-- The first Via field with its value stamped: a field that reads, with the same host, port and branch.
use Rattle.std.proofs.Common.{◌≡◌, ◌≢◌, ℕ, suc, ◌+◌, ◌<◌, ◌≤◌, ◌^◌, ◌/◌, ◌%◌, Bool, true, false, List, [], ◌∷◌, ◌++◌, length, take, drop, refl, sym, ap, ◌∙◌, subst, arith, append_assoc, length-append, Some, None}
use Rattle.std.specs.Prelude.{codes}
use Rattle.std.specs.List.{AllByRecursion}
use Rattle.std.specs.Fmt.{decimal}
use Rattle.std.proofs.lemmas.Fmt.{decimal_nonempty}
use Rattle.std.proofs.lemmas.Option.{same_Some, none-some}
use Rattle.std.proofs.lemmas.List.{drop_at}
use Rattle.sip_words.specs.Bytes.{has}
use Rattle.sip_words.specs.declared.bytes.Class.TheVariants.{Value, Digit}
use Rattle.sip_words.specs.Grammar.{lws, separator, IsWord, params, named_tree}
use Rattle.sip_words.proofs.Pieces.{other_byte}
use Rattle.sip_fields.specs.declared.via.Via.{Via}
use Rattle.sip_fields.specs.Parts.{host, port, Tail, Last, More, tail, next_place}
use Rattle.sip_fields.specs.Via.{via_at}
use Rattle.sip_fields.specs.ViaGrammar.{ViaTree, protocol, via, via_place, IsVia}
use Rattle.sip_fields.proofs.ViaAgain.{via_again}
use Rattle.msg_edits.specs.declared.parts.Edit.{Edit}
use Rattle.msg_edits.specs.Edited.{edited_from}
use Rattle.sip_scan.specs.declared.field.Kind.TheVariants as kind
use Rattle.sip_scan.specs.Field.{kind_of}
use Rattle.sip_scan.specs.Grammar.{crlf, IsLine, FieldTree, field, IsFieldTree, field_place}
use Rattle.sip_msg.specs.Values.{next_via, rest_reads, values_read}
use Rattle.outside_ports.specs.declared.port.Addr.{Addr}
use Rattle.numerals.specs.Numerals.{dotted}
use Rattle.sip_build.specs.Stamp.{wants_received}
use Rattle.sip_build.proofs.OwnVia.{decimal_digits}
use Rattle.sip_build.proofs.ReadTwins.{Alike, values_alike}
use Rattle.sip_build.proofs.Twins.{value_text, behind_colon, field_value}
use Rattle.sip_laws.specs.Sent.{SameVia}
use Rattle.sip_laws.proofs.Folded.{Folded, folded_both, folded_line, cut_folded, value_folded, behind_is, field_with, is_field_with, value_with, text_with, name_with}
use Rattle.sip_laws.proofs.Endings.{ends_front, ends_params}
use Rattle.sip_laws.proofs.Shift.{spelled, says, both_say}
use Rattle.sip_laws.proofs.Trees.{is_named, ListReads, enough}
use Rattle.sip_laws.proofs.Hops.{via_kind}
use Rattle.sip_laws.proofs.StartAgain.{line_both}
use Rattle.sip_laws.proofs.Stamped.{walk, cuts, puts, cuts_high, cuts_front, puts_high, puts_low}
use Rattle.sip_laws.proofs.StampedTree.{folded_walk, ended, received_line, rest_of, token_in, token_out, Token_in, tree_value_is, value_in}
use Rattle.sip_laws.proofs.StampedField.{Stamps, stamped_bytes}

-- numbers and addresses as values
digit_value : (b : ℕ) → has Digit b ≡ true → has Value b ≡ true
unfolding has
digit_value b h =
    let a = other_byte Digit 59 b refl h in
    let c = other_byte Digit 44 b refl h in
    let d = other_byte Digit 34 b refl h in
    let e = other_byte Digit 60 b refl h in
    let f = other_byte Digit 62 b refl h in
    let g = other_byte Digit 32 b refl h in
    let j = other_byte Digit 9 b refl h in
    let k = other_byte Digit 13 b refl h in
    let l = other_byte Digit 10 b refl h in
    Rattle.sip_laws.proofs.Values.value_byte b a c d e f g j k l

all_values : (w : List ℕ) → AllByRecursion (λ b. has Digit b ≡ true) w → AllByRecursion (λ b. has Value b ≡ true) w
all_values [] a = tt
all_values (b ∷ w) a = (digit_value b a.0, all_values w a.1)

both_all : (v w : List ℕ) → AllByRecursion (λ b. has Value b ≡ true) v → AllByRecursion (λ b. has Value b ≡ true) w → AllByRecursion (λ b. has Value b ≡ true) (v ++ w)
both_all [] w a c = c
both_all (b ∷ v) w a c = (a.0, both_all v w a.1 c)

pub number_value : (n : ℕ) → n < 2 ^ 64 → IsWord Value (decimal n)
number_value n small = record { some = decimal_nonempty n small; all = all_values (decimal n) (decimal_digits n small) }

pub address_value : (ip : ℕ) → IsWord Value (dotted ip)
unfolding has
address_value ip =
    let a = number_value (ip / 16777216 % 256) (omega arith) in
    let b = number_value (ip / 65536 % 256) (omega arith) in
    let c = number_value (ip / 256 % 256) (omega arith) in
    let d = number_value (ip % 256) (omega arith) in
    let cd = both_all (decimal (ip / 256 % 256)) (46 ∷ decimal (ip % 256)) c.all (refl, d.all) in
    let bcd = both_all (decimal (ip / 65536 % 256)) (46 ∷ (decimal (ip / 256 % 256) ++ 46 ∷ decimal (ip % 256))) b.all (refl, cd) in
    record {
      some = omega (arith, a.some, length-append (decimal (ip / 16777216 % 256)) (46 ∷ (decimal (ip / 65536 % 256) ++ 46 ∷ (decimal (ip / 256 % 256) ++ 46 ∷ decimal (ip % 256)))));
      all = both_all (decimal (ip / 16777216 % 256)) (46 ∷ (decimal (ip / 65536 % 256) ++ 46 ∷ (decimal (ip / 256 % 256) ++ 46 ∷ decimal (ip % 256)))) a.all (refl, bcd);
    }

number_line : (n : ℕ) → n < 2 ^ 64 → IsLine (decimal n)
number_line n small = Rattle.sip_laws.proofs.StartAgain.line_digits (decimal n) (record { some = decimal_nonempty n small; all = decimal_digits n small })

address_line : (ip : ℕ) → IsLine (dotted ip)
address_line ip =
    let cd = line_both (decimal (ip / 256 % 256)) (46 ∷ decimal (ip % 256)) (number_line (ip / 256 % 256) (omega arith)) (refl, number_line (ip % 256) (omega arith)) in
    let bcd = line_both (decimal (ip / 65536 % 256)) (46 ∷ (decimal (ip / 256 % 256) ++ 46 ∷ decimal (ip % 256))) (number_line (ip / 65536 % 256) (omega arith)) (refl, cd) in
    line_both (decimal (ip / 16777216 % 256)) (46 ∷ (decimal (ip / 65536 % 256) ++ 46 ∷ (decimal (ip / 256 % 256) ++ 46 ∷ decimal (ip % 256)))) (number_line (ip / 16777216 % 256) (omega arith)) (refl, bcd)

-- the values of a list behind the first
sum_front : (a b c d e s r : List ℕ) → a ++ (b ++ (c ++ (d ++ (e ++ (s ++ r))))) ≡ ((((((a ++ b) ++ c) ++ d) ++ e) ++ s) ++ r)
sum_front a b c d e s r = simp append_assoc

behind_value : (text : List ℕ) (t : ViaTree) (m : Rattle.sip_words.specs.Grammar.SeparatorTree) (r : List ℕ) → text ≡ via t → t.tail ≡ More m r → (j : ℕ) × ((via_place 0 t).next ≡ Some j) × (drop j text ≡ r) × (0 < j) × (j ≤ length text)
behind_value text t m r e is =
    let a = lws t.lead in
    let b = protocol t in
    let c = host t.host in
    let d = port t.port in
    let p = params t.params in
    let s = separator 44 m in
    let front = ((((a ++ b) ++ c) ++ d) ++ p) ++ s in
    let j = 0 + length a + length b + length c + length d + length p + length s in
    let whole : text ≡ front ++ r = e ∙ ap (λ (x : Tail). a ++ (b ++ (c ++ (d ++ (p ++ tail x))))) is ∙ sum_front a b c d p s r in
    let len : length front ≡ j = omega (arith, length-append ((((a ++ b) ++ c) ++ d) ++ p) s, length-append (((a ++ b) ++ c) ++ d) p, length-append ((a ++ b) ++ c) d, length-append (a ++ b) c, length-append a b) in
    let size = ap (λ (x : List ℕ). length x) whole ∙ length-append front r in
    (j, ap (λ (x : Tail). next_place (0 + length a + length b + length c + length d + length p) x) is, ap (λ (x : List ℕ). drop j x) whole ∙ drop_at front r j len, omega (arith, length-append (lws m.before) (44 ∷ lws m.after)), omega (arith, size, len))

pub via_list : (old new : List ℕ) (t u : ViaTree) → old ≡ via t → new ≡ via u → IsVia t → IsVia u → rest_of u.tail ≡ rest_of t.tail → values_read (suc (length old)) (next_via old) 0 ≡ true → values_read (suc (length new)) (next_via new) 0 ≡ true
unfolding values_read next_via
via_list old new t u e f is_t is_u rest h = by_tail t.tail u.tail refl refl rest
  where
    there_old : via_at old 0 ≡ Some (via_place 0 t)
    there_old = via_again old 0 t (omega arith) e is_t

    there_new : via_at new 0 ≡ Some (via_place 0 u)
    there_new = via_again new 0 u (omega arith) f is_u

    by_tail : (x y : Tail) → t.tail ≡ x → u.tail ≡ y → rest_of y ≡ rest_of x → rest_reads (Rattle.sip_words.specs.Words.◌>>=◌ (via_at new 0) (λ (v : Via). Some v.next)) (values_read (length new) (next_via new)) ≡ true
    by_tail x (Last bs) ex ey rs =
        let none : (via_place 0 u).next ≡ None = ap (λ (z : Tail). next_place (0 + length (lws u.lead) + length (protocol u) + length (host u.host) + length (port u.port) + length (params u.params)) z) ey in
        rw (there_new, none) refl
    by_tail (Last bs) (More m r) ex ey rs = absurd (none-some r (sym rs))
    by_tail (More m r) (More n q) ex ey rs =
        let o = behind_value old t m r e ex in
        let w = behind_value new u n q f ey in
        let same : q ≡ r = same_Some q r rs in
        let next_old = o.1 in
        let next_new = w.1 in
        let left : values_read (length old) (next_via old) o.0 ≡ true = rw (there_old, next_old) at h in
        let alike : Alike old o.0 new w.0 = record { bytes = o.2 ∙ sym same ∙ sym w.2; left = o.4; right = w.4 } in
        let long = values_alike kind.Via old new (length old) (length old + length new) o.0 w.0 (omega arith) alike left in
        let short = enough kind.Via new (length old + length new) (length new) w.0 w.4 (omega (arith, w.3)) long in
        rw (there_new, next_new) short

-- a place at which nothing is done
abbrev pub Quiet : Via → List ℕ → ℕ → Type 0
Quiet v d k = (cuts v.received k ≡ false) × ((puts v.rport d k ≡ []) × (v.whole.to ≢ k))

-- the field, stamped
pub record StampedVia (b : List ℕ) (q : ℕ) (here : FieldTree) (v : Via) (source : Addr) : Type 0 where
  pub new : FieldTree
  pub is : IsFieldTree new
  pub name : new.name ≡ here.name
  pub text : (edits : List Edit) → Stamps edits v source.port (received_line (wants_received v source.ip) (dotted source.ip)) q (q + length (field here)) → edited_from edits q (field here) ≡ field new
  pub via : Via
  pub reads : via_at (value_text new) 0 ≡ Some via
  pub same : (x : Via) → via_at (value_text here) 0 ≡ Some x → SameVia (value_text here) x (value_text new) via
  pub lists : is_named kind.Via here ≡ true → ListReads here → ListReads new
  pub above : (k : ℕ) → q + length (field here) ≤ k → Quiet v (decimal source.port) k
  pub below : (k : ℕ) → k ≤ q → Quiet v (decimal source.port) k

six_pieces : (a b c d e g : List ℕ) → a ++ (b ++ (c ++ (d ++ (e ++ g)))) ≡ (a ++ (b ++ (c ++ d))) ++ (e ++ g)
six_pieces a b c d e g = simp append_assoc

old_pieces : (nm gap a b c d e g n : List ℕ) → nm ++ (gap ++ (58 ∷ ((a ++ (b ++ (c ++ (d ++ (e ++ g))))) ++ n))) ≡ ((nm ++ (gap ++ 58 ∷ [])) ++ (a ++ (b ++ (c ++ d)))) ++ (e ++ (g ++ n))
old_pieces nm gap a b c d e g n = simp append_assoc

new_pieces : (nm gap a b c d w l g n : List ℕ) → ((nm ++ (gap ++ 58 ∷ [])) ++ (a ++ (b ++ (c ++ d)))) ++ (w ++ (l ++ (g ++ n))) ≡ nm ++ (gap ++ (58 ∷ ((a ++ (b ++ (c ++ (d ++ (w ++ (l ++ g)))))) ++ n)))
new_pieces nm gap a b c d w l g n = simp append_assoc

line_of : (wants : Bool) (w : List ℕ) → IsLine w → IsLine (received_line wants w)
line_of true w line = (refl, (refl, (refl, (refl, (refl, (refl, (refl, (refl, (refl, (refl, line))))))))))
line_of false w line = tt

pub list_by_kind : (t : FieldTree) → kind_of t.name ≡ kind.Via → ListReads t → values_read (suc (length (value_text t))) (next_via (value_text t)) 0 ≡ true
list_by_kind t k h = rw k at h

pub list_of_kind : (t : FieldTree) → kind_of t.name ≡ kind.Via → values_read (suc (length (value_text t))) (next_via (value_text t)) 0 ≡ true → ListReads t
list_of_kind t k h = rw k h

pub old_field : (t : FieldTree) → IsFieldTree t → (v : List ℕ) → value_text t ≡ v → field t ≡ t.name ++ (t.gap ++ (58 ∷ (v ++ crlf)))
unfolding behind_colon
old_field t is v e = ap (λ (x : List ℕ). t.name ++ (t.gap ++ (58 ∷ x))) (behind_is t is ∙ ap (λ (x : List ℕ). x ++ crlf) e)

pub stamped_via : (b front rest : List ℕ) (here : FieldTree) (v : Via) (source : Addr) → source.port < 2 ^ 16 → b ≡ front ++ (field here ++ rest) → IsFieldTree here → let f = field_place (length front) here in via_at (take f.value.to b) f.value.from ≡ Some v → StampedVia b (length front) here v source
stamped_via b front rest here v source small e is reads =
    let q = length front in
    let f = field_place q here in
    let val = field_value b front rest here e in
    let sp = spelled (take f.value.to b) f.value.from v val.1 reads in
    let t = sp.tree in
    let value : value_text here ≡ via t = sym val.0 ∙ sp.text_is in
    let d = decimal source.port in
    let address = dotted source.ip in
    let wants = wants_received v source.ip in
    let line = received_line wants address in
    let ps = t.params in
    let en = ended t d address wants sp.is (number_value source.port (omega (arith, small))) (address_value source.ip) in
    let u : ViaTree = record { lead = t.lead; sip = t.sip; slash = t.slash; version = t.version; second_slash = t.second_slash; transport = t.transport; gap = t.gap; host = t.host; port = t.port; params = en.trees; tail = en.ending } in
    let is_u : IsVia u = record { sip = sp.is.sip; version = sp.is.version; transport = sp.is.transport; gap = sp.is.gap; host = sp.is.host; port = sp.is.port; params = en.are; branch = token_out (named_tree (codes "branch") en.trees) (subst Token_in (sym en.same) (token_in (named_tree (codes "branch") ps) sp.is.branch)); tail = en.is_ending } in
    let made = lws t.lead ++ (protocol t ++ (host t.host ++ (port t.port ++ (walk true true d ps ++ (line ++ tail t.tail))))) in
    let made_is : made ≡ via u = ap (λ (x : List ℕ). lws t.lead ++ (protocol t ++ (host t.host ++ (port t.port ++ x)))) en.text_is in
    let old_folded = subst Folded (value ∙ six_pieces (lws t.lead) (protocol t) (host t.host) (port t.port) (params ps) (tail t.tail)) (value_folded here is) in
    let one = cut_folded (lws t.lead ++ (protocol t ++ (host t.host ++ port t.port))) (params ps ++ tail t.tail) (ends_front (lws t.lead) t sp.is) old_folded in
    let two = cut_folded (params ps) (tail t.tail) (ends_params [] tt ps sp.is.params) one.back in
    let digits = Rattle.sip_laws.proofs.StartAgain.line_digits d (record { some = decimal_nonempty source.port (omega (arith, small)); all = decimal_digits source.port (omega (arith, small)) }) in
    let walk_folded = folded_walk true true d ps sp.is.params (refl, digits) two.front in
    let line_folded = folded_line line (line_of wants address (address_line source.ip)) in
    let folded = subst Folded (sym (six_pieces (lws t.lead) (protocol t) (host t.host) (port t.port) (walk true true d ps) (line ++ tail t.tail))) (folded_both one.front (folded_both walk_folded (folded_both line_folded two.back))) in
    let nf = field_with here folded in
    let its = value_with here folded in
    let text_is : value_text nf ≡ via u = its ∙ made_is in
    let h = here.name ++ (here.gap ++ (58 ∷ [])) in
    let front_part = h ++ (lws t.lead ++ (protocol t ++ (host t.host ++ port t.port))) in
    let post = tail t.tail ++ crlf in
    let old : field here ≡ front_part ++ (params ps ++ post) = old_field here is (via t) value ∙ old_pieces here.name here.gap (lws t.lead) (protocol t) (host t.host) (port t.port) (params ps) (tail t.tail) crlf in
    let at = f.value.from + length (lws t.lead) + length (protocol t) + length (host t.host) + length (port t.port) in
    let h_len : length h ≡ length here.name + (length here.gap + 1) = omega (arith, length-append here.name (here.gap ++ (58 ∷ [])), length-append here.gap (58 ∷ [])) in
    let v_len : length (lws t.lead ++ (protocol t ++ (host t.host ++ port t.port))) ≡ length (lws t.lead) + (length (protocol t) + (length (host t.host) + length (port t.port))) = omega (arith, length-append (lws t.lead) (protocol t ++ (host t.host ++ port t.port)), length-append (protocol t) (host t.host ++ port t.port), length-append (host t.host) (port t.port)) in
    let place : at ≡ q + length front_part = omega (arith, h_len, v_len, length-append h (lws t.lead ++ (protocol t ++ (host t.host ++ port t.port)))) in
    let some : 0 < length post = omega (arith, length-append (tail t.tail) crlf) in
    let size : q + length (field here) ≡ at + length (params ps) + length post = omega (arith, place, ap (λ (x : List ℕ). length x) old, length-append front_part (params ps ++ post), length-append (params ps) post) in
    let there_old = via_again (value_text here) 0 t (omega arith) value sp.is in
    let there_new = via_again (value_text nf) 0 u (omega arith) text_is is_u in
    let branch : Rattle.sip_laws.proofs.Shift.tree_value (named_tree (codes "branch") ps) ≡ Rattle.sip_laws.proofs.Shift.tree_value (named_tree (codes "branch") en.trees) = tree_value_is (named_tree (codes "branch") ps) ∙ ap value_in (sym en.same) ∙ sym (tree_value_is (named_tree (codes "branch") en.trees)) in
    record {
      new = nf;
      is = is_field_with here folded is;
      name = name_with here folded;
      text = λ edits s. ap (λ (x : List ℕ). edited_from edits q x) old
          ∙ stamped_bytes edits q f.value.from t source.port line front_part post place some (subst (λ (x : Via). Stamps edits x source.port line q (at + length (params ps) + length post)) (sym sp.place) (subst (λ (n : ℕ). Stamps edits v source.port line q n) size s))
          ∙ new_pieces here.name here.gap (lws t.lead) (protocol t) (host t.host) (port t.port) (walk true true d ps) line (tail t.tail) crlf
          ∙ sym (text_with here folded);
      via = via_place 0 u;
      reads = there_new;
      same = λ x reads_x.
          let is_x : via_place 0 t ≡ x = same_Some (via_place 0 t) x (sym there_old ∙ reads_x) in
          both_say (value_text here) x t (value_text nf) (via_place 0 u) u (subst (λ (y : Via). Rattle.sip_laws.proofs.Shift.Says (value_text here) y t) is_x (says (value_text here) 0 t value)) (says (value_text nf) 0 u text_is) refl refl refl branch;
      lists = λ named h0.
          let k = via_kind (kind_of here.name) named in
          list_of_kind nf (ap kind_of (name_with here folded) ∙ k) (via_list (value_text here) (value_text nf) t u value text_is sp.is is_u en.rest (list_by_kind here k h0));
      above = λ k le. subst (λ (x : Via). Quiet x d k) sp.place (cuts_high (codes "received") ps at k (omega (arith, size, le)), (puts_high (codes "rport") ps at k d (omega (arith, size, le, length-append (tail t.tail) crlf)), λ z. omega (arith, size, le, z, length-append (tail t.tail) crlf)));
      below = λ k le. subst (λ (x : Via). Quiet x d k) sp.place (cuts_front (codes "received") ps at k (omega (arith, place, le, h_len, length-append h (lws t.lead ++ (protocol t ++ (host t.host ++ port t.port))))), (puts_low (codes "rport") ps at k d (omega (arith, place, le)), λ z. omega (arith, place, le, z, h_len, length-append h (lws t.lead ++ (protocol t ++ (host t.host ++ port t.port))))));
    }
