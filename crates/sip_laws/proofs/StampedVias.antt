-- The Via fields of a request, the top value stamped.
use Rattle.std.proofs.Common.{◌≡◌, ℕ, ◌+◌, ◌<◌, ◌≤◌, ◌^◌, true, false, List, [], ◌∷◌, ◌++◌, length, drop, refl, sym, ap, ◌∙◌, arith, append_assoc, length-append, None, inl, inr}
use Rattle.std.specs.List.{find, filter, flat_map}
use Rattle.std.proofs.lemmas.Bool.{cases_Bool, ne_eqb}
use Rattle.std.proofs.lemmas.Option.{none-some}
use Rattle.std.proofs.lemmas.List.{drop_at}
use Rattle.sip_words.proofs.Pieces.{part_is}
use Rattle.sip_scan.specs.declared.field.HeaderSpan.{HeaderSpan}
use Rattle.sip_scan.specs.declared.field.Kind.{Kind}
use Rattle.sip_scan.specs.declared.field.Kind.TheVariants as kind
use Rattle.sip_scan.specs.Grammar.{FieldTree, field, field_place, fields, field_places}
use Rattle.msg_edits.specs.declared.parts.Edit.{Edit}
use Rattle.msg_edits.specs.Edited.{is_cut, inserted_at, edited_from}
use Rattle.sip_msg.specs.declared.message.Message.{Message}
use Rattle.sip_msg.specs.Fields.{is_of}
use Rattle.outside_ports.specs.declared.port.Addr.{Addr}
use Rattle.sip_build.specs.Parts.{part, edited_field, edited_vias}
use Rattle.sip_build.specs.Stamp.{stamp}
use Rattle.sip_build.proofs.Spelt.{Spelt, fields_from, behind_fields}
use Rattle.sip_laws.proofs.Trees.{is_named, all_named}
use Rattle.sip_laws.proofs.Relaying.{named_here}
use Rattle.sip_laws.proofs.StampedField.{stamps}
use Rattle.sip_laws.proofs.After.{from_kept}
use Rattle.sip_laws.proofs.StampedVia.{StampedVia, stamped_via}
use Rattle.sip_laws.proofs.Around.{front_text, Around}

filter_front : (k : Kind) (xs ys : List HeaderSpan) → find (is_of k) xs ≡ None → filter (is_of k) (xs ++ ys) ≡ filter (is_of k) ys
filter_front k [] ys e = refl
filter_front k (x ∷ xs) ys e = elim (cases_Bool (is_of k x)) [ inl y ↦ absurd (none-some x (sym (rw y at e))) | inr n ↦ rw n (filter_front k xs ys (rw n at e)) ]

along : (pre one others rest : List ℕ) → pre ++ ((one ++ others) ++ rest) ≡ (pre ++ one) ++ (others ++ rest)
along pre one others rest = simp append_assoc

beside : (pre one others rest : List ℕ) → pre ++ ((one ++ others) ++ rest) ≡ pre ++ (one ++ (others ++ rest))
beside pre one others rest = simp append_assoc

part_of : (b pre rest : List ℕ) (j : ℕ) (t : FieldTree) → j ≡ length pre → b ≡ pre ++ (field t ++ rest) → part b (field_place j t).whole ≡ field t
part_of b pre rest j t n e = part_is b j (field t) rest (ap (λ (x : List ℕ). drop j x) e ∙ drop_at pre (field t ++ rest) j (sym n))

later_vias : (b : List ℕ) (edits : List Edit) (pre last : List ℕ) (j : ℕ) (ts : List FieldTree) → j ≡ length pre → b ≡ pre ++ (fields ts ++ last) → ((k : ℕ) → j ≤ k → is_cut edits k ≡ false) → ((k : ℕ) → j ≤ k → inserted_at edits k ≡ []) → flat_map (edited_field b edits) (filter (is_of kind.Via) (field_places j ts)) ≡ fields (all_named kind.Via ts)
later_vias b edits pre last j [] n e cut put = refl
later_vias b edits pre last j (t ∷ ts) n e cut put =
    let rest = later_vias b edits (pre ++ field t) last (j + length (field t)) ts (omega (arith, n, length-append pre (field t))) (e ∙ along pre (field t) (fields ts) last) (λ k le. cut k (omega (arith, le))) (λ k le. put k (omega (arith, le))) in
    elim (cases_Bool (is_named kind.Via t)) [
      | inl y ↦
          let test = named_here kind.Via j t ∙ y in
          let text = part_of b pre (fields ts ++ last) j t n (e ∙ beside pre (field t) (fields ts) last) in
          let same : edited_field b edits (field_place j t) ≡ field t = ap (λ (x : List ℕ). edited_from edits j x) text ∙ from_kept edits j (field t) (λ k low high. cut k low) (λ k low high. put k low) in
          rw (test, y, same, rest) refl
      | inr ne ↦ let test = named_here kind.Via j t ∙ ne in rw (test, ne, rest) refl
    ]

-- the first Via field, stamped
pub first_stamped : (b : List ℕ) (m : Message) (source : Addr) (s : Spelt b m) → source.port < 2 ^ 16 → Around b m s → StampedVia b (length (front_text b m s)) s.cut.here m.via source
first_stamped b m source s small a = stamped_via b (front_text b m s) (fields s.cut.after ++ behind_fields s.tree) s.cut.here m.via source small a.text a.is a.reads

-- edits that stamp it do nothing behind it
pub quiet_cut : (b : List ℕ) (m : Message) (source : Addr) (q : ℕ) (here : FieldTree) → StampedVia b q here m.via source → (k : ℕ) → q + length (field here) ≤ k → is_cut (stamp m.via source) k ≡ false
quiet_cut b m source q here st k le = (stamps m.via source k (k + 1)).cut k (omega arith) (omega arith) ∙ (st.above k le).0

pub quiet_put : (b : List ℕ) (m : Message) (source : Addr) (q : ℕ) (here : FieldTree) → StampedVia b q here m.via source → (k : ℕ) → q + length (field here) ≤ k → inserted_at (stamp m.via source) k ≡ []
quiet_put b m source q here st k le =
    let w = st.above k le in
    let off = ne_eqb m.via.whole.to k w.1.1 in
    (stamps m.via source k (k + 1)).put k (omega arith) (omega arith) ∙ (let p = w.1.0 in rw (p, off) refl)

pub vias_text : (b : List ℕ) (m : Message) (source : Addr) (s : Spelt b m) (a : Around b m s) (st : StampedVia b (length (front_text b m s)) s.cut.here m.via source) → edited_vias b (stamp m.via source) m.head.fields.items ≡ fields (st.new ∷ all_named kind.Via s.cut.after)
vias_text b m source s a st =
    let front = front_text b m s in
    let q = length front in
    let here = s.cut.here in
    let after = s.cut.after in
    let edits = stamp m.via source in
    let j = q + length (field here) in
    let rest = fields after ++ behind_fields s.tree in
    let others = later_vias b edits (front ++ field here) (behind_fields s.tree) j after (omega (arith, length-append front (field here))) (a.text ∙ sym (append_assoc front (field here) rest)) (quiet_cut b m source q here st) (quiet_put b m source q here st) in
    let mine : edited_field b edits (field_place q here) ≡ field st.new = ap (λ (z : List ℕ). edited_from edits q z) (part_of b front rest q here refl a.text) ∙ st.text edits (stamps m.via source q (q + length (field here))) in
    let test : is_of kind.Via (field_place q here) ≡ true = named_here kind.Via q here ∙ a.named in
    let filtered : filter (is_of kind.Via) m.head.fields.items ≡ field_place q here ∷ filter (is_of kind.Via) (field_places j after) = ap (λ (z : List HeaderSpan). filter (is_of kind.Via) z) a.items ∙ filter_front kind.Via (field_places (fields_from s.tree) s.cut.before) (field_place q here ∷ field_places j after) s.cut.none ∙ rw test refl in
    ap (λ (z : List HeaderSpan). flat_map (edited_field b edits) z) filtered ∙ rw (mine, others) refl
