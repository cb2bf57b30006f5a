-- A message round its first Via field.
use Rattle.std.proofs.Common.{◌≡◌, ℕ, suc, ◌+◌, true, false, List, [], ◌∷◌, ◌++◌, length, take, refl, sym, ap, ◌∙◌, subst, arith, append_assoc, length-append, Some, None}
use Rattle.std.specs.List.{find, AllByRecursion}
use Rattle.std.proofs.lemmas.Option.{same_Some}
use Rattle.std.proofs.lemmas.List.Elements.{filter-append}
use Rattle.sip_words.proofs.Steps.{bind_some}
use Rattle.sip_fields.specs.Via.{via_at}
use Rattle.sip_scan.specs.declared.Head.{Head}
use Rattle.sip_scan.specs.declared.field.HeaderSpan.{HeaderSpan}
use Rattle.sip_scan.specs.declared.field.Kind.{Kind}
use Rattle.sip_scan.specs.declared.field.Kind.TheVariants as kind
use Rattle.sip_scan.specs.Grammar.{FieldTree, field, IsFieldTree, field_place, fields, field_places}
use Rattle.sip_msg.specs.declared.message.Message.{Message}
use Rattle.sip_msg.specs.Fields.{is_of, first}
use Rattle.sip_msg.specs.Values.{via_of}
use Rattle.sip_msg.specs.Table.{Reads}
use Rattle.sip_build.proofs.ReadsUnder.{places_length}
use Rattle.sip_build.proofs.Spelt.{Spelt, fields_from, before_fields, behind_fields, front_length, in_fields, fields_append}
use Rattle.sip_build.proofs.Twins.{places_append}
use Rattle.sip_laws.specs.Sent.{behind_first}
use Rattle.sip_laws.proofs.Trees.{is_named, all_named, AllStand, all_stand}
use Rattle.sip_laws.proofs.Tags.{all_append}
use Rattle.sip_laws.proofs.Relaying.{all_behind, named_here, none_named, behind_is, found_is}

-- what stands before the first Via field
abbrev pub front_text : (b : List ℕ) (m : Message) → Spelt b m → List ℕ
front_text b m s = before_fields s.tree ++ fields s.cut.before

-- and its place
abbrev pub via_field_place : (b : List ℕ) (m : Message) → Spelt b m → HeaderSpan
via_field_place b m s = field_place (length (front_text b m s)) s.cut.here

pub record Around (b : List ℕ) (m : Message) (s : Spelt b m) : Type 0 where
  pub named : is_named kind.Via s.cut.here ≡ true
  pub is : IsFieldTree s.cut.here
  pub are_behind : AllByRecursion IsFieldTree s.cut.after
  pub none : find (is_named kind.Via) s.cut.before ≡ None
  pub text : b ≡ front_text b m s ++ (field s.cut.here ++ (fields s.cut.after ++ behind_fields s.tree))
  pub at : fields_from s.tree + length (fields s.cut.before) ≡ length (front_text b m s)
  pub place : first kind.Via m.head.fields.items ≡ Some (via_field_place b m s)
  pub items : m.head.fields.items ≡ field_places (fields_from s.tree) s.cut.before ++ (via_field_place b m s ∷ field_places (length (front_text b m s) + length (field s.cut.here)) s.cut.after)
  pub behind : behind_first kind.Via m.head.fields.items ≡ field_places (length (front_text b m s) + length (field s.cut.here)) s.cut.after
  pub stand : AllStand b (field_places (length (front_text b m s) + length (field s.cut.here)) s.cut.after) s.cut.after
  pub reads : via_at (take (via_field_place b m s).value.to b) (via_field_place b m s).value.from ≡ Some m.via
  pub count : length m.head.fields.items ≡ length s.cut.before + suc (length s.cut.after)
  pub sizes : length (fields s.tree.fields) ≡ length (fields s.cut.before) + (length (field s.cut.here) + length (fields s.cut.after))

pub five : (p a h f l : List ℕ) → p ++ ((a ++ (h ++ f)) ++ l) ≡ (p ++ a) ++ (h ++ (f ++ l))
five p a h f l = simp append_assoc

pub around : (b : List ℕ) (m : Message) (s : Spelt b m) → Reads b m → Around b m s
unfolding via_of
around b m s r =
    let t = s.tree in
    let before = s.cut.before in
    let here = s.cut.here in
    let after = s.cut.after in
    let whole = s.cut.whole in
    let i = fields_from t in
    let q0 = i + length (fields before) in
    let front = front_text b m s in
    let q = length front in
    let at : q0 ≡ q = omega (arith, front_length t, length-append (before_fields t) (fields before)) in
    let text : b ≡ front ++ (field here ++ (fields after ++ behind_fields t)) = s.text ∙ in_fields t ∙ ap (λ (z : List FieldTree). before_fields t ++ (fields z ++ behind_fields t)) whole ∙ ap (λ (z : List ℕ). before_fields t ++ (z ++ behind_fields t)) (fields_append before (here ∷ after)) ∙ five (before_fields t) (fields before) (field here) (fields after) (behind_fields t) in
    let place : s.via ≡ field_place q here = s.cut.place ∙ ap (λ (n : ℕ). field_place n here) at in
    let first_is : first kind.Via m.head.fields.items ≡ Some (field_place q here) = s.via_is ∙ ap (λ (z : HeaderSpan). Some z) place in
    let named : is_named kind.Via here ≡ true = sym (named_here kind.Via q0 here) ∙ ap (λ (f : HeaderSpan). is_of kind.Via f) (sym s.cut.place) ∙ found_is kind.Via m.head.fields.items s.via s.via_is in
    let items0 : m.head.fields.items ≡ field_places i before ++ (field_place q0 here ∷ field_places (q0 + length (field here)) after) = ap (λ (h : Head). h.fields.items) s.head ∙ ap (λ (z : List FieldTree). field_places i z) whole ∙ places_append i before (here ∷ after) in
    let items = items0 ∙ ap (λ (n : ℕ). field_places i before ++ (field_place n here ∷ field_places (n + length (field here)) after)) at in
    let f = bind_some (first kind.Via m.head.fields.items) _ m.via r.parts.via in
    let same : f.0 ≡ field_place q here = same_Some f.0 (field_place q here) (sym f.1 ∙ first_is) in
    let are = all_behind IsFieldTree before here after (subst (λ (z : List FieldTree). AllByRecursion IsFieldTree z) whole s.is.fields) in
    record {
      named = named;
      is = are.0;
      are_behind = are.1;
      none = none_named kind.Via i before s.cut.none;
      text = text;
      at = at;
      place = first_is;
      items = items;
      behind = ap (λ (z : List HeaderSpan). behind_first kind.Via z) items ∙ behind_is kind.Via (field_places i before) (field_places (q + length (field here)) after) (field_place q here) s.cut.none (named_here kind.Via q here ∙ named);
      stand = all_stand b (front ++ field here) (behind_fields t) (q + length (field here)) after (omega (arith, length-append front (field here))) (text ∙ sym (append_assoc front (field here) (fields after ++ behind_fields t)));
      reads = subst (λ (z : HeaderSpan). via_at (take z.value.to b) z.value.from ≡ Some m.via) same f.2;
      count = ap (λ (h : Head). length h.fields.items) s.head ∙ places_length i t.fields ∙ ap (λ (z : List FieldTree). length z) whole ∙ length-append before (here ∷ after);
      sizes = ap (λ (z : List FieldTree). length (fields z)) whole ∙ ap (λ (z : List ℕ). length z) (fields_append before (here ∷ after)) ∙ omega (arith, length-append (fields before) (field here ++ fields after), length-append (field here) (fields after));
    }

-- fields of one kind in the place of one of that kind
pub named_swap : (k : Kind) (before : List FieldTree) (here : FieldTree) (mid after : List FieldTree) → is_named k here ≡ false → all_named k (mid ++ after) ≡ all_named k after → all_named k (before ++ (mid ++ after)) ≡ all_named k (before ++ (here ∷ after))
named_swap k before here mid after ne e =
    let off : all_named k (here ∷ after) ≡ all_named k after = rw ne refl in
    filter-append (is_named k) before (mid ++ after) ∙ ap (λ (z : List FieldTree). all_named k before ++ z) (e ∙ sym off) ∙ sym (filter-append (is_named k) before (here ∷ after))

pub all_swap : (P : FieldTree → Type 0) (before : List FieldTree) (here : FieldTree) (mid after : List FieldTree) → AllByRecursion P mid → AllByRecursion P (before ++ (here ∷ after)) → AllByRecursion P (before ++ (mid ++ after))
all_swap P [] here mid after a h = all_append P mid after a h.1
all_swap P (u ∷ before) here mid after a h = (h.0, all_swap P before here mid after a h.1)
