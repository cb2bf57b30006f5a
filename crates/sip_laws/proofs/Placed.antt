-- The first field of a kind, as it stands in the text.
use Rattle.std.proofs.Common.{◌≡◌, ℕ, ◌+◌, List, [], ◌∷◌, ◌++◌, length, refl, sym, ap, ◌∙◌, subst, arith, append_assoc, length-append, Some, inl, inr}
use Rattle.std.specs.List.{find}
use Rattle.std.proofs.lemmas.Bool.{cases_Bool}
use Rattle.std.proofs.lemmas.Option.{same_Some, none-some}
use Rattle.sip_scan.specs.declared.Head.{Head}
use Rattle.sip_scan.specs.declared.field.HeaderSpan.{HeaderSpan}
use Rattle.sip_scan.specs.declared.field.Kind.{Kind}
use Rattle.sip_scan.specs.Grammar.{FieldTree, field, field_place, fields, field_places, MessageTree, message, head_place}
use Rattle.sip_msg.specs.declared.message.Message.{Message}
use Rattle.sip_msg.specs.Fields.{is_of, first}
use Rattle.sip_build.proofs.Spelt.{before_fields, behind_fields, fields_from, front_length, in_fields}
use Rattle.sip_laws.proofs.Trees.{is_named}

pub record Placed (k : Kind) (b : List ℕ) (ts : List FieldTree) (f : HeaderSpan) : Type 0 where
  pub front : List ℕ
  pub tree : FieldTree
  pub behind : List ℕ
  pub text : b ≡ front ++ (field tree ++ behind)
  pub place : f ≡ field_place (length front) tree
  pub is_first : find (is_named k) ts ≡ Some tree

along : (pre one others rest : List ℕ) → pre ++ ((one ++ others) ++ rest) ≡ (pre ++ one) ++ (others ++ rest)
along pre one others rest = simp append_assoc

beside : (pre one others rest : List ℕ) → pre ++ ((one ++ others) ++ rest) ≡ pre ++ (one ++ (others ++ rest))
beside pre one others rest = simp append_assoc

named_here : (k : Kind) (i : ℕ) (t : FieldTree) → is_of k (field_place i t) ≡ is_named k t
unfolding is_of
named_here k i t = refl

placed_in : (k : Kind) (b pre rest : List ℕ) (i : ℕ) (ts : List FieldTree) (f : HeaderSpan) → i ≡ length pre → b ≡ pre ++ (fields ts ++ rest) → find (is_of k) (field_places i ts) ≡ Some f → Placed k b ts f
placed_in k b pre rest i [] f n e h = absurd (none-some f h)
placed_in k b pre rest i (t ∷ ts) f n e h = elim (cases_Bool (is_named k t)) [
  | inl y ↦
      let test = named_here k i t ∙ y in
      record { front = pre; tree = t; behind = fields ts ++ rest; text = e ∙ beside pre (field t) (fields ts) rest; place = sym (same_Some (field_place i t) f (rw test at h)) ∙ ap (λ (j : ℕ). field_place j t) n; is_first = rw y refl }
  | inr ne ↦
      let test = named_here k i t ∙ ne in
      let later = placed_in k b (pre ++ field t) rest (i + length (field t)) ts f (omega (arith, n, length-append pre (field t))) (e ∙ along pre (field t) (fields ts) rest) (rw test at h) in
      record { front = later.front; tree = later.tree; behind = later.behind; text = later.text; place = later.place; is_first = rw ne later.is_first }
]

pub placed : (k : Kind) (b : List ℕ) (m : Message) (t : MessageTree) (f : HeaderSpan) → b ≡ message t → m.head ≡ head_place t → first k m.head.fields.items ≡ Some f → Placed k b t.fields f
placed k b m t f e h is =
    let items : m.head.fields.items ≡ field_places (fields_from t) t.fields = ap (λ (x : Head). x.fields.items) h in
    placed_in k b (before_fields t) (behind_fields t) (fields_from t) t.fields f (front_length t) (e ∙ in_fields t) (subst (λ (fs : List HeaderSpan). first k fs ≡ Some f) items is)
