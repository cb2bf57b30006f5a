-- The form of a variable is that of the variable which stands there.
use Rattle.std.proofs.Common.{◌≡◌, ℕ, ◌+◌, ◌&&◌, List, take, drop, ◌==◌, refl, ap, ◌∙◌, inl, inr, arith, Option, Some, None, option_map}
use Rattle.std.proofs.lemmas.Bool.{cases_Bool}
use Rattle.std.proofs.lemmas.List.{drop-drop}
use Rattle.cfg_tree.specs.declared.token.Variable.{Variable}
use Rattle.cfg_tree.specs.Variables.{name_len, begins_with, before, before_close, named_at, variable_at}
use Rattle.cfg_tree.specs.Variables as tree
use Rattle.cfg_lex.specs.declared.variable.Stretch.{Stretch}
use Rattle.cfg_lex.specs.declared.variable.VariableForm.{VariableForm}
use Rattle.cfg_lex.specs.Variables.{further, bytes_of, variable_of, form_with_inner, form_with_transformation, transformed_form, named_form, form_at}

-- the variable of a form, and how many bytes it takes
abbrev pub pictured : List ℕ → Option VariableForm → Option (Variable × ℕ)
pictured text None = None
pictured text (Some f) = Some (variable_of text f, f.len)

inner_is : (n : ℕ) (text : List ℕ) (o : Option ℕ) → tree.with_inner n text o ≡ pictured text (form_with_inner n o)
inner_is n text None = refl
inner_is n text (Some k) = refl

named_is : (text : List ℕ) → named_at text ≡ pictured text (named_form text)
unfolding named_at named_form
named_is text = elim (cases_Bool (name_len text == 0)) [
  | inl t ↦ rw t refl
  | inr f ↦ elim (cases_Bool (begins_with 40 (drop (name_len text) text))) [
    | inl t ↦ rw (f, t) (inner_is (name_len text) text (before_close 0 (drop (name_len text + 1) text)))
    | inr g ↦ rw (f, g) refl
  ]
]

moved : (text : List ℕ) (p : Stretch) → bytes_of (drop 1 text) p ≡ bytes_of text (further p)
moved text p = ap (λ (xs : List ℕ). take p.len xs) (drop-drop p.from 1 text ∙ ap (λ n. drop n text) (omega arith))

moved_inner : (text : List ℕ) (o : Option Stretch) → option_map (bytes_of (drop 1 text)) o ≡ option_map (bytes_of text) (option_map further o)
moved_inner text None = refl
moved_inner text (Some p) = ap (λ (xs : List ℕ). Some xs) (moved text p)

abbrev taken : Variable → ℕ → Option (Variable × ℕ)
taken v n = Some (v, n)

abbrev with_parts : List ℕ → Option (List ℕ) → Option (List ℕ) → Variable
with_parts name inner t = record { name = name; inner = inner; transformation = t }

made : (name other : List ℕ) (inner next t : Option (List ℕ)) (n : ℕ) → name ≡ other → inner ≡ next →
    taken (with_parts name inner t) n ≡ taken (with_parts other next t) n
made name other inner next t n e h = ap (λ (x : List ℕ). taken (with_parts x inner t) n) e ∙ ap (λ (x : Option (List ℕ)). taken (with_parts other x t) n) h

bracket_is : (text : List ℕ) (o : Option VariableForm) → tree.with_transformation text (pictured (drop 1 text) o) ≡ pictured text (transformed_form text o)
unfolding form_with_transformation
bracket_is text None = refl
bracket_is text (Some f) =
    let k = before 125 (drop (f.len + 2) text) in
    elim (cases_Bool (begins_with 123 (drop (f.len + 1) text) && begins_with 125 (drop (f.len + 2 + k) text) && begins_with 41 (drop (f.len + 3 + k) text))) [
      | inl t ↦ rw t (made _ _ _ _ _ _ (moved text f.name) (moved_inner text f.inner))
      | inr g ↦ rw g refl
    ]

pub form_is : (text : List ℕ) → variable_at text ≡ pictured text (form_at text)
unfolding variable_at form_at
form_is text = elim (cases_Bool (begins_with 40 text)) [
  | inl t ↦ rw t (ap (λ (o : Option (Variable × ℕ)). tree.with_transformation text o) (named_is (drop 1 text)) ∙ bracket_is text (named_form (drop 1 text)))
  | inr f ↦ rw f (named_is text)
]
