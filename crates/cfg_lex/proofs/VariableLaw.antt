-- Variables: the relation and the reading function agree.
use Rattle.std.proofs.Common.{◌≡◌, ℕ, zero, suc, ◌+◌, ◌<◌, ◌≤◌, Bool, true, false, List, [], ◌∷◌, ◌++◌, length, take, drop, ◌==◌, refl, sym, subst, ap, ◌∙◌, inl, inr, arith, Option, Some, None, Err, length-drop}
use Rattle.std.proofs.lemmas.Bool.{cases_Bool, both_ways, and_parts}
use Rattle.std.proofs.lemmas.List.Sums.{prefix_len-le-length}
use Rattle.std.proofs.lemmas.List.{take-append-drop, length-take-le}
use Rattle.std.proofs.lemmas.Option.{same_Some, none-some, cond_some}
use Rattle.cfg_tree.specs.declared.token.Variable.{Variable}
use Rattle.cfg_tree.specs.declared.token.Lexeme.TheVariants as lexeme
use Rattle.cfg_tree.specs.Variables.{begins_name, goes_on, name_len, begins_with, before, before_close, variable_at}
use Rattle.cfg_lex.specs.declared.variable.VariableForm.{VariableForm}
use Rattle.cfg_lex.specs.declared.shape.TokenShape.TheVariants as shape
use Rattle.cfg_lex.specs.declared.shape.Wrong.TheVariants.{Unclosed}
use Rattle.cfg_lex.specs.Variables.{opened_behind, closes, variable_of, form_with_inner, form_with_transformation, transformed_form, named_form, form_at, is_cut_off}
use Rattle.cfg_lex.proofs.EndLaw.{map_some}
use Rattle.cfg_lex.proofs.Closings.{closed, ones, open_on}
use Rattle.cfg_lex.specs.Shapes.{bad, variable_to, dollar_at, ordinary_at, lexeme_of}
use Rattle.cfg_lex.specs.Tokens.{IsOrdinary, variable, open_variable, stray_dollar}
use Rattle.cfg_lex.proofs.ReadLaw.{Reads, token, ReadsToken, same_fault}
use Rattle.cfg_lex.proofs.PictureLaw.{pictured, form_is}
use Rattle.cfg_lex.proofs.Bytewise.{at_dollar}

-- ---- a variable lies in its text

name_fits : (text : List ℕ) → name_len text ≤ length text
name_fits [] = omega arith
name_fits (c ∷ cs) = let le = prefix_len-le-length goes_on cs in elim (cases_Bool (begins_name c)) [
  | inl t ↦ rw t (omega (arith, le))
  | inr f ↦ rw f (omega arith)
]

begins_within : (b i : ℕ) (text : List ℕ) → begins_with b (drop i text) ≡ true → i < length text
begins_within b zero [] h = absurd (both_ways _ refl h)
begins_within b zero (x ∷ text) h = omega arith
begins_within b (suc i) [] h = absurd (both_ways _ refl h)
begins_within b (suc i) (x ∷ text) h = let r = begins_within b i text h in omega (arith, r)

close_within : (o : ℕ) (text : List ℕ) (k : ℕ) → before_close o text ≡ Some k → k < length text
close_within o [] k h = absurd (none-some k h)
close_within o (c ∷ cs) k h = elim (cases_Bool (closes c o)) [
  | inl t ↦ let e = same_Some 0 k (sym (closed c cs o t) ∙ h) in omega (arith, e)
  | inr f ↦
      let m = map_some 1 (before_close (opened_behind c o) cs) k (sym (open_on c cs o f ∙ ones _) ∙ h) in
      let r = close_within (opened_behind c o) cs m.0 m.1 in
      omega (arith, r, m.2)
]

inner_fits : (n : ℕ) (text : List ℕ) (o : Option ℕ) (f : VariableForm) → before_close 0 (drop (n + 1) text) ≡ o → form_with_inner n o ≡ Some f → f.len ≤ length text
inner_fits n text None f e h = absurd (none-some f h)
inner_fits n text (Some k) f e h =
    let len : n + k + 2 ≡ f.len = ap (λ (g : VariableForm). g.len) (same_Some _ _ h) in
    let r = close_within 0 (drop (n + 1) text) k e in
    omega (arith, len, r, length-drop (n + 1) text)

named_fits : (text : List ℕ) (f : VariableForm) → named_form text ≡ Some f → f.len ≤ length text
unfolding named_form
named_fits text f h = elim (cases_Bool (name_len text == 0)) [
  | inl t ↦ absurd (none-some f (rw t at h))
  | inr n ↦ elim (cases_Bool (begins_with 40 (drop (name_len text) text))) [
    | inl t ↦ inner_fits (name_len text) text _ f refl (rw (n, t) at h)
    | inr g ↦
        let len = ap (λ (x : VariableForm). x.len) (same_Some _ _ (rw (n, g) at h)) in
        omega (arith, len, name_fits text)
  ]
]

bracket_fits : (text : List ℕ) (o : Option VariableForm) (f : VariableForm) → transformed_form text o ≡ Some f → f.len ≤ length text
unfolding form_with_transformation
bracket_fits text None f h = absurd (none-some f h)
bracket_fits text (Some g) f h =
    let c = cond_some _ _ f h in
    let k : ℕ = before 125 (drop (g.len + 2) text) in
    let last = (and_parts _ (begins_with 41 (drop (g.len + 3 + k) text)) c.0).1 in
    let r = begins_within 41 (g.len + 3 + k) text last in
    let len : g.len + k + 4 ≡ f.len = ap (λ (x : VariableForm). x.len) c.1 in
    omega (arith, len, r)

pub form_fits : (text : List ℕ) (f : VariableForm) → form_at text ≡ Some f → f.len ≤ length text
unfolding form_at
form_fits text f h = elim (cases_Bool (begins_with 40 text)) [
  | inl t ↦ bracket_fits text (named_form (drop 1 text)) f (rw t at h)
  | inr g ↦ named_fits text f (rw g at h)
]

-- ---- from the function

none_reads : (fresh : Bool) (text : List ℕ) → variable_at text ≡ None → Reads fresh (36 ∷ text) (variable_to text None)
none_reads fresh text h = elim (cases_Bool (is_cut_off text)) [
  | inl t ↦ rw t (same_fault fresh _ (36 ∷ text) 2 0 _ 0 _ (open_variable fresh text h t) refl refl (omega arith))
  | inr f ↦ rw f (stray_dollar fresh text h f)
]

some_reads : (fresh : Bool) (text : List ℕ) (f : VariableForm) → variable_at text ≡ Some (variable_of text f, f.len) → f.len ≤ length text →
    Reads fresh (36 ∷ text) (variable_to text (Some f))
unfolding lexeme_of
some_reads fresh text f h le =
    let n : suc f.len ≡ f.len + 1 = omega arith in
    let len : f.len ≡ length (take f.len text) = sym (length-take-le f.len text le) in
    let whole : variable_at (take f.len text ++ drop f.len text) ≡ Some (variable_of text f, length (take f.len text)) =
    ap variable_at (take-append-drop f.len text) ∙ h ∙ ap (λ (k : ℕ). Some (variable_of text f, k)) len in
    let P : ℕ → Type 0 = λ k. IsOrdinary (take k (36 ∷ text)) (drop k (36 ∷ text)) (lexeme.Variable (variable_of text f)) in
    subst P n (variable (take f.len text) (drop f.len text) (variable_of text f) whole)

pub dollar_reads : (fresh : Bool) (text : List ℕ) → Reads fresh (36 ∷ text) (dollar_at text)
unfolding dollar_at
dollar_reads fresh text = by_cases (form_at text) refl
  where
    by_cases : (o : Option VariableForm) → form_at text ≡ o → Reads fresh (36 ∷ text) (variable_to text o)
    by_cases None e = none_reads fresh text (form_is text ∙ ap (pictured text) e)
    by_cases (Some f) e = some_reads fresh text f (form_is text ∙ ap (pictured text) e) (form_fits text f e)

-- ---- from the relation

read_form : (text : List ℕ) (o : Option VariableForm) → form_at text ≡ o → dollar_at text ≡ variable_to text o
unfolding dollar_at
read_form text o e = rw e refl

variable_text : (text : List ℕ) (f : VariableForm) (n : ℕ) (v : Variable) → variable_of text f ≡ v → lexeme_of (36 ∷ text) (shape.Variable f) n ≡ lexeme.Variable v
unfolding lexeme_of
variable_text text f n v e = ap (λ (x : Variable). lexeme.Variable x) e

pub variable_again : (fresh : Bool) (w rest : List ℕ) (v : Variable) → variable_at (w ++ rest) ≡ Some (v, length w) →
    ReadsToken fresh (36 ∷ w ++ rest) (36 ∷ w) (lexeme.Variable v)
variable_again fresh w rest v h = by_cases (form_at (w ++ rest)) refl
  where
    by_cases : (o : Option VariableForm) → form_at (w ++ rest) ≡ o → ReadsToken fresh (36 ∷ w ++ rest) (36 ∷ w) (lexeme.Variable v)
    by_cases None e = absurd (none-some (v, length w) (sym (form_is (w ++ rest) ∙ ap (pictured (w ++ rest)) e) ∙ h))
    by_cases (Some f) e =
        let same = same_Some _ _ (sym (form_is (w ++ rest) ∙ ap (pictured (w ++ rest)) e) ∙ h) in
        let is : variable_of (w ++ rest) f ≡ v = ap (λ (p : Variable × ℕ). p.0) same in
        let len : f.len ≡ length w = ap (λ (p : Variable × ℕ). p.1) same in
        record {
          shape = shape.Variable f;
          read = at_dollar fresh (w ++ rest) ∙ read_form (w ++ rest) (Some f) e ∙ ap (token (shape.Variable f)) (omega (arith, len));
          lexeme = variable_text (w ++ rest) f _ v is;
        }

read_cut : (text : List ℕ) → form_at text ≡ None → is_cut_off text ≡ true → dollar_at text ≡ Err Unclosed
unfolding dollar_at
read_cut text e t = rw (e, t) refl

read_stray : (text : List ℕ) → form_at text ≡ None → is_cut_off text ≡ false → dollar_at text ≡ bad 0 1
unfolding dollar_at
read_stray text e t = rw (e, t) refl

no_form : (text : List ℕ) → variable_at text ≡ None → form_at text ≡ None
no_form text h = by_cases (form_at text) refl
  where
    by_cases : (o : Option VariableForm) → form_at text ≡ o → o ≡ None
    by_cases None e = refl
    by_cases (Some f) e = absurd (none-some (variable_of text f, f.len) (sym h ∙ form_is text ∙ ap (pictured text) e))

pub cut_again : (fresh : Bool) (text : List ℕ) → variable_at text ≡ None → is_cut_off text ≡ true → ordinary_at fresh (36 ∷ text) ≡ Err Unclosed
cut_again fresh text h t = at_dollar fresh text ∙ read_cut text (no_form text h) t

pub stray_dollar_again : (fresh : Bool) (text : List ℕ) → variable_at text ≡ None → is_cut_off text ≡ false → ordinary_at fresh (36 ∷ text) ≡ bad 0 1
stray_dollar_again fresh text h t = at_dollar fresh text ∙ read_stray text (no_form text h) t
