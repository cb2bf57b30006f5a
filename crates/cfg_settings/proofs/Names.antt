-- A text cut at its first `=>`, and names.
use Rattle.std.proofs.Common.{◌≡◌, ◌⊎◌, ℕ, suc, ◌+◌, ◌-◌, ◌<◌, ◌≤◌, Bool, true, false, ◌==◌, ◌&&◌, nat_le, List, [], ◌∷◌, ◌++◌, length, get_or, take, drop, Option, Some, None, refl, sym, ◌∙◌, ap, inl, inr, append_assoc, arith}
use Rattle.std.specs.List.{prefix_len, list_all}
use Rattle.std.proofs.lemmas.Bool.{cases_Bool}
use Rattle.std.proofs.lemmas.Bool.Decides.{nat_tests}
use Rattle.std.proofs.lemmas.List.{drop_more, drop_all, take_more, append-nil, drop-drop, take_rest}
use Rattle.cfg_tree.specs.Variables.{begins_name, goes_on, is_name, begins_with}
use Rattle.cfg_tree.specs.Names.{table_and_key}

-- a cut of a text's end, with the bytes before that end
abbrev pub behind : List ℕ → Option (List ℕ × List ℕ) → Option (List ℕ × List ℕ)
behind front None = None
behind front (Some (name, key)) = Some (front ++ name, key)

pub cases_Option : {A : Type 0} (o : Option A) → (o ≡ None) ⊎ ((a : A) × (o ≡ Some a))
cases_Option None = inl refl
cases_Option (Some a) = inr (a, refl)

cut_goes : (front : List ℕ) (c : ℕ) (cs : List ℕ) → ((c == 61) && begins_with 62 cs) ≡ false → behind front (table_and_key (c ∷ cs)) ≡ behind (front ++ c ∷ []) (table_and_key cs)
cut_goes front c cs h = elim (cases_Option (table_and_key cs)) [
  | inl e ↦ rw (h, e) refl
  | inr (s, e) ↦ rw (h, e, append_assoc) refl
]

-- no `=>` stands here
pub cut_later : (text : List ℕ) (i : ℕ) → i < length text → (begins_with 61 (drop i text) && begins_with 62 (drop (i + 1) text)) ≡ false → behind (take i text) (table_and_key (drop i text)) ≡ behind (take (i + 1) text) (table_and_key (drop (i + 1) text))
cut_later text i lt h =
    let d = drop_more text i 0 lt in
    let t = take_more text i 0 lt in
    let g = rw d at h in
    rw (d, t) (cut_goes (take i text) (get_or text i 0) (drop (i + 1) text) g)

-- one stands here
pub cut_here : (text : List ℕ) (i : ℕ) → i < length text → begins_with 61 (drop i text) ≡ true → begins_with 62 (drop (i + 1) text) ≡ true → behind (take i text) (table_and_key (drop i text)) ≡ Some (take i text, take (length text - (i + 2)) (drop (i + 2) text))
cut_here text i lt equals greater =
    let d = drop_more text i 0 lt in
    let g = rw d at equals in
    let n = append-nil (take i text) in
    let e : drop 1 (drop (i + 1) text) ≡ drop (i + 2) text = drop-drop 1 (i + 1) text ∙ ap (λ k. drop k text) (omega arith) in
    rw (d, g, greater, n, e, take_rest text (i + 2)) refl

-- none stood anywhere
pub cut_nowhere : (text : List ℕ) (i : ℕ) → length text ≤ i → behind (take i text) (table_and_key (drop i text)) ≡ None
cut_nowhere text i le = rw (drop_all i text le) refl

suc_eqb : (a b : ℕ) → (suc a == suc b) ≡ (a == b)
suc_eqb a b = grind (arith, nat_tests)

suc_eqb_plus : (a b : ℕ) → (1 + a == suc b) ≡ (a == b)
suc_eqb_plus a b = grind (arith, nat_tests)

some_le : (n : ℕ) → nat_le 1 (suc n) ≡ true
some_le n = grind (arith, nat_tests)

none_eq : (n : ℕ) → (0 == suc n) ≡ false
none_eq n = grind (arith, nat_tests)

-- all bytes are of a class
pub whole_run : (p : ℕ → Bool) (text : List ℕ) → (prefix_len p text == length text) ≡ list_all p text
whole_run p [] = refl
whole_run p (c ∷ cs) = elim (cases_Bool (p c)) [
  | inl t ↦ let more = whole_run p cs in rw (t, ← more) (suc_eqb_plus (prefix_len p cs) (length cs))
  | inr f ↦ rw f (none_eq (length cs))
]

whole_name : (c : ℕ) (cs : List ℕ) → is_name (c ∷ cs) ≡ (begins_name c && list_all goes_on cs)
whole_name c cs = elim (cases_Bool (begins_name c)) [
  | inl t ↦ rw (t, some_le (length cs)) (suc_eqb (prefix_len goes_on cs) (length cs) ∙ whole_run goes_on cs)
  | inr f ↦ rw (f, some_le (length cs)) (none_eq (length cs))
]

pub named : (text : List ℕ) → 1 ≤ length text → begins_name (get_or text 0 0) ≡ true → list_all goes_on (take (length text - 1) (drop 1 text)) ≡ is_name text
named [] some begins = absurd (omega (arith, some))
named (c ∷ cs) some begins =
    let e : (begins_name c && list_all goes_on cs) ≡ list_all goes_on cs = ap (λ b. b && list_all goes_on cs) begins in
    rw take_rest (sym (whole_name c cs ∙ e))
