-- A name with an ending.
use Rattle.std.proofs.Common.{◌≡◌, ℕ, true, false, ◌==◌, ◌&&◌, ◌||◌, List, [], ◌∷◌, ◌++◌, length, take, drop, codes, refl, ◌∙◌, ap, sym, inl, inr}
use Rattle.std.specs.Str.{bytes_eq}
use Rattle.std.proofs.lemmas.Bool.{cases_Bool, false≢true}
use Rattle.std.proofs.lemmas.List.{append-nil}

-- a text that equals two texts joined
joined : (text name end : List ℕ) → bytes_eq text (name ++ end) ≡ (bytes_eq (take (length name) text) name && bytes_eq (drop (length name) text) end)
joined text [] end = refl
joined [] (x ∷ name) end = refl
joined (c ∷ text) (x ∷ name) end = elim (cases_Bool (c == x)) [
  | inl t ↦ rw (t, joined text name end) refl
  | inr f ↦ rw f refl
]

whole : (text name : List ℕ) → bytes_eq text name ≡ (bytes_eq (take (length name) text) name && bytes_eq (drop (length name) text) [])
whole text name = ap (bytes_eq text) (sym (append-nil name)) ∙ joined text name []

pub file_some : (text name : List ℕ) → bytes_eq (take (length name) text) name ≡ true → (bytes_eq text name || bytes_eq text (name ++ codes ".so")) ≡ (bytes_eq (drop (length name) text) [] || bytes_eq (drop (length name) text) (codes ".so"))
file_some text name h = rw (whole text name, joined text name (codes ".so"), h) refl

pub file_none : (text name : List ℕ) → bytes_eq (take (length name) text) name ≡ false → (bytes_eq text name || bytes_eq text (name ++ codes ".so")) ≡ false
file_none text name h = rw (whole text name, joined text name (codes ".so"), h) refl

some_ending : (ending : List ℕ) → (length ending == 0) ≡ false → bytes_eq ending [] ≡ false
some_ending [] h = absurd (false≢true (sym h))
some_ending (c ∷ cs) h = refl

pub file_ends : (text name ending : List ℕ) → bytes_eq (take (length name) text) name ≡ true → ending ≡ drop (length name) text → (length ending == 0) ≡ false → (bytes_eq text name || bytes_eq text (name ++ codes ".so")) ≡ bytes_eq ending (codes ".so")
file_ends text name ending h is some =
    file_some text name h ∙ rw (← is) (ap (λ b. b || bytes_eq ending (codes ".so")) (some_ending ending some))
