-- A search from the front of a text: where what is sought stands, from a place on.
use Rattle.std.proofs.Common.{◌≡◌, ℕ, ◌+◌, List, drop, refl, sym, ap, ◌∙◌, arith, Option, Some, None, option_map}

-- what f finds from the place i on, counted from the front
abbrev pub seek : (List ℕ → Option ℕ) → List ℕ → ℕ → Option ℕ
seek f text i = option_map (λ n. i + n) (f (drop i text))

later : (i k : ℕ) (o : Option ℕ) → option_map (λ n. (i + k) + n) o ≡ option_map (λ n. i + n) (option_map (λ n. k + n) o)
later i k None = refl
later i k (Some n) = ap (λ (m : ℕ). Some m) (omega arith)

-- it isn't among the first k bytes
pub seek_on : (f g : List ℕ → Option ℕ) (text : List ℕ) (i k : ℕ) → f (drop i text) ≡ option_map (λ n. k + n) (g (drop (i + k) text)) →
    seek g text (i + k) ≡ seek f text i
seek_on f g text i k h = later i k (g (drop (i + k) text)) ∙ ap (λ (o : Option ℕ). option_map (λ n. i + n) o) (sym h)

-- it is here
pub seek_here : (f : List ℕ → Option ℕ) (text : List ℕ) (i : ℕ) → f (drop i text) ≡ Some 0 → seek f text i ≡ Some i
seek_here f text i h = ap (λ (o : Option ℕ). option_map (λ n. i + n) o) h ∙ ap (λ (m : ℕ). Some m) (omega arith)

-- it is nowhere
pub seek_never : (f : List ℕ → Option ℕ) (text : List ℕ) (i : ℕ) → f (drop i text) ≡ None → seek f text i ≡ None
seek_never f text i h = ap (λ (o : Option ℕ). option_map (λ n. i + n) o) h

pub seek_first : (f : List ℕ → Option ℕ) (text : List ℕ) → seek f text 0 ≡ f text
seek_first f text = by_cases (f text)
  where
    by_cases : (o : Option ℕ) → option_map (λ n. 0 + n) o ≡ o
    by_cases None = refl
    by_cases (Some n) = ap (λ (m : ℕ). Some m) (omega arith)
