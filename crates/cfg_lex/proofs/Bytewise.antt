-- What the first byte of a text decides.
use Rattle.std.proofs.Common.{◌≡◌, ◌≢◌, ℕ, Bool, true, false, List, [], ◌∷◌, ◌==◌, refl, sym, subst, inl, inr, arith, Ok}
use Rattle.std.proofs.lemmas.Bool.Decides.{nat_tests}
use Rattle.cfg_lex.specs.declared.shape.Found.TheVariants.{Gap}
use Rattle.std.specs.Char.{is_ascii_digit}
use Rattle.std.specs.List.{list_any}
use Rattle.std.specs.Prelude.{codes}
use Rattle.std.proofs.lemmas.Bool.{cases_Bool, cases_eq, ne_eqb, both_ways}
use Rattle.cfg_tree.specs.Variables.{begins_name}
use Rattle.cfg_lex.specs.Bytes.{is_blank, is_quote}
use Rattle.cfg_lex.specs.Shapes.{ordinary_at, hash_at, slash_at, word_token_at, number_token_at, string_at, dollar_at}

-- a byte of a class is none that the class lacks
pub differs : (p : ℕ → Bool) (b m : ℕ) → p b ≡ true → p m ≡ false → (b == m) ≡ false
differs p b m has_it lacks = elim (cases_eq b m) [
  | inl e ↦ let P : ℕ → Type 0 = λ n. p n ≡ true in absurd (both_ways _ lacks (subst P e has_it))
  | inr n ↦ ne_eqb b m n
]

-- and none of a list of such
pub none_of : (p : ℕ → Bool) (b : ℕ) (ms : List ℕ) → p b ≡ true → list_any p ms ≡ false → list_any (λ m. m == b) ms ≡ false
none_of p b [] h lack = refl
none_of p b (m ∷ ms) h lack = elim (cases_Bool (p m)) [
  | inl t ↦ absurd (both_ways (list_any p (m ∷ ms)) lack (rw t refl))
  | inr f ↦
      let other : (m == b) ≡ false = elim (cases_eq m b) [
        | inl e ↦ let P : ℕ → Type 0 = λ n. p n ≡ false in absurd (both_ways _ (subst P e f) h)
        | inr n ↦ ne_eqb m b n
      ] in
      let rest : list_any p ms ≡ false = rw f at lack in
      rw other (none_of p b ms h rest)
]

pub at_blank : (fresh : Bool) (b : ℕ) (text : List ℕ) → is_blank b ≡ true → ordinary_at fresh (b ∷ text) ≡ Ok (Gap 1)
unfolding ordinary_at
at_blank fresh b text h = rw h refl

pub at_hash : (fresh : Bool) (text : List ℕ) → ordinary_at fresh (35 ∷ text) ≡ hash_at fresh text
unfolding ordinary_at
at_hash fresh text = refl

pub at_slash : (fresh : Bool) (text : List ℕ) → ordinary_at fresh (47 ∷ text) ≡ slash_at text
unfolding ordinary_at
at_slash fresh text = refl

pub at_word : (fresh : Bool) (b : ℕ) (text : List ℕ) → begins_name b ≡ true → ordinary_at fresh (b ∷ text) ≡ word_token_at (b ∷ text)
unfolding ordinary_at
at_word fresh b text h =
    let blank : is_blank b ≡ false = none_of begins_name b (codes " \t\r\n") h refl in
    let hash = differs begins_name b 35 h refl in
    let slash = differs begins_name b 47 h refl in
    rw (blank, hash, slash, h) refl

no_name : (b : ℕ) → is_ascii_digit b ≡ true → begins_name b ≡ false
no_name b h = elim (cases_Bool (begins_name b)) [ inl t ↦ absurd (grind (arith, nat_tests)) | inr f ↦ f ]

pub at_digit : (fresh : Bool) (b : ℕ) (text : List ℕ) → is_ascii_digit b ≡ true → ordinary_at fresh (b ∷ text) ≡ number_token_at (b ∷ text)
unfolding ordinary_at
at_digit fresh b text h =
    let blank : is_blank b ≡ false = none_of is_ascii_digit b (codes " \t\r\n") h refl in
    let hash = differs is_ascii_digit b 35 h refl in
    let slash = differs is_ascii_digit b 47 h refl in
    rw (blank, hash, slash, no_name b h, h) refl

quote_cases : (P : ℕ → Type 0) → P 34 → P 39 → (q : ℕ) → is_quote q ≡ true → P q
quote_cases P double single q h = elim (cases_eq q 34) [
  | inl e ↦ subst P (sym e) double
  | inr n ↦ elim (cases_eq q 39) [
    | inl e ↦ subst P (sym e) single
    | inr k ↦ let a = ne_eqb q 34 n in let b = ne_eqb q 39 k in absurd (both_ways (is_quote q) (rw (a, b) refl) h)
  ]
]

pub at_quote : (fresh : Bool) (q : ℕ) (text : List ℕ) → is_quote q ≡ true → ordinary_at fresh (q ∷ text) ≡ string_at q text
unfolding ordinary_at
at_quote fresh q text h = quote_cases (λ b. ordinary_at fresh (b ∷ text) ≡ string_at b text) refl refl q h

pub no_slash : (q : ℕ) → is_quote q ≡ true → q ≢ 92
no_slash q h = quote_cases (λ b. b ≢ 92) (λ e. omega (arith, e)) (λ e. omega (arith, e)) q h

pub at_dollar : (fresh : Bool) (text : List ℕ) → ordinary_at fresh (36 ∷ text) ≡ dollar_at text
unfolding ordinary_at
at_dollar fresh text = refl
