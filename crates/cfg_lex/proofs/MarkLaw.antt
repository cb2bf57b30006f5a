-- Operators and brackets, and the bytes with which no token begins.
use Rattle.std.proofs.Common.{◌≡◌, ◌≢◌, ℕ, Bool, true, false, List, ◌∷◌, ◌==◌, ◌&&◌, refl, sym, subst, inl, inr, Some}
use Rattle.std.specs.Char.{is_ascii_digit}
use Rattle.std.proofs.lemmas.Bool.{cases_Bool, cases_eq, eqb-true, ne_eqb, and_parts}
use Rattle.std.proofs.lemmas.Option.{none-some}
use Rattle.cfg_tree.specs.declared.token.Mark as marks
use Rattle.cfg_tree.specs.declared.token.Mark.TheVariants.{Divide}
use Rattle.cfg_tree.specs.Variables.{begins_name}
use Rattle.cfg_lex.specs.Bytes.{is_blank, is_quote}
use Rattle.cfg_lex.specs.Marks.{two_byte_mark, bracket, one_byte_mark}
use Rattle.cfg_lex.specs.Shapes.{ordinary_at, mark_token_at}

-- what holds of the bytes of the brackets, of the commas and of the operators holds of each byte that is one
bracket_byte : (P : ℕ → Type 0) → P 40 → P 41 → P 91 → P 93 → P 123 → P 125 → P 44 → P 59 → P 58 → (a : ℕ) (m : marks.Mark) →
    bracket a ≡ Some m → P a
unfolding bracket
bracket_byte P p40 p41 p91 p93 p123 p125 p44 p59 p58 a m h =
    elim (cases_eq a 40) [
      | inl e ↦ subst P (sym e) p40
      | inr n1 ↦
          elim (cases_eq a 41) [
            | inl e ↦ subst P (sym e) p41
            | inr n2 ↦
                elim (cases_eq a 91) [
                  | inl e ↦ subst P (sym e) p91
                  | inr n3 ↦
                      elim (cases_eq a 93) [
                        | inl e ↦ subst P (sym e) p93
                        | inr n4 ↦
                            elim (cases_eq a 123) [
                              | inl e ↦ subst P (sym e) p123
                              | inr n5 ↦
                                  elim (cases_eq a 125) [
                                    | inl e ↦ subst P (sym e) p125
                                    | inr n6 ↦
                                        elim (cases_eq a 44) [
                                          | inl e ↦ subst P (sym e) p44
                                          | inr n7 ↦
                                              elim (cases_eq a 59) [
                                                | inl e ↦ subst P (sym e) p59
                                                | inr n8 ↦
                                                    elim (cases_eq a 58) [
                                                      | inl e ↦ subst P (sym e) p58
                                                      | inr n9 ↦
                                                          let k1 = ne_eqb a 40 n1 in
                                                          let k2 = ne_eqb a 41 n2 in
                                                          let k3 = ne_eqb a 91 n3 in
                                                          let k4 = ne_eqb a 93 n4 in
                                                          let k5 = ne_eqb a 123 n5 in
                                                          let k6 = ne_eqb a 125 n6 in
                                                          let k7 = ne_eqb a 44 n7 in
                                                          let k8 = ne_eqb a 59 n8 in
                                                          let k9 = ne_eqb a 58 n9 in
                                                          absurd (none-some m (rw (k1, k2, k3, k4, k5, k6, k7, k8, k9) at h))
                                                    ]
                                              ]
                                        ]
                                  ]
                            ]
                      ]
                ]
          ]
    ]

mark_byte : (P : ℕ → Type 0) → P 61 → P 60 → P 62 → P 33 → P 43 → P 45 → P 42 → P 47 → P 40 → P 41 → P 91 → P 93 → P 123 → P 125 →
    P 44 → P 59 → P 58 → (a : ℕ) (m : marks.Mark) → one_byte_mark a ≡ Some m → P a
unfolding one_byte_mark
mark_byte P p61 p60 p62 p33 p43 p45 p42 p47 p40 p41 p91 p93 p123 p125 p44 p59 p58 a m h =
    elim (cases_eq a 61) [
      | inl e ↦ subst P (sym e) p61
      | inr n1 ↦
          elim (cases_eq a 60) [
            | inl e ↦ subst P (sym e) p60
            | inr n2 ↦
                elim (cases_eq a 62) [
                  | inl e ↦ subst P (sym e) p62
                  | inr n3 ↦
                      elim (cases_eq a 33) [
                        | inl e ↦ subst P (sym e) p33
                        | inr n4 ↦
                            elim (cases_eq a 43) [
                              | inl e ↦ subst P (sym e) p43
                              | inr n5 ↦
                                  elim (cases_eq a 45) [
                                    | inl e ↦ subst P (sym e) p45
                                    | inr n6 ↦
                                        elim (cases_eq a 42) [
                                          | inl e ↦ subst P (sym e) p42
                                          | inr n7 ↦
                                              elim (cases_eq a 47) [
                                                | inl e ↦ subst P (sym e) p47
                                                | inr n8 ↦
                                                    let k1 = ne_eqb a 61 n1 in
                                                    let k2 = ne_eqb a 60 n2 in
                                                    let k3 = ne_eqb a 62 n3 in
                                                    let k4 = ne_eqb a 33 n4 in
                                                    let k5 = ne_eqb a 43 n5 in
                                                    let k6 = ne_eqb a 45 n6 in
                                                    let k7 = ne_eqb a 42 n7 in
                                                    let k8 = ne_eqb a 47 n8 in
                                                    bracket_byte P p40 p41 p91 p93 p123 p125 p44 p59 p58 a m (rw (k1, k2, k3, k4, k5, k6, k7, k8) at h)
                                              ]
                                        ]
                                  ]
                            ]
                      ]
                ]
          ]
    ]

-- the first byte of an operator of two
both_of : (a b x y : ℕ) → ((a == x) && (b == y)) ≡ true → a ≡ x
both_of a b x y h = eqb-true a x (and_parts (a == x) (b == y) h).0

two_bytes : (P : ℕ → Type 0) → P 61 → P 33 → P 60 → P 62 → P 124 → P 38 → (a b : ℕ) (m : marks.Mark) → two_byte_mark a b ≡ Some m → P a
unfolding two_byte_mark
two_bytes P p61 p33 p60 p62 p124 p38 a b m h =
    elim (cases_Bool ((a == 61) && (b == 61))) [
      | inl t ↦ subst P (sym (both_of a b 61 61 t)) p61
      | inr f1 ↦
          elim (cases_Bool ((a == 33) && (b == 61))) [
            | inl t ↦ subst P (sym (both_of a b 33 61 t)) p33
            | inr f2 ↦
                elim (cases_Bool ((a == 60) && (b == 61))) [
                  | inl t ↦ subst P (sym (both_of a b 60 61 t)) p60
                  | inr f3 ↦
                      elim (cases_Bool ((a == 62) && (b == 61))) [
                        | inl t ↦ subst P (sym (both_of a b 62 61 t)) p62
                        | inr f4 ↦
                            elim (cases_Bool ((a == 61) && (b == 126))) [
                              | inl t ↦ subst P (sym (both_of a b 61 126 t)) p61
                              | inr f5 ↦
                                  elim (cases_Bool ((a == 124) && (b == 124))) [
                                    | inl t ↦ subst P (sym (both_of a b 124 124 t)) p124
                                    | inr f6 ↦
                                        elim (cases_Bool ((a == 38) && (b == 38))) [
                                          | inl t ↦ subst P (sym (both_of a b 38 38 t)) p38
                                          | inr f7 ↦
                                              absurd (none-some m (rw (f1, f2, f3, f4, f5, f6, f7) at h))
                                        ]
                                  ]
                            ]
                      ]
                ]
          ]
    ]

-- at such a byte an operator or a bracket is read
abbrev pub ReadsMark : ℕ → Type 0
ReadsMark a = (fresh : Bool) (text : List ℕ) → ordinary_at fresh (a ∷ text) ≡ mark_token_at a text

pub two_reads : (a b : ℕ) (m : marks.Mark) → two_byte_mark a b ≡ Some m → ReadsMark a
unfolding ordinary_at
two_reads a b m h = two_bytes ReadsMark (λ f t. refl) (λ f t. refl) (λ f t. refl) (λ f t. refl) (λ f t. refl) (λ f t. refl) a b m h

-- but for `/`
abbrev pub ReadsOther : ℕ → Type 0
ReadsOther a = a ≢ 47 → ReadsMark a

pub one_reads : (a : ℕ) (m : marks.Mark) → one_byte_mark a ≡ Some m → ReadsOther a
unfolding ordinary_at
one_reads a m h = mark_byte ReadsOther (λ n f t. refl) (λ n f t. refl) (λ n f t. refl) (λ n f t. refl) (λ n f t. refl) (λ n f t. refl)
    (λ n f t. refl) (λ n f t. absurd (n refl)) (λ n f t. refl) (λ n f t. refl) (λ n f t. refl) (λ n f t. refl) (λ n f t. refl)
    (λ n f t. refl) (λ n f t. refl) (λ n f t. refl) (λ n f t. refl) a m h

pub divide_is : one_byte_mark 47 ≡ Some Divide
unfolding one_byte_mark
divide_is = refl

-- any other byte is read as a mark too
pub other_reads : (fresh : Bool) (b : ℕ) (text : List ℕ) → is_blank b ≡ false → b ≢ 35 → b ≢ 47 → begins_name b ≡ false →
    is_ascii_digit b ≡ false → is_quote b ≡ false → b ≢ 36 → ordinary_at fresh (b ∷ text) ≡ mark_token_at b text
unfolding ordinary_at
other_reads fresh b text blank hash slash word digit quote dollar =
    let h = ne_eqb b 35 hash in
    let s = ne_eqb b 47 slash in
    let d = ne_eqb b 36 dollar in
    rw (blank, h, s, word, digit, quote, d) refl
