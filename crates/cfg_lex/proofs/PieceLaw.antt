-- The pieces of a text, one after the other.
use Rattle.std.proofs.Common.{◌≡◌, ℕ, zero, suc, ◌+◌, ◌-◌, ◌<◌, ◌≤◌, List, [], ◌∷◌, ◌++◌, length, take, drop, nat_le, refl, sym, ap, ◌∙◌, inl, inr, arith, Option, Some, None, option_map, append_assoc, length-drop}
use Rattle.std.specs.Prelude.{map}
use Rattle.std.proofs.lemmas.Bool.{cases_Bool, leb-true}
use Rattle.std.proofs.lemmas.List.{take_rest, drop-drop, drop_all, append-nil}
use Rattle.cfg_tree.specs.declared.token.Variable.{Variable}
use Rattle.cfg_tree.specs.Variables.{before, begins_with, variable_at, pieces_in, pieces_of, behind_variable}
use Rattle.cfg_tree.specs.Variables as tree
use Rattle.cfg_lex.specs.declared.piece.Piece.{Piece}
use Rattle.cfg_lex.specs.declared.variable.VariableForm.{VariableForm}
use Rattle.cfg_lex.specs.Variables.{form_at}
use Rattle.cfg_lex.specs.Pieces.{as_piece, variable_piece, first_piece}
use Rattle.cfg_lex.proofs.PictureLaw.{pictured, form_is}

abbrev pub in_front : tree.Piece → Option (List tree.Piece) → Option (List tree.Piece)
in_front p o = option_map (λ ps. p ∷ ps) o

-- any number that is large enough serves
more_same : (f g : List ℕ → Option (List tree.Piece)) (text : List ℕ) (o : Option (Variable × ℕ)) →
    ((n : ℕ) → f (drop n text) ≡ g (drop n text)) → behind_variable f text o ≡ behind_variable g text o
more_same f g text None same = refl
more_same f g text (Some r) same = ap (in_front (tree.Of r.0)) (same r.1)

enough : (n m : ℕ) (text : List ℕ) → length text ≤ n → length text ≤ m → pieces_in n text ≡ pieces_in m text
unfolding pieces_in
enough zero zero [] a b = refl
enough zero (suc m) [] a b = refl
enough (suc n) zero [] a b = refl
enough (suc n) (suc m) [] a b = refl
enough zero m (c ∷ cs) a b = absurd (omega arith)
enough (suc n) zero (c ∷ cs) a b = absurd (omega arith)
enough (suc n) (suc m) (c ∷ cs) a b = elim (cases_Bool (nat_le 1 (before 36 (c ∷ cs)))) [
  | inl t ↦
      let some = leb-true _ _ t in
      let k = length-drop (before 36 (c ∷ cs)) (c ∷ cs) in
      rw t (ap (in_front (tree.Plain (take (before 36 (c ∷ cs)) (c ∷ cs)))) (enough n m (drop (before 36 (c ∷ cs)) (c ∷ cs)) (omega (arith, k, some)) (omega (arith, k, some))))
  | inr f ↦ elim (cases_Bool (begins_with 36 cs)) [
    | inl t ↦
        let k = length-drop 1 cs in
        rw (f, t) (ap (in_front (tree.Plain (36 ∷ []))) (enough n m (drop 1 cs) (omega (arith, k)) (omega (arith, k))))
    | inr g ↦
        rw (f, g) (more_same (pieces_in n) (pieces_in m) cs (variable_at cs)
        (λ i. let k = length-drop i cs in enough n m (drop i cs) (omega (arith, k)) (omega (arith, k))))
  ]
]

-- the pieces after the first one
abbrev pub behind_first : List ℕ → Option (tree.Piece × ℕ) → Option (List tree.Piece)
behind_first text None = None
behind_first text (Some r) = in_front r.0 (pieces_of (drop r.1 text))

enough_left : (n : ℕ) (text : List ℕ) → length text ≤ n → pieces_in n text ≡ pieces_of text
enough_left n text le = enough n (length text) text le (omega arith)

variable_step : (c : ℕ) (cs : List ℕ) (o : Option VariableForm) → behind_variable (pieces_in (length cs)) cs (pictured cs o) ≡ behind_first (c ∷ cs) (variable_piece cs o)
variable_step c cs None = refl
variable_step c cs (Some f) =
    let k = length-drop f.len cs in
    let n : suc f.len ≡ f.len + 1 = omega arith in
    ap (in_front (tree.Of _)) (enough_left (length cs) (drop f.len cs) (omega (arith, k)) ∙ ap (λ (i : ℕ). pieces_of (drop i (c ∷ cs))) n)

pub piece_step : (text : List ℕ) → 0 < length text → pieces_of text ≡ behind_first text (first_piece text)
unfolding pieces_in first_piece
piece_step [] some = absurd (omega arith)
piece_step (c ∷ cs) some = elim (cases_Bool (nat_le 1 (before 36 (c ∷ cs)))) [
  | inl t ↦
      let low = leb-true _ _ t in
      let k = length-drop (before 36 (c ∷ cs)) (c ∷ cs) in
      rw t (ap (in_front (tree.Plain (take (before 36 (c ∷ cs)) (c ∷ cs)))) (enough_left (length cs) (drop (before 36 (c ∷ cs)) (c ∷ cs)) (omega (arith, k, low))))
  | inr f ↦ elim (cases_Bool (begins_with 36 cs)) [
    | inl t ↦ let k = length-drop 1 cs in rw (f, t) (ap (in_front (tree.Plain (36 ∷ []))) (enough_left (length cs) (drop 1 cs) (omega (arith, k))))
    | inr g ↦ rw (f, g) (ap (λ o. behind_variable (pieces_in (length cs)) cs o) (form_is cs) ∙ variable_step c cs (form_at cs))
  ]
]

pub no_pieces : pieces_of [] ≡ Some []
unfolding pieces_in
no_pieces = refl

-- ---- the loop

abbrev pub with_front : List tree.Piece → Option (List tree.Piece) → Option (List tree.Piece)
with_front front o = option_map (λ ps. front ++ ps) o

pub front_none : (o : Option (List tree.Piece)) → with_front [] o ≡ o
front_none None = refl
front_none (Some ps) = refl

front_more : (front : List tree.Piece) (p : tree.Piece) (o : Option (List tree.Piece)) → with_front (front ++ p ∷ []) o ≡ with_front front (in_front p o)
front_more front p None = refl
front_more front p (Some ps) = ap (λ (qs : List tree.Piece). Some qs) (append_assoc front (p ∷ []) ps)

map_push : (xs : List Piece) (x : Piece) → map as_piece (xs ++ x ∷ []) ≡ map as_piece xs ++ as_piece x ∷ []
map_push [] x = refl
map_push (y ∷ xs) x = ap (λ ps. as_piece y ∷ ps) (map_push xs x)

pub piece_next : (text : List ℕ) (i n : ℕ) (front items : List Piece) (p : Piece) → i < length text →
    Some (as_piece p, n) ≡ first_piece (take (length text - i) (drop i text)) → items ≡ front ++ p ∷ [] →
    with_front (map as_piece front) (pieces_of (drop i text)) ≡ pieces_of text → with_front (map as_piece items) (pieces_of (drop (i + n) text)) ≡ pieces_of text
piece_next text i n front items p lt h added so_far =
    let k : Some (as_piece p, n) ≡ first_piece (drop i text) = rw take_rest at h in
    let step = piece_step (drop i text) (omega (arith, length-drop i text)) in
    let rest : drop n (drop i text) ≡ drop (i + n) text = drop-drop n i text in
    ap (λ us. with_front (map as_piece us) (pieces_of (drop (i + n) text))) added
    ∙ ap (λ us. with_front us (pieces_of (drop (i + n) text))) (map_push front p)
    ∙ front_more (map as_piece front) (as_piece p) (pieces_of (drop (i + n) text))
    ∙ ap (λ xs. with_front (map as_piece front) (in_front (as_piece p) (pieces_of xs))) (sym rest)
    ∙ ap (λ o. with_front (map as_piece front) (behind_first (drop i text) o)) k
    ∙ ap (with_front (map as_piece front)) (sym step) ∙ so_far

pub piece_none : (text : List ℕ) (i : ℕ) (front : List Piece) → i < length text → None ≡ first_piece (take (length text - i) (drop i text)) →
    with_front (map as_piece front) (pieces_of (drop i text)) ≡ pieces_of text → None ≡ pieces_of text
piece_none text i front lt h so_far =
    let k : None ≡ first_piece (drop i text) = rw take_rest at h in
    let step = piece_step (drop i text) (omega (arith, length-drop i text)) in
    ap (λ o. with_front (map as_piece front) (behind_first (drop i text) o)) k ∙ ap (with_front (map as_piece front)) (sym step) ∙ so_far

pub piece_end : (text : List ℕ) (i : ℕ) (front : List Piece) → length text ≤ i →
    with_front (map as_piece front) (pieces_of (drop i text)) ≡ pieces_of text → Some (map as_piece front) ≡ pieces_of text
piece_end text i front le so_far =
    let none = drop_all i text le in
    ap (λ (us : List tree.Piece). Some us) (sym (append-nil (map as_piece front)))
    ∙ ap (with_front (map as_piece front)) (sym (ap pieces_of none ∙ no_pieces)) ∙ so_far
