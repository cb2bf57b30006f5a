-- What parts tokens: the relation and the reading function agree.
use Rattle.std.proofs.Common.{◌≡◌, ℕ, suc, ◌+◌, Bool, false, not, List, [], ◌∷◌, ◌++◌, length, take, drop, ◌==◌, refl, sym, subst, ap, ◌∙◌, inl, inr, arith, Option, Some, None, Result, Ok, length-append, append_assoc}
use Rattle.std.specs.List.{prefix_len}
use Rattle.std.proofs.lemmas.Bool.{cases_Bool, cases_eq, eq-eqb, ne_eqb, both_ways}
use Rattle.std.proofs.lemmas.List.{take_at, drop_at, take-append-drop}
use Rattle.cfg_tree.specs.declared.token.Lexeme.TheVariants as lexeme
use Rattle.cfg_tree.specs.declared.token.Mark.TheVariants as mark
use Rattle.cfg_tree.specs.Variables.{begins_with, before}
use Rattle.cfg_lex.specs.declared.shape.Found.{Found}
use Rattle.cfg_lex.specs.declared.shape.Found.TheVariants.{Gap}
use Rattle.cfg_lex.specs.declared.shape.Wrong.{Wrong}
use Rattle.cfg_lex.specs.Comments.{is_no_comment, before_end}
use Rattle.cfg_lex.specs.Marks.{two_byte_mark}
use Rattle.cfg_lex.specs.Shapes.{comment_to, hash_at, slash_at, ordinary_at, lexeme_of}
use Rattle.cfg_lex.specs.Tokens.{RunsToLineEnd, IsBlankOrComment, blank, hash, slashes, bracketed, IsOrdinary, short_mark, NoEnd, IsFault, open_comment, stray_hash}
use Rattle.cfg_lex.proofs.ReadLaw.{Reads}
use Rattle.cfg_lex.proofs.RunLaw.{run_is, run_taken}
use Rattle.cfg_lex.proofs.EndLaw.{end_again, end_taken, no_end}
use Rattle.cfg_lex.proofs.MarkLaw.{divide_is}
use Rattle.cfg_lex.proofs.Bytewise.{at_blank, at_hash, at_slash}

-- ---- from the function

line_taken : (text : List ℕ) → RunsToLineEnd (take (before 10 text) text) (drop (before 10 text) text)
line_taken text = run_taken (λ b. not (b == 10)) text

pub hash_reads : (fresh : Bool) (text : List ℕ) → Reads fresh (35 ∷ text) (hash_at fresh text)
unfolding hash_at
hash_reads fresh text = elim (cases_Bool (is_no_comment fresh text)) [
  | inl t ↦ rw t (stray_hash fresh text t)
  | inr f ↦
      let n : suc (before 10 text) ≡ 1 + before 10 text = omega arith in
      let P : ℕ → Type 0 = λ k. IsBlankOrComment fresh (take k (35 ∷ text)) (drop k (35 ∷ text)) in
      let same : is_no_comment fresh (take (before 10 text) text ++ drop (before 10 text) text) ≡ false =
      ap (λ (xs : List ℕ). is_no_comment fresh xs) (take-append-drop (before 10 text) text) ∙ f in
      rw f (subst P n (hash fresh _ _ (line_taken text) same))
]

no_two : (b : ℕ) → two_byte_mark 47 b ≡ None
unfolding two_byte_mark
no_two b = refl

divides : (fresh : Bool) (text : List ℕ) → begins_with 47 text ≡ false → begins_with 42 text ≡ false → IsOrdinary (47 ∷ []) text (lexeme.Mark mark.Divide)
divides fresh [] f g = short_mark 47 [] mark.Divide divide_is tt
divides fresh (b ∷ text) f g = short_mark 47 (b ∷ text) mark.Divide divide_is
    (no_two b, λ _. (λ e. both_ways (b == 47) f (eq-eqb b 47 e), λ e. both_ways (b == 42) g (eq-eqb b 42 e)))

comment_reads : (fresh : Bool) (text : List ℕ) (o : Option ℕ) → before_end text ≡ o → Reads fresh (47 ∷ 42 ∷ text) (comment_to o)
comment_reads fresh text None h =
    let n : length text + 2 ≡ length (47 ∷ 42 ∷ text) = omega arith in
    subst (λ k. IsFault fresh (47 ∷ 42 ∷ text) 2 0 k) n (open_comment fresh text (no_end text h))
comment_reads fresh text (Some k) h =
    let r = end_taken text k h in
    let w = 47 ∷ 42 ∷ r.w ++ 42 ∷ 47 ∷ [] in
    let whole : 47 ∷ 42 ∷ text ≡ w ++ r.rest =
    ap (λ (xs : List ℕ). 47 ∷ 42 ∷ xs) (r.whole ∙ sym (append_assoc r.w (42 ∷ 47 ∷ []) r.rest)) in
    let len : length w ≡ k + 4 = omega (arith, r.len, length-append r.w (42 ∷ 47 ∷ [])) in
    let front : take (k + 4) (47 ∷ 42 ∷ text) ≡ w = ap (λ (xs : List ℕ). take (k + 4) xs) whole ∙ take_at w r.rest (k + 4) len in
    let back : drop (k + 4) (47 ∷ 42 ∷ text) ≡ r.rest = ap (λ (xs : List ℕ). drop (k + 4) xs) whole ∙ drop_at w r.rest (k + 4) len in
    subst (λ (xs : List ℕ). IsBlankOrComment fresh xs (drop (k + 4) (47 ∷ 42 ∷ text))) (sym front)
    (subst (λ (xs : List ℕ). IsBlankOrComment fresh w xs) (sym back) (bracketed fresh r.w r.rest r.none))

pub slash_reads : (fresh : Bool) (text : List ℕ) → Reads fresh (47 ∷ text) (slash_at text)
unfolding slash_at lexeme_of
slash_reads fresh [] = divides fresh [] refl refl
slash_reads fresh (b ∷ text) = elim (cases_eq b 47) [
  | inl e ↦
      let t = eq-eqb b 47 e in
      let n : suc (suc (before 10 text)) ≡ 2 + before 10 text = omega arith in
      let P : ℕ → Type 0 = λ k. IsBlankOrComment fresh (take k (47 ∷ b ∷ text)) (drop k (47 ∷ b ∷ text)) in
      let gap : IsBlankOrComment fresh (47 ∷ b ∷ take (before 10 text) text) (drop (before 10 text) text) =
      subst (λ (m : ℕ). IsBlankOrComment fresh (47 ∷ m ∷ take (before 10 text) text) (drop (before 10 text) text)) (sym e) (slashes fresh _ _ (line_taken text)) in
      rw t (subst P n gap)
  | inr ne ↦ elim (cases_eq b 42) [
    | inl e ↦
        let f = ne_eqb b 47 ne in
        let t = eq-eqb b 42 e in
        let star : Reads fresh (47 ∷ 42 ∷ text) (comment_to (before_end text)) = comment_reads fresh text (before_end text) refl in
        rw (f, t) (subst (λ (m : ℕ). Reads fresh (47 ∷ m ∷ text) (comment_to (before_end text))) (sym e) star)
    | inr other ↦
        let f = ne_eqb b 47 ne in
        let g = ne_eqb b 42 other in
        rw (f, g) (divides fresh (b ∷ text) f g)
  ]
]

-- ---- from the relation

line_again : (w rest : List ℕ) → RunsToLineEnd w rest → before 10 (w ++ rest) ≡ length w
line_again w rest is = run_is (λ b. not (b == 10)) w rest is

gap_len : (n m : ℕ) → n ≡ m → (let r : Result Found Wrong = Ok (Gap n) in r) ≡ Ok (Gap m)
gap_len n m e = ap (λ (k : ℕ). Ok (Gap k)) e

hash_again : (fresh : Bool) (w rest : List ℕ) → RunsToLineEnd w rest → is_no_comment fresh (w ++ rest) ≡ false →
    hash_at fresh (w ++ rest) ≡ Ok (Gap (length (35 ∷ w)))
unfolding hash_at
hash_again fresh w rest is lacks = rw (lacks, line_again w rest is) (gap_len _ _ (omega arith))

slashes_again : (w rest : List ℕ) → RunsToLineEnd w rest → slash_at (47 ∷ w ++ rest) ≡ Ok (Gap (length (47 ∷ 47 ∷ w)))
unfolding slash_at
slashes_again w rest is = let n : prefix_len (λ b. not (b == 10)) (w ++ rest) ≡ length w = line_again w rest is in rw n (gap_len _ _ (omega arith))

ended_again : (text : List ℕ) (k n : ℕ) → before_end text ≡ Some k → k + 4 ≡ n → slash_at (42 ∷ text) ≡ Ok (Gap n)
unfolding slash_at
ended_again text k n h e = rw h (gap_len _ _ e)

bracketed_again : (fresh : Bool) (w rest : List ℕ) → NoEnd (w ++ 42 ∷ []) →
    ordinary_at fresh ((47 ∷ 42 ∷ w ++ 42 ∷ 47 ∷ []) ++ rest) ≡ Ok (Gap (length (47 ∷ 42 ∷ w ++ 42 ∷ 47 ∷ [])))
bracketed_again fresh w rest none =
    let end = ap before_end (append_assoc w (42 ∷ 47 ∷ []) rest) ∙ end_again w rest none in
    at_slash fresh _ ∙ ended_again _ (length w) _ end (omega (arith, length-append w (42 ∷ 47 ∷ [])))

pub gap_again : (fresh : Bool) (w rest : List ℕ) → IsBlankOrComment fresh w rest → ordinary_at fresh (w ++ rest) ≡ Ok (Gap (length w))
gap_again _ _ _ (blank fresh b rest h) = at_blank fresh b rest h
gap_again _ _ _ (hash fresh w rest is lacks) = at_hash fresh (w ++ rest) ∙ hash_again fresh w rest is lacks
gap_again _ _ _ (slashes fresh w rest is) = at_slash fresh (47 ∷ w ++ rest) ∙ slashes_again w rest is
gap_again _ _ _ (bracketed fresh w rest none) = bracketed_again fresh w rest none
