-- Schemes: what the grammar spells is read again, and what is read is spelled by the grammar.
use Rattle.std.proofs.Common.{◌≡◌, ℕ, suc, ◌+◌, true, false, List, [], ◌∷◌, ◌++◌, length, drop, refl, subst, sym, ap, ◌∙◌, inl, inr, arith, Option, Some, None, append_assoc, length-append, length-drop}
use Rattle.std.specs.Prelude.{nat_lt, codes}
use Rattle.std.specs.Char.{is_ascii_alphanumeric}
use Rattle.std.specs.Int.{is_in_range}
use Rattle.std.proofs.lemmas.Bool.{cases_Bool, cases_eq, ne_eqb, both_ways, lt-ltb, ltb-true}
use Rattle.std.proofs.lemmas.Option.{cond_some}
use Rattle.sip_words.specs.declared.bytes.Class.TheVariants as class
use Rattle.sip_words.specs.Bytes.{has, is_one_of}
use Rattle.sip_words.specs.Words.{run_end, word_end, blank_len, stands}
use Rattle.sip_words.specs.Grammar.{IsWord}
use Rattle.sip_words.proofs.Steps.{bind_some}
use Rattle.sip_words.proofs.Pieces.{behind, Ends, run_again, stands_at, other_byte, solid}
use Rattle.sip_words.proofs.Takes.{Takes, then, run_takes, word_takes, stands_takes}
use Rattle.sip_fields.specs.Uri.{scheme_end, has_more, is_absolute}
use Rattle.sip_fields.specs.UriGrammar.{Starts, AreAll, IsScheme, AbsoluteTree, absolute, IsAbsolute}
use Rattle.sip_fields.proofs.Runs.{run_ends, some_word}

letter_schemes : (b : ℕ) → has class.Letter b ≡ true → has class.Scheme b ≡ true
unfolding has
letter_schemes b h = elim (cases_Bool (is_in_range 48 57 b)) [ inl t ↦ rw t refl | inr f ↦ rw (f, h) refl ]

scheme_tokens : (b : ℕ) → has class.Scheme b ≡ true → has class.Token b ≡ true
unfolding has
scheme_tokens b h = elim (cases_Bool (is_ascii_alphanumeric b)) [ inl t ↦ rw t refl | inr f ↦ signs (rw f at h) ]
  where
    signs : is_one_of (codes "+-.") b ≡ true → has class.Token b ≡ true
    signs k = elim (cases_eq 43 b) [
      | inl e ↦ subst (λ n. has class.Token n ≡ true) e refl
      | inr no_plus ↦ elim (cases_eq 45 b) [
        | inl e ↦ subst (λ n. has class.Token n ≡ true) e refl
        | inr no_minus ↦ elim (cases_eq 46 b) [
          | inl e ↦ subst (λ n. has class.Token n ≡ true) e refl
          | inr no_dot ↦ absurd (both_ways _ (rw (ne_eqb 43 b no_plus, ne_eqb 45 b no_minus, ne_eqb 46 b no_dot) refl) k)
        ]
      ]
    ]

pub are_tokens : (w : List ℕ) → AreAll class.Scheme w → AreAll class.Token w
are_tokens [] a = tt
are_tokens (b ∷ w) a = (scheme_tokens b a.0, are_tokens w a.1)

colon_ends : has class.Scheme 58 ≡ false
unfolding has
colon_ends = refl

first_letter : (text : List ℕ) (i : ℕ) (scheme rest : List ℕ) → drop i text ≡ scheme ++ rest → Starts class.Letter scheme → word_end class.Letter text i ≡ Some (run_end class.Letter text i)
first_letter text i [] rest h starts = absurd starts
first_letter text i (b ∷ w) rest h starts = some_word class.Letter text i b (w ++ rest) h starts

pub scheme_again : (text : List ℕ) (i : ℕ) (scheme rest : List ℕ) → drop i text ≡ scheme ++ (58 ∷ rest) → IsScheme scheme → scheme_end text i ≡ Some (i + length scheme)
unfolding scheme_end
scheme_again text i scheme rest h is =
    let letter = first_letter text i scheme _ h is.first in
    let run = run_again class.Scheme text i scheme _ h is.all colon_ends in
    let colon = stands_at 58 text _ rest (behind text i scheme _ h) in
    rw (letter, run, colon) refl

first : (b : ℕ) (v : List ℕ) (c : ℕ) (w : List ℕ) → b ∷ v ≡ c ∷ w → b ≡ c
first b v c w h = cc

-- a scheme begins with a letter
starts_with : (xs scheme rest letters more : List ℕ) → xs ≡ letters ++ more → IsWord class.Letter letters → xs ≡ scheme ++ rest → Ends class.Scheme rest → Starts class.Letter scheme
starts_with xs scheme rest [] more h is k ends = let none = is.some in absurd (omega arith)
starts_with xs [] [] (b ∷ w) more h is k ends = let e : b ∷ (w ++ more) ≡ [] = sym h ∙ k in absurd (omega (arith, ap length e))
starts_with xs [] (c ∷ rest) (b ∷ w) more h is k ends =
    let same : b ≡ c = first b (w ++ more) c rest (sym h ∙ k) in
    let P : ℕ → Type 0 = λ n. has class.Scheme n ≡ true in
    absurd (both_ways _ ends (subst P same (letter_schemes b is.all.0)))
starts_with xs (c ∷ scheme) rest (b ∷ w) more h is k ends =
    let same : b ≡ c = first b (w ++ more) c (scheme ++ rest) (sym h ∙ k) in
    let P : ℕ → Type 0 = λ n. has class.Letter n ≡ true in
    subst P same is.all.0

pub record TakenScheme (text : List ℕ) (i c : ℕ) : Type 0 where
  pub scheme : List ℕ
  pub takes : Takes text i c scheme
  pub is : IsScheme scheme
  pub colon : Takes text c (c + 1) (58 ∷ [])

pub scheme_takes : (text : List ℕ) (i c : ℕ) → scheme_end text i ≡ Some c → TakenScheme text i c
unfolding scheme_end
scheme_takes text i c h =
    let e = bind_some (word_end class.Letter text i) _ c h in
    let k = cond_some (stands 58 text (run_end class.Scheme text i)) _ c e.2 in
    let letters = word_takes class.Letter text i e.0 e.1 in
    let run = run_takes class.Scheme text i in
    let ends = run_ends class.Scheme text i in
    let scheme : IsScheme run.0 = record { first = starts_with (drop i text) run.0 (drop (run_end class.Scheme text i) text) letters.0 (drop e.0 text) letters.1.whole letters.2 run.1.whole ends; all = run.2 } in
    subst (TakenScheme text i) k.1 record { scheme = run.0; takes = run.1; is = scheme; colon = stands_takes 58 text (run_end class.Scheme text i) k.0 }

pub absolute_length : (t : AbsoluteTree) → length (absolute t) ≡ length t.scheme + suc (length t.rest)
absolute_length t = length-append t.scheme (58 ∷ t.rest)

pub absolute_again : (t : AbsoluteTree) → IsAbsolute t → is_absolute (absolute t) ≡ true
unfolding is_absolute
absolute_again t is =
    let colon = scheme_again (absolute t) 0 t.scheme t.rest refl is.scheme in
    let some = is.rest in
    let more : nat_lt ((0 + length t.scheme) + 1) (length (absolute t)) ≡ true = lt-ltb _ _ (omega (arith, absolute_length t)) in
    rw (colon, more) refl

pub absolute_takes : (w : List ℕ) → is_absolute w ≡ true → (t : AbsoluteTree) × (w ≡ absolute t) × IsAbsolute t
unfolding is_absolute
absolute_takes w h = by_cases (scheme_end w 0) refl h
  where
    by_cases : (o : Option ℕ) → scheme_end w 0 ≡ o → has_more w o ≡ true → (t : AbsoluteTree) × (w ≡ absolute t) × IsAbsolute t
    by_cases None e k = absurd (both_ways _ refl k)
    by_cases (Some c) e k =
        let s = scheme_takes w 0 c e in
        let more = ltb-true (c + 1) (length w) k in
        let all = then s.takes s.colon in
        let whole : w ≡ s.scheme ++ (58 ∷ drop (c + 1) w) = all.whole ∙ append_assoc s.scheme (58 ∷ []) (drop (c + 1) w) in
        (record { scheme = s.scheme; rest = drop (c + 1) w }, whole, record { scheme = s.is; rest = omega (arith, length-drop (c + 1) w) })

-- a URI begins with no blank
pub scheme_solid : (w x : List ℕ) → IsScheme w → blank_len (w ++ x) ≡ 0
unfolding has
scheme_solid [] x is = absurd is.first
scheme_solid (b ∷ w) x is =
    let first : has class.Letter b ≡ true = is.first in
    let space = other_byte class.Letter 32 b refl first in
    let tab = other_byte class.Letter 9 b refl first in
    let cr = other_byte class.Letter 13 b refl first in
    solid b (w ++ x) (rw (space, tab) refl, cr)
