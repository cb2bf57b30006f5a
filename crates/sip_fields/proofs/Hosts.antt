-- Hosts: what the grammar spells is read again, and what is read is spelled by the grammar.
use Rattle.std.proofs.Common.{◌≡◌, ℕ, suc, ◌+◌, Bool, true, false, List, [], ◌∷◌, ◌++◌, length, drop, ◌==◌, refl, subst, sym, ap, ◌∙◌, inl, inr, arith, Option, Some, None, append_assoc, length-append}
use Rattle.std.specs.Prelude.{nat_lt}
use Rattle.std.specs.Int.{w32, from_be_bytes}
use Rattle.std.specs.List.{AllByRecursion}
use Rattle.std.specs.Str.Parse.{digits_value}
use Rattle.std.proofs.lemmas.Bool.{cases_Bool, eq-eqb, eqb-true, lt-ltb, ltb-true, both_ways}
use Rattle.std.proofs.lemmas.List.{append-nil, drop_all}
use Rattle.std.proofs.lemmas.Option.{cond_some, same_Some, none-some}
use Rattle.sip_words.specs.declared.bytes.Class.TheVariants as class
use Rattle.sip_words.specs.Bytes.{has}
use Rattle.sip_words.specs.Words.{word_end, stands}
use Rattle.sip_words.specs.Numbers.{number_at}
use Rattle.sip_words.specs.Grammar.{IsWord}
use Rattle.sip_words.proofs.Steps.{bind_some}
use Rattle.sip_words.proofs.Pieces.{behind, Ends, word_again, number_again, part_is, stands_at}
use Rattle.sip_words.proofs.Takes.{Takes, then, word_takes, number_takes, stands_takes}
use Rattle.sip_fields.specs.declared.host.Host.{Host}
use Rattle.sip_fields.specs.declared.host.Host.TheVariants.{Name}
use Rattle.sip_words.specs.Addresses.{octet_at, dot_end, v4_at}
use Rattle.sip_fields.specs.Host.{host_from, host_of, host_at}
use Rattle.sip_fields.specs.Parts.{HostTree, Numbers, Named, host, IsOctet, AreOctets, IsHost, host_value}

octet_again : (text : List ℕ) (i : ℕ) (w rest : List ℕ) → drop i text ≡ w ++ rest → IsOctet w → Ends class.Digit rest → octet_at text i ≡ Some (digits_value 10 w, i + length w)
unfolding octet_at
octet_again text i w rest h is ends = let high : nat_lt (digits_value 10 w) 256 ≡ true = lt-ltb _ _ is.high in rw (number_again 3 text i w rest h is.word ends is.few, high) refl

octet_takes : (text : List ℕ) (i : ℕ) (r : ℕ × ℕ) → octet_at text i ≡ Some r → (w : List ℕ) × Takes text i r.1 w × IsOctet w
unfolding octet_at
octet_takes text i r h =
    let n = bind_some (number_at 3 text i) _ r h in
    let c = cond_some (nat_lt n.0.0 256) n.0 r n.2 in
    let w = number_takes 3 text i n.0 n.1 in
    let end : n.0.1 ≡ r.1 = ap (λ (x : ℕ × ℕ). x.1) c.1 in
    let below = ltb-true n.0.0 256 c.0 in
    (w.0, subst (λ k. Takes text i k w.0) end w.1, record { word = w.2; few = w.3; high = omega (arith, below, w.4) })

dot_again : (text : List ℕ) (i : ℕ) (rest : List ℕ) → drop i text ≡ 46 ∷ rest → dot_end text i ≡ Some (i + 1)
unfolding dot_end
dot_again text i rest h = rw (stands_at 46 text i rest h) refl

dot_takes : (text : List ℕ) (i j : ℕ) → dot_end text i ≡ Some j → Takes text i j (46 ∷ [])
unfolding dot_end
dot_takes text i j h = let c = cond_some (stands 46 text i) (i + 1) j h in subst (λ k. Takes text i k (46 ∷ [])) c.1 (stands_takes 46 text i c.0)

dot_ends : has class.Digit 46 ≡ false
unfolding has
dot_ends = refl

dotted : (a b c d r : List ℕ) → (a ++ (46 ∷ (b ++ (46 ∷ (c ++ (46 ∷ d)))))) ++ r ≡ a ++ (46 ∷ (b ++ (46 ∷ (c ++ (46 ∷ (d ++ r))))))
dotted a b c d r = simp append_assoc

dotted_length : (a b c d : List ℕ) → length (a ++ (46 ∷ (b ++ (46 ∷ (c ++ (46 ∷ d)))))) ≡ length a + suc (length b + suc (length c + suc (length d)))
dotted_length a b c d = simp length-append

v4_again : (text : List ℕ) (i : ℕ) (a b c d rest : List ℕ) → drop i text ≡ host (Numbers a b c d) ++ rest → AreOctets a b c d → Ends class.Digit rest → v4_at text i ≡ Some (from_be_bytes w32 (digits_value 10 a ∷ digits_value 10 b ∷ digits_value 10 c ∷ digits_value 10 d ∷ []), i + length (host (Numbers a b c d)))
unfolding v4_at
v4_again text i a b c d rest h are ends =
    let whole = h ∙ dotted a b c d rest in
    let one = octet_again text i a _ whole are.first dot_ends in
    let at_1 = behind text i a _ whole in
    let dot_1 = dot_again text _ _ at_1 in
    let in_1 = behind text _ (46 ∷ []) _ at_1 in
    let two = octet_again text _ b _ in_1 are.second dot_ends in
    let at_2 = behind text _ b _ in_1 in
    let dot_2 = dot_again text _ _ at_2 in
    let in_2 = behind text _ (46 ∷ []) _ at_2 in
    let three = octet_again text _ c _ in_2 are.third dot_ends in
    let at_3 = behind text _ c _ in_2 in
    let dot_3 = dot_again text _ _ at_3 in
    let in_3 = behind text _ (46 ∷ []) _ at_3 in
    let four = octet_again text _ d rest in_3 are.fourth ends in
    rw (one, dot_1, two, dot_2, three, dot_3, four) (ap (λ (n : ℕ). Some (from_be_bytes w32 (digits_value 10 a ∷ digits_value 10 b ∷ digits_value 10 c ∷ digits_value 10 d ∷ []), n)) (omega (arith, dotted_length a b c d)))

record TakenNumbers (text : List ℕ) (i j : ℕ) : Type 0 where
  a : List ℕ
  b : List ℕ
  c : List ℕ
  d : List ℕ
  takes : Takes text i j (host (Numbers a b c d))
  are : AreOctets a b c d

v4_takes : (text : List ℕ) (i : ℕ) (r : ℕ × ℕ) → v4_at text i ≡ Some r → TakenNumbers text i r.1
unfolding v4_at
v4_takes text i r h =
    let one = bind_some (octet_at text i) _ r h in
    let dot_1 = bind_some (dot_end text one.0.1) _ r one.2 in
    let two = bind_some (octet_at text dot_1.0) _ r dot_1.2 in
    let dot_2 = bind_some (dot_end text two.0.1) _ r two.2 in
    let three = bind_some (octet_at text dot_2.0) _ r dot_2.2 in
    let dot_3 = bind_some (dot_end text three.0.1) _ r three.2 in
    let four = bind_some (octet_at text dot_3.0) _ r dot_3.2 in
    let a = octet_takes text i one.0 one.1 in
    let b = octet_takes text dot_1.0 two.0 two.1 in
    let c = octet_takes text dot_2.0 three.0 three.1 in
    let d = octet_takes text dot_3.0 four.0 four.1 in
    let p = dot_takes text one.0.1 dot_1.0 dot_1.1 in
    let q = dot_takes text two.0.1 dot_2.0 dot_2.1 in
    let s = dot_takes text three.0.1 dot_3.0 dot_3.1 in
    let end : four.0.1 ≡ r.1 = ap (λ (x : ℕ × ℕ). x.1) (same_Some _ _ four.2) in
    let all : Takes text i four.0.1 (host (Numbers a.0 b.0 c.0 d.0)) = then a.1 (then p (then b.1 (then q (then c.1 (then s d.1))))) in
    record { a = a.0; b = b.0; c = c.0; d = d.0; takes = subst (λ k. Takes text i k (host (Numbers a.0 b.0 c.0 d.0))) end all; are = record { first = a.2; second = b.2; third = c.2; fourth = d.2 } }

all_append : (p : ℕ → Bool) (v w : List ℕ) → AllByRecursion (λ b. p b ≡ true) v → AllByRecursion (λ b. p b ≡ true) w → AllByRecursion (λ b. p b ≡ true) (v ++ w)
all_append p [] w a b = b
all_append p (x ∷ v) w a b = (a.0, all_append p v w a.1 b)

digit_names : (b : ℕ) → has class.Digit b ≡ true → has class.Name b ≡ true
unfolding has
digit_names b h = rw h refl

digits_name : (w : List ℕ) → AllByRecursion (λ b. has class.Digit b ≡ true) w → AllByRecursion (λ b. has class.Name b ≡ true) w
digits_name [] a = tt
digits_name (b ∷ w) a = (digit_names b a.0, digits_name w a.1)

dot_names : has class.Name 46 ≡ true
unfolding has
dot_names = refl

pub host_word : (t : HostTree) → IsHost t → IsWord class.Name (host t)
host_word (Named w) is = is.word
host_word (Numbers a b c d) is = record {
  some = omega (arith, dotted_length a b c d);
  all = all_append (has class.Name) a _ (digits_name a is.first.word.all) (dot_names, all_append (has class.Name) b _ (digits_name b is.second.word.all) (dot_names, all_append (has class.Name) c _ (digits_name c is.third.word.all) (dot_names, digits_name d is.fourth.word.all)));
}

numbers_are : (a b c d : List ℕ) → AreOctets a b c d → v4_at (host (Numbers a b c d)) 0 ≡ Some (from_be_bytes w32 (digits_value 10 a ∷ digits_value 10 b ∷ digits_value 10 c ∷ digits_value 10 d ∷ []), 0 + length (host (Numbers a b c d)))
numbers_are a b c d are = v4_again (host (Numbers a b c d)) 0 a b c d [] (sym (append-nil (host (Numbers a b c d)))) are tt

-- the whole of a piece is four numbers
all_numbers : (w : List ℕ) (v : ℕ × ℕ) → v4_at w 0 ≡ Some v → v.1 ≡ length w → (a b c d : List ℕ) × AreOctets a b c d × (w ≡ host (Numbers a b c d))
all_numbers w v h end =
    let t = v4_takes w 0 v h in
    let nothing : drop v.1 w ≡ [] = drop_all v.1 w (omega arith) in
    (t.a, t.b, t.c, t.d, t.are, t.takes.whole ∙ ap (λ xs. host (Numbers t.a t.b t.c t.d) ++ xs) nothing ∙ append-nil (host (Numbers t.a t.b t.c t.d)))

host_is : (t : HostTree) → IsHost t → host_of (host t) ≡ host_value t
unfolding host_of
host_is (Numbers a b c d) are =
    let same : (0 + length (host (Numbers a b c d)) == length (host (Numbers a b c d))) ≡ true = eq-eqb _ _ (omega arith) in
    rw (numbers_are a b c d are, same) refl
host_is (Named w) is = by_cases (v4_at w 0) refl
  where
    by_cases : (o : Option (ℕ × ℕ)) → v4_at w 0 ≡ o → host_from o (length w) ≡ Name
    by_cases None e = refl
    by_cases (Some v) e = elim (cases_Bool (v.1 == length w)) [
      | inl t ↦ let n = all_numbers w v e (eqb-true v.1 (length w) t) in absurd (is.no_numbers n.0 n.1 n.2 n.3 n.4 n.5)
      | inr f ↦ rw f refl
    ]

pub host_again : (text : List ℕ) (i : ℕ) (t : HostTree) (rest : List ℕ) → drop i text ≡ host t ++ rest → IsHost t → Ends class.Name rest → host_at text i ≡ Some (host_value t, i + length (host t))
unfolding host_at
host_again text i t rest h is ends = rw (word_again class.Name text i (host t) rest h (host_word t is) ends, part_is text i (host t) rest h, host_is t is) refl

-- a word is four numbers with dots, or none
host_tree : (w : List ℕ) → IsWord class.Name w → (t : HostTree) × (w ≡ host t) × IsHost t
host_tree w is = by_cases (v4_at w 0) refl
  where
    no_numbers : ((v : ℕ × ℕ) → v4_at w 0 ≡ Some v → v.1 ≡ length w → ⊥) → (a b c d : List ℕ) → AreOctets a b c d → w ≡ host (Numbers a b c d) → ⊥
    no_numbers none a b c d are e =
        let read = numbers_are a b c d are in
        let P : List ℕ → Type 0 = λ u. v4_at u 0 ≡ Some (from_be_bytes w32 (digits_value 10 a ∷ digits_value 10 b ∷ digits_value 10 c ∷ digits_value 10 d ∷ []), 0 + length (host (Numbers a b c d))) in
        none (from_be_bytes w32 (digits_value 10 a ∷ digits_value 10 b ∷ digits_value 10 c ∷ digits_value 10 d ∷ []), 0 + length (host (Numbers a b c d))) (subst P (sym e) read) (omega (arith, ap length e))

    by_cases : (o : Option (ℕ × ℕ)) → v4_at w 0 ≡ o → (t : HostTree) × (w ≡ host t) × IsHost t
    by_cases None e = (Named w, refl, record { word = is; no_numbers = no_numbers (λ v k end. none-some v (sym e ∙ k)) })
    by_cases (Some v) e = elim (cases_Bool (v.1 == length w)) [
      | inl t ↦ let n = all_numbers w v e (eqb-true v.1 (length w) t) in (Numbers n.0 n.1 n.2 n.3, n.5, n.4)
      | inr f ↦ (Named w, refl, record { word = is; no_numbers = no_numbers (λ u k end. both_ways (v.1 == length w) f (eq-eqb v.1 (length w) (ap (λ (x : ℕ × ℕ). x.1) (same_Some v u (sym e ∙ k)) ∙ end))) })
    ]

pub host_takes : (text : List ℕ) (i : ℕ) (r : Host × ℕ) → host_at text i ≡ Some r → (t : HostTree) × Takes text i r.1 (host t) × IsHost t
unfolding host_at
host_takes text i r h =
    let e = bind_some (word_end class.Name text i) _ r h in
    let w = word_takes class.Name text i e.0 e.1 in
    let end : e.0 ≡ r.1 = ap (λ (x : Host × ℕ). x.1) (same_Some _ _ e.2) in
    let t = host_tree w.0 w.2 in
    (t.0, subst (λ k. Takes text i k (host t.0)) end (subst (λ (v : List ℕ). Takes text i e.0 v) t.1 w.1), t.2)
