-- What stands where a run or a word ends.
use Rattle.std.proofs.Common.{◌≡◌, ℕ, suc, ◌+◌, ◌<◌, ◌≤◌, true, false, List, [], ◌∷◌, ◌++◌, length, drop, refl, subst, sym, ap, ◌∙◌, inl, inr, arith, Some, None, length-drop}
use Rattle.std.specs.Prelude.{nat_lt}
use Rattle.std.specs.List.{prefix_len}
use Rattle.std.proofs.lemmas.Bool.{cases_Bool, lt-ltb, le-ltb}
use Rattle.std.proofs.lemmas.List.{drop-drop, append-nil}
use Rattle.sip_words.specs.declared.bytes.Class.{Class}
use Rattle.sip_words.specs.declared.separators.Surroundings.TheVariants.{Field}
use Rattle.sip_words.specs.Bytes.{has}
use Rattle.sip_words.specs.Words.{run_end, word_end, blank_len, lws_end}
use Rattle.sip_words.specs.Grammar.{Blank, Space, Tab, FoldSpace, FoldTab, lws}
use Rattle.sip_words.proofs.Pieces.{Ends, within, behind, lws_again}
use Rattle.sip_words.proofs.Again.{Stops}

ends_prefix : (class : Class) (xs : List ℕ) → Ends class (drop (prefix_len (has class) xs) xs)
ends_prefix class [] = tt
ends_prefix class (b ∷ xs) = elim (cases_Bool (has class b)) [
  | inl t ↦ let n : prefix_len (has class) (b ∷ xs) ≡ suc (prefix_len (has class) xs) = rw t (omega arith) in rw n (ends_prefix class xs)
  | inr f ↦ let n : prefix_len (has class) (b ∷ xs) ≡ 0 = rw f refl in rw n f
]

-- a run is the longest
pub run_ends : (class : Class) (text : List ℕ) (i : ℕ) → Ends class (drop (run_end class text i) text)
unfolding run_end
run_ends class text i = subst (Ends class) (drop-drop (prefix_len (has class) (drop i text)) i text) (ends_prefix class (drop i text))

no_run : (class : Class) (text : List ℕ) (i : ℕ) (rest : List ℕ) → drop i text ≡ rest → Ends class rest → run_end class text i ≡ i
unfolding run_end
no_run class text i [] h ends = rw h (omega arith)
no_run class text i (b ∷ rest) h ends = rw (h, ends) (omega arith)

-- no word stands where a run of its class has nothing
pub no_word : (class : Class) (text : List ℕ) (i : ℕ) (rest : List ℕ) → drop i text ≡ rest → Ends class rest → word_end class text i ≡ None
no_word class text i rest h ends =
    let e = no_run class text i rest h ends in
    let f : nat_lt i (run_end class text i) ≡ false = le-ltb _ _ (omega arith) in
    rw f refl

longer : (class : Class) (text : List ℕ) (i b : ℕ) (rest : List ℕ) → drop i text ≡ b ∷ rest → has class b ≡ true → i < run_end class text i
unfolding run_end
longer class text i b rest h has_it = rw (h, has_it) (omega arith)

-- a word stands where a byte of its class does
pub some_word : (class : Class) (text : List ℕ) (i b : ℕ) (rest : List ℕ) → drop i text ≡ b ∷ rest → has class b ≡ true → word_end class text i ≡ Some (run_end class text i)
some_word class text i b rest h has_it =
    let past = longer class text i b rest h has_it in
    let t : nat_lt i (run_end class text i) ≡ true = lt-ltb _ _ past in
    rw t refl

pub stops_gap : (bs : List Blank) (rest : List ℕ) → 0 < length bs → Stops Field (lws bs ++ rest)
stops_gap [] rest h = absurd (omega arith)
stops_gap (Space ∷ bs) rest h = inr (inr (inl refl))
stops_gap (Tab ∷ bs) rest h = inr (inr (inr (inl refl)))
stops_gap (FoldSpace ∷ bs) rest h = inr (inr (inr (inr refl)))
stops_gap (FoldTab ∷ bs) rest h = inr (inr (inr (inr refl)))

pub nothing_solid : blank_len [] ≡ 0
unfolding blank_len
nothing_solid = refl

-- the end of the text
pub at_length : (text : List ℕ) (i : ℕ) → i ≤ length text → drop i text ≡ [] → i ≡ length text
at_length text i le h = omega (arith, length-drop i text, ap length h)

-- only LWS is left
pub lws_last : (text : List ℕ) (i : ℕ) (bs : List Blank) → i ≤ length text → drop i text ≡ lws bs → lws_end text i ≡ length text
lws_last text i bs le h =
    let whole : drop i text ≡ lws bs ++ [] = h ∙ sym (append-nil (lws bs)) in
    lws_again text i bs [] whole nothing_solid ∙ at_length text (i + length (lws bs)) (within text i (lws bs) [] le whole) (behind text i (lws bs) [] whole)
