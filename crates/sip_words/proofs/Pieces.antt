-- What stands at a place of a text, and what the words read there.
use Rattle.std.proofs.Common.{◌≡◌, ℕ, zero, suc, ◌+◌, ◌-◌, ◌<◌, ◌≤◌, true, false, List, [], ◌∷◌, ◌++◌, length, drop, ◌==◌, refl, sym, subst, ap, ◌∙◌, inl, inr, arith, Some, None, option_map, append_assoc, length-append, length-drop}
use Rattle.std.specs.Prelude.{slice_get, slice_range, nat_lt, nat_eq, map}
use Rattle.std.specs.List.{flat_map, AllByRecursion, prefix_len}
use Rattle.std.specs.Cmp.Lexicographic.{pointwise}
use Rattle.std.specs.Char.{to_ascii_lowercase}
use Rattle.std.specs.Str.{str_eq_ignore_ascii_case}
use Rattle.std.specs.Str.Parse.{digits_value}
use Rattle.std.proofs.lemmas.Bool.{cases_eq, both_ways, ne_eqb, eq-eqb, lt-ltb, le-ltb, false≢true, and_parts}
use Rattle.std.proofs.lemmas.List.{drop-drop, drop_at, take_at, length-map}
use Rattle.sip_words.specs.declared.bytes.Class.{Class}
use Rattle.sip_words.specs.declared.bytes.Class.TheVariants.{Token, Name, Digit}
use Rattle.sip_words.specs.declared.separators.Surroundings.{Surroundings}
use Rattle.sip_words.specs.declared.separators.Surroundings.TheVariants.{Field, Uri}
use Rattle.sip_words.specs.Bytes.{has, is_wsp}
use Rattle.sip_words.specs.Words.{run_end, word_end, word_at, blank_len, lws_len, lws_end, gap_end, quoted_len, quoted_end, stands}
use Rattle.sip_words.specs.Separators.{skip, separator_at}
use Rattle.sip_words.specs.Numbers.{number_at}
use Rattle.sip_words.specs.Grammar.{Blank, Space, Tab, FoldSpace, FoldTab, lws, SeparatorTree, separator, IsSpacing, IsSeparator, separator_place, IsWord, Quotable, Plain, Escaped, quotable, IsQuotable}
use Rattle.sip_words.proofs.Runs.{is_none, closes, escapes, goes}

-- behind what stands at i
pub behind : (text : List ℕ) (i : ℕ) (w rest : List ℕ) → drop i text ≡ w ++ rest → drop (i + length w) text ≡ rest
behind text i w rest h = sym (drop-drop (length w) i text) ∙ ap (λ xs. drop (length w) xs) h ∙ drop_at w rest (length w) refl

pub within : (text : List ℕ) (i : ℕ) (w rest : List ℕ) → i ≤ length text → drop i text ≡ w ++ rest → i + length w ≤ length text
within text i w rest le h = omega (arith, length-drop i text, ap length h, length-append w rest)

-- the part that a span names
pub part_is : (text : List ℕ) (i : ℕ) (w rest : List ℕ) → drop i text ≡ w ++ rest → slice_range text i (i + length w) ≡ w
part_is text i w rest h = let n : (i + length w) - i ≡ length w = omega arith in rw (n, h) (take_at w rest (length w) refl)

pub at_front : (text : List ℕ) (i m : ℕ) (xs : List ℕ) → drop i text ≡ m ∷ xs → slice_get text i ≡ Some m
at_front [] zero m xs h = absurd (cc)
at_front [] (suc i) m xs h = absurd (cc)
at_front (a ∷ text) zero m xs h = let e : a ≡ m = cc in ap (λ (b : ℕ). Some b) e
at_front (a ∷ text) (suc i) m xs h = at_front text i m xs h

pub at_end : (text : List ℕ) (i : ℕ) → drop i text ≡ [] → slice_get text i ≡ None
at_end [] zero h = refl
at_end [] (suc i) h = refl
at_end (a ∷ text) zero h = absurd (cc)
at_end (a ∷ text) (suc i) h = at_end text i h

pub stands_at : (m : ℕ) (text : List ℕ) (i : ℕ) (rest : List ℕ) → drop i text ≡ m ∷ rest → stands m text i ≡ true
unfolding stands
stands_at m text i rest h = rw (at_front text i m rest h) (eq-eqb m m refl)

-- another byte, or none
abbrev pub Lacks : ℕ → List ℕ → Type 0
Lacks m [] = Unit {0}
Lacks m (b ∷ rest) = (b == m) ≡ false

pub stands_no : (m : ℕ) (text : List ℕ) (i : ℕ) (rest : List ℕ) → drop i text ≡ rest → Lacks m rest → stands m text i ≡ false
unfolding stands
stands_no m text i [] h lacks = rw (at_end text i h) refl
stands_no m text i (b ∷ rest) h lacks = rw (at_front text i b rest h) lacks

-- no byte of the class comes next
abbrev pub Ends : Class → List ℕ → Type 0
Ends class [] = Unit {0}
Ends class (b ∷ rest) = has class b ≡ false

all_pass : (class : Class) (w rest : List ℕ) → AllByRecursion (λ b. has class b ≡ true) w → Ends class rest → prefix_len (has class) (w ++ rest) ≡ length w
all_pass class [] [] a e = refl
all_pass class [] (b ∷ rest) a e = rw e refl
all_pass class (b ∷ w) rest a e = let h = a.0 in rw (h, all_pass class w rest a.1 e) (omega arith)

pub run_again : (class : Class) (text : List ℕ) (i : ℕ) (w rest : List ℕ) → drop i text ≡ w ++ rest → AllByRecursion (λ b. has class b ≡ true) w → Ends class rest → run_end class text i ≡ i + length w
unfolding run_end
run_again class text i w rest h all ends = let n = all_pass class w rest all ends in rw (h, n) refl

pub word_again : (class : Class) (text : List ℕ) (i : ℕ) (w rest : List ℕ) → drop i text ≡ w ++ rest → IsWord class w → Ends class rest → word_end class text i ≡ Some (i + length w)
word_again class text i w rest h is ends =
    let some = is.some in
    let t : nat_lt i (i + length w) ≡ true = lt-ltb _ _ (omega arith) in
    rw (run_again class text i w rest h is.all ends, t) refl

-- a byte of a class is none that the class lacks
pub other_byte : (class : Class) (m b : ℕ) → has class m ≡ false → has class b ≡ true → (b == m) ≡ false
other_byte class m b lacks has_it = elim (cases_eq b m) [ inl e ↦ let P : ℕ → Type 0 = λ n. has class n ≡ true in absurd (both_ways _ lacks (subst P e has_it)) | inr ne ↦ ne_eqb b m ne ]

pub one_blank : (b : ℕ) (xs : List ℕ) → is_wsp b ≡ true → lws_len (b ∷ xs) ≡ 1 + lws_len xs
unfolding lws_len
one_blank b [] h = rw h refl
one_blank b (c ∷ []) h = rw h refl
one_blank b (c ∷ d ∷ xs) h = rw h refl

lws_all : (bs : List Blank) (rest : List ℕ) → blank_len rest ≡ 0 → lws_len (lws bs ++ rest) ≡ length (lws bs)
unfolding lws_len
lws_all [] rest h = is_none rest h
lws_all (Space ∷ bs) rest h = one_blank 32 (lws bs ++ rest) refl ∙ ap (λ n. 1 + n) (lws_all bs rest h) ∙ omega arith
lws_all (Tab ∷ bs) rest h = one_blank 9 (lws bs ++ rest) refl ∙ ap (λ n. 1 + n) (lws_all bs rest h) ∙ omega arith
lws_all (FoldSpace ∷ bs) rest h = ap (λ n. 3 + n) (lws_all bs rest h) ∙ omega arith
lws_all (FoldTab ∷ bs) rest h = ap (λ n. 3 + n) (lws_all bs rest h) ∙ omega arith

pub lws_again : (text : List ℕ) (i : ℕ) (bs : List Blank) (rest : List ℕ) → drop i text ≡ lws bs ++ rest → blank_len rest ≡ 0 → lws_end text i ≡ i + length (lws bs)
unfolding lws_end
lws_again text i bs rest h none = rw (h, lws_all bs rest none) refl

pub some_blank : (bs : List Blank) → 0 < length bs → 0 < length (lws bs)
some_blank [] h = absurd (omega arith)
some_blank (Space ∷ bs) h = omega arith
some_blank (Tab ∷ bs) h = omega arith
some_blank (FoldSpace ∷ bs) h = omega arith
some_blank (FoldTab ∷ bs) h = omega arith

pub gap_again : (text : List ℕ) (i : ℕ) (bs : List Blank) (rest : List ℕ) → drop i text ≡ lws bs ++ rest → blank_len rest ≡ 0 → 0 < length bs → gap_end text i ≡ Some (i + length (lws bs))
unfolding gap_end
gap_again text i bs rest h none some = let more = some_blank bs some in let t : nat_lt i (i + length (lws bs)) ≡ true = lt-ltb _ _ (omega arith) in rw (lws_again text i bs rest h none, t) refl

-- a byte that begins no LWS
abbrev pub IsSolid : ℕ → Type 0
IsSolid m = (is_wsp m ≡ false) × ((m == 13) ≡ false)

pub solid : (m : ℕ) (xs : List ℕ) → IsSolid m → blank_len (m ∷ xs) ≡ 0
unfolding blank_len
solid m [] h = let a = h.0 in rw a refl
solid m (b ∷ []) h = let a = h.0 in rw a refl
solid m (b ∷ c ∷ xs) h = let a = h.0 in let k = h.1 in rw (a, k) refl

-- a word of a class that has no blank
pub word_solid : (class : Class) (w x : List ℕ) → has class 32 ≡ false → has class 9 ≡ false → has class 13 ≡ false → IsWord class w → blank_len (w ++ x) ≡ 0
word_solid class [] x no_space no_tab no_cr is = let none = is.some in absurd (omega arith)
word_solid class (b ∷ w) x no_space no_tab no_cr is =
    let first : has class b ≡ true = is.all.0 in
    let space = other_byte class 32 b no_space first in
    let tab = other_byte class 9 b no_tab first in
    let cr = other_byte class 13 b no_cr first in
    solid b (w ++ x) (rw (space, tab) refl, cr)

pub token_solid : (w x : List ℕ) → IsWord Token w → blank_len (w ++ x) ≡ 0
unfolding has
token_solid w x is = word_solid Token w x refl refl refl is

pub digits_solid : (w x : List ℕ) → IsWord Digit w → blank_len (w ++ x) ≡ 0
unfolding has
digits_solid w x is = word_solid Digit w x refl refl refl is

pub name_solid : (w x : List ℕ) → IsWord Name w → blank_len (w ++ x) ≡ 0
unfolding has
name_solid w x is = word_solid Name w x refl refl refl is

skip_again : (surroundings : Surroundings) (text : List ℕ) (i : ℕ) (bs : List Blank) (rest : List ℕ) → drop i text ≡ lws bs ++ rest → IsSpacing surroundings bs → blank_len rest ≡ 0 → skip surroundings text i ≡ i + length (lws bs)
skip_again Field text i bs rest h spacing none = lws_again text i bs rest h none
skip_again Uri text i bs rest h spacing none = omega (arith, ap (λ (xs : List Blank). length (lws xs)) spacing)

pub separator_again : (surroundings : Surroundings) (m : ℕ) (text : List ℕ) (i : ℕ) (t : SeparatorTree) (rest : List ℕ) → IsSolid m → IsSeparator surroundings t → blank_len rest ≡ 0 → drop i text ≡ separator m t ++ rest → separator_at surroundings m text i ≡ Some (separator_place i m t)
unfolding separator_at
separator_again surroundings m text i t rest is spacing none h =
    let whole : drop i text ≡ lws t.before ++ (m ∷ (lws t.after ++ rest)) = h ∙ append_assoc (lws t.before) (m ∷ lws t.after) rest in
    let place = skip_again surroundings text i t.before _ whole spacing.before (solid m _ is) in
    let at = behind text i (lws t.before) _ whole in
    let here = stands_at m text _ _ at in
    let next : drop ((i + length (lws t.before)) + 1) text ≡ lws t.after ++ rest = behind text _ (m ∷ []) _ at in
    let end = skip_again surroundings text _ t.after rest next spacing.after none in
    rw (place, here, end) (ap (λ (n : ℕ). Some record { place = i + length (lws t.before); end = n }) (omega (arith, length-append (lws t.before) (m ∷ lws t.after))))

-- LWS, and then another byte than the separator, or none
pub no_separator : (surroundings : Surroundings) (m : ℕ) (text : List ℕ) (i : ℕ) (bs : List Blank) (rest : List ℕ) → drop i text ≡ lws bs ++ rest → IsSpacing surroundings bs → blank_len rest ≡ 0 → Lacks m rest → separator_at surroundings m text i ≡ None
unfolding separator_at
no_separator surroundings m text i bs rest h spacing none lacks = rw (skip_again surroundings text i bs rest h spacing none, stands_no m text _ rest (behind text i (lws bs) rest h) lacks) refl

quoted_all : (q : List Quotable) (rest : List ℕ) → AllByRecursion IsQuotable q → quoted_len (flat_map quotable q ++ 34 ∷ rest) ≡ Some (length (flat_map quotable q) + 1)
quoted_all [] rest a = closes rest
quoted_all (Plain b ∷ q) rest a = goes b _ (ne_eqb _ _ a.0.0) (ne_eqb _ _ a.0.1) ∙ ap (λ o. option_map (λ n. 1 + n) o) (quoted_all q rest a.1) ∙ ap (λ (n : ℕ). Some n) (omega arith)
quoted_all (Escaped b ∷ q) rest a = escapes _ ∙ ap (λ o. option_map (λ n. 2 + n) o) (quoted_all q rest a.1) ∙ ap (λ (n : ℕ). Some n) (omega arith)

pub quote_again : (text : List ℕ) (i : ℕ) (q : List Quotable) (rest : List ℕ) → drop i text ≡ (flat_map quotable q ++ 34 ∷ []) ++ rest → AllByRecursion IsQuotable q → quoted_end text i ≡ Some (i + length (flat_map quotable q ++ 34 ∷ []))
unfolding quoted_end
quote_again text i q rest h a =
    let whole : drop i text ≡ flat_map quotable q ++ 34 ∷ rest = h ∙ append_assoc (flat_map quotable q) (34 ∷ []) rest in
    rw (whole, quoted_all q rest a) (ap (λ (n : ℕ). Some n) (omega (arith, length-append (flat_map quotable q) (34 ∷ []))))

pointwise_length : (a b : List ℕ) → pointwise nat_eq a b ≡ true → length a ≡ length b
pointwise_length [] [] h = refl
pointwise_length [] (y ∷ b) h = absurd (false≢true h)
pointwise_length (x ∷ a) [] h = absurd (false≢true h)
pointwise_length (x ∷ a) (y ∷ b) h = ap (λ n. suc n) (pointwise_length a b (and_parts _ _ h).1)

pub same_length : (a b : List ℕ) → str_eq_ignore_ascii_case a b ≡ true → length a ≡ length b
same_length a b h = let e = pointwise_length (map to_ascii_lowercase a) (map to_ascii_lowercase b) h in simp length-map at e

pub word_at_again : (w word : List ℕ) (text : List ℕ) (i : ℕ) (rest : List ℕ) → drop i text ≡ w ++ rest → str_eq_ignore_ascii_case w word ≡ true → word_at word text i ≡ Some (i + length w)
unfolding word_at
word_at_again w word text i rest h same = let len = same_length w word same in rw (← len, part_is text i w rest h, same) refl

pub number_again : (most : ℕ) (text : List ℕ) (i : ℕ) (w rest : List ℕ) → drop i text ≡ w ++ rest → IsWord Digit w → Ends Digit rest → length w ≤ most → number_at most text i ≡ Some (digits_value 10 w, i + length w)
unfolding number_at
number_again most text i w rest h is ends few =
    let n : nat_lt most ((i + length w) - i) ≡ false = le-ltb _ _ (omega arith) in
    rw (word_again Digit text i w rest h is ends, n, part_is text i w rest h) refl
