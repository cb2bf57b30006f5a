-- Reading tokens one after the other, as a loop does.
use Rattle.std.proofs.Common.{◌≡◌, ℕ, ◌<◌, ◌≤◌, List, length, refl, sym, ap, ◌∙◌, inl, inr, arith, Option, Some, None}
use Rattle.std.proofs.lemmas.Bool.{cases_lt}
use Rattle.std.proofs.lemmas.List.{drop_all}
use Rattle.std.specs.Option.{option_map}
use Rattle.sip_words.specs.declared.bytes.Class.{Class}
use Rattle.sip_words.specs.declared.bytes.Class.TheVariants.{Token}
use Rattle.sip_words.specs.Words.{run_end, word_end, lws_end}
use Rattle.sip_words.specs.Many.{Item, Done, before, many, Advances}
use Rattle.sip_words.proofs.Digits.{word_is}
use Rattle.sip_words.proofs.ManyLaws.{many_done, many_item}
use Rattle.sip_fields.specs.NameAddr.{name_item, next_name, names_end}

pub word_inside : (class : Class) (text : List ℕ) (i end : ℕ) → word_end class text i ≡ Some end → i < length text
unfolding run_end
word_inside class text i end h = elim (cases_lt i (length text)) [ inl lt ↦ lt | inr le ↦ let w = word_is class text i end h in let e = drop_all i text le in absurd (omega (arith, rw e at w.0, w.1)) ]

lws_past : (text : List ℕ) (i : ℕ) → i ≤ lws_end text i
unfolding lws_end
lws_past text i = omega arith

-- what an item of the list is
pub name_is : (text : List ℕ) (i j end : ℕ) → next_name text i ≡ Item end j → (word_end Token text i ≡ Some end) × (j ≡ lws_end text end)
unfolding next_name
name_is text i j end h = by_word (word_end Token text i) refl h
  where
    by_word : (o : Option ℕ) → word_end Token text i ≡ o → name_item text o ≡ Item end j → (word_end Token text i ≡ Some end) × (j ≡ lws_end text end)
    by_word None e k = absurd (cc)
    by_word (Some n) e k = let same : n ≡ end = cc in let to : lws_end text n ≡ j = cc in (e ∙ ap (λ (m : ℕ). Some m) same, sym to ∙ ap (λ m. lws_end text m) same)

pub names_advance : (text : List ℕ) → Advances (length text) (next_name text)
names_advance text = λ i j end h.
    let is = name_is text i j end h in
    let w = word_is Token text i end is.0 in
    let past = lws_past text end in
    (omega (arith, is.1, w.1), word_inside Token text i end is.0)

one_more : (end : ℕ) (o : Option (List ℕ × ℕ)) → option_map (λ names. names.1) (before end o) ≡ option_map (λ names. names.1) o
one_more end None = refl
one_more end (Some r) = refl

pub names_go : (text : List ℕ) (i end : ℕ) → Some end ≡ word_end Token text i → names_end text (lws_end text end) ≡ names_end text i
unfolding names_end next_name
names_go text i end h =
    let item : next_name text i ≡ Item end (lws_end text end) = ap (name_item text) (sym h) in
    sym (one_more end (many (length text) (next_name text) (lws_end text end))) ∙ ap (λ (r : Option (List ℕ × ℕ)). option_map (λ names. names.1) r) (sym (many_item (length text) (next_name text) i (lws_end text end) end (names_advance text) item))

pub names_stop : (text : List ℕ) (i : ℕ) → None ≡ word_end Token text i → names_end text i ≡ Some i
unfolding names_end next_name
names_stop text i h =
    let none : next_name text i ≡ Done = ap (name_item text) (sym h) in
    ap (λ (r : Option (List ℕ × ℕ)). option_map (λ names. names.1) r) (many_done (length text) (next_name text) i none)
