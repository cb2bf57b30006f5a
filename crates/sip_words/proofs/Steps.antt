-- Words and separators end behind the place where they begin.
use Rattle.std.proofs.Common.{◌≡◌, ℕ, ◌+◌, ◌<◌, ◌≤◌, Bool, true, cond, List, [], ◌∷◌, ◌++◌, length, drop, refl, sym, ap, ◌∙◌, inl, inr, arith, Option, Some, None, option_map}
use Rattle.std.specs.Prelude.{codes, slice_get, IfSome}
use Rattle.std.specs.List.{find}
use Rattle.std.proofs.lemmas.Bool.{cases_Bool, eqb-true, both_ways}
use Rattle.std.proofs.lemmas.Option.{cond_some, slice_get_within, same_Some}
use Rattle.sip_words.specs.declared.bytes.Class.TheVariants.{Token}
use Rattle.sip_words.specs.declared.separators.Separator.{Separator}
use Rattle.sip_words.specs.declared.separators.Surroundings.{Surroundings}
use Rattle.sip_words.specs.declared.separators.Surroundings.TheVariants.{Field, Uri}
use Rattle.sip_words.specs.declared.Span.{Span}
use Rattle.sip_words.specs.declared.params.Param.{Param}
use Rattle.sip_words.specs.Words.{◌>>=◌, word_end, lws_end, quoted_len, quoted_end, stands, is_the}
use Rattle.sip_words.specs.Separators.{skip, separator_at}
use Rattle.sip_words.specs.Spans.{IsBetween, HasParts, KnownHaveParts}
use Rattle.sip_words.specs.Many.{Item, Done, Wrong, Advances}
use Rattle.sip_words.specs.Params.{value_class, value_end, param_at, item, item_behind, next_param, is_named, named, first_of, known, no_params, with_param}
use Rattle.sip_words.proofs.Digits.{word_is}

pub bind_some : {A B : Type 0} (o : Option A) (f : A → Option B) (y : B) → (o >>= f) ≡ Some y → (x : A) × (o ≡ Some x) × (f x ≡ Some y)
bind_some None f y h = absurd (cc)
bind_some (Some x) f y h = (x, refl, h)

pub stands_is : (m : ℕ) (text : List ℕ) (i : ℕ) → stands m text i ≡ true → slice_get text i ≡ Some m
unfolding stands
stands_is m text i h = by_cases (slice_get text i) h
  where
    by_cases : (o : Option ℕ) → is_the m o ≡ true → o ≡ Some m
    by_cases None k = absurd (both_ways _ refl k)
    by_cases (Some c) k = ap (λ (n : ℕ). Some n) (eqb-true c m k)

stands_within : (m : ℕ) (text : List ℕ) (i : ℕ) → stands m text i ≡ true → i < length text
stands_within m text i h = slice_get_within text i m (stands_is m text i h)

skip_past : (surroundings : Surroundings) (text : List ℕ) (i : ℕ) → i ≤ skip surroundings text i
unfolding lws_end
skip_past Field text i = omega arith
skip_past Uri text i = omega arith

pub separator_past : (surroundings : Surroundings) (byte : ℕ) (text : List ℕ) (i : ℕ) (m : Separator) → separator_at surroundings byte text i ≡ Some m → (i < m.end) × (i < length text)
unfolding separator_at
separator_past surroundings byte text i m h =
    let c = cond_some (stands byte text (skip surroundings text i)) _ m h in
    let inside = stands_within byte text (skip surroundings text i) c.0 in
    let before = skip_past surroundings text i in
    let after = skip_past surroundings text (skip surroundings text i + 1) in
    let end : skip surroundings text (skip surroundings text i + 1) ≡ m.end = ap (λ (n : Separator). n.end) c.1 in
    (omega arith, omega arith)

quote_past : (text : List ℕ) (i v : ℕ) → quoted_end text i ≡ Some v → i ≤ v
unfolding quoted_end
quote_past text i v h = by_cases (quoted_len (drop i text)) h
  where
    by_cases : (o : Option ℕ) → option_map (λ n. i + n) o ≡ Some v → i ≤ v
    by_cases None k = absurd (cc)
    by_cases (Some n) k = let e : i + n ≡ v = cc in omega arith

value_past : (surroundings : Surroundings) (text : List ℕ) (i v : ℕ) → value_end surroundings text i ≡ Some v → i ≤ v
unfolding value_end
value_past surroundings text i v h = elim (cases_Bool (stands 34 text i)) [ inl t ↦ let q = quote_past text (i + 1) v (rw t at h) in omega arith | inr f ↦ let w = word_is (value_class surroundings) text i v (rw f at h) in omega arith ]

pub param_past : (surroundings : Surroundings) (text : List ℕ) (m : Separator) (p : Param) → param_at surroundings text m ≡ Some p → m.end < p.whole.to
unfolding param_at
param_past surroundings text m p h =
    let w = bind_some (word_end Token text m.end) _ p h in
    let past = word_is Token text m.end w.0 w.1 in
    elim (cases_Bool (stands 61 text w.0)) [
      | inl t ↦ let v = bind_some (value_end surroundings text (w.0 + 1)) _ p (rw t at w.2) in let e = value_past surroundings text (w.0 + 1) v.0 v.1 in let k = ap (λ (q : Param). q.whole.to) (same_Some _ _ v.2) in omega arith
      | inr f ↦ let k = ap (λ (q : Param). q.whole.to) (same_Some _ _ (rw f at w.2)) in omega arith
    ]

pub param_next : (surroundings : Surroundings) (text : List ℕ) (i : ℕ) (m : Separator) (p : Param) → separator_at surroundings 59 text i ≡ Some m → param_at surroundings text m ≡ Some p → next_param surroundings text i ≡ Item p p.whole.to
unfolding next_param
param_next surroundings text i m p e h = rw (e, h) refl

pub param_wrong : (surroundings : Surroundings) (text : List ℕ) (i : ℕ) (m : Separator) → separator_at surroundings 59 text i ≡ Some m → param_at surroundings text m ≡ None → next_param surroundings text i ≡ Wrong
unfolding next_param
param_wrong surroundings text i m e h = rw (e, h) refl

pub param_done : (surroundings : Surroundings) (text : List ℕ) (i : ℕ) → separator_at surroundings 59 text i ≡ None → next_param surroundings text i ≡ Done
unfolding next_param
param_done surroundings text i e = rw e refl

-- what an item of the list is
pub item_is : (surroundings : Surroundings) (text : List ℕ) (i j : ℕ) (p : Param) → next_param surroundings text i ≡ Item p j → (m : Separator) × (separator_at surroundings 59 text i ≡ Some m) × (param_at surroundings text m ≡ Some p) × (j ≡ p.whole.to)
unfolding next_param
item_is surroundings text i j p h = by_separator (separator_at surroundings 59 text i) refl h
  where
    by_param : (m : Separator) (o : Option Param) → separator_at surroundings 59 text i ≡ Some m → param_at surroundings text m ≡ o → item o ≡ Item p j → (m : Separator) × (separator_at surroundings 59 text i ≡ Some m) × (param_at surroundings text m ≡ Some p) × (j ≡ p.whole.to)
    by_param m None e k h = absurd (cc)
    by_param m (Some q) e k h = let same : q ≡ p = cc in let to : q.whole.to ≡ j = cc in (m, e, k ∙ ap (λ (r : Param). Some r) same, sym to ∙ ap (λ (r : Param). r.whole.to) same)

    by_separator : (o : Option Separator) → separator_at surroundings 59 text i ≡ o → item_behind surroundings text o ≡ Item p j → (m : Separator) × (separator_at surroundings 59 text i ≡ Some m) × (param_at surroundings text m ≡ Some p) × (j ≡ p.whole.to)
    by_separator None e h = absurd (cc)
    by_separator (Some m) e h = by_param m (param_at surroundings text m) e refl h

pub advances : (surroundings : Surroundings) (text : List ℕ) → Advances (length text) (next_param surroundings text)
advances surroundings text = λ i j p h.
    let is = item_is surroundings text i j p h in
    let separator = separator_past surroundings 59 text i is.0 is.1 in
    let past = param_past surroundings text is.0 p is.2 in
    (omega (arith, is.3), separator.1)

-- the end of the list is no item
pub done_is : (surroundings : Surroundings) (text : List ℕ) (i : ℕ) → next_param surroundings text i ≡ Done → separator_at surroundings 59 text i ≡ None
unfolding next_param
done_is surroundings text i h = by_separator (separator_at surroundings 59 text i) refl h
  where
    by_param : (o : Option Param) → item o ≡ Done → separator_at surroundings 59 text i ≡ None
    by_param None h = absurd (cc)
    by_param (Some q) h = absurd (cc)

    by_separator : (o : Option Separator) → separator_at surroundings 59 text i ≡ o → item_behind surroundings text o ≡ Done → separator_at surroundings 59 text i ≡ None
    by_separator None e h = e
    by_separator (Some m) e h = by_param (param_at surroundings text m) h

find_push : (p : Param → Bool) (ps : List Param) (x : Param) → find p (ps ++ x ∷ []) ≡ elim (find p ps) [ None ↦ cond (p x) (Some x) None | Some q ↦ Some q ]
find_push p [] x = refl
find_push p (q ∷ ps) x = elim (cases_Bool (p q)) [ inl t ↦ simp t | inr f ↦ simp f (find_push p ps x) ]

named_push : (name text : List ℕ) (ps : List Param) (x : Param) → named name text (ps ++ x ∷ []) ≡ first_of name text (named name text ps) x
unfolding named
named_push name text ps x = find_push (is_named name text) ps x ∙ by_cases (find (is_named name text) ps)
  where
    by_cases : (o : Option Param) → (elim o [ None ↦ cond (is_named name text x) (Some x) None | Some q ↦ Some q ]) ≡ first_of name text o x
    by_cases None = refl
    by_cases (Some q) = refl

-- the parameters that are known, when one is added to the list
pub known_push : (text : List ℕ) (ps : List Param) (i : ℕ) (p : Param) → known text (ps ++ p ∷ [], p.whole.to) ≡ with_param text (known text (ps, i)) p
known_push text ps i p = rw (named_push (codes "branch") text ps p, named_push (codes "received") text ps p, named_push (codes "rport") text ps p, named_push (codes "tag") text ps p, named_push (codes "lr") text ps p) refl

pub known_none : (text : List ℕ) (i : ℕ) → no_params i ≡ known text ([], i)
unfolding named
known_none text i = refl

pub none_have_parts : (i j end : ℕ) → KnownHaveParts i j (no_params end)
none_have_parts i j end = record { branch = tt; received = tt; rport = tt; tag = tt; lr = tt }

between_from : (i k j : ℕ) (s : Span) → i ≤ k → IsBetween k j s → IsBetween i j s
between_from i k j s le h = record { low = omega (arith, h.low); order = h.order; high = h.high }

value_from : (i k j : ℕ) (v : Option Span) → i ≤ k → IfSome v (IsBetween k j) → IfSome v (IsBetween i j)
value_from i k j None le h = tt
value_from i k j (Some s) le h = between_from i k j s le h

-- parts that lie behind a place lie behind an earlier one
pub parts_from : (i k j : ℕ) (p : Param) → i ≤ k → HasParts k j p → HasParts i j p
parts_from i k j p le h = record { whole = between_from i k j p.whole le h.whole; name = between_from i k j p.name le h.name; value = value_from i k j p.value le h.value }
