-- Where the parts of a parameter lie: by the lengths of what spells them.
use Rattle.std.proofs.Common.{◌≡◌, ℕ, suc, ◌+◌, ◌≤◌, ◌<◌, List, [], ◌∷◌, ◌++◌, length, drop, length-append, length-drop, refl, ap, inl, inr, arith, Option, Some, None}
use Rattle.std.specs.Prelude.{IfSome}
use Rattle.std.specs.Str.{str_eq_ignore_ascii_case}
use Rattle.std.proofs.lemmas.Bool.{cases_Bool}
use Rattle.std.proofs.lemmas.Option.{IfSome_then}
use Rattle.sip_words.specs.declared.Span.{Span}
use Rattle.sip_words.specs.declared.params.Param.{Param}
use Rattle.sip_words.specs.Spans.{IsBetween, HasParts}
use Rattle.sip_words.specs.Grammar.{lws, SeparatorTree, separator, ValueTree, value, ParamTree, assigned, param, value_place, param_place, params, named_place}
use Rattle.sip_words.proofs.Takes.{Takes}
use Rattle.sip_words.proofs.Pieces.{within}

-- what is left of a text ends with it
pub ends_text : (text : List ℕ) (i : ℕ) (w : List ℕ) → i ≤ length text → drop i text ≡ w → i + length w ≡ length text
ends_text text i w le h = omega (arith, le, length-drop i text, ap length h)

-- what stands in a text ends within it
pub taken_within : (text : List ℕ) (i j : ℕ) (w : List ℕ) → i ≤ length text → Takes text i j w → (i ≤ j) × (j ≤ length text)
taken_within text i j w le t = let end = within text i w _ le t.whole in (omega (arith, t.end), omega (arith, t.end, end))

-- what lies between two places lies between wider ones
pub wider_span : (i j k l : ℕ) (s : Span) → k ≤ i → j ≤ l → IsBetween i j s → IsBetween k l s
wider_span i j k l s low high lies = record { low = omega (arith, low, lies.low); order = lies.order; high = omega (arith, high, lies.high) }

pub wider_parts : (i j k l : ℕ) (p : Param) → k ≤ i → j ≤ l → HasParts i j p → HasParts k l p
wider_parts i j k l p low high lies = record {
  whole = wider_span i j k l p.whole low high lies.whole;
  name = wider_span i j k l p.name low high lies.name;
  value = IfSome_then p.value lies.value (λ s lie. wider_span i j k l s low high lie);
}

pub separator_length : (byte : ℕ) (m : SeparatorTree) → length (separator byte m) ≡ length (lws m.before) + suc (length (lws m.after))
separator_length byte m = length-append (lws m.before) (byte ∷ lws m.after)

value_lies : (i j k : ℕ) (v : Option ValueTree) → k ≤ i → i + length (assigned v) ≤ j → IfSome (value_place i v) (IsBetween k j)
value_lies i j k None low high = tt
value_lies i j k (Some v) low high = record { low = omega (arith, low); order = omega arith; high = omega (arith, high) }

-- the parts of a parameter, by the lengths of its separator, the LWS in front of the separator, its name and its value
lies_by : (i j before separator_len name value : ℕ) (q : Param) → before < separator_len → i + (separator_len + (name + value)) ≤ j
    → q.whole.from ≡ i + before → q.whole.to ≡ i + separator_len + name + value → q.name.from ≡ i + separator_len → q.name.to ≡ i + separator_len + name → IfSome q.value (IsBetween i j) → HasParts i j q
lies_by i j before separator_len name value q marked inside from to name_from name_to lies = record {
  whole = record { low = omega (arith, from); order = omega (arith, from, to, marked); high = omega (arith, to, inside) };
  name = record { low = omega (arith, name_from); order = omega (arith, name_from, name_to); high = omega (arith, name_to, inside) };
  value = lies;
}

pub param_lies : (i : ℕ) (p : ParamTree) → HasParts i (i + length (param p)) (param_place i p)
param_lies i p =
    let whole = length-append (separator 59 p.semicolon) (p.name ++ assigned p.value) in
    let rest = length-append p.name (assigned p.value) in
    let marked = separator_length 59 p.semicolon in
    lies_by i (i + length (param p)) (length (lws p.semicolon.before)) (length (separator 59 p.semicolon)) (length p.name) (length (assigned p.value)) (param_place i p)
    (omega (arith, marked))
    (omega (arith, whole, rest))
    refl
    refl
    refl
    refl
    (value_lies (i + length (separator 59 p.semicolon) + length p.name) (i + length (param p)) i p.value (omega arith) (omega (arith, whole, rest)))

-- the first parameter of a name lies among the parameters
pub named_lies : (name : List ℕ) (i : ℕ) (ps : List ParamTree) → IfSome (named_place name i ps) (HasParts i (i + length (params ps)))
named_lies name i [] = tt
named_lies name i (p ∷ ps) =
    let whole = length-append (param p) (params ps) in
    elim (cases_Bool (str_eq_ignore_ascii_case p.name name)) [
      | inl t ↦ rw t (wider_parts i (i + length (param p)) i (i + length (params (p ∷ ps))) (param_place i p) (omega arith) (omega (arith, whole)) (param_lies i p))
      | inr f ↦ rw f (IfSome_then (named_place name (i + length (param p)) ps) (named_lies name (i + length (param p)) ps) (λ q lie. wider_parts (i + length (param p)) (i + length (param p) + length (params ps)) i (i + length (params (p ∷ ps))) q (omega arith) (omega (arith, whole)) lie))
    ]
