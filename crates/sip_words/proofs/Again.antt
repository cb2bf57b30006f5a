-- Parameters that the grammar spells are read again, at the places of their parts.
use Rattle.std.proofs.Common.{◌≡◌, ℕ, ◌+◌, true, false, List, [], ◌∷◌, ◌++◌, length, drop, ◌==◌, refl, subst, sym, ap, ◌∙◌, inl, inr, arith, Option, Some, None, append_assoc, length-append}
use Rattle.std.specs.Prelude.{◌⊎◌, IfSome}
use Rattle.std.specs.List.{AllByRecursion}
use Rattle.sip_words.specs.declared.bytes.Class.TheVariants.{Token, Name, Value, UriValue, Digit}
use Rattle.sip_words.specs.declared.separators.Separator.{Separator}
use Rattle.sip_words.specs.declared.separators.Surroundings.{Surroundings}
use Rattle.sip_words.specs.declared.separators.Surroundings.TheVariants.{Field, Uri}
use Rattle.sip_words.specs.Bytes.{has}
use Rattle.sip_words.specs.Spans.{span}
use Rattle.sip_words.specs.Words.{blank_len}
use Rattle.sip_words.specs.Separators.{separator_at}
use Rattle.sip_words.specs.Many.{Item, Repeats}
use Rattle.sip_words.specs.Params.{value_class, value_end, param_at, next_param, params_at, named}
use Rattle.sip_words.specs.Grammar.{Blank, Space, Tab, FoldSpace, FoldTab, lws, separator, IsSpacing, separator_place, ValueTree, Bare, Quoted, value, IsValue, ParamTree, assigned, param, IsParam, param_place, params, param_places, named_place}
use Rattle.sip_words.proofs.ManyLaws.{repeats_many}
use Rattle.sip_words.proofs.Steps.{advances, param_next, param_done}
use Rattle.sip_words.proofs.Pieces.{behind, part_is, stands_at, stands_no, Lacks, Ends, word_again, other_byte, quote_again, separator_again, token_solid}

-- the bytes that may follow a parameter or a port: a semicolon; in a field a comma or a blank, in a URI a question separator
abbrev pub IsStop : Surroundings → ℕ → Type 0
IsStop Field b = (b ≡ 59) ⊎ ((b ≡ 44) ⊎ ((b ≡ 32) ⊎ ((b ≡ 9) ⊎ (b ≡ 13))))
IsStop Uri b = (b ≡ 59) ⊎ (b ≡ 63)

abbrev pub Stops : Surroundings → List ℕ → Type 0
Stops surroundings [] = Unit {0}
Stops surroundings (b ∷ rest) = IsStop surroundings b

by_field : (P : ℕ → Type 0) → P 59 → P 44 → P 32 → P 9 → P 13 → (b : ℕ) → IsStop Field b → P b
by_field P p q r s t b (inl e) = subst P (sym e) p
by_field P p q r s t b (inr (inl e)) = subst P (sym e) q
by_field P p q r s t b (inr (inr (inl e))) = subst P (sym e) r
by_field P p q r s t b (inr (inr (inr (inl e)))) = subst P (sym e) s
by_field P p q r s t b (inr (inr (inr (inr e)))) = subst P (sym e) t

by_uri : (P : ℕ → Type 0) → P 59 → P 63 → (b : ℕ) → IsStop Uri b → P b
by_uri P p q b (inl e) = subst P (sym e) p
by_uri P p q b (inr e) = subst P (sym e) q

value_ends : (surroundings : Surroundings) (b : ℕ) → IsStop surroundings b → has (value_class surroundings) b ≡ false
unfolding has
value_ends Field b h = by_field (λ n. has Value n ≡ false) refl refl refl refl refl b h
value_ends Uri b h = by_uri (λ n. has UriValue n ≡ false) refl refl b h

token_ends : (surroundings : Surroundings) (b : ℕ) → IsStop surroundings b → has Token b ≡ false
unfolding has
token_ends Field b h = by_field (λ n. has Token n ≡ false) refl refl refl refl refl b h
token_ends Uri b h = by_uri (λ n. has Token n ≡ false) refl refl b h

name_ends : (surroundings : Surroundings) (b : ℕ) → IsStop surroundings b → has Name b ≡ false
unfolding has
name_ends Field b h = by_field (λ n. has Name n ≡ false) refl refl refl refl refl b h
name_ends Uri b h = by_uri (λ n. has Name n ≡ false) refl refl b h

digit_ends : (surroundings : Surroundings) (b : ℕ) → IsStop surroundings b → has Digit b ≡ false
unfolding has
digit_ends Field b h = by_field (λ n. has Digit n ≡ false) refl refl refl refl refl b h
digit_ends Uri b h = by_uri (λ n. has Digit n ≡ false) refl refl b h

no_equals : (surroundings : Surroundings) (b : ℕ) → IsStop surroundings b → (b == 61) ≡ false
no_equals Field b h = by_field (λ n. (n == 61) ≡ false) refl refl refl refl refl b h
no_equals Uri b h = by_uri (λ n. (n == 61) ≡ false) refl refl b h

stops_value : (surroundings : Surroundings) (rest : List ℕ) → Stops surroundings rest → Ends (value_class surroundings) rest
stops_value surroundings [] h = tt
stops_value surroundings (b ∷ rest) h = value_ends surroundings b h

pub stops_token : (surroundings : Surroundings) (rest : List ℕ) → Stops surroundings rest → Ends Token rest
stops_token surroundings [] h = tt
stops_token surroundings (b ∷ rest) h = token_ends surroundings b h

pub stops_name : (surroundings : Surroundings) (rest : List ℕ) → Stops surroundings rest → Ends Name rest
stops_name surroundings [] h = tt
stops_name surroundings (b ∷ rest) h = name_ends surroundings b h

pub stops_digit : (surroundings : Surroundings) (rest : List ℕ) → Stops surroundings rest → Ends Digit rest
stops_digit surroundings [] h = tt
stops_digit surroundings (b ∷ rest) h = digit_ends surroundings b h

lacks_equals : (surroundings : Surroundings) (rest : List ℕ) → Stops surroundings rest → Lacks 61 rest
lacks_equals surroundings [] h = tt
lacks_equals surroundings (b ∷ rest) h = no_equals surroundings b h

no_quote : (surroundings : Surroundings) → has (value_class surroundings) 34 ≡ false
unfolding has
no_quote Field = refl
no_quote Uri = refl

value_again : (surroundings : Surroundings) (text : List ℕ) (i : ℕ) (v : ValueTree) (rest : List ℕ) → drop i text ≡ value v ++ rest → IsValue surroundings v → Stops surroundings rest → value_end surroundings text i ≡ Some (i + length (value v))
unfolding value_end
value_again surroundings text i (Bare []) rest h is stops = let none = is.some in absurd (omega arith)
value_again surroundings text i (Bare (b ∷ w)) rest h is stops =
    let first : has (value_class surroundings) b ≡ true = is.all.0 in
    let ne = other_byte (value_class surroundings) 34 b (no_quote surroundings) first in
    rw (stands_no 34 text i _ h ne) (word_again (value_class surroundings) text i (b ∷ w) rest h is (stops_value surroundings rest stops))
value_again surroundings text i (Quoted q) rest h is stops =
    let inside = behind text i (34 ∷ []) _ h in
    rw (stands_at 34 text i _ h) (quote_again text (i + 1) q rest inside is ∙ ap (λ (n : ℕ). Some n) (omega arith))

equals_ends : has Token 61 ≡ false
unfolding has
equals_ends = refl

param_again : (surroundings : Surroundings) (text : List ℕ) (i : ℕ) (p : ParamTree) (rest : List ℕ) → drop (separator_place i 59 p.semicolon).end text ≡ (p.name ++ assigned p.value) ++ rest → IsParam surroundings p → Stops surroundings rest → param_at surroundings text (separator_place i 59 p.semicolon) ≡ Some (param_place i p)
unfolding param_at
param_again surroundings text i p rest h is stops = by_value p.value h is.value
  where
    m : Separator
    m = separator_place i 59 p.semicolon

    by_value : (v : Option ValueTree) → drop (i + length (separator 59 p.semicolon)) text ≡ (p.name ++ assigned v) ++ rest → IfSome v (IsValue surroundings) → param_at surroundings text (separator_place i 59 p.semicolon) ≡ Some (param_place i record { semicolon = p.semicolon; name = p.name; value = v })
    by_value None h is_value =
        let whole : drop (i + length (separator 59 p.semicolon)) text ≡ p.name ++ rest = h ∙ append_assoc p.name [] rest in
        let e = word_again Token text _ p.name rest whole is.name (stops_token surroundings rest stops) in
        let at = behind text _ p.name rest whole in
        rw (e, stands_no 61 text _ rest at (lacks_equals surroundings rest stops)) (ap (λ (n : ℕ). Some record { whole = span (i + length (lws p.semicolon.before)) n; name = span (i + length (separator 59 p.semicolon)) (i + length (separator 59 p.semicolon) + length p.name); value = None }) (omega arith))
    by_value (Some v) h is_value =
        let whole : drop (i + length (separator 59 p.semicolon)) text ≡ p.name ++ (61 ∷ (value v ++ rest)) = h ∙ append_assoc p.name (61 ∷ value v) rest in
        let e = word_again Token text _ p.name _ whole is.name equals_ends in
        let at = behind text _ p.name _ whole in
        let inside = behind text _ (61 ∷ []) _ at in
        rw (e, stands_at 61 text _ _ at, value_again surroundings text _ v rest inside is_value stops) (ap (λ (n : ℕ). Some record { whole = span (i + length (lws p.semicolon.before)) n; name = span (i + length (separator 59 p.semicolon)) (i + length (separator 59 p.semicolon) + length p.name); value = Some (span (i + length (separator 59 p.semicolon) + length p.name + 1) (i + length (separator 59 p.semicolon) + length p.name + 1 + length (value v))) }) (omega arith))

pub three : (m n p r : List ℕ) → ((m ++ n) ++ p) ++ r ≡ m ++ (n ++ (p ++ r))
three m n p r = simp append_assoc

pub four : (a m n p r : List ℕ) → (((a ++ m) ++ n) ++ p) ++ r ≡ a ++ (m ++ (n ++ (p ++ r)))
four a m n p r = simp append_assoc

pub stops_lws : (bs : List Blank) (rest : List ℕ) → Stops Field rest → Stops Field (lws bs ++ rest)
stops_lws [] rest h = h
stops_lws (Space ∷ bs) rest h = inr (inr (inl refl))
stops_lws (Tab ∷ bs) rest h = inr (inr (inr (inl refl)))
stops_lws (FoldSpace ∷ bs) rest h = inr (inr (inr (inr refl)))
stops_lws (FoldTab ∷ bs) rest h = inr (inr (inr (inr refl)))

stops_semicolon : (surroundings : Surroundings) (bs : List Blank) (rest : List ℕ) → IsSpacing surroundings bs → Stops surroundings (lws bs ++ 59 ∷ rest)
stops_semicolon Field bs rest spacing = stops_lws bs (59 ∷ rest) (inl refl)
stops_semicolon Uri bs rest spacing = subst (λ (xs : List Blank). Stops Uri (lws xs ++ 59 ∷ rest)) (sym spacing) (inl refl)

pub stops_params : (surroundings : Surroundings) (ps : List ParamTree) (rest : List ℕ) → AllByRecursion (IsParam surroundings) ps → Stops surroundings rest → Stops surroundings (params ps ++ rest)
stops_params surroundings [] rest are h = h
stops_params surroundings (p ∷ ps) rest are h =
    let is = are.0 in
    subst (Stops surroundings) (sym (four (lws p.semicolon.before) (59 ∷ lws p.semicolon.after) (p.name ++ assigned p.value) (params ps) rest)) (stops_semicolon surroundings p.semicolon.before _ is.semicolon.before)

pub param_length : (p : ParamTree) → length (param p) ≡ length (separator 59 p.semicolon) + (length p.name + length (assigned p.value))
param_length p = length-append (separator 59 p.semicolon) (p.name ++ assigned p.value) ∙ ap (λ n. length (separator 59 p.semicolon) + n) (length-append p.name (assigned p.value))

params_repeat : (surroundings : Surroundings) (text : List ℕ) (i : ℕ) (ps : List ParamTree) (rest : List ℕ) → drop i text ≡ params ps ++ rest → AllByRecursion (IsParam surroundings) ps → Stops surroundings rest → separator_at surroundings 59 text (i + length (params ps)) ≡ None → Repeats (next_param surroundings text) i (param_places i ps) (i + length (params ps))
params_repeat surroundings text i [] rest h are stops none =
    let e : i + 0 ≡ i = omega arith in
    let P : ℕ → Type 0 = λ n. separator_at surroundings 59 text n ≡ None in
    (param_done surroundings text i (subst P e none), sym e)
params_repeat surroundings text i (p ∷ ps) rest h are stops none =
    let is = are.0 in
    let whole : drop i text ≡ separator 59 p.semicolon ++ ((p.name ++ assigned p.value) ++ (params ps ++ rest)) = h ∙ three (separator 59 p.semicolon) (p.name ++ assigned p.value) (params ps) rest in
    let no_blank : blank_len ((p.name ++ assigned p.value) ++ (params ps ++ rest)) ≡ 0 = ap blank_len (append_assoc p.name (assigned p.value) (params ps ++ rest)) ∙ token_solid p.name _ is.name in
    let m = separator_again surroundings 59 text i p.semicolon _ (refl, refl) is.semicolon no_blank whole in
    let at = behind text i (separator 59 p.semicolon) _ whole in
    let one = param_again surroundings text i p _ at is (stops_params surroundings ps rest are.1 stops) in
    let len = param_length p in
    let all : length (params (p ∷ ps)) ≡ length (param p) + length (params ps) = length-append (param p) (params ps) in
    let to : (param_place i p).whole.to ≡ i + length (param p) = omega arith in
    let there : drop (i + length (param p)) text ≡ params ps ++ rest = behind text i (param p) _ (h ∙ append_assoc (param p) (params ps) rest) in
    let total : i + length (param p) + length (params ps) ≡ i + length (params (p ∷ ps)) = omega arith in
    let P : ℕ → Type 0 = λ n. separator_at surroundings 59 text n ≡ None in
    let Q : ℕ → Type 0 = λ n. Repeats (next_param surroundings text) (i + length (param p)) (param_places (i + length (param p)) ps) n in
    let others = params_repeat surroundings text (i + length (param p)) ps rest there are.1 stops (subst P (sym total) none) in
    (i + length (param p), param_next surroundings text i (separator_place i 59 p.semicolon) (param_place i p) m one ∙ ap (λ (n : ℕ). Item (param_place i p) n) to, subst Q total others)

pub params_again : (surroundings : Surroundings) (text : List ℕ) (i : ℕ) (ps : List ParamTree) (rest : List ℕ) → drop i text ≡ params ps ++ rest → AllByRecursion (IsParam surroundings) ps → Stops surroundings rest → separator_at surroundings 59 text (i + length (params ps)) ≡ None → params_at surroundings text i ≡ Some (param_places i ps, i + length (params ps))
unfolding params_at
params_again surroundings text i ps rest h are stops none = repeats_many (length text) (next_param surroundings text) i (param_places i ps) (i + length (params ps)) (advances surroundings text) (params_repeat surroundings text i ps rest h are stops none)

-- the first parameter of a name is that of the trees
pub named_is : (name text : List ℕ) (i : ℕ) (ps : List ParamTree) (rest : List ℕ) → drop i text ≡ params ps ++ rest → named name text (param_places i ps) ≡ named_place name i ps
unfolding named
named_is name text i [] rest h = refl
named_is name text i (p ∷ ps) rest h =
    let whole = h ∙ three (separator 59 p.semicolon) (p.name ++ assigned p.value) (params ps) rest in
    let at = behind text i (separator 59 p.semicolon) _ whole ∙ append_assoc p.name (assigned p.value) (params ps ++ rest) in
    let part = part_is text _ p.name _ at in
    let there : drop (i + length (param p)) text ≡ params ps ++ rest = behind text i (param p) _ (h ∙ append_assoc (param p) (params ps) rest) in
    rw (part, named_is name text (i + length (param p)) ps rest there) refl
