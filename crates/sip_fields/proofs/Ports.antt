-- Ports, and what stands behind a value: what the grammar spells is read again, and what is read is spelled by the grammar.
use Rattle.std.proofs.Common.{◌≡◌, ℕ, ◌+◌, ◌≤◌, Bool, true, false, cond, List, [], ◌∷◌, ◌++◌, length, drop, ◌==◌, refl, subst, sym, ap, ◌∙◌, inl, inr, arith, Option, Some, None, append_assoc, length-append}
use Rattle.std.specs.Prelude.{nat_lt, IfSome}
use Rattle.std.specs.List.{AllByRecursion}
use Rattle.std.specs.Str.Parse.{digits_value}
use Rattle.std.proofs.lemmas.Bool.{eq-eqb, eqb-true, lt-ltb, ltb-true}
use Rattle.std.proofs.lemmas.List.{append-nil, drop_all}
use Rattle.std.proofs.lemmas.Option.{cond_some, same_Some, none-some}
use Rattle.sip_words.specs.declared.bytes.Class.TheVariants as class
use Rattle.sip_words.specs.declared.separators.Separator.{Separator}
use Rattle.sip_words.specs.declared.separators.Surroundings.{Surroundings}
use Rattle.sip_words.specs.declared.separators.Surroundings.TheVariants.{Field}
use Rattle.sip_words.specs.Bytes.{has}
use Rattle.sip_words.specs.Words.{blank_len, lws_end}
use Rattle.sip_words.specs.Separators.{separator_at}
use Rattle.sip_words.specs.Numbers.{number_at}
use Rattle.sip_words.specs.Addresses.{port_number_at}
use Rattle.sip_words.specs.Grammar.{Blank, Space, Tab, FoldSpace, FoldTab, lws, separator, IsSpacing, ParamTree, assigned, IsParam, params}
use Rattle.sip_words.proofs.Steps.{bind_some}
use Rattle.sip_words.proofs.Pieces.{behind, Ends, Lacks, separator_again, no_separator, solid, digits_solid, number_again}
use Rattle.sip_words.proofs.Again.{Stops, stops_digit, stops_name, stops_lws, three, four}
use Rattle.sip_words.proofs.Takes.{Takes, then, no_blank, none_blank, lws_takes, separator_takes, number_takes}
use Rattle.sip_fields.proofs.Runs.{nothing_solid, lws_last}
use Rattle.sip_fields.specs.Host.{port_after, port_at}
use Rattle.sip_fields.specs.Tail.{next_after, next_at}
use Rattle.sip_fields.specs.Parts.{PortTree, port, IsPort, port_value, Tail, Last, More, tail, IsTail, next_place}

-- no separator stands here: LWS that may stand here, and then another byte or none
pub record Without (surroundings : Surroundings) (m : ℕ) (rest : List ℕ) : Type 0 where
  pub blanks : List Blank
  pub next : List ℕ
  pub whole : rest ≡ lws blanks ++ next
  pub spacing : IsSpacing surroundings blanks
  pub solid : blank_len next ≡ 0
  pub lacks : Lacks m next

pub no_separator_here : (surroundings : Surroundings) (m : ℕ) (text : List ℕ) (i : ℕ) (rest : List ℕ) → drop i text ≡ rest → Without surroundings m rest → separator_at surroundings m text i ≡ None
no_separator_here surroundings m text i rest h w = no_separator surroundings m text i w.blanks w.next (h ∙ w.whole) w.spacing w.solid w.lacks

pub tail_without : (m : ℕ) (t : Tail) → (44 == m) ≡ false → Without Field m (tail t)
unfolding blank_len
tail_without m (Last bs) ne = record { blanks = bs; next = []; whole = sym (append-nil (lws bs)); spacing = tt; solid = refl; lacks = tt }
tail_without m (More c rest) ne = record { blanks = c.before; next = 44 ∷ (lws c.after ++ rest); whole = append_assoc (lws c.before) (44 ∷ lws c.after) rest; spacing = tt; solid = solid 44 _ (refl, refl); lacks = ne }

pub params_without : (surroundings : Surroundings) (m : ℕ) (ps : List ParamTree) (rest : List ℕ) → AllByRecursion (IsParam surroundings) ps → (59 == m) ≡ false → Without surroundings m rest → Without surroundings m (params ps ++ rest)
params_without surroundings m [] rest are ne w = w
params_without surroundings m (p ∷ ps) rest are ne w =
    let is = are.0 in
    record {
      blanks = p.semicolon.before;
      next = 59 ∷ (lws p.semicolon.after ++ ((p.name ++ assigned p.value) ++ (params ps ++ rest)));
      whole = four (lws p.semicolon.before) (59 ∷ lws p.semicolon.after) (p.name ++ assigned p.value) (params ps) rest;
      spacing = is.semicolon.before;
      solid = solid 59 _ (refl, refl);
      lacks = ne;
    }

pub stops_tail : (t : Tail) → Stops Field (tail t)
stops_tail (Last bs) = subst (Stops Field) (append-nil (lws bs)) (stops_lws bs [] tt)
stops_tail (More m rest) = subst (Stops Field) (sym (append_assoc (lws m.before) (44 ∷ lws m.after) rest)) (stops_lws m.before _ (inr (inl refl)))

colon_field : (bs : List Blank) (x : List ℕ) → Ends class.Name (lws bs ++ 58 ∷ x)
unfolding has
colon_field [] x = refl
colon_field (Space ∷ bs) x = refl
colon_field (Tab ∷ bs) x = refl
colon_field (FoldSpace ∷ bs) x = refl
colon_field (FoldTab ∷ bs) x = refl

-- a host ends before a port
pub port_ends : (surroundings : Surroundings) (p : Option PortTree) (rest : List ℕ) → Stops surroundings rest → Ends class.Name (port p ++ rest)
port_ends surroundings None rest h = stops_name surroundings rest h
port_ends surroundings (Some p) rest h = subst (Ends class.Name) (sym (three (lws p.colon.before) (58 ∷ lws p.colon.after) p.digits rest)) (colon_field p.colon.before _)

pub port_again : (surroundings : Surroundings) (text : List ℕ) (i : ℕ) (p : Option PortTree) (rest : List ℕ) → drop i text ≡ port p ++ rest → IfSome p (IsPort surroundings) → Without surroundings 58 rest → Stops surroundings rest → port_at surroundings text i ≡ Some (port_value p, i + length (port p))
unfolding port_at port_number_at
port_again surroundings text i None rest h is none stops =
    let e : i ≡ i + 0 = omega arith in
    rw (no_separator_here surroundings 58 text i rest h none) (ap (λ (n : ℕ). Some (None, n)) e)
port_again surroundings text i (Some p) rest h is none stops =
    let whole = h ∙ append_assoc (separator 58 p.colon) p.digits rest in
    let word = is.word in
    let m = separator_again surroundings 58 text i p.colon (p.digits ++ rest) (refl, refl) is.colon (digits_solid p.digits rest word) whole in
    let at = behind text i (separator 58 p.colon) _ whole in
    let n = number_again 5 text _ p.digits rest at word (stops_digit surroundings rest stops) is.few in
    let low : nat_lt 0 (digits_value 10 p.digits) ≡ true = lt-ltb _ _ is.low in
    let high : nat_lt (digits_value 10 p.digits) 65536 ≡ true = lt-ltb _ _ is.high in
    rw (m, n, low, high) (ap (λ (k : ℕ). Some (Some (digits_value 10 p.digits), k)) (omega (arith, length-append (separator 58 p.colon) p.digits)))

pub cond_inner : {A : Type 0} (b : Bool) (o : Option A) (y : A) → cond b o None ≡ Some y → (b ≡ true) × (o ≡ Some y)
cond_inner true o y k = (refl, k)
cond_inner false o y k = absurd (none-some y k)

pub port_takes : (surroundings : Surroundings) (text : List ℕ) (i : ℕ) (r : Option ℕ × ℕ) → port_at surroundings text i ≡ Some r → (p : Option PortTree) × Takes text i r.1 (port p) × IfSome p (IsPort surroundings)
unfolding port_at port_number_at
port_takes surroundings text i r h = by_separator (separator_at surroundings 58 text i) refl h
  where
    by_separator : (o : Option Separator) → separator_at surroundings 58 text i ≡ o → port_after o text i ≡ Some r → (p : Option PortTree) × Takes text i r.1 (port p) × IfSome p (IsPort surroundings)
    by_separator None e k = let end : i ≡ r.1 = ap (λ (x : Option ℕ × ℕ). x.1) (same_Some _ _ k) in (None, record { whole = ap (λ n. drop n text) end; end = omega arith }, tt)
    by_separator (Some colon) e k =
        let m = separator_takes surroundings 58 text i colon e in
        let o = bind_some (port_number_at text colon.end) _ r k in
        let n = bind_some (number_at 5 text colon.end) _ o.0 o.1 in
        let w = number_takes 5 text colon.end n.0 n.1 in
        let low = cond_inner (nat_lt 0 n.0.0) _ o.0 n.2 in
        let high = cond_some (nat_lt n.0.0 65536) _ o.0 low.1 in
        let end : n.0.1 ≡ r.1 = ap (λ (x : ℕ × ℕ). x.1) high.1 ∙ ap (λ (x : Option ℕ × ℕ). x.1) (same_Some _ _ o.2) in
        let is_low = ltb-true 0 n.0.0 low.0 in
        let is_high = ltb-true n.0.0 65536 high.0 in (
          Some record { colon = m.tree; digits = w.0 },
          subst (λ j. Takes text i j (separator 58 m.tree ++ w.0)) end (then m.takes w.1),
          record { colon = m.is; word = w.2; few = w.3; low = omega (arith, is_low, w.4); high = omega (arith, is_high, w.4) },
        )

pub next_again : (text : List ℕ) (i : ℕ) (t : Tail) → i ≤ length text → drop i text ≡ tail t → IsTail t → next_at text i ≡ Some (next_place i t)
unfolding next_at
next_again text i (Last bs) le h is =
    let none = no_separator_here Field 44 text i _ h (record { blanks = bs; next = []; whole = sym (append-nil (lws bs)); spacing = tt; solid = nothing_solid; lacks = tt }) in
    let same : (lws_end text i == length text) ≡ true = eq-eqb _ _ (lws_last text i bs le h) in
    rw (none, same) refl
next_again text i (More m rest) le h is = rw (separator_again Field 44 text i m rest (refl, refl) record { before = tt; after = tt } (no_blank rest is) h) refl

pub next_takes : (text : List ℕ) (i : ℕ) (n : Option ℕ) → next_at text i ≡ Some n → (t : Tail) × (drop i text ≡ tail t) × IsTail t
unfolding next_at
next_takes text i n h = by_separator (separator_at Field 44 text i) refl h
  where
    by_separator : (o : Option Separator) → separator_at Field 44 text i ≡ o → next_after o text i ≡ Some n → (t : Tail) × (drop i text ≡ tail t) × IsTail t
    by_separator None e k =
        let c = cond_some (lws_end text i == length text) _ n k in
        let r = lws_takes text i in
        let end = eqb-true (lws_end text i) (length text) c.0 in
        let nothing : drop (lws_end text i) text ≡ [] = drop_all (lws_end text i) text (omega arith) in
        (Last r.0, r.1.whole ∙ ap (λ xs. lws r.0 ++ xs) nothing ∙ append-nil (lws r.0), tt)
    by_separator (Some comma) e k = let m = separator_takes Field 44 text i comma e in (More m.tree (drop comma.end text), m.takes.whole, none_blank _ m.settled)
