-- Where values end: with a byte that is neither CR nor LF.
use Rattle.std.proofs.Common.{◌≡◌, ℕ, ◌<◌, false, true, List, [], ◌∷◌, ◌++◌, length, refl, sym, ap, subst, arith, append_assoc, Option, Some, None}
use Rattle.std.specs.Prelude.{IfSome}
use Rattle.std.specs.List.{flat_map, AllByRecursion}
use Rattle.sip_words.specs.declared.bytes.Class.{Class}
use Rattle.sip_words.specs.declared.bytes.Class.TheVariants as class
use Rattle.sip_words.specs.declared.separators.Surroundings.TheVariants.{Field}
use Rattle.sip_words.specs.Bytes.{has}
use Rattle.sip_words.specs.Grammar.{Blank, Space, Tab, FoldSpace, FoldTab, lws, SeparatorTree, separator, IsWord, quotable, ValueTree, Bare, Quoted, IsValue, ParamTree, assigned, param, IsParam, params}
use Rattle.sip_words.proofs.Pieces.{other_byte}
use Rattle.sip_fields.specs.Parts.{host, PortTree, port, IsPort}
use Rattle.sip_fields.specs.ViaGrammar.{ViaTree, protocol, IsVia}
use Rattle.sip_fields.proofs.Hosts.{host_word}
use Rattle.sip_laws.proofs.Folded.{EndsWell}

-- what stands in front doesn't matter
pub ends_behind : (v : List ℕ) (b : ℕ) (w : List ℕ) → EndsWell (b ∷ w) → EndsWell (v ++ (b ∷ w))
ends_behind [] b w h = h
ends_behind (a ∷ []) b w h = h
ends_behind (a ∷ c ∷ v) b w h = ends_behind (c ∷ v) b w h

some_ends : (v w : List ℕ) → 0 < length w → EndsWell w → EndsWell (v ++ w)
some_ends v [] some h = absurd (omega arith)
some_ends v (b ∷ w) some h = ends_behind v b w h

pub ends_all : (c : Class) → has c 13 ≡ false → has c 10 ≡ false → (w : List ℕ) → AllByRecursion (λ b. has c b ≡ true) w → EndsWell w
ends_all c cr lf [] a = tt
ends_all c cr lf (b ∷ []) a = let r = other_byte c 13 b cr a.0 in let l = other_byte c 10 b lf a.0 in rw (r, l) refl
ends_all c cr lf (b ∷ d ∷ w) a = ends_all c cr lf (d ∷ w) a.1

pub ends_word : (c : Class) → has c 13 ≡ false → has c 10 ≡ false → (v w : List ℕ) → IsWord c w → EndsWell (v ++ w)
ends_word c cr lf v w is = some_ends v w is.some (ends_all c cr lf w is.all)

pub ends_token : (v w : List ℕ) → IsWord class.Token w → EndsWell (v ++ w)
unfolding has
ends_token v w is = ends_word class.Token refl refl v w is

pub ends_digits : (v w : List ℕ) → IsWord class.Digit w → EndsWell (v ++ w)
unfolding has
ends_digits v w is = ends_word class.Digit refl refl v w is

ends_name : (v w : List ℕ) → IsWord class.Name w → EndsWell (v ++ w)
unfolding has
ends_name v w is = ends_word class.Name refl refl v w is

ends_value : (v w : List ℕ) → IsWord class.Value w → EndsWell (v ++ w)
unfolding has
ends_value v w is = ends_word class.Value refl refl v w is

pub ends_lws : (v : List ℕ) → EndsWell v → (bs : List Blank) → EndsWell (v ++ lws bs)
ends_lws v h [] = subst EndsWell (sym (append_nil_of v)) h
  where
    append_nil_of : (x : List ℕ) → x ++ [] ≡ x
    append_nil_of [] = refl
    append_nil_of (b ∷ x) = ap (λ (z : List ℕ). b ∷ z) (append_nil_of x)
ends_lws v h (Space ∷ bs) = subst EndsWell (append_assoc v (32 ∷ []) (lws bs)) (ends_lws (v ++ 32 ∷ []) (ends_behind v 32 [] refl) bs)
ends_lws v h (Tab ∷ bs) = subst EndsWell (append_assoc v (9 ∷ []) (lws bs)) (ends_lws (v ++ 9 ∷ []) (ends_behind v 9 [] refl) bs)
ends_lws v h (FoldSpace ∷ bs) = subst EndsWell (append_assoc v (13 ∷ 10 ∷ 32 ∷ []) (lws bs)) (ends_lws (v ++ 13 ∷ 10 ∷ 32 ∷ []) (ends_behind v 13 (10 ∷ 32 ∷ []) refl) bs)
ends_lws v h (FoldTab ∷ bs) = subst EndsWell (append_assoc v (13 ∷ 10 ∷ 9 ∷ []) (lws bs)) (ends_lws (v ++ 13 ∷ 10 ∷ 9 ∷ []) (ends_behind v 13 (10 ∷ 9 ∷ []) refl) bs)

-- a comma, a colon or a semicolon and the LWS round it
mark_regroup : (v a b c : List ℕ) → ((v ++ a) ++ b) ++ c ≡ v ++ (a ++ (b ++ c))
mark_regroup v a b c = simp append_assoc

pub ends_mark : (v : List ℕ) (byte : ℕ) (m : SeparatorTree) → EndsWell (byte ∷ []) → EndsWell (v ++ separator byte m)
ends_mark v byte m h = subst EndsWell (mark_regroup v (lws m.before) (byte ∷ []) (lws m.after)) (ends_lws ((v ++ lws m.before) ++ byte ∷ []) (ends_behind (v ++ lws m.before) byte [] h) m.after)

assigned_ends : (v name : List ℕ) (x : Option ValueTree) → IsWord class.Token name → IfSome x (IsValue Field) → EndsWell (v ++ (name ++ assigned x))
assigned_ends v name None word is = subst EndsWell (append_assoc v name []) (subst EndsWell (sym (nil_of (v ++ name))) (ends_token v name word))
  where
    nil_of : (x : List ℕ) → x ++ [] ≡ x
    nil_of [] = refl
    nil_of (b ∷ x) = ap (λ (z : List ℕ). b ∷ z) (nil_of x)
assigned_ends v name (Some (Bare w)) word is = subst EndsWell (mark_regroup v name (61 ∷ []) w) (ends_value ((v ++ name) ++ 61 ∷ []) w is)
assigned_ends v name (Some (Quoted q)) word is = subst EndsWell (quote_regroup v name (61 ∷ 34 ∷ []) (flat_map quotable q) (34 ∷ [])) (ends_behind (((v ++ name) ++ 61 ∷ 34 ∷ []) ++ flat_map quotable q) 34 [] refl)
  where
    quote_regroup : (a b c d e : List ℕ) → (((a ++ b) ++ c) ++ d) ++ e ≡ a ++ (b ++ (c ++ (d ++ e)))
    quote_regroup a b c d e = simp append_assoc

pub ends_param : (v : List ℕ) (p : ParamTree) → IsParam Field p → EndsWell (v ++ param p)
ends_param v p is = subst EndsWell (append_assoc v (separator 59 p.semicolon) (p.name ++ assigned p.value)) (assigned_ends (v ++ separator 59 p.semicolon) p.name p.value is.name is.value)

pub ends_params : (v : List ℕ) → EndsWell v → (ps : List ParamTree) → AllByRecursion (IsParam Field) ps → EndsWell (v ++ params ps)
ends_params v h [] a = subst EndsWell (sym (nil_of v)) h
  where
    nil_of : (x : List ℕ) → x ++ [] ≡ x
    nil_of [] = refl
    nil_of (b ∷ x) = ap (λ (z : List ℕ). b ∷ z) (nil_of x)
ends_params v h (p ∷ ps) a = subst EndsWell (append_assoc v (param p) (params ps)) (ends_params (v ++ param p) (ends_param v p a.0) ps a.1)

ends_port : (v : List ℕ) → EndsWell v → (p : Option PortTree) → IfSome p (IsPort Field) → EndsWell (v ++ port p)
ends_port v h None is = subst EndsWell (sym (nil_of v)) h
  where
    nil_of : (x : List ℕ) → x ++ [] ≡ x
    nil_of [] = refl
    nil_of (b ∷ x) = ap (λ (z : List ℕ). b ∷ z) (nil_of x)
ends_port v h (Some p) is = subst EndsWell (append_assoc v (separator 58 p.colon) p.digits) (ends_digits (v ++ separator 58 p.colon) p.digits is.word)

four : (v a b c d : List ℕ) → (((v ++ a) ++ b) ++ c) ++ d ≡ v ++ (a ++ (b ++ (c ++ d)))
four v a b c d = simp append_assoc

three : (v a b c : List ℕ) → ((v ++ a) ++ b) ++ c ≡ v ++ (a ++ (b ++ c))
three v a b c = simp append_assoc

-- what stands before the parameters of a Via value, and the value with them
pub ends_front : (v : List ℕ) (t : ViaTree) → IsVia t → EndsWell (v ++ (protocol t ++ (host t.host ++ port t.port)))
ends_front v t is = subst EndsWell (three v (protocol t) (host t.host) (port t.port)) (ends_port ((v ++ protocol t) ++ host t.host) (ends_name (v ++ protocol t) (host t.host) (host_word t.host is.host)) t.port is.port)

pub ends_via : (v : List ℕ) (t : ViaTree) → IsVia t → EndsWell (v ++ (protocol t ++ (host t.host ++ (port t.port ++ params t.params))))
ends_via v t is =
    let front = ends_port ((v ++ protocol t) ++ host t.host) (ends_name (v ++ protocol t) (host t.host) (host_word t.host is.host)) t.port is.port in
    subst EndsWell (four v (protocol t) (host t.host) (port t.port) (params t.params)) (ends_params (((v ++ protocol t) ++ host t.host) ++ port t.port) front t.params is.params)
