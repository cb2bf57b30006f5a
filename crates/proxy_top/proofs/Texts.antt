-- A text is accepted or refused, and not both; and it is refused in one way.
use Rattle.std.proofs.Common.{◌≡◌, ◌≢◌, ℕ, ◌<◌, ◌≤◌, inl, inr, List, [], length, sym, ap, ◌∙◌, subst, arith}
use Rattle.std.specs.Prelude.{Contains}
use Rattle.std.proofs.lemmas.List.Elements.{All-contains}
use Rattle.pv_values.specs.declared.refusal.Place.{Place}
use Rattle.pv_values.specs.declared.refusal.ScriptFault.{ScriptFault}
use Rattle.pv_values.specs.declared.refusal.ScriptFault.TheVariants as fault
use Rattle.cfg_tree.specs.declared.token.Token.{Token}
use Rattle.cfg_tree.specs.declared.raw.RawItem.{RawItem}
use Rattle.cfg_tree.specs.declared.raw.RawScript.{RawScript}
use Rattle.cfg_tree.specs.declared.script.Script.{Script}
use Rattle.cfg_tree.specs.Checks.{IsTreeOf, IsRefused, Accepted, Refused, refusals_of}
use Rattle.cfg_tree.specs.Grammar.{Derives}
use Rattle.cfg_tree.specs.Refusals.{Refusal, GoesBefore, IsFirst}
use Rattle.cfg_lex.specs.Tokens.{TokensOf, FaultOf}
use Rattle.proxy_top.specs.Accept.{AcceptsText, RefusesText}

-- ---- what the layers below say

abbrev pub OneList : Type 0
OneList = (text : List ℕ) (ts us : List Token) → TokensOf text ts → TokensOf text us → ts ≡ us

abbrev pub OneFault : Type 0
OneFault = (text : List ℕ) (f g : ScriptFault) → FaultOf text f → FaultOf text g → f ≡ g

abbrev pub FaultOrTokens : Type 0
FaultOrTokens = (text : List ℕ) (ts : List Token) (f : ScriptFault) → TokensOf text ts → FaultOf text f → ⊥

abbrev pub OneTree : Type 0
OneTree = (tokens : List Token) (one : List RawItem) (other : List RawItem) → Derives tokens one → Derives tokens other → one ≡ other

-- ---- of one list of tokens

same_script : (a b : RawScript) → a.items ≡ b.items → a.end ≡ b.end → a ≡ b
same_script a b e f =
    let made : List RawItem → ℕ → RawScript = λ items end. record { items = items; end = end } in
    let first : a ≡ made b.items a.end = ap (λ x. made x a.end) e in
    first ∙ ap (λ n. made b.items n) f

same_tree : OneTree → (tokens : List Token) (end : ℕ) (a b : RawScript) → IsTreeOf tokens end a → IsTreeOf tokens end b → a ≡ b
same_tree one tokens end a b h k = same_script a b (one tokens a.items b.items h.derived k.derived) (h.end_is ∙ sym k.end_is)

contains_none : (xs : List Refusal) (r : Refusal) → xs ≡ [] → Contains xs r → ⊥
contains_none xs r none h =
    let short : h.0 < length xs = h.1 in
    let empty : length xs ≡ 0 = ap (λ (l : List Refusal). length l) none in
    absurd (omega (arith, short, empty))

accepted_not_refused_there : OneTree → (tokens : List Token) (end : ℕ) (script : Script) (kind : ℕ) (at : Place)
    → Accepted tokens end script → Refused tokens end kind at → ⊥
accepted_not_refused_there one tokens end script kind at a (inl u) = u.1 a.0 a.1
accepted_not_refused_there one tokens end script kind at a (inr r) =
    let same : a.0 ≡ r.0 = same_tree one tokens end a.0 r.0 a.1 r.1 in
    contains_none (refusals_of r.0) _ (subst (λ x. refusals_of x ≡ []) same a.2.unrefused) r.2.listed

-- two refusals that both go first agree
first_once : (all : List Refusal) (a b : Refusal) → IsFirst all a → IsFirst all b → (b.kind ≡ a.kind) × (b.at.from ≡ a.at.from)
first_once all a b h k = before_both a b (All-contains (GoesBefore a) all b h.first k.listed) (All-contains (GoesBefore b) all a k.first h.listed) where
  before_both : (a b : Refusal) → GoesBefore a b → GoesBefore b a → (b.kind ≡ a.kind) × (b.at.from ≡ a.at.from)
  before_both a b (inl x) (inl y) = absurd (omega (arith, x, y))
  before_both a b (inl x) (inr y) = absurd (omega (arith, x, y.0))
  before_both a b (inr x) (inl y) = absurd (omega (arith, x.0, y))
  before_both a b (inr x) (inr y) = (omega (arith, x.1, y.1), sym x.0)

-- the kind, and but for Syntax the byte where it begins
abbrev pub Agree : ℕ → Place → ℕ → Place → Type 0
Agree kind at other there = (other ≡ kind) × (kind ≢ 3 → there.from ≡ at.from)

refused_once_there : OneTree → (tokens : List Token) (end kind : ℕ) (at : Place) (other : ℕ) (there : Place)
    → Refused tokens end kind at → Refused tokens end other there → Agree kind at other there
refused_once_there one tokens end kind at other there (inl u) (inl v) = (v.0 ∙ sym u.0, λ more. absurd (more u.0))
refused_once_there one tokens end kind at other there (inl u) (inr s) = absurd (u.1 s.0 s.1)
refused_once_there one tokens end kind at other there (inr r) (inl v) = absurd (v.1 r.0 r.1)
refused_once_there one tokens end kind at other there (inr r) (inr s) =
    let same : s.0 ≡ r.0 = same_tree one tokens end s.0 r.0 s.1 r.1 in
    let both = first_once (refusals_of r.0) _ _ r.2 (subst (λ x. IsRefused x other there) same s.2) in
    (both.0, λ more. both.1)

-- ---- of a text

pub accepted_not_refused : OneList → FaultOrTokens → OneTree → (text : List ℕ) (script : Script) (kind : ℕ) (at : Place)
    → AcceptsText text script → RefusesText text kind at → ⊥
accepted_not_refused list faultless one text script kind at a (inl f) = faultless text a.0 (fault.Refused kind at) a.1 f
accepted_not_refused list faultless one text script kind at a (inr t) =
    let same : t.0 ≡ a.0 = list text t.0 a.0 t.1 a.1 in
    accepted_not_refused_there one a.0 (length text) script kind at a.2 (subst (λ ts. Refused ts (length text) kind at) same t.2)

pub refused_once : OneList → OneFault → FaultOrTokens → OneTree → (text : List ℕ) (kind : ℕ) (at : Place) (other : ℕ) (there : Place)
    → RefusesText text kind at → RefusesText text other there → Agree kind at other there
refused_once list first faultless one text kind at other there (inl f) (inl g) =
    let same : fault.Refused kind at ≡ fault.Refused other there = first text _ _ f g in
    let kinds : other ≡ kind = cc in
    let places : there ≡ at = cc in
    (kinds, λ more. ap (λ (p : Place). p.from) places)
refused_once list first faultless one text kind at other there (inl f) (inr s) = absurd (faultless text s.0 (fault.Refused kind at) s.1 f)
refused_once list first faultless one text kind at other there (inr t) (inl g) = absurd (faultless text t.0 (fault.Refused other there) t.1 g)
refused_once list first faultless one text kind at other there (inr t) (inr s) =
    let same : s.0 ≡ t.0 = list text s.0 t.0 s.1 t.1 in
    refused_once_there one t.0 (length text) kind at other there t.2 (subst (λ ts. Refused ts (length text) other there) same s.2)

pub accepted_is_short : (text : List ℕ) (script : Script) → AcceptsText text script → length text ≤ 1048576
accepted_is_short text script a = a.1.short
