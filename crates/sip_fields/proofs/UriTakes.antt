-- What is read as a URI is spelled by the grammar.
use Rattle.std.proofs.Common.{◌≡◌, ◌≢◌, ℕ, ◌+◌, ◌<◌, ◌≤◌, true, false, List, [], ◌∷◌, ◌++◌, length, drop, ◌==◌, refl, subst, sym, ap, ◌∙◌, inl, inr, arith, Option, Some, None, length-drop}
use Rattle.std.specs.Prelude.{IfSome, IfNone}
use Rattle.std.proofs.lemmas.Bool.{cases_Bool, eqb-true, eqb-false, both_ways}
use Rattle.std.proofs.lemmas.List.{append-nil, drop_all}
use Rattle.std.proofs.lemmas.Option.{cond_some, same_Some}
use Rattle.sip_words.specs.declared.Span.{Span}
use Rattle.sip_words.specs.declared.bytes.Class.TheVariants as class
use Rattle.sip_words.specs.declared.separators.Surroundings.TheVariants.{Uri}
use Rattle.sip_words.specs.Bytes.{◌or◌, has}
use Rattle.sip_words.specs.Words.{run_end, word_end, stands}
use Rattle.sip_words.specs.Params.{params_at}
use Rattle.sip_words.specs.Grammar.{params}
use Rattle.sip_words.proofs.Steps.{bind_some}
use Rattle.sip_words.proofs.Pieces.{Ends, stands_at}
use Rattle.sip_words.proofs.Takes.{Takes, then, run_takes, word_takes, stands_takes, part_taken, not_none, params_takes}
use Rattle.sip_fields.specs.declared.uri.Uri as uri_type
use Rattle.sip_fields.specs.declared.uri.Scheme as scheme_type
use Rattle.sip_fields.specs.declared.uri.Scheme.TheVariants.{Sip, Sips, Other}
use Rattle.sip_fields.specs.Host.{host_at, port_at}
use Rattle.sip_fields.specs.Uri.{scheme_end, scheme_of, password_end, user_at, login_at, sip_at, other_at, uri_behind, uri_at}
use Rattle.sip_fields.specs.Parts.{host, port}
use Rattle.sip_fields.specs.UriGrammar.{AreAll, IsScheme, AbsoluteTree, LoginTree, password, login, IsLogin, headers, SipTree, behind_login, IsSip, UriTree, SipUri, OtherUri, uri, IsUri}
use Rattle.sip_fields.proofs.Runs.{run_ends}
use Rattle.sip_fields.proofs.Hosts.{host_takes}
use Rattle.sip_fields.proofs.Ports.{port_takes}
use Rattle.sip_fields.proofs.Schemes.{TakenScheme, scheme_takes}

same_place : (text : List ℕ) (i : ℕ) → Takes text i i []
same_place text i = record { whole = refl; end = omega arith }

password_takes : (text : List ℕ) (i : ℕ) → (p : Option (List ℕ)) × Takes text i (password_end text i) (password p) × IfSome p (AreAll class.Password)
unfolding password_end
password_takes text i = elim (cases_Bool (stands 58 text i)) [
  | inl t ↦ let w = run_takes class.Password text (i + 1) in (Some w.0, rw t (then (stands_takes 58 text i t) w.1), w.2)
  | inr f ↦ (None, rw f (same_place text i), tt)
]

record TakenLogin (text : List ℕ) (i : ℕ) (r : Option Span × ℕ) : Type 0 where
  tree : Option LoginTree
  takes : Takes text i r.1 (login tree)
  is : IfSome tree IsLogin
  none : IfNone tree (AreAll class.BeforeAt (drop r.1 text))

user_takes : (text : List ℕ) (i : ℕ) (r : Option Span × ℕ) → user_at text i ≡ Some r → TakenLogin text i r
unfolding user_at
user_takes text i r h =
    let u = bind_some (word_end class.User text i) _ r h in
    let c = cond_some (stands 64 text (password_end text u.0)) _ r u.2 in
    let user = word_takes class.User text i u.0 u.1 in
    let word = password_takes text u.0 in
    let sign = stands_takes 64 text (password_end text u.0) c.0 in
    let end : password_end text u.0 + 1 ≡ r.1 = ap (λ (x : Option Span × ℕ). x.1) c.1 in
    let tree : LoginTree = record { user = user.0; password = word.0 } in
    record {
      tree = Some tree;
      takes = subst (λ k. Takes text i k (login (Some tree))) end (then user.1 (then word.1 sign));
      is = record { user = user.2; password = word.2 };
      none = tt;
    }

-- a byte that isn't before an @ is one
is_at : (b : ℕ) → has class.BeforeAt b ≡ false → (b == 64) ≡ true
unfolding has
is_at b h = elim (cases_Bool (b == 64)) [ inl t ↦ t | inr f ↦ absurd (both_ways _ h (rw f refl)) ]

-- where no @ comes all the bytes are before one
none_comes : (text : List ℕ) (i : ℕ) → stands 64 text (run_end class.BeforeAt text i) ≡ false → AreAll class.BeforeAt (drop i text)
none_comes text i absent =
    let w = run_takes class.BeforeAt text i in
    let nothing : drop (run_end class.BeforeAt text i) text ≡ [] = by_rest (drop (run_end class.BeforeAt text i) text) refl (run_ends class.BeforeAt text i) in
    subst (AreAll class.BeforeAt) (sym (w.1.whole ∙ ap (λ xs. w.0 ++ xs) nothing ∙ append-nil w.0)) w.2
  where
    by_rest : (rest : List ℕ) → drop (run_end class.BeforeAt text i) text ≡ rest → Ends class.BeforeAt rest → rest ≡ []
    by_rest [] e ends = refl
    by_rest (b ∷ rest) e ends =
        let sign = eqb-true b 64 (is_at b ends) in
        absurd (both_ways _ absent (stands_at 64 text _ rest (e ∙ ap (λ (n : ℕ). n ∷ rest) sign)))

login_takes : (text : List ℕ) (i : ℕ) (r : Option Span × ℕ) → login_at text i ≡ Some r → TakenLogin text i r
unfolding login_at
login_takes text i r h = elim (cases_Bool (stands 64 text (run_end class.BeforeAt text i))) [
  | inl t ↦ user_takes text i r (rw t at h)
  | inr f ↦
      let same = same_Some _ _ (rw f at h) in
      subst (TakenLogin text i) same record { tree = None; takes = same_place text i; is = tt; none = none_comes text i f }
]

headers_take : (text : List ℕ) (i : ℕ) → ((i == length text) or stands 63 text i) ≡ true → (h : Option (List ℕ)) × (drop i text ≡ headers h)
headers_take text i e = elim (cases_Bool (i == length text)) [
  | inl t ↦ let end = eqb-true i (length text) t in (None, drop_all i text (omega arith))
  | inr f ↦ let there = stands_takes 63 text i (rw f at e) in (Some (drop (i + 1) text), there.whole)
]

record TakenSip (text : List ℕ) (i : ℕ) (scheme : List ℕ) : Type 0 where
  tree : SipTree
  scheme_is : tree.scheme ≡ scheme
  whole : drop i text ≡ login tree.login ++ behind_login tree
  is : IsSip tree

sip_takes : (s : scheme_type.Scheme) (text : List ℕ) (i : ℕ) (u : uri_type.Uri) (scheme : List ℕ) → sip_at s text i ≡ Some u → IsScheme scheme → scheme_of scheme ≢ Other → TakenSip text i scheme
unfolding sip_at
sip_takes s text i u scheme h scheme_is kind =
    let log = bind_some (login_at text i) _ u h in
    let host_of = bind_some (host_at text log.0.1) _ u log.2 in
    let port_of = bind_some (port_at Uri text host_of.0.1) _ u host_of.2 in
    let ps = bind_some (params_at Uri text port_of.0.1) _ u port_of.2 in
    let c = cond_some ((ps.0.1 == length text) or stands 63 text ps.0.1) _ u ps.2 in
    let a = login_takes text i log.0 log.1 in
    let w = host_takes text log.0.1 host_of.0 host_of.1 in
    let p = port_takes Uri text host_of.0.1 port_of.0 port_of.1 in
    let q = params_takes Uri text port_of.0.1 ps.0 ps.1 in
    let r = headers_take text ps.0.1 c.0 in
    let tree : SipTree = record { scheme = scheme; login = a.tree; host = w.0; port = p.0; params = q.trees; headers = r.0 } in
    let after : drop log.0.1 text ≡ behind_login tree = w.1.whole ∙ ap (λ xs. host w.0 ++ xs) (p.1.whole ∙ ap (λ xs. port p.0 ++ xs) (q.takes.whole ∙ ap (λ xs. params q.trees ++ xs) r.1)) in
    record {
      tree = tree;
      scheme_is = refl;
      whole = a.takes.whole ∙ ap (λ xs. login a.tree ++ xs) after;
      is = record { scheme = scheme_is; kind = kind; login = a.is; no_login = before a.tree (behind_login tree) after a.none; host = w.2; port = p.2; params = q.are };
    }
  where
    before : {A : Type 0} (o : Option A) (rest : List ℕ) {xs : List ℕ} → xs ≡ rest → IfNone o (AreAll class.BeforeAt xs) → IfNone o (AreAll class.BeforeAt rest)
    before None rest e k = subst (AreAll class.BeforeAt) e k
    before (Some x) rest e k = tt

other_takes : (text : List ℕ) (i : ℕ) (u : uri_type.Uri) → i ≤ length text → other_at text i ≡ Some u → 0 < length (drop i text)
unfolding other_at
other_takes text i u le h =
    let n = not_none (i == length text) _ u h in
    elim (cases_Bool (i == length text)) [
      | inl t ↦ absurd (both_ways _ n.0 t)
      | inr f ↦ omega (arith, length-drop i text, eqb-false i (length text) f)
    ]

sip_other : Sip ≡ Other → ⊥
sip_other h = cc

sips_other : Sips ≡ Other → ⊥
sips_other h = cc

-- the place behind the colon lies in the text
colon_within : (text : List ℕ) (c : ℕ) → Takes text c (c + 1) (58 ∷ []) → c + 1 ≤ length text
colon_within text c t = let e = ap length t.whole in omega (arith, length-drop c text, e)

pub uri_takes : (text : List ℕ) (i : ℕ) (u : uri_type.Uri) → i ≤ length text → uri_at text i ≡ Some u → (t : UriTree) × IsUri t × (drop i text ≡ uri t)
unfolding uri_at
uri_takes text i u le h =
    let c = bind_some (scheme_end text i) _ u h in
    let s = scheme_takes text i c.0 c.1 in
    let part = part_taken text i c.0 s.scheme s.takes in
    let read = rw part at c.2 in
    by_kind c.0 s (scheme_of s.scheme) refl read
  where
    with_sip : (c : ℕ) (s : TakenScheme text i c) → TakenSip text (c + 1) s.scheme → (t : UriTree) × IsUri t × (drop i text ≡ uri t)
    with_sip c s r =
        let front = s.takes.whole ∙ ap (λ xs. s.scheme ++ xs) s.colon.whole in
        let P : List ℕ → Type 0 = λ w. drop i text ≡ w ++ (58 ∷ (login r.tree.login ++ behind_login r.tree)) in
        (SipUri r.tree, r.is, subst P (sym r.scheme_is) (front ∙ ap (λ xs. s.scheme ++ (58 ∷ xs)) r.whole))

    by_kind : (c : ℕ) (s : TakenScheme text i c) (k : scheme_type.Scheme) → scheme_of s.scheme ≡ k → uri_behind (scheme_of s.scheme) text (c + 1) ≡ Some u → (t : UriTree) × IsUri t × (drop i text ≡ uri t)
    by_kind c s Sip e read = with_sip c s (sip_takes Sip text (c + 1) u s.scheme (rw e at read) s.is (λ k. sip_other (sym e ∙ k)))
    by_kind c s Sips e read = with_sip c s (sip_takes Sips text (c + 1) u s.scheme (rw e at read) s.is (λ k. sips_other (sym e ∙ k)))
    by_kind c s Other e read =
        let some = other_takes text (c + 1) u (colon_within text c s.colon) (rw e at read) in
        let tree : AbsoluteTree = record { scheme = s.scheme; rest = drop (c + 1) text } in
        (OtherUri tree, record { absolute = record { scheme = s.is; rest = some }; kind = e }, s.takes.whole ∙ ap (λ xs. s.scheme ++ xs) s.colon.whole)
