-- The user of a URI ends before its host begins.
use Rattle.std.proofs.Common.{◌≡◌, ℕ, ◌+◌, ◌-◌, ◌≤◌, ◌==◌, List, length, arith, subst, inl, inr, Some, None}
use Rattle.std.specs.Prelude.{Option, IfSome, slice_range}
use Rattle.std.proofs.lemmas.Bool.{cases_Bool}
use Rattle.std.proofs.lemmas.Option.{cond_some, same_Some}
use Rattle.sip_words.specs.declared.Span.{Span}
use Rattle.sip_words.specs.declared.bytes.Class.TheVariants as class
use Rattle.sip_words.specs.declared.separators.Surroundings.TheVariants as setting
use Rattle.sip_words.specs.Bytes.{◌or◌}
use Rattle.sip_words.specs.Spans.{IsBetween, IsWithin}
use Rattle.sip_words.specs.Words.{run_end, word_end, stands}
use Rattle.sip_words.specs.Params.{params_at, known}
use Rattle.sip_words.proofs.Steps.{bind_some}
use Rattle.sip_words.proofs.Takes.{run_takes, not_none}
use Rattle.sip_fields.specs.declared.uri.Uri.{Uri}
use Rattle.sip_fields.specs.declared.uri.Scheme as scheme
use Rattle.sip_fields.specs.declared.uri.Scheme.TheVariants.{Sip, Sips, Other}
use Rattle.sip_fields.specs.Host.{host_at, port_at}
use Rattle.sip_fields.specs.Uri.{scheme_end, scheme_of, password_end, user_at, login_at, sip_at, other_at, uri_behind, uri_at, IsUriBetween}

-- an `@` at least stands between
abbrev EndsBefore : Option Span → ℕ → Type 0
EndsBefore user host = IfSome user (λ s. s.to + 1 ≤ host)

password_past : (text : List ℕ) (i : ℕ) → i ≤ password_end text i
unfolding password_end
password_past text i = elim (cases_Bool (stands 58 text i)) [
  | inl t ↦ rw t (omega (arith, (run_takes class.Password text (i + 1)).1.end))
  | inr f ↦ rw f (omega arith)
]

user_before : (text : List ℕ) (i : ℕ) (r : Option Span × ℕ) → user_at text i ≡ Some r → EndsBefore r.0 r.1
unfolding user_at
user_before text i r h =
    let u = bind_some (word_end class.User text i) _ r h in
    let c = cond_some (stands 64 text (password_end text u.0)) _ r u.2 in
    subst (λ (x : Option Span × ℕ). EndsBefore x.0 x.1) c.1 (omega (arith, password_past text u.0))

login_before : (text : List ℕ) (i : ℕ) (r : Option Span × ℕ) → login_at text i ≡ Some r → EndsBefore r.0 r.1
unfolding login_at
login_before text i r h = elim (cases_Bool (stands 64 text (run_end class.BeforeAt text i))) [
  | inl t ↦ user_before text i r (rw t at h)
  | inr f ↦ subst (λ (x : Option Span × ℕ). EndsBefore x.0 x.1) (same_Some _ _ (rw f at h)) tt
]

sip_before : (s : scheme.Scheme) (text : List ℕ) (i : ℕ) (u : Uri) → sip_at s text i ≡ Some u → EndsBefore u.user u.host_at.from
unfolding sip_at
sip_before s text i u h =
    let log = bind_some (login_at text i) _ u h in
    let host_of = bind_some (host_at text log.0.1) _ u log.2 in
    let port_of = bind_some (port_at setting.Uri text host_of.0.1) _ u host_of.2 in
    let ps = bind_some (params_at setting.Uri text port_of.0.1) _ u port_of.2 in
    let c = cond_some ((ps.0.1 == length text) or stands 63 text ps.0.1) _ u ps.2 in
    subst (λ (x : Uri). EndsBefore x.user x.host_at.from) c.1 (login_before text i log.0 log.1)

other_before : (text : List ℕ) (i : ℕ) (u : Uri) → other_at text i ≡ Some u → EndsBefore u.user u.host_at.from
unfolding other_at
other_before text i u h = let n = not_none (i == length text) _ u h in subst (λ (x : Uri). EndsBefore x.user x.host_at.from) n.1 tt

behind : (s : scheme.Scheme) (text : List ℕ) (i : ℕ) (u : Uri) → uri_behind s text i ≡ Some u → EndsBefore u.user u.host_at.from
behind Sip text i u h = sip_before Sip text i u h
behind Sips text i u h = sip_before Sips text i u h
behind Other text i u h = other_before text i u h

uri_before : (text : List ℕ) (u : Uri) → uri_at text 0 ≡ Some u → EndsBefore u.user u.host_at.from
unfolding uri_at
uri_before text u h =
    let c = bind_some (scheme_end text 0) _ u h in behind (scheme_of (slice_range text 0 c.0)) text (c.0 + 1) u c.2

user_ends : (text : List ℕ) (u : Uri) (s : Span) → uri_at text 0 ≡ Some u → u.user ≡ Some s → s.to + 1 ≤ u.host_at.from
user_ends text u s h e = subst (λ (o : Option Span). EndsBefore o u.host_at.from) e (uri_before text u h)

user_lies : (n : ℕ) (u : Uri) (s : Span) → IsUriBetween 0 n u → u.user ≡ Some s → IsBetween 0 n s
user_lies n u s at e = subst (λ (o : Option Span). IfSome o (IsBetween 0 n)) e at.user

-- each part lies in the text
pub host_within : (text : List ℕ) (u : Uri) → IsUriBetween 0 (length text) u → IsWithin text u.host_at
host_within text u at = record { order = at.host_at.order; end = at.host_at.high }

pub user_within : (text : List ℕ) (u : Uri) (s : Span) → IsUriBetween 0 (length text) u → u.user ≡ Some s → IsWithin text s
user_within text u s at e = let h = user_lies (length text) u s at e in record { order = h.order; end = h.high }

pub host_late : (text : List ℕ) (u : Uri) (s : Span) → uri_at text 0 ≡ Some u → u.user ≡ Some s → 1 ≤ u.host_at.from
host_late text u s h e = omega (arith, user_ends text u s h e)

pub password_within : (text : List ℕ) (u : Uri) (s : Span) → uri_at text 0 ≡ Some u → IsUriBetween 0 (length text) u → u.user ≡ Some s → IsWithin text (record { from = s.to; to = u.host_at.from - 1 })
password_within text u s h at e =
    let ends = user_ends text u s h e in record { order = omega (arith, ends); end = omega (arith, at.host_at.order, at.host_at.high) }
