-- What the grammar of URIs spells is read again, each part at its place.
use Rattle.std.proofs.Common.{◌≡◌, ◌≢◌, ℕ, ◌+◌, ◌<◌, ◌≤◌, Bool, true, false, List, [], ◌∷◌, ◌++◌, length, drop, ◌==◌, refl, sym, ap, ◌∙◌, inl, inr, arith, Option, Some, None, append_assoc, length-append, length-drop}
use Rattle.std.specs.Prelude.{codes, is_some, IfSome, IfNone}
use Rattle.std.specs.Str.{str_eq_ignore_ascii_case}
use Rattle.std.proofs.lemmas.Bool.{cases_Bool, eq-eqb, ne_eqb}
use Rattle.std.proofs.lemmas.List.{append-nil}
use Rattle.sip_words.specs.declared.bytes.Class as class_type
use Rattle.sip_words.specs.declared.bytes.Class.TheVariants as class
use Rattle.sip_words.specs.declared.separators.Surroundings.TheVariants.{Uri}
use Rattle.sip_words.specs.Bytes.{◌or◌, has}
use Rattle.sip_words.specs.Spans.{span}
use Rattle.sip_words.specs.Words.{stands}
use Rattle.sip_words.specs.Grammar.{ParamTree, param, params, named_tree, named_place}
use Rattle.sip_words.proofs.Pieces.{behind, within, part_is, Ends, run_again, word_again, stands_at, stands_no, other_byte, solid}
use Rattle.sip_words.proofs.Again.{Stops, stops_params, params_again, named_is}
use Rattle.sip_fields.specs.declared.host.Host.TheVariants.{Name}
use Rattle.sip_fields.specs.declared.uri.Scheme as scheme_type
use Rattle.sip_fields.specs.declared.uri.Scheme.TheVariants.{Sip, Sips, Other}
use Rattle.sip_fields.specs.Uri.{scheme_of, password_end, user_at, login_at, sip_at, other_at, uri_behind, uri_at}
use Rattle.sip_fields.specs.Parts.{host, host_value, port, port_value}
use Rattle.sip_fields.specs.UriGrammar.{AreAll, LoginTree, password, login, IsLogin, headers, SipTree, behind_login, IsSip, UriTree, SipUri, OtherUri, uri, IsUri, user_place, uri_place}
use Rattle.sip_fields.proofs.Runs.{nothing_solid, at_length}
use Rattle.sip_fields.proofs.Hosts.{host_again}
use Rattle.sip_fields.proofs.Ports.{Without, no_separator_here, params_without, port_ends, port_again}
use Rattle.sip_fields.proofs.Schemes.{scheme_again}

-- a byte of a class that has no @ stands before one
before_at : (b : ℕ) → (b == 64) ≡ false → has class.BeforeAt b ≡ true
unfolding has
before_at b h = rw h refl

users_before : (w : List ℕ) → AreAll class.User w → AreAll class.BeforeAt w
unfolding has
users_before [] a = tt
users_before (b ∷ w) a = (before_at b (other_byte class.User 64 b refl a.0), users_before w a.1)

passwords_before : (w : List ℕ) → AreAll class.Password w → AreAll class.BeforeAt w
unfolding has
passwords_before [] a = tt
passwords_before (b ∷ w) a = (before_at b (other_byte class.Password 64 b refl a.0), passwords_before w a.1)

password_before : (p : Option (List ℕ)) → IfSome p (AreAll class.Password) → AreAll class.BeforeAt (password p)
unfolding has
password_before None is = tt
password_before (Some w) is = (refl, passwords_before w is)

pub all_both : (c : class_type.Class) (v w : List ℕ) → AreAll c v → AreAll c w → AreAll c (v ++ w)
all_both c [] w a b = b
all_both c (x ∷ v) w a b = (a.0, all_both c v w a.1 b)

at_ends : has class.BeforeAt 64 ≡ false
unfolding has
at_ends = refl

password_starts : (p : Option (List ℕ)) (rest : List ℕ) → Ends class.User (password p ++ (64 ∷ rest))
unfolding has
password_starts None rest = refl
password_starts (Some w) rest = refl

password_ends : has class.Password 64 ≡ false
unfolding has
password_ends = refl

password_again : (text : List ℕ) (i : ℕ) (p : Option (List ℕ)) (rest : List ℕ) → drop i text ≡ password p ++ (64 ∷ rest) → IfSome p (AreAll class.Password) → password_end text i ≡ i + length (password p)
unfolding password_end
password_again text i None rest h is = rw (stands_no 58 text i _ h refl) (omega arith)
password_again text i (Some w) rest h is =
    let inside = behind text i (58 ∷ []) _ h in
    rw (stands_at 58 text i _ h, run_again class.Password text _ w _ inside is password_ends) (omega arith)

login_length : (l : LoginTree) → length (login (Some l)) ≡ length l.user + (length (password l.password) + 1)
login_length l = length-append l.user (password l.password ++ 64 ∷ []) ∙ ap (λ n. length l.user + n) (length-append (password l.password) (64 ∷ []))

login_again : (text : List ℕ) (i : ℕ) (l : Option LoginTree) (rest : List ℕ) → drop i text ≡ login l ++ rest → IfSome l IsLogin → IfNone l (AreAll class.BeforeAt rest) → login_at text i ≡ Some (user_place i l, i + length (login l))
unfolding login_at user_at
login_again text i None rest h is none =
    let whole : drop i text ≡ rest ++ [] = h ∙ sym (append-nil rest) in
    let run = run_again class.BeforeAt text i rest [] whole none tt in
    let no = stands_no 64 text _ [] (behind text i rest [] whole) tt in
    rw (run, no) (ap (λ (n : ℕ). Some (None, n)) (omega arith))
login_again text i (Some l) rest h is none =
    let whole : drop i text ≡ l.user ++ (password l.password ++ (64 ∷ rest)) = h ∙ regroup l.user (password l.password) rest in
    let user = is.user in
    let both : drop i text ≡ (l.user ++ password l.password) ++ (64 ∷ rest) = whole ∙ sym (append_assoc l.user (password l.password) (64 ∷ rest)) in
    let run = run_again class.BeforeAt text i (l.user ++ password l.password) _ both (all_both class.BeforeAt l.user (password l.password) (users_before l.user user.all) (password_before l.password is.password)) at_ends in
    let there = stands_at 64 text _ rest (behind text i (l.user ++ password l.password) _ both) in
    let word = word_again class.User text i l.user _ whole user (password_starts l.password rest) in
    let at_1 = behind text i l.user _ whole in
    let end = password_again text _ l.password rest at_1 is.password in
    let at_2 = behind text _ (password l.password) _ at_1 in
    let sign = stands_at 64 text _ rest at_2 in
    rw (run, there, word, end, sign) (ap (λ (n : ℕ). Some (Some (span i (i + length l.user)), n)) (omega (arith, login_length l)))
  where
    regroup : (u p r : List ℕ) → (u ++ (p ++ 64 ∷ [])) ++ r ≡ u ++ (p ++ (64 ∷ r))
    regroup u p r = simp append_assoc

stops_headers : (h : Option (List ℕ)) → Stops Uri (headers h)
stops_headers None = tt
stops_headers (Some w) = inr refl

headers_without : (m : ℕ) (h : Option (List ℕ)) → (63 == m) ≡ false → Without Uri m (headers h)
headers_without m None ne = record { blanks = []; next = []; whole = refl; spacing = refl; solid = nothing_solid; lacks = tt }
headers_without m (Some w) ne = record { blanks = []; next = 63 ∷ w; whole = refl; spacing = refl; solid = solid 63 w (refl, refl); lacks = ne }

either : (b : Bool) → (b or true) ≡ true
either true = refl
either false = refl

ends_again : (text : List ℕ) (i : ℕ) (h : Option (List ℕ)) → i ≤ length text → drop i text ≡ headers h → ((i == length text) or stands 63 text i) ≡ true
ends_again text i None le e = let same : (i == length text) ≡ true = eq-eqb _ _ (at_length text i le e) in rw same refl
ends_again text i (Some w) le e = rw (stands_at 63 text i w e) (either (i == length text))

-- there is a parameter of a name exactly where its tree is
pub some_named : (name : List ℕ) (i : ℕ) (ps : List ParamTree) → is_some (named_place name i ps) ≡ is_some (named_tree name ps)
some_named name i [] = refl
some_named name i (p ∷ ps) = elim (cases_Bool (str_eq_ignore_ascii_case p.name name)) [ inl t ↦ rw t refl | inr f ↦ rw f (some_named name (i + length (param p)) ps) ]

sip_again : (s : scheme_type.Scheme) (text : List ℕ) (i : ℕ) (t : SipTree) → i ≤ length text → drop i text ≡ login t.login ++ behind_login t → IsSip t → sip_at s text i ≡ Some record {
  scheme = s;
  user = user_place i t.login;
  host = host_value t.host;
  host_at = span (i + length (login t.login)) (i + length (login t.login) + length (host t.host));
  port = port_value t.port;
  lr = is_some (named_tree (codes "lr") t.params);
}
unfolding sip_at
sip_again s text i t le h is =
    let rest = params t.params ++ headers t.headers in
    let stops = stops_params Uri t.params (headers t.headers) is.params (stops_headers t.headers) in
    let login_is = login_again text i t.login _ h is.login is.no_login in
    let at_1 = behind text i (login t.login) _ h in
    let host_is = host_again text _ t.host _ at_1 is.host (port_ends Uri t.port rest stops) in
    let at_2 = behind text _ (host t.host) _ at_1 in
    let port_is = port_again Uri text _ t.port rest at_2 is.port (params_without Uri 58 t.params (headers t.headers) is.params refl (headers_without 58 t.headers refl)) stops in
    let at_3 = behind text _ (port t.port) _ at_2 in
    let at_4 = behind text _ (params t.params) _ at_3 in
    let none = no_separator_here Uri 59 text _ (headers t.headers) at_4 (headers_without 59 t.headers refl) in
    let params_is = params_again Uri text _ t.params (headers t.headers) at_3 is.params (stops_headers t.headers) none in
    let in_1 = within text i (login t.login) _ le h in
    let in_2 = within text _ (host t.host) _ in_1 at_1 in
    let in_3 = within text _ (port t.port) _ in_2 at_2 in
    let in_4 = within text _ (params t.params) _ in_3 at_3 in
    let ends = ends_again text _ t.headers in_4 at_4 in
    let lr_name = named_is (codes "lr") text _ t.params _ at_3 in
    let lr = some_named (codes "lr") (i + length (login t.login) + length (host t.host) + length (port t.port)) t.params in
    rw (login_is, host_is, port_is, params_is, ends, lr_name, lr) refl

pub behind_sip : (s : scheme_type.Scheme) (text : List ℕ) (i : ℕ) → s ≢ Other → uri_behind s text i ≡ sip_at s text i
behind_sip Sip text i ne = refl
behind_sip Sips text i ne = refl
behind_sip Other text i ne = absurd (ne refl)

other_again : (text : List ℕ) (i : ℕ) (rest : List ℕ) → i ≤ length text → drop i text ≡ rest → 0 < length rest → other_at text i ≡ Some record { scheme = Other; user = None; host = Name; host_at = span i i; port = None; lr = false }
unfolding other_at
other_again text i rest le h some =
    let ne : (i == length text) ≡ false = ne_eqb _ _ (λ e. omega (arith, e, length-drop i text, ap length h)) in
    rw ne refl

pub uri_again : (text : List ℕ) (i : ℕ) (t : UriTree) → i ≤ length text → drop i text ≡ uri t → IsUri t → uri_at text i ≡ Some (uri_place i t)
unfolding uri_at
uri_again text i (SipUri t) le h is =
    let colon = scheme_again text i t.scheme _ h is.scheme in
    let part = part_is text i t.scheme _ h in
    let in_1 = within text i t.scheme _ le h in
    let at_1 = behind text i t.scheme _ h in
    let in_2 = within text _ (58 ∷ []) _ in_1 at_1 in
    let at_2 = behind text _ (58 ∷ []) _ at_1 in
    rw (colon, part, behind_sip (scheme_of t.scheme) text (i + length t.scheme + 1) is.kind) (sip_again (scheme_of t.scheme) text _ t in_2 at_2 is)
uri_again text i (OtherUri t) le h is =
    let absolute_is = is.absolute in
    let colon = scheme_again text i t.scheme _ h absolute_is.scheme in
    let part = part_is text i t.scheme _ h in
    let in_1 = within text i t.scheme _ le h in
    let at_1 = behind text i t.scheme _ h in
    let in_2 = within text _ (58 ∷ []) _ in_1 at_1 in
    let at_2 = behind text _ (58 ∷ []) _ at_1 in
    let kind = is.kind in
    rw (colon, part, kind) (other_again text _ t.rest in_2 at_2 absolute_is.rest)
