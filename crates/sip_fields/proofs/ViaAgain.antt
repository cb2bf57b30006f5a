-- What the grammar of Via spells is read again, each part at its place.
use Rattle.std.proofs.Common.{◌≡◌, ℕ, ◌+◌, ◌≤◌, true, false, List, [], ◌∷◌, ◌++◌, length, drop, ◌==◌, refl, subst, sym, ap, ◌∙◌, inl, inr, arith, Option, Some, None, append_assoc, length-append}
use Rattle.std.specs.Prelude.{codes, ◌⊎◌, IfSome}
use Rattle.std.specs.Str.{str_eq_ignore_ascii_case}
use Rattle.std.proofs.lemmas.Bool.{ne_eqb, cases_eq, both_ways, cases_Bool}
use Rattle.sip_words.specs.declared.bytes.Class.TheVariants as class
use Rattle.sip_words.specs.declared.separators.Surroundings.TheVariants.{Field}
use Rattle.sip_words.specs.Words.{blank_len}
use Rattle.sip_words.specs.Grammar.{lws, SeparatorTree, separator, IsSeparator, ValueTree, value, ParamTree, assigned, param, value_place, params, named_tree, named_place}
use Rattle.sip_words.proofs.Pieces.{behind, within, part_is, word_again, lws_again, gap_again, separator_again, solid, token_solid, name_solid, word_at_again}
use Rattle.sip_words.proofs.Again.{stops_token, stops_params, params_again, named_is}
use Rattle.sip_fields.specs.Via.{protocol_at, token_value, branch_of, via_at}
use Rattle.sip_fields.specs.Parts.{host, port, tail, value_of_param}
use Rattle.sip_fields.specs.ViaGrammar.{ViaTree, protocol, via, HasToken, IsVia, via_place}
use Rattle.sip_fields.proofs.Runs.{stops_gap}
use Rattle.sip_fields.proofs.Hosts.{host_word, host_again}
use Rattle.sip_fields.proofs.Ports.{no_separator_here, tail_without, params_without, stops_tail, port_ends, port_again, next_again}

branch_value : (text : List ℕ) (i : ℕ) (v : Option ValueTree) (rest : List ℕ) → drop i text ≡ assigned v ++ rest → HasToken v → token_value text (value_place i v) ≡ Some (value_place i v)
branch_value text i None rest h has_it = absurd has_it
branch_value text i (Some v) rest h has_it =
    let inside : drop (i + 1) text ≡ value v ++ rest = behind text i (61 ∷ []) _ h in
    rw (part_is text (i + 1) (value v) rest inside, has_it) refl

-- the place behind a parameter's name
pub value_here : (text : List ℕ) (i : ℕ) (p : ParamTree) (rest : List ℕ) → drop i text ≡ param p ++ rest → drop (i + length (separator 59 p.semicolon) + length p.name) text ≡ assigned p.value ++ rest
value_here text i p rest h =
    let whole = h ∙ append_assoc (separator 59 p.semicolon) (p.name ++ assigned p.value) rest in
    let at = behind text i (separator 59 p.semicolon) _ whole ∙ append_assoc p.name (assigned p.value) rest in
    behind text _ p.name _ at

branch_is : (text : List ℕ) (i : ℕ) (ps : List ParamTree) (rest : List ℕ) → drop i text ≡ params ps ++ rest → IfSome (named_tree (codes "branch") ps) (λ p. HasToken p.value) → branch_of text (named_place (codes "branch") i ps) ≡ Some (value_of_param (named_place (codes "branch") i ps))
branch_is text i [] rest h is = refl
branch_is text i (p ∷ ps) rest h is =
    let whole = h ∙ append_assoc (param p) (params ps) rest in
    let value_at = value_here text i p _ whole in
    let there : drop (i + length (param p)) text ≡ params ps ++ rest = behind text i (param p) _ whole in
    elim (cases_Bool (str_eq_ignore_ascii_case p.name (codes "branch"))) [
      | inl t ↦ rw t (branch_value text _ p.value _ value_at (rw t at is))
      | inr f ↦ rw f (branch_is text (i + length (param p)) ps rest there (rw f at is))
    ]

six : (a b c d e f r : List ℕ) → (a ++ (b ++ (c ++ (d ++ (e ++ f))))) ++ r ≡ a ++ (b ++ (c ++ (d ++ (e ++ (f ++ r)))))
six a b c d e f r = simp append_assoc

six_length : (a b c d e f : List ℕ) → length (a ++ (b ++ (c ++ (d ++ (e ++ f))))) ≡ length a + (length b + (length c + (length d + (length e + length f))))
six_length a b c d e f = simp length-append

-- a word that begins with no blank
word_solid : (word w x : List ℕ) → ((m : ℕ) (v : List ℕ) → (m ≡ 32) ⊎ ((m ≡ 9) ⊎ (m ≡ 13)) → str_eq_ignore_ascii_case (m ∷ v) word ≡ false) → str_eq_ignore_ascii_case [] word ≡ false → str_eq_ignore_ascii_case w word ≡ true → blank_len (w ++ x) ≡ 0
word_solid word [] x lacks empty h = absurd (both_ways _ empty h)
word_solid word (b ∷ w) x lacks empty h = solid b (w ++ x) (rw (other 32 (inl refl), other 9 (inr (inl refl))) refl, other 13 (inr (inr refl)))
  where
    other : (m : ℕ) → (m ≡ 32) ⊎ ((m ≡ 9) ⊎ (m ≡ 13)) → (b == m) ≡ false
    other m is = elim (cases_eq b m) [ inl e ↦ let P : ℕ → Type 0 = λ n. str_eq_ignore_ascii_case (n ∷ w) word ≡ true in absurd (both_ways _ (lacks m w is) (subst P e h)) | inr ne ↦ ne_eqb b m ne ]

by_blank : (P : ℕ → Type 0) → P 32 → P 9 → P 13 → (m : ℕ) → (m ≡ 32) ⊎ ((m ≡ 9) ⊎ (m ≡ 13)) → P m
by_blank P p q r m (inl e) = subst P (sym e) p
by_blank P p q r m (inr (inl e)) = subst P (sym e) q
by_blank P p q r m (inr (inr e)) = subst P (sym e) r

sip_solid : (w x : List ℕ) → str_eq_ignore_ascii_case w (codes "SIP") ≡ true → blank_len (w ++ x) ≡ 0
sip_solid w x h = word_solid (codes "SIP") w x (λ m v is. by_blank (λ n. str_eq_ignore_ascii_case (n ∷ v) (codes "SIP") ≡ false) refl refl refl m is) refl h

version_solid : (w x : List ℕ) → str_eq_ignore_ascii_case w (codes "2.0") ≡ true → blank_len (w ++ x) ≡ 0
version_solid w x h = word_solid (codes "2.0") w x (λ m v is. by_blank (λ n. str_eq_ignore_ascii_case (n ∷ v) (codes "2.0") ≡ false) refl refl refl m is) refl h

spaced : (m : SeparatorTree) → IsSeparator Field m
spaced m = record { before = tt; after = tt }

protocol_again : (text : List ℕ) (i : ℕ) (t : ViaTree) (rest : List ℕ) → drop i text ≡ protocol t ++ rest → IsVia t → blank_len rest ≡ 0 → protocol_at text i ≡ Some (i + length (protocol t))
unfolding protocol_at
protocol_again text i t rest h is none =
    let whole = h ∙ six t.sip (separator 47 t.slash) t.version (separator 47 t.second_slash) t.transport (lws t.gap) rest in
    let a = word_at_again t.sip (codes "SIP") text i _ whole is.sip in
    let in_b = behind text i t.sip _ whole in
    let b = separator_again Field 47 text _ t.slash _ (refl, refl) (spaced t.slash) (version_solid t.version _ is.version) in_b in
    let in_c = behind text _ (separator 47 t.slash) _ in_b in
    let c = word_at_again t.version (codes "2.0") text _ _ in_c is.version in
    let in_d = behind text _ t.version _ in_c in
    let transport = is.transport in
    let d = separator_again Field 47 text _ t.second_slash _ (refl, refl) (spaced t.second_slash) (token_solid t.transport (lws t.gap ++ rest) transport) in_d in
    let in_e = behind text _ (separator 47 t.second_slash) _ in_d in
    let e = word_again class.Token text _ t.transport _ in_e transport (stops_token Field _ (stops_gap t.gap rest is.gap)) in
    let in_f = behind text _ t.transport _ in_e in
    let f = gap_again text _ t.gap rest in_f none is.gap in
    rw (a, b, c, d, e, f) (ap (λ (n : ℕ). Some n) (omega (arith, six_length t.sip (separator 47 t.slash) t.version (separator 47 t.second_slash) t.transport (lws t.gap))))

pub via_again : (text : List ℕ) (i : ℕ) (t : ViaTree) → i ≤ length text → drop i text ≡ via t → IsVia t → via_at text i ≡ Some (via_place i t)
unfolding via_at
via_again text i t le h is =
    let rest = params t.params ++ tail t.tail in
    let stops = stops_params Field t.params (tail t.tail) is.params (stops_tail t.tail) in
    let start = lws_again text i t.lead _ h (ap blank_len (six t.sip (separator 47 t.slash) t.version (separator 47 t.second_slash) t.transport (lws t.gap) _) ∙ sip_solid t.sip _ is.sip) in
    let at_1 = behind text i (lws t.lead) _ h in
    let protocol_is = protocol_again text _ t _ at_1 is (name_solid (host t.host) _ (host_word t.host is.host)) in
    let at_2 = behind text _ (protocol t) _ at_1 in
    let host_is = host_again text _ t.host _ at_2 is.host (port_ends Field t.port rest stops) in
    let at_3 = behind text _ (host t.host) _ at_2 in
    let port_is = port_again Field text _ t.port rest at_3 is.port (params_without Field 58 t.params (tail t.tail) is.params refl (tail_without 58 t.tail refl)) stops in
    let at_4 = behind text _ (port t.port) _ at_3 in
    let at_5 = behind text _ (params t.params) _ at_4 in
    let none = no_separator_here Field 59 text _ (tail t.tail) at_5 (tail_without 59 t.tail refl) in
    let params_is = params_again Field text _ t.params (tail t.tail) at_4 is.params (stops_tail t.tail) none in
    let branch_name = named_is (codes "branch") text _ t.params _ at_4 in
    let received_name = named_is (codes "received") text _ t.params _ at_4 in
    let rport_name = named_is (codes "rport") text _ t.params _ at_4 in
    let branch = branch_is text _ t.params _ at_4 is.branch in
    let in_1 = within text i (lws t.lead) _ le h in
    let in_2 = within text _ (protocol t) _ in_1 at_1 in
    let in_3 = within text _ (host t.host) _ in_2 at_2 in
    let in_4 = within text _ (port t.port) _ in_3 at_3 in
    let in_5 = within text _ (params t.params) _ in_4 at_4 in
    let next = next_again text _ t.tail in_5 at_5 is.tail in
    rw (start, protocol_is, host_is, port_is, params_is, branch_name, received_name, rport_name, branch, next) refl
