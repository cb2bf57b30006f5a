-- Addresses: what the grammar spells is read again, and what is read is spelled by the grammar.
use Rattle.std.proofs.Common.{◌≡◌, ℕ, suc, ◌+◌, ◌-◌, ◌≤◌, Bool, true, false, List, [], ◌∷◌, ◌++◌, length, take, drop, refl, subst, sym, ap, ◌∙◌, inl, inr, arith, Option, Some, None, append_assoc, length-append, length-take-le}
use Rattle.std.specs.Prelude.{slice_range, ◌⊎◌}
use Rattle.std.proofs.lemmas.Bool.{both_ways}
use Rattle.std.proofs.lemmas.List.{drop-take}
use Rattle.std.proofs.lemmas.Option.{cond_some, same_Some}
use Rattle.sip_words.specs.declared.Span.{Span}
use Rattle.sip_words.specs.declared.bytes.Class.TheVariants as class
use Rattle.sip_words.specs.declared.separators.Surroundings.TheVariants.{Field}
use Rattle.sip_words.specs.Bytes.{◌and◌, has}
use Rattle.sip_words.specs.Spans.{span}
use Rattle.sip_words.specs.Words.{run_end, word_end, blank_len, stands}
use Rattle.sip_words.specs.Grammar.{IsWord}
use Rattle.sip_words.proofs.Steps.{bind_some}
use Rattle.sip_words.proofs.Pieces.{behind, within, part_is, Ends, Lacks, run_again, word_again, stands_at, stands_no, other_byte, solid}
use Rattle.sip_words.proofs.Again.{Stops}
use Rattle.sip_words.proofs.Takes.{Takes, then, run_takes, word_takes, stands_takes, part_taken}
use Rattle.sip_fields.specs.Uri.{is_absolute, uri_at}
use Rattle.sip_fields.specs.NameAddr.{names_end, display_end, open_at, closed_uri, bare_uri, uri_from, any_uri, route_uri}
use Rattle.sip_fields.specs.UriGrammar.{AreAll, IsScheme, AbsoluteTree, absolute, IsAbsolute}
use Rattle.sip_fields.specs.NameAddrGrammar.{display, AddressTree, Bracketed, Plain, address, IsAddress, address_place, IsRouteAddress}
use Rattle.sip_fields.proofs.Schemes.{are_tokens, absolute_length, absolute_again, absolute_takes, scheme_solid}
use Rattle.sip_fields.proofs.UriAgain.{uri_again}
use Rattle.sip_fields.proofs.UriTakes.{uri_takes}
use Rattle.sip_fields.proofs.Displays.{no_names, one_name, open_again, display_solid, open_takes}

close_ends : has class.InBrackets 62 ≡ false
unfolding has
close_ends = refl

closed_again : (text : List ℕ) (i : ℕ) (u : AbsoluteTree) (rest : List ℕ) → drop i text ≡ absolute u ++ (62 ∷ rest) → IsAbsolute u → AreAll class.InBrackets (absolute u) → closed_uri text i ≡ Some (span i (i + length (absolute u)), i + length (absolute u) + 1)
unfolding closed_uri
closed_again text i u rest h is all =
    let run = run_again class.InBrackets text i (absolute u) _ h all close_ends in
    let there = stands_at 62 text _ rest (behind text i (absolute u) _ h) in
    rw (run, there, part_is text i (absolute u) _ h, absolute_again u is) refl

closed_takes : (text : List ℕ) (i : ℕ) (r : Span × ℕ) → closed_uri text i ≡ Some r → (u : AbsoluteTree) × Takes text i r.1 (absolute u ++ (62 ∷ [])) × IsAbsolute u × AreAll class.InBrackets (absolute u) × (r.0 ≡ span i (i + length (absolute u)))
unfolding closed_uri
closed_takes text i r h =
    let c = cond_some (stands 62 text (run_end class.InBrackets text i) and is_absolute (slice_range text i (run_end class.InBrackets text i))) _ r h in
    let both = parts (stands 62 text (run_end class.InBrackets text i)) (is_absolute (slice_range text i (run_end class.InBrackets text i))) c.0 in
    let w = run_takes class.InBrackets text i in
    let part = part_taken text i (run_end class.InBrackets text i) w.0 w.1 in
    let u = absolute_takes w.0 (rw part at both.1) in
    let at : Takes text i (run_end class.InBrackets text i) (absolute u.0) = subst (λ (v : List ℕ). Takes text i (run_end class.InBrackets text i) v) u.1 w.1 in
    let all = then at (stands_takes 62 text (run_end class.InBrackets text i) both.0) in
    let end : run_end class.InBrackets text i + 1 ≡ r.1 = ap (λ (x : Span × ℕ). x.1) c.1 in
    let place : span i (run_end class.InBrackets text i) ≡ r.0 = ap (λ (x : Span × ℕ). x.0) c.1 in
    (u.0, subst (λ k. Takes text i k (absolute u.0 ++ (62 ∷ []))) end all, u.2, subst (AreAll class.InBrackets) u.1 w.2, sym place ∙ ap (λ k. span i k) at.end)
  where
    parts : (a b : Bool) → (a and b) ≡ true → (a ≡ true) × (b ≡ true)
    parts true b k = (refl, k)
    parts false b k = absurd (both_ways _ refl k)

stop_bare : (b : ℕ) → (b ≡ 59) ⊎ ((b ≡ 44) ⊎ ((b ≡ 32) ⊎ ((b ≡ 9) ⊎ (b ≡ 13)))) → has class.Bare b ≡ false
unfolding has
stop_bare b (inl e) = rw e refl
stop_bare b (inr (inl e)) = rw e refl
stop_bare b (inr (inr (inl e))) = rw e refl
stop_bare b (inr (inr (inr (inl e)))) = rw e refl
stop_bare b (inr (inr (inr (inr e)))) = rw e refl

stops_bare : (rest : List ℕ) → Stops Field rest → Ends class.Bare rest
stops_bare [] h = tt
stops_bare (b ∷ rest) h = stop_bare b h

colon_ends : has class.Token 58 ≡ false
unfolding has
colon_ends = refl

scheme_word : (w : List ℕ) → IsScheme w → IsWord class.Token w
scheme_word [] is = absurd is.first
scheme_word (b ∷ w) is = record { some = omega arith; all = are_tokens (b ∷ w) is.all }

letter_lacks : (m : ℕ) (w rest : List ℕ) → has class.Letter m ≡ false → IsScheme w → Lacks m (w ++ rest)
letter_lacks m [] rest lacks is = absurd is.first
letter_lacks m (b ∷ w) rest lacks is = other_byte class.Letter m b lacks is.first

quote_no_letter : has class.Letter 34 ≡ false
unfolding has
quote_no_letter = refl

-- a URI alone has no < behind a display name
not_open : (text : List ℕ) (i : ℕ) (scheme rest : List ℕ) → drop i text ≡ scheme ++ (58 ∷ rest) → IsScheme scheme → open_at text i ≡ None
unfolding open_at display_end
not_open text i scheme rest h is =
    let none = stands_no 34 text i _ h (letter_lacks 34 scheme _ quote_no_letter is) in
    let at = behind text i scheme _ h in
    let one = one_name text i scheme [] (58 ∷ rest) h (scheme_word scheme is) colon_ends (solid 58 rest (refl, refl)) in
    let e : i + length scheme + 0 ≡ i + length scheme = omega arith in
    let names = one ∙ ap (λ n. names_end text n) e ∙ no_names text (i + length scheme) _ at colon_ends in
    let other = stands_no 60 text (i + length scheme) _ at refl in
    rw (none, names, other) refl

bare_again : (text : List ℕ) (i : ℕ) (u : AbsoluteTree) (rest : List ℕ) → drop i text ≡ absolute u ++ rest → IsAbsolute u → AreAll class.Bare (absolute u) → Stops Field rest → bare_uri text i ≡ Some (span i (i + length (absolute u)), i + length (absolute u))
unfolding bare_uri
bare_again text i u rest h is all stops =
    let word : IsWord class.Bare (absolute u) = record { some = omega (arith, absolute_length u); all = all } in
    rw (word_again class.Bare text i (absolute u) rest h word (stops_bare rest stops), part_is text i (absolute u) rest h, absolute_again u is) refl

bare_takes : (text : List ℕ) (i : ℕ) (r : Span × ℕ) → bare_uri text i ≡ Some r → (u : AbsoluteTree) × Takes text i r.1 (absolute u) × IsAbsolute u × AreAll class.Bare (absolute u)
unfolding bare_uri
bare_takes text i r h =
    let e = bind_some (word_end class.Bare text i) _ r h in
    let c = cond_some (is_absolute (slice_range text i e.0)) _ r e.2 in
    let w = word_takes class.Bare text i e.0 e.1 in
    let word = w.2 in
    let part = part_taken text i e.0 w.0 w.1 in
    let u = absolute_takes w.0 (rw part at c.0) in
    let end : e.0 ≡ r.1 = ap (λ (x : Span × ℕ). x.1) c.1 in
    (u.0, subst (λ k. Takes text i k (absolute u.0)) end (subst (λ (v : List ℕ). Takes text i e.0 v) u.1 w.1), u.2, subst (AreAll class.Bare) u.1 word.all)

bracketed : (d a r : List ℕ) → (d ++ (60 ∷ (a ++ 62 ∷ []))) ++ r ≡ d ++ (60 ∷ (a ++ (62 ∷ r)))
bracketed d a r = simp append_assoc

bracketed_length : (d a : List ℕ) → length (d ++ (60 ∷ (a ++ 62 ∷ []))) ≡ length d + suc (length a + 1)
bracketed_length d a = simp length-append

pub address_again : (text : List ℕ) (i : ℕ) (a : AddressTree) (rest : List ℕ) → drop i text ≡ address a ++ rest → IsAddress a → Stops Field rest → any_uri text i ≡ Some (address_place i a, i + length (address a))
unfolding any_uri
address_again text i (Bracketed d u) rest h is stops =
    let whole = h ∙ bracketed (display d) (absolute u) rest in
    let open_is = open_again text i d _ whole is.display in
    let inside = behind text _ (60 ∷ []) _ (behind text i (display d) _ whole) in
    rw (open_is, closed_again text _ u rest inside is.uri is.bytes) (ap (λ (n : ℕ). Some (span (i + length (display d) + 1) (i + length (display d) + 1 + length (absolute u)), n)) (omega (arith, bracketed_length (display d) (absolute u))))
address_again text i (Plain u) rest h is stops =
    let uri_is = is.uri in
    let whole = h ∙ append_assoc u.scheme (58 ∷ u.rest) rest in
    rw (not_open text i u.scheme _ whole uri_is.scheme) (bare_again text i u rest h uri_is is.bytes stops)

pub address_solid : (a : AddressTree) (rest : List ℕ) → IsAddress a → blank_len (address a ++ rest) ≡ 0
address_solid (Bracketed d u) rest is = ap blank_len (bracketed (display d) (absolute u) rest) ∙ display_solid d _ is.display
address_solid (Plain u) rest is = let uri_is = is.uri in ap blank_len (append_assoc u.scheme (58 ∷ u.rest) rest) ∙ scheme_solid u.scheme _ uri_is.scheme

pub address_takes : (text : List ℕ) (i : ℕ) (r : Span × ℕ) → any_uri text i ≡ Some r → (a : AddressTree) × Takes text i r.1 (address a) × IsAddress a
unfolding any_uri
address_takes text i r h = by_open (open_at text i) refl h
  where
    regroup : (d a : List ℕ) → (d ++ (60 ∷ [])) ++ (a ++ (62 ∷ [])) ≡ d ++ (60 ∷ (a ++ 62 ∷ []))
    regroup d a = simp append_assoc

    by_open : (o : Option ℕ) → open_at text i ≡ o → uri_from o text i ≡ Some r → (a : AddressTree) × Takes text i r.1 (address a) × IsAddress a
    by_open None e k = let u = bare_takes text i r k in (Plain u.0, u.1, record { uri = u.2; bytes = u.3 })
    by_open (Some place) e k =
        let d = open_takes text i place e in
        let u = closed_takes text place r k in
        (Bracketed d.0 u.0, subst (λ (v : List ℕ). Takes text i r.1 v) (regroup (display d.0) (absolute u.0)) (then d.1 u.1), record { display = d.2; uri = u.2; bytes = u.3 })

-- the URI of a Route value, cut out of the text
cut : (text : List ℕ) (i : ℕ) (w rest : List ℕ) → drop i text ≡ w ++ rest → drop i (take (i + length w) text) ≡ w
cut text i w rest h = drop-take i (length w) text ∙ sym (ap (λ n. take n (drop i text)) (minus i (length w))) ∙ part_is text i w rest h
  where
    minus : (i n : ℕ) → (i + n) - i ≡ n
    minus i n = omega arith

pub route_again : (text : List ℕ) (i : ℕ) (a : AddressTree) (rest : List ℕ) → i ≤ length text → drop i text ≡ address a ++ rest → IsAddress a → IsRouteAddress a → route_uri text i ≡ Some (address_place i a, i + length (address a))
unfolding route_uri
route_again text i (Plain u) rest le h is route = absurd route
route_again text i (Bracketed d u) rest le h is route =
    let whole = h ∙ bracketed (display d) (absolute u) rest in
    let open_is = open_again text i d _ whole is.display in
    let in_1 = within text i (display d) _ le whole in
    let at_1 = behind text i (display d) _ whole in
    let in_2 = within text _ (60 ∷ []) _ in_1 at_1 in
    let inside = behind text _ (60 ∷ []) _ at_1 in
    let in_3 = within text _ (absolute u) _ in_2 inside in
    let place = i + length (display d) + 1 in
    let piece = cut text place (absolute u) _ inside ∙ route.2 in
    let len = length-take-le (place + length (absolute u)) text in_3 in
    let read = uri_again (take (place + length (absolute u)) text) place route.0 (omega (arith, len)) piece route.1 in
    rw (open_is, closed_again text _ u rest inside is.uri is.bytes, read) (ap (λ (n : ℕ). Some (span (i + length (display d) + 1) (i + length (display d) + 1 + length (absolute u)), n)) (omega (arith, bracketed_length (display d) (absolute u))))

pub route_takes : (text : List ℕ) (i : ℕ) (r : Span × ℕ) → i ≤ length text → route_uri text i ≡ Some r → (a : AddressTree) × Takes text i r.1 (address a) × IsAddress a × IsRouteAddress a
unfolding route_uri
route_takes text i r le h =
    let place = bind_some (open_at text i) _ r h in
    let u = bind_some (closed_uri text place.0) _ r place.2 in
    let read = bind_some (uri_at (take u.0.0.to text) u.0.0.from) _ r u.2 in
    let d = open_takes text i place.0 place.1 in
    let c = closed_takes text place.0 u.0 u.1 in
    let all : Takes text i u.0.1 (display d.0 ++ (60 ∷ (absolute c.0 ++ 62 ∷ []))) = subst (λ (v : List ℕ). Takes text i u.0.1 v) (regroup (display d.0) (absolute c.0)) (then d.1 c.1) in
    let end : u.0.1 ≡ r.1 = ap (λ (x : Span × ℕ). x.1) (same_Some _ _ read.2) in
    let P : Span → Type 0 = λ s. uri_at (take s.to text) s.from ≡ Some read.0 in
    let read_at = subst P c.4 read.1 in
    let inside = c.1.whole ∙ append_assoc (absolute c.0) (62 ∷ []) (drop u.0.1 text) in
    let d_takes = d.1 in
    let in_1 : place.0 ≤ length text = subst (λ n. n ≤ length text) (sym d_takes.end) (within text i (display d.0 ++ (60 ∷ [])) _ le d_takes.whole) in
    let in_2 = within text place.0 (absolute c.0) _ in_1 inside in
    let len = length-take-le (place.0 + length (absolute c.0)) text in_2 in
    let t = uri_takes (take (place.0 + length (absolute c.0)) text) place.0 read.0 (omega (arith, len)) read_at in
    (Bracketed d.0 c.0, subst (λ k. Takes text i k (address (Bracketed d.0 c.0))) end all, record { display = d.2; uri = c.2; bytes = c.3 }, (t.0, t.1, sym (cut text place.0 (absolute c.0) _ inside) ∙ t.2))
  where
    regroup : (d a : List ℕ) → (d ++ (60 ∷ [])) ++ (a ++ (62 ∷ [])) ≡ d ++ (60 ∷ (a ++ 62 ∷ []))
    regroup d a = simp append_assoc
