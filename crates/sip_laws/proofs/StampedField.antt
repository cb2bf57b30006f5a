-- The first Via field of a request, stamped, as it stands in what the proxy writes.
use Rattle.std.proofs.Common.{◌≡◌, ◌≢◌, ℕ, ◌+◌, ◌<◌, ◌≤◌, ◌==◌, Bool, true, false, List, [], ◌∷◌, ◌++◌, length, refl, sym, ap, ◌∙◌, arith, append_assoc, Option, Some, None, inl, inr}
use Rattle.std.specs.Prelude.{if◌then◌else◌, cond, codes, IfSome}
use Rattle.std.specs.List.{find, flat_map, list_any, AllByRecursion}
use Rattle.std.specs.Fmt.{decimal}
use Rattle.std.proofs.lemmas.Bool.{cases_Bool, ne_eqb, eq-eqb}
use Rattle.std.proofs.lemmas.List.{append-nil}
use Rattle.std.proofs.lemmas.List.Concat.{flat_map-append}
use Rattle.std.proofs.lemmas.List.Folds.{list_any-append}
use Rattle.sip_words.specs.declared.Span.{Span}
use Rattle.sip_words.specs.Grammar.{lws, params}
use Rattle.sip_fields.specs.declared.via.Via.{Via}
use Rattle.sip_fields.specs.declared.via.Rport.{Rport}
use Rattle.sip_fields.specs.declared.via.Rport.TheVariants.{Absent, Empty, Given}
use Rattle.sip_fields.specs.Parts.{host, port}
use Rattle.sip_fields.specs.ViaGrammar.{ViaTree, protocol, via_place}
use Rattle.msg_edits.specs.declared.parts.Edit.{Edit}
use Rattle.msg_edits.specs.declared.parts.Edit.TheVariants.{Insert}
use Rattle.msg_edits.specs.Edited.{is_cut, inserted_at, edited_from, text_at, cuts_byte}
use Rattle.msg_edits.proofs.Grown.{same_bytes}
use Rattle.msg_edits.proofs.Pieces.{from_append}
use Rattle.outside_ports.specs.declared.port.Addr.{Addr}
use Rattle.numerals.specs.Numerals.{dotted}
use Rattle.sip_build.specs.Stamp.{without_received, with_port, with_received, wants_received, stamp}
use Rattle.sip_laws.proofs.After.{edited_after, from_after, from_kept}
use Rattle.sip_laws.proofs.Stamped.{cuts, puts, walk, walked, puts_low, puts_high, cuts_high, cuts_front}
use Rattle.sip_laws.proofs.StampedTree.{received_line}

-- what stands at the end of the value
abbrev pub at_end : ℕ → List ℕ → ℕ → List ℕ
at_end end line k = if end == k then line else []

-- the edits without the address, and with it
abbrev pub first_edits : Via → ℕ → List Edit
first_edits v p = without_received v.received ++ with_port v.rport p

cut_received : (o : Option Span) (k : ℕ) → is_cut (without_received o) k ≡ cuts o k
cut_received None k = refl
cut_received (Some s) k = or_no (cuts (Some s) k)
  where
    or_no : (x : Bool) → Rattle.std.specs.Prelude.◌||◌ x false ≡ x
    or_no true = refl
    or_no false = refl

cut_port : (r : Rport) (p k : ℕ) → is_cut (with_port r p) k ≡ false
cut_port (Empty w) p k = refl
cut_port (Given v) p k = refl
cut_port Absent p k = refl

or_false : (x y : Bool) → y ≡ false → (Rattle.std.specs.Prelude.◌||◌ x y) ≡ x
or_false true y e = refl
or_false false y e = e

first_cuts : (v : Via) (p k : ℕ) → is_cut (first_edits v p) k ≡ cuts v.received k
first_cuts v p k = list_any-append (cuts_byte k) (without_received v.received) (with_port v.rport p) ∙ or_false (is_cut (without_received v.received) k) (is_cut (with_port v.rport p) k) (cut_port v.rport p k) ∙ cut_received v.received k

put_received : (o : Option Span) (k : ℕ) → inserted_at (without_received o) k ≡ []
put_received None k = refl
put_received (Some s) k = refl

put_port : (r : Rport) (p k : ℕ) → inserted_at (with_port r p) k ≡ puts r (decimal p) k
put_port (Empty w) p k = append-nil (if w.to == k then codes "=" ++ decimal p else [])
put_port (Given v) p k = refl
put_port Absent p k = refl

first_puts : (v : Via) (p k : ℕ) → inserted_at (first_edits v p) k ≡ puts v.rport (decimal p) k
first_puts v p k = flat_map-append (text_at k) (without_received v.received) (with_port v.rport p) ∙ ap (λ (x : List ℕ). x ++ inserted_at (with_port v.rport p) k) (put_received v.received k) ∙ put_port v.rport p k

-- edits that stamp a value, from a place to another
pub record Stamps (edits : List Edit) (v : Via) (p : ℕ) (line : List ℕ) (from to : ℕ) : Type 0 where
  pub cut : (k : ℕ) → from ≤ k → k < to → is_cut edits k ≡ cuts v.received k
  pub put : (k : ℕ) → from ≤ k → k < to → inserted_at edits k ≡ puts v.rport (decimal p) k ++ at_end v.whole.to line k

stamp_with : (b : Bool) (end k : ℕ) (address : List ℕ) → inserted_at (if b then Insert end (codes ";received=" ++ address) ∷ [] else []) k ≡ at_end end (received_line b address) k
stamp_with true end k address = append-nil (if end == k then codes ";received=" ++ address else [])
stamp_with false end k address = elim (cases_Bool (end == k)) [ inl y ↦ rw y refl | inr n ↦ rw n refl ]

stamp_without : (b : Bool) (end k : ℕ) (address : List ℕ) → is_cut (if b then Insert end (codes ";received=" ++ address) ∷ [] else []) k ≡ false
stamp_without true end k address = refl
stamp_without false end k address = refl

pub stamps : (v : Via) (source : Addr) (from to : ℕ) → Stamps (stamp v source) v source.port (received_line (wants_received v source.ip) (dotted source.ip)) from to
unfolding stamp
stamps v source from to =
    let first = without_received v.received in
    let port = with_port v.rport source.port in
    let last = with_received v source.ip in
    let group : first ++ (port ++ last) ≡ first_edits v source.port ++ last = sym (append_assoc first port last) in
    record {
      cut = λ k low high. ap (λ (es : List Edit). is_cut es k) group ∙ list_any-append (cuts_byte k) (first_edits v source.port) last ∙ or_false (is_cut (first_edits v source.port) k) (is_cut last k) (stamp_without (wants_received v source.ip) v.whole.to k (dotted source.ip)) ∙ first_cuts v source.port k;
      put = λ k low high. ap (λ (es : List Edit). inserted_at es k) group ∙ flat_map-append (text_at k) (first_edits v source.port) last ∙ rw (first_puts v source.port k, stamp_with (wants_received v source.ip) v.whole.to k (dotted source.ip)) refl;
    }

-- bytes before which something is put in
pub from_first : (edits : List Edit) (i : ℕ) (xs : List ℕ) → 0 < length xs → ((k : ℕ) → i ≤ k → k < i + length xs → is_cut edits k ≡ false) → ((k : ℕ) → i < k → k < i + length xs → inserted_at edits k ≡ []) → edited_from edits i xs ≡ inserted_at edits i ++ xs
from_first edits i [] some cut put = absurd (omega (arith, some))
from_first edits i (x ∷ xs) some cut put =
    let rest = from_kept edits (i + 1) xs (λ k low high. cut k (omega (arith, low)) (omega (arith, high))) (λ k low high. put k (omega (arith, low)) (omega (arith, high))) in
    let here = cut i (omega arith) (omega arith) in
    rw (here, rest) (append_assoc (inserted_at edits i) (x ∷ []) xs)

not_end : (end k : ℕ) (line a : List ℕ) → end ≢ k → a ≡ [] → a ++ at_end end line k ≡ []
not_end end k line a ne e = let off = ne_eqb end k ne in rw (e, off) refl

gather : (f w i l r : List ℕ) → f ++ (w ++ ((i ++ l) ++ r)) ≡ f ++ ((w ++ i) ++ (l ++ r))
gather f w i l r = simp append_assoc

-- a text with the parameters of the value in it, stamped
pub stamped_bytes : (edits : List Edit) (q i : ℕ) (t : ViaTree) (p : ℕ) (line front post : List ℕ) → let v = via_place i t in
    let at = i + length (lws t.lead) + length (protocol t) + length (host t.host) + length (port t.port) in
    at ≡ q + length front → 0 < length post → Stamps edits v p line q (at + length (params t.params) + length post)
    → edited_from edits q (front ++ (params t.params ++ post)) ≡ front ++ (walk true true (decimal p) t.params ++ (line ++ post))
stamped_bytes edits q i t p line front post place some s =
    let v = via_place i t in
    let ps = t.params in
    let d = decimal p in
    let at = i + length (lws t.lead) + length (protocol t) + length (host t.host) + length (port t.port) in
    let all = params ps in
    let end = at + length all in
    let e = first_edits v p in
    let whole = from_append edits q front (all ++ post) ∙ ap (λ (k : ℕ). edited_from edits q front ++ edited_from edits k (all ++ post)) (sym place) ∙ ap (λ (x : List ℕ). edited_from edits q front ++ x) (from_append edits at all post) in
    let a : edited_from edits q front ≡ front = from_kept edits q front
    (λ k low high. s.cut k low (omega (arith, high, place)) ∙ cuts_front (codes "received") ps at k (omega (arith, high, place)))
    (λ k low high. s.put k low (omega (arith, high, place)) ∙ not_end end k line (puts v.rport d k) (λ z. omega (arith, z, high, place)) (puts_low (codes "rport") ps at k d (omega (arith, high, place)))) in
    let same : edited_from edits at all ≡ edited_from e at all = same_bytes e edits at all
    (λ k low high. s.put k (omega (arith, low, place)) (omega (arith, high)) ∙ (let off = ne_eqb end k (λ z. omega (arith, z, high)) in rw off (append-nil (puts v.rport d k))) ∙ sym (first_puts v p k))
    (λ k low high. s.cut k (omega (arith, low, place)) (omega (arith, high)) ∙ sym (first_cuts v p k)) in
    let here : inserted_at edits end ≡ inserted_at e end ++ line = s.put end (omega (arith, place)) (omega (arith, some)) ∙ (let on = eq-eqb end end refl in rw on refl) ∙ ap (λ (x : List ℕ). x ++ line) (sym (first_puts v p end)) in
    let c : edited_from edits end post ≡ inserted_at edits end ++ post = from_first edits end post some
    (λ k low high. s.cut k (omega (arith, low, place)) high ∙ cuts_high (codes "received") ps at k low)
    (λ k low high. s.put k (omega (arith, low, place)) high ∙ not_end end k line (puts v.rport d k) (λ z. omega (arith, z, low)) (puts_high (codes "rport") ps at k d low)) in
    let begins : inserted_at e at ≡ [] = first_puts v p at ∙ puts_low (codes "rport") ps at at d (omega arith) in
    let steps : edited_after e at all ≡ walk true true d ps = walked e true true d ps at (λ k low high. first_cuts v p k) (λ k low high. first_puts v p k) in
    let b : edited_from e at all ++ inserted_at e end ≡ walk true true d ps = from_after e at all ∙ ap (λ (x : List ℕ). x ++ edited_after e at all) begins ∙ steps in
    whole ∙ ap (λ (x : List ℕ). x ++ (edited_from edits at all ++ edited_from edits end post)) a
    ∙ ap (λ (x : List ℕ). front ++ (x ++ edited_from edits end post)) same
    ∙ ap (λ (x : List ℕ). front ++ (edited_from e at all ++ x)) (c ∙ ap (λ (x : List ℕ). x ++ post) here)
    ∙ gather front (edited_from e at all) (inserted_at e end) line post
    ∙ ap (λ (x : List ℕ). front ++ (x ++ (line ++ post))) b
