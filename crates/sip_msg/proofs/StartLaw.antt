-- Start lines: what the grammar spells is read again, and what is read is spelled by the grammar.
use Rattle.std.proofs.Common.{◌≡◌, ℕ, ◌+◌, ◌<◌, ◌≤◌, ◌==◌, List, [], ◌∷◌, ◌++◌, length, length-drop, ◌-◌, drop, subst, sym, ap, ◌∙◌, arith, inl, inr, Option, Some, None, codes}
use Rattle.std.specs.Prelude.{nat_lt, IfSome}
use Rattle.std.proofs.lemmas.Bool.{eqb-true, cases_Bool, ltb-false}
use Rattle.std.proofs.lemmas.List.{append-nil, drop_all}
use Rattle.std.proofs.lemmas.Option.{slice_get_within, cond_some, same_Some}
use Rattle.sip_words.specs.declared.bytes.Class.TheVariants.{Token, Visible}
use Rattle.sip_words.specs.declared.Span.{Span}
use Rattle.sip_words.specs.Spans.{span}
use Rattle.sip_words.specs.Words.{word_end, word_at, stands}
use Rattle.sip_words.specs.Numbers.{number_at}
use Rattle.sip_words.proofs.Steps.{bind_some, stands_is}
use Rattle.sip_words.proofs.Takes.{Takes, word_takes, word_at_takes, stands_takes, number_takes, not_none}
use Rattle.sip_words.specs.Bytes.{◌or◌}
use Rattle.sip_msg.proofs.Complete.{neither}
use Rattle.sip_msg.specs.declared.start.Start.{Start}
use Rattle.sip_msg.specs.declared.start.Start.TheVariants.{Request, Status}
use Rattle.sip_msg.specs.Start.{behind_space, request_at, reason_at, status_at}
use Rattle.sip_msg.specs.StartGrammar.{LineTree, RequestLine, StatusLine, line, reason, reason_place, line_place, IsStartAt}

pub space_taken : (text : List ℕ) (i j : ℕ) → behind_space text i ≡ Some j → Takes text i j (32 ∷ [])
space_taken text i j h =
    let c = cond_some (stands 32 text i) _ j h in
    subst (λ k. Takes text i k (32 ∷ [])) c.1 (stands_takes 32 text i c.0)

same_request : (i a b c p q r : ℕ) → a ≡ p → b ≡ q → c ≡ r → Request (span i a) (span b c) ≡ Request (span i p) (span q r)
same_request i a b c p q r e f g = cc

pub request_taken : (text : List ℕ) (i : ℕ) (s : Start) → request_at text i ≡ Some s → IsStartAt text i s
unfolding request_at
request_taken text i s h =
    let a = bind_some (word_end Token text i) _ s h in
    let b = bind_some (behind_space text a.0) _ s a.2 in
    let c = bind_some (word_end Visible text b.0) _ s b.2 in
    let d = bind_some (behind_space text c.0) _ s c.2 in
    let e = bind_some (word_at (codes "SIP/2.0") text d.0) _ s d.2 in
    let f = cond_some (e.0 == length text) _ s e.2 in
    let method = word_takes Token text i a.0 a.1 in
    let one = space_taken text a.0 b.0 b.1 in
    let uri = word_takes Visible text b.0 c.0 c.1 in
    let two = space_taken text c.0 d.0 d.1 in
    let version = word_at_takes (codes "SIP/2.0") text d.0 e.0 e.1 in
    let end = eqb-true e.0 (length text) f.0 in
    let nothing : drop e.0 text ≡ [] = drop_all e.0 text (omega arith) in
    let tree : LineTree = RequestLine method.0 uri.0 version.0 in
    let whole : drop i text ≡ line tree = method.1.whole ∙ ap (λ xs. method.0 ++ xs) (one.whole ∙ ap (λ (xs : List ℕ). 32 ∷ xs) (uri.1.whole ∙ ap (λ xs. uri.0 ++ xs) (two.whole ∙ ap (λ (xs : List ℕ). 32 ∷ xs) (version.1.whole ∙ ap (λ xs. version.0 ++ xs) nothing ∙ append-nil version.0)))) in
    let at : b.0 ≡ i + length method.0 + 1 = omega (arith, method.1.end, one.end) in
    let to : c.0 ≡ i + length method.0 + 1 + length uri.0 = omega (arith, at, uri.1.end) in
    let place : Request (span i a.0) (span b.0 c.0) ≡ line_place i tree = same_request i a.0 b.0 c.0 (i + length method.0) (i + length method.0 + 1) (i + length method.0 + 1 + length uri.0) method.1.end at to in
    (tree, (method.2, uri.2, version.2), whole, sym f.1 ∙ place)

reason_taken : (text : List ℕ) (i : ℕ) (r : Span) → reason_at text i ≡ Some r → (t : Option (List ℕ)) × (drop i text ≡ reason t) × (r ≡ reason_place i t)
reason_taken text i r h = elim (cases_Bool (i == length text)) [
  | inl t ↦
      let end = eqb-true i (length text) t in
      let e : Some (span i i) ≡ Some r = rw t at h in
      (None, drop_all i text (omega arith), sym (same_Some _ r e))
  | inr f ↦
      let c = cond_some (stands 32 text i) _ r (rw f at h) in
      let sp = stands_takes 32 text i c.0 in
      let rest : length (drop (i + 1) text) ≡ length text - (i + 1) = length-drop (i + 1) text in
      let within : i < length text = slice_get_within text i 32 (stands_is 32 text i c.0) in
      let to : length text ≡ i + 1 + length (drop (i + 1) text) = omega (arith, rest) in
      let place : span (i + 1) (length text) ≡ span (i + 1) (i + 1 + length (drop (i + 1) text)) = ap (λ n. span (i + 1) n) to in
      (Some (drop (i + 1) text), sp.whole, sym c.1 ∙ place)
]

pub status_taken : (text : List ℕ) (i : ℕ) (s : Start) → status_at text i ≡ Some s → IsStartAt text i s
unfolding status_at
status_taken text i s h =
    let a = bind_some (word_at (codes "SIP/2.0") text i) _ s h in
    let b = bind_some (behind_space text a.0) _ s a.2 in
    let n = bind_some (number_at 3 text b.0) _ s b.2 in
    let r = bind_some (reason_at text n.0.1) _ s n.2 in
    let bounds = not_none (nat_lt n.0.0 100 or nat_lt 699 n.0.0) _ s r.2 in
    let both = neither (nat_lt n.0.0 100) _ bounds.0 in
    let version = word_at_takes (codes "SIP/2.0") text i a.0 a.1 in
    let one = space_taken text a.0 b.0 b.1 in
    let code = number_takes 3 text b.0 n.0 n.1 in
    let tail = reason_taken text n.0.1 r.0 r.1 in
    let tree : LineTree = StatusLine version.0 code.0 tail.0 in
    let whole : drop i text ≡ line tree = version.1.whole ∙ ap (λ xs. version.0 ++ xs) (one.whole ∙ ap (λ (xs : List ℕ). 32 ∷ xs) (code.1.whole ∙ ap (λ xs. code.0 ++ xs) tail.1)) in
    let low : 100 ≤ n.0.0 = ltb-false n.0.0 100 both.0 in
    let high : n.0.0 ≤ 699 = ltb-false 699 n.0.0 both.1 in
    let at : n.0.1 ≡ i + length version.0 + 1 + length code.0 = omega (arith, version.1.end, one.end, code.1.end) in
    let place : Status n.0.0 r.0 ≡ line_place i tree = ap (λ (x : Span). Status n.0.0 x) (tail.2 ∙ ap (λ k. reason_place k tail.0) at) ∙ ap (λ k. Status k (reason_place (i + length version.0 + 1 + length code.0) tail.0)) code.4 in
    (tree, (version.2, code.2, code.3, subst (λ k. 100 ≤ k) code.4 low, subst (λ k. k ≤ 699) code.4 high), whole, sym bounds.1 ∙ place)

pub if_status : (text : List ℕ) (i : ℕ) (o : Option Start) → status_at text i ≡ o → IfSome o (IsStartAt text i)
if_status text i None h = tt
if_status text i (Some s) h = status_taken text i s h
