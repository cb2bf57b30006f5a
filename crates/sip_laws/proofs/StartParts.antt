-- The start line of a request in its parts, and with another URI in it.
use Rattle.std.proofs.Common.{◌≡◌, ℕ, ◌+◌, ◌<◌, ◌≤◌, List, [], ◌∷◌, ◌++◌, length, take, drop, refl, sym, ap, ◌∙◌, arith, append_assoc, length-append}
use Rattle.std.proofs.lemmas.List.{drop_at}
use Rattle.sip_words.specs.declared.bytes.Class.TheVariants.{Token, Visible}
use Rattle.sip_words.specs.Spans.{span}
use Rattle.sip_words.specs.Grammar.{IsWord}
use Rattle.sip_scan.specs.Grammar.{crlf, MessageTree, message, IsMessageTree}
use Rattle.sip_scan.proofs.HeadAgain.{start_place}
use Rattle.sip_msg.specs.declared.message.Message.{Message}
use Rattle.sip_msg.specs.declared.start.Start.{Start}
use Rattle.sip_msg.specs.declared.start.Start.TheVariants.{Request, Status}
use Rattle.sip_msg.specs.StartGrammar.{RequestLine, StatusLine, IsVersion, IsStartAt}
use Rattle.sip_msg.specs.Table.{Reads}
use Rattle.msg_edits.specs.Edited.{edited_from}
use Rattle.sip_build.specs.Forwarded.{replaced}
use Rattle.sip_build.specs.Parts.{uri_of}
use Rattle.sip_build.proofs.Spelt.{before_fields}
use Rattle.sip_laws.specs.Sent.{IsRequest}
use Rattle.sip_laws.proofs.Known.{start_spelled}
use Rattle.sip_laws.proofs.Relaying.{front_is, start_of_tree}
use Rattle.sip_laws.proofs.StartWith.{request_with}
use Rattle.sip_laws.proofs.Groups.{replaced_in}

pub record StartParts (t : MessageTree) (s : Start) : Type 0 where
  pub method : List ℕ
  pub uri : List ℕ
  pub version : List ℕ
  pub method_word : IsWord Token method
  pub uri_word : IsWord Visible uri
  pub is_version : IsVersion version
  pub text : t.start ≡ request_with method uri version
  pub start : s ≡ Request (span (length t.skipped) (length t.skipped + length method)) (span (length t.skipped + length method + 1) (length t.skipped + length method + 1 + length uri))

by_tree : (text : List ℕ) (t : MessageTree) (s : Start) → text ≡ t.skipped ++ t.start → IsRequest s → IsStartAt text (length t.skipped) s → StartParts t s
by_tree text t (Status code reason) e is h = absurd is
by_tree text t (Request method uri) e is (StatusLine v c r, ok, h, place) = absurd (cc)
by_tree text t (Request method uri) e is (RequestLine me ur ve, ok, h, place) =
    let there : drop (length t.skipped) text ≡ t.start = ap (λ (x : List ℕ). drop (length t.skipped) x) e ∙ drop_at t.skipped t.start (length t.skipped) refl in
    record { method = me; uri = ur; version = ve; method_word = ok.0; uri_word = ok.1; is_version = ok.2; text = sym there ∙ h; start = place }

pub start_parts : (b : List ℕ) (m : Message) (t : MessageTree) → IsMessageTree t → b ≡ message t → Reads b m → IsRequest m.start → StartParts t m.start
start_parts b m t is e r request =
    let n = (start_place t).to in
    let text : take n b ≡ t.skipped ++ t.start = ap (λ (z : List ℕ). take n z) e ∙ front_is t in
    let reads = start_of_tree b t m.start is e r.start in
    by_tree (take n b) t m.start text request (start_spelled (take n b) (length t.skipped) m.start reads)

pieces : (s me ur ve c : List ℕ) → s ++ ((me ++ (32 ∷ (ur ++ (32 ∷ ve)))) ++ c) ≡ (s ++ (me ++ (32 ∷ []))) ++ (ur ++ ((32 ∷ ve) ++ c))
pieces s me ur ve c = simp append_assoc

-- the text up to the first field, with another URI
pub start_replaced : (t : MessageTree) (s : Start) (p : StartParts t s) (uri : List ℕ) → edited_from (replaced (uri_of s) uri) 0 (before_fields t) ≡ t.skipped ++ (request_with p.method uri p.version ++ crlf)
start_replaced t s p uri =
    let front = t.skipped ++ (p.method ++ (32 ∷ [])) in
    let len : length front ≡ length t.skipped + (length p.method + 1) = omega (arith, length-append t.skipped (p.method ++ (32 ∷ [])), length-append p.method (32 ∷ [])) in
    let at : uri_of s ≡ span (0 + length front) (0 + length front + length p.uri) = ap uri_of p.start ∙ ap (λ (k : ℕ). span k (k + length p.uri)) (omega (arith, len)) in
    let whole : before_fields t ≡ front ++ (p.uri ++ ((32 ∷ p.version) ++ crlf)) = ap (λ (x : List ℕ). t.skipped ++ (x ++ crlf)) p.text ∙ pieces t.skipped p.method p.uri p.version crlf in
    ap (λ (x : List ℕ). edited_from (replaced (uri_of s) uri) 0 x) whole ∙ replaced_in (uri_of s) uri 0 front p.uri ((32 ∷ p.version) ++ crlf) at p.uri_word.some ∙ sym (pieces t.skipped p.method uri p.version crlf)

-- where the URI stands
pub record UriPlace (t : MessageTree) (s : Start) : Type 0 where
  pub some : (uri_of s).from < (uri_of s).to
  pub high : (uri_of s).to ≤ length (before_fields t)

pub uri_place : (t : MessageTree) (s : Start) → StartParts t s → UriPlace t s
uri_place t s p =
    let at : uri_of s ≡ span (length t.skipped + length p.method + 1) (length t.skipped + length p.method + 1 + length p.uri) = ap uri_of p.start in
    let from = ap (λ (x : Rattle.sip_words.specs.declared.Span.Span). x.from) at in
    let to = ap (λ (x : Rattle.sip_words.specs.declared.Span.Span). x.to) at in
    let size : length t.start ≡ length p.method + (1 + (length p.uri + (1 + length p.version))) = ap (λ (x : List ℕ). length x) p.text ∙ omega (arith, length-append p.method (32 ∷ (p.uri ++ (32 ∷ p.version))), length-append p.uri (32 ∷ p.version)) in
    record {
      some = omega (arith, from, to, p.uri_word.some);
      high = omega (arith, to, size, length-append t.skipped (t.start ++ crlf), length-append t.start crlf);
    }
