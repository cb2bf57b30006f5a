-- What is known of a message that reads, by the trees of its fields.
use Rattle.std.proofs.Common.{◌≡◌, ℕ, ◌+◌, ◌≤◌, List, [], ◌∷◌, ◌++◌, length, take, refl, sym, ap, ◌∙◌, subst, arith, length-append, length-take, Option, Some, None}
use Rattle.std.proofs.lemmas.Option.{same_Some}
use Rattle.sip_words.specs.declared.Span.{Span}
use Rattle.sip_words.specs.declared.bytes.Class.TheVariants.{Token, Visible}
use Rattle.sip_words.specs.Spans.{span}
use Rattle.sip_words.specs.Grammar.{IsWord}
use Rattle.sip_words.proofs.Steps.{bind_some}
use Rattle.sip_words.proofs.Pieces.{behind, part_is}
use Rattle.sip_words.proofs.Lies.{ends_text}
use Rattle.sip_fields.specs.declared.via.Via.{Via}
use Rattle.sip_fields.specs.declared.name_addr.NameAddr.{NameAddr}
use Rattle.sip_fields.specs.declared.cseq.CSeq.{CSeq}
use Rattle.sip_scan.specs.declared.field.Kind.TheVariants as kind
use Rattle.sip_scan.specs.Lines.{start_line}
use Rattle.sip_scan.specs.Grammar.{fields, MessageTree, message, IsMessageTree, head_place}
use Rattle.sip_scan.proofs.HeadAgain.{start_place, start_again}
use Rattle.sip_msg.specs.declared.message.Message.{Message}
use Rattle.sip_msg.specs.declared.start.Start.{Start}
use Rattle.sip_msg.specs.declared.start.Start.TheVariants.{Request, Status}
use Rattle.sip_msg.specs.Start.{request_at, status_at, or_else, start_at, start_of}
use Rattle.sip_msg.specs.StartGrammar.{RequestLine, StatusLine, line, IsStartAt}
use Rattle.sip_msg.specs.Table.{end_behind, Reads}
use Rattle.sip_msg.proofs.StartLaw.{request_taken, status_taken}
use Rattle.sip_build.specs.Parts.{part}
use Rattle.sip_build.proofs.Twins.{value_text}
use Rattle.sip_build.proofs.Under.{in_front}
use Rattle.sip_build.proofs.ReadsUnder.{end_is}
use Rattle.sip_build.proofs.Spelt.{Spelt, spelt}
use Rattle.sip_laws.specs.Sent.{bytes_at, SameVia, IsRequest}
use Rattle.sip_laws.proofs.Trees.{AllStand, Fields}
use Rattle.sip_laws.proofs.Reading.{items_stand, fields_read, via_there, name_is_there, cseq_there, hops_there, size_there}

pub record KnownBy (b : List ℕ) (m : Message) (tree : MessageTree) : Type 0 where
  pub is : IsMessageTree tree
  pub text : b ≡ message tree
  pub head : m.head ≡ head_place tree
  pub fields : Fields tree.fields
  pub stand : AllStand b m.head.fields.items tree.fields
  pub via : SameVia (value_text fields.via_field) fields.via b m.via
  pub whole : part (value_text fields.via_field) fields.via.whole ≡ part b m.via.whole
  pub number : fields.cseq.number ≡ m.cseq.number
  pub method : part (value_text fields.cseq_field) fields.cseq.method ≡ part b m.cseq.method
  pub hops : m.max_forwards ≡ fields.hops
  pub tag : bytes_at (value_text fields.to_field) fields.to.tag ≡ bytes_at b m.to.tag
  pub end : m.end ≡ end_behind b m.head.body fields.size

pub record Known (b : List ℕ) (m : Message) : Type 0 where
  pub tree : MessageTree
  pub is : IsMessageTree tree
  pub text : b ≡ message tree
  pub head : m.head ≡ head_place tree
  pub fields : Fields tree.fields
  pub stand : AllStand b m.head.fields.items tree.fields
  pub via : SameVia (value_text fields.via_field) fields.via b m.via
  pub whole : part (value_text fields.via_field) fields.via.whole ≡ part b m.via.whole
  pub number : fields.cseq.number ≡ m.cseq.number
  pub method : part (value_text fields.cseq_field) fields.cseq.method ≡ part b m.cseq.method
  pub hops : m.max_forwards ≡ fields.hops
  pub tag : bytes_at (value_text fields.to_field) fields.to.tag ≡ bytes_at b m.to.tag
  pub end : m.end ≡ end_behind b m.head.body fields.size

pub known_by : (b : List ℕ) (m : Message) (s : Spelt b m) → Reads b m → KnownBy b m s.tree
known_by b m s r =
    let ts = s.tree.fields in
    let x = fields_read b m s.tree r s.text s.head in
    let fs = m.head.fields.items in
    let all = items_stand b m s.tree s.text s.head in
    let via = via_there b fs ts x.via_field x.via all x.via_first x.via_reads in
    let via_is = same_Some via.via m.via (sym via.reads ∙ r.parts.via) in
    let to = name_is_there kind.To b fs ts x.to_field x.to all x.to_first x.to_reads in
    let to_is = same_Some to.name m.to (sym to.reads ∙ r.parts.to) in
    let cseq = cseq_there b fs ts x.cseq_field x.cseq all x.cseq_first x.cseq_reads in
    let cseq_is = same_Some cseq.cseq m.cseq (sym cseq.reads ∙ r.parts.cseq) in
    let hops = hops_there b fs ts x.hops all x.hops_read in
    let size = size_there b fs ts x.size all x.size_read in
    record {
      is = s.is;
      text = s.text;
      head = s.head;
      fields = x;
      stand = all;
      via = subst (λ (v : Via). SameVia (value_text x.via_field) x.via b v) via_is via.same;
      whole = via.whole ∙ ap (λ (v : Via). part b v.whole) via_is;
      number = cseq.number ∙ ap (λ (c : CSeq). c.number) cseq_is;
      method = cseq.method ∙ ap (λ (c : CSeq). part b c.method) cseq_is;
      hops = same_Some m.max_forwards x.hops (sym r.parts.max_forwards ∙ hops);
      tag = to.tag ∙ ap (λ (n : NameAddr). bytes_at b n.tag) to_is;
      end = same_Some m.end (end_behind b m.head.body x.size) (sym r.parts.end ∙ end_is b m.head x.size size);
    }

pub known : (b : List ℕ) (m : Message) → Reads b m → Known b m
known b m r =
    let s = spelt b m r in
    let k = known_by b m s r in
    record { tree = s.tree; is = k.is; text = k.text; head = k.head; fields = k.fields; stand = k.stand; via = k.via; whole = k.whole; number = k.number; method = k.method; hops = k.hops; tag = k.tag; end = k.end }

-- a request line's method and URI
pub start_spelled : (text : List ℕ) (i : ℕ) (s : Start) → start_at text i ≡ Some s → IsStartAt text i s
unfolding start_at
start_spelled text i s h = by_request (request_at text i) refl h
  where
    by_request : (o : Option Start) → request_at text i ≡ o → or_else o (status_at text i) ≡ Some s → IsStartAt text i s
    by_request None e g = status_taken text i s g
    by_request (Some x) e g = request_taken text i s (e ∙ g)

pub record RequestWords (text : List ℕ) (me ur : Span) : Type 0 where
  pub method : IsWord Token (part text me)
  pub uri : IsWord Visible (part text ur)
  pub method_order : me.from ≤ me.to
  pub uri_order : ur.from ≤ ur.to
  pub method_end : me.to ≤ length text
  pub uri_end : ur.to ≤ length text

request_words : (text : List ℕ) (i : ℕ) (method uri : Span) → i ≤ length text → IsStartAt text i (Request method uri) → RequestWords text method uri
request_words text i method uri le (StatusLine v c t, is, h, e) = absurd (cc)
request_words text i method uri le (RequestLine me ur ve, is, h, e) =
    let first : method ≡ span i (i + length me) = cc in
    let second : uri ≡ span (i + length me + 1) (i + length me + 1 + length ur) = cc in
    let at_1 = behind text i me (32 ∷ (ur ++ (32 ∷ ve))) h in
    let at_2 = behind text (i + length me) (32 ∷ []) (ur ++ (32 ∷ ve)) at_1 in
    let a = part_is text i me (32 ∷ (ur ++ (32 ∷ ve))) h in
    let c = part_is text (i + length me + 1) ur (32 ∷ ve) at_2 in
    let all = ends_text text i (me ++ (32 ∷ (ur ++ (32 ∷ ve)))) le h in
    let size = length-append me (32 ∷ (ur ++ (32 ∷ ve))) in
    let size_2 = length-append ur (32 ∷ ve) in
    let P : Span → Span → Type 0 = λ x y. RequestWords text x y in
    let made : P (span i (i + length me)) (span (i + length me + 1) (i + length me + 1 + length ur)) = record {
      method = subst (IsWord Token) (sym a) is.0;
      uri = subst (IsWord Visible) (sym c) is.1;
      method_order = omega arith;
      uri_order = omega arith;
      method_end = omega (arith, all, size, size_2);
      uri_end = omega (arith, all, size, size_2);
    } in
    subst (λ (x : Span). P x uri) (sym first) (subst (λ (y : Span). P (span i (i + length me)) y) (sym second) made)

pub record RequestHas (b : List ℕ) (m : Message) : Type 0 where
  pub method : Span
  pub uri : Span
  pub start : m.start ≡ Request method uri
  pub method_word : IsWord Token (part b method)
  pub uri_word : IsWord Visible (part b uri)

request_from : (b : List ℕ) (line : Span) (s : Start) → IsRequest s → line.from ≤ length (take line.to b) → start_at (take line.to b) line.from ≡ Some s → (method : Span) × (uri : Span) × (s ≡ Request method uri) × IsWord Token (part b method) × IsWord Visible (part b uri)
request_from b line (Status code reason) is le e = absurd is
request_from b line (Request method uri) is le e =
    let w = request_words (take line.to b) line.from method uri le (start_spelled (take line.to b) line.from (Request method uri) e) in
    let short = length-take line.to b in
    let a = in_front b line.to method.from method.to w.method_order (omega (arith, w.method_end, short)) in
    let c = in_front b line.to uri.from uri.to w.uri_order (omega (arith, w.uri_end, short)) in
    (method, uri, refl, subst (IsWord Token) a w.method, subst (IsWord Visible) c w.uri)

pub request_has : (b : List ℕ) (m : Message) → Known b m → Reads b m → IsRequest m.start → RequestHas b m
unfolding start_of
request_has b m k r is =
    let l = bind_some (start_line b) _ m.start r.start in
    let t = k.tree in
    let line : start_place t ≡ l.0 = same_Some (start_place t) l.0 (sym (start_again b t k.is k.text) ∙ l.1) in
    let long : length b ≡ length (t.skipped ++ (t.start ++ (13 ∷ 10 ∷ (fields t.fields ++ (13 ∷ 10 ∷ t.body))))) = ap (λ (x : List ℕ). length x) k.text in
    let low_there : length t.skipped ≤ length (take (length t.skipped + length t.start) b) = omega (arith, length-take (length t.skipped + length t.start) b, long, length-append t.skipped (t.start ++ (13 ∷ 10 ∷ (fields t.fields ++ (13 ∷ 10 ∷ t.body))))) in
    let low : l.0.from ≤ length (take l.0.to b) = subst (λ (x : Span). x.from ≤ length (take x.to b)) line low_there in
    let f = request_from b l.0 m.start is low l.2 in
    record { method = f.0; uri = f.1; start = f.2; method_word = f.3; uri_word = f.4 }
