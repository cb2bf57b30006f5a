-- A datagram is one message at most.
use Rattle.std.proofs.Common.{◌≡◌, ℕ, List, sym, ap, ◌∙◌, Option, Some, Result, Ok, Err}
use Rattle.std.specs.Prelude.{IfOk, IfErr}
use Rattle.std.proofs.lemmas.Option.{same_Some, none-some}
use Rattle.sip_words.specs.declared.Span.{Span}
use Rattle.sip_fields.specs.declared.via.Via.{Via}
use Rattle.sip_fields.specs.declared.name_addr.NameAddr.{NameAddr}
use Rattle.sip_fields.specs.declared.cseq.CSeq.{CSeq}
use Rattle.sip_scan.specs.declared.Head.{Head}
use Rattle.sip_scan.specs.Head.{in_room}
use Rattle.sip_msg.specs.declared.message.Message.{Message}
use Rattle.sip_msg.specs.declared.message.MsgFault.{MsgFault}
use Rattle.sip_msg.specs.declared.start.Start.{Start}
use Rattle.sip_scan.specs.declared.field.Kind.TheVariants as kind
use Rattle.sip_msg.specs.Values.{via_of, name_addr_of, call_id_of, cseq_of, max_forwards_of}
use Rattle.sip_msg.specs.Table.{fault_of, end_of, Reads}

abbrev of_parts : Head → Start → Via → NameAddr → NameAddr → Span → CSeq → Option ℕ → ℕ → Message
of_parts head start via from to call_id cseq max_forwards end = record { head = head; start = start; via = via; from = from; to = to; call_id = call_id; cseq = cseq; max_forwards = max_forwards; end = end }

same_parts : (head head2 : Head) (start start2 : Start) (via via2 : Via) (from from2 to to2 : NameAddr) (call_id call_id2 : Span) (cseq cseq2 : CSeq) (hops hops2 : Option ℕ) (end end2 : ℕ) → head ≡ head2 → start ≡ start2 → via ≡ via2 → from ≡ from2 → to ≡ to2 → call_id ≡ call_id2 → cseq ≡ cseq2 → hops ≡ hops2 → end ≡ end2 → of_parts head start via from to call_id cseq hops end ≡ of_parts head2 start2 via2 from2 to2 call_id2 cseq2 hops2 end2
same_parts head head2 start start2 via via2 from from2 to to2 call_id call_id2 cseq cseq2 hops hops2 end end2 a b c d e f g h i = cc

-- the parts of two messages, when the second one's head is that of the first
one_at : {A : Type 0} (part : Head → Option A) (h k : Head) (x y : A) → h ≡ k → part h ≡ Some x → part k ≡ Some y → x ≡ y
one_at part h k x y e p q = same_Some x y (sym p ∙ ap part e ∙ q)

pub one_message : (b : List ℕ) (m n : Message) → Reads b m → Reads b n → m ≡ n
one_message b m n r s =
    let head = same_Some m.head n.head (sym r.head ∙ s.head) in
    let p = r.parts in
    let q = s.parts in
    same_parts m.head n.head m.start n.start m.via n.via m.from n.from m.to n.to m.call_id n.call_id m.cseq n.cseq m.max_forwards n.max_forwards m.end n.end
    head
    (same_Some m.start n.start (sym r.start ∙ s.start))
    (one_at (λ h. via_of b h.fields.items) m.head n.head m.via n.via head p.via q.via)
    (one_at (λ h. name_addr_of kind.From b h.fields.items) m.head n.head m.from n.from head p.from q.from)
    (one_at (λ h. name_addr_of kind.To b h.fields.items) m.head n.head m.to n.to head p.to q.to)
    (one_at (λ h. call_id_of b h.fields.items) m.head n.head m.call_id n.call_id head p.call_id q.call_id)
    (one_at (λ h. cseq_of b h.fields.items) m.head n.head m.cseq n.cseq head p.cseq q.cseq)
    (one_at (λ h. max_forwards_of b h.fields.items) m.head n.head m.max_forwards n.max_forwards head p.max_forwards q.max_forwards)
    (one_at (λ h. end_of b h) m.head n.head m.end n.end head p.end q.end)

-- what is read into a room
pub only_in : {U : Type 0} (b : List ℕ) (r : Result U MsgFault) (n : Message) → IfOk r (λ _. Reads b n) → IfErr r (λ f. fault_of b ≡ Some f) → (m : Message) → Reads b m → in_room r n ≡ Ok m
only_in b (Ok u) n found fault m reads = ap (λ (x : Message). Ok x) (one_message b n m found reads)
only_in b (Err f) n found fault m reads = absurd (none-some f (sym reads.no_fault ∙ fault))
