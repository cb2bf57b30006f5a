-- A response that is handed to the server, as the definition of a step has it.
use Rattle.std.proofs.Common.{◌≡◌, ℕ, Bool, true, false, not, true≢false, List, refl, sym, ap, ◌∙◌}
use Rattle.std.specs.Prelude.{Option, Some, None}
use Rattle.outside_ports.specs.declared.port.Addr.{Addr}
use Rattle.txn_server.specs.declared.machine.Server.{Server}
use Rattle.txn_server.specs.declared.machine.ServerActs.{ServerActs}
use Rattle.txn_server.specs.declared.machine.ServerEvent.{ServerEvent}
use Rattle.txn_server.specs.declared.machine.ServerEvent.TheVariants.{Send}
use Rattle.txn_server.specs.After.{server_after}
use Rattle.txn_dialogue.specs.Sends.{Sent, Work, and_sent, back_to, has_final, kept_of, last_of, repeated_text, responding, sent_if, server_step}

pub decided : (w : Work) (code : ℕ) (text : List ℕ) (s : Server) (acts : ServerActs) (last : Option (List ℕ)) (sends : List Sent) →
    server_after w.state.server (Send code) w.now ≡ (s, acts) → last ≡ last_of acts.send (has_final w.state) text w.state.last →
    sends ≡ sent_if acts.send (back_to w.origin) text None w.sends →
    record w { state = record w.state { server = s; last = last }; sends = sends } ≡ responding code text w
decided w code text s acts last sends e l d =
    ap (λ (x : Option (List ℕ)). record w { state = record w.state { server = s; last = x }; sends = sends }) l
    ∙ ap (λ (x : List Sent). record w { state = record w.state { server = s; last = last_of acts.send (has_final w.state) text w.state.last }; sends = x }) d
    ∙ sym (ap (λ (made : Server × ServerActs). record w {
      state = record w.state { server = made.0; last = last_of made.1.send (has_final w.state) text w.state.last };
      sends = sent_if made.1.send (back_to w.origin) text None w.sends;
    }) e)

-- the response that is repeated: the first final one and those before it, none behind it, and none that isn't sent
pub up_to_final : (send final : Bool) (text : List ℕ) (old last : Option (List ℕ)) → send ≡ true → final ≡ false → last ≡ Some (kept_of text) → last ≡ last_of send final text old
up_to_final send final text old last e f l = l ∙ sym (ap (λ (b : Bool). last_of b final text old) e ∙ ap (λ (b : Bool). last_of true b text old) f)

pub behind_final : (send final : Bool) (text : List ℕ) (old last : Option (List ℕ)) → send ≡ true → final ≡ true → last ≡ old → last ≡ last_of send final text old
behind_final send final text old last e f l = l ∙ sym (ap (λ (b : Bool). last_of b final text old) e ∙ ap (λ (b : Bool). last_of true b text old) f)

pub kept_on : (send final : Bool) (text : List ℕ) (old : Option (List ℕ)) → send ≡ false → old ≡ last_of send final text old
kept_on send final text old e = sym (ap (λ (b : Bool). last_of b final text old) e)

pub sent : (send : Bool) (to : Addr) (text : List ℕ) (sends new : List Sent) → send ≡ true → new ≡ and_sent to text None sends → new ≡ sent_if send to text None sends
sent send to text sends new e l = l ∙ sym (ap (λ (b : Bool). sent_if b to text None sends) e)

pub unsent : (send : Bool) (to : Addr) (text : List ℕ) (sends : List Sent) → send ≡ false → sends ≡ sent_if send to text None sends
unsent send to text sends e = sym (ap (λ (b : Bool). sent_if b to text None sends) e)

pub is_so : (b : Bool) → not b ≡ false → b ≡ true
is_so true e = refl
is_so false e = absurd (true≢false e)

pub is_not_so : (b : Bool) → not b ≡ true → b ≡ false
is_not_so true e = absurd (true≢false (sym e))
is_not_so false e = refl

-- an event without a response
pub served_so : (w : Work) (event : ServerEvent) (s : Server) (acts : ServerActs) (last : Option (List ℕ)) (sends : List Sent) → server_after w.state.server event w.now ≡ (s, acts) →
    last ≡ w.state.last → sends ≡ sent_if acts.repeat (back_to w.origin) (repeated_text w.state.last) None w.sends →
    record w { state = record w.state { server = s; last = last }; sends = sends } ≡ server_step event w
served_so w event s acts last sends e l d =
    ap (λ (x : Option (List ℕ)). record w { state = record w.state { server = s; last = x }; sends = sends }) l
    ∙ ap (λ (x : List Sent). record w { state = record w.state { server = s }; sends = x }) d
    ∙ sym (ap (λ (made : Server × ServerActs). record w {
      state = record w.state { server = made.0 };
      sends = sent_if made.1.repeat (back_to w.origin) (repeated_text w.state.last) None w.sends;
    }) e)
