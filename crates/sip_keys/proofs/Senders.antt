-- Keys and the senders that they show.
use Rattle.std.proofs.Common.{◌≡◌, ℕ, List, sym, ap, ◌∙◌}
use Rattle.std.specs.Prelude.{codes}
use Rattle.std.specs.Str.{str_to_ascii_lowercase}
use Rattle.sip_msg.specs.declared.message.Message.{Message}
use Rattle.server_key.specs.declared.key.KeyView.{KeyView}
use Rattle.server_key.specs.Keys.{IsSameKey}
use Rattle.sip_keys.specs.Keys.{ShowsKey, IsOfOneSender}

pub same_key : (b c : List ℕ) (m n : Message) (ack invite : KeyView) → ShowsKey b m (codes "INVITE") ack
    → ShowsKey c n (codes "INVITE") invite → IsOfOneSender b m c n → IsSameKey ack invite
same_key b c m n ack invite h k s = record {
  branch = h.branch ∙ s.branch ∙ sym k.branch;
  host = ap str_to_ascii_lowercase h.host ∙ s.host ∙ sym (ap str_to_ascii_lowercase k.host);
  port = h.port ∙ s.port ∙ sym k.port;
  method = h.method ∙ sym k.method;
}

pub same_sender : (b c : List ℕ) (m n : Message) (method other : List ℕ) (v w : KeyView) → ShowsKey b m method v
    → ShowsKey c n other w → IsSameKey v w → IsOfOneSender b m c n × (method ≡ other)
same_sender b c m n method other v w h k s = (
  record {
    branch = sym h.branch ∙ s.branch ∙ k.branch;
    host = sym (ap str_to_ascii_lowercase h.host) ∙ s.host ∙ ap str_to_ascii_lowercase k.host;
    port = sym h.port ∙ s.port ∙ k.port;
  },
  sym h.method ∙ s.method ∙ k.method,
)
