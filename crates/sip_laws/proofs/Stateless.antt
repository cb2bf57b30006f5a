-- The ACK that is forwarded without a transaction reads.
use Rattle.std.proofs.Common.{◌≡◌, ℕ, ◌<◌, ◌≤◌, ◌^◌, true, List, [], length, refl, sym, ◌∙◌, arith, Option, Some, None}
use Rattle.std.specs.Prelude.{codes, IfSome}
use Rattle.std.specs.List.{AllByRecursion}
use Rattle.sip_words.specs.Bytes.{has}
use Rattle.sip_words.specs.declared.Span.{Span}
use Rattle.sip_words.specs.declared.bytes.Class.TheVariants.{Token, Visible}
use Rattle.sip_words.specs.Grammar.{IsWord, ParamTree, named_tree}
use Rattle.sip_fields.specs.ViaGrammar.{HasToken}
use Rattle.sip_msg.specs.declared.message.Message.{Message}
use Rattle.sip_msg.specs.Table.{Reads}
use Rattle.outside_ports.specs.declared.port.Addr.{Addr}
use Rattle.sip_build.specs.Parts.{part}
use Rattle.sip_build.specs.Stateless.{token_of, stateless_branch, stateless_ack_text}
use Rattle.sip_build.proofs.Twins.{value_text}
use Rattle.sip_laws.specs.Sent.{bytes_at, IsRequest, most_fields, IsForwarded}
use Rattle.sip_laws.proofs.Shift.{tree_value, spelled}
use Rattle.sip_laws.proofs.Known.{known}
use Rattle.sip_laws.proofs.Replying.{all_tokens, without, token_of_tree}
use Rattle.sip_laws.proofs.Forwarding.{forwarded_reads}

tokens : (b : List ℕ) (o : Option Span) (t : Option ParamTree) → IfSome t (λ p. HasToken p.value) → tree_value t ≡ bytes_at b o → AllByRecursion (λ w. has Token w ≡ true) (token_of b o)
tokens b None t h e = tt
tokens b (Some s) t h e = without (part b s) (all_tokens (part b s) (token_of_tree t (part b s) h e))

branch_word : (b : List ℕ) (m : Message) → Reads b m → IsWord Token (stateless_branch b m.via.branch)
unfolding has
branch_word b m r =
    let k = known b m r in
    let x = k.fields in
    let sp = spelled (value_text x.via_field) 0 x.via (omega arith) x.via_reads in
    let rest = tokens b m.via.branch (named_tree (codes "branch") sp.tree.params) sp.is.branch (sym sp.says.branch ∙ k.via.branch) in
    record { some = omega arith; all = (refl, (refl, (refl, (refl, (refl, (refl, (refl, (refl, (refl, (refl, rest)))))))))) }

pub stateless_reads : (b : List ℕ) (m : Message) (source : Addr) (uri : List ℕ) (listen : Addr) (absent : ℕ) → Reads b m → IsRequest m.start → source.port < 2 ^ 16 → IsWord Visible uri → listen.ip < 2 ^ 32 → 0 < listen.port → listen.port < 2 ^ 16 → absent < 256 → length m.head.fields.items ≤ most_fields m.max_forwards
    → length (stateless_ack_text b m source [] uri listen absent) ≤ 8192 → (w : Message) × IsForwarded b m source uri listen (stateless_branch b m.via.branch) absent (stateless_ack_text b m source [] uri listen absent) w
unfolding stateless_ack_text
stateless_reads b m source uri listen absent r is small word ip some port below few short = forwarded_reads b m source uri listen (stateless_branch b m.via.branch) absent r is small word (record { ip = ip; some_port = some; port = port; token = branch_word b m r }) refl below few short
