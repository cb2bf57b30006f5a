-- The ACK that the proxy forwards without a transaction (RFC 3261, section 16.11): its branch is computed from that of the top Via value.
use Rattle.std.specs.Prelude.{ℕ, List, [], ◌++◌, Option, Some, None, codes}
use Rattle.sip_words.specs.declared.Span.{Span}
use Rattle.sip_msg.specs.declared.message.Message.{Message}
use Rattle.msg_edits.specs.declared.parts.Edit.{Edit}
use Rattle.outside_ports.specs.declared.port.Addr.{Addr}
use Rattle.sip_build.specs.Parts.{part}
use Rattle.sip_build.specs.Reply.{without_cookie}
use Rattle.sip_build.specs.Forwarded.{forwarded_text}

-- a branch without its cookie
abbrev pub token_of : List ℕ → Option Span → List ℕ
token_of b None = []
token_of b (Some branch) = without_cookie (part b branch)

abbrev pub stateless_branch : List ℕ → Option Span → List ℕ
stateless_branch b branch = codes "z9hG4bKsl." ++ token_of b branch

-- a forwarded request with this branch
unfoldable pub stateless_ack_text : List ℕ → Message → Addr → List Edit → List ℕ → Addr → ℕ → List ℕ
stateless_ack_text b m source edits uri listen absent = forwarded_text b m source edits uri listen (stateless_branch b m.via.branch) absent
