-- The datagrams in an outbox.
use Rattle.std.specs.Prelude.{◌≡◌, ℕ, ◌-◌, true, List, drop, map, vec_len, vec_capacity}
use Rattle.std.specs.List.{AllByRecursion}
use Rattle.host_meaning.specs.Run.{is_readable}
use Rattle.txn_dialogue.specs.Sends.{Sent as Decided}
use Rattle.txn_texts.specs.declared.outbox.Sent.{Sent}
use Rattle.txn_texts.specs.declared.outbox.Outbox.{Outbox}
use Rattle.txn_texts.specs.Texts.{Parts, text_of}

abbrev pub sent_shown : Parts → Sent → Decided
sent_shown p d = record { to = d.to; text = text_of p d.text; branch = d.branch }

-- those that are left
abbrev pub left_in : Outbox → List Sent
left_in o = drop o.written o.list.items

-- as a step's definition has them
abbrev pub sends_shown : Parts → Outbox → List Decided
sends_shown p o = map (sent_shown p) (left_in o)

-- so many more have room
abbrev pub room_in : Outbox → ℕ
room_in o = vec_capacity o.list - vec_len o.list

abbrev pub IsSendable : Parts → Sent → Type 0
IsSendable p d = is_readable (text_of p d.text) ≡ true

-- each text that is left reads
abbrev pub AllRead : Parts → Outbox → Type 0
AllRead p o = AllByRecursion (IsSendable p) (left_in o)
