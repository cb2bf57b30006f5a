-- Where the parts of a message lie.
use Rattle.std.proofs.Common.{◌≡◌, ℕ, ◌≤◌, List, subst, sym, arith}
use Rattle.std.specs.Prelude.{All}
use Rattle.sip_scan.specs.declared.field.HeaderSpan.{HeaderSpan}
use Rattle.sip_scan.specs.Field.{IsField}
use Rattle.sip_msg.specs.declared.message.Message.{Message}
use Rattle.sip_msg.specs.Table.{Reads}
use Rattle.sip_msg.proofs.Lies.{lies}

-- the fields, as a slice shows them
pub shown_fields : (b : List ℕ) (m : Message) (fields : List HeaderSpan) → Reads b m → fields ≡ m.head.fields.items → All (IsField b) fields
shown_fields b m fields r e = subst (λ (l : List HeaderSpan). All (IsField b) l) (sym e) (lies b m r).head.each

-- the empty line has two bytes
pub before_body : (b : List ℕ) (m : Message) → Reads b m → 2 ≤ m.head.body
before_body b m r = omega (arith, (lies b m r).head.body_low)
