-- A head that is read into a room.
use Rattle.std.proofs.Common.{◌≡◌, ℕ, ◌<◌, List, length, sym, ap, ◌∙◌, Result, Ok, Err}
use Rattle.std.specs.Prelude.{IfOk}
use Rattle.sip_scan.specs.declared.Head.{Head}
use Rattle.sip_scan.specs.declared.ScanFault.{ScanFault}
use Rattle.sip_scan.specs.declared.ScanFault.TheVariants.{TooManyHeaders}
use Rattle.sip_scan.specs.Head.{in_room, at_most_128, scanned}
use Rattle.sip_scan.specs.Grammar.{MessageTree, message, IsMessageTree, head_place}
use Rattle.sip_scan.proofs.HeadAgain.{only_head}
use Rattle.sip_scan.proofs.HeadTakes.{found_head, many_fields}

pub found_in : {U : Type 0} (text : List ℕ) (r : Result U ScanFault) (h : Head) → in_room r h ≡ scanned text → IfOk r (λ _. (t : MessageTree) × IsMessageTree t × (text ≡ message t) × (h ≡ head_place t))
found_in text (Ok u) h e = found_head text h (sym e)
found_in text (Err f) h e = tt

pub many_in : {U : Type 0} (text : List ℕ) (r : Result U ScanFault) (h : Head) → in_room r h ≡ scanned text → r ≡ Err TooManyHeaders → (t : MessageTree) × IsMessageTree t × (text ≡ message t) × (128 < length t.fields)
many_in {U} text r h e many = many_fields text (sym e ∙ ap (λ (x : Result U ScanFault). in_room x h) many)

pub only_in : {U : Type 0} (text : List ℕ) (r : Result U ScanFault) (h : Head) → in_room r h ≡ scanned text → (t : MessageTree) → IsMessageTree t → text ≡ message t → in_room r h ≡ at_most_128 (head_place t)
only_in text r h e t is whole = e ∙ only_head text t is whole
