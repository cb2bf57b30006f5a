use Rattle.std.proofs.Common.{sym, ap, ◌∙◌, ℕ}
use Rattle.sip_msg.specs.Fields.{count_of}
use Rattle.sip_msg.proofs.Tally.{count_is}
use Rattle.sip_msg.proofs.fields.Kinds.count.Goals as goal

pub returns : goal.returns
returns c =
    let fields = c.args.self.now.fields.now in
    c.args.self.now.tally.counted c.number.result c.number.ensures.below ∙ ap (λ (n : ℕ). count_of n fields) c.number.ensures.value ∙ sym (count_is c.args.kind fields)
