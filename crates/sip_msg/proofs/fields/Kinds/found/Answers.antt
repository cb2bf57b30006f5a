use Rattle.std.proofs.Common.{◌∙◌}
use Rattle.sip_msg.proofs.Tally.{none_first, some_first}
use Rattle.sip_msg.proofs.fields.Kinds.found.Goals as goal

pub returns-then-self-number-eq0 : goal.returns-then-self-number-eq0
returns-then-self-number-eq0 c = let s = c.args.self.now in none_first s.fields.now s.firsts s.counts c.args.kind c.number-number.result s.tally c.number-number.ensures.value c.number-number.ensures.below c.if-self-number-eq0.true

pub returns : goal.returns
returns c =
    let s = c.args.self.now in
    c.copied.ensures ∙ some_first s.fields.now s.firsts s.counts c.args.kind c.number-number.result c.get.result s.tally c.number-number.ensures.value c.number-number.ensures.below c.if-self-number-eq0.false c.get.ensures.lookup.0 c.get.ensures.lookup.1
