use Rattle.std.proofs.Common.{◌∙◌}
use Rattle.sip_build.proofs.SameTexts.{line_by}
use Rattle.sip_build.proofs.forwarding.forwarded.Goals as goal

pub returns : goal.returns
returns c =
    let a = c.args in
    let front = c.as_bytes.ensures.value ∙ c.as_str.ensures.value ∙ c.via_front-via.ensures in
    c.forward.ensures a.listen a.branch.now (line_by a.listen c.as_bytes.result.now a.branch.now front)
