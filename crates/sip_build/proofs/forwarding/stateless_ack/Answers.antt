use Rattle.std.proofs.Common.{◌∙◌}
use Rattle.std.specs.Prelude.{◌++◌, codes}
use Rattle.sip_build.proofs.Readings.{branch_within}
use Rattle.sip_build.proofs.SameTexts.{line_by_mark}
use Rattle.sip_build.specs.Stateless.{token_of, stateless_ack_text}
use Rattle.sip_build.proofs.forwarding.stateless_ack.Goals as goal

pub returns : goal.returns
unfolding stateless_ack_text
returns c =
    let a = c.args in
    let front = c.as_bytes.ensures.value ∙ c.as_str.ensures.value ∙ c.via_front-via.ensures in
    let line = line_by_mark a.listen c.as_bytes.result.now (codes "z9hG4bKsl.") c.token_of-token.result.now front in
    rw (← c.token_of-token.ensures) (c.forward.ensures a.listen (codes "z9hG4bKsl." ++ c.token_of-token.result.now) line)
