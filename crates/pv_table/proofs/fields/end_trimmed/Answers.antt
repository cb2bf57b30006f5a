use Rattle.std.proofs.Common.{◌∙◌, ◌-◌, arith}
use Rattle.pv_table.proofs.Trimming.{cut_lws, kept_other, none_left}
use Rattle.pv_table.proofs.fields.end_trimmed.Goals as goal
use Rattle.pv_table.proofs.fields.end_trimmed.Goals.{then-loop-end-test+else-is_lws_byte, else-loop-end-test}

-- src/fields.rt:23:5
pub loop-end-preserved : goal.loop-end-preserved
loop-end-preserved c =
    let text = c.args.text.now in
    let n = c.loop-end.end in
    (omega (arith, c.loop-end.invariant.0), cut_lws text n (n - 1) (omega (arith, c.loop-end-test.true)) c.loop-end.invariant.0 c.if-is_lws_byte.ensures ∙ c.loop-end.invariant.1)

-- src/fields.rt:19:1
pub returns : goal.returns
returns c =
    let text = c.args.text.now in
    let n = c.loop-end.end in
    let all = c.loop-end.invariant.1 in
    elim c.loop-end-test.branch [
      | then-loop-end-test+else-is_lws_byte w ↦ kept_other text n (n - 1) (omega (arith, w.loop-end-test.true)) c.loop-end.invariant.0 w.if-is_lws_byte.ensures ∙ all
      | else-loop-end-test w ↦ none_left text n (omega (arith, w.loop-end-test.false)) ∙ all
    ]
