use Rattle.std.proofs.Common.{sym, ◌∙◌}
use Rattle.cfg_check.proofs.Judging.{unrefused_is_read}
use Rattle.cfg_check.proofs.script.judged.Goals as goal

pub unreachable-requires : goal.unreachable-requires
unreachable-requires c =
    let read = c.in_ok-read.ensures in
    let none = sym read.refusals_are ∙ sym c.as_slice.ensures ∙ c.in_default.ensures.none in
    unrefused_is_read c.args.raw.now c.in_ok-script.field-0 none (c.in_ok-script.ensures c.args.raw.now read) c.in-None.is

pub new-requires : goal.new-requires
new-requires c =
    let raw = c.args.raw.now in
    let read = c.in_ok-read.ensures in
    let none = sym read.refusals_are ∙ sym c.as_slice.ensures ∙ c.in_default.ensures.none in
    let is = sym (c.in_ok-script.ensures raw read) ∙ c.in-Some-2.is in
    c.an_accepted_script_is_closed.ensures.closed raw c.in-Some-2.script (record { unrefused = none; stands_for = is })
