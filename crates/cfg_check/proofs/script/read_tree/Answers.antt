use Rattle.cfg_check.proofs.Readings.{is_read}
use Rattle.cfg_check.proofs.script.read_tree.Goals as goal

pub returns : goal.returns
returns c =
    is_read c.args.raw.now c.as_slice-items.result.now _ c.new-known.result c.in_ok-blocks.blocks c.in_ok-table_names.field-0
    c.new-refusals.result c.settings_in.new.refusals c.blocks_in.new.refusals c.new-checker.result c.bodies.new.checker c.refuse_without_request.new.checker
    c.as_slice-items.ensures c.new-refusals.ensures
    c.in_ok-settings.ensures.settings c.in_ok-settings.ensures.refused
    c.in_ok-blocks.ensures.names c.in_ok-blocks.ensures.refused
    c.in_ok-table_names.ensures c.new-known.ensures
    c.new-checker.ensures c.in_ok-blocks-2.ensures
    c.in_ok-request.ensures
    c.in_ok-refuse_without_request.ensures.seen c.in_ok-refuse_without_request.ensures.refusals
    c.in_ok-reply.ensures
    c.in_ok-refusals.ensures.refusals c.in_ok-refusals.ensures.vars c.in_ok-refusals.ensures.patterns
