use Rattle.std.proofs.Common.{◌∙◌, sym}
use Rattle.cfg_calls.proofs.FunctionTable.{call_stands, call_stands_not}
use Rattle.cfg_calls.proofs.checker.Checker.function_call.Goals as goal

pub returns-then-may_stand : goal.returns-then-may_stand
returns-then-may_stand c =
    call_stands c.args.known.now c.args.kind c.args.word.now c.args.args.now c.bytes.result.now c.in-Some.function c.args.self.now c.with_arguments.new.self c.with_arguments.result
    c.bytes.ensures c.in-Some.ensures (sym c.may_stand.ensures ∙ c.if-may_stand.true) c.with_arguments.ensures

pub returns : goal.returns
returns c =
    call_stands_not c.args.known.now c.args.kind c.args.word.now c.args.args.now c.bytes.result.now c.in-Some.function
    c.bytes.ensures c.in-Some.ensures (sym c.may_stand.ensures ∙ c.if-may_stand.false) c.in_ok-note.ensures.seen c.in_ok-note.ensures.refusals c.in_ok-with_arguments.ensures
