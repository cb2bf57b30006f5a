-- The rows: what each variable and each function does where a run asks for it.
use Rattle.std.specs.Prelude.{ℕ, ℤ, pos, negsuc, Bool, true, false, ◌&&◌, List, Option, Some, None, if◌then◌else◌}
use Rattle.dialogue.specs.Course.{Ends}
use Rattle.pv_values.specs.declared.run.HostAsk.{HostAsk}
use Rattle.pv_values.specs.declared.run.HostAsk.TheVariants.{Read, Write, Call}
use Rattle.pv_values.specs.declared.run.HostAnswer.TheVariants as told
use Rattle.pv_values.specs.declared.value.Val.{Val}
use Rattle.pv_values.specs.declared.value.Val.TheVariants.{Null}
use Rattle.pv_values.specs.declared.function.Func.{Func}
use Rattle.pv_values.specs.declared.function.Func.TheVariants as func
use Rattle.pv_values.specs.declared.variable.PvUse.{PvUse}
use Rattle.pv_values.specs.declared.variable.PvUse.TheVariants as pv
use Rattle.pv_values.specs.declared.function_name.FuncName.{FuncName}
use Rattle.pv_values.specs.declared.function_name.FuncName.TheVariants as name
use Rattle.pv_values.specs.Kinds.{stands_in, name_of}
use Rattle.pv_values.specs.Values.{bit, number_of}
use Rattle.ht_core.specs.declared.operation.TabOp.TheVariants as op
use Rattle.pv_table.specs.Reading.{value}
use Rattle.pv_table.specs.Writing.{assigned}
use Rattle.host_meaning.specs.Run.{Received, Around, RunState, RowCourse, Tells, code, argument, with_facts}
use Rattle.host_meaning.specs.Ours.{is_myself}
use Rattle.host_meaning.specs.Responses.{sl_send_reply}
use Rattle.host_meaning.specs.Headers.{is_method, has_totag, is_present_hf, remove_hf, append_hf, mf_process_maxfwd_header, record_route}
use Rattle.host_meaning.specs.Routing.{loose_route}
use Rattle.host_meaning.specs.Transactions.{t_newtran, t_reply, t_on_branch, t_on_failure, t_on_reply, t_set_fr, t_check_trans, t_is_canceled, t_check_status}
use Rattle.host_meaning.specs.Relaying.{t_relay, append_branch}
use Rattle.host_meaning.specs.Suspending.{t_suspend, t_continue}
use Rattle.host_meaning.specs.TableRows.{asks_table, value_of_reply, written_by_reply, counted_by_reply, limit_written, xlog}

-- the functions that have started; every other one does nothing yet
abbrev pub has_started : FuncName → Bool
has_started name.SlSendReply = true
has_started name.IsMethod = true
has_started name.HasTotag = true
has_started name.IsPresentHf = true
has_started name.RemoveHf = true
has_started name.AppendHf = true
has_started name.MfProcessMaxfwdHeader = true
has_started name.RecordRoute = true
has_started name.LooseRoute = true
has_started name.Xlog = true
has_started name.ShtRmNameRe = true
has_started name.ShtReset = true
has_started _ = false

-- a function that works where it isn't: -9, and nothing else
abbrev pub idle : RunState → RowCourse
idle s = code (negsuc 8) s

-- functions over a message
abbrev pub call_over : Around → Received → Func → List Val → RunState → RowCourse
call_over a r (func.SlSendReply status) values s = sl_send_reply r status (argument values 0) s
call_over a r (func.IsMethod methods) values s = is_method r methods s
call_over a r func.HasTotag values s = has_totag r s
call_over a r (func.IsPresentHf name) values s = is_present_hf r name s
call_over a r (func.RemoveHf name) values s = remove_hf r name s
call_over a r func.AppendHf values s = append_hf r (argument values 0) s
call_over a r (func.MfProcessMaxfwdHeader n) values s = mf_process_maxfwd_header r n s
call_over a r func.RecordRoute values s = record_route a r s
call_over a r func.LooseRoute values s = loose_route a r s
call_over a r func.TNewtran values s = t_newtran r s
call_over a r (func.TReply status) values s = t_reply r status (argument values 0) s
call_over a r func.TRelay values s = t_relay a r s
call_over a r func.AppendBranch values s = append_branch a values s
call_over a r (func.TOnBranch block) values s = t_on_branch block s
call_over a r (func.TOnFailure block) values s = t_on_failure block s
call_over a r (func.TOnReply block) values s = t_on_reply block s
call_over a r func.TSetFr values s = t_set_fr values s
call_over a r func.TCheckTrans values s = t_check_trans r s
call_over a r func.TIsCanceled values s = t_is_canceled s
call_over a r func.TSuspend values s = t_suspend r s
call_over a r (func.TContinue route) values s = t_continue a values route s
call_over a r (func.TCheckStatus pattern) values s = t_check_status a.patterns pattern r s
call_over a r func.Xlog values s = xlog (argument values 0) s
call_over a r (func.ShtRmNameRe table pattern) values s = asks_table table (op.RemoveMatching pattern) counted_by_reply s
call_over a r (func.ShtReset table) values s = asks_table table op.Reset counted_by_reply s

-- functions without a message: in an event block no method is one of the list
abbrev pub call_without : Around → Func → List Val → RunState → RowCourse
call_without a (func.IsMethod methods) values s = code (negsuc 0) s
call_without a (func.TContinue route) values s = t_continue a values route s
call_without a func.Xlog values s = xlog (argument values 0) s
call_without a (func.ShtRmNameRe table pattern) values s = asks_table table (op.RemoveMatching pattern) counted_by_reply s
call_without a (func.ShtReset table) values s = asks_table table op.Reset counted_by_reply s
call_without a _ values s = idle s

abbrev pub called : Around → Option Received → Func → List Val → RunState → RowCourse
called a None f values s = call_without a f values s
called a (Some r) f values s = call_over a r f values s

-- what a variable reads where there is no message: Null
abbrev pub read_of : Option Received → RunState → PvUse → Val
read_of None s x = Null
read_of (Some r) s x = value r.bytes r.message s.facts x

-- a variable that is read
abbrev pub read_row : Around → PvUse → RunState → RowCourse
read_row a (pv.Item table key) s = asks_table table (op.Get key) value_of_reply s
read_row a (pv.ItemSeconds table key) s = asks_table table (op.Left key) value_of_reply s
read_row a (pv.ItemIncrement table key) s = asks_table table (op.Inc key) value_of_reply s
read_row a (pv.ItemDecrement table key) s = asks_table table (op.Dec key) value_of_reply s
read_row a pv.Myself s = Ends (Tells (told.Value (bit (is_myself a s))) s)
read_row a x s = Ends (Tells (told.Value (read_of a.received s x)) s)

-- a variable that is assigned
abbrev pub write_row : PvUse → Val → RunState → RowCourse
write_row (pv.Item table key) v s = asks_table table (op.Set key v) written_by_reply s
write_row (pv.ItemSeconds table key) v s = limit_written table key (number_of v) s
write_row x v s = Ends (Tells told.Written (with_facts s (assigned s.facts x v)))

-- a function that is called, in a run that a block of this kind began
abbrev pub call_row : Around → Func → List Val → RunState → RowCourse
call_row a f values s = if has_started (name_of f) && stands_in (name_of f) s.facts.kind then called a a.received f values s else idle s

abbrev pub row : Around → HostAsk → RunState → RowCourse
row a (Read x) s = read_row a x s
row a (Write x v) s = write_row x v s
row a (Call f values) s = call_row a f values s
