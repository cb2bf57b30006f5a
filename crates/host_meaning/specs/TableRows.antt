-- Variables and functions that ask a table, and the log.
use Rattle.std.specs.Prelude.{ℕ, ℤ, pos, List, Option, Some, None}
use Rattle.dialogue.specs.Course.{Course, Ends, Asks}
use Rattle.pv_values.specs.declared.run.HostAnswer.{HostAnswer}
use Rattle.pv_values.specs.declared.run.HostAnswer.TheVariants as told
use Rattle.pv_values.specs.declared.value.Val.{Val}
use Rattle.pv_values.specs.declared.value.Val.TheVariants.{Null}
use Rattle.pv_values.specs.Values.{number_of}
use Rattle.ht_core.specs.declared.operation.TabOp.{TabOp}
use Rattle.ht_core.specs.declared.operation.TabOp.TheVariants as op
use Rattle.ht_core.specs.declared.operation.TabReply.{TabReply}
use Rattle.ht_core.specs.declared.operation.TabReply.TheVariants as reply
use Rattle.host_meaning.specs.declared.ask.Asked.{Asked}
use Rattle.host_meaning.specs.declared.ask.Asked.TheVariants as ask
use Rattle.host_meaning.specs.declared.ask.Heard.{Heard}
use Rattle.host_meaning.specs.declared.ask.Heard.TheVariants as heard
use Rattle.host_meaning.specs.Run.{RunState, RowEnd, Tells, Lacks, RowCourse}

-- what an answer that doesn't fit, or one of no memory, makes of a row
abbrev pub or_lacks : Option HostAnswer → RunState → RowEnd
or_lacks None s = Lacks s
or_lacks (Some answer) s = Tells answer s

abbrev pub by_table : (TabReply → Option HostAnswer) → Heard → Option HostAnswer
by_table f (heard.Table r) = f r
by_table f h = None

-- a row that asks a table once
abbrev pub asks_table : ℕ → TabOp → (TabReply → Option HostAnswer) → RunState → RowCourse
asks_table t o f s = Asks (ask.Table t o) (λ h. Ends (or_lacks (by_table f h) s))

-- what is read: a value; Full, TooLong, NotNumber and Null read as Null
abbrev pub value_of_reply : TabReply → Option HostAnswer
value_of_reply (reply.Value v) = Some (told.Value v)
value_of_reply reply.Null = Some (told.Value Null)
value_of_reply reply.Full = Some (told.Value Null)
value_of_reply reply.TooLong = Some (told.Value Null)
value_of_reply reply.NotNumber = Some (told.Value Null)
value_of_reply reply.Done = None
value_of_reply (reply.Count n) = None

-- an assignment: one that is refused has no effect
abbrev pub written_by_reply : TabReply → Option HostAnswer
written_by_reply reply.Done = Some told.Written
written_by_reply reply.Null = Some told.Written
written_by_reply reply.Full = Some told.Written
written_by_reply reply.TooLong = Some told.Written
written_by_reply reply.NotNumber = None
written_by_reply (reply.Value v) = None
written_by_reply (reply.Count n) = None

-- sht_rm_name_re, sht_reset: 1
abbrev pub counted_by_reply : TabReply → Option HostAnswer
counted_by_reply (reply.Count n) = Some (told.Code (pos 1))
counted_by_reply reply.Done = None
counted_by_reply reply.Null = None
counted_by_reply reply.Full = None
counted_by_reply reply.TooLong = None
counted_by_reply reply.NotNumber = None
counted_by_reply (reply.Value v) = None

-- `$shtex(t=>k) = value`: without a number nothing is done
abbrev pub limit_written : ℕ → List ℕ → Option ℤ → RunState → RowCourse
limit_written t key None s = Ends (Tells told.Written s)
limit_written t key (Some n) s = asks_table t (op.Limit key n) written_by_reply s

-- xlog(text): 1
abbrev pub noted : Heard → Option HostAnswer
noted heard.Noted = Some (told.Code (pos 1))
noted h = None

abbrev pub xlog : List ℕ → RunState → RowCourse
xlog text s = Asks (ask.Log text) (λ h. Ends (or_lacks (noted h) s))
