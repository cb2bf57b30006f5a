-- The functions of the language: the one table of them. And the kinds of blocks from which a variable is assigned.
use Rattle.std.specs.Prelude.{ℕ, Bool, true, false, List, [], ◌∷◌, Option, codes}
use Rattle.std.specs.List.{find}
use Rattle.std.specs.Str.{bytes_eq}
use Rattle.pv_values.specs.declared.block.BlockKind.{BlockKind}
use Rattle.pv_values.specs.declared.block.BlockKind.TheVariants.{Request, Branch, Failure, Reply, Event}
use Rattle.pv_values.specs.declared.function.Func.{Func}
use Rattle.pv_values.specs.declared.function.Func.TheVariants as func
use Rattle.pv_values.specs.declared.function_name.Blocks.{Blocks}
use Rattle.pv_values.specs.declared.function_name.FuncName.{FuncName}
use Rattle.pv_values.specs.declared.function_name.FuncName.TheVariants as name
use Rattle.pv_values.specs.declared.variable.PvUse.{PvUse}
use Rattle.pv_values.specs.declared.variable.PvUse.TheVariants as pv

-- an answer for each kind
abbrev pub by_kind : (request branch failure reply event : Bool) → BlockKind → Bool
by_kind request branch failure reply event Request = request
by_kind request branch failure reply event Branch = branch
by_kind request branch failure reply event Failure = failure
by_kind request branch failure reply event Reply = reply
by_kind request branch failure reply event Event = event

-- ---- the functions

-- the form of a function's arguments, with the function that a call of this form stands for; `cfg_tree` says what each form reads
pub data ArgForm : Type 0 where
  -- (): no argument
  Plain : Func → ArgForm
  -- (x): one that is expanded
  Expanding : Func → ArgForm
  -- ([x])
  ExpandingMaybe : Func → ArgForm
  -- (x, x)
  ExpandingTwo : Func → ArgForm
  -- (code, x reason)
  Replying : (ℕ → Func) → ArgForm
  -- (n): 1 to 255
  Counting : (ℕ → Func) → ArgForm
  -- ("literal")
  TakingText : (List ℕ → Func) → ArgForm
  -- ("block"): a block of this kind
  TakingBlock : BlockKind → (ℕ → Func) → ArgForm
  -- ("re")
  TakingPattern : (ℕ → Func) → ArgForm
  -- ("table")
  TakingTable : (ℕ → Func) → ArgForm
  -- ("table=>re")
  TakingTablePattern : (ℕ → ℕ → Func) → ArgForm
  -- ("name"): of a field that a message can do without
  TakingRemovable : (List ℕ → Func) → ArgForm
  -- (x index, x label, "route")
  Continuing : (ℕ → Func) → ArgForm
  -- ([level,] x text)
  Logging : Func → ArgForm

pub record FuncRow : Type 0 where
  pub name : List ℕ
  pub blocks : Blocks
  pub form : ArgForm

abbrev pub a_row : List ℕ → (request branch failure reply event : Bool) → ArgForm → FuncRow
a_row name request branch failure reply event form = record {
  name = name;
  blocks = record { request = request; branch = branch; failure = failure; reply = reply; event = event };
  form = form;
}

-- its name, the kinds of blocks in which it works, and the form of its arguments
--                                       request branch failure reply event
abbrev pub row : FuncName → FuncRow
row name.SlSendReply = a_row (codes "sl_send_reply") true false false false false (Replying func.SlSendReply)
row name.TNewtran = a_row (codes "t_newtran") true false false false false (Plain func.TNewtran)
row name.TReply = a_row (codes "t_reply") true false true false false (Replying func.TReply)
row name.TRelay = a_row (codes "t_relay") true false true false false (Plain func.TRelay)
row name.AppendBranch = a_row (codes "append_branch") true false true false false (ExpandingMaybe func.AppendBranch)
row name.TOnBranch = a_row (codes "t_on_branch") true false true false false (TakingBlock Branch func.TOnBranch)
row name.TOnFailure = a_row (codes "t_on_failure") true false true false false (TakingBlock Failure func.TOnFailure)
row name.TOnReply = a_row (codes "t_on_reply") true false true false false (TakingBlock Reply func.TOnReply)
row name.TSetFr = a_row (codes "t_set_fr") true false true false false (ExpandingTwo func.TSetFr)
row name.TCheckTrans = a_row (codes "t_check_trans") true false false false false (Plain func.TCheckTrans)
row name.TIsCanceled = a_row (codes "t_is_canceled") true false true true false (Plain func.TIsCanceled)
row name.TCheckStatus = a_row (codes "t_check_status") false false true true false (TakingPattern func.TCheckStatus)
row name.TSuspend = a_row (codes "t_suspend") true false false false false (Plain func.TSuspend)
row name.TContinue = a_row (codes "t_continue") true false true true true (Continuing func.TContinue)
row name.IsMethod = a_row (codes "is_method") true true true true true (TakingText func.IsMethod)
row name.HasTotag = a_row (codes "has_totag") true true true true false (Plain func.HasTotag)
row name.IsPresentHf = a_row (codes "is_present_hf") true true true true false (TakingText func.IsPresentHf)
row name.RemoveHf = a_row (codes "remove_hf") true true true true false (TakingRemovable func.RemoveHf)
row name.AppendHf = a_row (codes "append_hf") true true true true false (Expanding func.AppendHf)
row name.MfProcessMaxfwdHeader = a_row (codes "mf_process_maxfwd_header") true false false false false (Counting func.MfProcessMaxfwdHeader)
row name.RecordRoute = a_row (codes "record_route") true false false false false (Plain func.RecordRoute)
row name.LooseRoute = a_row (codes "loose_route") true false false false false (Plain func.LooseRoute)
row name.Xlog = a_row (codes "xlog") true true true true true (Logging func.Xlog)
row name.ShtRmNameRe = a_row (codes "sht_rm_name_re") true true true true true (TakingTablePattern func.ShtRmNameRe)
row name.ShtReset = a_row (codes "sht_reset") true true true true true (TakingTable func.ShtReset)

abbrev pub functions : List FuncName
functions =
    name.SlSendReply ∷ name.TNewtran ∷ name.TReply ∷ name.TRelay ∷ name.AppendBranch ∷ name.TOnBranch
    ∷ name.TOnFailure ∷ name.TOnReply ∷ name.TSetFr ∷ name.TCheckTrans ∷ name.TIsCanceled ∷ name.TCheckStatus
    ∷ name.TSuspend ∷ name.TContinue ∷ name.IsMethod ∷ name.HasTotag ∷ name.IsPresentHf ∷ name.RemoveHf
    ∷ name.AppendHf ∷ name.MfProcessMaxfwdHeader ∷ name.RecordRoute ∷ name.LooseRoute ∷ name.Xlog ∷ name.ShtRmNameRe
    ∷ name.ShtReset ∷ []

-- the function of this name
abbrev pub function_named : List ℕ → Option FuncName
function_named text = find (λ f. bytes_eq text (row f).name) functions

abbrev pub works_in : Blocks → BlockKind → Bool
works_in b kind = by_kind b.request b.branch b.failure b.reply b.event kind

-- the function works in a run that a block of this kind began
abbrev pub stands_in : FuncName → BlockKind → Bool
stands_in f kind = works_in (row f).blocks kind

-- a function without its arguments
abbrev pub name_of : Func → FuncName
name_of (func.SlSendReply x) = name.SlSendReply
name_of func.TNewtran = name.TNewtran
name_of (func.TReply x) = name.TReply
name_of func.TRelay = name.TRelay
name_of func.AppendBranch = name.AppendBranch
name_of (func.TOnBranch x) = name.TOnBranch
name_of (func.TOnFailure x) = name.TOnFailure
name_of (func.TOnReply x) = name.TOnReply
name_of func.TSetFr = name.TSetFr
name_of func.TCheckTrans = name.TCheckTrans
name_of func.TIsCanceled = name.TIsCanceled
name_of (func.TCheckStatus x) = name.TCheckStatus
name_of func.TSuspend = name.TSuspend
name_of (func.TContinue x) = name.TContinue
name_of (func.IsMethod x) = name.IsMethod
name_of func.HasTotag = name.HasTotag
name_of (func.IsPresentHf x) = name.IsPresentHf
name_of (func.RemoveHf x) = name.RemoveHf
name_of func.AppendHf = name.AppendHf
name_of (func.MfProcessMaxfwdHeader x) = name.MfProcessMaxfwdHeader
name_of func.RecordRoute = name.RecordRoute
name_of func.LooseRoute = name.LooseRoute
name_of func.Xlog = name.Xlog
name_of (func.ShtRmNameRe x y) = name.ShtRmNameRe
name_of (func.ShtReset x) = name.ShtReset

-- ---- the variables

-- a block of this kind may assign the variable
--                                            request branch failure reply event
abbrev pub is_written_in : PvUse → BlockKind → Bool
is_written_in pv.RequestUri = by_kind true true true false false
is_written_in pv.RequestUser = by_kind true true true false false
is_written_in pv.RequestHost = by_kind true true true false false
is_written_in pv.RequestPort = by_kind true true true false false
is_written_in pv.DestinationUri = by_kind true true true false false
is_written_in (pv.Avp name) = by_kind true true true true false
is_written_in (pv.Item table key) = by_kind true true true true true
is_written_in (pv.ItemSeconds table key) = by_kind true true true true true
is_written_in _ = by_kind false false false false false
