-- Scripts, as they are read.
use Rattle.std.specs.Prelude.{◌≡◌, ◌≢◌, ℕ, pos, List, [], ◌∷◌, Option, Some, None, Result, Ok, Err, Bool, if◌then◌else◌, codes}
use Rattle.std.specs.Str.{bytes_eq}
use Rattle.pv_values.specs.declared.refusal.Place.{Place}
use Rattle.pv_values.specs.declared.block.BlockKind.TheVariants.{Request, Branch, Failure, Reply, Event}
use Rattle.cfg_tree.specs.declared.token.Token.{Token}
use Rattle.cfg_tree.specs.declared.token.Lexeme.{Lexeme}
use Rattle.cfg_tree.specs.declared.token.Lexeme.TheVariants as lexeme
use Rattle.cfg_tree.specs.declared.token.Keyword.TheVariants as word_is
use Rattle.cfg_tree.specs.declared.token.Mark.TheVariants as mark
use Rattle.cfg_tree.specs.declared.raw.Word.{Word}
use Rattle.cfg_tree.specs.declared.raw.RouteKind.{RouteKind}
use Rattle.cfg_tree.specs.declared.raw.RouteKind.TheVariants.{Route, Begins}
use Rattle.cfg_tree.specs.declared.raw.Setting.{Setting}
use Rattle.cfg_tree.specs.declared.raw.Setting.TheVariants as setting
use Rattle.cfg_tree.specs.declared.raw.RawItem.{RawItem}
use Rattle.cfg_tree.specs.declared.raw.RawItem.TheVariants as item
use Rattle.cfg_parse.specs.declared.script.BlockKinds.{BlockKinds}
use Rattle.cfg_parse.specs.declared.fault.Fault.{Fault}
use Rattle.cfg_parse.specs.declared.fault.Fault.TheVariants.{NoMemory}
use Rattle.cfg_parse.specs.Reader.{Reader, ◌>>=◌, ◌>>◌, ◌<$>◌, pure, refuse, first, one, here, since, eat_mark, mark_of, keyword_of, many}
use Rattle.cfg_parse.specs.Calls.{string, name, read_block_name}
use Rattle.cfg_parse.specs.Stmts.{body}

-- [";"]
abbrev pub read_end : Reader Bool
read_end = eat_mark mark.Semicolon

-- NUMBER | STRING | NAME | LISTEN
abbrev pub setting_in : Lexeme → Place → Option Setting
setting_in (lexeme.Number (pos n)) at = Some (setting.Number (pos n))
setting_in (lexeme.String s) at = Some (setting.String s)
setting_in (lexeme.Name s) at = Some (setting.Name s)
setting_in (lexeme.Listen l) at = Some (setting.Listen l)
setting_in _ at = None

unfoldable pub setting_of : Reader Setting
setting_of = one setting_in

-- STRING | NUMBER
abbrev pub setting_token : Lexeme → Place → Option Setting
setting_token (lexeme.Number (pos n)) at = Some (setting.Number (pos n))
setting_token (lexeme.String s) at = Some (setting.String s)
setting_token _ at = None

unfoldable pub value_of : Reader Setting
value_of = one setting_token

-- "loadmodule" STRING [";"]
unfoldable pub module_of : Reader RawItem
module_of = do
  keyword_of word_is.Loadmodule
  w ← string
  _ ← read_end
  pure (item.Module w)

-- "modparam" "(" STRING "," STRING "," ( STRING | NUMBER ) ")" [";"]
unfoldable pub module_parameter : Reader RawItem
module_parameter = do
  keyword_of word_is.Modparam
  mark_of mark.OpenRound
  of ← string
  mark_of mark.Comma
  w ← string
  mark_of mark.Comma
  v ← value_of
  mark_of mark.CloseRound
  _ ← read_end
  pure (item.ModuleParameter of w v)

-- ( NUMBER | STRING | NAME | LISTEN ) [";"], after NAME "="
unfoldable pub parameter : Word → Reader RawItem
parameter w = do
  v ← setting_of
  _ ← read_end
  pure (item.Parameter w v)

-- ---- blocks

-- the kinds of block that a word begins: without a name, and with one
abbrev pub route_kinds : BlockKinds
route_kinds = record { alone = Some (Begins Request); named = Some Route }

unfoldable pub kinds_of : List ℕ → BlockKinds
kinds_of word =
    if bytes_eq word (codes "request_route") then record { alone = Some (Begins Request); named = None }
    else (if bytes_eq word (codes "reply_route") then record { alone = Some (Begins Reply); named = None }
    else (if bytes_eq word (codes "onreply_route") then record { alone = Some (Begins Reply); named = Some (Begins Reply) }
    else (if bytes_eq word (codes "branch_route") then record { alone = None; named = Some (Begins Branch) }
    else (if bytes_eq word (codes "failure_route") then record { alone = None; named = Some (Begins Failure) }
    else (if bytes_eq word (codes "event_route") then record { alone = None; named = Some (Begins Event) }
    else record { alone = None; named = None })))))

-- [ "[" BNAME "]" ], after the word
abbrev pub alone_by : Option RouteKind → Reader (RouteKind × Option Word)
alone_by None = refuse
alone_by (Some kind) = pure (kind, None)

abbrev pub named_by : Option RouteKind → Reader (RouteKind × Option Word)
named_by None = refuse
named_by (Some kind) = do
  mark_of mark.OpenSquare
  w ← read_block_name
  mark_of mark.CloseSquare
  pure (kind, Some w)

abbrev pub head_by : BlockKinds → Option Lexeme → Reader (RouteKind × Option Word)
head_by kinds (Some (lexeme.Mark mark.OpenSquare)) = named_by kinds.named
head_by kinds _ = alone_by kinds.alone

unfoldable pub head_of : BlockKinds → Reader (RouteKind × Option Word)
head_of kinds = λ ts. head_by kinds (first ts) ts

-- [ "[" BNAME "]" ] "{" { stmt } "}", after the word, which stands there
unfoldable pub block : List Token → Place → BlockKinds → Reader RawItem
block start at kinds = do
  head ← head_of kinds
  mark_of mark.OpenCurly
  ss ← body
  mark_of mark.CloseCurly
  place ← since start
  pure (item.Block (record { kind = head.0; name = head.1; kind_at = at; at = place; body = ss }))

-- "route" and the rest of a block
abbrev pub route_in : Lexeme → Place → Option Place
route_in (lexeme.Keyword word_is.Route) at = Some at
route_in _ at = None

unfoldable pub route_block : Reader RawItem
route_block = do
  start ← here
  at ← one route_in
  block start at route_kinds

-- a parameter or a block that begins with a name
unfoldable pub named_item : Reader RawItem
named_item = do
  start ← here
  w ← name
  is_set ← eat_mark mark.Assign
  if is_set then parameter w else block start w.at (kinds_of w.text)

-- param | load | modparam | block
abbrev pub item_by : Option Lexeme → Reader RawItem
item_by (Some (lexeme.Keyword word_is.Loadmodule)) = module_of
item_by (Some (lexeme.Keyword word_is.Modparam)) = module_parameter
item_by (Some (lexeme.Keyword word_is.Route)) = route_block
item_by _ = named_item

unfoldable pub read_item : Reader RawItem
read_item = λ ts. item_by (first ts) ts

-- the next one, if any token is left
abbrev pub next_by : Option Lexeme → Reader (Option RawItem)
next_by None = pure None
next_by (Some x) = Some <$> read_item

unfoldable pub next_item : Reader (Option RawItem)
next_item = λ ts. next_by (first ts) ts

-- { param | load | modparam | block }
unfoldable pub items : Reader (List RawItem)
items = many next_item []

abbrev pub all_read : Option (List RawItem × List Token) → Option (List RawItem)
all_read None = None
all_read (Some (found, [])) = Some found
all_read (Some (found, t ∷ ts)) = None

-- the items of all the tokens
unfoldable pub script_at : List Token → Option (List RawItem)
script_at ts = all_read (items ts)

-- the result of a function that reads all the tokens
abbrev pub ReadsAll : Option (List RawItem) → Result (List RawItem) Fault → Type 0
ReadsAll found (Ok items) = found ≡ Some items
ReadsAll found (Err fault) = fault ≢ NoMemory → found ≡ None
