-- The grammar of a script: which list of tokens derives which tree. Each constructor is one rule.
use Rattle.std.specs.Prelude.{◌≡◌, ◌⊎◌, ℕ, suc, pos, neg_ℤ, Bool, true, false, List, [], ◌∷◌, ◌++◌, Option, Some, None, codes}
use Rattle.pv_values.specs.declared.value.Val.{Val}
use Rattle.pv_values.specs.declared.value.Val.TheVariants as val
use Rattle.pv_values.specs.declared.operator.BinOp.{BinOp}
use Rattle.pv_values.specs.declared.operator.BinOp.TheVariants.{Add, Sub, Mul, Div, Rem, Eq, Ne, Lt, Gt, Le, Ge}
use Rattle.pv_values.specs.declared.refusal.Place.{Place}
use Rattle.pv_values.specs.declared.block.BlockKind.TheVariants.{Request, Branch, Failure, Reply, Event}
use Rattle.cfg_tree.specs.declared.token.Token.{Token}
use Rattle.cfg_tree.specs.declared.token.Variable.{Variable}
use Rattle.cfg_tree.specs.declared.token.Lexeme.TheVariants as lexeme
use Rattle.cfg_tree.specs.declared.token.Keyword.TheVariants as word_is
use Rattle.cfg_tree.specs.declared.token.Mark.TheVariants as mark
use Rattle.cfg_tree.specs.declared.setting.Listen.{Listen}
use Rattle.cfg_tree.specs.declared.raw.Word.{Word}
use Rattle.cfg_tree.specs.declared.raw.RouteKind.{RouteKind}
use Rattle.cfg_tree.specs.declared.raw.RouteKind.TheVariants.{Route, Begins}
use Rattle.cfg_tree.specs.declared.raw.Setting.{Setting}
use Rattle.cfg_tree.specs.declared.raw.Setting.TheVariants as setting
use Rattle.cfg_tree.specs.declared.raw.RawArg.{RawArg}
use Rattle.cfg_tree.specs.declared.raw.RawArg.TheVariants as arg
use Rattle.cfg_tree.specs.declared.raw.RawCall.{RawCall}
use Rattle.cfg_tree.specs.declared.raw.RawCall.TheVariants as call
use Rattle.cfg_tree.specs.declared.raw.RawExpr.{RawExpr}
use Rattle.cfg_tree.specs.declared.raw.RawExpr.TheOpen.{RawExpr-F}
use Rattle.cfg_tree.specs.declared.raw.RawExpr.TheViews.{roll-RawExpr}
use Rattle.cfg_tree.specs.declared.raw.RawStmt.{RawStmt}
use Rattle.cfg_tree.specs.declared.raw.RawStmt.TheOpen.{RawStmt-F}
use Rattle.cfg_tree.specs.declared.raw.RawStmt.TheViews.{roll-RawStmt}
use Rattle.cfg_tree.specs.declared.raw.RawItem.{RawItem}
use Rattle.cfg_tree.specs.declared.raw.RawItem.TheVariants as item
use Rattle.cfg_tree.specs.Tokens.{IsA, IsMark, IsKeyword, word, whole}

-- ---- calls

-- arg = STRING | ["-"] NUMBER | VAR
pub data ArgIs : List Token → RawArg → Type 0 where
  string_arg : (t : Token) (s : List ℕ) → IsA (lexeme.String s) t → ArgIs (t ∷ []) (arg.String (word s t))
  number_arg : (t : Token) (n : ℕ) → IsA (lexeme.Number (pos n)) t → ArgIs (t ∷ []) (arg.Number (pos n))
  negative_arg : (m t : Token) (n : ℕ) → IsMark mark.Minus m → IsA (lexeme.Number (pos n)) t →
      ArgIs (m ∷ t ∷ []) (arg.Number (neg_ℤ (pos n)))
  variable_arg : (t : Token) (v : Variable) → IsA (lexeme.Variable v) t →
      ArgIs (t ∷ []) (arg.Variable (record { variable = v; at = t.at }))

-- arg { "," arg }
pub data ArgsAre : List Token → List RawArg → Type 0 where
  last_arg : (ts : List Token) (a : RawArg) → ArgIs ts a → ArgsAre ts (a ∷ [])
  more_args : (ts us : List Token) (comma : Token) (a : RawArg) (more : List RawArg) → ArgIs ts a → IsMark mark.Comma comma →
      ArgsAre us more → ArgsAre (ts ++ comma ∷ us) (a ∷ more)

-- call = NAME "(" [ arg { "," arg } ] ")" | "route" "(" ( BNAME | STRING ) ")"
pub data CallIs : List Token → RawCall → Type 0 where
  plain_call : (f left right : Token) (name : List ℕ) → IsA (lexeme.Name name) f → IsMark mark.OpenRound left →
      IsMark mark.CloseRound right → CallIs (f ∷ left ∷ right ∷ []) (call.Function (word name f) [])
  call_with : (f left right : Token) (ts : List Token) (name : List ℕ) (args : List RawArg) → IsA (lexeme.Name name) f →
      IsMark mark.OpenRound left → ArgsAre ts args → IsMark mark.CloseRound right →
      CallIs (f ∷ left ∷ ts ++ right ∷ []) (call.Function (word name f) args)
  route_call : (r left b right : Token) (name : List ℕ) → IsKeyword word_is.Route r → IsMark mark.OpenRound left →
      IsA (lexeme.BlockName name) b ⊎ IsA (lexeme.String name) b → IsMark mark.CloseRound right →
      CallIs (r ∷ left ∷ b ∷ right ∷ []) (call.Route (word name b))

-- ---- expressions

-- the levels of operators, the loosest first
pub data Level : Type 0 where
  Or : Level
  And : Level
  Comparison : Level
  Sum : Level
  Product : Level
  Unary : Level

-- what joins operands of this level in a chain
pub data JoinIs : Level → Token → Type 0 where
  or_mark : (t : Token) → IsMark mark.Or t → JoinIs And t
  or_word : (t : Token) → IsKeyword word_is.Or t → JoinIs And t
  and_mark : (t : Token) → IsMark mark.And t → JoinIs Comparison t
  and_word : (t : Token) → IsKeyword word_is.And t → JoinIs Comparison t

pub data LinkIs : Level → BinOp → Token → Type 0 where
  plus : (t : Token) → IsMark mark.Plus t → LinkIs Product Add t
  minus : (t : Token) → IsMark mark.Minus t → LinkIs Product Sub t
  times : (t : Token) → IsMark mark.Times t → LinkIs Unary Mul t
  divided : (t : Token) → IsMark mark.Divide t → LinkIs Unary Div t
  rest : (t : Token) → IsKeyword word_is.Mod t → LinkIs Unary Rem t

pub data CompareIs : BinOp → Token → Type 0 where
  equal : (t : Token) → IsMark mark.Equal t → CompareIs Eq t
  not_equal : (t : Token) → IsMark mark.NotEqual t → CompareIs Ne t
  less : (t : Token) → IsMark mark.Less t → CompareIs Lt t
  greater : (t : Token) → IsMark mark.Greater t → CompareIs Gt t
  less_or_equal : (t : Token) → IsMark mark.LessOrEqual t → CompareIs Le t
  greater_or_equal : (t : Token) → IsMark mark.GreaterOrEqual t → CompareIs Ge t

abbrev pub IsNot : Token → Type 0
IsNot t = IsMark mark.Not t ⊎ IsKeyword word_is.Not t

-- The tokens derive this expression, at this level. So many more brackets and prefix operators may stand inside one
-- another there.
mutual
  pub data ExprIs : Level → ℕ → List Token → RawExpr → Type 0 where
    -- expr = and { ("||" | "or") and }
    one_and : (room : ℕ) (ts : List Token) (e : RawExpr) → ExprIs And room ts e → ExprIs Or room ts e
    any_of : (room : ℕ) (ts us : List Token) (e : RawExpr) (more : List RawExpr) → ExprIs And room ts e → JoinedAre And room us more →
        ExprIs Or room (ts ++ us) (roll-RawExpr (RawExpr-F.Any (e ∷ more)))
    -- and = cmp { ("&&" | "and") cmp }
    one_comparison : (room : ℕ) (ts : List Token) (e : RawExpr) → ExprIs Comparison room ts e → ExprIs And room ts e
    all_of : (room : ℕ) (ts us : List Token) (e : RawExpr) (more : List RawExpr) → ExprIs Comparison room ts e →
        JoinedAre Comparison room us more → ExprIs And room (ts ++ us) (roll-RawExpr (RawExpr-F.All (e ∷ more)))
    -- cmp = sum [ ("==" | "!=" | "<" | ">" | "<=" | ">=") sum | "=~" STRING ] | "uri" ("==" | "!=") "myself"
    one_sum : (room : ℕ) (ts : List Token) (e : RawExpr) → ExprIs Sum room ts e → ExprIs Comparison room ts e
    compared : (room : ℕ) (ts us : List Token) (t : Token) (op : BinOp) (a b : RawExpr) → ExprIs Sum room ts a → CompareIs op t →
        ExprIs Sum room us b → ExprIs Comparison room (ts ++ t ∷ us) (roll-RawExpr (RawExpr-F.Chain a ((op, b) ∷ [])))
    matches : (room : ℕ) (ts : List Token) (m t : Token) (a : RawExpr) (s : List ℕ) → ExprIs Sum room ts a → IsMark mark.Matches m →
        IsA (lexeme.String s) t → ExprIs Comparison room (ts ++ m ∷ t ∷ []) (roll-RawExpr (RawExpr-F.Matches a (word s t)))
    is_myself : (room : ℕ) (u o m : Token) → IsKeyword word_is.Uri u → IsMark mark.Equal o → IsKeyword word_is.Myself m →
        ExprIs Comparison room (u ∷ o ∷ m ∷ []) (roll-RawExpr (RawExpr-F.Myself true))
    not_myself : (room : ℕ) (u o m : Token) → IsKeyword word_is.Uri u → IsMark mark.NotEqual o → IsKeyword word_is.Myself m →
        ExprIs Comparison room (u ∷ o ∷ m ∷ []) (roll-RawExpr (RawExpr-F.Myself false))
    -- sum = mul { ("+" | "-") mul }
    one_product : (room : ℕ) (ts : List Token) (e : RawExpr) → ExprIs Product room ts e → ExprIs Sum room ts e
    sum_of : (room : ℕ) (ts us : List Token) (e : RawExpr) (links : List (BinOp × RawExpr)) → ExprIs Product room ts e →
        LinkedAre Product room us links → ExprIs Sum room (ts ++ us) (roll-RawExpr (RawExpr-F.Chain e links))
    -- mul = un { ("*" | "/" | "mod") un }
    one_unary : (room : ℕ) (ts : List Token) (e : RawExpr) → ExprIs Unary room ts e → ExprIs Product room ts e
    product_of : (room : ℕ) (ts us : List Token) (e : RawExpr) (links : List (BinOp × RawExpr)) → ExprIs Unary room ts e →
        LinkedAre Unary room us links → ExprIs Product room (ts ++ us) (roll-RawExpr (RawExpr-F.Chain e links))
    -- un = ("!" | "not" | "-") un | NUMBER | STRING | VAR | call | "(" expr ")"
    not_of : (room : ℕ) (ts : List Token) (t : Token) (e : RawExpr) → IsNot t → ExprIs Unary room ts e →
        ExprIs Unary (suc room) (t ∷ ts) (roll-RawExpr (RawExpr-F.Not e))
    negative_of : (room : ℕ) (ts : List Token) (t : Token) (e : RawExpr) → IsMark mark.Minus t → ExprIs Unary room ts e →
        ExprIs Unary (suc room) (t ∷ ts) (roll-RawExpr (RawExpr-F.Negative e))
    number : (room : ℕ) (t : Token) (n : ℕ) → IsA (lexeme.Number (pos n)) t →
        ExprIs Unary room (t ∷ []) (roll-RawExpr (RawExpr-F.Number (pos n)))
    string : (room : ℕ) (t : Token) (s : List ℕ) → IsA (lexeme.String s) t →
        ExprIs Unary room (t ∷ []) (roll-RawExpr (RawExpr-F.String (word s t)))
    variable : (room : ℕ) (t : Token) (v : Variable) → IsA (lexeme.Variable v) t →
        ExprIs Unary room (t ∷ []) (roll-RawExpr (RawExpr-F.Variable (record { variable = v; at = t.at })))
    code_of : (room : ℕ) (ts : List Token) (c : RawCall) → CallIs ts c → ExprIs Unary room ts (roll-RawExpr (RawExpr-F.Call c))
    bracketed : (room : ℕ) (ts : List Token) (left right : Token) (e : RawExpr) → IsMark mark.OpenRound left → ExprIs Or room ts e →
        IsMark mark.CloseRound right → ExprIs Unary (suc room) (left ∷ ts ++ right ∷ []) e

  -- one or more operands, each after what joins it
  pub data JoinedAre : Level → ℕ → List Token → List RawExpr → Type 0 where
    last_joined : (l : Level) (room : ℕ) (t : Token) (ts : List Token) (e : RawExpr) → JoinIs l t → ExprIs l room ts e →
        JoinedAre l room (t ∷ ts) (e ∷ [])
    more_joined : (l : Level) (room : ℕ) (t : Token) (ts us : List Token) (e : RawExpr) (more : List RawExpr) → JoinIs l t →
        ExprIs l room ts e → JoinedAre l room us more → JoinedAre l room (t ∷ ts ++ us) (e ∷ more)

  pub data LinkedAre : Level → ℕ → List Token → List (BinOp × RawExpr) → Type 0 where
    last_linked : (l : Level) (room : ℕ) (t : Token) (ts : List Token) (op : BinOp) (e : RawExpr) → LinkIs l op t → ExprIs l room ts e →
        LinkedAre l room (t ∷ ts) ((op, e) ∷ [])
    more_linked : (l : Level) (room : ℕ) (t : Token) (ts us : List Token) (op : BinOp) (e : RawExpr) (more : List (BinOp × RawExpr)) →
        LinkIs l op t → ExprIs l room ts e → LinkedAre l room us more → LinkedAre l room (t ∷ ts ++ us) ((op, e) ∷ more)

-- an expression: its depth is 32 at most, so 31 brackets and prefix operators may stand inside one another
abbrev pub IsExpr : List Token → RawExpr → Type 0
IsExpr = ExprIs Or 31

-- ---- statements

-- LABEL = NUMBER | STRING
pub data LabelIs : Token → Val → Type 0 where
  number_label : (t : Token) (n : ℕ) → IsA (lexeme.Number (pos n)) t → LabelIs t (val.Int (pos n))
  string_label : (t : Token) (s : List ℕ) → IsA (lexeme.String s) t → LabelIs t (val.Text s)

-- The tokens derive this statement. So many statements may stand inside one another there, this one among them.
-- `loop`: it stands inside a `while` or a `switch`. `dangles`: it ends with an `if` that has no `else`, so the next `else`
-- belongs to it.
mutual
  pub data StmtIs : (room : ℕ) (loop dangles : Bool) → List Token → RawStmt → Type 0 where
    -- "if" "(" expr ")" stmt [ "else" stmt ]
    if_alone : (room : ℕ) (loop dangles : Bool) (all ts us : List Token) (i o c : Token) (e : RawExpr) (s : RawStmt) →
        all ≡ i ∷ o ∷ ts ++ c ∷ us → IsKeyword word_is.If i → IsMark mark.OpenRound o → IsExpr ts e → IsMark mark.CloseRound c →
        StmtIs room loop dangles us s → StmtIs (suc room) loop true all (roll-RawStmt (RawStmt-F.If (whole all) e s None))
    if_else : (room : ℕ) (loop dangles : Bool) (all ts us vs : List Token) (i o c l : Token) (e : RawExpr) (s other : RawStmt) →
        all ≡ i ∷ o ∷ ts ++ c ∷ us ++ l ∷ vs → IsKeyword word_is.If i → IsMark mark.OpenRound o → IsExpr ts e →
        IsMark mark.CloseRound c → StmtIs room loop false us s → IsKeyword word_is.Else l → StmtIs room loop dangles vs other →
        StmtIs (suc room) loop dangles all (roll-RawStmt (RawStmt-F.If (whole all) e s (Some other)))
    -- "while" "(" expr ")" stmt
    while_true : (room : ℕ) (loop dangles : Bool) (all ts us : List Token) (w o c : Token) (e : RawExpr) (s : RawStmt) →
        all ≡ w ∷ o ∷ ts ++ c ∷ us → IsKeyword word_is.While w → IsMark mark.OpenRound o → IsExpr ts e → IsMark mark.CloseRound c →
        StmtIs room true dangles us s → StmtIs (suc room) loop dangles all (roll-RawStmt (RawStmt-F.While (whole all) e s))
    -- "switch" "(" expr ")" "{" { "case" LABEL ":" { stmt } } [ "default" ":" { stmt } ] "}"
    switch_on : (room : ℕ) (loop : Bool) (all ts us vs : List Token) (w o c b d : Token) (e : RawExpr)
        (cases : List (Val × List RawStmt)) (default : List RawStmt) → all ≡ w ∷ o ∷ ts ++ c ∷ b ∷ us ++ vs ++ d ∷ [] →
        IsKeyword word_is.Switch w → IsMark mark.OpenRound o → IsExpr ts e → IsMark mark.CloseRound c → IsMark mark.OpenCurly b →
        CasesAre room us cases → DefaultIs room vs default → IsMark mark.CloseCurly d →
        StmtIs (suc room) loop false all (roll-RawStmt (RawStmt-F.Switch (whole all) e cases default))
    -- VAR "=" expr ";"
    assigned : (room : ℕ) (loop : Bool) (all ts : List Token) (t a c : Token) (v : Variable) (e : RawExpr) →
        all ≡ t ∷ a ∷ ts ++ c ∷ [] → IsA (lexeme.Variable v) t → IsMark mark.Assign a → IsExpr ts e → IsMark mark.Semicolon c →
        StmtIs (suc room) loop false all (roll-RawStmt (RawStmt-F.Set (whole all) (record { variable = v; at = t.at }) e))
    -- call ";"
    called : (room : ℕ) (loop : Bool) (all ts : List Token) (c : Token) (f : RawCall) → all ≡ ts ++ c ∷ [] → CallIs ts f →
        IsMark mark.Semicolon c → StmtIs (suc room) loop false all (roll-RawStmt (RawStmt-F.Do (whole all) f))
    -- "return" [ expr ] ";"
    return_alone : (room : ℕ) (loop : Bool) (r c : Token) → IsKeyword word_is.Return r → IsMark mark.Semicolon c →
        StmtIs (suc room) loop false (r ∷ c ∷ []) (roll-RawStmt (RawStmt-F.Return (whole (r ∷ c ∷ [])) None))
    return_of : (room : ℕ) (loop : Bool) (all ts : List Token) (r c : Token) (e : RawExpr) → all ≡ r ∷ ts ++ c ∷ [] →
        IsKeyword word_is.Return r → IsExpr ts e → IsMark mark.Semicolon c →
        StmtIs (suc room) loop false all (roll-RawStmt (RawStmt-F.Return (whole all) (Some e)))
    -- "exit" ";" | "drop" ";" | "break" ";"
    exits : (room : ℕ) (loop : Bool) (t c : Token) → IsKeyword word_is.Exit t → IsMark mark.Semicolon c →
        StmtIs (suc room) loop false (t ∷ c ∷ []) (roll-RawStmt (RawStmt-F.Exit (whole (t ∷ c ∷ []))))
    drops : (room : ℕ) (loop : Bool) (t c : Token) → IsKeyword word_is.Drop t → IsMark mark.Semicolon c →
        StmtIs (suc room) loop false (t ∷ c ∷ []) (roll-RawStmt (RawStmt-F.Drop (whole (t ∷ c ∷ []))))
    breaks : (room : ℕ) (t c : Token) → IsKeyword word_is.Break t → IsMark mark.Semicolon c →
        StmtIs (suc room) true false (t ∷ c ∷ []) (roll-RawStmt (RawStmt-F.Break (whole (t ∷ c ∷ []))))
    -- "{" { stmt } "}" | ";"
    group_of : (room : ℕ) (loop : Bool) (all ts : List Token) (b d : Token) (ss : List RawStmt) → all ≡ b ∷ ts ++ d ∷ [] →
        IsMark mark.OpenCurly b → StmtsAre room loop ts ss → IsMark mark.CloseCurly d →
        StmtIs (suc room) loop false all (roll-RawStmt (RawStmt-F.Group (whole all) ss))
    empty : (room : ℕ) (loop : Bool) (c : Token) → IsMark mark.Semicolon c →
        StmtIs (suc room) loop false (c ∷ []) (roll-RawStmt (RawStmt-F.Empty (whole (c ∷ []))))

  -- { stmt }
  pub data StmtsAre : (room : ℕ) (loop : Bool) → List Token → List RawStmt → Type 0 where
    no_stmt : (room : ℕ) (loop : Bool) → StmtsAre room loop [] []
    one_more : (room : ℕ) (loop dangles : Bool) (ts us : List Token) (s : RawStmt) (more : List RawStmt) → StmtIs room loop dangles ts s →
        StmtsAre room loop us more → StmtsAre room loop (ts ++ us) (s ∷ more)

  -- { "case" LABEL ":" { stmt } }
  pub data CasesAre : (room : ℕ) → List Token → List (Val × List RawStmt) → Type 0 where
    no_case : (room : ℕ) → CasesAre room [] []
    one_case : (room : ℕ) (ts us : List Token) (k t c : Token) (label : Val) (ss : List RawStmt) (more : List (Val × List RawStmt)) →
        IsKeyword word_is.Case k → LabelIs t label → IsMark mark.Colon c → StmtsAre room true ts ss → CasesAre room us more →
        CasesAre room (k ∷ t ∷ c ∷ ts ++ us) ((label, ss) ∷ more)

  -- [ "default" ":" { stmt } ]
  pub data DefaultIs : (room : ℕ) → List Token → List RawStmt → Type 0 where
    no_default : (room : ℕ) → DefaultIs room [] []
    default_of : (room : ℕ) (ts : List Token) (k c : Token) (ss : List RawStmt) → IsKeyword word_is.Default k → IsMark mark.Colon c →
        StmtsAre room true ts ss → DefaultIs room (k ∷ c ∷ ts) ss

-- ---- the script

-- [";"]
pub data EndIs : List Token → Type 0 where
  no_end : EndIs []
  with_end : (t : Token) → IsMark mark.Semicolon t → EndIs (t ∷ [])

-- NUMBER | STRING | NAME | LISTEN
pub data SettingIs : Token → Setting → Type 0 where
  number_set : (t : Token) (n : ℕ) → IsA (lexeme.Number (pos n)) t → SettingIs t (setting.Number (pos n))
  string_set : (t : Token) (s : List ℕ) → IsA (lexeme.String s) t → SettingIs t (setting.String s)
  name_set : (t : Token) (s : List ℕ) → IsA (lexeme.Name s) t → SettingIs t (setting.Name s)
  listen_set : (t : Token) (l : Listen) → IsA (lexeme.Listen l) t → SettingIs t (setting.Listen l)

-- STRING | NUMBER
pub data ValueIs : Token → Setting → Type 0 where
  number_value : (t : Token) (n : ℕ) → IsA (lexeme.Number (pos n)) t → ValueIs t (setting.Number (pos n))
  string_value : (t : Token) (s : List ℕ) → IsA (lexeme.String s) t → ValueIs t (setting.String s)

-- the words that begin a block without a name, and with one
pub data KindIs : Token → RouteKind → Type 0 where
  request_word : (t : Token) → IsA (lexeme.Name (codes "request_route")) t → KindIs t (Begins Request)
  route_word : (t : Token) → IsKeyword word_is.Route t → KindIs t (Begins Request)
  reply_word : (t : Token) → IsA (lexeme.Name (codes "reply_route")) t → KindIs t (Begins Reply)
  onreply_word : (t : Token) → IsA (lexeme.Name (codes "onreply_route")) t → KindIs t (Begins Reply)

pub data NamedKindIs : Token → RouteKind → Type 0 where
  named_route : (t : Token) → IsKeyword word_is.Route t → NamedKindIs t Route
  named_branch : (t : Token) → IsA (lexeme.Name (codes "branch_route")) t → NamedKindIs t (Begins Branch)
  named_failure : (t : Token) → IsA (lexeme.Name (codes "failure_route")) t → NamedKindIs t (Begins Failure)
  named_onreply : (t : Token) → IsA (lexeme.Name (codes "onreply_route")) t → NamedKindIs t (Begins Reply)
  named_event : (t : Token) → IsA (lexeme.Name (codes "event_route")) t → NamedKindIs t (Begins Event)

-- KIND [ "[" BNAME "]" ]
pub data HeadIs : List Token → RouteKind → Option Word → Place → Type 0 where
  unnamed : (t : Token) (kind : RouteKind) → KindIs t kind → HeadIs (t ∷ []) kind None t.at
  named : (t left b right : Token) (kind : RouteKind) (name : List ℕ) → NamedKindIs t kind → IsMark mark.OpenSquare left →
      IsA (lexeme.BlockName name) b → IsMark mark.CloseSquare right → HeadIs (t ∷ left ∷ b ∷ right ∷ []) kind (Some (word name b)) t.at

pub data ItemIs : List Token → RawItem → Type 0 where
  -- NAME "=" ( NUMBER | STRING | NAME | LISTEN ) [";"]
  parameter : (n a v : Token) (end : List Token) (name : List ℕ) (value : Setting) → IsA (lexeme.Name name) n →
      IsMark mark.Assign a → SettingIs v value → EndIs end → ItemIs (n ∷ a ∷ v ∷ end) (item.Parameter (word name n) value)
  -- "loadmodule" STRING [";"]
  module_of : (k t : Token) (end : List Token) (s : List ℕ) → IsKeyword word_is.Loadmodule k → IsA (lexeme.String s) t → EndIs end →
      ItemIs (k ∷ t ∷ end) (item.Module (word s t))
  -- "modparam" "(" STRING "," STRING "," ( STRING | NUMBER ) ")" [";"]
  module_parameter : (k o m c n d v e : Token) (end : List Token) (of name : List ℕ) (value : Setting) →
      IsKeyword word_is.Modparam k → IsMark mark.OpenRound o → IsA (lexeme.String of) m → IsMark mark.Comma c →
      IsA (lexeme.String name) n → IsMark mark.Comma d → ValueIs v value → IsMark mark.CloseRound e → EndIs end →
      ItemIs (k ∷ o ∷ m ∷ c ∷ n ∷ d ∷ v ∷ e ∷ end) (item.ModuleParameter (word of m) (word name n) value)
  -- KIND [ "[" BNAME "]" ] "{" { stmt } "}"; statements of depth 64 at most
  block : (all hs ts : List Token) (b d : Token) (kind : RouteKind) (name : Option Word) (at : Place) (ss : List RawStmt) →
      all ≡ hs ++ b ∷ ts ++ d ∷ [] → HeadIs hs kind name at → IsMark mark.OpenCurly b → StmtsAre 64 false ts ss →
      IsMark mark.CloseCurly d → ItemIs all (item.Block (record {
        kind = kind;
        name = name;
        kind_at = at;
        at = whole all;
        body = ss;
      }))

-- script = { param | load | modparam | block }
pub data Derives : List Token → List RawItem → Type 0 where
  nothing : Derives [] []
  one_item : (ts us : List Token) (i : RawItem) (more : List RawItem) → ItemIs ts i → Derives us more → Derives (ts ++ us) (i ∷ more)
