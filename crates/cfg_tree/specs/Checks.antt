-- The checks of a tree: what is refused, which refusal is the first, and which script is accepted.
use Rattle.std.specs.Prelude.{◌≡◌, ◌⊎◌, ℕ, ◌+◌, Bool, true, false, nat_le, List, [], ◌∷◌, ◌++◌, map, length, position, Option, Some, None, option_map, if◌then◌else◌}
use Rattle.std.specs.List.{list_any, flat_map}
use Rattle.pv_values.specs.Kinds.{is_written_in}
use Rattle.pv_values.specs.declared.block.BlockKind.{BlockKind}
use Rattle.pv_values.specs.declared.block.BlockKind.TheVariants.{Request, Branch, Failure, Reply, Event}
use Rattle.pv_values.specs.declared.refusal.Place.{Place}
use Rattle.pv_values.specs.declared.variable.PvUse.{PvUse}
use Rattle.pv_values.specs.declared.variable.PvUse.TheVariants.{Myself}
use Rattle.cfg_tree.specs.declared.token.Token.{Token}
use Rattle.cfg_tree.specs.declared.raw.Word.{Word}
use Rattle.cfg_tree.specs.declared.raw.RawVariable.{RawVariable}
use Rattle.cfg_tree.specs.declared.raw.RawCall.{RawCall}
use Rattle.cfg_tree.specs.declared.raw.RawCall.TheVariants as call
use Rattle.cfg_tree.specs.declared.raw.RawExpr.{RawExpr}
use Rattle.cfg_tree.specs.declared.raw.RawExpr.TheOpen.{RawExpr-F}
use Rattle.cfg_tree.specs.declared.raw.RawExpr.TheFolds.{fold-RawExpr}
use Rattle.cfg_tree.specs.declared.raw.RawStmt.{RawStmt}
use Rattle.cfg_tree.specs.declared.raw.RawStmt.TheOpen.{RawStmt-F}
use Rattle.cfg_tree.specs.declared.raw.RawStmt.TheFolds.{fold-RawStmt}
use Rattle.cfg_tree.specs.declared.raw.RouteKind.{RouteKind}
use Rattle.cfg_tree.specs.declared.raw.RouteKind.TheVariants.{Route, Begins}
use Rattle.cfg_tree.specs.declared.raw.RawBlock.{RawBlock}
use Rattle.cfg_tree.specs.declared.raw.RawItem.{RawItem}
use Rattle.cfg_tree.specs.declared.raw.RawItem.TheVariants as item
use Rattle.cfg_tree.specs.declared.raw.RawScript.{RawScript}
use Rattle.cfg_tree.specs.declared.script.Part.TheOpen.{Part-F}
use Rattle.cfg_tree.specs.declared.script.Part.TheViews.{roll-Part}
use Rattle.cfg_tree.specs.declared.script.Expr.{Expr}
use Rattle.cfg_tree.specs.declared.script.Expr.TheOpen.{Expr-F}
use Rattle.cfg_tree.specs.declared.script.Expr.TheViews.{roll-Expr}
use Rattle.cfg_tree.specs.declared.script.Target.{Target}
use Rattle.cfg_tree.specs.declared.script.Target.TheVariants as target
use Rattle.cfg_tree.specs.declared.script.Stmt.{Stmt}
use Rattle.cfg_tree.specs.declared.script.Stmt.TheOpen.{Stmt-F}
use Rattle.cfg_tree.specs.declared.script.Stmt.TheViews.{roll-Stmt}
use Rattle.cfg_tree.specs.declared.script.Script.{Script}
use Rattle.cfg_tree.specs.Grammar.{Derives}
use Rattle.cfg_tree.specs.Meaning.{item_of}
use Rattle.cfg_tree.specs.Names.{Known, Layer, layer_of, part_of}
use Rattle.cfg_tree.specs.Functions.{function_call, block_number, pattern_number, is_same_block}
use Rattle.cfg_tree.specs.Settings.{settings_of, setting_refusals, parameters_of}
use Rattle.cfg_tree.specs.Refusals.{Refusal, refusal, Seen, Outcome, Checked, accepted, one, both, three, each, unless, IsFirst}
use Rattle.cfg_tree.specs.declared.refusal_kind.RefusalKind.{RefusalKind}
use Rattle.cfg_tree.specs.declared.refusal_kind.RefusalKind.TheVariants.{Syntax, RouteTwice, NotWritable, TooLarge, NoRequestRoute}
use Rattle.cfg_tree.specs.RefusalKinds.{refusal_number}

-- ---- expressions

abbrev pub call_in : Known → RouteKind → RawCall → Checked Expr
call_in known kind (call.Function w args) = one (λ f. roll-Expr (Expr-F.Call f.0 f.1)) (function_call known kind w args)
call_in known kind (call.Route w) = one (λ b. roll-Expr (Expr-F.Route b)) (block_number known Route w)

-- `uri == myself` reads 1 or 0, and `uri != myself` is its opposite
abbrev pub myself : Bool → Expr
myself true = roll-Expr (Expr-F.Read (roll-Part (Part-F.Host Myself)))
myself false = roll-Expr (Expr-F.Not (roll-Expr (Expr-F.Read (roll-Part (Part-F.Host Myself)))))

abbrev pub expr_step : Known → RouteKind → RawExpr-F (Checked Expr) → Checked Expr
expr_step known kind (RawExpr-F.Number n) = accepted (roll-Expr (Expr-F.Int n))
expr_step known kind (RawExpr-F.String w) = accepted (roll-Expr (Expr-F.Text w.text))
expr_step known kind (RawExpr-F.Variable v) = one (λ p. roll-Expr (Expr-F.Read p)) (part_of known v.at v.variable)
expr_step known kind (RawExpr-F.Call c) = call_in known kind c
expr_step known kind (RawExpr-F.Not a) = one (λ e. roll-Expr (Expr-F.Not e)) a
expr_step known kind (RawExpr-F.Negative a) = one (λ e. roll-Expr (Expr-F.Negative e)) a
expr_step known kind (RawExpr-F.Chain a links) =
    both (λ e ls. roll-Expr (Expr-F.Chain e ls)) a (each (map (λ l. one (λ e. (l.0, e)) l.1) links))
expr_step known kind (RawExpr-F.Matches a w) = both (λ e p. roll-Expr (Expr-F.Matches e p)) a (pattern_number w.at w.text)
expr_step known kind (RawExpr-F.All ms) = one (λ es. roll-Expr (Expr-F.All es)) (each ms)
expr_step known kind (RawExpr-F.Any ms) = one (λ es. roll-Expr (Expr-F.Any es)) (each ms)
expr_step known kind (RawExpr-F.Myself is) = accepted (myself is)

abbrev pub expr_in : Known → RouteKind → RawExpr → Checked Expr
expr_in known kind = fold-RawExpr (Checked Expr) (expr_step known kind)

-- ---- statements

-- a block of this kind may assign the variable; in `route[NAME]` it is enough that some kind may
abbrev pub may_write : RouteKind → PvUse → Bool
may_write Route x = list_any (is_written_in x) (Request ∷ Branch ∷ Failure ∷ Reply ∷ Event ∷ [])
may_write (Begins kind) x = is_written_in x kind

-- what an assignment to a variable writes
abbrev pub target_in : RouteKind → Layer → Option Target
target_in kind (Part-F.Text t) = None
target_in kind (Part-F.Var x) = Some (target.Var x)
target_in kind Part-F.Code = None
target_in kind (Part-F.Host x) = if may_write kind x then Some (target.Host x) else None
target_in kind (Part-F.Item way t key) = if may_write kind (item_of way t []) then Some (target.Item way t key) else None
target_in kind (Part-F.Transformed tr p) = None

-- a value in which something is found, and else a refusal
abbrev pub found_as : {B : Type 0} → RefusalKind → Place → List Refusal → Seen → Option B → Outcome B
found_as kind at rs s None = record { refusals = rs ++ refusal kind at ∷ []; seen = s; value = None }
found_as kind at rs s (Some b) = record { refusals = rs; seen = s; value = Some b }

abbrev pub found : {A B : Type 0} → RefusalKind → Place → (A → Option B) → List Refusal → Seen → Option A → Outcome B
found kind at f rs s None = record { refusals = rs; seen = s; value = None }
found kind at f rs s (Some a) = found_as kind at rs s (f a)

abbrev pub target_of : Known → RouteKind → RawVariable → Checked Target
target_of known kind v seen =
    let read = layer_of known v.at v.variable seen in
    found NotWritable v.at (target_in kind) read.refusals read.seen read.value

-- statements are counted as they begin, and there are 50,000 at most
abbrev pub numbered : Place → Checked (List Stmt) → Checked (List Stmt)
numbered at m seen =
    unless (if nat_le 50000 seen.statements then Some (refusal TooLarge at) else None) m
    (record seen { statements = seen.statements + 1 })

abbrev pub flat : List (List Stmt) → List Stmt
flat = flat_map (λ ss. ss)

abbrev pub all_in : List (Checked (List Stmt)) → Checked (List Stmt)
all_in ms = one flat (each ms)

abbrev pub maybe : Option (Checked (List Stmt)) → Checked (List Stmt)
maybe None = accepted []
maybe (Some m) = m

abbrev pub maybe_expr : Known → RouteKind → Option RawExpr → Checked (Option Expr)
maybe_expr known kind None = accepted None
maybe_expr known kind (Some e) = one Some (expr_in known kind e)

-- a statement as the statements that it stands for: braces leave what they hold, and `;` leaves nothing
abbrev pub stmt_step : Known → RouteKind → RawStmt-F (Checked (List Stmt)) → Checked (List Stmt)
stmt_step known kind (RawStmt-F.If at e s other) = numbered at (
    three (λ e first second. roll-Stmt (Stmt-F.If e first second) ∷ []) (expr_in known kind e) s (maybe other))
stmt_step known kind (RawStmt-F.While at e s) = numbered at (both (λ e body. roll-Stmt (Stmt-F.While e body) ∷ []) (expr_in known kind e) s)
stmt_step known kind (RawStmt-F.Switch at e cases default) = numbered at (
    three (λ e cs last. roll-Stmt (Stmt-F.Switch e cs last) ∷ []) (expr_in known kind e)
    (each (map (λ c. one (λ ss. (c.0, ss)) (all_in c.1)) cases)) (all_in default))
stmt_step known kind (RawStmt-F.Set at v e) = numbered at (
    both (λ t e. roll-Stmt (Stmt-F.Set t e) ∷ []) (target_of known kind v) (expr_in known kind e))
stmt_step known kind (RawStmt-F.Do at c) = numbered at (one (λ e. roll-Stmt (Stmt-F.Do e) ∷ []) (call_in known kind c))
stmt_step known kind (RawStmt-F.Return at e) = numbered at (one (λ e. roll-Stmt (Stmt-F.Return e) ∷ []) (maybe_expr known kind e))
stmt_step known kind (RawStmt-F.Exit at) = numbered at (accepted (roll-Stmt Stmt-F.Exit ∷ []))
stmt_step known kind (RawStmt-F.Drop at) = numbered at (accepted (roll-Stmt Stmt-F.Drop ∷ []))
stmt_step known kind (RawStmt-F.Break at) = numbered at (accepted (roll-Stmt Stmt-F.Break ∷ []))
stmt_step known kind (RawStmt-F.Group at ss) = numbered at (all_in ss)
stmt_step known kind (RawStmt-F.Empty at) = numbered at (accepted [])

abbrev pub stmt_in : Known → RouteKind → RawStmt → Checked (List Stmt)
stmt_in known kind = fold-RawStmt (Checked (List Stmt)) (stmt_step known kind)

-- ---- blocks

abbrev pub block_of : RawItem → List RawBlock
block_of (item.Block b) = b ∷ []
block_of (item.Parameter w value) = []
block_of (item.Module w) = []
block_of (item.ModuleParameter of w value) = []

abbrev pub blocks_of : List RawItem → List RawBlock
blocks_of = flat_map block_of

abbrev pub name_text : Option Word → Option (List ℕ)
name_text = option_map (λ w. w.text)

abbrev pub block_name : RawBlock → RouteKind × Option (List ℕ)
block_name b = (b.kind, name_text b.name)

-- a block's name, or the word that begins it
abbrev pub name_place : Place → Option Word → Place
name_place at None = at
name_place at (Some w) = w.at

-- a second block of one kind and name
abbrev pub twice : List (RouteKind × Option (List ℕ)) → RawBlock → List Refusal
twice earlier b =
    if list_any (is_same_block (block_name b)) earlier then refusal RouteTwice (name_place b.kind_at b.name) ∷ [] else []

-- the 1,001st block
abbrev pub too_many : ℕ → RawBlock → List Refusal
too_many number b = if nat_le 1000 number then refusal TooLarge b.at ∷ [] else []

abbrev pub block_refusals : List (RouteKind × Option (List ℕ)) → List RawBlock → List Refusal
block_refusals earlier [] = []
block_refusals earlier (b ∷ more) =
    twice earlier b ++ too_many (length earlier) b ++ block_refusals (earlier ++ block_name b ∷ []) more

abbrev pub body_in : Known → RawBlock → Checked (List Stmt)
body_in known b = all_in (map (stmt_in known b.kind) b.body)

abbrev pub bodies_in : Known → List RawBlock → Checked (List (List Stmt))
bodies_in known bs = each (map (body_in known) bs)

-- ---- the script

abbrev pub known_of : RawScript → Known
known_of raw = record {
  blocks = map block_name (blocks_of raw.items);
  tables = map (λ t. t.0) (settings_of raw.items).tables;
}

abbrev pub nothing_seen : Seen
nothing_seen = record { statements = 0; patterns = []; vars = [] }

-- the bodies of its blocks
unfoldable pub bodies_of : RawScript → Outcome (List (List Stmt))
bodies_of raw = bodies_in (known_of raw) (blocks_of raw.items) nothing_seen

-- the number of the block of this kind without a name
abbrev pub unnamed : BlockKind → RawScript → Option ℕ
unnamed kind raw = position (is_same_block (Begins kind, None)) (known_of raw).blocks

abbrev pub no_request : RawScript → Option ℕ → List Refusal
no_request raw None = refusal NoRequestRoute (record { from = raw.end; to = raw.end }) ∷ []
no_request raw (Some n) = []

-- every refusal of a tree
unfoldable pub refusals_of : RawScript → List Refusal
refusals_of raw = setting_refusals raw.items ++ block_refusals [] (blocks_of raw.items) ++ (bodies_of raw).refusals
    ++ no_request raw (unnamed Request raw)

abbrev pub script_with : RawScript → Option (List (List Stmt)) → Option ℕ → Option Script
script_with raw None request = None
script_with raw (Some bodies) None = None
script_with raw (Some bodies) (Some request) = Some (record {
  blocks = bodies;
  request = request;
  reply = unnamed Reply raw;
  vars = length (bodies_of raw).seen.vars;
  patterns = (bodies_of raw).seen.patterns;
  tables = map (λ t. t.1) (settings_of raw.items).tables;
  parameters = parameters_of (settings_of raw.items);
})

-- the script that a tree stands for
unfoldable pub script_of : RawScript → Option Script
script_of raw = script_with raw (bodies_of raw).value (unnamed Request raw)

-- the tree is accepted as this script: no check refuses it
pub record IsAccepted (raw : RawScript) (script : Script) : Type 0 where
  pub unrefused : refusals_of raw ≡ []
  pub stands_for : script_of raw ≡ Some script

-- this is the first refusal of the tree
abbrev pub IsRefused : RawScript → ℕ → Place → Type 0
IsRefused raw kind at = IsFirst (refusals_of raw) (record { kind = kind; at = at })

-- ---- from tokens

-- the tree of the tokens of a text of this length
pub record IsTreeOf (tokens : List Token) (end : ℕ) (raw : RawScript) : Type 0 where
  pub derived : Derives tokens raw.items
  pub end_is : raw.end ≡ end

-- the tokens are accepted as this script
abbrev pub Accepted : List Token → ℕ → Script → Type 0
Accepted tokens end script = (raw : RawScript) × IsTreeOf tokens end raw × IsAccepted raw script

-- the grammar derives no tree from the tokens, which is Syntax; or else this is the first refusal of the tree
abbrev pub IsUnderivable : List Token → ℕ → Type 0
IsUnderivable tokens end = (raw : RawScript) → ¬ (IsTreeOf tokens end raw)

abbrev pub Refused : List Token → ℕ → ℕ → Place → Type 0
Refused tokens end kind at =
    ((kind ≡ refusal_number Syntax) × IsUnderivable tokens end) ⊎ ((raw : RawScript) × IsTreeOf tokens end raw × IsRefused raw kind at)
