-- Why a tree is refused, kind by kind, each in words of its own.
use Rattle.std.specs.Prelude.{◌≡◌, ◌⊎◌, ℕ, false, List, [], ◌∷◌, ◌++◌, map, Contains, Option, Some, None, codes}
use Rattle.std.specs.List.{flat_map}
use Rattle.pv_values.specs.Matching.{is_pattern}
use Rattle.pv_values.specs.declared.block.BlockKind.TheVariants.{Request, Branch, Failure, Reply}
use Rattle.pv_values.specs.declared.refusal.Place.{Place}
use Rattle.sip_words.specs.ByteNames.{SLASH}
use Rattle.cfg_tree.specs.declared.raw.Word.{Word}
use Rattle.cfg_tree.specs.declared.raw.RawVariable.{RawVariable}
use Rattle.cfg_tree.specs.declared.raw.RawArg.{RawArg}
use Rattle.cfg_tree.specs.declared.raw.RawArg.TheVariants as arg
use Rattle.cfg_tree.specs.declared.raw.RawCall.{RawCall}
use Rattle.cfg_tree.specs.declared.raw.RawCall.TheVariants as call
use Rattle.cfg_tree.specs.declared.raw.RawExpr.{RawExpr}
use Rattle.cfg_tree.specs.declared.raw.RawExpr.TheOpen.{RawExpr-F}
use Rattle.cfg_tree.specs.declared.raw.RawExpr.TheFolds.{fold-RawExpr}
use Rattle.cfg_tree.specs.declared.raw.RawStmt.{RawStmt}
use Rattle.cfg_tree.specs.declared.raw.RawStmt.TheOpen.{RawStmt-F}
use Rattle.cfg_tree.specs.declared.raw.RawStmt.TheFolds.{fold-RawStmt}
use Rattle.cfg_tree.specs.declared.raw.RouteKind.{RouteKind}
use Rattle.cfg_tree.specs.declared.raw.RouteKind.TheVariants.{Route, Begins}
use Rattle.cfg_tree.specs.declared.raw.RawBlock.{RawBlock}
use Rattle.cfg_tree.specs.declared.raw.RawItem.TheVariants as item
use Rattle.cfg_tree.specs.declared.raw.RawScript.{RawScript}
use Rattle.cfg_tree.specs.declared.refusal_kind.RefusalKind.{RefusalKind}
use Rattle.cfg_tree.specs.Names.{table_and_key}
use Rattle.cfg_tree.specs.Refusals.{refusal}
use Rattle.cfg_tree.specs.Settings.{module_names}
use Rattle.cfg_tree.specs.Checks.{blocks_of, name_text, name_place, refusals_of}

-- each holds where the other does
abbrev pub Exactly : Type 0 → Type 0 → Type 0
Exactly A B = (A → B) × (B → A)

-- the tree is refused with this kind at this place: it is one of its refusals
abbrev pub IsListed : RawScript → RefusalKind → Place → Type 0
IsListed raw kind at = Contains (refusals_of raw) (refusal kind at)

-- ---- what stands in a tree

-- what is judged by itself: a call, a variable that is read, a string after `=~`, and a variable that is assigned
pub data Leaf : Type 0 where
  Calls : RawCall → Leaf
  Reads : RawVariable → Leaf
  Matches : Word → Leaf
  Assigns : RawVariable → Leaf

abbrev pub joined : List (List Leaf) → List Leaf
joined = flat_map (λ ls. ls)

abbrev pub expr_leaves_step : RawExpr-F (List Leaf) → List Leaf
expr_leaves_step (RawExpr-F.Number n) = []
expr_leaves_step (RawExpr-F.String w) = []
expr_leaves_step (RawExpr-F.Variable v) = Reads v ∷ []
expr_leaves_step (RawExpr-F.Call c) = Calls c ∷ []
expr_leaves_step (RawExpr-F.Not a) = a
expr_leaves_step (RawExpr-F.Negative a) = a
expr_leaves_step (RawExpr-F.Chain a links) = a ++ joined (map (λ l. l.1) links)
expr_leaves_step (RawExpr-F.Matches a w) = a ++ Matches w ∷ []
expr_leaves_step (RawExpr-F.All ms) = joined ms
expr_leaves_step (RawExpr-F.Any ms) = joined ms
expr_leaves_step (RawExpr-F.Myself is) = []

-- what stands in an expression
abbrev pub expr_leaves : RawExpr → List Leaf
expr_leaves = fold-RawExpr (List Leaf) expr_leaves_step

abbrev pub maybe_leaves : Option RawExpr → List Leaf
maybe_leaves None = []
maybe_leaves (Some e) = expr_leaves e

abbrev pub other_leaves : Option (List Leaf) → List Leaf
other_leaves None = []
other_leaves (Some ls) = ls

abbrev pub stmt_leaves_step : RawStmt-F (List Leaf) → List Leaf
stmt_leaves_step (RawStmt-F.If at e s other) = (expr_leaves e ++ s) ++ other_leaves other
stmt_leaves_step (RawStmt-F.While at e s) = expr_leaves e ++ s
stmt_leaves_step (RawStmt-F.Switch at e cases default) = (expr_leaves e ++ joined (map (λ c. joined c.1) cases)) ++ joined default
stmt_leaves_step (RawStmt-F.Set at v e) = (Assigns v ∷ []) ++ expr_leaves e
stmt_leaves_step (RawStmt-F.Do at c) = Calls c ∷ []
stmt_leaves_step (RawStmt-F.Return at e) = maybe_leaves e
stmt_leaves_step (RawStmt-F.Exit at) = []
stmt_leaves_step (RawStmt-F.Drop at) = []
stmt_leaves_step (RawStmt-F.Break at) = []
stmt_leaves_step (RawStmt-F.Group at ss) = joined ss
stmt_leaves_step (RawStmt-F.Empty at) = []

-- what stands in a statement
abbrev pub stmt_leaves : RawStmt → List Leaf
stmt_leaves = fold-RawStmt (List Leaf) stmt_leaves_step

abbrev pub body_leaves : RawBlock → List Leaf
body_leaves b = joined (map stmt_leaves b.body)

-- it stands in a block of this kind
pub record Stands (raw : RawScript) (kind : RouteKind) (leaf : Leaf) : Type 0 where
  pub block : RawBlock
  pub is_there : Contains (blocks_of raw.items) block
  pub kind_is : block.kind ≡ kind
  pub is_in_it : Contains (body_leaves block) leaf

-- ---- 4: a route that isn't there

-- a block of this kind and name is there
pub record HasBlock (raw : RawScript) (kind : RouteKind) (name : List ℕ) : Type 0 where
  pub block : RawBlock
  pub is_there : Contains (blocks_of raw.items) block
  pub kind_is : block.kind ≡ kind
  pub name_is : name_text block.name ≡ Some name

-- a call names a block of this kind by this word: `route`, `t_on_branch`, `t_on_failure`, `t_on_reply` and `t_continue` do
pub data NamesRoute : RawCall → RouteKind → Word → Type 0 where
  by_route : (w : Word) → NamesRoute (call.Route w) Route w
  on_branch : (f w : Word) → f.text ≡ codes "t_on_branch" → NamesRoute (call.Function f (arg.String w ∷ [])) (Begins Branch) w
  on_failure : (f w : Word) → f.text ≡ codes "t_on_failure" → NamesRoute (call.Function f (arg.String w ∷ [])) (Begins Failure) w
  on_reply : (f w : Word) → f.text ≡ codes "t_on_reply" → NamesRoute (call.Function f (arg.String w ∷ [])) (Begins Reply) w
  continues : (f w : Word) (index label : RawArg) → f.text ≡ codes "t_continue" →
      NamesRoute (call.Function f (index ∷ label ∷ arg.String w ∷ [])) Route w

-- a call there names a block that isn't there
pub record NamesNoBlock (raw : RawScript) (at : Place) : Type 0 where
  pub kind : RouteKind
  pub call : RawCall
  pub stands : Stands raw kind (Calls call)
  pub named : RouteKind
  pub word : Word
  pub names : NamesRoute call named word
  pub place : at ≡ word.at
  pub missing : HasBlock raw named word.text → ⊥

-- ---- 5: a second block of one kind and name

pub record IsSecond (raw : RawScript) (at : Place) : Type 0 where
  pub before : List RawBlock
  pub block : RawBlock
  pub behind : List RawBlock
  pub order : blocks_of raw.items ≡ before ++ block ∷ behind
  pub first : RawBlock
  pub is_before : Contains before first
  pub one_kind : first.kind ≡ block.kind
  pub one_name : name_text first.name ≡ name_text block.name
  pub place : at ≡ name_place block.kind_at block.name

-- ---- 12: a text that is no pattern

-- a call takes this text, which stands there, as a pattern
pub data TakesPattern : RawCall → Place → List ℕ → Type 0 where
  of_status : (f w : Word) → f.text ≡ codes "t_check_status" → TakesPattern (call.Function f (arg.String w ∷ [])) w.at w.text
  of_keys : (f w : Word) (table pattern : List ℕ) → f.text ≡ codes "sht_rm_name_re" → table_and_key w.text ≡ Some (table, pattern) →
      TakesPattern (call.Function f (arg.String w ∷ [])) w.at pattern

-- the leaf has a pattern there: after `=~`, or in a call
pub data HasPattern : Leaf → Place → List ℕ → Type 0 where
  compared : (w : Word) → HasPattern (Matches w) w.at w.text
  taken : (c : RawCall) (at : Place) (source : List ℕ) → TakesPattern c at source → HasPattern (Calls c) at source

-- a pattern that stands there is none of `regex`
pub record IsNoPattern (raw : RawScript) (at : Place) : Type 0 where
  pub kind : RouteKind
  pub leaf : Leaf
  pub stands : Stands raw kind leaf
  pub source : List ℕ
  pub has : HasPattern leaf at source
  pub bad : is_pattern source ≡ false

-- ---- 14: no request route

-- no block is a request route, and the place is the text's end
pub record LacksRequest (raw : RawScript) (at : Place) : Type 0 where
  pub lacks : (b : RawBlock) → Contains (blocks_of raw.items) b → b.kind ≡ Begins Request → b.name ≡ None → ⊥
  pub place : at ≡ record { from = raw.end; to = raw.end }

-- ---- 15: another module

-- nothing, or a folder with the slash behind it
abbrev pub EndsFolder : List ℕ → Type 0
EndsFolder path = (path ≡ []) ⊎ ((folder : List ℕ) × (path ≡ folder ++ SLASH ∷ []))

-- the name of a module, with or without a path and `.so`
pub record IsModule (text : List ℕ) : Type 0 where
  pub path : List ℕ
  pub name : List ℕ
  pub ending : List ℕ
  pub whole : text ≡ path ++ name ++ ending
  pub path_is : EndsFolder path
  pub name_is : Contains module_names name
  pub ending_is : (ending ≡ []) ⊎ (ending ≡ codes ".so")

-- a module is loaded that is none of those that are known
pub record LoadsAnother (raw : RawScript) (at : Place) : Type 0 where
  pub word : Word
  pub is_loaded : Contains raw.items (item.Module word)
  pub another : IsModule word.text → ⊥
  pub place : at ≡ word.at
