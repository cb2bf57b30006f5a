-- The parameters and modules of a script.
use Rattle.std.specs.Prelude.{ℕ, ℤ, ◌+◌, ◌==◌, Bool, true, ◌&&◌, ◌||◌, nat_le, List, [], ◌∷◌, ◌++◌, length, take, drop, reverse, Option, Some, None, option_map, unwrap_or, if◌then◌else◌, codes}
use Rattle.std.specs.List.{list_any}
use Rattle.std.specs.Str.{bytes_eq}
use Rattle.pv_values.specs.Numbers.{number_in}
use Rattle.pv_values.specs.declared.table.TableSpec.{TableSpec}
use Rattle.cfg_tree.specs.declared.setting.Listen.{Listen}
use Rattle.cfg_tree.specs.declared.setting.Parameters.{Parameters}
use Rattle.cfg_tree.specs.declared.raw.Word.{Word}
use Rattle.cfg_tree.specs.declared.raw.Setting.{Setting}
use Rattle.cfg_tree.specs.declared.raw.Setting.TheVariants as setting
use Rattle.cfg_tree.specs.declared.raw.RawItem.{RawItem}
use Rattle.cfg_tree.specs.declared.raw.RawItem.TheVariants as item
use Rattle.cfg_tree.specs.Variables.{before, begins_with, is_name}
use Rattle.cfg_tree.specs.Names.{table_and_key}
use Rattle.cfg_tree.specs.Functions.{between, not_below_0}
use Rattle.cfg_tree.specs.Refusals.{Refusal, refusal}
use Rattle.cfg_tree.specs.declared.refusal_kind.RefusalKind.TheVariants.{BadParameter, TooLarge, UnknownModule}
use Rattle.sip_words.specs.ByteNames.{SEMI, EQUAL, SLASH}

-- what is set so far
pub record Settings : Type 0 where
  pub listen : Option Listen
  pub aliases : List (List ℕ)
  pub max_while_loops : Option ℕ
  pub max_recursive_level : Option ℕ
  pub fr_timer : Option ℕ
  pub fr_inv_timer : Option ℕ
  pub tables : List (List ℕ × TableSpec)

abbrev pub unset : Settings
unset = record {
  listen = None;
  aliases = [];
  max_while_loops = None;
  max_recursive_level = None;
  fr_timer = None;
  fr_inv_timer = None;
  tables = [];
}

-- a value where none was given before
abbrev pub first_time : {A : Type 0} → Option A → Option A → Option A
first_time None new = new
first_time (Some old) new = None

abbrev pub listen_in : Setting → Option Listen
listen_in (setting.Listen l) = Some l
listen_in (setting.Number n) = None
listen_in (setting.String s) = None
listen_in (setting.Name s) = None

abbrev pub string_in : Setting → Option (List ℕ)
string_in (setting.String s) = Some s
string_in (setting.Number n) = None
string_in (setting.Name s) = None
string_in (setting.Listen l) = None

abbrev pub natural_in : Setting → Option ℕ
natural_in (setting.Number n) = not_below_0 n
natural_in (setting.String s) = None
natural_in (setting.Name s) = None
natural_in (setting.Listen l) = None

-- a number within these bounds, where none was given before
abbrev pub limit : Option ℕ → ℕ → ℕ → Setting → Option ℕ
limit old low high value = first_time old (between low high (natural_in value))

-- parameters without effect
abbrev pub idle_names : List (List ℕ)
idle_names =
    codes "debug" ∷ codes "log_stderror" ∷ codes "log_facility" ∷ codes "fork" ∷ codes "children" ∷ codes "auto_aliases"
    ∷ codes "mpath" ∷ codes "memdbg" ∷ codes "memlog" ∷ []

-- the settings with a parameter; None where it is refused
unfoldable pub with_parameter : List ℕ → Setting → Settings → Option Settings
with_parameter name value s =
    if bytes_eq name (codes "listen") then
    option_map (λ l. record s { listen = Some l }) (first_time s.listen (listen_in value))
    else if bytes_eq name (codes "alias") then
    option_map (λ host. record s { aliases = s.aliases ++ host ∷ [] }) (string_in value)
    else if bytes_eq name (codes "max_while_loops") then
    option_map (λ n. record s { max_while_loops = Some n }) (limit s.max_while_loops 1 1000 value)
    else if bytes_eq name (codes "max_recursive_level") then
    option_map (λ n. record s { max_recursive_level = Some n }) (limit s.max_recursive_level 1 1000 value)
    else if list_any (bytes_eq name) idle_names then Some s
    else None

-- ---- tables

-- the parts between semicolons
abbrev pub at_semicolons : List ℕ → List (List ℕ)
at_semicolons [] = [] ∷ []
at_semicolons (c ∷ cs) = if c == SEMI then [] ∷ at_semicolons cs else in_front c (at_semicolons cs)
  where
    in_front : ℕ → List (List ℕ) → List (List ℕ)
    in_front c [] = (c ∷ []) ∷ []
    in_front c (p ∷ ps) = (c ∷ p) ∷ ps

-- without an empty part at the end: a semicolon may stand after the last one
abbrev pub without_empty_end : List (List ℕ) → List (List ℕ)
without_empty_end [] = []
without_empty_end ([] ∷ []) = []
without_empty_end ([] ∷ q ∷ qs) = [] ∷ without_empty_end (q ∷ qs)
without_empty_end ((c ∷ cs) ∷ ps) = (c ∷ cs) ∷ without_empty_end ps

-- what the parts of one table gave so far
pub record TableParts : Type 0 where
  pub size : Option ℕ
  pub autoexpire : Option ℕ
  pub initval : Option ℤ
  pub update : Option ℕ

abbrev pub natural : Option ℤ → Option ℕ
natural None = None
natural (Some n) = not_below_0 n

-- the text `1`, and no other way to write that number
abbrev pub one_alone : List ℕ → Option ℕ
one_alone text = if bytes_eq text (codes "1") then Some 1 else None

-- NAME=NUMBER, or updateexpire=1, each at most once
abbrev pub with_part : List ℕ → Option TableParts → Option TableParts
with_part part None = None
with_part part (Some t) =
    let name = take (before EQUAL part) part in
    let value = drop (before EQUAL part + 1) part in
    let n = if begins_with EQUAL (drop (before EQUAL part) part) then number_in value else None in
    if bytes_eq name (codes "size") then option_map (λ n. record t { size = Some n }) (first_time t.size (between 2 14 (natural n)))
    else if bytes_eq name (codes "autoexpire") then
    option_map (λ n. record t { autoexpire = Some n }) (first_time t.autoexpire (between 0 10000000 (natural n)))
    else if bytes_eq name (codes "initval") then option_map (λ n. record t { initval = Some n }) (first_time t.initval n)
    else if bytes_eq name (codes "updateexpire") then
    option_map (λ n. record t { update = Some n }) (first_time t.update (one_alone value))
    else None

abbrev pub with_parts : List (List ℕ) → Option TableParts → Option TableParts
with_parts [] t = t
with_parts (p ∷ ps) t = with_parts ps (with_part p t)

abbrev pub spec_of : TableParts → TableSpec
spec_of t = record { size = unwrap_or t.size 8; autoexpire = unwrap_or t.autoexpire 0; initval = t.initval; update = true }

-- NAME=> and its parts
unfoldable pub table_in : List ℕ → Option (List ℕ × List ℕ) → Option (List ℕ × TableSpec)
table_in text None = None
table_in text (Some (name, parts)) =
    if is_name name then option_map (λ t. (name, spec_of t)) (with_parts (without_empty_end (at_semicolons parts))
    (Some (record { size = None; autoexpire = None; initval = None; update = None })))
    else None

abbrev pub has_table : List ℕ → Settings → Bool
has_table name s = list_any (λ t. bytes_eq name t.0) s.tables

abbrev pub with_table : Settings → Option (List ℕ × TableSpec) → Option Settings
with_table s None = None
with_table s (Some t) = if has_table t.0 s then None else Some (record s { tables = s.tables ++ t ∷ [] })

abbrev pub table_of_string : Option (List ℕ) → Option (List ℕ × TableSpec)
table_of_string None = None
table_of_string (Some text) = table_in text (table_and_key text)

-- ---- modules

-- the settings with a parameter of a module; None where it is refused
unfoldable pub with_module_parameter : List ℕ → List ℕ → Setting → Settings → Option Settings
with_module_parameter of name value s =
    if bytes_eq of (codes "tm") then (
    if bytes_eq name (codes "fr_timer") then option_map (λ n. record s { fr_timer = Some n }) (limit s.fr_timer 1 3600000 value)
    else if bytes_eq name (codes "fr_inv_timer") then
    option_map (λ n. record s { fr_inv_timer = Some n }) (limit s.fr_inv_timer 1 3600000 value)
    else None)
    else if bytes_eq of (codes "htable") && bytes_eq name (codes "htable") then with_table s (table_of_string (string_in value))
    else None

abbrev pub module_names : List (List ℕ)
module_names =
    codes "tm" ∷ codes "tmx" ∷ codes "pv" ∷ codes "htable" ∷ codes "corex" ∷ codes "sl" ∷ codes "textops" ∷ codes "siputils"
    ∷ codes "maxfwd" ∷ codes "rr" ∷ codes "xlog" ∷ []

-- a name without its path: what is after the last `/`
abbrev pub without_path : List ℕ → List ℕ
without_path text = reverse (take (before SLASH (reverse text)) (reverse text))

-- a module, with or without a path and `.so`
abbrev pub is_module : List ℕ → Bool
is_module text = list_any (λ name. bytes_eq (without_path text) name || bytes_eq (without_path text) (name ++ codes ".so")) module_names

-- ---- the items of a script, one after another: what they set, and what is refused

abbrev pub Step : Type 0
Step = Settings × List Refusal

-- a refused item sets nothing
abbrev pub set_or_refused : Word → Settings → Option Settings → Step
set_or_refused w old None = (old, refusal BadParameter w.at ∷ [])
set_or_refused w old (Some new) = (new, [])

-- the 33rd table is refused
abbrev pub table_limit : Word → Settings → List Refusal
table_limit w new = if nat_le 33 (length new.tables) then refusal TooLarge w.at ∷ [] else []

abbrev pub within_tables : Word → Settings → Step → Step
within_tables w old (new, refusals) =
    (new, if nat_le (length new.tables) (length old.tables) then refusals else refusals ++ table_limit w new)

abbrev pub item_step : RawItem → Settings → Step
item_step (item.Parameter w value) s = set_or_refused w s (with_parameter w.text value s)
item_step (item.Module w) s = (s, if is_module w.text then [] else refusal UnknownModule w.at ∷ [])
item_step (item.ModuleParameter of w value) s =
    within_tables w s (set_or_refused w s (with_module_parameter of.text w.text value s))
item_step (item.Block b) s = (s, [])

abbrev pub settings_behind : Settings → List RawItem → Step
settings_behind s [] = (s, [])
settings_behind s (i ∷ more) =
    let now = item_step i s in
    let later = settings_behind now.0 more in
    (later.0, now.1 ++ later.1)

abbrev pub settings_of : List RawItem → Settings
settings_of items = (settings_behind unset items).0

abbrev pub setting_refusals : List RawItem → List Refusal
setting_refusals items = (settings_behind unset items).1

-- the parameters, with what they are where nothing is given
abbrev pub parameters_of : Settings → Parameters
parameters_of s = record {
  listen = s.listen;
  aliases = s.aliases;
  max_while_loops = unwrap_or s.max_while_loops 100;
  max_recursive_level = unwrap_or s.max_recursive_level 256;
  fr_timer = unwrap_or s.fr_timer 30000;
  fr_inv_timer = unwrap_or s.fr_inv_timer 120000;
}
