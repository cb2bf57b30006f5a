-- What is read of the one literal of a call.
use Rattle.std.proofs.Common.{◌≡◌, ℕ, List, [], ◌∷◌, ◌++◌, Option, Some, None, option_map, refl, sym}
use Rattle.pv_values.specs.declared.refusal.Place.{Place}
use Rattle.pv_values.specs.declared.function.Func.{Func}
use Rattle.cfg_tree.specs.declared.raw.Word.{Word}
use Rattle.cfg_tree.specs.declared.raw.RawArg.{RawArg}
use Rattle.cfg_tree.specs.declared.raw.RawArg.TheVariants as arg
use Rattle.cfg_tree.specs.declared.raw.RouteKind.{RouteKind}
use Rattle.cfg_tree.specs.Names.{Known, table_and_key}
use Rattle.cfg_tree.specs.Functions.{FuncWith, with_literal, taking_block, taking_table, taking_table_pattern, block_number, table_number, pattern_number}
use Rattle.cfg_tree.specs.Refusals.{Checked, one, both, join, from_some}
use Rattle.cfg_calls.specs.Following.{CheckState, Follows}
use Rattle.cfg_calls.specs.Calls.{only_literal}
use Rattle.cfg_calls.proofs.Follows.{follows_one, follows_both}
use Rattle.cfg_tree.specs.declared.refusal_kind.RefusalKind.TheVariants.{WrongArguments}

-- the literal is read
pub literal_read : (read : Known → Place → Word → Checked Func) (known : Known) (at : Place) (args : List RawArg) (w : Word) {old new : CheckState} {v : Option Func} →
    only_literal args ≡ Some w → Follows (read known at w) old v new → Follows (with_literal read known at args) old (option_map (λ f. (f, [])) v) new
literal_read read known at [] w is h = absurd (cc)
literal_read read known at (arg.String x ∷ []) w {old} {new} {v} is h =
    let e : w ≡ x = cc in
    follows_one (λ f. (f, [])) (read known at x) old new v (option_map (λ f. (f, [])) v) (rw e at h) refl
literal_read read known at (arg.Number n ∷ []) w is h = absurd (cc)
literal_read read known at (arg.Variable v ∷ []) w is h = absurd (cc)
literal_read read known at (a ∷ b ∷ more) w is h = absurd (cc)

-- a block, a table, a table with a pattern, which the literal names
pub block_read : (kind : RouteKind) (make : ℕ → Func) (known : Known) (at : Place) (args : List RawArg) (w : Word) {old new : CheckState} {block : Option ℕ} {made : Option Func} {call : Option FuncWith} →
    Some w ≡ only_literal args → Follows (block_number known kind w) old block new → made ≡ option_map make block → call ≡ option_map (λ f. (f, [])) made → Follows (taking_block kind make known at args) old call new
block_read kind make known at args w {old} {new} {block} {made} is h e call_is =
    let found = follows_one make (block_number known kind w) old new block made h e in
    rw call_is (literal_read (λ known at w. one make (block_number known kind w)) known at args w (sym is) found)

pub table_read : (make : ℕ → Func) (known : Known) (at : Place) (args : List RawArg) (w : Word) (name : List ℕ) {old new : CheckState} {table : Option ℕ} {made : Option Func} {call : Option FuncWith} →
    Some w ≡ only_literal args → name ≡ w.text → Follows (table_number known w.at name) old table new → made ≡ option_map make table → call ≡ option_map (λ f. (f, [])) made → Follows (taking_table make known at args) old call new
table_read make known at args w name {old} {new} {table} {made} is text h e call_is =
    let found = follows_one make (table_number known w.at w.text) old new table made (rw text at h) e in
    rw call_is (literal_read (λ known at w. one make (table_number known w.at w.text)) known at args w (sym is) found)

pub items_read : (make : ℕ → ℕ → Func) (known : Known) (at : Place) (args : List RawArg) (w : Word) (text table pattern : List ℕ) {old mid new : CheckState} {t p : Option ℕ} {made : Option Func} {call : Option FuncWith} →
    Some w ≡ only_literal args → text ≡ w.text → Some (table, pattern) ≡ table_and_key text → Follows (table_number known w.at table) old t mid → Follows (pattern_number w.at pattern) mid p new → made ≡ join make t p → call ≡ option_map (λ f. (f, [])) made → Follows (taking_table_pattern make known at args) old call new
items_read make known at args w text table pattern {old} {mid} {new} {t} {p} {made} is same cut h k e call_is =
    let read : Known → Place → Word → Checked Func = λ known at w. from_some (table_and_key w.text) WrongArguments at (λ split. both make (table_number known w.at split.0) (pattern_number w.at split.1)) in
    let cut' = rw same at cut in
    let numbers = follows_both make (table_number known w.at table) (pattern_number w.at pattern) old mid new t p made h k e in
    let found : Follows (read known at w) old made new = rw (← cut') numbers in
    rw call_is (literal_read read known at args w (sym is) found)
