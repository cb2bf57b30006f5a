-- The script that is made of what was read.
use Rattle.std.proofs.Common.{◌≡◌, ℕ, List, map, Option, Some, None, refl, sym, ap, ◌∙◌}
use Rattle.pv_values.specs.declared.block.BlockKind.TheVariants.{Request}
use Rattle.pv_values.specs.declared.table.TableSpec.{TableSpec}
use Rattle.cfg_tree.specs.declared.setting.Parameters.{Parameters}
use Rattle.cfg_tree.specs.declared.raw.RawScript.{RawScript}
use Rattle.cfg_tree.specs.declared.script.Stmt.{Stmt}
use Rattle.cfg_tree.specs.Settings.{Settings, parameters_of}
use Rattle.cfg_tree.specs.Checks.{bodies_of, unnamed, script_with, script_of}
use Rattle.cfg_check.specs.Reading.{IsRead}
use Rattle.cfg_check.specs.declared.script.Read.{Read}

without_request : (raw : RawScript) (bodies : Option (List (List Stmt))) → script_with raw bodies None ≡ None
without_request raw None = refl
without_request raw (Some bodies) = refl

-- the script of a tree whose blocks and request_route were read
pub script_made : (raw : RawScript) (read : Read) (blocks : List (List Stmt)) (request : ℕ) (tables : List TableSpec) (parameters : Parameters) (patterns : List (List ℕ)) → IsRead raw read →
    read.blocks ≡ Some blocks → read.request ≡ Some request → parameters ≡ parameters_of read.settings → tables ≡ map (λ t. t.1) read.settings.tables → patterns ≡ read.patterns.items →
    Some (record {
      blocks = blocks;
      request = request;
      reply = read.reply;
      vars = read.vars;
      patterns = patterns;
      tables = tables;
      parameters = parameters;
    }) ≡ script_of raw
unfolding script_of
script_made raw read blocks request tables parameters patterns h some_blocks some_request are told texts =
    let bodies : (bodies_of raw).value ≡ Some blocks = sym h.blocks_are ∙ some_blocks in
    let number : unnamed Request raw ≡ Some request = sym h.request_is ∙ some_request in
    let all = are ∙ ap parameters_of h.settings_are in
    let specs = told ∙ ap (λ (s : Settings). map (λ t. t.1) s.tables) h.settings_are in
    rw (bodies, number, all, specs, texts, h.reply_is, h.vars_are, h.patterns_are) refl

-- without the blocks, and without request_route, there is none
pub no_blocks_read : (raw : RawScript) (read : Read) → IsRead raw read → read.blocks ≡ None → None ≡ script_of raw
unfolding script_of
no_blocks_read raw read h none =
    let bodies : (bodies_of raw).value ≡ None = sym h.blocks_are ∙ none in
    rw bodies refl

pub no_request_read : (raw : RawScript) (read : Read) → IsRead raw read → read.request ≡ None → None ≡ script_of raw
unfolding script_of
no_request_read raw read h none =
    let number : unnamed Request raw ≡ None = sym h.request_is ∙ none in
    rw number (sym (without_request raw (bodies_of raw).value))
