-- A tree of which nothing is refused stands for a script.
use Rattle.std.proofs.Common.{◌≡◌, ℕ, List, [], ◌++◌, Option, Some, None, refl}
use Rattle.pv_values.specs.declared.block.BlockKind.TheVariants.{Request}
use Rattle.cfg_tree.specs.declared.raw.RawBlock.{RawBlock}
use Rattle.cfg_tree.specs.declared.raw.RawScript.{RawScript}
use Rattle.cfg_tree.specs.declared.script.Stmt.{Stmt}
use Rattle.cfg_tree.specs.declared.script.Script.{Script}
use Rattle.cfg_tree.specs.Names.{Known}
use Rattle.cfg_tree.specs.Settings.{setting_refusals}
use Rattle.cfg_tree.specs.Checks.{body_in, bodies_in, blocks_of, block_refusals, known_of, nothing_seen, bodies_of, unnamed, no_request, refusals_of, script_with, script_of}
use Rattle.cfg_calls.proofs.Valued.{Valued, some_left, none_is_some, both_empty, map_valued}
use Rattle.cfg_check.proofs.ValuedTrees.{body_valued}

bodies_valued : (known : Known) (bs : List RawBlock) → Valued (bodies_in known bs)
bodies_valued known bs = map_valued (body_in known) (body_valued known) bs

bodies_stand : (raw : RawScript) → (bodies_of raw).refusals ≡ [] → (bodies : List (List Stmt)) × ((bodies_of raw).value ≡ Some bodies)
unfolding bodies_of
bodies_stand raw e = ((bodies_valued (known_of raw) (blocks_of raw.items)).after nothing_seen).gives e

request_stands : (raw : RawScript) (o : Option ℕ) → no_request raw o ≡ [] → (n : ℕ) × (o ≡ Some n)
request_stands raw None e = absurd (some_left _ _ e)
request_stands raw (Some n) e = (n, refl)

script_stands : (raw : RawScript) (bodies : Option (List (List Stmt))) (request : Option ℕ) (b : List (List Stmt)) (n : ℕ) → bodies ≡ Some b → request ≡ Some n →
    (script : Script) × (script_with raw bodies request ≡ Some script)
script_stands raw None request b n p q = absurd (none_is_some b p)
script_stands raw (Some bodies) None b n p q = absurd (none_is_some n q)
script_stands raw (Some bodies) (Some request) b n p q = (_, refl)

pub unrefused_stands : (raw : RawScript) → refusals_of raw ≡ [] → (script : Script) × (script_of raw ≡ Some script)
unfolding refusals_of script_of
unrefused_stands raw e =
    let settings = setting_refusals raw.items in
    let blocks = block_refusals [] (blocks_of raw.items) in
    let bodies = (bodies_of raw).refusals in
    let last = both_empty (settings ++ blocks ++ bodies) (no_request raw (unnamed Request raw)) e in
    let third = both_empty (settings ++ blocks) bodies last.0 in
    let body = bodies_stand raw third.1 in
    let request = request_stands raw (unnamed Request raw) last.1 in
    script_stands raw (bodies_of raw).value (unnamed Request raw) body.0 request.0 body.1 request.1
