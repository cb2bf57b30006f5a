-- What is read of a whole tree.
use Rattle.std.proofs.Common.{◌≡◌, ℕ, List, [], ◌++◌, length, map, position, Option, None, ap, ◌∙◌, subst}
use Rattle.pv_values.specs.declared.block.BlockKind.TheVariants.{Request, Reply}
use Rattle.cfg_tree.specs.declared.raw.RawItem.{RawItem}
use Rattle.cfg_tree.specs.declared.raw.RawScript.{RawScript}
use Rattle.cfg_tree.specs.declared.raw.RouteKind.{RouteKind}
use Rattle.cfg_tree.specs.declared.raw.RouteKind.TheVariants.{Begins}
use Rattle.cfg_tree.specs.declared.script.Stmt.{Stmt}
use Rattle.cfg_tree.specs.Names.{Known}
use Rattle.cfg_tree.specs.Refusals.{Refusal, Seen}
use Rattle.cfg_tree.specs.Settings.{Settings, settings_of, setting_refusals}
use Rattle.cfg_tree.specs.Functions.{is_same_block}
use Rattle.cfg_tree.specs.Checks.{block_name, blocks_of, block_refusals, bodies_in, known_of, nothing_seen, bodies_of, unnamed, no_request, refusals_of}
use Rattle.cfg_calls.specs.Following.{CheckState, Follows}
use Rattle.cfg_check.specs.Reading.{IsRead}
use Rattle.cfg_check.specs.declared.script.Read.{Read}

-- the bodies, after what was refused before
pub record AreBodies (raw : RawScript) (before : List Refusal) (bodies : Option (List (List Stmt))) (new : CheckState) : Type 0 where
  pub value_is : bodies ≡ (bodies_of raw).value
  pub refusals_are : new.refusals ≡ before ++ (bodies_of raw).refusals
  pub seen_is : new.seen ≡ (bodies_of raw).seen

pub bodies_follow : (raw : RawScript) (known : Known) (before : List Refusal) (old new : CheckState) (bodies : Option (List (List Stmt))) → known ≡ known_of raw →
    old ≡ record { refusals = before; seen = nothing_seen } → Follows (bodies_in known (blocks_of raw.items)) old bodies new → AreBodies raw before bodies new
unfolding bodies_of
bodies_follow raw known before old new bodies same begun h =
    let bs = blocks_of raw.items in
    let g = subst (λ (k : Known). Follows (bodies_in k bs) old bodies new) same h in
    let f = subst (λ (s : CheckState). Follows (bodies_in (known_of raw) bs) s bodies new) begun g in
    record { value_is = f.value_is; refusals_are = f.refusals_are; seen_is = f.seen_is }

-- the refusals of the settings, of the blocks, of their bodies, and of the tree that has no request_route
pub all_refusals : (raw : RawScript) (first second third last : List Refusal) (request : Option ℕ) → first ≡ setting_refusals raw.items →
    second ≡ first ++ block_refusals [] (blocks_of raw.items) → third ≡ second ++ (bodies_of raw).refusals → request ≡ unnamed Request raw →
    last ≡ third ++ no_request raw request → last ≡ refusals_of raw
unfolding refusals_of
all_refusals raw first second third last request settings blocks bodies is end =
    let bs = block_refusals [] (blocks_of raw.items) in
    let ms = (bodies_of raw).refusals in
    end ∙ ap (λ rs. rs ++ no_request raw request) (bodies ∙ ap (λ rs. rs ++ ms) (blocks ∙ ap (λ rs. rs ++ bs) settings))
    ∙ ap (λ n. ((setting_refusals raw.items ++ bs) ++ ms) ++ no_request raw n) is

-- ---- each part that is read

abbrev known_with : List (RouteKind × Option (List ℕ)) → List (List ℕ) → Known
known_with blocks tables = record { blocks = blocks; tables = tables }

same_known : (raw : RawScript) (items : List RawItem) (settings : Settings) (known : Known) (blocks : List (RouteKind × Option (List ℕ))) (tables : List (List ℕ)) → items ≡ raw.items →
    settings ≡ settings_of raw.items → blocks ≡ map block_name (blocks_of items) → tables ≡ map (λ t. t.0) settings.tables → known ≡ known_with blocks tables → known ≡ known_of raw
same_known raw items settings known blocks tables same set named told is =
    is ∙ ap (λ bs. known_with bs tables) (named ∙ ap (λ xs. map block_name (blocks_of xs)) same)
    ∙ ap (known_with (map block_name (blocks_of raw.items))) (told ∙ ap (λ (s : Settings). map (λ t. t.0) s.tables) set)

pub is_read : (raw : RawScript) (items : List RawItem) (read : Read) (known : Known) (blocks : List (RouteKind × Option (List ℕ))) (tables : List (List ℕ))
    (begun first second : List Refusal) (old now new : CheckState) → items ≡ raw.items → begun ≡ [] →
    read.settings ≡ settings_of items → first ≡ begun ++ setting_refusals items →
    blocks ≡ map block_name (blocks_of items) → second ≡ first ++ block_refusals [] (blocks_of items) →
    tables ≡ map (λ t. t.0) read.settings.tables → known ≡ record { blocks = blocks; tables = tables } →
    old ≡ record { refusals = second; seen = nothing_seen } → Follows (bodies_in known (blocks_of items)) old read.blocks now →
    read.request ≡ position (is_same_block (Begins Request, None)) known.blocks →
    new.seen ≡ now.seen → new.refusals ≡ now.refusals ++ no_request raw read.request →
    read.reply ≡ position (is_same_block (Begins Reply, None)) known.blocks →
    read.refusals ≡ new.refusals → read.vars ≡ length new.seen.vars → read.patterns.items ≡ new.seen.patterns → IsRead raw read
is_read raw items read known blocks tables begun first second old now new same nothing set set_refused named named_refused told known_is old_is bodies request seen last reply all vars patterns =
    let settings = set ∙ ap settings_of same in
    let is = same_known raw items read.settings known blocks tables same settings named told known_is in
    let body = bodies_follow raw known second old now read.blocks is old_is (subst (λ (xs : List RawItem). Follows (bodies_in known (blocks_of xs)) old read.blocks now) same bodies) in
    let request_is = request ∙ ap (λ (k : Known). position (is_same_block (Begins Request, None)) k.blocks) is in
    let met = seen ∙ body.seen_is in
    record {
      refusals_are = all ∙ all_refusals raw first second now.refusals new.refusals read.request
          (set_refused ∙ ap (λ rs. rs ++ setting_refusals items) nothing ∙ ap setting_refusals same)
          (named_refused ∙ ap (λ xs. first ++ block_refusals [] (blocks_of xs)) same) body.refusals_are request_is last;
      settings_are = settings;
      blocks_are = body.value_is;
      request_is = request_is;
      reply_is = reply ∙ ap (λ (k : Known). position (is_same_block (Begins Reply, None)) k.blocks) is;
      vars_are = vars ∙ ap (λ (s : Seen). length s.vars) met;
      patterns_are = patterns ∙ ap (λ (s : Seen). s.patterns) met;
    }
