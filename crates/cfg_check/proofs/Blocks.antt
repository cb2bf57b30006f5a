-- The blocks among the items of a script, one item after another.
use Rattle.std.proofs.Common.{◌≡◌, ℕ, ◌+◌, ◌<◌, ◌≤◌, List, [], ◌∷◌, ◌++◌, length, take, get_or, map, Option, refl, sym, ap, ◌∙◌, subst, append-nil}
use Rattle.std.proofs.lemmas.List.{take_more, take_all, map-append}
use Rattle.std.proofs.lemmas.List.Concat.{flat_map-append}
use Rattle.cfg_tree.specs.declared.raw.RawBlock.{RawBlock}
use Rattle.cfg_tree.specs.declared.raw.RawItem.{RawItem}
use Rattle.cfg_tree.specs.declared.raw.RawItem.TheVariants as item
use Rattle.cfg_tree.specs.declared.raw.RawStmt.{RawStmt}
use Rattle.cfg_tree.specs.declared.script.Stmt.{Stmt}
use Rattle.cfg_tree.specs.Names.{Known}
use Rattle.cfg_tree.specs.Refusals.{Checked, join, each}
use Rattle.cfg_tree.specs.Checks.{stmt_in, all_in, block_of, blocks_of, body_in, bodies_in}
use Rattle.cfg_calls.specs.Following.{CheckState, Follows}
use Rattle.cfg_calls.proofs.Follows.{follows_each_more}

blocks_step : (items : List RawItem) (i : ℕ) (x : RawItem) → i < length items → x ≡ get_or items i x → blocks_of (take (i + 1) items) ≡ blocks_of (take i items) ++ block_of x
blocks_step items i x lt is =
    let next : take (i + 1) items ≡ take i items ++ x ∷ [] = take_more items i x lt ∙ ap (λ y. take i items ++ y ∷ []) (sym is) in
    ap blocks_of next ∙ flat_map-append block_of (take i items) (x ∷ []) ∙ ap (λ bs. blocks_of (take i items) ++ bs) (append-nil (block_of x))

-- an item that is no block
pub no_block : (x : RawItem) → ((b : RawBlock) → x ≡ item.Block b → ⊥) → block_of x ≡ []
no_block (item.Block b) h = absurd (h b refl)
no_block (item.Parameter w value) h = refl
no_block (item.Module w) h = refl
no_block (item.ModuleParameter of w value) h = refl

-- the bodies of the blocks among the items up to a place
abbrev pub BodiesUpTo : Known → List RawItem → ℕ → CheckState → Option (List (List Stmt)) → CheckState → Type 0
BodiesUpTo known items i old bodies now = Follows (each (map (body_in known) (blocks_of (take i items)))) old bodies now

pub one_body : (known : Known) (items : List RawItem) (i : ℕ) (x : RawItem) (b : RawBlock) (stmts : List RawStmt) (old now new : CheckState) (bodies more : Option (List (List Stmt)))
    (body : Option (List Stmt)) → i < length items → x ≡ get_or items i x → x ≡ item.Block b → stmts ≡ b.body → BodiesUpTo known items i old bodies now →
    Follows (all_in (map (stmt_in known b.kind) stmts)) now body new → more ≡ join (λ xs x. xs ++ x ∷ []) bodies body → BodiesUpTo known items (i + 1) old more new
one_body known items i x b stmts old now new bodies more body lt is block whole before read made =
    let bs = blocks_of (take i items) in
    let one : block_of x ≡ b ∷ [] = ap block_of block in
    let body_is = subst (λ (ss : List RawStmt). Follows (all_in (map (stmt_in known b.kind) ss)) now body new) whole read in
    let next : map (body_in known) (blocks_of (take (i + 1) items)) ≡ map (body_in known) bs ++ body_in known b ∷ [] =
    ap (map (body_in known)) (blocks_step items i x lt is ∙ ap (λ cs. bs ++ cs) one) ∙ map-append (body_in known) bs (b ∷ []) in
    subst (λ (ms : List (Checked (List Stmt))). Follows (each ms) old more new) (sym next)
    (follows_each_more (map (body_in known) bs) (body_in known b) old now new bodies body more before body_is made)

pub no_body : (known : Known) (items : List RawItem) (i : ℕ) (x : RawItem) (old now : CheckState) (bodies : Option (List (List Stmt))) →
    i < length items → x ≡ get_or items i x → block_of x ≡ [] → BodiesUpTo known items i old bodies now → BodiesUpTo known items (i + 1) old bodies now
no_body known items i x old now bodies lt is none before =
    let bs = blocks_of (take i items) in
    let next : blocks_of (take (i + 1) items) ≡ bs = blocks_step items i x lt is ∙ ap (λ cs. bs ++ cs) none ∙ append-nil bs in
    subst (λ (cs : List RawBlock). Follows (each (map (body_in known) cs)) old bodies now) (sym next) before

pub all_bodies : (known : Known) (items : List RawItem) (i : ℕ) (old now : CheckState) (bodies : Option (List (List Stmt))) → length items ≤ i → BodiesUpTo known items i old bodies now →
    Follows (bodies_in known (blocks_of items)) old bodies now
all_bodies known items i old now bodies past h = subst (λ (xs : List RawItem). Follows (each (map (body_in known) (blocks_of xs))) old bodies now) (take_all i items past) h
