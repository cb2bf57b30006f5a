-- A refusal of a tree is told by what stands in its blocks, or it is one of its settings, of its blocks' names, or of their number.
use Rattle.std.proofs.Common.{◌≡◌, ◌⊎◌, ℕ, Bool, true, false, nat_le, if◌then◌else◌, List, [], ◌∷◌, ◌++◌, length, Option, Some, None, Contains, refl, sym, subst, inl, inr}
use Rattle.std.specs.List.{list_any}
use Rattle.pv_values.specs.declared.refusal.Place.{Place}
use Rattle.pv_values.specs.declared.block.BlockKind.TheVariants.{Request}
use Rattle.cfg_tree.specs.declared.raw.Word.{Word}
use Rattle.cfg_tree.specs.declared.raw.RawBlock.{RawBlock}
use Rattle.cfg_tree.specs.declared.raw.RawItem.{RawItem}
use Rattle.cfg_tree.specs.declared.raw.RawItem.TheVariants as item
use Rattle.cfg_tree.specs.declared.raw.RawScript.{RawScript}
use Rattle.cfg_tree.specs.declared.raw.RouteKind.{RouteKind}
use Rattle.cfg_tree.specs.Names.{Known}
use Rattle.cfg_tree.specs.Functions.{is_same_block}
use Rattle.cfg_tree.specs.Settings.{Settings, unset, is_module, set_or_refused, table_limit, within_tables, item_step, settings_behind, setting_refusals, with_parameter, with_module_parameter}
use Rattle.cfg_tree.specs.Checks.{body_in, bodies_in, bodies_of, blocks_of, block_name, name_place, twice, too_many, block_refusals, known_of, nothing_seen, unnamed, no_request, refusals_of}
use Rattle.cfg_tree.specs.Refusals.{Refusal, refusal}
use Rattle.cfg_tree.specs.declared.refusal_kind.RefusalKind.TheVariants.{RouteTwice, BadParameter, TooLarge, NoRequestRoute, UnknownModule}
use Rattle.cfg_laws.specs.Causes.{Leaf, Stands, body_leaves}
use Rattle.cfg_laws.proofs.Telling.{In, in_front, in_back, in_parts, in_from_contains, contains_from_in, alone, Tells, accepted_silent, both_tells}
use Rattle.cfg_laws.proofs.Walk.{Some_of, some_in, in_some, Leaves}

-- ---- the bodies of blocks

-- of one leaf in one of these blocks it holds
abbrev InBlocks : (RouteKind → Leaf → Type 0) → List RawBlock → Type 0
InBlocks P [] = ⊥
InBlocks P (b ∷ bs) = Some_of (P b.kind) (body_leaves b) ⊎ InBlocks P bs

bodies_tell : (r : Refusal) (known : Known) (P : RouteKind → Leaf → Type 0) → ((b : RawBlock) → Leaves r (P b.kind) (body_in known b) (body_leaves b)) → (bs : List RawBlock) →
    Tells r (bodies_in known bs) (InBlocks P bs)
bodies_tell r known P body [] = accepted_silent r []
bodies_tell r known P body (b ∷ bs) = both_tells r (λ a more. a ∷ more) (body_in known b) (bodies_in known bs) (body b) (bodies_tell r known P body bs)

-- a block of the list with such a leaf
block_in : (P : RouteKind → Leaf → Type 0) (bs : List RawBlock) → InBlocks P bs → (b : RawBlock) × In b bs × Some_of (P b.kind) (body_leaves b)
block_in P [] h = absurd h
block_in P (b ∷ bs) (inl h) = (b, inl refl, h)
block_in P (b ∷ bs) (inr h) = let k = block_in P bs h in (k.0, inr k.1, k.2)

in_block : (P : RouteKind → Leaf → Type 0) (bs : List RawBlock) (b : RawBlock) → In b bs → Some_of (P b.kind) (body_leaves b) → InBlocks P bs
in_block P [] b h s = absurd h
in_block P (c ∷ bs) b (inl e) s = inl (subst (λ (x : RawBlock). Some_of (P x.kind) (body_leaves x)) (sym e) s)
in_block P (c ∷ bs) b (inr h) s = inr (in_block P bs b h s)

-- it holds of a leaf that stands in a block
abbrev pub StandsThere : RawScript → (RouteKind → Leaf → Type 0) → Type 0
StandsThere raw P = (kind : RouteKind) × (leaf : Leaf) × Stands raw kind leaf × P kind leaf

stands_in : (raw : RawScript) (P : RouteKind → Leaf → Type 0) → InBlocks P (blocks_of raw.items) → StandsThere raw P
stands_in raw P h =
    let b = block_in P (blocks_of raw.items) h in
    let l = some_in (P b.0.kind) (body_leaves b.0) b.2 in (
      b.0.kind,
      l.0,
      record {
        block = b.0;
        is_there = contains_from_in b.0 (blocks_of raw.items) b.1;
        kind_is = refl;
        is_in_it = contains_from_in l.0 (body_leaves b.0) l.1;
      },
      l.2,
    )

in_stands : (raw : RawScript) (P : RouteKind → Leaf → Type 0) → StandsThere raw P → InBlocks P (blocks_of raw.items)
in_stands raw P h =
    let s = h.2 in
    in_block P (blocks_of raw.items) s.block (in_from_contains s.block (blocks_of raw.items) s.is_there)
    (in_some (P s.block.kind) (body_leaves s.block) h.1 (in_from_contains h.1 (body_leaves s.block) s.is_in_it) (subst (λ k. P k h.1) (sym s.kind_is) h.3))

-- ---- the other refusals

module _ (r : Refusal) where
  pub if_none : (b : Bool) (x : Refusal) → (x ≡ r → ⊥) → In r (if b then x ∷ [] else []) → ⊥
  if_none true x other h = other (alone r x h)
  if_none false x other h = h

  -- ---- the settings

  module _ (not_parameter : (at : Place) → refusal BadParameter at ≡ r → ⊥) (not_limit : (at : Place) → refusal TooLarge at ≡ r → ⊥) where
    set_none : (w : Word) (old : Settings) (o : Option Settings) → In r (set_or_refused w old o).1 → ⊥
    set_none w old None h = not_parameter w.at (alone r (refusal BadParameter w.at) h)
    set_none w old (Some new) h = h

    limit_none : (w : Word) (new : Settings) → In r (table_limit w new) → ⊥
    limit_none w new h = if_none (nat_le 33 (length new.tables)) (refusal TooLarge w.at) (not_limit w.at) h

    within_none : (w : Word) (old new : Settings) (rs : List Refusal) → (In r rs → ⊥) → In r (within_tables w old (new, rs)).1 → ⊥
    within_none w old new rs none h = by_length (nat_le (length new.tables) (length old.tables)) h
      where
        by_length : (b : Bool) → In r (if b then rs else rs ++ table_limit w new) → ⊥
        by_length true h = none h
        by_length false h = elim (in_parts r rs (table_limit w new) h) [
          | inl k ↦ none k
          | inr k ↦ limit_none w new k
        ]

    -- an item tells it where it loads another module
    item_one : (Q : Type 0) (i : RawItem) (s : Settings) → ((w : Word) → i ≡ item.Module w → is_module w.text ≡ false → refusal UnknownModule w.at ≡ r → Q) → In r (item_step i s).1 → Q
    item_one Q (item.Parameter w value) s other h = absurd (set_none w s (with_parameter w.text value s) h)
    item_one Q (item.Module w) s other h = by_name (is_module w.text) refl h
      where
        by_name : (b : Bool) → is_module w.text ≡ b → In r (if b then [] else refusal UnknownModule w.at ∷ []) → Q
        by_name true is h = absurd h
        by_name false is h = other w refl is (alone r (refusal UnknownModule w.at) h)
    item_one Q (item.ModuleParameter of w value) s other h =
        let set = set_or_refused w s (with_module_parameter of.text w.text value s) in
        absurd (within_none w s set.0 set.1 (set_none w s (with_module_parameter of.text w.text value s)) h)
    item_one Q (item.Block b) s other h = absurd h

    pub behind_one : (Q : Type 0) (items : List RawItem) (s : Settings) → ((w : Word) → In (item.Module w) items → is_module w.text ≡ false → refusal UnknownModule w.at ≡ r → Q) →
        In r (settings_behind s items).1 → Q
    behind_one Q [] s other h = absurd h
    behind_one Q (i ∷ more) s other h = elim (in_parts r (item_step i s).1 (settings_behind (item_step i s).0 more).1 h) [
      | inl k ↦ item_one Q i s (λ w is. other w (inl is)) k
      | inr k ↦ behind_one Q more (item_step i s).0 (λ w there. other w (inr there)) k
    ]

    pub settings_none : (items : List RawItem) → ((w : Word) → In (item.Module w) items → is_module w.text ≡ false → refusal UnknownModule w.at ≡ r → ⊥) → In r (setting_refusals items) → ⊥
    settings_none items other h = behind_one ⊥ items unset other h

  -- ---- the blocks

  pub blocks_none : ((at : Place) → refusal RouteTwice at ≡ r → ⊥) → ((at : Place) → refusal TooLarge at ≡ r → ⊥) → (bs : List RawBlock) (earlier : List (RouteKind × Option (List ℕ))) →
      In r (block_refusals earlier bs) → ⊥
  blocks_none not_twice not_limit [] earlier h = h
  blocks_none not_twice not_limit (b ∷ bs) earlier h =
      elim (in_parts r (twice earlier b ++ too_many (length earlier) b) (block_refusals (earlier ++ block_name b ∷ []) bs) h) [
        | inl k ↦ elim (in_parts r (twice earlier b) (too_many (length earlier) b) k) [
          | inl l ↦ if_none (list_any (is_same_block (block_name b)) earlier) (refusal RouteTwice (name_place b.kind_at b.name)) (not_twice (name_place b.kind_at b.name)) l
          | inr l ↦ if_none (nat_le 1000 (length earlier)) (refusal TooLarge b.at) (not_limit b.at) l
        ]
        | inr k ↦ blocks_none not_twice not_limit bs (earlier ++ block_name b ∷ []) k
      ]

  pub request_none : ((at : Place) → refusal NoRequestRoute at ≡ r → ⊥) → (raw : RawScript) (o : Option ℕ) → In r (no_request raw o) → ⊥
  request_none other raw None h = other (record { from = raw.end; to = raw.end }) (alone r _ h)
  request_none other raw (Some n) h = h

-- ---- a refusal of the bodies alone

-- the refusal is of a kind that only what stands in a body has
pub record IsOfBodies (r : Refusal) : Type 0 where
  pub parameter : (at : Place) → refusal BadParameter at ≡ r → ⊥
  pub limit : (at : Place) → refusal TooLarge at ≡ r → ⊥
  pub loaded : (at : Place) → refusal UnknownModule at ≡ r → ⊥
  pub twice : (at : Place) → refusal RouteTwice at ≡ r → ⊥
  pub request : (at : Place) → refusal NoRequestRoute at ≡ r → ⊥

pub bodies_listed : (raw : RawScript) (r : Refusal) → IsOfBodies r → Contains (refusals_of raw) r → In r (bodies_of raw).refusals
unfolding refusals_of
bodies_listed raw r other h =
    let settings = setting_refusals raw.items in
    let blocks = block_refusals [] (blocks_of raw.items) in
    let bodies = (bodies_of raw).refusals in
    let request = no_request raw (unnamed Request raw) in
    elim (in_parts r (settings ++ blocks ++ bodies) request (in_from_contains r (settings ++ blocks ++ bodies ++ request) h)) [
      | inl k ↦ elim (in_parts r (settings ++ blocks) bodies k) [
        | inl l ↦ elim (in_parts r settings blocks l) [
          | inl m ↦ absurd (settings_none r other.parameter other.limit raw.items (λ w there is e. other.loaded w.at e) m)
          | inr m ↦ absurd (blocks_none r other.twice other.limit (blocks_of raw.items) [] m)
        ]
        | inr l ↦ l
      ]
      | inr k ↦ absurd (request_none r other.request raw (unnamed Request raw) k)
    ]

pub listed_bodies : (raw : RawScript) (r : Refusal) → In r (bodies_of raw).refusals → Contains (refusals_of raw) r
unfolding refusals_of
listed_bodies raw r h =
    let settings = setting_refusals raw.items in
    let blocks = block_refusals [] (blocks_of raw.items) in
    let bodies = (bodies_of raw).refusals in
    let request = no_request raw (unnamed Request raw) in
    contains_from_in r (settings ++ blocks ++ bodies ++ request) (in_front r (settings ++ blocks ++ bodies) request (in_back r (settings ++ blocks) bodies h))

-- what stands in the bodies tells it
pub stands_listed : (raw : RawScript) (r : Refusal) (P : RouteKind → Leaf → Type 0) → IsOfBodies r → ((b : RawBlock) → Leaves r (P b.kind) (body_in (known_of raw) b) (body_leaves b)) →
    (Contains (refusals_of raw) r → StandsThere raw P) × (StandsThere raw P → Contains (refusals_of raw) r)
unfolding bodies_of
stands_listed raw r P other body =
    let told = bodies_tell r (known_of raw) P body (blocks_of raw.items) in
    (λ h. stands_in raw P (told.only nothing_seen (bodies_listed raw r other h)), λ h. listed_bodies raw r (told.whole nothing_seen (in_stands raw P h)))

-- nothing that stands in the bodies tells it
pub bodies_silent : (raw : RawScript) (r : Refusal) → ((b : RawBlock) → Leaves r (λ _. ⊥) (body_in (known_of raw) b) (body_leaves b)) → In r (bodies_of raw).refusals → ⊥
unfolding bodies_of
bodies_silent raw r body h =
    let told = bodies_tell r (known_of raw) (λ kind leaf. ⊥) body (blocks_of raw.items) in
    (stands_in raw (λ kind leaf. ⊥) (told.only nothing_seen h)).3

-- one of the settings, of the blocks' own, of the bodies, or that there is no request route
pub data Of_all (raw : RawScript) (r : Refusal) : Type 0 where
  of_settings : In r (setting_refusals raw.items) → Of_all raw r
  of_blocks : In r (block_refusals [] (blocks_of raw.items)) → Of_all raw r
  of_bodies : In r (bodies_of raw).refusals → Of_all raw r
  of_request : In r (no_request raw (unnamed Request raw)) → Of_all raw r

pub all_parts : (raw : RawScript) (r : Refusal) → Contains (refusals_of raw) r → Of_all raw r
unfolding refusals_of
all_parts raw r h =
    let settings = setting_refusals raw.items in
    let blocks = block_refusals [] (blocks_of raw.items) in
    let bodies = (bodies_of raw).refusals in
    let request = no_request raw (unnamed Request raw) in
    elim (in_parts r (settings ++ blocks ++ bodies) request (in_from_contains r (settings ++ blocks ++ bodies ++ request) h)) [
      | inl k ↦ elim (in_parts r (settings ++ blocks) bodies k) [
        | inl l ↦ elim (in_parts r settings blocks l) [
          | inl m ↦ of_settings m
          | inr m ↦ of_blocks m
        ]
        | inr l ↦ of_bodies l
      ]
      | inr k ↦ of_request k
    ]

pub all_from : (raw : RawScript) (r : Refusal) → Of_all raw r → Contains (refusals_of raw) r
unfolding refusals_of
all_from raw r (of_settings h) =
    let settings = setting_refusals raw.items in
    let blocks = block_refusals [] (blocks_of raw.items) in
    let bodies = (bodies_of raw).refusals in
    let request = no_request raw (unnamed Request raw) in
    contains_from_in r (settings ++ blocks ++ bodies ++ request) (in_front r (settings ++ blocks ++ bodies) request (in_front r (settings ++ blocks) bodies (in_front r settings blocks h)))
all_from raw r (of_blocks h) =
    let settings = setting_refusals raw.items in
    let blocks = block_refusals [] (blocks_of raw.items) in
    let bodies = (bodies_of raw).refusals in
    let request = no_request raw (unnamed Request raw) in
    contains_from_in r (settings ++ blocks ++ bodies ++ request) (in_front r (settings ++ blocks ++ bodies) request (in_front r (settings ++ blocks) bodies (in_back r settings blocks h)))
all_from raw r (of_bodies h) = listed_bodies raw r h
all_from raw r (of_request h) =
    let settings = setting_refusals raw.items in
    let blocks = block_refusals [] (blocks_of raw.items) in
    let bodies = (bodies_of raw).refusals in
    let request = no_request raw (unnamed Request raw) in
    contains_from_in r (settings ++ blocks ++ bodies ++ request) (in_back r (settings ++ blocks ++ bodies) request h)
