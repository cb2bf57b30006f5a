-- A known variable that the block may not assign.
use Rattle.std.proofs.Common.{◌≡◌, ℕ, Bool, true, false, ◌&&◌, if◌then◌else◌, List, [], ◌∷◌, Option, Some, None, is_some, refl, sym, ap, ◌∙◌, subst, inl, inr, arith}
use Rattle.std.specs.Prelude.{position, codes, option_map}
use Rattle.std.specs.Str.{bytes_eq}
use Rattle.std.proofs.lemmas.Bool.{true≢false}
use Rattle.std.proofs.lemmas.Slice.Eq.{bytes_eq-Decides}
use Rattle.pv_values.specs.declared.block.BlockKind.TheVariants.{Request, Branch, Failure, Reply, Event}
use Rattle.pv_values.specs.declared.refusal.Place.{Place}
use Rattle.pv_values.specs.declared.variable.PvUse.{PvUse}
use Rattle.pv_values.specs.declared.variable.PvUse.TheVariants as pv
use Rattle.pv_values.specs.declared.variable.Transformation.{Transformation}
use Rattle.cfg_tree.specs.declared.token.Variable.{Variable}
use Rattle.cfg_tree.specs.declared.raw.Word.{Word}
use Rattle.cfg_tree.specs.declared.raw.RawVariable.{RawVariable}
use Rattle.cfg_tree.specs.declared.raw.RawCall.{RawCall}
use Rattle.cfg_tree.specs.declared.raw.RawBlock.{RawBlock}
use Rattle.cfg_tree.specs.declared.raw.RawScript.{RawScript}
use Rattle.cfg_tree.specs.declared.raw.RouteKind.{RouteKind}
use Rattle.cfg_tree.specs.declared.raw.RouteKind.TheVariants.{Route, Begins}
use Rattle.cfg_tree.specs.declared.script.TableUse.{TableUse}
use Rattle.cfg_tree.specs.declared.script.TableUse.TheVariants as table
use Rattle.cfg_tree.specs.declared.script.Part.{Part}
use Rattle.cfg_tree.specs.declared.script.Part.TheOpen.{Part-F}
use Rattle.cfg_tree.specs.declared.script.Part.TheViews.{roll-Part}
use Rattle.cfg_tree.specs.declared.script.Target.{Target}
use Rattle.cfg_tree.specs.declared.script.Target.TheVariants as target
use Rattle.cfg_tree.specs.Meaning.{item_of}
use Rattle.cfg_tree.specs.Names.{Known, named, host_names, table_names, suspension_names, transformation_names, var_number, some_text, avp_name, table_and_key, Layer, host_layer, item_layer, bare_layer, inner_layer, untransformed, transformed_layer, expansion_within, layer_of}
use Rattle.cfg_tree.specs.Functions.{is_same_block, block_number, pattern_number}
use Rattle.cfg_tree.specs.Checks.{may_write, target_in, found_as, found, target_of, call_in, body_in, known_of}
use Rattle.cfg_tree.specs.Refusals.{Refusal, refusal, Seen, Checked, accepted, refused, join, one, from_some}
use Rattle.cfg_tree.specs.declared.refusal_kind.RefusalKind.TheVariants.{UnknownRoute, RouteTwice, UnknownFunction, WrongBlock, WrongArguments, UnknownVariable, NotWritable, BadParameter, BadPattern, TooLarge, NoRequestRoute, UnknownModule}
use Rattle.cfg_laws.specs.Causes.{Exactly, IsListed, Leaf, Calls, Reads, Matches, Assigns, body_leaves}
use Rattle.cfg_laws.specs.Known.{among, variable_is_known}
use Rattle.cfg_laws.specs.Written.{changes_request, has_message, target_words, item_words, word_written, form_written, variable_written, AssignsUnwritten}
use Rattle.cfg_laws.proofs.Telling.{In, in_parts, in_back, alone, Tells, Silent, same_tells, accepted_silent, from_some_silent}
use Rattle.cfg_laws.proofs.SilentNames.{layer_of_silent, part_of_silent}
use Rattle.cfg_laws.proofs.Targets.{pattern_silent}
use Rattle.cfg_laws.proofs.Calling.{IsOther, call_tells}
use Rattle.cfg_laws.proofs.Apart.{apart, NoBlock, NoPattern, no_call}
use Rattle.cfg_laws.proofs.Values.{Is, layer_of_has}
use Rattle.cfg_laws.proofs.Walk.{Leaves, body_tells}
use Rattle.cfg_laws.proofs.Whole.{IsOfBodies, StandsThere, stands_listed}

some_value : {A : Type 0} (a b : A) → Some a ≡ Some b → a ≡ b
some_value a b e = ap (λ o. elim o [ None ↦ a | Some x ↦ x ]) e

mapped : {A B : Type 0} (f : A → B) (o : Option A) (b : B) → option_map f o ≡ Some b → (a : A) × (f a ≡ b)
mapped f None b e = absurd (let g : None ≡ Some b = e in cc)
mapped f (Some a) b e = (a, some_value (f a) b e)

joined_value : {A B C : Type 0} (f : A → B → C) (x : Option A) (y : Option B) (c : C) → join f x y ≡ Some c → (a : A) × (b : B) × (f a b ≡ c)
joined_value f None y c e = absurd (let g : None ≡ Some c = e in cc)
joined_value f (Some a) None c e = absurd (let g : None ≡ Some c = e in cc)
joined_value f (Some a) (Some b) c e = (a, b, some_value (f a b) c e)

if_some : {A : Type 0} (b : Bool) (a : A) → is_some (if b then Some a else None) ≡ b
if_some true a = refl
if_some false a = refl

module _ (kind : RouteKind) where
  -- a layer that is read is assigned exactly where this holds
  record Lays (m : Checked Layer) (w : Bool) : Type 0 where
    pub fits : (s : Seen) (l : Layer) → (m s).value ≡ Some l → is_some (target_in kind l) ≡ w

  accepted_lays : (l : Layer) (w : Bool) → is_some (target_in kind l) ≡ w → Lays (accepted l) w
  accepted_lays l w is = record { fits = λ s k e. subst (λ x. is_some (target_in kind x) ≡ w) (some_value l k e) is }

  refused_lays : (p : Place) (w : Bool) → Lays (refused UnknownVariable p) w
  refused_lays p w = record { fits = λ s l e. absurd (let g : None ≡ Some l = e in cc) }

  one_lays : {A : Type 0} (f : A → Layer) (m : Checked A) (w : Bool) → ((a : A) → is_some (target_in kind (f a)) ≡ w) → Lays (one f m) w
  one_lays f m w is = record { fits = λ s l e. let k = mapped f (m s).value l e in subst (λ x. is_some (target_in kind x) ≡ w) k.1 (is k.0) }

  some_lays : {A : Type 0} (o : Option A) (p : Place) (next : A → Checked Layer) (w : Bool) → ((a : A) → Lays (next a) w) → Lays (from_some o UnknownVariable p next) w
  some_lays None p next w is = refused_lays p w
  some_lays (Some a) p next w is = is a

  if_lays : (t : Bool) (m n : Checked Layer) (b c : Bool) → Lays m b → Lays n c → Lays (if t then m else n) (if t then b else c)
  if_lays true m n b c j k = j
  if_lays false m n b c j k = k

  if_same : (t : Bool) (m n : Checked Layer) (w : Bool) → (t ≡ true → Lays m w) → Lays n w → Lays (if t then m else n) w
  if_same true m n w j k = j refl
  if_same false m n w j k = k

  row_lays : {A : Type 0} (t : Bool) (a : A) (o : Option A) (p : Place) (next : A → Checked Layer) (w : Bool) → (t ≡ true → Lays (next a) w) → Lays (from_some o UnknownVariable p next) w →
      Lays (from_some (if t then Some a else o) UnknownVariable p next) w
  row_lays true a o p next w j k = j refl
  row_lays false a o p next w j k = k

  abbrev Every : {X : Type 0} → (X → Type 0) → List X → Type 0
  Every P [] = Unit {0}
  Every P (x ∷ xs) = P x × Every P xs

  named_lays : {A : Type 0} (name : List ℕ) (rows : List (List ℕ × A)) (p : Place) (next : A → Checked Layer) (w : List ℕ → Bool) →
      Every (λ (row : List ℕ × A). Lays (next row.1) (w row.0)) rows → Lays (from_some (named name rows) UnknownVariable p next) (w name)
  named_lays name [] p next w every = refused_lays p (w name)
  named_lays name (row ∷ rows) p next w every =
      row_lays (bytes_eq name row.0) row.1 (named name rows) p next (w name)
      (λ t. subst (λ n. Lays (next row.1) (w n)) (sym ((bytes_eq-Decides name row.0).0 t)) every.0) (named_lays name rows p next w every.1)

  -- ---- the host's variables

  host_lays : (x : PvUse) (w : Bool) → may_write kind x ≡ w → Lays (host_layer x) w
  host_lays x w is = accepted_lays (Part-F.Host x) w (if_some (may_write kind x) (target.Host x) ∙ is)

  abbrev RowsFit : (List ℕ → Bool) → List (List ℕ × PvUse) → Type 0
  RowsFit w [] = Unit {0}
  RowsFit w (row ∷ rows) = (may_write kind row.1 ≡ w row.0) × RowsFit w rows

  hosts_lay : (w : List ℕ → Bool) (rows : List (List ℕ × PvUse)) → RowsFit w rows → Every (λ (row : List ℕ × PvUse). Lays (host_layer row.1) (w row.0)) rows
  hosts_lay w [] fit = tt
  hosts_lay w (row ∷ rows) fit = (host_lays row.1 (w row.0) fit.0, hosts_lay w rows fit.1)

-- ---- the table of names, for each kind of block

abbrev target_word : RouteKind → List ℕ → Bool
target_word kind name = among name target_words && changes_request kind

hosts_fit : (kind : RouteKind) → RowsFit kind (target_word kind) host_names
hosts_fit Route = (refl, (refl, (refl, (refl, (refl, (refl, (refl, (refl, (refl, (refl, (refl, (refl, (refl, (refl, (refl, (refl, (refl, (refl, (refl, (refl, (refl, (refl, tt))))))))))))))))))))))
hosts_fit (Begins Request) = (refl, (refl, (refl, (refl, (refl, (refl, (refl, (refl, (refl, (refl, (refl, (refl, (refl, (refl, (refl, (refl, (refl, (refl, (refl, (refl, (refl, (refl, tt))))))))))))))))))))))
hosts_fit (Begins Branch) = (refl, (refl, (refl, (refl, (refl, (refl, (refl, (refl, (refl, (refl, (refl, (refl, (refl, (refl, (refl, (refl, (refl, (refl, (refl, (refl, (refl, (refl, tt))))))))))))))))))))))
hosts_fit (Begins Failure) = (refl, (refl, (refl, (refl, (refl, (refl, (refl, (refl, (refl, (refl, (refl, (refl, (refl, (refl, (refl, (refl, (refl, (refl, (refl, (refl, (refl, (refl, tt))))))))))))))))))))))
hosts_fit (Begins Reply) = (refl, (refl, (refl, (refl, (refl, (refl, (refl, (refl, (refl, (refl, (refl, (refl, (refl, (refl, (refl, (refl, (refl, (refl, (refl, (refl, (refl, (refl, tt))))))))))))))))))))))
hosts_fit (Begins Event) = (refl, (refl, (refl, (refl, (refl, (refl, (refl, (refl, (refl, (refl, (refl, (refl, (refl, (refl, (refl, (refl, (refl, (refl, (refl, (refl, (refl, (refl, tt))))))))))))))))))))))

suspensions_fit : (kind : RouteKind) → RowsFit kind (λ n. false) suspension_names
suspensions_fit Route = (refl, (refl, tt))
suspensions_fit (Begins Request) = (refl, (refl, tt))
suspensions_fit (Begins Branch) = (refl, (refl, tt))
suspensions_fit (Begins Failure) = (refl, (refl, tt))
suspensions_fit (Begins Reply) = (refl, (refl, tt))
suspensions_fit (Begins Event) = (refl, (refl, tt))

avp_fits : (kind : RouteKind) (n : List ℕ) → may_write kind (pv.Avp n) ≡ has_message kind
avp_fits Route n = refl
avp_fits (Begins Request) n = refl
avp_fits (Begins Branch) n = refl
avp_fits (Begins Failure) n = refl
avp_fits (Begins Reply) n = refl
avp_fits (Begins Event) n = refl

header_fits : (kind : RouteKind) (n : List ℕ) → may_write kind (pv.Header n) ≡ false
header_fits Route n = refl
header_fits (Begins Request) n = refl
header_fits (Begins Branch) n = refl
header_fits (Begins Failure) n = refl
header_fits (Begins Reply) n = refl
header_fits (Begins Event) n = refl

item_fits : (kind : RouteKind) (t : ℕ) → may_write kind (item_of table.Item t []) ≡ true
item_fits Route t = refl
item_fits (Begins Request) t = refl
item_fits (Begins Branch) t = refl
item_fits (Begins Failure) t = refl
item_fits (Begins Reply) t = refl
item_fits (Begins Event) t = refl

seconds_fits : (kind : RouteKind) (t : ℕ) → may_write kind (item_of table.Seconds t []) ≡ true
seconds_fits Route t = refl
seconds_fits (Begins Request) t = refl
seconds_fits (Begins Branch) t = refl
seconds_fits (Begins Failure) t = refl
seconds_fits (Begins Reply) t = refl
seconds_fits (Begins Event) t = refl

increment_fits : (kind : RouteKind) (t : ℕ) → may_write kind (item_of table.Increment t []) ≡ false
increment_fits Route t = refl
increment_fits (Begins Request) t = refl
increment_fits (Begins Branch) t = refl
increment_fits (Begins Failure) t = refl
increment_fits (Begins Reply) t = refl
increment_fits (Begins Event) t = refl

decrement_fits : (kind : RouteKind) (t : ℕ) → may_write kind (item_of table.Decrement t []) ≡ false
decrement_fits Route t = refl
decrement_fits (Begins Request) t = refl
decrement_fits (Begins Branch) t = refl
decrement_fits (Begins Failure) t = refl
decrement_fits (Begins Reply) t = refl
decrement_fits (Begins Event) t = refl

module _ (kind : RouteKind) where
  bare_lays : (p : Place) (name : List ℕ) → Lays kind (bare_layer p name) (target_word kind name)
  bare_lays p name =
      if_same kind (bytes_eq name (codes "rc")) _ _ (target_word kind name)
      (λ t. subst (λ n. Lays kind (accepted Part-F.Code) (target_word kind n)) (sym ((bytes_eq-Decides name (codes "rc")).0 t)) (accepted_lays kind Part-F.Code false refl))
      (if_same kind (bytes_eq name (codes "retcode")) _ _ (target_word kind name)
      (λ t. subst (λ n. Lays kind (accepted Part-F.Code) (target_word kind n)) (sym ((bytes_eq-Decides name (codes "retcode")).0 t)) (accepted_lays kind Part-F.Code false refl))
      (named_lays kind name host_names p host_layer (target_word kind) (hosts_lay kind (target_word kind) host_names (hosts_fit kind))))

  item_lays : (known : Known) (expand : List ℕ → Checked (List Part)) (p : Place) (way : TableUse) (inner : List ℕ) (w : Bool) → ((t : ℕ) → may_write kind (item_of way t []) ≡ w) →
      Lays kind (item_layer known expand p way inner) w
  item_lays known expand p way inner w is = some_lays kind (table_and_key inner) p _ w (λ split. some_lays kind (position (bytes_eq split.0) known.tables) p _ w (λ t.
      one_lays kind (λ key. Part-F.Item way t key) (expand split.1) w (λ key. if_some (may_write kind (item_of way t [])) (target.Item way t key) ∙ is t)))

  inner_lays : (known : Known) (expand : List ℕ → Checked (List Part)) (p : Place) (name inner : List ℕ) → Lays kind (inner_layer known expand p name inner) (word_written kind name (Some inner))
  inner_lays known expand p name inner =
      if_lays kind (bytes_eq name (codes "var")) _ _ _ _ (some_lays kind (some_text inner) p _ true (λ n. one_lays kind (λ x. Part-F.Var x) (var_number n) true (λ x. refl)))
      (if_lays kind (bytes_eq name (codes "avp")) _ _ _ _ (some_lays kind (avp_name inner) p _ (has_message kind) (λ n. host_lays kind (pv.Avp n) (has_message kind) (avp_fits kind n)))
      (if_lays kind (bytes_eq name (codes "hdr")) _ _ _ _ (some_lays kind (some_text inner) p _ false (λ n. host_lays kind (pv.Header n) false (header_fits kind n)))
      (if_lays kind (bytes_eq name (codes "T")) _ _ _ _ (named_lays kind inner suspension_names p host_layer (λ n. false) (hosts_lay kind (λ n. false) suspension_names (suspensions_fit kind)))
      (named_lays kind name table_names p (λ way. item_layer known expand p way inner) (λ n. among n item_words) (
        item_lays known expand p table.Item inner true (item_fits kind),
        (
          item_lays known expand p table.Seconds inner true (seconds_fits kind),
          (item_lays known expand p table.Increment inner false (increment_fits kind), (item_lays known expand p table.Decrement inner false (decrement_fits kind), tt)),
        ),
      )))))

  untransformed_lays : (known : Known) (expand : List ℕ → Checked (List Part)) (p : Place) (v : Variable) (o : Option (List ℕ)) → Lays kind (untransformed known expand p v o) (word_written kind v.name o)
  untransformed_lays known expand p v None = bare_lays p v.name
  untransformed_lays known expand p v (Some inner) = inner_lays known expand p v.name inner

  form_lays : (layer : Checked Layer) (name : List ℕ) (inner : Option (List ℕ)) (p : Place) → Lays kind layer (word_written kind name inner) → (o : Option (List ℕ)) →
      Lays kind (transformed_layer p layer o) (form_written kind name inner o)
  form_lays layer name inner p lays None = lays
  form_lays layer name inner p lays (Some transformation) = record {
    fits = λ s l e.
        let other : Checked Transformation = from_some (named transformation transformation_names) UnknownVariable p accepted in
        let k = joined_value (λ x tr. Part-F.Transformed tr (roll-Part x)) (layer s).value (other (layer s).seen).value l e in
        subst (λ x. is_some (target_in kind x) ≡ false) k.2 refl;
  }

  written_lays : (known : Known) (p : Place) (v : Variable) → Lays kind (layer_of known p v) (variable_written kind v)
  written_lays known p v =
      form_lays (untransformed known (expansion_within 31 known p) p v v.inner) v.name v.inner p (untransformed_lays known (expansion_within 31 known p) p v v.inner) v.transformation

-- ---- assignments

module _ (raw : RawScript) (at : Place) where
  abbrev here : Refusal
  here = refusal NotWritable at

  abbrev known : Known
  known = known_of raw

  other_kinds : IsOther here
  other_kinds = record {
    function = apart 10 at UnknownFunction (λ n. omega (arith, n));
    block = apart 10 at WrongBlock (λ n. omega (arith, n));
    arguments = apart 10 at WrongArguments (λ n. omega (arith, n));
    variable = apart 10 at UnknownVariable (λ n. omega (arith, n));
  }

  of_bodies : IsOfBodies here
  of_bodies = record {
    parameter = apart 10 at BadParameter (λ n. omega (arith, n));
    limit = apart 10 at TooLarge (λ n. omega (arith, n));
    loaded = apart 10 at UnknownModule (λ n. omega (arith, n));
    twice = apart 10 at RouteTwice (λ n. omega (arith, n));
    request = apart 10 at NoRequestRoute (λ n. omega (arith, n));
  }

  block_silent : (kind : RouteKind) (w : Word) → Silent here (block_number known kind w)
  block_silent kind w =
      from_some_silent here (position (is_same_block (kind, Some w.text)) known.blocks) UnknownRoute w.at accepted (apart 10 at UnknownRoute (λ n. omega (arith, n)) w.at) (accepted_silent here)

  patterns_silent : (p : Place) (source : List ℕ) → Silent here (pattern_number p source)
  patterns_silent p source = pattern_silent here (apart 10 at BadPattern (λ n. omega (arith, n))) (apart 10 at TooLarge (λ n. omega (arith, n))) p source

  call_silent : (kind : RouteKind) (c : RawCall) → Silent here (call_in known kind c)
  call_silent kind c = same_tells here (call_in known kind c) (no_call c) (λ h. absurd h) (call_tells here other_kinds known NoBlock NoPattern block_silent patterns_silent kind c)

  abbrev Unwritten : RouteKind → RawVariable → Type 0
  Unwritten kind v = (at ≡ v.at) × (variable_is_known raw v.variable ≡ true) × (variable_written kind v.variable ≡ false)

  as_only : (p : Place) (rs : List Refusal) (s : Seen) (o : Option Target) (w : Bool) → is_some o ≡ w → (In here rs → ⊥) → In here (found_as NotWritable p rs s o).refusals → (at ≡ p) × (w ≡ false)
  as_only p rs s None w is none h = elim (in_parts here rs (refusal NotWritable p ∷ []) h) [
    | inl k ↦ absurd (none k)
    | inr k ↦ (sym (ap (λ (x : Refusal). x.at) (alone here (refusal NotWritable p) k)), sym is)
  ]
  as_only p rs s (Some t) w is none h = absurd (none h)

  as_whole : (p : Place) (rs : List Refusal) (s : Seen) (o : Option Target) (w : Bool) → is_some o ≡ w → at ≡ p → w ≡ false → In here (found_as NotWritable p rs s o).refusals
  as_whole p rs s None w is place e = in_back here rs (refusal NotWritable p ∷ []) (inl (ap (refusal NotWritable) (sym place)))
  as_whole p rs s (Some t) w is place e = absurd (true≢false (is ∙ e))

  found_only : (kind : RouteKind) (v : RawVariable) (rs : List Refusal) (s : Seen) (o : Option Layer) → Is o (variable_is_known raw v.variable) →
      ((l : Layer) → o ≡ Some l → is_some (target_in kind l) ≡ variable_written kind v.variable) → (In here rs → ⊥) → In here (found NotWritable v.at (target_in kind) rs s o).refusals → Unwritten kind v
  found_only kind v rs s None has fits none h = absurd (none h)
  found_only kind v rs s (Some l) has fits none h =
      let k = as_only v.at rs s (target_in kind l) (variable_written kind v.variable) (fits l refl) none h in
      (k.0, has, k.1)

  found_whole : (kind : RouteKind) (v : RawVariable) (rs : List Refusal) (s : Seen) (o : Option Layer) → Is o (variable_is_known raw v.variable) →
      ((l : Layer) → o ≡ Some l → is_some (target_in kind l) ≡ variable_written kind v.variable) → Unwritten kind v → In here (found NotWritable v.at (target_in kind) rs s o).refusals
  found_whole kind v rs s None has fits u = absurd (true≢false (sym u.1 ∙ has))
  found_whole kind v rs s (Some l) has fits u = as_whole v.at rs s (target_in kind l) (variable_written kind v.variable) (fits l refl) u.0 u.2

  target_tells : (kind : RouteKind) (v : RawVariable) → Tells here (target_of known kind v) (Unwritten kind v)
  target_tells kind v =
      let has = layer_of_has v.at known v.variable in
      let lays = written_lays kind known v.at v.variable in
      record {
        only = λ s h. let read = layer_of known v.at v.variable s in
            found_only kind v read.refusals read.seen read.value (has.has s) (lays.fits s) (λ k. (layer_of_silent here other_kinds.variable known v.at v.variable).only s k) h;
        whole = λ s u. let read = layer_of known v.at v.variable s in found_whole kind v read.refusals read.seen read.value (has.has s) (lays.fits s) u;
      }

  abbrev Tell : RouteKind → Leaf → Type 0
  Tell kind (Calls c) = ⊥
  Tell kind (Reads v) = ⊥
  Tell kind (Matches w) = ⊥
  Tell kind (Assigns v) = Unwritten kind v

  body_here : (b : RawBlock) → Leaves here (Tell b.kind) (body_in known b) (body_leaves b)
  body_here b = body_tells here known b.kind (Tell b.kind) of_bodies.limit (call_silent b.kind) (λ v. part_of_silent here other_kinds.variable known v.at v.variable)
      (λ w. patterns_silent w.at w.text) (target_tells b.kind) b.body

  unwritten_from : StandsThere raw Tell → AssignsUnwritten raw at
  unwritten_from (kind, Calls c, stands, t) = absurd t
  unwritten_from (kind, Reads v, stands, t) = absurd t
  unwritten_from (kind, Matches w, stands, t) = absurd t
  unwritten_from (kind, Assigns v, stands, t) = record { kind = kind; variable = v; stands = stands; known = t.1; unwritten = t.2; place = t.0 }

  pub not_written : Exactly (IsListed raw NotWritable at) (AssignsUnwritten raw at)
  not_written =
      let told = stands_listed raw here Tell of_bodies body_here in
      (λ h. unwritten_from (told.0 h), λ u. told.1 (u.kind, Assigns u.variable, u.stands, (u.place, u.known, u.unwritten)))
