-- A second block of one kind and name, and a script without a request route.
use Rattle.std.proofs.Common.{◌≡◌, ◌⊎◌, ℕ, nat_le, Bool, true, false, ◌||◌, if◌then◌else◌, List, [], ◌∷◌, ◌++◌, map, length, Option, Some, None, Contains, refl, sym, ap, ◌∙◌, subst, inl, inr, append_assoc, append-nil, arith}
use Rattle.std.specs.List.{list_any}
use Rattle.std.proofs.lemmas.Bool.{false≢true}
use Rattle.pv_values.specs.declared.refusal.Place.{Place}
use Rattle.pv_values.specs.declared.block.BlockKind.TheVariants.{Request}
use Rattle.cfg_tree.specs.declared.raw.Word.{Word}
use Rattle.cfg_tree.specs.declared.raw.RawBlock.{RawBlock}
use Rattle.cfg_tree.specs.declared.raw.RawScript.{RawScript}
use Rattle.cfg_tree.specs.declared.raw.RouteKind.{RouteKind}
use Rattle.cfg_tree.specs.declared.raw.RouteKind.TheVariants.{Begins}
use Rattle.cfg_tree.specs.Functions.{is_same_block}
use Rattle.cfg_tree.specs.Checks.{blocks_of, block_name, name_text, name_place, twice, too_many, block_refusals, unnamed, no_request, known_of}
use Rattle.cfg_tree.specs.Refusals.{Refusal, refusal}
use Rattle.cfg_tree.specs.declared.refusal_kind.RefusalKind.TheVariants.{UnknownRoute, RouteTwice, UnknownFunction, WrongBlock, WrongArguments, UnknownVariable, NotWritable, BadParameter, BadPattern, TooLarge, NoRequestRoute, UnknownModule}
use Rattle.cfg_laws.specs.Causes.{Exactly, IsListed, IsSecond, LacksRequest}
use Rattle.cfg_laws.proofs.Telling.{In, in_front, in_back, in_parts, in_from_contains, contains_from_in, alone}
use Rattle.cfg_laws.proofs.Positions.{position_none, position_one, same_block, block_from}
use Rattle.cfg_laws.proofs.Routes.{block_mapped, mapped_block}
use Rattle.cfg_laws.proofs.Apart.{apart, IsOfNoBody, no_body}
use Rattle.cfg_laws.proofs.Whole.{if_none, settings_none, blocks_none, request_none, all_parts, all_from, Of_all, of_settings, of_blocks, of_bodies, of_request}

abbrev Block : Type 0
Block = RouteKind × Option (List ℕ)

-- ---- some one that passes a test

pub or_parts : (a b : Bool) → (a || b) ≡ true → (a ≡ true) ⊎ (b ≡ true)
or_parts true b e = inl refl
or_parts false b e = inr e

pub or_left : (a b : Bool) → a ≡ true → (a || b) ≡ true
or_left true b e = refl
or_left false b e = absurd (false≢true e)

pub or_right : (a b : Bool) → b ≡ true → (a || b) ≡ true
or_right true b e = refl
or_right false b e = e

pub any_one : {X : Type 0} (p : X → Bool) (xs : List X) → list_any p xs ≡ true → (x : X) × In x xs × (p x ≡ true)
any_one p [] e = absurd (false≢true e)
any_one p (x ∷ xs) e = elim (or_parts (p x) (list_any p xs) e) [
  | inl t ↦ (x, inl refl, t)
  | inr t ↦ let k = any_one p xs t in (k.0, inr k.1, k.2)
]

pub one_any : {X : Type 0} (p : X → Bool) (xs : List X) (x : X) → In x xs → p x ≡ true → list_any p xs ≡ true
one_any p [] x h t = absurd h
one_any p (y ∷ ys) x (inl e) t = or_left (p y) (list_any p ys) (subst (λ z. p z ≡ true) (sym e) t)
one_any p (y ∷ ys) x (inr h) t = or_right (p y) (list_any p ys) (one_any p ys x h t)

-- ---- the second of two

-- among these blocks one stands that is like an earlier one
record Again (at : Place) (earlier : List Block) (bs : List RawBlock) : Type 0 where
  pub before : List RawBlock
  pub block : RawBlock
  pub behind : List RawBlock
  pub order : bs ≡ before ++ block ∷ behind
  pub first : Block
  pub is_before : In first (earlier ++ map block_name before)
  pub same : is_same_block (block_name block) first ≡ true
  pub place : at ≡ name_place block.kind_at block.name

if_in : (r : Refusal) (b : Bool) (x : Refusal) → In r (if b then x ∷ [] else []) → (b ≡ true) × (x ≡ r)
if_in r true x h = (refl, alone r x h)
if_in r false x h = absurd h

in_if_true : (r : Refusal) (b : Bool) (x : Refusal) → b ≡ true → x ≡ r → In r (if b then x ∷ [] else [])
in_if_true r true x e is = inl is
in_if_true r false x e is = absurd (false≢true e)

module _ (at : Place) where
  abbrev here : Refusal
  here = refusal RouteTwice at

  again : (earlier : List Block) (bs : List RawBlock) → In here (block_refusals earlier bs) → Again at earlier bs
  again earlier [] h = absurd h
  again earlier (b ∷ bs) h =
      elim (in_parts here (twice earlier b ++ too_many (length earlier) b) (block_refusals (earlier ++ block_name b ∷ []) bs) h) [
        | inl k ↦ elim (in_parts here (twice earlier b) (too_many (length earlier) b) k) [
          | inl l ↦
              let t = if_in here (list_any (is_same_block (block_name b)) earlier) (refusal RouteTwice (name_place b.kind_at b.name)) l in
              let one = any_one (is_same_block (block_name b)) earlier t.0 in
              record {
                before = [];
                block = b;
                behind = bs;
                order = refl;
                first = one.0;
                is_before = in_front one.0 earlier [] one.1;
                same = one.2;
                place = sym (ap (λ (x : Refusal). x.at) t.1);
              }
          | inr l ↦ absurd (if_none here (nat_le 1000 (length earlier)) (refusal TooLarge b.at) (apart 5 at TooLarge (λ n. omega (arith, n)) b.at) l)
        ]
        | inr k ↦
            let rest = again (earlier ++ block_name b ∷ []) bs k in
            record {
              before = b ∷ rest.before;
              block = rest.block;
              behind = rest.behind;
              order = ap (λ xs. b ∷ xs) rest.order;
              first = rest.first;
              is_before = subst (In rest.first) (append_assoc earlier (block_name b ∷ []) (map block_name rest.before)) rest.is_before;
              same = rest.same;
              place = rest.place;
            }
      ]

  listed_again : (before : List RawBlock) (earlier : List Block) (b : RawBlock) (behind : List RawBlock) (first : Block) → In first (earlier ++ map block_name before) →
      is_same_block (block_name b) first ≡ true → at ≡ name_place b.kind_at b.name → In here (block_refusals earlier (before ++ b ∷ behind))
  listed_again [] earlier b behind first there same place =
      in_front here (twice earlier b ++ too_many (length earlier) b) (block_refusals (earlier ++ block_name b ∷ []) behind)
      (in_front here (twice earlier b) (too_many (length earlier) b)
      (in_if_true here (list_any (is_same_block (block_name b)) earlier) (refusal RouteTwice (name_place b.kind_at b.name))
      (one_any (is_same_block (block_name b)) earlier first (subst (In first) (append-nil earlier) there) same) (ap (refusal RouteTwice) (sym place))))
  listed_again (c ∷ before) earlier b behind first there same place =
      in_back here (twice earlier c ++ too_many (length earlier) c) (block_refusals (earlier ++ block_name c ∷ []) (before ++ b ∷ behind))
      (listed_again before (earlier ++ block_name c ∷ []) b behind first (subst (In first) (sym (append_assoc earlier (block_name c ∷ []) (map block_name before))) there) same place)

  none_of_body : IsOfNoBody here
  none_of_body = record {
    other = record {
      function = apart 5 at UnknownFunction (λ n. omega (arith, n));
      block = apart 5 at WrongBlock (λ n. omega (arith, n));
      arguments = apart 5 at WrongArguments (λ n. omega (arith, n));
      variable = apart 5 at UnknownVariable (λ n. omega (arith, n));
    };
    route = apart 5 at UnknownRoute (λ n. omega (arith, n));
    written = apart 5 at NotWritable (λ n. omega (arith, n));
    pattern = apart 5 at BadPattern (λ n. omega (arith, n));
    limit = apart 5 at TooLarge (λ n. omega (arith, n));
  }

  among_blocks : (raw : RawScript) → Of_all raw here → In here (block_refusals [] (blocks_of raw.items))
  among_blocks raw (of_settings h) = absurd (settings_none here (apart 5 at BadParameter (λ n. omega (arith, n))) (apart 5 at TooLarge (λ n. omega (arith, n))) raw.items
      (λ w there is e. apart 5 at UnknownModule (λ n. omega (arith, n)) w.at e) h)
  among_blocks raw (of_blocks h) = h
  among_blocks raw (of_bodies h) = absurd (no_body here none_of_body raw h)
  among_blocks raw (of_request h) = absurd (request_none here (apart 5 at NoRequestRoute (λ n. omega (arith, n))) raw (unnamed Request raw) h)

  second_from : (raw : RawScript) → Again at [] (blocks_of raw.items) → IsSecond raw at
  second_from raw a =
      let first = block_mapped a.before a.first a.is_before in
      let same = same_block (block_name a.block) a.first a.same in
      record {
        before = a.before;
        block = a.block;
        behind = a.behind;
        order = a.order;
        first = first.0;
        is_before = contains_from_in first.0 a.before first.1;
        one_kind = ap (λ (x : Block). x.0) first.2 ∙ sym same.0;
        one_name = ap (λ (x : Block). x.1) first.2 ∙ sym same.1;
        place = a.place;
      }

  pub seconds : (raw : RawScript) → Exactly (IsListed raw RouteTwice at) (IsSecond raw at)
  seconds raw = (
    λ h. second_from raw (again [] (blocks_of raw.items) (among_blocks raw (all_parts raw here h))),
    λ s. all_from raw here (of_blocks (subst (λ bs. In here (block_refusals [] bs)) (sym s.order)
        (listed_again s.before [] s.block s.behind (block_name s.first) (mapped_block s.before s.first (in_from_contains s.first s.before s.is_before))
        (block_from (block_name s.block) (block_name s.first) (sym s.one_kind) (sym s.one_name)) s.place))),
  )

-- ---- no request route

module _ (at : Place) where
  abbrev end_here : Refusal
  end_here = refusal NoRequestRoute at

  end_of_no_body : IsOfNoBody end_here
  end_of_no_body = record {
    other = record {
      function = apart 14 at UnknownFunction (λ n. omega (arith, n));
      block = apart 14 at WrongBlock (λ n. omega (arith, n));
      arguments = apart 14 at WrongArguments (λ n. omega (arith, n));
      variable = apart 14 at UnknownVariable (λ n. omega (arith, n));
    };
    route = apart 14 at UnknownRoute (λ n. omega (arith, n));
    written = apart 14 at NotWritable (λ n. omega (arith, n));
    pattern = apart 14 at BadPattern (λ n. omega (arith, n));
    limit = apart 14 at TooLarge (λ n. omega (arith, n));
  }

  of_the_end : (raw : RawScript) → Of_all raw end_here → In end_here (no_request raw (unnamed Request raw))
  of_the_end raw (of_settings h) = absurd (settings_none end_here (apart 14 at BadParameter (λ n. omega (arith, n))) (apart 14 at TooLarge (λ n. omega (arith, n))) raw.items
      (λ w there is e. apart 14 at UnknownModule (λ n. omega (arith, n)) w.at e) h)
  of_the_end raw (of_blocks h) = absurd (blocks_none end_here (apart 14 at RouteTwice (λ n. omega (arith, n))) (apart 14 at TooLarge (λ n. omega (arith, n))) (blocks_of raw.items) [] h)
  of_the_end raw (of_bodies h) = absurd (no_body end_here end_of_no_body raw h)
  of_the_end raw (of_request h) = h

  -- a block of that kind without a name
  none_lacks : (raw : RawScript) → unnamed Request raw ≡ None → (b : RawBlock) → Contains (blocks_of raw.items) b → b.kind ≡ Begins Request → b.name ≡ None → ⊥
  none_lacks raw e b there kind name =
      position_none (is_same_block (Begins Request, None)) (known_of raw).blocks e (block_name b) (mapped_block (blocks_of raw.items) b (in_from_contains b (blocks_of raw.items) there))
      (block_from (Begins Request, None) (block_name b) (sym kind) (sym (ap name_text name)))

  nameless : (o : Option Word) → None ≡ name_text o → o ≡ None
  nameless None e = refl
  nameless (Some w) e = absurd (let f : None ≡ Some w.text = e in cc)

  there_is : (raw : RawScript) (n : ℕ) → unnamed Request raw ≡ Some n → LacksRequest raw at → ⊥
  there_is raw n e lacks =
      let one = position_one (is_same_block (Begins Request, None)) (known_of raw).blocks n e in
      let same = same_block (Begins Request, None) one.0 one.2 in
      let b = block_mapped (blocks_of raw.items) one.0 one.1 in
      lacks.lacks b.0 (contains_from_in b.0 (blocks_of raw.items) b.1) (ap (λ (x : Block). x.0) b.2 ∙ sym same.0) (nameless b.0.name (same.1 ∙ sym (ap (λ (x : Block). x.1) b.2)))

  lacks_from : (raw : RawScript) (o : Option ℕ) → unnamed Request raw ≡ o → In end_here (no_request raw o) → LacksRequest raw at
  lacks_from raw None e h = record { lacks = none_lacks raw e; place = sym (ap (λ (x : Refusal). x.at) (alone end_here _ h)) }
  lacks_from raw (Some n) e h = absurd h

  from_lacks : (raw : RawScript) (o : Option ℕ) → unnamed Request raw ≡ o → LacksRequest raw at → In end_here (no_request raw o)
  from_lacks raw None e lacks = inl (ap (refusal NoRequestRoute) (sym lacks.place))
  from_lacks raw (Some n) e lacks = absurd (there_is raw n e lacks)

  pub no_requests : (raw : RawScript) → Exactly (IsListed raw NoRequestRoute at) (LacksRequest raw at)
  no_requests raw =
      (λ h. lacks_from raw (unnamed Request raw) refl (of_the_end raw (all_parts raw end_here h)), λ l. all_from raw end_here (of_request (from_lacks raw (unnamed Request raw) refl l)))
