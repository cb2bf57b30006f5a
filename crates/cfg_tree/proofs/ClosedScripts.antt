-- The script that a tree stands for is closed.
use Rattle.std.proofs.Common.{◌≡◌, ℕ, Bool, true, ◌==◌, List, [], ◌∷◌, map, length, get_or, IfSome, Option, Some, None, refl, sym, ap, ◌∙◌, subst, arith}
use Rattle.std.proofs.lemmas.List.{length-map}
use Rattle.std.specs.Prelude.{position, option_map, slice_get}
use Rattle.std.proofs.lemmas.Bool.{and_from, and_parts, lt-ltb}
use Rattle.std.proofs.lemmas.Option.{slice_get-map, slice_get-get_or}
use Rattle.std.proofs.lemmas.List.Quantifiers.{position-Some}
use Rattle.pv_values.specs.declared.block.BlockKind.TheVariants.{Request, Reply}
use Rattle.cfg_tree.specs.declared.raw.RouteKind.{RouteKind}
use Rattle.cfg_tree.specs.declared.raw.RouteKind.TheVariants.{Begins}
use Rattle.cfg_tree.specs.declared.raw.RawScript.{RawScript}
use Rattle.cfg_tree.specs.declared.script.Stmt.{Stmt}
use Rattle.cfg_tree.specs.declared.script.Script.{Script}
use Rattle.cfg_tree.specs.Functions.{kind_number, is_same_name, is_same_block}
use Rattle.cfg_tree.specs.Settings.{settings_of, parameters_of}
use Rattle.cfg_tree.specs.Checks.{body_in, bodies_in, blocks_of, block_name, known_of, nothing_seen, bodies_of, unnamed, script_with, script_of}
use Rattle.cfg_tree.specs.Refusals.{Seen, Checked, each}
use Rattle.cfg_tree.specs.Closed.{Names, closed_block, closed_reply, closed_in, names_with, is_below, is_kind, is_block_of, block_kinds, IsClosed, IsClosedWith}
use Rattle.cfg_tree.proofs.Closing.{Within, Closes, join_fine, all_closes, map_closes}
use Rattle.cfg_tree.proofs.ClosedNames.{position_below}
use Rattle.cfg_tree.proofs.ClosedFunctions.{AreKnown}
use Rattle.cfg_tree.proofs.ClosedTrees.{FineStmts, FineLists, body_closes}

-- ---- as many as were read

any : {A : Type 0} (o : Option A) → IfSome o (λ _. Unit {0})
any None = tt
any (Some a) = tt

each_length : {A : Type 0} (ms : List (Checked A)) (s : Seen) → IfSome (each ms s).value (λ xs. length xs ≡ length ms)
each_length [] s = refl
each_length {A} (m ∷ ms) s =
    join_fine (λ a more. a ∷ more) (λ (_ : A). Unit {0}) (λ more. length more ≡ length ms) (λ xs. length xs ≡ length (m ∷ ms)) (λ a more _ q. omega (arith, q))
    (m s).value (each ms (m s).seen).value (any (m s).value) (each_length ms (m s).seen)

-- ---- the script

-- the script of these blocks
abbrev made : RawScript → List (List Stmt) → ℕ → Script
made raw bodies request = record {
  blocks = bodies;
  request = request;
  reply = unnamed Reply raw;
  vars = length (bodies_of raw).seen.vars;
  patterns = (bodies_of raw).seen.patterns;
  tables = map (λ t. t.1) (settings_of raw.items).tables;
  parameters = parameters_of (settings_of raw.items);
}

some_same : {A : Type 0} (a b : A) → Some a ≡ Some b → a ≡ b
some_same {A} a b e = ap (λ (o : Option A). elim o [ None ↦ a | Some x ↦ x ]) e

script_from : (raw : RawScript) (P : Script → Type 0) (bodies : Option (List (List Stmt))) (request : Option ℕ) (script : Script) →
    ((b : List (List Stmt)) (n : ℕ) → bodies ≡ Some b → request ≡ Some n → P (made raw b n)) → script_with raw bodies request ≡ Some script → P script
script_from raw P None request script is e = absurd (let e : None ≡ Some script = e in cc)
script_from raw P (Some b) None script is e = absurd (let e : None ≡ Some script = e in cc)
script_from raw P (Some b) (Some n) script is e = subst P (some_same (made raw b n) script e) (is b n refl refl)

-- where a block is that has this name, there is one of this kind and number
abbrev Has : (RouteKind → ℕ → Bool) → RawScript → Type 0
Has has raw = (kind : RouteKind) (name : Option (List ℕ)) (b : ℕ) → position (is_same_block (kind, name)) (known_of raw).blocks ≡ Some b → has kind b ≡ true

reply_fine : (names : Names) (o : Option ℕ) → ((b : ℕ) → o ≡ Some b → names.has_block (Begins Reply) b ≡ true) → closed_reply names o ≡ true
reply_fine names None is = refl
reply_fine names (Some b) is = is b refl

some_fine : {A : Type 0} (P : A → Type 0) (o : Option A) (a : A) → o ≡ Some a → IfSome o P → P a
some_fine {A} P o a e p = subst (λ (o : Option A). IfSome o P) e p

made_closed : (raw : RawScript) (has : RouteKind → ℕ → Bool) → Has has raw → (b : List (List Stmt)) (n : ℕ) → (bodies_of raw).value ≡ Some b → unnamed Request raw ≡ Some n →
    closed_in (names_with has (made raw b n)) (made raw b n) ≡ true
unfolding bodies_of
made_closed raw has is b n bodies request =
    let names = names_with has (made raw b n) in
    let known = known_of raw in
    let tables = (settings_of raw.items).tables in
    let are : AreKnown names known = record {
      blocks = is;
      tables = omega (arith, length-map tables (λ t. t.0), length-map tables (λ t. t.1));
    } in
    let bs = blocks_of raw.items in
    let within : Within names (bodies_in known bs nothing_seen).seen = record { patterns = omega arith; vars = omega arith } in
    let closes : Closes names (FineLists names) (bodies_in known bs) =
    all_closes names (closed_block names) (map (body_in known) bs) (map_closes names (FineStmts names) (body_in known) (body_closes names known are) bs) in
    let fine = some_fine (FineLists names) (bodies_in known bs nothing_seen).value b bodies (closes.after nothing_seen within).fine in
    and_from _ _ (and_from _ _ (is (Begins Request) None n request) (reply_fine names (unnamed Reply raw) (λ b e. is (Begins Reply) None b e))) fine

made_length : (raw : RawScript) (b : List (List Stmt)) → (bodies_of raw).value ≡ Some b → length b ≡ length (known_of raw).blocks
unfolding bodies_of
made_length raw b bodies =
    let known = known_of raw in
    let bs = blocks_of raw.items in
    some_fine (λ xs. length xs ≡ length (map (body_in known) bs)) (bodies_in known bs nothing_seen).value b bodies (each_length (map (body_in known) bs) nothing_seen)
    ∙ length-map bs (body_in known) ∙ sym (length-map bs block_name)

pub script_is_closed : (raw : RawScript) (script : Script) → script_of raw ≡ Some script → IsClosed script
unfolding script_of
script_is_closed raw script e = script_from raw IsClosed (bodies_of raw).value (unnamed Request raw) script (λ b n bodies request.
    made_closed raw (is_below (length b)) (λ kind name i found.
    let below = position_below (is_same_block (kind, name)) (known_of raw).blocks i found in
    let same = made_length raw b bodies in
    lt-ltb i (length b) (omega (arith, below, same))) b n bodies request) e

kind_is : (blocks : List (RouteKind × Option (List ℕ))) (kind : RouteKind) (name : Option (List ℕ)) (b : ℕ) → position (is_same_block (kind, name)) blocks ≡ Some b →
    is_block_of (map (λ b. b.0) blocks) kind b ≡ true
kind_is [] kind name b e = absurd (let e : None ≡ Some b = e in cc)
kind_is (x ∷ xs) kind name b e =
    let at = position-Some (is_same_block (kind, name)) (x ∷ xs) b x e in
    let y = get_or (x ∷ xs) b x in
    let got : slice_get (map (λ b. b.0) (x ∷ xs)) b ≡ Some y.0 = slice_get-map (λ b. b.0) (x ∷ xs) b ∙ ap (option_map (λ b. b.0)) (slice_get-get_or (x ∷ xs) b x at.0) in
    ap (is_kind kind) got ∙ (and_parts (kind_number kind == kind_number y.0) (is_same_name name y.1) at.1).0

pub script_has_kinds : (raw : RawScript) (script : Script) → script_of raw ≡ Some script → IsClosedWith (block_kinds raw) script
unfolding script_of
script_has_kinds raw script e = script_from raw (IsClosedWith (block_kinds raw)) (bodies_of raw).value (unnamed Request raw) script (λ b n bodies request. record {
  each_has = length-map (known_of raw).blocks (λ b. b.0) ∙ sym (made_length raw b bodies);
  closed = made_closed raw (is_block_of (block_kinds raw)) (λ kind name i found. kind_is (known_of raw).blocks kind name i found) b n bodies request;
}) e
