-- Blocks are found at the first place of their kind and name.
use Rattle.std.proofs.Common.{◌≡◌, ◌≢◌, ℕ, suc, ◌+◌, ◌<◌, ◌==◌, ◌&&◌, Bool, true, false, not, cond, if◌then◌else◌, List, [], ◌∷◌, ◌++◌, length, map, Option, Some, None, is_some, Bor, refl, sym, ap, ◌∙◌, subst, inl, inr, arith}
use Rattle.std.specs.Prelude.{option_map, position, nat_lt}
use Rattle.std.specs.List.{position_or_len}
use Rattle.std.specs.Option.{option_copied}
use Rattle.std.proofs.lemmas.List.{map-append, length-map}
use Rattle.std.specs.Map.{lookup}
use Rattle.std.specs.Str.{bytes_eq}
use Rattle.std.proofs.Math.Nat.{ℕ_set}
use Rattle.std.proofs.Math.Logic.{∥∥₁_elim}
use Rattle.std.proofs.lemmas.Bool.{cases_Bool, false≢true}
use Rattle.std.proofs.lemmas.Bool.Decides.{nat_tests}
use Rattle.std.proofs.lemmas.Slice.Eq.{bytes_eq-Decides}
use Rattle.pv_values.specs.declared.block.BlockKind.TheVariants.{Request, Branch, Failure, Reply, Event}
use Rattle.cfg_tree.specs.declared.raw.RouteKind.{RouteKind}
use Rattle.cfg_tree.specs.declared.raw.RouteKind.TheVariants.{Route, Begins}
use Rattle.cfg_tree.specs.Functions.{kind_number, is_same_name, is_same_block}
use Rattle.cfg_calls.specs.declared.head.BlockHead.{BlockHead}
use Rattle.cfg_calls.specs.Heads.{shown, same_head, FindsFirst}

-- ---- the first place at which a test passes

first : {X : Type 0} → (X → Bool) → List X → Option ℕ
first p [] = None
first p (x ∷ xs) = cond (p x) (Some 0) (option_map suc (first p xs))

later : (b : Bool) (n : ℕ) → cond b (Some (1 + n)) None ≡ option_map suc (cond b (Some n) None)
later true n = ap Some (omega arith)
later false n = refl

placed : (b : Bool) (n m : ℕ) → cond (nat_lt (cond (not b) (1 + n) 0) (suc m)) (Some (cond (not b) (1 + n) 0)) None ≡ cond b (Some 0) (option_map suc (cond (nat_lt n m) (Some n) None))
placed true n m = let some : nat_lt 0 (suc m) ≡ true = grind (arith, nat_tests) in rw some refl
placed false n m = let e : nat_lt (1 + n) (suc m) ≡ nat_lt n m = grind (arith, nat_tests) in rw e (later (nat_lt n m) n)

position_first : {X : Type 0} (p : X → Bool) (xs : List X) → position p xs ≡ first p xs
unfolding first
position_first p [] = refl
position_first p (x ∷ xs) = placed (p x) (position_or_len p xs) (length xs) ∙ ap (λ o. cond (p x) (Some 0) (option_map suc o)) (position_first p xs)

-- of a list with one more: the place before, or the end
or_end : Option ℕ → ℕ → Bool → Option ℕ
or_end (Some n) end next = Some n
or_end None end true = Some end
or_end None end false = None

end_later : (b : Bool) (o : Option ℕ) (n m : ℕ) (next : Bool) → m ≡ suc n → cond b (Some 0) (option_map suc (or_end o n next)) ≡ or_end (cond b (Some 0) (option_map suc o)) m next
unfolding or_end
end_later true o n m next e = refl
end_later false (Some k) n m next e = refl
end_later false None n m true e = ap Some (sym e)
end_later false None n m false e = refl

alone : (b : Bool) → cond b (Some 0) (option_map suc None) ≡ or_end None 0 b
unfolding or_end
alone true = refl
alone false = refl

first-append : {X : Type 0} (p : X → Bool) (xs : List X) (x : X) → first p (xs ++ x ∷ []) ≡ or_end (first p xs) (length xs) (p x)
unfolding first
first-append p [] x = alone (p x)
first-append p (y ∷ ys) x = ap (λ o. cond (p y) (Some 0) (option_map suc o)) (first-append p ys x) ∙ end_later (p y) (first p ys) (length ys) _ (p x) (omega arith)

position-append : {X : Type 0} (p : X → Bool) (xs : List X) (x : X) → position p (xs ++ x ∷ []) ≡ or_end (position p xs) (length xs) (p x)
position-append p xs x = position_first p (xs ++ x ∷ []) ∙ first-append p xs x ∙ ap (λ o. or_end o (length xs) (p x)) (sym (position_first p xs))

-- ---- two blocks of one kind and name are the same

kind_at : ℕ → RouteKind
kind_at n = if n == 0 then Route else if n == 1 then Begins Request else if n == 2 then Begins Branch else if n == 3 then Begins Failure else if n == 4 then Begins Reply else Begins Event

kind_of_number : (k : RouteKind) → kind_at (kind_number k) ≡ k
unfolding kind_at
kind_of_number Route = refl
kind_of_number (Begins Request) = refl
kind_of_number (Begins Branch) = refl
kind_of_number (Begins Failure) = refl
kind_of_number (Begins Reply) = refl
kind_of_number (Begins Event) = refl

same_kind : (a b : RouteKind) → (kind_number a == kind_number b) ≡ true → a ≡ b
same_kind a b h =
    let e : kind_number a ≡ kind_number b = grind (arith, nat_tests) in
    sym (kind_of_number a) ∙ ap kind_at e ∙ kind_of_number b

same_name : (a b : Option (List ℕ)) → is_same_name a b ≡ true → a ≡ b
same_name None None h = refl
same_name None (Some b) h = absurd (false≢true h)
same_name (Some a) None h = absurd (false≢true h)
same_name (Some a) (Some b) h = ap Some ((bytes_eq-Decides a b).0 h)

both_true : (a b : Bool) → (a && b) ≡ true → (a ≡ true) × (b ≡ true)
both_true true true h = (refl, refl)
both_true true false h = absurd (false≢true h)
both_true false b h = absurd (false≢true h)

abbrev Block : Type 0
Block = RouteKind × Option (List ℕ)

same_block : (a b : Block) → is_same_block a b ≡ true → a ≡ b
same_block a b h =
    let each = both_true (kind_number a.0 == kind_number b.0) (is_same_name a.1 b.1) h in
    ap (λ k. (k, a.1)) (same_kind a.0 b.0 each.0) ∙ ap (λ n. (b.0, n)) (same_name a.1 b.1 each.1)

name_itself : (a : Option (List ℕ)) → is_same_name a a ≡ true
name_itself None = refl
name_itself (Some a) = (bytes_eq-Decides a a).1 refl

block_itself : (a : Block) → is_same_block a a ≡ true
block_itself a =
    let kind : (kind_number a.0 == kind_number a.0) ≡ true = grind (arith, nat_tests) in
    rw (kind, name_itself a.1) refl

same_from_other : (a b : Block) → is_same_block b a ≡ true → is_same_block a b ≡ true
same_from_other a b h = subst (λ x. is_same_block a x ≡ true) (sym (same_block b a h)) (block_itself a)

same_both_ways : (a b : Block) → is_same_block a b ≡ is_same_block b a
same_both_ways a b = elim (cases_Bool (is_same_block a b)) [
  | inl t ↦ t ∙ sym (same_from_other b a t)
  | inr f ↦ elim (cases_Bool (is_same_block b a)) [
    | inl t ↦ absurd (false≢true (sym f ∙ same_from_other a b t))
    | inr g ↦ f ∙ sym g
  ]
]

-- ---- one block more

stays : (o : Option ℕ) (n : ℕ) (b : Bool) → (b ≡ true → o ≢ None) → o ≡ or_end o n b
unfolding or_end
stays (Some k) n b h = refl
stays None n true h = absurd (h refl refl)
stays None n false h = refl

-- an earlier one is of its kind and name
pub found_again : (places : List (BlockHead × ℕ)) (blocks : List Block) (x : BlockHead) → position (is_same_block (shown x)) blocks ≢ None →
    FindsFirst places blocks → FindsFirst places (blocks ++ shown x ∷ [])
found_again places blocks x some all h =
    let p = is_same_block (shown h) in
    all h ∙ stays (position p blocks) (length blocks) (p (shown x)) (λ e. subst (λ s. position (is_same_block s) blocks ≢ None) (sym (same_block (shown h) (shown x) e)) some)
    ∙ sym (position-append p blocks (shown x))

some_is_none : (n : ℕ) → Some n ≡ None → ⊥
some_is_none n h = grind arith

ends : (o : Option ℕ) (n : ℕ) (b : Bool) → (b ≡ true → o ≡ None) → cond b (Some n) o ≡ or_end o n b
unfolding or_end
ends None n true h = refl
ends None n false h = refl
ends (Some k) n true h = absurd (some_is_none k (h refl))
ends (Some k) n false h = refl

-- it is the first one, and was put after the others
pub found_new : (places new : List (BlockHead × ℕ)) (blocks : List Block) (key x : BlockHead) (n : ℕ) → position (is_same_block (shown x)) blocks ≡ None → shown key ≡ shown x → n ≡ length blocks →
    ((h : BlockHead) → lookup (same_head h) new ≡ cond (same_head key h) (Some n) (lookup (same_head h) places)) → FindsFirst places blocks → FindsFirst new (blocks ++ shown x ∷ [])
found_new places new blocks key x n none same end put all h =
    let p = is_same_block (shown h) in
    let o = position p blocks in
    let turned : same_head key h ≡ p (shown x) = ap (λ s. is_same_block s (shown h)) same ∙ same_both_ways (shown x) (shown h) in
    put h ∙ ap (λ m. cond (same_head key h) (Some m) (lookup (same_head h) places)) end
    ∙ ap (λ b. cond b (Some (length blocks)) (lookup (same_head h) places)) turned ∙ ap (cond (p (shown x)) (Some (length blocks))) (all h)
    ∙ ends o (length blocks) (p (shown x)) (λ e. ap (λ s. position (is_same_block s) blocks) (same_block (shown h) (shown x) e) ∙ none)
    ∙ sym (position-append p blocks (shown x))

-- of no blocks
pub found_nowhere : FindsFirst [] []
found_nowhere h = refl

-- ---- a test of kinds and names, in place of this one
pub by_test : (test : BlockHead → Bool) (h : BlockHead) (places : List (BlockHead × ℕ)) → ((k : BlockHead) → test k ≡ same_head h k) → lookup test places ≡ lookup (same_head h) places
by_test test h [] e = refl
by_test test h (p ∷ ps) e = ap (λ b. cond b (Some p.1) (lookup test ps)) (e p.0) ∙ ap (λ o. cond (same_head h p.0) (Some p.1) o) (by_test test h ps e)

-- the place that is found
pub place_found : (test : BlockHead → Bool) (h : BlockHead) (places : List (BlockHead × ℕ)) (blocks meant : List Block) → ((k : BlockHead) → test k ≡ same_head h k) →
    FindsFirst places blocks → blocks ≡ meant → lookup test places ≡ position (is_same_block (shown h)) meant
place_found test h places blocks meant e all is = by_test test h places e ∙ all h ∙ ap (position (is_same_block (shown h))) is

copied_some : (r : Option (Bor ℕ)) → is_some r ≡ true → option_copied r ≢ None
copied_some (Some b) some h = some_is_none b.now h
copied_some None some h = absurd (false≢true some)

copied_none : (r : Option (Bor ℕ)) → is_some r ≡ false → option_copied r ≡ None
copied_none (Some b) none = absurd (false≢true (sym none))
copied_none None none = refl

shown_more : (heads more : List BlockHead) (x : BlockHead) → more ≡ heads ++ x ∷ [] → map shown more ≡ map shown heads ++ shown x ∷ []
shown_more heads more x is = ap (map shown) is ∙ map-append shown heads (x ∷ [])

-- one more, of a kind and name that were there
pub added_again : (test : BlockHead → Bool) (places new : List (BlockHead × ℕ)) (heads more : List BlockHead) (x : BlockHead) (r : Option (Bor ℕ)) → ((k : BlockHead) → test k ≡ same_head x k) →
    option_copied r ≡ lookup test places → is_some r ≡ true → new ≡ places → more ≡ heads ++ x ∷ [] → FindsFirst places (map shown heads) → FindsFirst new (map shown more)
added_again test places new heads more x r e got some kept is all =
    let blocks = map shown heads in
    let found = got ∙ by_test test x places e ∙ all x in
    let put = found_again places blocks x (λ none. copied_some r some (found ∙ none)) all in
    subst (λ ps. FindsFirst ps (map shown more)) (sym kept) (subst (FindsFirst places) (sym (shown_more heads more x is)) put)

-- one more, of a kind and name that were not
pub added_new : (test : BlockHead → Bool) (eq : BlockHead → BlockHead → Bool) (places new : List (BlockHead × ℕ)) (heads more : List BlockHead) (key x : BlockHead) (n : ℕ) (r : Option (Bor ℕ)) →
    ((k : BlockHead) → test k ≡ same_head x k) → ((k q : BlockHead) → eq k q ≡ same_head k q) → option_copied r ≡ lookup test places → is_some r ≡ false → shown key ≡ shown x →
    n ≡ length heads → ((q : BlockHead) → lookup (eq q) new ≡ cond (eq key q) (Some n) (lookup (eq q) places)) → more ≡ heads ++ x ∷ [] →
    FindsFirst places (map shown heads) → FindsFirst new (map shown more)
added_new test eq places new heads more key x n r e same got none keyed end updates is all =
    let blocks = map shown heads in
    let absent = sym (got ∙ by_test test x places e ∙ all x) ∙ copied_none r none in
    let put = found_new places new blocks key x n absent keyed (end ∙ sym (length-map heads shown)) (λ h.
    sym (by_test (eq h) h new (same h)) ∙ updates h ∙ ap (λ b. cond b (Some n) (lookup (eq h) places)) (same key h)
    ∙ ap (λ o. cond (same_head key h) (Some n) o) (by_test (eq h) h places (same h))) all in
    subst (FindsFirst new) (sym (shown_more heads more x is)) put

-- ---- a place is known that is merely known to be one
code : Option ℕ → ℕ
code None = 0
code (Some n) = suc n

decoded : (a b : Option ℕ) → code a ≡ code b → a ≡ b
unfolding code
decoded None None e = refl
decoded None (Some n) e = absurd (omega (arith, e))
decoded (Some n) None e = absurd (omega (arith, e))
decoded (Some m) (Some n) e = ap Some (omega (arith, e))

pub known_place : (a b : Option ℕ) → ∥ a ≡ b ∥₁ → a ≡ b
known_place a b h = decoded a b (∥∥₁_elim h (ℕ_set (code a) (code b)) (ap code))
