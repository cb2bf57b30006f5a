-- What follows a check: of one value, of several, and of a list, one item more at a time.
use Rattle.std.proofs.Common.{◌≡◌, ℕ, ◌+◌, ◌<◌, ◌≤◌, Bool, true, false, not, nat_le, List, [], ◌∷◌, ◌++◌, map, length, take, get_or, Option, Some, None, if◌then◌else◌, refl, sym, ap, ◌∙◌, subst, append_assoc, append-nil}
use Rattle.std.specs.Prelude.{IfOk, option_map}
use Rattle.std.specs.declared.result.Result.{Result}
use Rattle.std.specs.declared.result.Result.TheVariants.{Ok, Err}
use Rattle.std.specs.declared.alloc.AllocError.{AllocError}
use Rattle.std.proofs.lemmas.List.{take_more, take_all, map-append}
use Rattle.std.proofs.lemmas.Grind.{flat_map-append}
use Rattle.pv_values.specs.declared.refusal.Place.{Place}
use Rattle.cfg_tree.specs.declared.script.Stmt.{Stmt}
use Rattle.cfg_tree.specs.Refusals.{refusal, Refusal, Seen, Outcome, Checked, accepted, join, both, three, one, each, unless}
use Rattle.cfg_tree.specs.Checks.{numbered, flat, all_in, maybe}
use Rattle.cfg_calls.specs.Following.{CheckState, Follows, Counts, within_limit}
use Rattle.cfg_tree.specs.declared.refusal_kind.RefusalKind.TheVariants.{TooLarge}

-- ---- one value, and several

pub follows_accepted : {A : Type 0} (x : A) (a : CheckState) → Follows (accepted x) a (Some x) a
follows_accepted x a = record { value_is = refl; refusals_are = sym (append-nil a.refusals); seen_is = refl }

pub follows_one : {A B : Type 0} (f : A → B) (m : Checked A) (a b : CheckState) (v : Option A) (r : Option B) → Follows m a v b → r ≡ option_map f v → Follows (one f m) a r b
follows_one f m a b v r h is = record { value_is = is ∙ ap (option_map f) h.value_is; refusals_are = h.refusals_are; seen_is = h.seen_is }

pub follows_both : {A B C : Type 0} (h : A → B → C) (f : Checked A) (g : Checked B) (a b c : CheckState) (v : Option A) (w : Option B) (r : Option C) → Follows f a v b → Follows g b w c → r ≡ join h v w → Follows (both h f g) a r c
follows_both h f g a b c v w r first second is = record {
  value_is = is ∙ ap (λ x. join h x w) first.value_is ∙ ap (λ x. join h (f a.seen).value x) (second.value_is ∙ ap (λ s. (g s).value) first.seen_is);
  refusals_are =
      second.refusals_are ∙ ap (λ rs. rs ++ (g b.seen).refusals) first.refusals_are ∙ append_assoc a.refusals (f a.seen).refusals (g b.seen).refusals
      ∙ ap (λ s. a.refusals ++ ((f a.seen).refusals ++ (g s).refusals)) first.seen_is;
  seen_is = second.seen_is ∙ ap (λ s. (g s).seen) first.seen_is;
}

join_mapped : {A B C D : Type 0} (k : C → D) (h : A → B → C) (v : Option A) (w : Option B) → option_map k (join h v w) ≡ join (λ x y. k (h x y)) v w
join_mapped k h (Some x) (Some y) = refl
join_mapped k h (Some x) None = refl
join_mapped k h None w = refl

-- what is made of two values that were read together
pub follows_mapped : {A B C D : Type 0} (k : C → D) (h : A → B → C) (f : Checked A) (g : Checked B) (a b : CheckState) (v : Option C) (r : Option D) →
    Follows (both h f g) a v b → r ≡ option_map k v → Follows (both (λ x y. k (h x y)) f g) a r b
follows_mapped k h f g a b v r pair is = record {
  value_is = is ∙ ap (option_map k) pair.value_is ∙ join_mapped k h (f a.seen).value (g (f a.seen).seen).value;
  refusals_are = pair.refusals_are;
  seen_is = pair.seen_is;
}

pub follows_three : {A B C D : Type 0} (h : A → B → C → D) (f : Checked A) (g : Checked B) (k : Checked C) (a b c d : CheckState) (v : Option A) (w : Option B) (x : Option C) (r : Option D) →
    Follows f a v b → Follows g b w c → Follows k c x d → r ≡ join (λ p q. p q) (join h v w) x → Follows (three h f g k) a r d
follows_three h f g k a b c d v w x r first second third is =
    follows_both (λ p q. p q) (both h f g) k a c d (join h v w) x r (follows_both h f g a b c v w (join h v w) first second refl) third is

-- what is made of the value follows the check
pub ok_follows : {A : Type 0} (m : Checked A) (a b : CheckState) (v : Option A) (r : Result (Option A) AllocError) → Follows m a v b → IfOk r (λ x. x ≡ v) → IfOk r (λ x. Follows m a x b)
ok_follows m a b v (Ok x) h is = subst (λ y. Follows m a y b) (sym is) h
ok_follows m a b v (Err e) h is = tt

-- ---- lists

join_one : {A : Type 0} (m : Option A) → join (λ x more. x ∷ more) m (Some []) ≡ join (λ xs x. xs ++ x ∷ []) (Some []) m
join_one None = refl
join_one (Some x) = refl

join_more : {A : Type 0} (n : Option A) (ns : Option (List A)) (m : Option A) →
    join (λ x more. x ∷ more) n (join (λ xs x. xs ++ x ∷ []) ns m) ≡ join (λ xs x. xs ++ x ∷ []) (join (λ x more. x ∷ more) n ns) m
join_more None ns m = refl
join_more (Some x) None m = refl
join_more (Some x) (Some xs) None = refl
join_more (Some x) (Some xs) (Some y) = refl

-- a list with one more item is read as the list, and then the item
each_snoc : {A : Type 0} (ms : List (Checked A)) (m : Checked A) (s : Seen) → each (ms ++ m ∷ []) s ≡ both (λ xs x. xs ++ x ∷ []) (each ms) m s
each_snoc [] m s =
    let o = m s in
    ap (λ rs. record { refusals = rs; seen = o.seen; value = join (λ x more. x ∷ more) o.value (Some []) }) (append-nil o.refusals)
    ∙ ap (λ v. record { refusals = o.refusals; seen = o.seen; value = v }) (join_one o.value)
each_snoc (n ∷ ns) m s =
    let o = n s in
    let p = each ns o.seen in
    let q = m p.seen in
    ap (λ t. record { refusals = o.refusals ++ t.refusals; seen = t.seen; value = join (λ x more. x ∷ more) o.value t.value }) (each_snoc ns m o.seen)
    ∙ ap (λ rs. record { refusals = rs; seen = q.seen; value = join (λ x more. x ∷ more) o.value (join (λ xs x. xs ++ x ∷ []) p.value q.value) }) (sym (append_assoc o.refusals p.refusals q.refusals))
    ∙ ap (λ v. record { refusals = (o.refusals ++ p.refusals) ++ q.refusals; seen = q.seen; value = v }) (join_more o.value p.value q.value)

same_check : {A : Type 0} (f g : Checked A) (a b : CheckState) (v : Option A) → f a.seen ≡ g a.seen → Follows g a v b → Follows f a v b
same_check f g a b v e h = record {
  value_is = h.value_is ∙ ap (λ o. o.value) (sym e);
  refusals_are = h.refusals_are ∙ ap (λ o. a.refusals ++ o.refusals) (sym e);
  seen_is = h.seen_is ∙ ap (λ o. o.seen) (sym e);
}

pub follows_each_none : {A : Type 0} (a : CheckState) → Follows (each {A = A} []) a (Some []) a
follows_each_none a = follows_accepted [] a

pub follows_each_more : {A : Type 0} (ms : List (Checked A)) (m : Checked A) (a b c : CheckState) (vs : Option (List A)) (v : Option A) (r : Option (List A)) →
    Follows (each ms) a vs b → Follows m b v c → r ≡ join (λ xs x. xs ++ x ∷ []) vs v → Follows (each (ms ++ m ∷ [])) a r c
follows_each_more ms m a b c vs v r first second is =
    same_check (each (ms ++ m ∷ [])) (both (λ xs x. xs ++ x ∷ []) (each ms) m) a c r (each_snoc ms m a.seen)
    (follows_both (λ xs x. xs ++ x ∷ []) (each ms) m a b c vs v r first second is)

join_flat : (ns : Option (List (List Stmt))) (m : Option (List Stmt)) → option_map flat (join (λ xs x. xs ++ x ∷ []) ns m) ≡ join (λ xs ys. xs ++ ys) (option_map flat ns) m
join_flat None m = refl
join_flat (Some xs) None = refl
join_flat (Some xs) (Some ys) = ap Some (flat_map-append (λ ss. ss) xs (ys ∷ []) ∙ ap (λ zs. flat xs ++ zs) (append-nil ys))

all_snoc : (ms : List (Checked (List Stmt))) (m : Checked (List Stmt)) (s : Seen) → all_in (ms ++ m ∷ []) s ≡ both (λ xs ys. xs ++ ys) (all_in ms) m s
all_snoc ms m s =
    let o = each ms s in
    let q = m o.seen in
    ap (λ t. record { refusals = t.refusals; seen = t.seen; value = option_map flat t.value }) (each_snoc ms m s)
    ∙ ap (λ v. record { refusals = o.refusals ++ q.refusals; seen = q.seen; value = v }) (join_flat o.value q.value)

pub follows_all_none : (a : CheckState) → Follows (all_in []) a (Some []) a
follows_all_none a = record { value_is = refl; refusals_are = sym (append-nil a.refusals); seen_is = refl }

pub follows_all_more : (ms : List (Checked (List Stmt))) (m : Checked (List Stmt)) (a b c : CheckState) (vs v r : Option (List Stmt)) →
    Follows (all_in ms) a vs b → Follows m b v c → r ≡ join (λ xs ys. xs ++ ys) vs v → Follows (all_in (ms ++ m ∷ [])) a r c
follows_all_more ms m a b c vs v r first second is =
    same_check (all_in (ms ++ m ∷ [])) (both (λ xs ys. xs ++ ys) (all_in ms) m) a c r (all_snoc ms m a.seen)
    (follows_both (λ xs ys. xs ++ ys) (all_in ms) m a b c vs v r first second is)

-- ---- loops over a list

one_more : {X Y : Type 0} (f : X → Y) (xs : List X) (i : ℕ) (x : X) → i < length xs → x ≡ get_or xs i x → map f (take (i + 1) xs) ≡ map f (take i xs) ++ f x ∷ []
one_more f xs i x h is =
    let next : take (i + 1) xs ≡ take i xs ++ x ∷ [] = take_more xs i x h ∙ ap (λ y. take i xs ++ y ∷ []) (sym is) in
    ap (map f) next ∙ map-append f (take i xs) (x ∷ [])

pub each_item : {X A : Type 0} (f : X → Checked A) (xs : List X) (i : ℕ) (x : X) (a b c : CheckState) (vs : Option (List A)) (v : Option A) (r : Option (List A)) → i < length xs → x ≡ get_or xs i x →
    Follows (each (map f (take i xs))) a vs b → Follows (f x) b v c → r ≡ join (λ xs x. xs ++ x ∷ []) vs v → Follows (each (map f (take (i + 1) xs))) a r c
each_item f xs i x a b c vs v r h is first second made =
    subst (λ ms. Follows (each ms) a r c) (sym (one_more f xs i x h is)) (follows_each_more (map f (take i xs)) (f x) a b c vs v r first second made)

pub each_whole : {X A : Type 0} (f : X → Checked A) (xs : List X) (i : ℕ) (a b : CheckState) (vs : Option (List A)) → length xs ≤ i → Follows (each (map f (take i xs))) a vs b → Follows (each (map f xs)) a vs b
each_whole f xs i a b vs past h = subst (λ ys. Follows (each (map f ys)) a vs b) (take_all i xs past) h

pub all_item : {X : Type 0} (f : X → Checked (List Stmt)) (xs : List X) (i : ℕ) (x : X) (a b c : CheckState) (vs v r : Option (List Stmt)) → i < length xs → x ≡ get_or xs i x →
    Follows (all_in (map f (take i xs))) a vs b → Follows (f x) b v c → r ≡ join (λ xs ys. xs ++ ys) vs v → Follows (all_in (map f (take (i + 1) xs))) a r c
all_item f xs i x a b c vs v r h is first second made =
    subst (λ ms. Follows (all_in ms) a r c) (sym (one_more f xs i x h is)) (follows_all_more (map f (take i xs)) (f x) a b c vs v r first second made)

pub all_whole : {X : Type 0} (f : X → Checked (List Stmt)) (xs : List X) (i : ℕ) (a b : CheckState) (vs : Option (List Stmt)) → length xs ≤ i → Follows (all_in (map f (take i xs))) a vs b → Follows (all_in (map f xs)) a vs b
all_whole f xs i a b vs past h = subst (λ ys. Follows (all_in (map f ys)) a vs b) (take_all i xs past) h

-- ---- statements are counted

abbrev too_large : Place → Refusal
too_large at = refusal TooLarge at

counted_value : (full : Bool) (x : Refusal) (m : Checked (List Stmt)) (b : CheckState) (s : Seen) (v r : Option (List Stmt)) → b.seen ≡ s → v ≡ (m b.seen).value → r ≡ within_limit (not full) v →
    r ≡ (unless (if full then Some x else None) m s).value
counted_value false x m b s v r seen h is = is ∙ h ∙ ap (λ t. (m t).value) seen
counted_value true x m b s v r seen h is = is

counted_refusals : (full : Bool) (x : Refusal) (m : Checked (List Stmt)) (old : List Refusal) (b c : CheckState) (s : Seen) → b.seen ≡ s → b.refusals ≡ old ++ (if not full then [] else x ∷ []) →
    c.refusals ≡ b.refusals ++ (m b.seen).refusals → c.refusals ≡ old ++ (unless (if full then Some x else None) m s).refusals
counted_refusals false x m old b c s seen counted h =
    h ∙ ap (λ rs. rs ++ (m b.seen).refusals) (counted ∙ append-nil old) ∙ ap (λ t. old ++ (m t).refusals) seen
counted_refusals true x m old b c s seen counted h =
    h ∙ ap (λ rs. rs ++ (m b.seen).refusals) counted ∙ append_assoc old (x ∷ []) (m b.seen).refusals ∙ ap (λ t. old ++ (x ∷ (m t).refusals)) seen

counted_seen : (full : Bool) (x : Refusal) (m : Checked (List Stmt)) (b c : CheckState) (s : Seen) → b.seen ≡ s → c.seen ≡ (m b.seen).seen → c.seen ≡ (unless (if full then Some x else None) m s).seen
counted_seen false x m b c s seen h = h ∙ ap (λ t. (m t).seen) seen
counted_seen true x m b c s seen h = h ∙ ap (λ t. (m t).seen) seen

pub follows_numbered : (at : Place) (m : Checked (List Stmt)) (a b c : CheckState) (within : Bool) (v r : Option (List Stmt)) → Counts at a within b → Follows m b v c → r ≡ within_limit within v → Follows (numbered at m) a r c
follows_numbered at m a b c within v r counts h is =
    let full = nat_le 50000 a.seen.statements in
    let s : Seen = record a.seen { statements = a.seen.statements + 1 } in
    record {
      value_is = counted_value full (too_large at) m b s v r counts.1 h.value_is (is ∙ ap (λ t. within_limit t v) counts.0);
      refusals_are = counted_refusals full (too_large at) m a.refusals b c s counts.1 (counts.2 ∙ ap (λ t. a.refusals ++ (if t then [] else too_large at ∷ [])) counts.0) h.refusals_are;
      seen_is = counted_seen full (too_large at) m b c s counts.1 h.seen_is;
    }
