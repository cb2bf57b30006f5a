-- Finite maps of items: which items are live, and what a list of entries makes.
use Rattle.std.proofs.lemmas.Bool.Decides.{nat_tests}
use Rattle.std.proofs.Common.{◌≡◌, ℕ, ◌+◌, ◌-◌, ◌≤◌, ◌<◌, Bool, true, false, not, ◌&&◌, cond, List, [], ◌∷◌, length, Option, Some, None, refl, sym, ap, ◌∙◌, subst, arith, nat_lt}
use Rattle.std.specs.Prelude.{T, max, if◌then◌else◌, ◌==◌, ◌*◌, ◌^◌, is_some, OnOk, Ok, Err, Result}
use Rattle.std.specs.declared.cmp.Ordering.{Ordering}
use Rattle.std.specs.declared.cmp.Ordering.TheVariants.{Less, Equal, Greater}
use Rattle.std.specs.Ordering.{eq_by_cmp, is_eq, nat_cmp}
use Rattle.std.specs.Cmp.{IsTotalOrder, IsEquivalence, unsigned_ties}
use Rattle.std.specs.Cmp.Lexicographic.{nat_list_cmp_total, nat_list_eq_equiv, lists_ties}
use Rattle.std.specs.Str.{bytes_eq}
use Rattle.std.specs.List.{AllByRecursion, IsDistinct}
use Rattle.std.specs.Option.{option_map_or}
use Rattle.std.specs.FinMap as map
use Rattle.std.specs.FinMap.{find, IsAntisymmetric, nat_cmp-IsAntisymmetric, slice_cmp-IsAntisymmetric, get_tied, get-entries, get-empty, get-insert, get-remove, get-retain_keys, get-from_entries, get-from_sorted, entries-from_sorted, entries_sorted, len-entries, len-empty, len-insert, same_map}
use Rattle.std.specs.FinMap.Entries.{where_key, find-where_key, is_sorted-where_key}
use Rattle.std.specs.Map.{lookup, keys_of}
use Rattle.std.proofs.lemmas.Map.Keys.{IsDistinct-head, IsDistinct-tail}
use Rattle.std.proofs.lemmas.List.Filters.{length-filter_both}
use Rattle.pv_values.specs.declared.value.Val.{Val}
use Rattle.ht_core.specs.declared.item.Item.{Item}
use Rattle.ht_core.specs.Tables.{by_bytes, Items, due_after, is_live, present, is_present, live, TableState, Comes, limited, all_matching}
use Rattle.ht_core.specs.declared.operation.TabReply.TheVariants as reply
use Rattle.pv_values.specs.declared.table.TableSpec.{TableSpec}
use Rattle.ht_core.specs.Held.{Entries, items_of, due_from_now_on}

pub total : IsTotalOrder by_bytes
total = nat_list_cmp_total

pub exact : IsAntisymmetric by_bytes
exact = slice_cmp-IsAntisymmetric nat_cmp-IsAntisymmetric

pub equal : (o : Ordering) → is_eq o ≡ true → o ≡ Equal
equal Less e = cc
equal Equal e = refl
equal Greater e = cc

pub same : (m n : Items) → ((q : List ℕ) → map.get m q ≡ map.get n q) → m ≡ n
same = same_map total exact

-- ---- what a list of entries makes

ties : (q k : List ℕ) → bytes_eq q k ≡ eq_by_cmp by_bytes q k
ties = lists_ties nat_cmp unsigned_ties

pub turned : (q k : List ℕ) → bytes_eq k q ≡ eq_by_cmp by_bytes q k
turned q k = nat_list_eq_equiv.symm k q ∙ ties q k

find-lookup : (q : List ℕ) (es : Entries) → find by_bytes q es ≡ lookup (bytes_eq q) es
find-lookup q [] = refl
find-lookup q (e ∷ es) = ap (λ b. cond b (Some e.1) (find by_bytes q es)) (sym (ties q e.0)) ∙ ap (cond (bytes_eq q e.0) (Some e.1)) (find-lookup q es)

pub get-items_of : (es : Entries) (q : List ℕ) → map.get (items_of es) q ≡ lookup (bytes_eq q) es
get-items_of es q = get-from_entries total es q ∙ find-lookup q es

-- where two lists answer alike, they make one map
pub same_items : (es fs : Entries) → ((q : List ℕ) → lookup (bytes_eq q) fs ≡ lookup (bytes_eq q) es) → items_of fs ≡ items_of es
same_items es fs h = same _ _ (λ q. get-items_of fs q ∙ h q ∙ sym (get-items_of es q))

pub items_of-insert : (es fs : Entries) (k : List ℕ) (item : Item) → ((q : List ℕ) → lookup (bytes_eq q) fs ≡ cond (bytes_eq k q) (Some item) (lookup (bytes_eq q) es))
    → items_of fs ≡ map.insert (items_of es) k item
items_of-insert es fs k item h = same _ _ (λ q.
    get-items_of fs q ∙ h q ∙ ap (λ b. cond b (Some item) (lookup (bytes_eq q) es)) (turned q k)
    ∙ ap (cond (eq_by_cmp by_bytes q k) (Some item)) (sym (get-items_of es q)) ∙ sym (get-insert total (items_of es) k item q))

pub items_of-remove : (es fs : Entries) (k : List ℕ) → ((q : List ℕ) → lookup (bytes_eq q) fs ≡ cond (bytes_eq k q) None (lookup (bytes_eq q) es))
    → items_of fs ≡ map.remove (items_of es) k
items_of-remove es fs k h = same _ _ (λ q.
    get-items_of fs q ∙ h q ∙ ap (λ b. cond b None (lookup (bytes_eq q) es)) (turned q k)
    ∙ ap (cond (eq_by_cmp by_bytes q k) None) (sym (get-items_of es q)) ∙ sym (get-remove total (items_of es) k q))

not_there : (k : List ℕ) (es : Entries) → AllByRecursion (λ y. bytes_eq k y ≡ false) (keys_of es) → lookup (bytes_eq k) es ≡ None
not_there k [] h = refl
not_there k (e ∷ es) h = ap (λ b. cond b (Some e.1) (lookup (bytes_eq k) es)) h.0 ∙ not_there k es h.1

pub len-items_of : (es : Entries) → IsDistinct bytes_eq (keys_of es) → map.len (items_of es) ≡ length es
len-items_of [] h = len-empty by_bytes Item
len-items_of (e ∷ es) h =
    let none : map.get (items_of es) e.0 ≡ None = get-items_of es e.0 ∙ not_there e.0 es (IsDistinct-head bytes_eq e.0 (keys_of es) h) in
    let less : map.len (items_of es) ≡ length es = len-items_of es (IsDistinct-tail bytes_eq e.0 (keys_of es) h) in
    let one : map.len (items_of (e ∷ es)) ≡ map.len (items_of es) + 1
    = len-insert total (items_of es) e.0 e.1 ∙ ap (λ o. cond (is_some o) (map.len (items_of es)) (map.len (items_of es) + 1)) none in
    omega arith

-- ---- what is present

present-cond : (clock : ℕ) (o : Option Item) → cond (is_present clock o) o None ≡ present clock o
present-cond clock None = refl
present-cond clock (Some item) = refl

present-if : (clock : ℕ) (b : Bool) (o : Option Item) → present clock (cond b o None) ≡ cond b (present clock o) None
present-if clock true o = refl
present-if clock false o = refl

present-put : (clock : ℕ) (b : Bool) (item : Item) (o : Option Item) → is_live clock item ≡ true → present clock (cond b (Some item) o) ≡ cond b (Some item) (present clock o)
present-put clock true item o lives = ap (λ b. cond b (Some item) None) lives
present-put clock false item o lives = refl

present-taken : (clock : ℕ) (b : Bool) (o : Option Item) → present clock (cond b None o) ≡ cond b None (present clock o)
present-taken clock true o = refl
present-taken clock false o = refl

over : (clock later due : ℕ) → clock ≤ later → nat_lt clock due ≡ false → nat_lt later due ≡ false
over clock later due l past = grind (arith, nat_tests)

due_later : (clock later : ℕ) → clock ≤ later → (due : Option ℕ) → option_map_or (λ d. nat_lt clock d) due true ≡ false → option_map_or (λ d. nat_lt later d) due true ≡ false
due_later clock later l None past = cc
due_later clock later l (Some d) past = over clock later d l past

later_too : (clock later : ℕ) → clock ≤ later → (item : Item) → is_live clock item ≡ false → is_live later item ≡ false
later_too clock later l item past = due_later clock later l item.due past

once : (clock later : ℕ) → clock ≤ later → (item : Item) (b : Bool) → is_live clock item ≡ b → present later (cond b (Some item) None) ≡ present later (Some item)
once clock later l item true is = refl
once clock later l item false is = ap (λ b. cond b (Some item) None) (sym (later_too clock later l item is))

present-later : (clock later : ℕ) → clock ≤ later → (o : Option Item) → present later (present clock o) ≡ present later o
present-later clock later l None = refl
present-later clock later l (Some item) = once clock later l item _ refl

-- ---- the live items

pub get-live : (clock : ℕ) (items : Items) (q : List ℕ) → map.get (live clock items) q ≡ present clock (map.get items q)
get-live clock items q =
    get-retain_keys items (λ key. is_present clock (map.get items key)) q (λ x t. ap (is_present clock) (get_tied total items q x t))
    ∙ present-cond clock (map.get items q)

pub live-empty : (clock : ℕ) → live clock map.empty ≡ map.empty
live-empty clock = same _ _ (λ q. get-live clock map.empty q ∙ ap (present clock) (get-empty by_bytes q) ∙ sym (get-empty by_bytes q))

pub live-later : (clock later : ℕ) (items : Items) → clock ≤ later → live later (live clock items) ≡ live later items
live-later clock later items l = same _ _ (λ q.
    get-live later (live clock items) q ∙ ap (present later) (get-live clock items q) ∙ present-later clock later l (map.get items q) ∙ sym (get-live later items q))

pub live-insert : (clock : ℕ) (items : Items) (k : List ℕ) (item : Item) → is_live clock item ≡ true → live clock (map.insert items k item) ≡ map.insert (live clock items) k item
live-insert clock items k item lives = same _ _ (λ q.
    get-live clock (map.insert items k item) q ∙ ap (present clock) (get-insert total items k item q)
    ∙ present-put clock (eq_by_cmp by_bytes q k) item (map.get items q) lives
    ∙ ap (cond (eq_by_cmp by_bytes q k) (Some item)) (sym (get-live clock items q)) ∙ sym (get-insert total (live clock items) k item q))

pub live-remove : (clock : ℕ) (items : Items) (k : List ℕ) → live clock (map.remove items k) ≡ map.remove (live clock items) k
live-remove clock items k = same _ _ (λ q.
    get-live clock (map.remove items k) q ∙ ap (present clock) (get-remove total items k q)
    ∙ present-taken clock (eq_by_cmp by_bytes q k) (map.get items q)
    ∙ ap (cond (eq_by_cmp by_bytes q k) None) (sym (get-live clock items q)) ∙ sym (get-remove total (live clock items) k q))

-- without a key whose item isn't live the same items are live
pub live-removed : (clock : ℕ) (items : Items) (k : List ℕ) → present clock (map.get items k) ≡ None → live clock (map.remove items k) ≡ live clock items
live-removed clock items k gone = live-remove clock items k ∙ same _ _ (λ q.
    get-remove total (live clock items) k q ∙ at q (eq_by_cmp by_bytes q k) refl)
  where
    none : map.get (live clock items) k ≡ None
    none = get-live clock items k ∙ gone

    at : (q : List ℕ) (b : Bool) → eq_by_cmp by_bytes q k ≡ b → cond b None (map.get (live clock items) q) ≡ map.get (live clock items) q
    at q true e = sym (sym (get_tied total (live clock items) q k (equal _ e)) ∙ none)
    at q false e = refl

pub live-matching : (clock : ℕ) (items : Items) (p : List ℕ → Bool) → live clock (map.retain_keys items p) ≡ map.retain_keys (live clock items) p
live-matching clock items p = same _ _ (λ q.
    let alike : (x : List ℕ) → by_bytes q x ≡ Equal → p x ≡ p q = λ x e. ap p (sym (exact q x e)) in
    get-live clock (map.retain_keys items p) q ∙ ap (present clock) (get-retain_keys items p q alike)
    ∙ present-if clock (p q) (map.get items q) ∙ ap (λ o. cond (p q) o None) (sym (get-live clock items q)) ∙ sym (get-retain_keys (live clock items) p q alike))

-- what was put in is live
pub lives : (clock seconds : ℕ) (v : Val) → is_live clock (record { value = v; due = due_after clock seconds }) ≡ true
lives clock seconds v = by_cases (seconds == 0) (nat_lt (clock + 1000 * seconds) (2 ^ 64)) refl
  where
    later : seconds == 0 ≡ false → nat_lt clock (clock + 1000 * seconds) ≡ true
    later e = grind (arith, nat_tests)

    by_cases : (b c : Bool) → seconds == 0 ≡ b → option_map_or (λ d. nat_lt clock d) (if b then None else (if c then Some (clock + 1000 * seconds) else None)) true ≡ true
    by_cases true c e = refl
    by_cases false true e = later e
    by_cases false false e = refl

-- ---- how many

-- the entries of the keys that pass
entries-retain : (m : Items) (p : List ℕ → Bool) → map.entries (map.retain_keys m p) ≡ where_key by_bytes p (map.entries m)
entries-retain m p =
    let es = where_key by_bytes p (map.entries m) in
    let h : T (map.is_sorted by_bytes es) = is_sorted-where_key by_bytes p (map.entries m) (entries_sorted m) in
    ap map.entries (same (map.retain_keys m p) (map.from_sorted es) (λ q.
    let alike : (x : List ℕ) → by_bytes q x ≡ Equal → p x ≡ p q = λ x e. ap p (sym (exact q x e)) in
    get-retain_keys m p q alike ∙ ap (λ o. cond (p q) o None) (get-entries m q)
    ∙ sym (find-where_key by_bytes p q alike (map.entries m)) ∙ sym (get-from_sorted by_bytes es q h)))
    ∙ entries-from_sorted by_bytes es h

len-retain : (m : Items) (p : List ℕ → Bool) → map.len (map.retain_keys m p) ≡ length (where_key by_bytes p (map.entries m))
len-retain m p = len-entries (map.retain_keys m p) ∙ ap length (entries-retain m p)

pub len-parts : (m : Items) (p : List ℕ → Bool) → map.len (map.retain_keys m p) + map.len (map.retain_keys m (λ k. not (p k))) ≡ map.len m
len-parts m p = (λ i. len-retain m p i + len-retain m (λ k. not (p k)) i)
    ∙ length-filter_both (λ e. p e.0) (λ e. not (p e.0)) (λ e. refl) (map.entries m) ∙ sym (len-entries m)

pub len-live-le : (clock : ℕ) (m : Items) → map.len (live clock m) ≤ map.len m
len-live-le clock m = let e = len-parts m (λ key. is_present clock (map.get m key)) in omega arith

-- no more items than entries
pub len-items_of-le : (es : Entries) → map.len (items_of es) ≤ length es
len-items_of-le [] = let e = len-empty by_bytes Item in omega arith
len-items_of-le (e ∷ es) =
    let one : map.len (items_of (e ∷ es)) ≡ cond (map.contains_key (items_of es) e.0) (map.len (items_of es)) (map.len (items_of es) + 1) = len-insert total (items_of es) e.0 e.1 in
    let less = len-items_of-le es in
    by (map.contains_key (items_of es) e.0) one less
  where
    by : (b : Bool) {n m : ℕ} → n ≡ cond b m (m + 1) → m ≤ length es → n ≤ length (e ∷ es)
    by true is l = omega arith
    by false is l = omega arith

-- ---- the table

abbrev pub state : TableSpec → ℕ → Items → TableState
state spec clock items = record { spec = spec; clock = clock; items = items }

pub OnOk-map : {X E : Type 0} (r : Result X E) (P Q : Type 0) → (P → Q) → OnOk r P → OnOk r Q
OnOk-map (Ok x) P Q f p = f p
OnOk-map (Err e) P Q f p = tt

was_live : (b : Bool) (x : Item) → is_some (cond b (Some x) None) ≡ true → cond b (Some x) None ≡ Some x
was_live true x e = refl
was_live false x e = cc

-- the item of a key was given seconds
pub given : (spec : TableSpec) (clock : ℕ) (held new : Items) (k : List ℕ) (seconds : ℕ) (due : Option ℕ) → is_some (map.get (live clock held) k) ≡ true → due ≡ due_after clock seconds
    → new ≡ due_from_now_on held k due (map.get held k)
    → Comes (state spec clock (live clock held)) (limited (state spec clock (live clock held)) k (Some seconds) (map.get (live clock held) k)) (Ok reply.Done) (state spec clock (live clock new))
given spec clock held new k seconds due there due_is new_is = by (map.get held k) refl
  where
    by : (o : Option Item) → map.get held k ≡ o
        → Comes (state spec clock (live clock held)) (limited (state spec clock (live clock held)) k (Some seconds) (map.get (live clock held) k)) (Ok reply.Done) (state spec clock (live clock new))
    by None e = absurd (let none : false ≡ true = sym (ap is_some (get-live clock held k ∙ ap (present clock) e)) ∙ there in cc)
    by (Some old) e =
        let t = state spec clock (live clock held) in
        let g0 : map.get (live clock held) k ≡ cond (is_live clock old) (Some old) None = get-live clock held k ∙ ap (present clock) e in
        let g : map.get (live clock held) k ≡ Some old = g0 ∙ was_live _ old (sym (ap is_some g0) ∙ there) in
        let item : Item = record { value = old.value; due = due_after clock seconds } in
        let n : new ≡ map.insert held k item
        = new_is ∙ ap (due_from_now_on held k due) e ∙ ap (λ d. let i : Item = record { value = old.value; due = d } in map.insert held k i) due_is in
        subst (λ o. Comes t (limited t k (Some seconds) o) (Ok reply.Done) (state spec clock (live clock new))) (sym g)
        (record { answered = refl; leaves = ap (λ items. state spec clock (live clock items)) n ∙ ap (state spec clock) (live-insert clock held k item (lives clock seconds old.value)) })

-- the keys that are found were taken out of the live items
module _ (spec : TableSpec) (clock : ℕ) (held before after : Items) (found : List ℕ → Bool) (n m : ℕ)
    (before_is : before ≡ live clock held) (n_is : n ≡ map.len before) (after_is : after ≡ map.retain_keys before (λ k. not (found k))) (m_is : m ≡ map.len after) where
  parts : map.len (map.retain_keys (live clock held) found) + m ≡ n
  parts =
      ap (λ i. map.len (map.retain_keys (live clock held) found) + i) (m_is ∙ ap map.len (after_is ∙ ap (λ items. map.retain_keys items (λ k. not (found k))) before_is))
      ∙ len-parts (live clock held) found ∙ ap map.len (sym before_is) ∙ sym n_is

  pub fewer : m ≤ n
  fewer = let e = parts in omega arith

  less : (x y z : ℕ) → x + y ≡ z → z - y ≡ x
  less x y z e = omega arith

  still_live : live clock before ≡ live clock held
  still_live = ap (live clock) before_is ∙ live-later clock clock held (omega arith)

  pub taken : Comes (state spec clock (live clock held)) (all_matching found (state spec clock (live clock held))) (Ok (reply.Count (n - m))) (state spec clock (live clock after))
  taken = record {
    answered = ap reply.Count (less _ m n parts);
    leaves = ap (λ items. state spec clock (live clock items)) after_is
        ∙ ap (state spec clock) (live-matching clock before (λ k. not (found k)) ∙ ap (λ items. map.retain_keys items (λ k. not (found k))) still_live);
  }
