-- What each outcome leaves of other keys, and where it changes nothing.
use Rattle.std.proofs.lemmas.Bool.Decides.{nat_tests}
use Rattle.std.proofs.lemmas.Cmp.{tied_itself}
use Rattle.std.specs.Option.{option_map_or}
use Rattle.pv_values.specs.Numbers.{in_range}
use Rattle.std.proofs.Common.{◌≡◌, ◌≢◌, ℕ, ◌+◌, ◌*◌, ◌^◌, ◌<◌, ◌≤◌, Bool, true, false, not, cond, List, Option, Some, None, refl, sym, ap, ◌∙◌, subst, arith}
use Rattle.std.specs.Prelude.{ℤ, pos, negsuc, ◌+ℤ◌, ◌||◌, ◌==◌, nat_lt, max, if◌then◌else◌, IsSome, Ok, Err, Result}
use Rattle.std.specs.declared.alloc.AllocError.{AllocError}
use Rattle.std.specs.declared.cmp.Ordering.TheVariants.{Equal}
use Rattle.std.specs.Ordering.{eq_by_cmp, is_eq}
use Rattle.std.specs.FinMap as map
use Rattle.std.specs.FinMap.{get-insert, get-remove, get-empty}
use Rattle.std.specs.List.{slice_get}
use Rattle.std.proofs.lemmas.Bool.{false≢true}
use Rattle.pv_values.specs.declared.value.Val.{Val}
use Rattle.pv_values.specs.declared.value.Val.TheVariants as val
use Rattle.ht_core.specs.declared.item.Item.{Item}
use Rattle.ht_core.specs.declared.operation.TabOp.{TabOp}
use Rattle.ht_core.specs.declared.operation.TabOp.TheVariants.{Get, Set, Remove, Inc, Dec, Left, Limit, RemoveMatching, Reset}
use Rattle.ht_core.specs.declared.operation.TabReply.{TabReply}
use Rattle.ht_core.specs.declared.operation.TabReply.TheVariants as reply
use Rattle.ht_core.specs.declared.operation.TabRecord.{TabRecord}
use Rattle.ht_core.specs.Tables.{by_bytes, Items, TableState, Outcome, Comes, IsStep, at, outcome, done, answers, assigned, removed, is_full, with_room, set_to, count_by, counted, stepped, counted_from, limited, limit_seconds, reading, left, is_too_long, key_of, may_change, is_refusal, is_found_by, all_matching, all_keys, due_after, is_long, present, initial_reply}
use Rattle.ht_core.proofs.Items.{total, exact, equal, get-live}

unlike : (b : Bool) → (b ≡ true → ⊥) → b ≡ false
unlike true f = absurd (f refl)
unlike false f = refl

-- ---- other keys

module _ (t : TableState) (other : List ℕ) where
  abbrev Keeps : Outcome → Type 0
  Keeps o = map.get o.items other ≡ map.get t.items other

  module _ (key : List ℕ) (differ : Some key ≢ Some other) where
    no_tie : eq_by_cmp by_bytes other key ≡ false
    no_tie = unlike _ (λ e. differ (ap Some (sym (exact other key (equal _ e)))))

    put_keeps : (item : Item) → map.get (map.insert t.items key item) other ≡ map.get t.items other
    put_keeps item = get-insert total t.items key item other ∙ ap (λ b. cond b (Some item) (map.get t.items other)) no_tie

    removed_keeps : Keeps (removed t key)
    removed_keeps = get-remove total t.items key other ∙ ap (λ b. cond b None (map.get t.items other)) no_tie

    room_keeps : (o : Outcome) → Keeps o → (b : Bool) → Keeps (if b then answers t reply.Full else o)
    room_keeps o k true = refl
    room_keeps o k false = k

    set_keeps : (v : Val) → Keeps (set_to t key v)
    set_keeps val.Null = removed_keeps
    set_keeps (val.Int n) = room_keeps (assigned t key (val.Int n) reply.Done) (put_keeps _) (is_full t key)
    set_keeps (val.Text x) = room_keeps (assigned t key (val.Text x) reply.Done) (put_keeps _) (is_full t key)

    counted_keeps : (n : Option ℤ) → Keeps (counted t key n)
    counted_keeps None = refl
    counted_keeps (Some n) = put_keeps _

    count_keeps : (step : ℤ) → Keeps (count_by t key step)
    count_keeps step = room_keeps (counted t key (stepped step (counted_from t (map.get t.items key)))) (counted_keeps _) (is_full t key)

    limited_keeps : (n : Option ℕ) (item : Option Item) → Keeps (limited t key n item)
    limited_keeps None item = refl
    limited_keeps (Some n) None = refl
    limited_keeps (Some n) (Some item) = put_keeps _

  done_keeps : (patterns : List (List ℕ)) (op : TabOp) → IsSome (key_of op) → key_of op ≢ Some other → Keeps (done patterns t op)
  done_keeps patterns (Get key) one d = refl
  done_keeps patterns (Set key v) one d = set_keeps key d v
  done_keeps patterns (Remove key) one d = removed_keeps key d
  done_keeps patterns (Inc key) one d = count_keeps key d (pos 1)
  done_keeps patterns (Dec key) one d = count_keeps key d (negsuc 0)
  done_keeps patterns (Left key) one d = refl
  done_keeps patterns (Limit key n) one d = limited_keeps key d (limit_seconds n) (map.get t.items key)
  done_keeps patterns (RemoveMatching number) one d = absurd (false≢true one)
  done_keeps patterns Reset one d = absurd (false≢true one)

  long_keeps : (o : Outcome) → Keeps o → (b : Bool) → Keeps (if b then answers t reply.TooLong else o)
  long_keeps o k true = refl
  long_keeps o k false = k

  comes_keeps : (o : Outcome) → Keeps o → (a : Result TabReply AllocError) (u : TableState) → Comes t o a u → map.get u.items other ≡ map.get t.items other
  comes_keeps o k (Ok a) u c = ap (λ (s : TableState). map.get s.items other) c.leaves ∙ k
  comes_keeps o k (Err e) u c = ap (λ (s : TableState). map.get s.items other) c.leaves

pub keeps_others : (patterns : List (List ℕ)) (t u : TableState) (r : TabRecord) (other : List ℕ) → IsStep patterns t r u
    → IsSome (key_of r.op) → key_of r.op ≢ Some other → map.get u.items other ≡ map.get (at r.now t).items other
keeps_others patterns t u r other step one d =
    let s = at r.now t in
    comes_keeps s other (outcome patterns s r.op) (long_keeps s other (done patterns s r.op) (done_keeps s other patterns r.op one d) (is_too_long r.op)) r.reply u step

-- ---- refusals

module _ (t : TableState) where
  abbrev Refuses : Outcome → Type 0
  Refuses o = may_change o.reply ≡ false → o.items ≡ t.items

  if_refuses : (r : TabReply) (o : Outcome) → Refuses o → (b : Bool) → Refuses (if b then answers t r else o)
  if_refuses r o f true = λ e. refl
  if_refuses r o f false = f

  set_refuses : (key : List ℕ) (v : Val) → Refuses (set_to t key v)
  set_refuses key val.Null = λ e. absurd (false≢true (sym e))
  set_refuses key (val.Int n) = if_refuses reply.Full (assigned t key (val.Int n) reply.Done) (λ e. absurd (false≢true (sym e))) (is_full t key)
  set_refuses key (val.Text x) = if_refuses reply.Full (assigned t key (val.Text x) reply.Done) (λ e. absurd (false≢true (sym e))) (is_full t key)

  counted_refuses : (key : List ℕ) (n : Option ℤ) → Refuses (counted t key n)
  counted_refuses key None = λ e. refl
  counted_refuses key (Some n) = λ e. absurd (false≢true (sym e))

  count_refuses : (key : List ℕ) (step : ℤ) → Refuses (count_by t key step)
  count_refuses key step = if_refuses reply.Full (counted t key (stepped step (counted_from t (map.get t.items key)))) (counted_refuses key _) (is_full t key)

  limited_refuses : (key : List ℕ) (n : Option ℕ) (item : Option Item) → Refuses (limited t key n item)
  limited_refuses key None item = λ e. refl
  limited_refuses key (Some n) None = λ e. refl
  limited_refuses key (Some n) (Some item) = λ e. absurd (false≢true (sym e))

  done_refuses : (patterns : List (List ℕ)) (op : TabOp) → Refuses (done patterns t op)
  done_refuses patterns (Get key) = λ e. refl
  done_refuses patterns (Set key v) = set_refuses key v
  done_refuses patterns (Remove key) = λ e. absurd (false≢true (sym e))
  done_refuses patterns (Inc key) = count_refuses key (pos 1)
  done_refuses patterns (Dec key) = count_refuses key (negsuc 0)
  done_refuses patterns (Left key) = λ e. refl
  done_refuses patterns (Limit key n) = limited_refuses key (limit_seconds n) (map.get t.items key)
  done_refuses patterns (RemoveMatching number) = λ e. absurd (false≢true (sym e))
  done_refuses patterns Reset = λ e. absurd (false≢true (sym e))

  off : (b : Bool) → not b ≡ true → b ≡ false
  off true e = absurd (false≢true e)
  off false e = refl

  comes_refuses : (o : Outcome) → Refuses o → (a : Result TabReply AllocError) (u : TableState) → Comes t o a u → is_refusal a ≡ true → u ≡ t
  comes_refuses o f (Ok a) u c e = c.leaves ∙ ap (λ items. let s : TableState = record { spec = t.spec; clock = t.clock; items = items } in s) (f (ap may_change (sym c.answered) ∙ off _ e))
  comes_refuses o f (Err x) u c e = c.leaves

pub refusals : (patterns : List (List ℕ)) (t u : TableState) (r : TabRecord) → IsStep patterns t r u → is_refusal r.reply ≡ true → u ≡ at r.now t
refusals patterns t u r step e =
    let s = at r.now t in
    comes_refuses s (outcome patterns s r.op) (if_refuses s reply.TooLong (done patterns s r.op) (done_refuses s patterns r.op) (is_too_long r.op)) r.reply u step e

-- ---- one key, twice

-- an answer that may change the items comes of neither bar
module _ (s : TableState) (o : Outcome) (a : TabReply) (changes : may_change a ≡ true) where
  abbrev Passes : (b c : Bool) → Type 0
  Passes b c = (b ≡ false) × ((if b then answers s reply.TooLong else (if c then answers s reply.Full else o)) ≡ o)

  passes : (b c : Bool) → a ≡ (if b then answers s reply.TooLong else (if c then answers s reply.Full else o)).reply → Passes b c
  passes true c e = absurd (false≢true (sym (ap may_change e) ∙ changes))
  passes false true e = absurd (false≢true (sym (ap may_change e) ∙ changes))
  passes false false e = (refl, refl)

either : (b : Bool) → b || false ≡ false → b ≡ false
either true e = e
either false e = e

-- the table in which the key was given a number
abbrev pub made : TableState → List ℕ → ℤ → TableState
made s key n = record { spec = s.spec; clock = s.clock; items = map.insert s.items key (record { value = val.Int n; due = due_after s.clock s.spec.autoexpire }) }

abbrev item_of : TableState → ℤ → Item
item_of s n = record { value = val.Int n; due = due_after s.clock s.spec.autoexpire }

-- what is found there later
found : (s : TableState) (key : List ℕ) (n : ℤ) (later : ℕ) → map.get (at later (made s key n)).items key ≡ present (max s.clock later) (Some (item_of s n))
found s key n later = get-live (max s.clock later) (made s key n).items key
    ∙ ap (present (max s.clock later)) (get-insert total s.items key (item_of s n) key
    ∙ ap (λ r. cond (is_eq r) (Some (item_of s n)) (map.get s.items key)) (tied_itself total key))

due_in : (clock seconds later : ℕ) → later < clock + 1000 * seconds → option_map_or (λ d. nat_lt later d) (due_after clock seconds) true ≡ true
due_in clock seconds later l = by_cases (seconds == 0) (nat_lt (clock + 1000 * seconds) (2 ^ 64))
  where
    before : nat_lt later (clock + 1000 * seconds) ≡ true
    before = grind (arith, nat_tests)

    by_cases : (b c : Bool) → option_map_or (λ d. nat_lt later d) (if b then None else (if c then Some (clock + 1000 * seconds) else None)) true ≡ true
    by_cases true c = refl
    by_cases false true = before
    by_cases false false = refl

past : (clock seconds later : ℕ) → 0 < seconds → clock + 1000 * seconds ≤ later → later < 2 ^ 64 → option_map_or (λ d. nat_lt later d) (due_after clock seconds) true ≡ false
past clock seconds later some l fits = by_cases (seconds == 0) (nat_lt (clock + 1000 * seconds) (2 ^ 64)) refl refl
  where
    after : nat_lt later (clock + 1000 * seconds) ≡ false
    after = grind (arith, nat_tests)

    some_seconds : seconds == 0 ≡ false
    some_seconds = grind (arith, nat_tests)

    can_come : nat_lt (clock + 1000 * seconds) (2 ^ 64) ≡ true
    can_come = grind (arith, nat_tests)

    by_cases : (b c : Bool) → seconds == 0 ≡ b → nat_lt (clock + 1000 * seconds) (2 ^ 64) ≡ c → option_map_or (λ d. nat_lt later d) (if b then None else (if c then Some (clock + 1000 * seconds) else None)) true ≡ false
    by_cases true c e f = absurd (false≢true (sym some_seconds ∙ e))
    by_cases false true e f = after
    by_cases false false e f = absurd (false≢true (sym f ∙ can_come))

found_live : (s : TableState) (key : List ℕ) (n : ℤ) (later : ℕ) → max s.clock later < s.clock + 1000 * s.spec.autoexpire → map.get (at later (made s key n)).items key ≡ Some (item_of s n)
found_live s key n later l = found s key n later ∙ ap (λ b. cond b (Some (item_of s n)) None) (due_in s.clock s.spec.autoexpire (max s.clock later) l)

found_absent : (s : TableState) (key : List ℕ) (n : ℤ) (later : ℕ) → 0 < s.spec.autoexpire → s.clock + 1000 * s.spec.autoexpire ≤ later → later < 2 ^ 64 → map.get (at later (made s key n)).items key ≡ None
found_absent s key n later some l fits = found s key n later ∙ ap (λ b. cond b (Some (item_of s n)) None) (past s.clock s.spec.autoexpire (max s.clock later) some (omega arith) (omega arith))

-- what a read says of a short key
read_is : (s : TableState) (key : List ℕ) (later : ℕ) (o : Option Item) (patterns : List (List ℕ)) (w : TableState) (a : TabReply) → is_long key ≡ false → map.get (at later s).items key ≡ o
    → IsStep patterns s (record { op = Get key; now = later; reply = Ok a }) w → a ≡ reading (at later s) o
read_is s key later o patterns w a short is step = step.answered
    ∙ ap (λ b. (if b then answers (at later s) reply.TooLong else answers (at later s) (reading (at later s) (map.get (at later s).items key))).reply) short
    ∙ ap (reading (at later s)) is

-- what a Set of a number that is done leaves
set_leaves : (patterns : List (List ℕ)) (t u : TableState) (key : List ℕ) (n : ℤ) (now : ℕ) → IsStep patterns t (record { op = Set key (val.Int n); now = now; reply = Ok reply.Done }) u
    → (is_long key ≡ false) × (u ≡ made (at now t) key n)
set_leaves patterns t u key n now step =
    let s = at now t in
    let o = assigned s key (val.Int n) reply.Done in
    let p = passes s o reply.Done refl (is_long key || false) (is_full s key) step.answered in
    (either _ p.0, step.leaves ∙ ap (λ (x : Outcome). let h : TableState = record { spec = s.spec; clock = s.clock; items = x.items } in h) p.1)

pub is_read : (patterns : List (List ℕ)) (t u w : TableState) (key : List ℕ) (n : ℤ) (now later : ℕ) (a : TabReply)
    → IsStep patterns t (record { op = Set key (val.Int n); now = now; reply = Ok reply.Done }) u → IsStep patterns u (record { op = Get key; now = later; reply = Ok a }) w
    → max u.clock later < u.clock + 1000 * u.spec.autoexpire → a ≡ reply.Value (val.Int n)
is_read patterns t u w key n now later a first second l =
    let s = at now t in
    let q = set_leaves patterns t u key n now first in
    let go : (x : TableState) → x ≡ made s key n → IsStep patterns x (record { op = Get key; now = later; reply = Ok a }) w → max x.clock later < x.clock + 1000 * x.spec.autoexpire → a ≡ reply.Value (val.Int n)
    = λ x e. subst (λ (y : TableState). IsStep patterns y (record { op = Get key; now = later; reply = Ok a }) w → max y.clock later < y.clock + 1000 * y.spec.autoexpire → a ≡ reply.Value (val.Int n)) (sym e)
    (λ step m. read_is (made s key n) key later _ patterns w a q.0 (found_live s key n later m) step) in
    go u q.1 second l

pub is_absent : (patterns : List (List ℕ)) (t u w : TableState) (key : List ℕ) (n : ℤ) (now later : ℕ) (a : TabReply)
    → IsStep patterns t (record { op = Set key (val.Int n); now = now; reply = Ok reply.Done }) u → IsStep patterns u (record { op = Get key; now = later; reply = Ok a }) w
    → 0 < u.spec.autoexpire → u.clock + 1000 * u.spec.autoexpire ≤ later → later < 2 ^ 64 → a ≡ initial_reply u.spec.initval
is_absent patterns t u w key n now later a first second some l fits =
    let s = at now t in
    let q = set_leaves patterns t u key n now first in
    let go : (x : TableState) → x ≡ made s key n → IsStep patterns x (record { op = Get key; now = later; reply = Ok a }) w → 0 < x.spec.autoexpire → x.clock + 1000 * x.spec.autoexpire ≤ later → a ≡ initial_reply x.spec.initval
    = λ x e. subst (λ (y : TableState). IsStep patterns y (record { op = Get key; now = later; reply = Ok a }) w → 0 < y.spec.autoexpire → y.clock + 1000 * y.spec.autoexpire ≤ later → a ≡ initial_reply y.spec.initval) (sym e)
    (λ step z m. read_is (made s key n) key later _ patterns w a q.0 (found_absent s key n later z m fits) step) in
    go u q.1 second some l

-- what an Inc that is answered by a number leaves
number_of : (s : TableState) (key : List ℕ) (n : ℤ) (o : Option ℤ) → reply.Value (val.Int n) ≡ (counted s key o).reply → o ≡ Some n
number_of s key n None e = cc
number_of s key n (Some m) e = cc

inc_leaves : (patterns : List (List ℕ)) (t u : TableState) (key : List ℕ) (n : ℤ) (now : ℕ) → IsStep patterns t (record { op = Inc key; now = now; reply = Ok (reply.Value (val.Int n)) }) u
    → (is_long key ≡ false) × (stepped (pos 1) (counted_from (at now t) (map.get (at now t).items key)) ≡ Some n) × (u ≡ made (at now t) key n)
inc_leaves patterns t u key n now step =
    let s = at now t in
    let x = stepped (pos 1) (counted_from s (map.get s.items key)) in
    let o = counted s key x in
    let p = passes s o (reply.Value (val.Int n)) refl (is_long key) (is_full s key) step.answered in
    let m : x ≡ Some n = number_of s key n x (step.answered ∙ ap (λ (y : Outcome). y.reply) p.1) in
    (p.0, m, step.leaves ∙ ap (λ (y : Outcome). let h : TableState = record { spec = s.spec; clock = s.clock; items = y.items } in h) (p.1 ∙ ap (counted s key) m))

one_more : (b : Bool) (x m : ℤ) → (if b then Some x else None) ≡ Some m → m ≡ x
one_more true x m e = cc
one_more false x m e = cc

pub counts_two : (patterns : List (List ℕ)) (t u w : TableState) (key : List ℕ) (n m : ℤ) (now later : ℕ)
    → IsStep patterns t (record { op = Inc key; now = now; reply = Ok (reply.Value (val.Int n)) }) u → IsStep patterns u (record { op = Inc key; now = later; reply = Ok (reply.Value (val.Int m)) }) w
    → max u.clock later < u.clock + 1000 * u.spec.autoexpire → m ≡ n +ℤ pos 1
counts_two patterns t u w key n m now later first second l =
    let s = at now t in
    let p = inc_leaves patterns t u key n now first in
    let q = inc_leaves patterns u w key m later second in
    let go : (x : TableState) → x ≡ made s key n → max x.clock later < x.clock + 1000 * x.spec.autoexpire → stepped (pos 1) (counted_from (at later x) (map.get (at later x).items key)) ≡ Some m → m ≡ n +ℤ pos 1
    = λ x e. subst (λ (y : TableState). max y.clock later < y.clock + 1000 * y.spec.autoexpire → stepped (pos 1) (counted_from (at later y) (map.get (at later y).items key)) ≡ Some m → m ≡ n +ℤ pos 1) (sym e)
    (λ k c. one_more (in_range (n +ℤ pos 1)) (n +ℤ pos 1) m (sym (ap (λ i. stepped (pos 1) (counted_from (at later (made s key n)) i)) (found_live s key n later k)) ∙ c)) in
    go u p.2 l q.1
