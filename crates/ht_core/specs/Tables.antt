-- What a table is, and what each operation on it answers and leaves.
use Rattle.std.specs.Prelude.{◌≡◌, ℕ, ◌+◌, ◌-◌, ◌*◌, ◌/◌, ◌^◌, max, ◌==◌, nat_lt, nat_le, ℤ, pos, negsuc, ◌+ℤ◌, Bool, true, false, not, ◌&&◌, ◌||◌, List, length, Option, Some, None, Result, Ok, Err, IfOk, MatchResult, if◌then◌else◌}
use Rattle.std.specs.Option.{option_map_or}
use Rattle.std.specs.List.{slice_get}
use Rattle.std.specs.declared.alloc.AllocError.{AllocError}
use Rattle.std.specs.declared.cmp.Ordering.{Ordering}
use Rattle.std.specs.Ordering.{nat_cmp}
use Rattle.std.specs.Cmp.Lexicographic.{slice_cmp}
use Rattle.std.specs.FinMap as map
use Rattle.pv_values.specs.declared.table.TableSpec.{TableSpec}
use Rattle.pv_values.specs.declared.value.Val.{Val}
use Rattle.pv_values.specs.declared.value.Val.TheVariants as val
use Rattle.pv_values.specs.Numbers.{in_range}
use Rattle.pv_values.specs.Matching.{matches_in}
use Rattle.ht_core.specs.declared.item.Item.{Item}
use Rattle.ht_core.specs.declared.operation.TabOp.{TabOp}
use Rattle.ht_core.specs.declared.operation.TabOp.TheVariants.{Get, Set, Remove, Inc, Dec, Left, Limit, RemoveMatching, Reset}
use Rattle.ht_core.specs.declared.operation.TabReply.{TabReply}
use Rattle.ht_core.specs.declared.operation.TabReply.TheVariants as reply
use Rattle.ht_core.specs.declared.operation.TabRecord.{TabRecord}

-- ---- a table

-- keys are texts, in the order of their bytes
abbrev pub by_bytes : List ℕ → List ℕ → Ordering
by_bytes = slice_cmp nat_cmp

-- a finite map from keys to items
abbrev pub Items : Type 0
Items = map.FinMap by_bytes Item

-- a table: what its script says of it, the greatest moment so far, and its items
pub record TableState : Type 0 where
  pub spec : TableSpec
  pub clock : ℕ
  pub items : Items

-- a table before its first operation
abbrev pub fresh : TableSpec → TableState
fresh spec = record { spec = spec; clock = 0; items = map.empty }

-- an item is live until the clock comes to its due moment, and without one for ever
abbrev pub is_live : ℕ → Item → Bool
is_live clock item = option_map_or (λ due. nat_lt clock due) item.due true

-- an item that is not live is absent
abbrev pub present : ℕ → Option Item → Option Item
present clock None = None
present clock (Some item) = if is_live clock item then Some item else None

abbrev pub is_present : ℕ → Option Item → Bool
is_present clock None = false
is_present clock (Some item) = is_live clock item

-- the live items
abbrev pub live : ℕ → Items → Items
live clock items = map.retain_keys items (λ key. is_present clock (map.get items key))

-- the table at a moment: its clock is the greatest moment so far, and its items are the live ones
abbrev pub at : ℕ → TableState → TableState
at now t = record { spec = t.spec; clock = max t.clock now; items = live (max t.clock now) t.items }

-- ---- what an operation answers, and the items that it leaves

pub record Outcome : Type 0 where
  pub reply : TabReply
  pub items : Items

-- an answer that changes nothing
abbrev pub answers : TableState → TabReply → Outcome
answers t r = record { reply = r; items = t.items }

-- the moment after so many seconds: none where they are 0, and where no clock can come to it
abbrev pub due_after : ℕ → ℕ → Option ℕ
due_after clock seconds =
    if seconds == 0 then None
    else (if nat_lt (clock + 1000 * seconds) (2 ^ 64) then Some (clock + 1000 * seconds) else None)

-- the key has the value, and its life starts anew
abbrev pub assigned : TableState → List ℕ → Val → TabReply → Outcome
assigned t key v r = record {
  reply = r;
  items = map.insert t.items key (record { value = v; due = due_after t.clock t.spec.autoexpire });
}

-- the key is absent
abbrev pub removed : TableState → List ℕ → Outcome
removed t key = record { reply = reply.Done; items = map.remove t.items key }

-- a new key would be the 100,001st item
abbrev pub is_full : TableState → List ℕ → Bool
is_full t key = not (map.contains_key t.items key) && nat_le 100000 (map.len t.items)

-- what a key reads: its item's value; where it is absent the initial value, if there is one
abbrev pub initial_reply : Option ℤ → TabReply
initial_reply None = reply.Null
initial_reply (Some n) = reply.Value (val.Int n)

abbrev pub reading : TableState → Option Item → TabReply
reading t None = initial_reply t.spec.initval
reading t (Some item) = reply.Value item.value

-- from what a key is counted: its item's value; where it is absent the initial value or 0
abbrev pub counted_from : TableState → Option Item → Val
counted_from t None = val.Int (option_map_or (λ n. n) t.spec.initval (pos 0))
counted_from t (Some item) = item.value

-- a number with a step added, where that is within 64 bits; a text has none
abbrev pub stepped : ℤ → Val → Option ℤ
stepped step val.Null = None
stepped step (val.Int n) = if in_range (n +ℤ step) then Some (n +ℤ step) else None
stepped step (val.Text text) = None

-- the key has this number, which is also the answer
abbrev pub counted : TableState → List ℕ → Option ℤ → Outcome
counted t key None = answers t reply.NotNumber
counted t key (Some n) = assigned t key (val.Int n) (reply.Value (val.Int n))

-- the seconds until a due moment, rounded up; 0 without one
abbrev pub seconds_left : ℕ → Option ℕ → ℕ
seconds_left clock None = 0
seconds_left clock (Some due) = (due - clock + 999) / 1000

abbrev pub left : TableState → Option Item → TabReply
left t None = reply.Null
left t (Some item) = reply.Value (val.Int (pos (seconds_left t.clock item.due)))

-- the seconds of a limit, which are 0 to 10,000,000
abbrev pub limit_seconds : ℤ → Option ℕ
limit_seconds (pos n) = if nat_le n 10000000 then Some n else None
limit_seconds (negsuc n) = None

-- the item keeps its value, and lives so many seconds from now
abbrev pub limited : TableState → List ℕ → Option ℕ → Option Item → Outcome
limited t key None item = answers t reply.Null
limited t key (Some seconds) None = answers t reply.Null
limited t key (Some seconds) (Some item) = record {
  reply = reply.Done;
  items = map.insert t.items key (record { value = item.value; due = due_after t.clock seconds });
}

-- the pattern, if there is one, matches in the key
abbrev pub is_found_by : Option (List ℕ) → List ℕ → Bool
is_found_by None key = false
is_found_by (Some pattern) key = matches_in pattern key

-- what comes of an operation that may add a key: where a new key would be the 100,001st item, nothing
abbrev pub with_room : TableState → List ℕ → Outcome → Outcome
with_room t key o = if is_full t key then answers t reply.Full else o

abbrev pub set_to : TableState → List ℕ → Val → Outcome
set_to t key val.Null = removed t key
set_to t key (val.Int n) = with_room t key (assigned t key (val.Int n) reply.Done)
set_to t key (val.Text text) = with_room t key (assigned t key (val.Text text) reply.Done)

abbrev pub count_by : TableState → List ℕ → ℤ → Outcome
count_by t key step = with_room t key (counted t key (stepped step (counted_from t (map.get t.items key))))

-- the keys that are found are absent, and counted
abbrev pub all_matching : (List ℕ → Bool) → TableState → Outcome
all_matching found t = record {
  reply = reply.Count (map.len (map.retain_keys t.items found));
  items = map.retain_keys t.items (λ key. not (found key));
}

abbrev pub all_keys : TableState → Outcome
all_keys t = record { reply = reply.Count (map.len t.items); items = map.empty }

-- one clause an operation, at the table as it is at that moment
abbrev pub done : List (List ℕ) → TableState → TabOp → Outcome
done patterns t (Get key) = answers t (reading t (map.get t.items key))
done patterns t (Set key v) = set_to t key v
done patterns t (Remove key) = removed t key
done patterns t (Inc key) = count_by t key (pos 1)
done patterns t (Dec key) = count_by t key (negsuc 0)
done patterns t (Left key) = answers t (left t (map.get t.items key))
done patterns t (Limit key n) = limited t key (limit_seconds n) (map.get t.items key)
done patterns t (RemoveMatching number) = all_matching (is_found_by (slice_get patterns number)) t
done patterns t Reset = all_keys t

-- a text of more than 512 bytes
abbrev pub is_long : List ℕ → Bool
is_long text = nat_lt 512 (length text)

abbrev pub is_long_value : Val → Bool
is_long_value val.Null = false
is_long_value (val.Int n) = false
is_long_value (val.Text text) = is_long text

-- the key or the text of the operation is too long
abbrev pub is_too_long : TabOp → Bool
is_too_long (Get key) = is_long key
is_too_long (Set key v) = is_long key || is_long_value v
is_too_long (Remove key) = is_long key
is_too_long (Inc key) = is_long key
is_too_long (Dec key) = is_long key
is_too_long (Left key) = is_long key
is_too_long (Limit key n) = is_long key
is_too_long (RemoveMatching number) = false
is_too_long Reset = false

-- a text that is too long goes before all else
abbrev pub outcome : List (List ℕ) → TableState → TabOp → Outcome
outcome patterns t op = if is_too_long op then answers t reply.TooLong else done patterns t op

-- ---- one record of a table's history

-- the table with these items
abbrev pub holding : TableState → Items → TableState
holding t items = record { spec = t.spec; clock = t.clock; items = items }

-- the outcome is what is answered, and its items are left; out of memory nothing changes
pub record Comes (t : TableState) (o : Outcome) (answer : Result TabReply AllocError) (u : TableState) : Type 0 where
  pub answered : IfOk answer (λ a. a ≡ o.reply)
  pub leaves : MatchResult answer (λ _. u ≡ holding t o.items) (λ _. u ≡ t)

-- from table t the operation of the record leads to table u, and is answered as the record says
abbrev pub IsStep : List (List ℕ) → TableState → TabRecord → TableState → Type 0
IsStep patterns t r u = Comes (at r.now t) (outcome patterns (at r.now t) r.op) r.reply u

-- ---- words of laws

-- the key of an operation on one key
abbrev pub key_of : TabOp → Option (List ℕ)
key_of (Get key) = Some key
key_of (Set key v) = Some key
key_of (Remove key) = Some key
key_of (Inc key) = Some key
key_of (Dec key) = Some key
key_of (Left key) = Some key
key_of (Limit key n) = Some key
key_of (RemoveMatching number) = None
key_of Reset = None

-- an answer after which the items may be others
abbrev pub may_change : TabReply → Bool
may_change (reply.Value v) = true
may_change reply.Null = false
may_change reply.Done = true
may_change reply.Full = false
may_change reply.TooLong = false
may_change reply.NotNumber = false
may_change (reply.Count n) = true

-- what was answered is no such answer
abbrev pub is_refusal : Result TabReply AllocError → Bool
is_refusal (Ok a) = not (may_change a)
is_refusal (Err e) = true
