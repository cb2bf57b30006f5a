-- The blocks of a request that is relayed.
use Rattle.std.proofs.Common.{◌≡◌, ◌≤◌, ◌<◌, refl, sym, ap, ◌∙◌, subst, arith, ℕ, zero, suc, ◌+◌, ◌-◌, List, [], ◌∷◌, ◌++◌, length, reverse, Option, Some, None, not, ◌&&◌, Bool, true, false}
use Rattle.std.proofs.lemmas.List.{reverse-append, length-reverse, length-append}
use Rattle.std.specs.Prelude.{negsuc, if◌then◌else◌}
use Rattle.dialogue.specs.Course.{Ends, Asks}
use Rattle.buf_pool.specs.Pools.{BlockState}
use Rattle.pv_values.specs.declared.run.HostAnswer.{HostAnswer}
use Rattle.pv_table.specs.declared.facts.Facts.{Facts}
use Rattle.pv_table.specs.declared.facts.RunData.{RunData}
use Rattle.host_meaning.specs.declared.ask.Asked.TheVariants as asked
use Rattle.host_meaning.specs.Run.{Received, Around, RunState, Tells, code, kept}
use Rattle.host_meaning.specs.Transactions.{with_transaction, with_trying, is_invite, trying, with_response}
use Rattle.host_meaning.specs.Relaying.{gives, takes_blocks}
use Rattle.script_host.specs.declared.ask.Ask.TheVariants as ask
use Rattle.script_host.specs.declared.row.Waiting.TheVariants as waiting
use Rattle.script_host.specs.declared.row.Going.{Going}
use Rattle.script_host.specs.declared.row.Going.TheVariants as going
use Rattle.script_host.specs.Lending.{state_of}
use Rattle.script_host.specs.Rows.{AreThere, HasTaken, HasRoom, AsksBelow, IsGoing, IsShort, relayed_over, left_of, rank, without, with_blocks, most_blocks}

-- those that are there are some of the list
pub there_within : {A : Type 0} (n : ℕ) (xs : List (Option A)) → AreThere n xs → n ≤ length xs
there_within zero xs p = omega arith
there_within (suc n) [] p = absurd p
there_within (suc n) (None ∷ xs) p = absurd p
there_within (suc n) (Some x ∷ xs) p = let q = there_within n xs p in omega (arith, q)

pub taken_within : {A : Type 0} (n : ℕ) (xs : List (Option A)) → AreThere n (reverse xs) → n ≤ length xs
taken_within n xs p = subst (λ k. n ≤ k) (length-reverse xs) (there_within n (reverse xs) p)

-- one more behind them
pub one_more : {A : Type 0} (n : ℕ) (xs ys : List (Option A)) (x : A) → ys ≡ xs ++ Some x ∷ [] → AreThere n (reverse xs) → AreThere (suc n) (reverse ys)
one_more n xs ys x e p = subst (AreThere (suc n)) (sym (ap reverse e ∙ reverse-append xs (Some x ∷ []))) p

-- one less
pub one_less : {A : Type 0} (n : ℕ) (xs ys : List (Option A)) (x : A) → xs ≡ ys ++ Some x ∷ [] → AreThere (suc n) (reverse xs) → AreThere n (reverse ys)
one_less n xs ys x e p = subst (AreThere (suc n)) (ap reverse e ∙ reverse-append ys (Some x ∷ [])) p

pub below_more : (m n : ℕ) (g : Going) → m ≤ n → AsksBelow m g → AsksBelow n g
below_more m n (going.Tells answer) le p = tt
below_more m n (going.Asks ask w) le p = omega (arith, le, p)

label_of_if : (b : Bool) (f g : Facts) → g.label ≡ f.label → (if b then g else f).label ≡ f.label
label_of_if true f g e = e
label_of_if false f g e = refl

trying_label : (r : Received) (f : Facts) → (with_trying r f).label ≡ f.label
trying_label r f = label_of_if (is_invite r && not f.standing.has_responded) f (with_response trying f) refl

-- a request that is relayed can find no memory at its end
pub relayed_short : (o : Option Received) (s : RunState) → IsShort (relayed_over o s) s
relayed_short None s = refl
relayed_short (Some r) s = ap (λ (l : Option ℕ). record { blocks = s.blocks; label = l }) (sym (trying_label r (with_transaction s.facts)))

-- data under which the same state lies
pub same_without : (m n : ℕ) (old new : RunData) → new.facts ≡ old.facts → length old.blocks.items - m ≡ length new.blocks.items - n → without m old ≡ without n new
same_without m n old new e k =
    ap (λ (f : Facts). with_blocks f (length old.blocks.items - m)) (sym e) ∙ ap (λ (b : ℕ). with_blocks new.facts b) k

pub without_none : (d : RunData) → state_of d ≡ without 0 d
without_none d = let e : length d.blocks.items ≡ length d.blocks.items - 0 = omega arith in ap (λ (b : ℕ). with_blocks d.facts b) e

one_longer : (xs ys : List (Option BlockState)) (x : BlockState) → ys ≡ xs ++ Some x ∷ [] → length ys ≡ length xs + 1
one_longer xs ys x e = ap length e ∙ length-append xs (Some x ∷ [])

-- a block goes back, and one less is left
pub gives_on : (a : Around) (k n : ℕ) (old new : RunData) (block : BlockState) → k ≡ suc n → new.facts ≡ old.facts → old.blocks.items ≡ new.blocks.items ++ Some block ∷ [] →
    HasTaken k old → IsGoing a (gives k (code (negsuc 1) (without k old))) (going.Asks (ask.GiveBack block) (waiting.GivenBack n)) new
gives_on a k n old new block same facts items there =
    subst (λ j. IsGoing a (gives j (code (negsuc 1) (without j old))) (going.Asks (ask.GiveBack block) (waiting.GivenBack n)) new) (sym same)
    (let longer = one_longer new.blocks.items old.blocks.items block items in
    let under : length old.blocks.items - suc n ≡ length new.blocks.items - n = omega (arith, longer) in (
      ap (λ (s : RunState). Asks asked.GiveBack (λ h. gives n (code (negsuc 1) s))) (same_without (suc n) n old new facts under),
      one_less n old.blocks.items new.blocks.items block items (subst (λ j. HasTaken j old) same there),
    ))

-- a block was taken, and the next one is asked for
pub takes_on : (a : Around) (k more taken all : ℕ) (old new : RunData) (block : BlockState) → k ≡ suc more → all ≡ suc taken → new.facts ≡ old.facts →
    new.blocks.items ≡ old.blocks.items ++ Some block ∷ [] → HasRoom (waiting.Block k taken) old →
    IsGoing a (takes_blocks k (suc taken) (without taken old) (relayed_over a.received)) (going.Asks ask.Block (waiting.Block more all)) new
takes_on a k more taken all old new block same counted facts items there =
    let longer = one_longer old.blocks.items new.blocks.items block items in
    let under : length old.blocks.items - taken ≡ length new.blocks.items - suc taken = omega (arith, longer) in
    let places = there.0 in
    let fits : suc more + length new.blocks.items ≤ most_blocks = omega (arith, longer, places, same) in
    subst (λ j. IsGoing a (takes_blocks j (suc taken) (without taken old) (relayed_over a.received)) (going.Asks ask.Block (waiting.Block more all)) new) (sym same)
    (subst (λ j. IsGoing a (takes_blocks (suc more) (suc taken) (without taken old) (relayed_over a.received)) (going.Asks ask.Block (waiting.Block more j)) new) (sym counted) (
      ap (λ (s : RunState). Asks asked.Block (left_of a (waiting.Block more (suc taken)) s)) (same_without taken (suc taken) old new facts under),
      (fits, one_more taken old.blocks.items new.blocks.items block items there.1),
    ))

-- all that were taken count with the last one
all_counted : (taken : ℕ) (old : RunData) (items : List (Option BlockState)) (block : BlockState) → items ≡ old.blocks.items ++ Some block ∷ [] → HasTaken taken old →
    length old.blocks.items - taken + suc taken ≡ length items
all_counted taken old items block e there =
    let longer = one_longer old.blocks.items items block e in
    let within = taken_within taken old.blocks.items there in
    omega (arith, longer, within)

-- with the last block the request is relayed
pub takes_last : (a : Around) (k taken : ℕ) (old new : RunData) (block : BlockState) (told : HostAnswer) → k ≡ 0 → new.blocks.items ≡ old.blocks.items ++ Some block ∷ [] →
    HasRoom (waiting.Block k taken) old → ((blocks : ℕ) → relayed_over a.received (with_blocks old.facts blocks) ≡ Ends (Tells told (with_blocks new.facts blocks))) →
    IsGoing a (takes_blocks k (suc taken) (without taken old) (relayed_over a.received)) (going.Tells told) new
takes_last a k taken old new block told none items there p =
    subst (λ j. IsGoing a (takes_blocks j (suc taken) (without taken old) (relayed_over a.received)) (going.Tells told) new) (sym none)
    (ap (λ (b : ℕ). relayed_over a.received (with_blocks old.facts b)) (all_counted taken old new.blocks.items block items there.1) ∙ p (length new.blocks.items))

-- or no memory is found for it
pub takes_short : (o : Option Received) (k taken : ℕ) (old new : RunData) (block : BlockState) → k ≡ 0 → new.facts ≡ old.facts → new.blocks.items ≡ old.blocks.items ++ Some block ∷ [] →
    HasRoom (waiting.Block k taken) old → IsShort (takes_blocks k (suc taken) (without taken old) (relayed_over o)) (state_of new)
takes_short o k taken old new block none facts items there =
    subst (λ j. IsShort (takes_blocks j (suc taken) (without taken old) (relayed_over o)) (state_of new)) (sym none)
    (subst (λ s. IsShort (relayed_over o (with_blocks old.facts (length old.blocks.items - taken + suc taken))) s)
    (ap (λ (b : ℕ). with_blocks old.facts b) (all_counted taken old new.blocks.items block items there.1) ∙ ap (λ (f : Facts). with_blocks f (length new.blocks.items)) (sym facts))
    (relayed_short o (with_blocks old.facts (length old.blocks.items - taken + suc taken))))

-- what the call has taken counts where an object found no memory
pub lacks_with : (taken : ℕ) (d : RunData) → HasTaken taken d → kept (state_of d) ≡ kept (with_blocks d.facts (length d.blocks.items - taken + taken))
lacks_with taken d there =
    let within = taken_within taken d.blocks.items there in
    let e : length d.blocks.items ≡ length d.blocks.items - taken + taken = omega (arith, within) in
    ap (λ (b : ℕ). record { blocks = b; label = d.facts.label }) e

-- the first ask for blocks
pub asks_first : (a : Around) (k more : ℕ) (d : RunData) → k ≡ suc more → k + length d.blocks.items ≤ most_blocks →
    IsGoing a (takes_blocks k 0 (state_of d) (relayed_over a.received)) (going.Asks ask.Block (waiting.Block more 0)) d
asks_first a k more d same fits =
    let places : suc more + length d.blocks.items ≤ most_blocks = omega (arith, same, fits) in
    subst (λ j. IsGoing a (takes_blocks j 0 (state_of d) (relayed_over a.received)) (going.Asks ask.Block (waiting.Block more 0)) d) (sym same)
    (ap (λ (s : RunState). Asks asked.Block (left_of a (waiting.Block more 0) s)) (without_none d), (places, tt))
