-- A branch that is changed, as it is shown.
use Rattle.std.proofs.Common.{◌≡◌, ◌<◌, ◌≤◌, ℕ, zero, suc, List, [], ◌∷◌, length, get_or, ap, subst, refl, sym, ◌∙◌, arith}
use Rattle.std.specs.Prelude.{slice_set, slice_get, Some, None}
use Rattle.std.specs.List.{AllByRecursion}
use Rattle.buf_pool.specs.Ledgers.{LedgerName}
use Rattle.std.proofs.lemmas.Option.{slice_get-get_or}
use Rattle.std.proofs.Common.{take, drop, ◌++◌}
use Rattle.std.proofs.Math.Seq.{take-append_seam}
use Rattle.host_meaning.specs.Run.{Received}
use Rattle.txn_dialogue.specs.Slots.{TxnBranch, change_at}
use Rattle.txn_state.specs.declared.branch.Branch.{Branch}
use Rattle.txn_state.specs.declared.branch.BranchState.{BranchState}
use Rattle.txn_state.specs.declared.text_block.TextBlock.{TextBlock}
use Rattle.txn_state.specs.Texts.{pool_of, text_in}
use Rattle.txn_state.specs.Kept.{branch_shown, branches_shown, requests_of, texts_of, AreOfPool}

pub changed : (request : Received) (bs : List Branch) (n : ℕ) (b d : Branch) (f : TxnBranch → TxnBranch) → n < length bs → branch_shown request b ≡ f (branch_shown request (get_or bs n d)) →
    branches_shown request (slice_set bs n b) ≡ change_at n f (branches_shown request bs)
changed request [] n b d f lt e = absurd (omega arith)
changed request (x ∷ xs) zero b d f lt e = ap (λ (y : TxnBranch). y ∷ branches_shown request xs) e
changed request (x ∷ xs) (suc n) b d f lt e =
    let less : n < length xs = omega arith in ap (λ (ys : List TxnBranch). branch_shown request x ∷ ys) (changed request xs n b d f less e)

pub beyond : (request : Received) (bs : List Branch) (n : ℕ) (f : TxnBranch → TxnBranch) → length bs ≤ n → branches_shown request bs ≡ change_at n f (branches_shown request bs)
beyond request [] n f le = refl
beyond request (x ∷ xs) zero f le = absurd (omega arith)
beyond request (x ∷ xs) (suc n) f le =
    let less : length xs ≤ n = omega arith in ap (λ (ys : List TxnBranch). branch_shown request x ∷ ys) (beyond request xs n f less)

-- the same at the number that a call was given
pub changed_at : (request : Received) (bs : List Branch) (n m : ℕ) (b d : Branch) (f : TxnBranch → TxnBranch) → n ≡ m → n < length bs → branch_shown request b ≡ f (branch_shown request (get_or bs n d)) →
    branches_shown request (slice_set bs n b) ≡ change_at m f (branches_shown request bs)
changed_at request bs n m b d f same lt e = subst (λ (k : ℕ). branches_shown request (slice_set bs n b) ≡ change_at k f (branches_shown request bs)) same (changed request bs n b d f lt e)

pub beyond_at : (request : Received) (bs : List Branch) (n m : ℕ) (f : TxnBranch → TxnBranch) → n ≡ m → length bs ≤ n → branches_shown request bs ≡ change_at m f (branches_shown request bs)
beyond_at request bs n m f same past =
    subst (λ (k : ℕ). branches_shown request bs ≡ change_at k f (branches_shown request bs)) same (beyond request bs n f past)

-- what steps change in a branch, put in at the number that a call was given
pub put_at : (request : Received) (bs : List Branch) (n m : ℕ) (d : Branch) (s : BranchState) (f : TxnBranch → TxnBranch) → n ≡ m → n < length bs →
    ((b : Branch) → slice_get bs m ≡ Some b → branch_shown request (record b { state = s }) ≡ f (branch_shown request b)) →
    branches_shown request (slice_set bs n (record (get_or bs n d) { state = s })) ≡ change_at m f (branches_shown request bs)
put_at request bs n m d s f same lt h =
    changed_at request bs n m (record (get_or bs n d) { state = s }) d f same lt
    (h (get_or bs n d) (subst (λ (k : ℕ). slice_get bs k ≡ Some (get_or bs n d)) same (slice_get-get_or bs n d lt)))

-- the texts stay
pub same_texts : (bs : List Branch) (n : ℕ) (d : Branch) (s : BranchState) → n < length bs → texts_of (slice_set bs n (record (get_or bs n d) { state = s })) ≡ texts_of bs
same_texts [] n d s lt = absurd (omega arith)
same_texts (x ∷ xs) zero d s lt = refl
same_texts (x ∷ xs) (suc n) d s lt =
    let less : n < length xs = omega arith in ap (λ (ts : List (TextBlock × TextBlock)). (x.request, x.response) ∷ ts) (same_texts xs n d s less)

-- no branch has this number
pub none_at : (request : Received) (bs : List Branch) (n : ℕ) (f : TxnBranch → TxnBranch) → slice_get bs n ≡ None → branches_shown request bs ≡ change_at n f (branches_shown request bs)
none_at request [] n f e = refl
none_at request (x ∷ xs) zero f e = absurd (cc)
none_at request (x ∷ xs) (suc n) f e = ap (λ (ys : List TxnBranch). branch_shown request x ∷ ys) (none_at request xs n f e)

pub same_pools : (bs : List Branch) (n : ℕ) (d : Branch) (s : BranchState) (pool : LedgerName) → n < length bs → AreOfPool pool bs → AreOfPool pool (slice_set bs n (record (get_or bs n d) { state = s }))
same_pools bs n d s pool lt h =
    subst (λ (ts : List (TextBlock × TextBlock)). AllByRecursion (λ t. (pool_of t.0 ≡ pool) × (pool_of t.1 ≡ pool)) ts) (sym (same_texts bs n d s lt)) h

-- another branch is put in, with the same request and a response in a block of the same pool
pub put_requests : (bs : List Branch) (n : ℕ) (b d : Branch) → n < length bs → b.request ≡ (get_or bs n d).request → requests_of (slice_set bs n b) ≡ requests_of bs
put_requests [] n b d lt e = absurd (omega arith)
put_requests (x ∷ xs) zero b d lt e = ap (λ (t : TextBlock). text_in t ∷ requests_of xs) e
put_requests (x ∷ xs) (suc n) b d lt e = let less : n < length xs = omega arith in ap (λ (ts : List (List ℕ)). text_in x.request ∷ ts) (put_requests xs n b d less e)

pub same_requests : (bs : List Branch) (n : ℕ) (d : Branch) (s : BranchState) → n < length bs → requests_of (slice_set bs n (record (get_or bs n d) { state = s })) ≡ requests_of bs
same_requests bs n d s lt = put_requests bs n (record (get_or bs n d) { state = s }) d lt refl

pub put_pools : (bs : List Branch) (n : ℕ) (b d : Branch) (pool : LedgerName) → n < length bs → b.request ≡ (get_or bs n d).request →
    pool_of b.response ≡ pool_of (get_or bs n d).response → AreOfPool pool bs → AreOfPool pool (slice_set bs n b)
put_pools [] n b d pool lt e f h = absurd (omega arith)
put_pools (x ∷ xs) zero b d pool lt e f h = ((ap pool_of e ∙ h.0.0, f ∙ h.0.1), h.1)
put_pools (x ∷ xs) (suc n) b d pool lt e f h = let less : n < length xs = omega arith in (h.0, put_pools xs n b d pool less e f h.1)

-- the branches that a call got as a slice, back in their list
pub items_back : (len : ℕ) (new old : List Branch) → length new ≡ len → take len (new ++ drop (length new) old) ≡ new
items_back len new old e = ap (λ (n : ℕ). take n (new ++ drop (length new) old)) (sym e) ∙ take-append_seam new (drop (length new) old)
