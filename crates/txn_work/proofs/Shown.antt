-- What data stand for, after a change.
use Rattle.std.proofs.Common.{◌≡◌, ℕ, zero, suc, ◌+◌, ◌*◌, ◌≤◌, List, [], ◌∷◌, length, Option, Some, None, refl, sym, ap, ◌∙◌, subst, true}
use Rattle.std.specs.Prelude.{slice_get, option_map, unwrap_or, is_some, vec_len}
use Rattle.std.proofs.Common.{Vec, Global}
use Rattle.std.proofs.lemmas.Option.{slice_get-map}
use Rattle.std.specs.List.{AllByRecursion}
use Rattle.buf_pool.specs.Ledgers.{LedgerName}
use Rattle.fork_core.specs.Responses.{History}
use Rattle.fork_core.specs.Histories.{HasHistory}
use Rattle.txn_dialogue.specs.Slots.{TxnBranch, TxnState, change_at, reading}
use Rattle.txn_dialogue.specs.Sends.{Sent, Work as Decided, at_branch}
use Rattle.txn_state.specs.declared.txn.Txn.{Txn}
use Rattle.txn_state.specs.Texts.{pool_of, text_in}
use Rattle.txn_state.specs.Kept.{AreOfPool, AreReadable, branch_shown, branches_shown, requests_of, text_if}
use Rattle.txn_texts.specs.declared.sources.Readings.{Readings}
use Rattle.txn_state.specs.declared.branch.Branch.{Branch}
use Rattle.txn_texts.specs.declared.desk.Desk.{Desk}
use Rattle.txn_texts.specs.declared.outbox.Outbox.{Outbox}
use Rattle.txn_texts.specs.Desks.{last_on}
use Rattle.txn_texts.specs.Texts.{request_at}
use Rattle.txn_texts.specs.Outboxes.{AllRead, sends_shown}
use Rattle.txn_work.specs.declared.work.Work.{Work}
use Rattle.txn_work.specs.Works.{IsOfPool, Shows, parts_in, request_in, work_shown}

-- the blocks are the same ones
same_pool : (pool : LedgerName) (t t' : Txn) (w w' : Work) → IsOfPool pool t w → t'.request ≡ t.request → t'.response ≡ t.response →
    (AreOfPool pool t.branches.items → AreOfPool pool t'.branches.items) → w'.spare ≡ w.spare → IsOfPool pool t' w'
same_pool pool t t' w w' h request response branches spare = record {
  request = ap pool_of request ∙ h.request;
  response = ap pool_of response ∙ h.response;
  branches = branches h.branches;
  spare = subst (λ bs. AllByRecursion (λ b. b.pool ≡ pool) bs.items) (sym spare) h.spare;
}

abbrev pub with_texts : Work → Desk → Outbox → Work
with_texts w k o = record w { desk = k; outbox = o }

-- the context and the branches stay
staying : (pool : LedgerName) (t t' : Txn) (r : Readings) (w : Work) (k : Desk) (o : Outbox) (d d' : Decided) → Shows pool t r w d →
    t'.context ≡ t.context → t'.branches ≡ t.branches → t'.request ≡ t.request → t'.response ≡ t.response →
    d'.state.history ≡ d.state.history → d'.base ≡ d.base →
    AllRead (parts_in t' r (with_texts w k o)) o → work_shown t' r (with_texts w k o) d.state.history d.base ≡ d' → Shows pool t' r (with_texts w k o) d'
staying pool t t' r w k o d d' h context branches request response history base read same = record {
  context = subst (λ (x : History). HasHistory t'.context x) (sym history) (subst (λ c. HasHistory c d.state.history) (sym context) h.context);
  count = ap (λ (x : History). length x.branches) history ∙ h.count ∙ ap (λ b. length b.items) (sym branches);
  requests = subst (λ b. AreReadable (requests_of b.items)) (sym branches) h.requests;
  sends = read;
  pools = same_pool pool t t' w (with_texts w k o) h.pools request response (subst (λ b. AreOfPool pool t.branches.items → AreOfPool pool b.items) (sym branches) (λ p. p)) refl;
  same = ap (λ (x : History). work_shown t' r (with_texts w k o) x d'.base) history ∙ ap (λ (x : TxnState). work_shown t' r (with_texts w k o) d.state.history x) base ∙ same;
}

pub stays : (pool : LedgerName) (t t' : Txn) (r : Readings) (w w' : Work) (d d' : Decided) → Shows pool t r w d → w' ≡ with_texts w w'.desk w'.outbox →
    t'.context ≡ t.context → t'.branches ≡ t.branches → t'.request ≡ t.request → t'.response ≡ t.response →
    d'.state.history ≡ d.state.history → d'.base ≡ d.base →
    AllRead (parts_in t' r w') w'.outbox → work_shown t' r (with_texts w w'.desk w'.outbox) d.state.history d.base ≡ d' → Shows pool t' r w' d'
stays pool t t' r w w' d d' h work context branches request response history base read same =
    subst (λ (x : Work). Shows pool t' r x d') (sym work) (staying pool t t' r w w'.desk w'.outbox d d' h context branches request response history base read same)

-- ---- a branch is changed

abbrev remade : Decided → Option (List ℕ) → List TxnBranch → ℕ → List Sent → Decided
remade d last branches blocks sends = record d { state = record d.state { last = last; branches = branches }; blocks = blocks; sends = sends }

abbrev pub with_branches : ℕ → (TxnBranch → TxnBranch) → List Sent → Decided → Decided
with_branches n f sends d = record d { state = record d.state { branches = change_at n f d.state.branches }; sends = sends }

abbrev pub BranchChanges : LedgerName → Txn → Readings → Work → Decided → ℕ → (TxnBranch → TxnBranch) → List Sent → Txn → Work → Type 0
BranchChanges pool t r w d n f sends t' w' =
    branches_shown (request_in t r) t'.branches.items ≡ change_at n f (branches_shown (request_in t r) t.branches.items) →
    requests_of t'.branches.items ≡ requests_of t.branches.items → (AreOfPool pool t.branches.items → AreOfPool pool t'.branches.items) →
    length t'.branches.items ≡ length t.branches.items → ((old : Option (List ℕ)) → last_on w'.desk old ≡ last_on w.desk old) →
    AllRead (parts_in t' r w') w'.outbox → sends_shown (parts_in t' r w') w'.outbox ≡ sends → Shows pool t' r w' (with_branches n f sends d)

changed_so : (pool : LedgerName) (t : Txn) (bs : Vec Branch Global) (few : vec_len bs ≤ 12) (r : Readings) (w : Work) (k : Desk) (o : Outbox) (d : Decided) (n : ℕ) (f : TxnBranch → TxnBranch) (sends : List Sent) →
    Shows pool t r w d → BranchChanges pool t r w d n f sends (record t { branches = bs; few = few }) (record w { desk = k; outbox = o })
changed_so pool t bs few r w k o d n f sends h branches requests pools count last read sent =
    let w0 = work_shown t r w d.state.history d.base in
    record {
      context = h.context;
      count = h.count ∙ sym count;
      requests = subst AreReadable (sym requests) h.requests;
      sends = read;
      pools = same_pool pool t (record t { branches = bs; few = few }) w (record w { desk = k; outbox = o }) h.pools refl refl pools refl;
      same =
          ap (λ x. remade w0 x (branches_shown (request_in t r) bs.items) (2 + 2 * length bs.items + vec_len w.spare) (sends_shown (parts_in (record t { branches = bs; few = few }) r (record w { desk = k; outbox = o })) o)) (last (text_if t.progress.has_response t.response))
          ∙ ap (λ x. remade w0 w0.state.last x (2 + 2 * length bs.items + vec_len w.spare) (sends_shown (parts_in (record t { branches = bs; few = few }) r (record w { desk = k; outbox = o })) o)) branches
          ∙ ap (λ x. remade w0 w0.state.last (change_at n f w0.state.branches) (2 + 2 * x + vec_len w.spare) (sends_shown (parts_in (record t { branches = bs; few = few }) r (record w { desk = k; outbox = o })) o)) count
          ∙ ap (λ x. remade w0 w0.state.last (change_at n f w0.state.branches) (2 + 2 * length t.branches.items + vec_len w.spare) x) sent
          ∙ ap (with_branches n f sends) h.same;
    }

-- one branch is changed, and something may be sent
pub changes_branch : (pool : LedgerName) (t t' : Txn) (r : Readings) (w w' : Work) (d : Decided) (n : ℕ) (f : TxnBranch → TxnBranch) (sends : List Sent) → Shows pool t r w d →
    t' ≡ record t { branches = t'.branches; few = t'.few } → w' ≡ record w { desk = w'.desk; outbox = w'.outbox } → BranchChanges pool t r w d n f sends t' w'
changes_branch pool t t' r w w' d n f sends h same work =
    subst (λ x. BranchChanges pool t r w d n f sends x w') (sym same)
    (subst (λ x. BranchChanges pool t r w d n f sends (record t { branches = t'.branches; few = t'.few }) x) (sym work) (changed_so pool t t'.branches t'.few r w w'.desk w'.outbox d n f sends h))

-- and nothing is sent
pub branch_alone : (pool : LedgerName) (t t' : Txn) (r : Readings) (w : Work) (d : Decided) (n : ℕ) (f : TxnBranch → TxnBranch) → Shows pool t r w d →
    t' ≡ record t { branches = t'.branches; few = t'.few } →
    branches_shown (request_in t r) t'.branches.items ≡ change_at n f (branches_shown (request_in t r) t.branches.items) →
    requests_of t'.branches.items ≡ requests_of t.branches.items → (AreOfPool pool t.branches.items → AreOfPool pool t'.branches.items) →
    length t'.branches.items ≡ length t.branches.items → Shows pool t' r w (at_branch n f d)
branch_alone pool t t' r w d n f h same branches requests pools count =
    let parts : parts_in t' r w ≡ parts_in t r w = ap (λ x. parts_in x r w) same ∙ ap (λ ts. record (parts_in t r w) { requests = ts }) requests in
    changes_branch pool t t' r w w d n f d.sends h same refl branches requests pools count (λ old. refl) (subst (λ p. AllRead p w.outbox) (sym parts) h.sends)
    (ap (λ p. sends_shown p w.outbox) parts ∙ ap (λ x. x.sends) h.same)

-- ---- the branch of a number

pub branches_are : (pool : LedgerName) (t : Txn) (r : Readings) (w : Work) (d : Decided) → Shows pool t r w d → branches_shown (request_in t r) t.branches.items ≡ d.state.branches
branches_are pool t r w d h = ap (λ x. x.state.branches) h.same

pub shown_at : (pool : LedgerName) (t : Txn) (r : Readings) (w : Work) (d : Decided) (n : ℕ) (o : Option Branch) → Shows pool t r w d → slice_get t.branches.items n ≡ o →
    slice_get d.state.branches n ≡ option_map (branch_shown (request_in t r)) o
shown_at pool t r w d n o h e =
    ap (λ bs. slice_get bs n) (sym (branches_are pool t r w d h)) ∙ slice_get-map (branch_shown (request_in t r)) t.branches.items n ∙ ap (option_map (branch_shown (request_in t r))) e

-- where one is there in the definition's eyes it is there
pub is_there : (pool : LedgerName) (t : Txn) (r : Readings) (w : Work) (d : Decided) (n : ℕ) (b : TxnBranch) {P : Type 0} → Shows pool t r w d → slice_get t.branches.items n ≡ None →
    slice_get d.state.branches n ≡ Some b → P
is_there pool t r w d n b h e f = let none : slice_get d.state.branches n ≡ None = shown_at pool t r w d n None h e in absurd (cc)

pub is_branch : (pool : LedgerName) (t : Txn) (r : Readings) (w : Work) (d : Decided) (n : ℕ) (b : TxnBranch) (x : Branch) → Shows pool t r w d → slice_get t.branches.items n ≡ Some x →
    slice_get d.state.branches n ≡ Some b → b ≡ branch_shown (request_in t r) x
is_branch pool t r w d n b x h e f = let some : slice_get d.state.branches n ≡ Some (branch_shown (request_in t r) x) = shown_at pool t r w d n (Some x) h e in cc

-- ---- its texts

request_there : (bs : List Branch) (n : ℕ) (x : Branch) → slice_get bs n ≡ Some x → slice_get (requests_of bs) n ≡ Some (text_in x.request)
request_there bs n x e = slice_get-map (λ (b : Branch). text_in b.request) bs n ∙ ap (option_map (λ (b : Branch). text_in b.request)) e

pub text_at : (bs : List Branch) (n : ℕ) (x : Branch) → slice_get bs n ≡ Some x → request_at (requests_of bs) n ≡ text_in x.request
text_at bs n x e = ap (λ (o : Option (List ℕ)). unwrap_or o []) (request_there bs n x e)

all_at : (texts : List (List ℕ)) (n : ℕ) (text : List ℕ) → AreReadable texts → slice_get texts n ≡ Some text → is_some (reading text) ≡ true
all_at [] n text h e = absurd (cc)
all_at (x ∷ xs) zero text h e = let same : x ≡ text = cc in subst (λ y. is_some (reading y) ≡ true) same h.0
all_at (x ∷ xs) (suc n) text h e = all_at xs n text h.1 e

pub reads_at : (bs : List Branch) (n : ℕ) (x : Branch) → AreReadable (requests_of bs) → slice_get bs n ≡ Some x → is_some (reading (text_in x.request)) ≡ true
reads_at bs n x h e = all_at (requests_of bs) n (text_in x.request) h (request_there bs n x e)
