-- Clients of branches, as the definition of a step has them.
use Rattle.std.proofs.Common.{◌≡◌, ℕ, zero, suc, List, [], ◌∷◌, Option, Some, None, Bool, true, false, refl, sym, ap, ◌∙◌, subst, drop}
use Rattle.std.specs.Prelude.{slice_get, option_map, is_some, unwrap_or, if◌then◌else◌}
use Rattle.sip_words.specs.Words.{◌>>=◌}
use Rattle.buf_pool.specs.Ledgers.{LedgerName}
use Rattle.outside_ports.specs.declared.port.Addr.{Addr}
use Rattle.sip_msg.specs.declared.message.Message.{Message}
use Rattle.sip_build.specs.Hop.{ack_text, cancel_text}
use Rattle.txn_client.specs.declared.machine.Client.{Client}
use Rattle.txn_client.specs.declared.machine.ClientActs.{ClientActs}
use Rattle.txn_client.specs.declared.machine.ClientEvent.{ClientEvent}
use Rattle.txn_client.specs.After.{client_after}
use Rattle.host_meaning.specs.Run.{Received, received, is_readable}
use Rattle.txn_dialogue.specs.Slots.{TxnBranch, change_at, parts_read, reading}
use Rattle.txn_dialogue.specs.Sends.{Sent, Work as Decided, all_cancelling, at_branch, begun_client, cancel_ripe, cancelling, client_step, is_ripe, sent_if, with_cancel, cancel_sends}
use Rattle.txn_state.specs.declared.txn.Txn.{Txn}
use Rattle.txn_state.specs.declared.branch.Branch.{Branch}
use Rattle.txn_state.specs.declared.branch.BranchState.{BranchState}
use Rattle.txn_state.specs.Texts.{text_in}
use Rattle.txn_state.specs.Kept.{as_read, branch_shown, requests_of}
use Rattle.txn_texts.specs.declared.sources.Readings.{Readings}
use Rattle.txn_texts.specs.Texts.{Arrived, ack_between, cancel_for, request_at}
use Rattle.txn_work.specs.declared.work.Work.{Work}
use Rattle.txn_moments.specs.Moments.{moment_after}
use Rattle.txn_texts.specs.Outboxes.{AllRead, sends_shown}
use Rattle.txn_work.specs.Works.{Shows, ack_for, cancel_stepped, parts_in, request_in, work_shown}
use Rattle.txn_work.proofs.Shown.{with_branches, is_branch, shown_at, text_at, reads_at}

-- ---- a branch that isn't there, and one that stays as it is

pub change_none : (bs : List TxnBranch) (n : ℕ) (f : TxnBranch → TxnBranch) → slice_get bs n ≡ None → change_at n f bs ≡ bs
change_none [] n f e = refl
change_none (x ∷ xs) zero f e = absurd (cc)
change_none (x ∷ xs) (suc n) f e = ap (λ (ys : List TxnBranch). x ∷ ys) (change_none xs n f e)

pub change_same : (bs : List TxnBranch) (n : ℕ) (b : TxnBranch) (f : TxnBranch → TxnBranch) → slice_get bs n ≡ Some b → f b ≡ b → change_at n f bs ≡ bs
change_same [] n b f e s = refl
change_same (x ∷ xs) zero b f e s = let same : x ≡ b = cc in ap (λ (y : TxnBranch). y ∷ xs) (ap f same ∙ s ∙ sym same)
change_same (x ∷ xs) (suc n) b f e s = ap (λ (ys : List TxnBranch). x ∷ ys) (change_same xs n b f e s)

pub none_changes : (d : Decided) (n : ℕ) (f : TxnBranch → TxnBranch) → slice_get d.state.branches n ≡ None → d ≡ at_branch n f d
none_changes d n f e = ap (λ (bs : List TxnBranch). record d { state = record d.state { branches = bs } }) (sym (change_none d.state.branches n f e))

-- ---- a text, as it reads

by_parts : (text : List ℕ) (b : Bool) (o : Option Message) (q : Received) → (if b then o >>= (λ m. Some (received text m)) else None) ≡ Some q → q.bytes ≡ text
by_parts text true (Some m) q e = let same : received text m ≡ q = cc in ap (λ (x : Received). x.bytes) (sym same)
by_parts text true None q e = absurd (cc)
by_parts text false o q e = absurd (cc)

bytes_read : (rq : Received) (text : List ℕ) (o : Option Received) → reading text ≡ o → is_some o ≡ true → (unwrap_or o rq).bytes ≡ text
bytes_read rq text (Some q) e s = by_parts text (is_readable text) (parts_read text) q e
bytes_read rq text None e s = absurd (cc)

pub as_it_reads : (rq : Received) (text : List ℕ) → is_some (reading text) ≡ true → (as_read rq text).bytes ≡ text
as_it_reads rq text s = bytes_read rq text (reading text) refl s

ack_so : (rq : Received) (o : Option Received) (came : Option Arrived) (x : Branch) → is_some o ≡ true → reading (text_in x.request) ≡ o → ack_between o came ≡ ack_for (branch_shown rq x) came
ack_so rq (Some q) None x s e = refl
ack_so rq (Some q) (Some a) x s e = ap (λ (y : Option Received). ack_text (unwrap_or y rq).bytes (unwrap_or y rq).message a.message.bytes a.message.message) (sym e)
ack_so rq None came x s e = absurd (cc)

cancel_so : (rq : Received) (o : Option Received) (x : Branch) → is_some o ≡ true → reading (text_in x.request) ≡ o →
    cancel_for o ≡ cancel_text (branch_shown rq x).request.bytes (branch_shown rq x).request.message
cancel_so rq (Some q) x s e = ap (λ (y : Option Received). cancel_text (unwrap_or y rq).bytes (unwrap_or y rq).message) (sym e)
cancel_so rq None x s e = absurd (cc)

module _ (pool : LedgerName) (t : Txn) (r : Readings) (w : Work) (d : Decided) (n : ℕ) (x : Branch) (b : TxnBranch) (h : Shows pool t r w d)
    (there : slice_get t.branches.items n ≡ Some x) (shown : slice_get d.state.branches n ≡ Some b) where
  abbrev pub is : b ≡ branch_shown (request_in t r) x
  is = is_branch pool t r w d n b x h there shown

  reads : is_some (reading (text_in x.request)) ≡ true
  reads = reads_at t.branches.items n x h.requests there

  pub request_is : request_at (requests_of t.branches.items) n ≡ b.request.bytes
  request_is = text_at t.branches.items n x there ∙ sym (ap (λ (y : TxnBranch). y.request.bytes) is ∙ as_it_reads (request_in t r) (text_in x.request) reads)

  pub ack_is : (came : Option Arrived) → ack_between (reading (request_at (requests_of t.branches.items) n)) came ≡ ack_for b came
  ack_is came =
      ap (λ (y : List ℕ). ack_between (reading y) came) (text_at t.branches.items n x there)
      ∙ ack_so (request_in t r) (reading (text_in x.request)) came x reads refl ∙ ap (λ (y : TxnBranch). ack_for y came) (sym is)

  pub cancel_is : cancel_for (reading (request_at (requests_of t.branches.items) n)) ≡ cancel_text b.request.bytes b.request.message
  cancel_is =
      ap (λ (y : List ℕ). cancel_for (reading y)) (text_at t.branches.items n x there)
      ∙ cancel_so (request_in t r) (reading (text_in x.request)) x reads refl ∙ ap (λ (y : TxnBranch). cancel_text y.request.bytes y.request.message) (sym is)

  pub to_is : x.to ≡ b.to
  to_is = ap (λ (y : TxnBranch). y.to) (sym is)

  pub client_is : x.state.client ≡ b.client
  client_is = ap (λ (y : TxnBranch). y.client) (sym is)

  pub ripe_is : is_ripe (branch_shown (request_in t r) x) ≡ is_ripe b
  ripe_is = ap is_ripe (sym is)

pub now_is : (pool : LedgerName) (t : Txn) (r : Readings) (w : Work) (d : Decided) → Shows pool t r w d → w.time ≡ d.now
now_is pool t r w d h = ap (λ (y : Decided). y.now) h.same

pub sends_are : (pool : LedgerName) (t : Txn) (r : Readings) (w : Work) (d : Decided) → Shows pool t r w d → (work_shown t r w d.state.history d.base).sends ≡ d.sends
sends_are pool t r w d h = ap (λ (y : Decided). y.sends) h.same

-- ---- what a client does

pub client_so : (d : Decided) (n : ℕ) (b : TxnBranch) (event : ClientEvent) (ack : List ℕ) (c : Client) (acts : ClientActs) (sends : List Sent) →
    client_after b.client event d.now ≡ (c, acts) → sends ≡ sent_if acts.ack b.to ack None (sent_if acts.send b.to b.request.bytes (Some n) d.sends) →
    with_branches n (λ y. record y { client = c }) sends d ≡ client_step n b event ack d
client_so d n b event ack c acts sends e s =
    ap (λ (x : List Sent). with_branches n (λ y. record y { client = c }) x d) s
    ∙ sym (ap (λ (made : Client × ClientActs). with_branches n (λ y. record y { client = made.0 })
    (sent_if made.1.ack b.to ack None (sent_if made.1.send b.to b.request.bytes (Some n) d.sends)) d) e)

pub after_at : (c c' : Client) (event : ClientEvent) (now now' : ℕ) (made : Client × ClientActs) → client_after c event now ≡ made → c ≡ c' → now ≡ now' → client_after c' event now' ≡ made
after_at c c' event now now' made e same at = ap (λ (x : Client). client_after x event now') (sym same) ∙ ap (λ (m : ℕ). client_after c event m) (sym at) ∙ e

-- what is sent of a branch, in the definition's words
pub both_sent : (acts : ClientActs) (to to' : Addr) (n : ℕ) (request request' ack ack' : List ℕ) (sends sends' : List Sent) → to ≡ to' → request ≡ request' → ack ≡ ack' → sends ≡ sends' →
    sent_if acts.ack to ack None (sent_if acts.send to request (Some n) sends) ≡ sent_if acts.ack to' ack' None (sent_if acts.send to' request' (Some n) sends')
both_sent acts to to' n request request' ack ack' sends sends' a b c d = cc

pub cancel_so_sent : (send : Bool) (to to' : Addr) (text text' : List ℕ) (sends sends' : List Sent) → to ≡ to' → text ≡ text' → sends ≡ sends' →
    sent_if send to text None sends ≡ sent_if send to' text' None sends'
cancel_so_sent send to to' text text' sends sends' a b c = cc

-- ---- the CANCEL that is to be sent

unripe : (now : ℕ) (b : TxnBranch) → is_ripe b ≡ false → with_cancel now b ≡ b
unripe now b e = let r = e in rw e refl

pub not_ripe : (d : Decided) (n : ℕ) (b : TxnBranch) → slice_get d.state.branches n ≡ Some b → is_ripe b ≡ false → d ≡ cancel_ripe n d
not_ripe d n b at e =
    sym (ap (λ (bs : List TxnBranch). record d { state = record d.state { branches = bs }; sends = cancel_sends (slice_get d.state.branches n) d.sends }) (change_same d.state.branches n b (with_cancel d.now) at (unripe d.now b e))
    ∙ ap (λ (o : Option TxnBranch). record d { sends = cancel_sends o d.sends }) at
    ∙ ap (λ (y : Bool). record d { sends = sent_if y b.to (cancel_text b.request.bytes b.request.message) None d.sends }) e)

pub not_there : (d : Decided) (n : ℕ) → slice_get d.state.branches n ≡ None → d ≡ cancel_ripe n d
not_there d n at =
    sym (ap (λ (bs : List TxnBranch). record d { state = record d.state { branches = bs }; sends = cancel_sends (slice_get d.state.branches n) d.sends }) (change_none d.state.branches n (with_cancel d.now) at)
    ∙ ap (λ (o : Option TxnBranch). record d { sends = cancel_sends o d.sends }) at)

pub ripe_so : (d : Decided) (n : ℕ) (b : TxnBranch) (sends : List Sent) → slice_get d.state.branches n ≡ Some b → is_ripe b ≡ true →
    sends ≡ sent_if true b.to (cancel_text b.request.bytes b.request.message) None d.sends → with_branches n (with_cancel d.now) sends d ≡ cancel_ripe n d
ripe_so d n b sends at e s =
    ap (λ (x : List Sent). with_branches n (with_cancel d.now) x d) s
    ∙ ap (λ (y : Bool). with_branches n (with_cancel d.now) (sent_if y b.to (cancel_text b.request.bytes b.request.message) None d.sends) d) (sym e)
    ∙ ap (λ (o : Option TxnBranch). with_branches n (with_cancel d.now) (cancel_sends o d.sends) d) (sym at)

pub cancel_stepped_so : (d : Decided) (n : ℕ) (b : TxnBranch) (event : ClientEvent) (c c' : Client) (acts : ClientActs) (sends : List Sent) → client_after c event d.now ≡ (c', acts) →
    sends ≡ sent_if acts.send b.to (cancel_text b.request.bytes b.request.message) None d.sends → with_branches n (λ y. record y { cancel = Some c' }) sends d ≡ cancel_stepped n b c event d
cancel_stepped_so d n b event c c' acts sends e s =
    ap (λ (x : List Sent). with_branches n (λ y. record y { cancel = Some c' }) x d) s
    ∙ sym (ap (λ (made : Client × ClientActs). with_branches n (λ y. record y { cancel = Some made.0 })
    (sent_if made.1.send b.to (cancel_text b.request.bytes b.request.message) None d.sends) d) e)

-- ---- what steps change in a branch

pub state_is : (o : Option Branch) (b : Branch) (s : BranchState) → o ≡ Some b → Some s ≡ option_map (λ (x : Branch). x.state) o → s ≡ b.state
state_is (Some x) b s e f = let same : x ≡ b = cc in let state : s ≡ x.state = cc in state ∙ ap (λ (y : Branch). y.state) same
state_is None b s e f = absurd (cc)

pub none_is : (o : Option Branch) → None ≡ option_map (λ (x : Branch). x.state) o → o ≡ None
none_is (Some x) f = absurd (cc)
none_is None f = refl

-- where there is no such branch nothing changes
pub none_alone : (pool : LedgerName) (t : Txn) (r : Readings) (w : Work) (d : Decided) (n : ℕ) (f : TxnBranch → TxnBranch) → Shows pool t r w d → slice_get t.branches.items n ≡ None →
    Shows pool t r w (at_branch n f d)
none_alone pool t r w d n f h e = subst (λ (x : Decided). Shows pool t r w x) (none_changes d n f (shown_at pool t r w d n None h e)) h

-- the branch with another state, by the state that was read
pub put_state : (rq : Received) (o : Option Branch) (s : BranchState) (g : BranchState → BranchState) (f : TxnBranch → TxnBranch) → Some s ≡ option_map (λ (x : Branch). x.state) o →
    ((b : Branch) → branch_shown rq (record b { state = g b.state }) ≡ f (branch_shown rq b)) → (b : Branch) → o ≡ Some b → branch_shown rq (record b { state = g s }) ≡ f (branch_shown rq b)
put_state rq o s g f e h b at = ap (λ (x : BranchState). branch_shown rq (record b { state = g x })) (state_is o b s at e) ∙ h b

-- ---- a branch that was read, with another client

same_branch : (o : Option Branch) (x b : Branch) → o ≡ Some x → o ≡ Some b → x ≡ b
same_branch o x b e f = cc

pub put_client : (rq : Received) (o : Option Branch) (x : Branch) (client : Client) → o ≡ Some x → (b : Branch) → o ≡ Some b →
    branch_shown rq (record b { state = record x.state { client = client } }) ≡ record (branch_shown rq b) { client = client }
put_client rq o x client e b f = ap (λ (y : Branch). branch_shown rq (record b { state = record y.state { client = client } })) (same_branch o x b e f)

pub put_cancel : (rq : Received) (o : Option Branch) (x : Branch) (client : Client) → o ≡ Some x → (b : Branch) → o ≡ Some b →
    branch_shown rq (record b { state = record x.state { cancel = Some client } }) ≡ record (branch_shown rq b) { cancel = Some client }
put_cancel rq o x client e b f = ap (λ (y : Branch). branch_shown rq (record b { state = record y.state { cancel = Some client } })) (same_branch o x b e f)

ripened : (now : ℕ) (b : TxnBranch) → is_ripe b ≡ true → with_cancel now b ≡ record b { cancel = Some (begun_client false now); quit_due = Some (moment_after now 32000) }
ripened now b e = ap (λ (y : Bool). record b { cancel = if y then Some (begun_client false now) else b.cancel; quit_due = if y then Some (moment_after now 32000) else b.quit_due }) e

pub ripe_ripened : (rq : Received) (o : Option Branch) (x : Branch) (time now : ℕ) (client : Client) (due : ℕ) → o ≡ Some x → is_ripe (branch_shown rq x) ≡ true → time ≡ now →
    client ≡ begun_client false time → due ≡ moment_after time 32000 → (b : Branch) → o ≡ Some b →
    branch_shown rq (record b { state = record x.state { cancel = Some client; quit_due = Some due } }) ≡ with_cancel now (branch_shown rq b)
ripe_ripened rq o x time now client due e ripe at c m b f =
    let same = same_branch o x b e f in
    ap (λ (y : Branch). branch_shown rq (record b { state = record y.state { cancel = Some client; quit_due = Some due } })) same
    ∙ ap (λ (y : Client). record (branch_shown rq b) { cancel = Some y; quit_due = Some due }) (c ∙ ap (begun_client false) at)
    ∙ ap (λ (y : ℕ). record (branch_shown rq b) { cancel = Some (begun_client false now); quit_due = Some y }) (m ∙ ap (λ (k : ℕ). moment_after k 32000) at)
    ∙ sym (ripened now (branch_shown rq b) (ap (λ (y : Branch). is_ripe (branch_shown rq y)) (sym same) ∙ ripe))

pub cancels_client : (pool : LedgerName) (t : Txn) (r : Readings) (w : Work) (d : Decided) (n : ℕ) (x : Branch) (b : TxnBranch) (c c' : Client) → Shows pool t r w d →
    slice_get t.branches.items n ≡ Some x → slice_get d.state.branches n ≡ Some b → b.cancel ≡ Some c → Some c' ≡ x.state.cancel → c' ≡ c
cancels_client pool t r w d n x b c c' h there at has is =
    let same : b ≡ branch_shown (request_in t r) x = is_branch pool t r w d n b x h there at in
    let cancel : b.cancel ≡ x.state.cancel = ap (λ (y : TxnBranch). y.cancel) same in cc

pub no_cancel : (pool : LedgerName) (t : Txn) (r : Readings) (w : Work) (d : Decided) (n : ℕ) (x : Branch) (b : TxnBranch) (c : Client) {P : Type 0} → Shows pool t r w d →
    slice_get t.branches.items n ≡ Some x → slice_get d.state.branches n ≡ Some b → b.cancel ≡ Some c → None ≡ x.state.cancel → P
no_cancel pool t r w d n x b c h there at has is =
    let same : b ≡ branch_shown (request_in t r) x = is_branch pool t r w d n b x h there at in
    let cancel : b.cancel ≡ x.state.cancel = ap (λ (y : TxnBranch). y.cancel) same in absurd (cc)

-- ---- the texts, once a branch was changed

pub parts_same : (t t' : Txn) (r : Readings) (w : Work) → t' ≡ record t { branches = t'.branches; few = t'.few } → requests_of t'.branches.items ≡ requests_of t.branches.items →
    parts_in t' r w ≡ parts_in t r w
parts_same t t' r w same requests = ap (λ x. parts_in x r w) same ∙ ap (λ ts. record (parts_in t r w) { requests = ts }) requests

pub all_read : (pool : LedgerName) (t t' : Txn) (r : Readings) (w : Work) (d : Decided) → Shows pool t r w d → t' ≡ record t { branches = t'.branches; few = t'.few } →
    requests_of t'.branches.items ≡ requests_of t.branches.items → AllRead (parts_in t' r w) w.outbox
all_read pool t t' r w d h same requests = subst (λ p. AllRead p w.outbox) (sym (parts_same t t' r w same requests)) h.sends

pub sends_same : (pool : LedgerName) (t t' : Txn) (r : Readings) (w : Work) (d : Decided) → Shows pool t r w d → t' ≡ record t { branches = t'.branches; few = t'.few } →
    requests_of t'.branches.items ≡ requests_of t.branches.items → sends_shown (parts_in t' r w) w.outbox ≡ d.sends
sends_same pool t t' r w d h same requests = ap (λ p. sends_shown p w.outbox) (parts_same t t' r w same requests) ∙ sends_are pool t r w d h

-- the client of the CANCEL, by the state that was read
cancel_by : (pool : LedgerName) (t : Txn) (r : Readings) (w : Work) (d : Decided) (n : ℕ) (b : TxnBranch) (c c' : Client) (s : BranchState) (o : Option Branch) → Shows pool t r w d →
    slice_get d.state.branches n ≡ Some b → b.cancel ≡ Some c → s.cancel ≡ Some c' → slice_get t.branches.items n ≡ o → Some s ≡ option_map (λ (x : Branch). x.state) o → c' ≡ c
cancel_by pool t r w d n b c c' s (Some x) h at has is e f =
    let state : s ≡ x.state = cc in cancels_client pool t r w d n x b c c' h e at has (sym is ∙ ap (λ (y : BranchState). y.cancel) state)
cancel_by pool t r w d n b c c' s None h at has is e f = absurd (cc)

pub cancel_read : (pool : LedgerName) (t : Txn) (r : Readings) (w : Work) (d : Decided) (n : ℕ) (b : TxnBranch) (c c' : Client) (s : BranchState) → Shows pool t r w d →
    slice_get d.state.branches n ≡ Some b → b.cancel ≡ Some c → Some s ≡ option_map (λ (x : Branch). x.state) (slice_get t.branches.items n) → s.cancel ≡ Some c' → c' ≡ c
cancel_read pool t r w d n b c c' s h at has read is = cancel_by pool t r w d n b c c' s (slice_get t.branches.items n) h at has is refl read

-- the first number of a list is cancelled, and then those behind it
pub cancels_on : (ns : List ℕ) (n : ℕ) (d : Decided) → Some n ≡ slice_get ns 0 → all_cancelling (drop 1 ns) (cancelling n d) ≡ all_cancelling ns d
cancels_on [] n d e = absurd (cc)
cancels_on (x ∷ xs) n d e = let same : n ≡ x = cc in ap (λ (k : ℕ). all_cancelling xs (cancelling k d)) same
