-- What the table says of steps and runs.
use Rattle.std.proofs.Common.{◌≡◌, ℕ, ◌⊎◌, inl, inr, Bool, true, false, Some, None, List, [], ◌∷◌, ◌++◌, refl, sym, ◌∙◌, ap, subst}
use Rattle.std.specs.List.{AllByRecursion}
use Rattle.txn_client.specs.declared.machine.Client.{Client}
use Rattle.txn_client.specs.declared.machine.ClientActs.{ClientActs}
use Rattle.txn_client.specs.declared.machine.ClientEvent.{ClientEvent}
use Rattle.txn_client.specs.declared.machine.ClientState.{ClientState}
use Rattle.txn_client.specs.declared.machine.ClientState.TheVariants.{Calling, Trying, Proceeding, Accepted, Completed, Terminated}
use Rattle.txn_client.specs.Rows
use Rattle.txn_client.specs.Rows.{ClientRow, ClientStep, client_silent, new_client}
use Rattle.txn_client.specs.Runs
use Rattle.txn_client.specs.Runs.{MadeClientStep, ClientRun, Settles, HasClientTimers, ClientWaitsToEnd, is_final_event, is_accepted}
use Rattle.txn_client.specs.After.{client_made_at}
use Rattle.txn_client.proofs.Table.{row_made, either}

pub one_row : (old : Client) (now : ℕ) (event : ClientEvent) (new new' : Client) (acts acts' : ClientActs) →
    ClientRow old now event new acts → ClientRow old now event new' acts' → (new ≡ new') × (acts ≡ acts')
one_row old now event new new' acts acts' r r' =
    let a : client_made_at old.invite old.state event old now ≡ Some (new, acts) = row_made old now event new acts r in
    let b : client_made_at old.invite old.state event old now ≡ Some (new', acts') = row_made old now event new' acts' r' in
    let made : Client × ClientActs = (new, acts) in let made' : Client × ClientActs = (new', acts') in let p : made ≡ made' = cc in (ap (λ z. z.0) p, ap (λ z. z.1) p)

-- the last step of a run
record LastStep (invite : Bool) (t : MadeClientStep) (steps : List MadeClientStep) (c : Client) : Type 0 where
  run : ClientRun invite steps t.old
  step : ClientStep t.old t.event t.now t.new t.acts
  new : c ≡ t.new

last_step : (invite : Bool) (t : MadeClientStep) (steps : List MadeClientStep) (c : Client) → ClientRun invite (t ∷ steps) c → LastStep invite t steps c
last_step invite _ _ _ (Runs.goes_on steps old event now new acts run step) = record { run = run; step = step; new = refl }

-- the kind of request stays
row_invite : (old : Client) (now : ℕ) (event : ClientEvent) (new : Client) (acts : ClientActs) → ClientRow old now event new acts → new.invite ≡ old.invite
row_invite old now _ _ _ (Rows.calling_start here) = refl
row_invite old now event new acts row = refl

step_invite : (old : Client) (now : ℕ) (event : ClientEvent) (new : Client) (acts : ClientActs) → ClientStep old event now new acts → new.invite ≡ old.invite
step_invite old now event new acts (inl row) = row_invite old now event new acts row
step_invite old now event new acts (inr none) = ap (λ (x : Client). x.invite) none.1

run_invite : (invite : Bool) (steps : List MadeClientStep) (c : Client) → ClientRun invite steps c → c.invite ≡ invite
run_invite true _ _ Runs.begins = refl
run_invite false _ _ Runs.begins = refl
run_invite invite _ _ (Runs.goes_on steps old event now new acts run step) = step_invite old now event new acts step ∙ run_invite invite steps old run

-- Terminated
terminated_none : (i : Bool) (event : ClientEvent) (old : Client) (now : ℕ) → client_made_at i Terminated event old now ≡ None
terminated_none true event old now = refl
terminated_none false event old now = refl

step_terminated : (old : Client) (now : ℕ) (event : ClientEvent) (new : Client) (acts : ClientActs) → ClientStep old event now new acts →
    old.state ≡ Terminated → (new ≡ old) × (acts ≡ client_silent)
step_terminated old now event new acts (inl row) client_over =
    let made : client_made_at old.invite old.state event old now ≡ Some (new, acts) = row_made old now event new acts row in
    let none : client_made_at old.invite Terminated event old now ≡ None = terminated_none old.invite event old now in cc
step_terminated old now event new acts (inr none) client_over = (none.1, none.2)

IsIdle : MadeClientStep → Type 0
IsIdle s = (s.new ≡ s.old) × (s.acts ≡ client_silent)

pub terminated : (invite : Bool) (later : List MadeClientStep) (end : MadeClientStep) (before : List MadeClientStep) (c : Client) →
    ClientRun invite (later ++ end ∷ before) c → end.new.state ≡ Terminated → AllByRecursion (λ s. (s.new ≡ s.old) × (s.acts ≡ client_silent)) later × (c.state ≡ Terminated)
terminated invite [] end before c run client_over =
    let l = last_step invite end before c run in (tt, ap (λ (x : Client). x.state) l.new ∙ client_over)
terminated invite (t ∷ later) end before c run client_over =
    let l = last_step invite t (later ++ end ∷ before) c run in
    let rest = terminated invite later end before t.old l.run client_over in
    let idle = step_terminated t.old t.now t.event t.new t.acts l.step rest.1 in
    ((idle, rest.0), ap (λ (x : Client). x.state) l.new ∙ (ap (λ (x : Client). x.state) idle.0 ∙ rest.1))

-- sending
row_sends : (old : Client) (now : ℕ) (event : ClientEvent) (new : Client) (acts : ClientActs) → ClientRow old now event new acts →
    old.invite ≡ true → acts.send ≡ true → old.state ≡ Calling
row_sends old now _ _ _ (Rows.calling_start here) i s = here.1
row_sends old now _ _ _ (Rows.calling_a here due) i s = here.1
row_sends old now _ _ _ (Rows.trying_start here) i s = cc
row_sends old now _ _ _ (Rows.trying_e here due) i s = cc
row_sends old now _ _ _ (Rows.proceeding_e here due) i s = cc
row_sends old now event new acts row i s = cc

step_sends : (old : Client) (now : ℕ) (event : ClientEvent) (new : Client) (acts : ClientActs) → ClientStep old event now new acts →
    old.invite ≡ true → acts.send ≡ true → old.state ≡ Calling
step_sends old now event new acts (inl row) i s = row_sends old now event new acts row i s
step_sends old now event new acts (inr none) i s = let e : acts ≡ client_silent = none.2 in cc

pub sends_in_calling : (steps : List MadeClientStep) (c : Client) → ClientRun true steps c →
    AllByRecursion (λ s. s.acts.send ≡ true → s.old.state ≡ Calling) steps
sends_in_calling _ _ Runs.begins = tt
sends_in_calling _ _ (Runs.goes_on steps old event now new acts run step) =
    (step_sends old now event new acts step (run_invite true steps old run), sends_in_calling steps old run)

-- settling
waits : ClientState → Bool
waits Calling = true
waits Trying = true
waits Proceeding = true
waits Accepted = false
waits Completed = false
waits Terminated = false

waits_at : (c : Client) (i : Bool) (s : ClientState) → (c.invite ≡ i) × (c.state ≡ s) → waits s ≡ true → waits c.state ≡ true
waits_at c i s here w = cc

row_settles : (old : Client) (now : ℕ) (event : ClientEvent) (new : Client) (acts : ClientActs) → ClientRow old now event new acts →
    (acts.timeout ≡ true) ⊎ ((acts.up ≡ true) × (is_final_event event ≡ true) × (is_accepted old.state ≡ false)) →
    (waits old.state ≡ true) × (waits new.state ≡ false)
unfolding waits
row_settles old now _ _ _ (Rows.calling_b here due) s = (waits_at old _ _ here refl, refl)
row_settles old now _ _ _ (Rows.early_2xx here) s = (either _ here (λ h. waits_at old _ _ h refl) (λ h. waits_at old _ _ h refl), refl)
row_settles old now _ _ _ (Rows.early_failure here) s = (either _ here (λ h. waits_at old _ _ h refl) (λ h. waits_at old _ _ h refl), refl)
row_settles old now _ _ _ (Rows.waiting_f here due) s = (either _ here (λ h. waits_at old _ _ h refl) (λ h. waits_at old _ _ h refl), refl)
row_settles old now _ _ _ (Rows.waiting_2xx here) s = (either _ here (λ h. waits_at old _ _ h refl) (λ h. waits_at old _ _ h refl), refl)
row_settles old now _ _ _ (Rows.waiting_failure here) s = (either _ here (λ h. waits_at old _ _ h refl) (λ h. waits_at old _ _ h refl), refl)
row_settles old now _ _ _ (Rows.accepted_2xx here) (inl h) = cc
row_settles old now _ _ _ (Rows.accepted_2xx here) (inr h) = let e : old.state ≡ Accepted = here.1 in cc
row_settles old now event new acts row (inl h) = cc
row_settles old now event new acts row (inr h) = cc

step_settles : (old : Client) (now : ℕ) (event : ClientEvent) (new : Client) (acts : ClientActs) → ClientStep old event now new acts →
    (acts.timeout ≡ true) ⊎ ((acts.up ≡ true) × (is_final_event event ≡ true) × (is_accepted old.state ≡ false)) →
    (waits old.state ≡ true) × (waits new.state ≡ false)
step_settles old now event new acts (inl row) s = row_settles old now event new acts row s
step_settles old now event new acts (inr none) (inl h) = let e : acts ≡ client_silent = none.2 in cc
step_settles old now event new acts (inr none) (inr h) = let e : acts ≡ client_silent = none.2 in cc

row_waited : (old : Client) (now : ℕ) (event : ClientEvent) (new : Client) (acts : ClientActs) → ClientRow old now event new acts →
    waits new.state ≡ true → waits old.state ≡ true
unfolding waits
row_waited old now _ _ _ (Rows.early_1xx here) w = either _ here (λ h. waits_at old _ _ h refl) (λ h. waits_at old _ _ h refl)
row_waited old now _ _ _ (Rows.waiting_1xx here) w = either _ here (λ h. waits_at old _ _ h refl) (λ h. waits_at old _ _ h refl)
row_waited old now event new acts row w = cc

step_waited : (old : Client) (now : ℕ) (event : ClientEvent) (new : Client) (acts : ClientActs) → ClientStep old event now new acts →
    waits new.state ≡ true → waits old.state ≡ true
step_waited old now event new acts (inl row) w = row_waited old now event new acts row w
step_waited old now event new acts (inr none) w = let e : new ≡ old = none.1 in cc

not_both : (b : Bool) → b ≡ true → b ≡ false → ⊥
not_both b t f = cc

waits_or_not : (b : Bool) → (b ≡ true) ⊎ (b ≡ false)
waits_or_not true = inl refl
waits_or_not false = inr refl

-- what hasn't settled yet never did
none_before : (invite : Bool) (steps : List MadeClientStep) (c : Client) → ClientRun invite steps c → waits c.state ≡ true → AllByRecursion (λ t. ¬ Settles t) steps
none_before invite _ _ Runs.begins w = tt
none_before invite _ _ (Runs.goes_on steps old event now new acts run step) w = (
  (λ s. not_both _ w (step_settles old now event new acts step s).1),
  none_before invite steps old run (step_waited old now event new acts step w),
)

-- what has settled doesn't again
settled_after : (invite : Bool) (later : List MadeClientStep) (s : MadeClientStep) (before : List MadeClientStep) (c : Client) → ClientRun invite (later ++ s ∷ before) c →
    Settles s → AllByRecursion (λ t. ¬ Settles t) (later ++ before) × (waits c.state ≡ false)
settled_after invite [] s before c run settles =
    let l = last_step invite s before c run in
    let at = step_settles s.old s.now s.event s.new s.acts l.step settles in
    (none_before invite before s.old l.run at.0, ap (λ (x : Client). waits x.state) l.new ∙ at.1)
settled_after invite (t ∷ later) s before c run settles =
    let l = last_step invite t (later ++ s ∷ before) c run in
    let rest = settled_after invite later s before t.old l.run settles in
    let still : waits t.new.state ≡ false =
    either _ (waits_or_not (waits t.new.state)) (λ w. absurd (not_both _ (step_waited t.old t.now t.event t.new t.acts l.step w) rest.1)) (λ w. w) in
    (((λ again. not_both _ (step_settles t.old t.now t.event t.new t.acts l.step again).0 rest.1), rest.0), ap (λ (x : Client). waits x.state) l.new ∙ still)

pub once : (invite : Bool) (later : List MadeClientStep) (s : MadeClientStep) (before : List MadeClientStep) (c : Client) → ClientRun invite (later ++ s ∷ before) c →
    Settles s → AllByRecursion (λ t. ¬ Settles t) (later ++ before)
once invite later s before c run settles = (settled_after invite later s before c run settles).0

-- the timers of each state
on : (c x : Client) (i : Bool) (s : ClientState) → (c.invite ≡ i) × (c.state ≡ s) → HasClientTimers c.invite c.state x → HasClientTimers i s x
on c x i s here h = subst (λ j. HasClientTimers j s x) here.0 (subst (λ t. HasClientTimers c.invite t x) here.1 h)

back : (c x : Client) (i : Bool) (s : ClientState) → (c.invite ≡ i) × (c.state ≡ s) → HasClientTimers i s x → HasClientTimers c.invite c.state x
back c x i s here h = subst (λ j. HasClientTimers j c.state x) (sym here.0) (subst (λ t. HasClientTimers i t x) (sym here.1) h)

kind : (c x : Client) (i : Bool) (s : ClientState) → c.invite ≡ i → HasClientTimers i s x → HasClientTimers c.invite s x
kind c x i s here h = subst (λ j. HasClientTimers j s x) (sym here) h

row_timers : (old : Client) (now : ℕ) (event : ClientEvent) (new : Client) (acts : ClientActs) → ClientRow old now event new acts →
    HasClientTimers old.invite old.state old → HasClientTimers new.invite new.state new
row_timers old now _ new _ (Rows.calling_start here) h = back old _ true Calling here (on old old true Calling here h)
row_timers old now _ new _ (Rows.calling_a here due) h = back old _ true Calling here (on old old true Calling here h)
row_timers old now _ new _ (Rows.calling_b here due) h = (refl, refl, refl)
row_timers old now _ new _ (Rows.early_1xx (inl here)) h = kind old _ true Proceeding here.0 (refl, refl, on old old true Calling here h)
row_timers old now _ new _ (Rows.early_1xx (inr here)) h = kind old _ true Proceeding here.0 (refl, refl, (on old old true Proceeding here h).2)
row_timers old now _ new _ (Rows.early_2xx here) h = (refl, refl)
row_timers old now _ new _ (Rows.early_failure here) h = (refl, refl)
row_timers old now _ new _ (Rows.completed_failure here) h = h
row_timers old now _ new _ (Rows.completed_d here due) h = (refl, refl, refl)
row_timers old now _ new _ (Rows.accepted_2xx here) h = h
row_timers old now _ new _ (Rows.accepted_m here due) h = (refl, refl, refl)
row_timers old now _ new _ (Rows.trying_start here) h = back old _ false Trying here (on old old false Trying here h)
row_timers old now _ new _ (Rows.trying_e here due) h = back old _ false Trying here (on old old false Trying here h)
row_timers old now _ new _ (Rows.proceeding_e here due) h = back old _ false Proceeding here (on old old false Proceeding here h)
row_timers old now _ new _ (Rows.waiting_f here due) h = (refl, refl, refl)
row_timers old now _ new _ (Rows.waiting_1xx (inl here)) h = kind old _ false Proceeding here.0 (on old old false Trying here h)
row_timers old now _ new _ (Rows.waiting_1xx (inr here)) h = kind old _ false Proceeding here.0 (on old old false Proceeding here h)
row_timers old now _ new _ (Rows.waiting_2xx here) h = (refl, refl)
row_timers old now _ new _ (Rows.waiting_failure here) h = (refl, refl)
row_timers old now _ new _ (Rows.completed_k here due) h = (refl, refl, refl)

step_timers : (old : Client) (now : ℕ) (event : ClientEvent) (new : Client) (acts : ClientActs) → ClientStep old event now new acts →
    HasClientTimers old.invite old.state old → HasClientTimers new.invite new.state new
step_timers old now event new acts (inl row) h = row_timers old now event new acts row h
step_timers old now event new acts (inr none) h = subst (λ (c : Client). HasClientTimers c.invite c.state c) (sym none.1) h

run_timers : (invite : Bool) (steps : List MadeClientStep) (c : Client) → ClientRun invite steps c → HasClientTimers c.invite c.state c
run_timers true _ _ Runs.begins = refl
run_timers false _ _ Runs.begins = refl
run_timers invite _ _ (Runs.goes_on steps old event now new acts run step) = step_timers old now event new acts step (run_timers invite steps old run)

pub timers : (invite : Bool) (steps : List MadeClientStep) (c : Client) → ClientRun invite steps c → HasClientTimers invite c.state c
timers invite steps c run = subst (λ i. HasClientTimers i c.state c) (run_invite invite steps c run) (run_timers invite steps c run)

-- the timer that ends the transaction
in_state : (x : Client) (old state : ClientState) → old ≡ state → ClientWaitsToEnd state x → ClientWaitsToEnd old x
in_state x old state here h = subst (λ t. ClientWaitsToEnd t x) (sym here) h

row_ends : (old : Client) (now : ℕ) (event : ClientEvent) (new : Client) (acts : ClientActs) → ClientRow old now event new acts →
    ClientWaitsToEnd old.state old → ClientWaitsToEnd new.state new
row_ends old now _ new _ (Rows.calling_start here) h = in_state _ old.state Calling here.1 tt
row_ends old now _ new _ (Rows.calling_a here due) h = in_state _ old.state Calling here.1 tt
row_ends old now _ new _ (Rows.calling_b here due) h = tt
row_ends old now _ new _ (Rows.early_1xx here) h = tt
row_ends old now _ new _ (Rows.early_2xx here) h = refl
row_ends old now _ new _ (Rows.early_failure here) h = refl
row_ends old now _ new _ (Rows.completed_failure here) h = h
row_ends old now _ new _ (Rows.completed_d here due) h = tt
row_ends old now _ new _ (Rows.accepted_2xx here) h = h
row_ends old now _ new _ (Rows.accepted_m here due) h = tt
row_ends old now _ new _ (Rows.trying_start here) h = in_state _ old.state Trying here.1 tt
row_ends old now _ new _ (Rows.trying_e here due) h = in_state _ old.state Trying here.1 tt
row_ends old now _ new _ (Rows.proceeding_e here due) h = in_state _ old.state Proceeding here.1 tt
row_ends old now _ new _ (Rows.waiting_f here due) h = tt
row_ends old now _ new _ (Rows.waiting_1xx here) h = tt
row_ends old now _ new _ (Rows.waiting_2xx here) h = refl
row_ends old now _ new _ (Rows.waiting_failure here) h = refl
row_ends old now _ new _ (Rows.completed_k here due) h = tt

step_ends : (old : Client) (now : ℕ) (event : ClientEvent) (new : Client) (acts : ClientActs) → ClientStep old event now new acts →
    ClientWaitsToEnd old.state old → ClientWaitsToEnd new.state new
step_ends old now event new acts (inl row) h = row_ends old now event new acts row h
step_ends old now event new acts (inr none) h = subst (λ (c : Client). ClientWaitsToEnd c.state c) (sym none.1) h

pub ends : (invite : Bool) (steps : List MadeClientStep) (c : Client) → ClientRun invite steps c → ClientWaitsToEnd c.state c
ends true _ _ Runs.begins = tt
ends false _ _ Runs.begins = tt
ends invite _ _ (Runs.goes_on steps old event now new acts run step) = step_ends old now event new acts step (ends invite steps old run)
