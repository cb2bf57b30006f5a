-- What the table says of steps and runs.
use Rattle.std.proofs.Common.{◌≡◌, ◌≢◌, ℕ, ◌⊎◌, inl, inr, Bool, true, false, Some, List, [], ◌∷◌, ◌++◌, refl, sym, ◌∙◌, ap, subst, arith}
use Rattle.std.specs.List.{AllByRecursion}
use Rattle.txn_server.specs.declared.machine.Server.{Server}
use Rattle.txn_server.specs.declared.machine.ServerActs.{ServerActs}
use Rattle.txn_server.specs.declared.machine.ServerEvent.{ServerEvent}
use Rattle.txn_server.specs.declared.machine.ServerState.{ServerState}
use Rattle.txn_server.specs.declared.machine.ServerState.TheVariants.{Trying, Proceeding, Accepted, Completed, Confirmed, Terminated}
use Rattle.txn_server.specs.Rows
use Rattle.txn_server.specs.Rows.{ServerRow, ServerStep, server_silent, server_sends, new_server, IsProvisional, IsSuccess, IsFailure, IsFinal}
use Rattle.txn_server.specs.Runs
use Rattle.txn_server.specs.Runs.{MadeServerStep, ServerRun, code_sent, codes_sent, IsAnswered, HasSent, IsLast, HasServerTimers, ServerWaitsToEnd}
use Rattle.txn_server.specs.After.{server_made_at}
use Rattle.txn_server.proofs.Table.{row_made, either}

pub one_row : (old : Server) (now : ℕ) (event : ServerEvent) (new new' : Server) (acts acts' : ServerActs) →
    ServerRow old now event new acts → ServerRow old now event new' acts' → (new ≡ new') × (acts ≡ acts')
one_row old now event new new' acts acts' r r' =
    let a : server_made_at old.invite old.state event old now ≡ Some (new, acts) = row_made old now event new acts r in
    let b : server_made_at old.invite old.state event old now ≡ Some (new', acts') = row_made old now event new' acts' r' in
    let made : Server × ServerActs = (new, acts) in let made' : Server × ServerActs = (new', acts') in
    let p : made ≡ made' = cc in (ap (λ z. z.0) p, ap (λ z. z.1) p)

-- the last step of a run
record LastStep (invite : Bool) (t : MadeServerStep) (steps : List MadeServerStep) (s : Server) : Type 0 where
  run : ServerRun invite steps t.old
  step : ServerStep t.old t.event t.now t.new t.acts
  new : s ≡ t.new

last_step : (invite : Bool) (t : MadeServerStep) (steps : List MadeServerStep) (s : Server) → ServerRun invite (t ∷ steps) s → LastStep invite t steps s
last_step invite _ _ _ (Runs.goes_on steps old event now new acts run step) = record { run = run; step = step; new = refl }

-- the kind of request stays
row_invite : (old : Server) (now : ℕ) (event : ServerEvent) (new : Server) (acts : ServerActs) → ServerRow old now event new acts → new.invite ≡ old.invite
row_invite old now _ _ _ (Rows.proceeding_copy here said) = refl
row_invite old now event new acts row = refl

step_invite : (old : Server) (now : ℕ) (event : ServerEvent) (new : Server) (acts : ServerActs) → ServerStep old event now new acts → new.invite ≡ old.invite
step_invite old now event new acts (inl row) = row_invite old now event new acts row
step_invite old now event new acts (inr none) = ap (λ (x : Server). x.invite) none.1

run_invite : (invite : Bool) (steps : List MadeServerStep) (s : Server) → ServerRun invite steps s → s.invite ≡ invite
run_invite true _ _ Runs.begins = refl
run_invite false _ _ Runs.begins = refl
run_invite invite _ _ (Runs.goes_on steps old event now new acts run step) = step_invite old now event new acts step ∙ run_invite invite steps old run

-- Terminated
Late : Bool → Server → Server → ServerActs → Type 0
Late invite old new acts = (new ≡ old) × ((acts ≡ server_silent) ⊎ ((invite ≡ true) × (acts ≡ server_sends)))

row_terminated : (old : Server) (now : ℕ) (event : ServerEvent) (new : Server) (acts : ServerActs) → ServerRow old now event new acts →
    old.state ≡ Terminated → Late old.invite old new acts
unfolding Late
row_terminated old now _ _ _ (Rows.late_2xx code is (inl here)) server_over = absurd (cc)
row_terminated old now _ _ _ (Rows.late_2xx code is (inr (inl here))) server_over = absurd (cc)
row_terminated old now _ _ _ (Rows.late_2xx code is (inr (inr here))) server_over = (refl, inr (here.0, refl))
row_terminated old now _ _ _ (Rows.open_1xx code is (inl here)) server_over = absurd (cc)
row_terminated old now _ _ _ (Rows.open_1xx code is (inr here)) server_over = absurd (cc)
row_terminated old now _ _ _ (Rows.open_final code is (inl here)) server_over = absurd (cc)
row_terminated old now _ _ _ (Rows.open_final code is (inr here)) server_over = absurd (cc)
row_terminated old now _ _ _ (Rows.answered_copy (inl here)) server_over = absurd (cc)
row_terminated old now _ _ _ (Rows.answered_copy (inr here)) server_over = absurd (cc)
row_terminated old now _ _ _ (Rows.proceeding_copy here said) server_over = absurd (cc)
row_terminated old now _ _ _ (Rows.proceeding_1xx code is here) server_over = absurd (cc)
row_terminated old now _ _ _ (Rows.proceeding_2xx code is here) server_over = absurd (cc)
row_terminated old now _ _ _ (Rows.proceeding_failure code is here) server_over = absurd (cc)
row_terminated old now _ _ _ (Rows.completed_copy here) server_over = absurd (cc)
row_terminated old now _ _ _ (Rows.completed_g here due) server_over = absurd (cc)
row_terminated old now _ _ _ (Rows.completed_ack here) server_over = absurd (cc)
row_terminated old now _ _ _ (Rows.completed_h here due) server_over = absurd (cc)
row_terminated old now _ _ _ (Rows.confirmed_i here due) server_over = absurd (cc)
row_terminated old now _ _ _ (Rows.accepted_2xx code is here) server_over = absurd (cc)
row_terminated old now _ _ _ (Rows.accepted_ack here) server_over = absurd (cc)
row_terminated old now _ _ _ (Rows.accepted_l here due) server_over = absurd (cc)
row_terminated old now _ _ _ (Rows.completed_j here due) server_over = absurd (cc)

step_terminated : (old : Server) (now : ℕ) (event : ServerEvent) (new : Server) (acts : ServerActs) → ServerStep old event now new acts →
    old.state ≡ Terminated → Late old.invite old new acts
unfolding Late
step_terminated old now event new acts (inl row) server_over = row_terminated old now event new acts row server_over
step_terminated old now event new acts (inr none) server_over = (none.1, inl none.2)

pub terminated : (invite : Bool) (later : List MadeServerStep) (end : MadeServerStep) (before : List MadeServerStep) (s : Server) →
    ServerRun invite (later ++ end ∷ before) s → end.new.state ≡ Terminated →
    AllByRecursion (λ t. (t.new ≡ t.old) × ((t.acts ≡ server_silent) ⊎ ((invite ≡ true) × (t.acts ≡ server_sends)))) later × (s.state ≡ Terminated)
unfolding Late
terminated invite [] end before s run server_over =
    let l = last_step invite end before s run in (tt, ap (λ (x : Server). x.state) l.new ∙ server_over)
terminated invite (t ∷ later) end before s run server_over =
    let l = last_step invite t (later ++ end ∷ before) s run in
    let rest = terminated invite later end before t.old l.run server_over in
    let late = step_terminated t.old t.now t.event t.new t.acts l.step rest.1 in
    let kind : t.old.invite ≡ invite = run_invite invite (later ++ end ∷ before) t.old l.run in (
      ((late.0, subst (λ i. (t.acts ≡ server_silent) ⊎ ((i ≡ true) × (t.acts ≡ server_sends))) kind late.1), rest.0),
      ap (λ (x : Server). x.state) l.new ∙ (ap (λ (x : Server). x.state) late.0 ∙ rest.1),
    )

-- what was sent
on : (s : Server) (codes : List ℕ) (i : Bool) (state : ServerState) → (s.invite ≡ i) × (s.state ≡ state) → HasSent s.invite s.state codes → HasSent i state codes
on s codes i state here h = subst (λ j. HasSent j state codes) here.0 (subst (λ t. HasSent s.invite t codes) here.1 h)

back : (s : Server) (codes : List ℕ) (i : Bool) (state : ServerState) → (s.invite ≡ i) × (s.state ≡ state) → HasSent i state codes → HasSent s.invite s.state codes
back s codes i state here h = subst (λ j. HasSent j s.state codes) (sym here.0) (subst (λ t. HasSent i t codes) (sym here.1) h)

kind : (s : Server) (codes : List ℕ) (i : Bool) (state : ServerState) → s.invite ≡ i → HasSent i state codes → HasSent s.invite state codes
kind s codes i state here h = subst (λ j. HasSent j state codes) (sym here) h

first_final : (i : Bool) (codes : List ℕ) (code : ℕ) → IsFinal code → AllByRecursion IsProvisional codes → IsAnswered i (code ∷ codes) code
first_final i codes code final early =
    record { late = []; early = codes; all = refl; is_final = final; provisional = early; only_2xx = tt; nothing_else = λ e. refl }

one_more : (codes : List ℕ) (final code : ℕ) → IsSuccess code → IsAnswered true codes final → IsAnswered true (code ∷ codes) final
one_more codes final code is a =
    record { late = code ∷ a.late; early = a.early; all = ap (λ l. code ∷ l) a.all; is_final = a.is_final; provisional = a.provisional; only_2xx = (is, a.only_2xx); nothing_else = λ e. absurd (cc) }

success_final : (code : ℕ) → IsSuccess code → IsFinal code
success_final code is = (is.0, omega (arith, is.1))

failure_final : (code : ℕ) → IsFailure code → IsFinal code
failure_final code is = (omega (arith, is.0), is.1)

none_sent : (codes : List ℕ) → codes ≡ [] → AllByRecursion IsProvisional codes
none_sent codes e = subst (λ l. AllByRecursion IsProvisional l) (sym e) tt

not_empty : (code : ℕ) (codes : List ℕ) → (code ∷ codes) ≡ [] → ⊥
not_empty code codes e = cc

row_sent : (old : Server) (now : ℕ) (event : ServerEvent) (new : Server) (acts : ServerActs) (codes : List ℕ) → ServerRow old now event new acts →
    HasSent old.invite old.state codes → HasSent new.invite new.state (code_sent acts.send event ++ codes)
row_sent old now _ _ _ codes (Rows.proceeding_copy here said) h = h
row_sent old now _ _ _ codes (Rows.proceeding_1xx code is here) h = kind old _ true Proceeding here.0 (is, on old codes true Proceeding here h)
row_sent old now _ _ _ codes (Rows.proceeding_2xx code is here) h = (code, is, first_final old.invite codes code (success_final code is) (on old codes true Proceeding here h))
row_sent old now _ _ _ codes (Rows.proceeding_failure code is here) h =
    kind old _ true Completed here.0 (code, is, first_final true codes code (failure_final code is) (on old codes true Proceeding here h))
row_sent old now _ _ _ codes (Rows.completed_copy here) h = h
row_sent old now _ _ _ codes (Rows.completed_g here due) h = h
row_sent old now _ _ _ codes (Rows.completed_ack here) h = kind old codes true Confirmed here.0 (on old codes true Completed here h)
row_sent old now _ _ _ codes (Rows.completed_h here due) h = let w = on old codes true Completed here h in kind old codes true Terminated here.0 (w.0, w.2)
row_sent old now _ _ _ codes (Rows.confirmed_i here due) h = let w = on old codes true Confirmed here h in kind old codes true Terminated here.0 (w.0, w.2)
row_sent old now _ _ _ codes (Rows.late_2xx code is (inl here)) h =
    let w = on old codes true Completed here h in back old _ true Completed here (w.0, w.1, one_more codes w.0 code is w.2)
row_sent old now _ _ _ codes (Rows.late_2xx code is (inr (inl here))) h =
    let w = on old codes true Confirmed here h in back old _ true Confirmed here (w.0, w.1, one_more codes w.0 code is w.2)
row_sent old now _ _ _ codes (Rows.late_2xx code is (inr (inr here))) h =
    let w = on old codes true Terminated here h in back old _ true Terminated here (w.0, one_more codes w.0 code is w.1)
row_sent old now _ _ _ codes (Rows.accepted_2xx code is here) h =
    let w = on old codes true Accepted here h in back old _ true Accepted here (w.0, w.1, one_more codes w.0 code is w.2)
row_sent old now _ _ _ codes (Rows.accepted_ack here) h = h
row_sent old now _ _ _ codes (Rows.accepted_l here due) h = let w = on old codes true Accepted here h in kind old codes true Terminated here.0 (w.0, w.2)
row_sent old now _ _ _ codes (Rows.open_1xx code is (inl here)) h =
    kind old _ false Proceeding here.0 ((is, none_sent codes (on old codes false Trying here h)), not_empty code codes)
row_sent old now _ _ _ codes (Rows.open_1xx code is (inr here)) h =
    kind old _ false Proceeding here.0 ((is, (on old codes false Proceeding here h).0), not_empty code codes)
row_sent old now _ _ _ codes (Rows.open_final code is (inl here)) h =
    kind old _ false Completed here.0 (code, first_final false codes code is (none_sent codes (on old codes false Trying here h)))
row_sent old now _ _ _ codes (Rows.open_final code is (inr here)) h =
    kind old _ false Completed here.0 (code, first_final false codes code is (on old codes false Proceeding here h).0)
row_sent old now _ _ _ codes (Rows.answered_copy here) h = h
row_sent old now _ _ _ codes (Rows.completed_j here due) h = let w = on old codes false Completed here h in kind old codes false Terminated here.0 (w.0, w.1)

silent_sends : (event : ServerEvent) (acts : ServerActs) → acts ≡ server_silent → code_sent acts.send event ≡ []
silent_sends event acts e = ap (λ (a : ServerActs). code_sent a.send event) e

step_sent : (old : Server) (now : ℕ) (event : ServerEvent) (new : Server) (acts : ServerActs) (codes : List ℕ) → ServerStep old event now new acts →
    HasSent old.invite old.state codes → HasSent new.invite new.state (code_sent acts.send event ++ codes)
step_sent old now event new acts codes (inl row) h = row_sent old now event new acts codes row h
step_sent old now event new acts codes (inr none) h =
    subst (λ l. HasSent new.invite new.state (l ++ codes)) (sym (silent_sends event acts none.2)) (subst (λ (s : Server). HasSent s.invite s.state codes) (sym none.1) h)

run_sent : (invite : Bool) (steps : List MadeServerStep) (s : Server) → ServerRun invite steps s → HasSent s.invite s.state (codes_sent steps)
run_sent true _ _ Runs.begins = tt
run_sent false _ _ Runs.begins = refl
run_sent invite _ _ (Runs.goes_on steps old event now new acts run step) = step_sent old now event new acts (codes_sent steps) step (run_sent invite steps old run)

pub sent : (invite : Bool) (steps : List MadeServerStep) (s : Server) → ServerRun invite steps s → HasSent invite s.state (codes_sent steps)
sent invite steps s run = subst (λ i. HasSent i s.state (codes_sent steps)) (run_invite invite steps s run) (run_sent invite steps s run)

-- whether anything was sent
Says : Bool → List ℕ → Type 0
Says answered codes = (answered ≡ true → codes ≢ []) × (codes ≢ [] → answered ≡ true)

split_filled : (late early : List ℕ) (final : ℕ) → late ++ final ∷ early ≡ [] → ⊥
split_filled [] early final e = cc
split_filled (code ∷ late) early final e = cc

filled : (i : Bool) (codes : List ℕ) (final : ℕ) → IsAnswered i codes final → codes ≢ []
filled i codes final a e = split_filled a.late a.early final (sym a.all ∙ e)

sent_more : (code : ℕ) (codes : List ℕ) → Says true (code ∷ codes)
unfolding Says
sent_more code codes = ((λ e. not_empty code codes), λ e. refl)

still : (answered : Bool) (code : ℕ) (codes : List ℕ) → codes ≢ [] → Says answered codes → Says answered (code ∷ codes)
unfolding Says
still answered code codes full says = ((λ e. not_empty code codes), λ e. says.1 full)

row_says : (old : Server) (now : ℕ) (event : ServerEvent) (new : Server) (acts : ServerActs) (codes : List ℕ) → ServerRow old now event new acts →
    HasSent old.invite old.state codes → Says old.answered codes → Says new.answered (code_sent acts.send event ++ codes)
row_says old now _ _ _ codes (Rows.proceeding_1xx code is here) h says = sent_more code codes
row_says old now _ _ _ codes (Rows.proceeding_2xx code is here) h says = sent_more code codes
row_says old now _ _ _ codes (Rows.proceeding_failure code is here) h says = sent_more code codes
row_says old now _ _ _ codes (Rows.late_2xx code is (inl here)) h says =
    let w = on old codes true Completed here h in still _ code codes (filled true codes w.0 w.2) says
row_says old now _ _ _ codes (Rows.late_2xx code is (inr (inl here))) h says =
    let w = on old codes true Confirmed here h in still _ code codes (filled true codes w.0 w.2) says
row_says old now _ _ _ codes (Rows.late_2xx code is (inr (inr here))) h says =
    let w = on old codes true Terminated here h in still _ code codes (filled true codes w.0 w.1) says
row_says old now _ _ _ codes (Rows.accepted_2xx code is here) h says =
    let w = on old codes true Accepted here h in still _ code codes (filled true codes w.0 w.2) says
row_says old now _ _ _ codes (Rows.open_1xx code is here) h says = sent_more code codes
row_says old now _ _ _ codes (Rows.open_final code is here) h says = sent_more code codes
row_says old now event new acts codes row h says = says

step_says : (old : Server) (now : ℕ) (event : ServerEvent) (new : Server) (acts : ServerActs) (codes : List ℕ) → ServerStep old event now new acts →
    HasSent old.invite old.state codes → Says old.answered codes → Says new.answered (code_sent acts.send event ++ codes)
step_says old now event new acts codes (inl row) h says = row_says old now event new acts codes row h says
step_says old now event new acts codes (inr none) h says =
    subst (λ l. Says new.answered (l ++ codes)) (sym (silent_sends event acts none.2)) (subst (λ (s : Server). Says s.answered codes) (sym none.1) says)

nothing_said : Says false []
unfolding Says
nothing_said = ((λ e. cc), λ full. absurd (full refl))

run_says : (invite : Bool) (steps : List MadeServerStep) (s : Server) → ServerRun invite steps s → Says s.answered (codes_sent steps)
run_says true _ _ Runs.begins = nothing_said
run_says false _ _ Runs.begins = nothing_said
run_says invite _ _ (Runs.goes_on steps old event now new acts run step) =
    step_says old now event new acts (codes_sent steps) step (run_sent invite steps old run) (run_says invite steps old run)

pub says_answered : (invite : Bool) (steps : List MadeServerStep) (s : Server) → ServerRun invite steps s →
    (s.answered ≡ true → codes_sent steps ≢ []) × (codes_sent steps ≢ [] → s.answered ≡ true)
unfolding Says
says_answered invite steps s run = run_says invite steps s run

-- what is repeated
row_repeats : (old : Server) (now : ℕ) (event : ServerEvent) (new : Server) (acts : ServerActs) → ServerRow old now event new acts → acts.repeat ≡ true →
    ((old.state ≡ Proceeding) × ((old.answered ≡ true) ⊎ (old.invite ≡ false))) ⊎ (old.state ≡ Completed)
row_repeats old now _ _ _ (Rows.proceeding_copy here said) e = inl (here.1, inl said)
row_repeats old now _ _ _ (Rows.completed_copy here) e = inr here.1
row_repeats old now _ _ _ (Rows.completed_g here due) e = inr here.1
row_repeats old now _ _ _ (Rows.answered_copy (inl here)) e = inl (here.1, inr here.0)
row_repeats old now _ _ _ (Rows.answered_copy (inr here)) e = inr here.1
row_repeats old now event new acts row e = absurd (cc)

step_repeats : (old : Server) (now : ℕ) (event : ServerEvent) (new : Server) (acts : ServerActs) → ServerStep old event now new acts → acts.repeat ≡ true →
    ((old.state ≡ Proceeding) × ((old.answered ≡ true) ⊎ (old.invite ≡ false))) ⊎ (old.state ≡ Completed)
step_repeats old now event new acts (inl row) e = row_repeats old now event new acts row e
step_repeats old now event new acts (inr none) e = let f : acts ≡ server_silent = none.2 in absurd (cc)

split : (codes : List ℕ) → codes ≢ [] → AllByRecursion IsProvisional codes →
    (code : ℕ) × (early : List ℕ) × (codes ≡ code ∷ early) × AllByRecursion IsProvisional (code ∷ early)
split [] full all = absurd (full refl)
split (code ∷ early) full all = (code, early, refl, all)

in_proceeding : (i : Bool) (codes : List ℕ) → HasSent i Proceeding codes → AllByRecursion IsProvisional codes
in_proceeding true codes h = h
in_proceeding false codes h = h.0

pub repeats_in_proceeding : (invite : Bool) (before : List MadeServerStep) (t : MadeServerStep) (s : Server) → ServerRun invite (t ∷ before) s →
    t.acts.repeat ≡ true → t.old.state ≡ Proceeding →
    (code : ℕ) × (early : List ℕ) × (codes_sent before ≡ code ∷ early) × AllByRecursion IsProvisional (code ∷ early)
repeats_in_proceeding invite before t s run e at =
    let l = last_step invite t before s run in
    let h : HasSent t.old.invite Proceeding (codes_sent before) = subst (λ state. HasSent t.old.invite state (codes_sent before)) at (run_sent invite before t.old l.run) in
    split (codes_sent before)
    (either _ (step_repeats t.old t.now t.event t.new t.acts l.step e)
    (λ w. either _ w.1 (λ said. (says_answered invite before t.old l.run).0 said)
    (λ other. let k : HasSent false Proceeding (codes_sent before) = subst (λ i. HasSent i Proceeding (codes_sent before)) other h in k.1))
    (λ done. absurd (cc)))
    (in_proceeding t.old.invite (codes_sent before) h)

is_last : (i : Bool) (codes : List ℕ) (final : ℕ) → IsAnswered i codes final → IsLast codes final
is_last i codes final a = record { late = a.late; early = a.early; all = a.all; only_2xx = a.only_2xx }

at_completed : (i : Bool) (codes : List ℕ) → HasSent i Completed codes → (code : ℕ) × (i ≡ true → IsFailure code) × IsLast codes code
at_completed true codes h = (h.0, (λ e. h.1), is_last true codes h.0 h.2)
at_completed false codes h = (h.0, (λ e. absurd (cc)), is_last false codes h.0 h.1)

pub repeats_in_completed : (invite : Bool) (before : List MadeServerStep) (t : MadeServerStep) (s : Server) → ServerRun invite (t ∷ before) s →
    t.acts.repeat ≡ true → t.old.state ≢ Proceeding →
    (t.old.state ≡ Completed) × ((code : ℕ) × (invite ≡ true → IsFailure code) × IsLast (codes_sent before) code)
repeats_in_completed invite before t s run e not =
    let l = last_step invite t before s run in
    let done : t.old.state ≡ Completed = either _ (step_repeats t.old t.now t.event t.new t.acts l.step e) (λ w. absurd (not w.0)) (λ d. d) in
    (done, at_completed invite (codes_sent before) (subst (λ state. HasSent invite state (codes_sent before)) done (sent invite before t.old l.run)))

-- the timers of each state
on_timers : (s x : Server) (state : ServerState) → s.state ≡ state → HasServerTimers s.state x → HasServerTimers state x
on_timers s x state here h = subst (λ t. HasServerTimers t x) here h

back_timers : (s x : Server) (state : ServerState) → s.state ≡ state → HasServerTimers state x → HasServerTimers s.state x
back_timers s x state here h = subst (λ t. HasServerTimers t x) (sym here) h

row_timers : (old : Server) (now : ℕ) (event : ServerEvent) (new : Server) (acts : ServerActs) → ServerRow old now event new acts →
    HasServerTimers old.state old → HasServerTimers new.state new
row_timers old now _ new _ (Rows.proceeding_copy here said) h = h
row_timers old now _ new _ (Rows.proceeding_1xx code is here) h = on_timers old old Proceeding here.1 h
row_timers old now _ new _ (Rows.proceeding_2xx code is here) h = (on_timers old old Proceeding here.1 h).0
row_timers old now _ new _ (Rows.proceeding_failure code is here) h = λ other. absurd (cc)
row_timers old now _ new _ (Rows.completed_copy here) h = h
row_timers old now _ new _ (Rows.completed_g here due) h = back_timers old _ Completed here.1 (λ other. absurd (cc))
row_timers old now _ new _ (Rows.completed_ack here) h = refl
row_timers old now _ new _ (Rows.completed_h here due) h = (refl, refl)
row_timers old now _ new _ (Rows.confirmed_i here due) h = (refl, refl)
row_timers old now _ new _ (Rows.late_2xx code is here) h = h
row_timers old now _ new _ (Rows.accepted_2xx code is here) h = h
row_timers old now _ new _ (Rows.accepted_ack here) h = h
row_timers old now _ new _ (Rows.accepted_l here due) h = (refl, refl)
row_timers old now _ new _ (Rows.open_1xx code is (inl here)) h = on_timers old old Trying here.1 h
row_timers old now _ new _ (Rows.open_1xx code is (inr here)) h = on_timers old old Proceeding here.1 h
row_timers old now _ new _ (Rows.open_final code is (inl here)) h = λ other. (on_timers old old Trying here.1 h).0
row_timers old now _ new _ (Rows.open_final code is (inr here)) h = λ other. (on_timers old old Proceeding here.1 h).0
row_timers old now _ new _ (Rows.answered_copy here) h = h
row_timers old now _ new _ (Rows.completed_j here due) h = (refl, refl)

step_timers : (old : Server) (now : ℕ) (event : ServerEvent) (new : Server) (acts : ServerActs) → ServerStep old event now new acts →
    HasServerTimers old.state old → HasServerTimers new.state new
step_timers old now event new acts (inl row) h = row_timers old now event new acts row h
step_timers old now event new acts (inr none) h = subst (λ (s : Server). HasServerTimers s.state s) (sym none.1) h

pub timers : (invite : Bool) (steps : List MadeServerStep) (s : Server) → ServerRun invite steps s → HasServerTimers s.state s
timers true _ _ Runs.begins = (refl, refl)
timers false _ _ Runs.begins = (refl, refl)
timers invite _ _ (Runs.goes_on steps old event now new acts run step) = step_timers old now event new acts step (timers invite steps old run)

-- the timer that ends the transaction
row_ends : (old : Server) (now : ℕ) (event : ServerEvent) (new : Server) (acts : ServerActs) → ServerRow old now event new acts →
    ServerWaitsToEnd old.state old → ServerWaitsToEnd new.state new
row_ends old now _ new _ (Rows.proceeding_copy here said) h = h
row_ends old now _ new _ (Rows.proceeding_1xx code is here) h = tt
row_ends old now _ new _ (Rows.proceeding_2xx code is here) h = refl
row_ends old now _ new _ (Rows.proceeding_failure code is here) h = refl
row_ends old now _ new _ (Rows.completed_copy here) h = h
row_ends old now _ new _ (Rows.completed_g here due) h =
    let at : ServerWaitsToEnd Completed old = subst (λ t. ServerWaitsToEnd t old) here.1 h in subst (λ t. ServerWaitsToEnd t new) (sym here.1) at
row_ends old now _ new _ (Rows.completed_ack here) h = refl
row_ends old now _ new _ (Rows.completed_h here due) h = tt
row_ends old now _ new _ (Rows.confirmed_i here due) h = tt
row_ends old now _ new _ (Rows.late_2xx code is here) h = h
row_ends old now _ new _ (Rows.accepted_2xx code is here) h = h
row_ends old now _ new _ (Rows.accepted_ack here) h = h
row_ends old now _ new _ (Rows.accepted_l here due) h = tt
row_ends old now _ new _ (Rows.open_1xx code is here) h = tt
row_ends old now _ new _ (Rows.open_final code is here) h = refl
row_ends old now _ new _ (Rows.answered_copy here) h = h
row_ends old now _ new _ (Rows.completed_j here due) h = tt

step_ends : (old : Server) (now : ℕ) (event : ServerEvent) (new : Server) (acts : ServerActs) → ServerStep old event now new acts →
    ServerWaitsToEnd old.state old → ServerWaitsToEnd new.state new
step_ends old now event new acts (inl row) h = row_ends old now event new acts row h
step_ends old now event new acts (inr none) h = subst (λ (s : Server). ServerWaitsToEnd s.state s) (sym none.1) h

pub ends : (invite : Bool) (steps : List MadeServerStep) (s : Server) → ServerRun invite steps s → ServerWaitsToEnd s.state s
ends true _ _ Runs.begins = tt
ends false _ _ Runs.begins = tt
ends invite _ _ (Runs.goes_on steps old event now new acts run step) = step_ends old now event new acts step (ends invite steps old run)
