-- The table as rows and the table as a function are one.
use Rattle.std.proofs.Common.{◌≡◌, ℕ, ◌<◌, ◌≤◌, ◌⊎◌, inl, inr, Bool, true, false, Option, Some, None, IsSome, unwrap_or, refl, sym, ap, subst, arith}
use Rattle.std.proofs.lemmas.Bool.Decides.{nat_tests}
use Rattle.txn_server.specs.declared.machine.ResponseClass.{ResponseClass}
use Rattle.txn_server.specs.declared.machine.ResponseClass.TheVariants.{Provisional, Success, Failure}
use Rattle.txn_server.specs.declared.machine.Server.{Server}
use Rattle.txn_server.specs.declared.machine.ServerActs.{ServerActs}
use Rattle.txn_server.specs.declared.machine.ServerEvent.{ServerEvent}
use Rattle.txn_server.specs.declared.machine.ServerEvent.TheVariants.{Copy, Ack, Send, Timer}
use Rattle.txn_server.specs.declared.machine.ServerState.{ServerState}
use Rattle.txn_server.specs.declared.machine.ServerState.TheVariants.{Trying, Proceeding, Accepted, Completed, Confirmed, Terminated}
use Rattle.txn_server.specs.declared.machine.ServerTimer.TheVariants.{Retry, End}
use Rattle.txn_server.specs.Rows
use Rattle.txn_server.specs.Rows.{ServerRow, NoServerRow, ServerStep, InviteServer, OtherServer, server_silent, IsProvisional, IsSuccess, IsFailure, IsFinal}
use Rattle.txn_server.specs.After.{class_of, server_if_armed, if_answered, sent_at, server_made_at, server_after, MakesServer}

-- the classes of codes
pub class_provisional : (code : ℕ) → IsProvisional code → class_of code ≡ Provisional
class_provisional code h = grind (arith, nat_tests)

pub class_success : (code : ℕ) → IsSuccess code → class_of code ≡ Success
class_success code h = grind (arith, nat_tests)

pub class_failure : (code : ℕ) → IsFailure code → class_of code ≡ Failure
class_failure code h = grind (arith, nat_tests)

pub is_provisional : (code : ℕ) → class_of code ≡ Provisional → IsProvisional code
is_provisional code h = grind (arith, nat_tests)

pub is_success : (code : ℕ) → class_of code ≡ Success → IsSuccess code
is_success code h = grind (arith, nat_tests)

pub is_failure : (code : ℕ) → class_of code ≡ Failure → IsFailure code
is_failure code h = grind (arith, nat_tests)

below : (a b : ℕ) → (a < b) ⊎ (b ≤ a)
below a b = grind arith

success_or : (code : ℕ) → IsFinal code → IsSuccess code ⊎ IsFailure code
success_or code h = elim (below code 300) [ inl l ↦ inl (h.0, l) | inr g ↦ inr (g, h.1) ]

pub final_class : (code : ℕ) → IsFinal code → (class_of code ≡ Success) ⊎ (class_of code ≡ Failure)
final_class code h = elim (success_or code h) [ inl s ↦ inl (class_success code s) | inr f ↦ inr (class_failure code f) ]

-- what the row for the server's kind and state makes
at : (i : Bool) (s : ServerState) (event : ServerEvent) (old : Server) (now : ℕ) (made : Option (Server × ServerActs)) →
    (old.invite ≡ i) × (old.state ≡ s) → server_made_at i s event old now ≡ made →
    server_made_at old.invite old.state event old now ≡ made
at i s event old now made here is = cc

-- what the row for a code of this class makes
of_class : (i : Bool) (s : ServerState) (code : ℕ) (class : ResponseClass) (old : Server) (now : ℕ) (made : Option (Server × ServerActs)) →
    class_of code ≡ class → sent_at i s class old now ≡ made → server_made_at i s (Send code) old now ≡ made
of_class i s code class old now made h is = subst (λ k. sent_at i s k old now ≡ made) (sym h) is

pub either : {A B : Type 0} (P : Type 0) → A ⊎ B → (A → P) → (B → P) → P
either P (inl a) f g = f a
either P (inr b) f g = g b

armed : (timer : Option ℕ) (made : Server × ServerActs) → IsSome timer → server_if_armed timer made ≡ Some made
armed None made h = cc
armed (Some due) made h = refl

some_is : (made made' : Server × ServerActs) → Some made ≡ Some made' → made ≡ made'
some_is made made' e = cc

when_armed : (timer : Option ℕ) (made made' : Server × ServerActs) → server_if_armed timer made ≡ Some made' → IsSome timer × (made ≡ made')
when_armed None made made' e = cc
when_armed (Some due) made made' e = (refl, cc)

when_answered : (answered : Bool) (made made' : Server × ServerActs) → if_answered answered made ≡ Some made' → (answered ≡ true) × (made ≡ made')
when_answered false made made' e = cc
when_answered true made made' e = (refl, cc)

-- what a row makes is what the function gives
pub row_made : (old : Server) (now : ℕ) (event : ServerEvent) (new : Server) (acts : ServerActs) → ServerRow old now event new acts →
    server_made_at old.invite old.state event old now ≡ Some (new, acts)
row_made old now _ _ _ (Rows.proceeding_copy here said) = at true Proceeding Copy old now _ here (ap (λ b. if_answered b (old, Rows.repeats)) said)
row_made old now _ _ _ (Rows.proceeding_1xx code is here) = at true Proceeding (Send code) old now _ here (of_class true Proceeding code Provisional old now _ (class_provisional code is) refl)
row_made old now _ _ _ (Rows.proceeding_2xx code is here) = at true Proceeding (Send code) old now _ here (of_class true Proceeding code Success old now _ (class_success code is) refl)
row_made old now _ _ _ (Rows.proceeding_failure code is here) = at true Proceeding (Send code) old now _ here (of_class true Proceeding code Failure old now _ (class_failure code is) refl)
row_made old now _ _ _ (Rows.completed_copy here) = at true Completed Copy old now _ here refl
row_made old now _ _ _ (Rows.completed_g here due) = at true Completed (Timer Retry) old now _ here (armed _ _ due)
row_made old now _ _ _ (Rows.completed_ack here) = at true Completed Ack old now _ here refl
row_made old now _ _ _ (Rows.completed_h here due) = at true Completed (Timer End) old now _ here (armed _ _ due)
row_made old now _ _ _ (Rows.confirmed_i here due) = at true Confirmed (Timer End) old now _ here (armed _ _ due)
row_made old now _ _ _ (Rows.late_2xx code is (inl here)) = at true Completed (Send code) old now _ here (of_class true Completed code Success old now _ (class_success code is) refl)
row_made old now _ _ _ (Rows.late_2xx code is (inr (inl here))) = at true Confirmed (Send code) old now _ here (of_class true Confirmed code Success old now _ (class_success code is) refl)
row_made old now _ _ _ (Rows.late_2xx code is (inr (inr here))) = at true Terminated (Send code) old now _ here (of_class true Terminated code Success old now _ (class_success code is) refl)
row_made old now _ _ _ (Rows.accepted_2xx code is here) = at true Accepted (Send code) old now _ here (of_class true Accepted code Success old now _ (class_success code is) refl)
row_made old now _ _ _ (Rows.accepted_ack here) = at true Accepted Ack old now _ here refl
row_made old now _ _ _ (Rows.accepted_l here due) = at true Accepted (Timer End) old now _ here (armed _ _ due)
row_made old now _ _ _ (Rows.open_1xx code is (inl here)) = at false Trying (Send code) old now _ here (of_class false Trying code Provisional old now _ (class_provisional code is) refl)
row_made old now _ _ _ (Rows.open_1xx code is (inr here)) = at false Proceeding (Send code) old now _ here (of_class false Proceeding code Provisional old now _ (class_provisional code is) refl)
row_made old now _ _ _ (Rows.open_final code is (inl here)) = at false Trying (Send code) old now _ here (either _ (final_class code is) (λ k. of_class false Trying code Success old now _ k refl) (λ k. of_class false Trying code Failure old now _ k refl))
row_made old now _ _ _ (Rows.open_final code is (inr here)) = at false Proceeding (Send code) old now _ here (either _ (final_class code is) (λ k. of_class false Proceeding code Success old now _ k refl) (λ k. of_class false Proceeding code Failure old now _ k refl))
row_made old now _ _ _ (Rows.answered_copy (inl here)) = at false Proceeding Copy old now _ here refl
row_made old now _ _ _ (Rows.answered_copy (inr here)) = at false Completed Copy old now _ here refl
row_made old now _ _ _ (Rows.completed_j here due) = at false Completed (Timer End) old now _ here (armed _ _ due)

final_of_success : (code : ℕ) → class_of code ≡ Success → IsFinal code
final_of_success code h = let s = is_success code h in (s.0, omega (arith, s.1))

final_of_failure : (code : ℕ) → class_of code ≡ Failure → IsFinal code
final_of_failure code h = let f = is_failure code h in (omega (arith, f.0), f.1)

pair_is : (made : Server × ServerActs) (new : Server) (acts : ServerActs) → (new ≡ made.0) × (acts ≡ made.1) → made ≡ (new, acts)
pair_is (server, done) new acts is = cc

pair_parts : (made : Server × ServerActs) (new : Server) (acts : ServerActs) → made ≡ (new, acts) → (new ≡ made.0) × (acts ≡ made.1)
pair_parts made new acts is = (sym (ap (λ (m : Server × ServerActs). m.0) is), sym (ap (λ (m : Server × ServerActs). m.1) is))

module _ (old : Server) (now : ℕ) where
  by_equation : (event : ServerEvent) (made made' : Server × ServerActs) → made ≡ made' → ServerRow old now event made.0 made.1 → ServerRow old now event made'.0 made'.1
  by_equation event made made' e row = let P : Server × ServerActs → Type 0 = λ m. ServerRow old now event m.0 m.1 in subst P e row

  sent_row : (i : Bool) (s : ServerState) (code : ℕ) (class : ResponseClass) (made : Server × ServerActs) → old.invite ≡ i → old.state ≡ s → class_of code ≡ class →
      sent_at i s class old now ≡ Some made → ServerRow old now (Send code) made.0 made.1
  sent_row true Proceeding code Provisional made hi hs hc e = by_equation _ _ _ (some_is _ _ e) (Rows.proceeding_1xx code (is_provisional code hc) (hi, hs))
  sent_row true Proceeding code Success made hi hs hc e = by_equation _ _ _ (some_is _ _ e) (Rows.proceeding_2xx code (is_success code hc) (hi, hs))
  sent_row true Proceeding code Failure made hi hs hc e = by_equation _ _ _ (some_is _ _ e) (Rows.proceeding_failure code (is_failure code hc) (hi, hs))
  sent_row true Accepted code Success made hi hs hc e = by_equation _ _ _ (some_is _ _ e) (Rows.accepted_2xx code (is_success code hc) (hi, hs))
  sent_row true Completed code Success made hi hs hc e = by_equation _ _ _ (some_is _ _ e) (Rows.late_2xx code (is_success code hc) (inl (hi, hs)))
  sent_row true Confirmed code Success made hi hs hc e = by_equation _ _ _ (some_is _ _ e) (Rows.late_2xx code (is_success code hc) (inr (inl (hi, hs))))
  sent_row true Terminated code Success made hi hs hc e = by_equation _ _ _ (some_is _ _ e) (Rows.late_2xx code (is_success code hc) (inr (inr (hi, hs))))
  sent_row false Trying code Provisional made hi hs hc e = by_equation _ _ _ (some_is _ _ e) (Rows.open_1xx code (is_provisional code hc) (inl (hi, hs)))
  sent_row false Trying code Success made hi hs hc e = by_equation _ _ _ (some_is _ _ e) (Rows.open_final code (final_of_success code hc) (inl (hi, hs)))
  sent_row false Trying code Failure made hi hs hc e = by_equation _ _ _ (some_is _ _ e) (Rows.open_final code (final_of_failure code hc) (inl (hi, hs)))
  sent_row false Proceeding code Provisional made hi hs hc e = by_equation _ _ _ (some_is _ _ e) (Rows.open_1xx code (is_provisional code hc) (inr (hi, hs)))
  sent_row false Proceeding code Success made hi hs hc e = by_equation _ _ _ (some_is _ _ e) (Rows.open_final code (final_of_success code hc) (inr (hi, hs)))
  sent_row false Proceeding code Failure made hi hs hc e = by_equation _ _ _ (some_is _ _ e) (Rows.open_final code (final_of_failure code hc) (inr (hi, hs)))
  sent_row i s code class made hi hs hc e = cc

  -- what the function gives is what a row makes
  pub made_row : (i : Bool) (s : ServerState) (event : ServerEvent) (made : Server × ServerActs) → old.invite ≡ i → old.state ≡ s →
      server_made_at i s event old now ≡ Some made → ServerRow old now event made.0 made.1
  made_row true Proceeding Copy made hi hs e = let w = when_answered _ _ _ e in by_equation _ _ _ w.1 (Rows.proceeding_copy (hi, hs) w.0)
  made_row true Completed Copy made hi hs e = by_equation _ _ _ (some_is _ _ e) (Rows.completed_copy (hi, hs))
  made_row false Proceeding Copy made hi hs e = by_equation _ _ _ (some_is _ _ e) (Rows.answered_copy (inl (hi, hs)))
  made_row false Completed Copy made hi hs e = by_equation _ _ _ (some_is _ _ e) (Rows.answered_copy (inr (hi, hs)))
  made_row true Completed Ack made hi hs e = by_equation _ _ _ (some_is _ _ e) (Rows.completed_ack (hi, hs))
  made_row true Accepted Ack made hi hs e = by_equation _ _ _ (some_is _ _ e) (Rows.accepted_ack (hi, hs))
  made_row i s (Send code) made hi hs e = sent_row i s code (class_of code) made hi hs refl e
  made_row true Completed (Timer Retry) made hi hs e = let w = when_armed _ _ _ e in by_equation _ _ _ w.1 (Rows.completed_g (hi, hs) w.0)
  made_row true Accepted (Timer End) made hi hs e = let w = when_armed _ _ _ e in by_equation _ _ _ w.1 (Rows.accepted_l (hi, hs) w.0)
  made_row true Completed (Timer End) made hi hs e = let w = when_armed _ _ _ e in by_equation _ _ _ w.1 (Rows.completed_h (hi, hs) w.0)
  made_row true Confirmed (Timer End) made hi hs e = let w = when_armed _ _ _ e in by_equation _ _ _ w.1 (Rows.confirmed_i (hi, hs) w.0)
  made_row false Completed (Timer End) made hi hs e = let w = when_armed _ _ _ e in by_equation _ _ _ w.1 (Rows.completed_j (hi, hs) w.0)
  made_row i s event made hi hs e = cc

  -- what the function makes is a step
  makes : (event : ServerEvent) (new : Server) (acts : ServerActs) (m : Option (Server × ServerActs)) → server_made_at old.invite old.state event old now ≡ m →
      MakesServer m old new acts → ServerStep old event now new acts
  makes event new acts None e is =
      inr ((λ new acts row. let made : server_made_at old.invite old.state event old now ≡ Some (new, acts) = row_made old now event new acts row in cc), is.0, is.1)
  makes event new acts (Some made) e is =
      inl (by_equation event made (new, acts) (pair_is made new acts is) (made_row old.invite old.state event made refl refl e))

  pub makes_step : (event : ServerEvent) (new : Server) (acts : ServerActs) →
      MakesServer (server_made_at old.invite old.state event old now) old new acts → ServerStep old event now new acts
  makes_step event new acts is = makes event new acts _ refl is

  -- a step is what the function makes
  after_of : (event : ServerEvent) (new : Server) (acts : ServerActs) (m : Option (Server × ServerActs)) →
      server_made_at old.invite old.state event old now ≡ m → ServerStep old event now new acts → unwrap_or m (old, server_silent) ≡ (new, acts)
  after_of event new acts m e (inl row) =
      let made : server_made_at old.invite old.state event old now ≡ Some (new, acts) = row_made old now event new acts row in
      let same : m ≡ Some (new, acts) = cc in ap (λ x. unwrap_or x (old, server_silent)) same
  after_of event new acts None e (inr (none, n, a)) = cc
  after_of event new acts (Some made) e (inr (none, n, a)) = absurd (none made.0 made.1 (made_row old.invite old.state event made refl refl e))

  pub step_after : (event : ServerEvent) (new : Server) (acts : ServerActs) → ServerStep old event now new acts → server_after old event now ≡ (new, acts)
  step_after event new acts step = after_of event new acts _ refl step

  of_after : (event : ServerEvent) (new : Server) (acts : ServerActs) (m : Option (Server × ServerActs)) →
      unwrap_or m (old, server_silent) ≡ (new, acts) → MakesServer m old new acts
  of_after event new acts None is = pair_parts (old, server_silent) new acts is
  of_after event new acts (Some made) is = pair_parts made new acts is

  pub after_step : (event : ServerEvent) (new : Server) (acts : ServerActs) → server_after old event now ≡ (new, acts) → ServerStep old event now new acts
  after_step event new acts is = makes_step event new acts (of_after event new acts _ is)

  pub makes_at : (event event' : ServerEvent) (new : Server) (acts : ServerActs) → event ≡ event' →
      MakesServer (server_made_at old.invite old.state event' old now) old new acts → ServerStep old event now new acts
  makes_at event event' new acts e is = subst (λ x. ServerStep old x now new acts) (sym e) (makes_step event' new acts is)

  pub makes_sent : (event : ServerEvent) (code : ℕ) (class : ResponseClass) (new : Server) (acts : ServerActs) →
      event ≡ Send code → class ≡ class_of code →
      MakesServer (sent_at old.invite old.state class old now) old new acts → ServerStep old event now new acts
  makes_sent event code class new acts e hc is =
      makes_at event (Send code) new acts e (subst (λ k. MakesServer (sent_at old.invite old.state k old now) old new acts) hc is)
