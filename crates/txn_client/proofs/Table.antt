-- The table as rows and the table as a function are one.
use Rattle.std.proofs.Common.{◌≡◌, ℕ, ◌⊎◌, inl, inr, Bool, true, false, Option, Some, None, IsSome, unwrap_or, refl, sym, ap, subst}
use Rattle.txn_client.specs.declared.machine.Client.{Client}
use Rattle.txn_client.specs.declared.machine.ClientActs.{ClientActs}
use Rattle.txn_client.specs.declared.machine.ClientEvent.{ClientEvent}
use Rattle.txn_client.specs.declared.machine.ClientEvent.TheVariants.{Start, Provisional, Success, Failure, Timer}
use Rattle.txn_client.specs.declared.machine.ClientState.{ClientState}
use Rattle.txn_client.specs.declared.machine.ClientState.TheVariants.{Calling, Trying, Proceeding, Accepted, Completed}
use Rattle.txn_client.specs.declared.machine.ClientTimer.TheVariants.{Retry, Limit, Linger}
use Rattle.txn_client.specs.Rows
use Rattle.txn_client.specs.Rows.{ClientRow, NoClientRow, ClientStep, InviteClient, OtherClient, client_silent}
use Rattle.txn_client.specs.After.{client_if_armed, client_made_at, client_after, MakesClient}

-- what the row for the client's kind and state makes
at : (i : Bool) (s : ClientState) (event : ClientEvent) (old : Client) (now : ℕ) (made : Option (Client × ClientActs)) →
    (old.invite ≡ i) × (old.state ≡ s) → client_made_at i s event old now ≡ made →
    client_made_at old.invite old.state event old now ≡ made
at i s event old now made here is = cc

pub either : {A B : Type 0} (P : Type 0) → A ⊎ B → (A → P) → (B → P) → P
either P (inl a) f g = f a
either P (inr b) f g = g b

armed : (timer : Option ℕ) (made : Client × ClientActs) → IsSome timer → client_if_armed timer made ≡ Some made
armed None made h = cc
armed (Some due) made h = refl

-- what a row makes is what the function gives
pub row_made : (old : Client) (now : ℕ) (event : ClientEvent) (new : Client) (acts : ClientActs) → ClientRow old now event new acts →
    client_made_at old.invite old.state event old now ≡ Some (new, acts)
row_made old now _ _ _ (Rows.calling_start here) = at true Calling _ old now _ here refl
row_made old now _ _ _ (Rows.calling_a here due) = at true Calling _ old now _ here (armed _ _ due)
row_made old now _ _ _ (Rows.calling_b here due) = at true Calling _ old now _ here (armed _ _ due)
row_made old now _ _ _ (Rows.early_1xx here) = either _ here (λ h. at true Calling _ old now _ h refl) (λ h. at true Proceeding _ old now _ h refl)
row_made old now _ _ _ (Rows.early_2xx here) = either _ here (λ h. at true Calling _ old now _ h refl) (λ h. at true Proceeding _ old now _ h refl)
row_made old now _ _ _ (Rows.early_failure here) = either _ here (λ h. at true Calling _ old now _ h refl) (λ h. at true Proceeding _ old now _ h refl)
row_made old now _ _ _ (Rows.completed_failure here) = at true Completed _ old now _ here refl
row_made old now _ _ _ (Rows.completed_d here due) = at true Completed _ old now _ here (armed _ _ due)
row_made old now _ _ _ (Rows.accepted_2xx here) = at true Accepted _ old now _ here refl
row_made old now _ _ _ (Rows.accepted_m here due) = at true Accepted _ old now _ here (armed _ _ due)
row_made old now _ _ _ (Rows.trying_start here) = at false Trying _ old now _ here refl
row_made old now _ _ _ (Rows.trying_e here due) = at false Trying _ old now _ here (armed _ _ due)
row_made old now _ _ _ (Rows.proceeding_e here due) = at false Proceeding _ old now _ here (armed _ _ due)
row_made old now _ _ _ (Rows.waiting_f here due) = either _ here (λ h. at false Trying _ old now _ h (armed _ _ due)) (λ h. at false Proceeding _ old now _ h (armed _ _ due))
row_made old now _ _ _ (Rows.waiting_1xx here) = either _ here (λ h. at false Trying _ old now _ h refl) (λ h. at false Proceeding _ old now _ h refl)
row_made old now _ _ _ (Rows.waiting_2xx here) = either _ here (λ h. at false Trying _ old now _ h refl) (λ h. at false Proceeding _ old now _ h refl)
row_made old now _ _ _ (Rows.waiting_failure here) = either _ here (λ h. at false Trying _ old now _ h refl) (λ h. at false Proceeding _ old now _ h refl)
row_made old now _ _ _ (Rows.completed_k here due) = at false Completed _ old now _ here (armed _ _ due)

some_is : (made made' : Client × ClientActs) → Some made ≡ Some made' → made ≡ made'
some_is made made' e = cc

when_armed : (timer : Option ℕ) (made made' : Client × ClientActs) → client_if_armed timer made ≡ Some made' → IsSome timer × (made ≡ made')
when_armed None made made' e = cc
when_armed (Some due) made made' e = (refl, cc)

module _ (old : Client) (now : ℕ) where
  by_equation : (event : ClientEvent) (made made' : Client × ClientActs) → made ≡ made' → ClientRow old now event made.0 made.1 → ClientRow old now event made'.0 made'.1
  by_equation event made made' e row = let P : Client × ClientActs → Type 0 = λ m. ClientRow old now event m.0 m.1 in subst P e row

  -- what the function gives is what a row makes
  pub made_row : (i : Bool) (s : ClientState) (event : ClientEvent) (made : Client × ClientActs) → old.invite ≡ i → old.state ≡ s →
      client_made_at i s event old now ≡ Some made → ClientRow old now event made.0 made.1
  made_row true Calling Start made hi hs e = by_equation _ _ _ (some_is _ _ e) (Rows.calling_start (hi, hs))
  made_row true Calling (Timer Retry) made hi hs e = let w = when_armed _ _ _ e in by_equation _ _ _ w.1 (Rows.calling_a (hi, hs) w.0)
  made_row true Calling (Timer Limit) made hi hs e = let w = when_armed _ _ _ e in by_equation _ _ _ w.1 (Rows.calling_b (hi, hs) w.0)
  made_row true Calling Provisional made hi hs e = by_equation _ _ _ (some_is _ _ e) (Rows.early_1xx (inl (hi, hs)))
  made_row true Calling Success made hi hs e = by_equation _ _ _ (some_is _ _ e) (Rows.early_2xx (inl (hi, hs)))
  made_row true Calling Failure made hi hs e = by_equation _ _ _ (some_is _ _ e) (Rows.early_failure (inl (hi, hs)))
  made_row true Proceeding Provisional made hi hs e = by_equation _ _ _ (some_is _ _ e) (Rows.early_1xx (inr (hi, hs)))
  made_row true Proceeding Success made hi hs e = by_equation _ _ _ (some_is _ _ e) (Rows.early_2xx (inr (hi, hs)))
  made_row true Proceeding Failure made hi hs e = by_equation _ _ _ (some_is _ _ e) (Rows.early_failure (inr (hi, hs)))
  made_row true Completed Failure made hi hs e = by_equation _ _ _ (some_is _ _ e) (Rows.completed_failure (hi, hs))
  made_row true Completed (Timer Linger) made hi hs e = let w = when_armed _ _ _ e in by_equation _ _ _ w.1 (Rows.completed_d (hi, hs) w.0)
  made_row true Accepted Success made hi hs e = by_equation _ _ _ (some_is _ _ e) (Rows.accepted_2xx (hi, hs))
  made_row true Accepted (Timer Linger) made hi hs e = let w = when_armed _ _ _ e in by_equation _ _ _ w.1 (Rows.accepted_m (hi, hs) w.0)
  made_row false Trying Start made hi hs e = by_equation _ _ _ (some_is _ _ e) (Rows.trying_start (hi, hs))
  made_row false Trying (Timer Retry) made hi hs e = let w = when_armed _ _ _ e in by_equation _ _ _ w.1 (Rows.trying_e (hi, hs) w.0)
  made_row false Proceeding (Timer Retry) made hi hs e = let w = when_armed _ _ _ e in by_equation _ _ _ w.1 (Rows.proceeding_e (hi, hs) w.0)
  made_row false Trying (Timer Limit) made hi hs e = let w = when_armed _ _ _ e in by_equation _ _ _ w.1 (Rows.waiting_f (inl (hi, hs)) w.0)
  made_row false Trying Provisional made hi hs e = by_equation _ _ _ (some_is _ _ e) (Rows.waiting_1xx (inl (hi, hs)))
  made_row false Trying Success made hi hs e = by_equation _ _ _ (some_is _ _ e) (Rows.waiting_2xx (inl (hi, hs)))
  made_row false Trying Failure made hi hs e = by_equation _ _ _ (some_is _ _ e) (Rows.waiting_failure (inl (hi, hs)))
  made_row false Proceeding (Timer Limit) made hi hs e = let w = when_armed _ _ _ e in by_equation _ _ _ w.1 (Rows.waiting_f (inr (hi, hs)) w.0)
  made_row false Proceeding Provisional made hi hs e = by_equation _ _ _ (some_is _ _ e) (Rows.waiting_1xx (inr (hi, hs)))
  made_row false Proceeding Success made hi hs e = by_equation _ _ _ (some_is _ _ e) (Rows.waiting_2xx (inr (hi, hs)))
  made_row false Proceeding Failure made hi hs e = by_equation _ _ _ (some_is _ _ e) (Rows.waiting_failure (inr (hi, hs)))
  made_row false Completed (Timer Linger) made hi hs e = let w = when_armed _ _ _ e in by_equation _ _ _ w.1 (Rows.completed_k (hi, hs) w.0)
  made_row i s event made hi hs e = cc

pair_is : (made : Client × ClientActs) (new : Client) (acts : ClientActs) → (new ≡ made.0) × (acts ≡ made.1) → made ≡ (new, acts)
pair_is (client, done) new acts is = cc

pair_parts : (made : Client × ClientActs) (new : Client) (acts : ClientActs) → made ≡ (new, acts) → (new ≡ made.0) × (acts ≡ made.1)
pair_parts made new acts is = (sym (ap (λ (m : Client × ClientActs). m.0) is), sym (ap (λ (m : Client × ClientActs). m.1) is))

module _ (old : Client) (now : ℕ) where
  -- what the function makes is a step
  makes : (event : ClientEvent) (new : Client) (acts : ClientActs) (m : Option (Client × ClientActs)) → client_made_at old.invite old.state event old now ≡ m →
      MakesClient m old new acts → ClientStep old event now new acts
  makes event new acts None e is =
      inr ((λ new acts row. let made : client_made_at old.invite old.state event old now ≡ Some (new, acts) = row_made old now event new acts row in cc), is.0, is.1)
  makes event new acts (Some made) e is =
      inl (by_equation old now event made (new, acts) (pair_is made new acts is) (made_row old now old.invite old.state event made refl refl e))

  pub makes_step : (event : ClientEvent) (new : Client) (acts : ClientActs) →
      MakesClient (client_made_at old.invite old.state event old now) old new acts → ClientStep old event now new acts
  makes_step event new acts is = makes event new acts _ refl is

  pub makes_at : (event event' : ClientEvent) (new : Client) (acts : ClientActs) → event ≡ event' →
      MakesClient (client_made_at old.invite old.state event' old now) old new acts → ClientStep old event now new acts
  makes_at event event' new acts e is = subst (λ x. ClientStep old x now new acts) (sym e) (makes_step event' new acts is)

  -- a step is what the function makes
  after_of : (event : ClientEvent) (new : Client) (acts : ClientActs) (m : Option (Client × ClientActs)) →
      client_made_at old.invite old.state event old now ≡ m → ClientStep old event now new acts → unwrap_or m (old, client_silent) ≡ (new, acts)
  after_of event new acts m e (inl row) =
      let made : client_made_at old.invite old.state event old now ≡ Some (new, acts) = row_made old now event new acts row in
      let same : m ≡ Some (new, acts) = cc in ap (λ x. unwrap_or x (old, client_silent)) same
  after_of event new acts None e (inr (none, n, a)) = cc
  after_of event new acts (Some made) e (inr (none, n, a)) = absurd (none made.0 made.1 (made_row old now old.invite old.state event made refl refl e))

  pub step_after : (event : ClientEvent) (new : Client) (acts : ClientActs) → ClientStep old event now new acts → client_after old event now ≡ (new, acts)
  step_after event new acts step = after_of event new acts _ refl step

  of_after : (new : Client) (acts : ClientActs) (m : Option (Client × ClientActs)) → unwrap_or m (old, client_silent) ≡ (new, acts) → MakesClient m old new acts
  of_after new acts None is = pair_parts (old, client_silent) new acts is
  of_after new acts (Some made) is = pair_parts made new acts is

  pub after_step : (event : ClientEvent) (new : Client) (acts : ClientActs) → client_after old event now ≡ (new, acts) → ClientStep old event now new acts
  after_step event new acts is = makes_step event new acts (of_after new acts _ is)
