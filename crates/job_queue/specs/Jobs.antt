-- The rule of a queue of jobs, and what each pass has posted and taken.
use Rattle.std.specs.Prelude.{◌≡◌, ℕ, ◌+◌, ◌-◌, ◌<◌, Option, Some, None, List, [], ◌∷◌, ◌++◌}
use mathlib.Core.Option.{some}
use lib.ListN.{get_elem?}
use Rattle.claim_words.specs.declared.claims.Claims.{Claims}
use Rattle.claim_words.specs.Owned.{IsNoteOf, slots_of}
use Rattle.job_queue.specs.declared.Job.{Job}
use Rattle.job_queue.specs.declared.Job.TheVariants.{Continue, Cancel}
use Rattle.job_queue.specs.declared.hand.JobHome.{JobHome}
use Rattle.job_queue.specs.declared.hand.JobHand.{JobHand}

-- how many parts there are of the right to know the whole: 2^32
abbrev pub all_parts : ℕ
all_parts = 4294967296

-- of these claims, and of so many routes
abbrev pub home_of : Claims → ℕ → Option JobHome
home_of claims routes = Some (record { claims = claims; routes = routes })

abbrev pub hand : Option JobHome → ℕ → List Job → List Job → JobHand
hand home parts posted taken = record { home = home; parts = parts; posted = posted; taken = taken }

abbrev pub newcomer : JobHand
newcomer = hand None all_parts [] []

abbrev pub spent_hand : JobHand
spent_hand = hand None 0 [] []

-- the only pass, once it was told of which claims the jobs are
abbrev pub hand_of_home : Option JobHome → JobHand → JobHand
hand_of_home home v = record v { home = home }

-- a pass that gave one part to a new one
abbrev pub halved : JobHand → JobHand
halved v = record v { parts = v.parts - 1 }

abbrev pub half : JobHand → JobHand
half v = hand v.home 1 [] []

-- a pass that took another in
abbrev pub joined_hands : JobHand → JobHand → JobHand
joined_hands v w = hand v.home (v.parts + w.parts) (v.posted ++ w.posted) (v.taken ++ w.taken)

abbrev pub posted : JobHand → Job → JobHand
posted v x = record v { posted = v.posted ++ x ∷ [] }

-- A job of these claims and routes. That the claim of a note was won by Continued is kept by its type
abbrev pub IsJob : JobHome → Job → Type 0
IsJob home (Continue note route) = IsNoteOf home.claims note × (note.slot < slots_of home.claims) × (route < home.routes)
IsJob home (Cancel slot generation) = slot < slots_of home.claims

abbrev pub IsJobOf : Option JobHome → Job → Type 0
IsJobOf None x = ⊥
IsJobOf (Some home) x = IsJob home x

abbrev pub AllJobs : Option JobHome → List Job → Type 0
AllJobs home [] = Unit {0}
AllJobs home (x ∷ xs) = IsJobOf home x × AllJobs home xs

-- the pass took a job of its claims
abbrev pub TakesJob : JobHand → Job → JobHand → Type 0
TakesJob v x w = (w ≡ record v { taken = v.taken ++ x ∷ [] }) × IsJobOf v.home x

-- the jobs, each weighed by h
abbrev pub weigh : (Job → ℕ) → List Job → ℕ
weigh h [] = 0
weigh h (x ∷ xs) = h x + weigh h xs

abbrev pub total : (JobHand → ℕ) → List JobHand → ℕ
total f [] = 0
total f (v ∷ vs) = f v + total f vs

-- each job was posted as often as it was taken or is queued, and each queued one is of the claims that all passes name
pub record JobsKept (jobs : List Job) (views : List JobHand) : Type 0 where
  pub home : Option JobHome
  pub parts : total (λ v. v.parts) views ≡ all_parts
  pub balanced : (h : Job → ℕ) → total (λ v. weigh h v.posted) views ≡ total (λ v. weigh h v.taken) views + weigh h jobs
  pub idle : (j : ℕ) (v : JobHand) → get_elem? views j ≡ some v → v.parts ≡ 0 → (v.posted ≡ []) × (v.taken ≡ [])
  pub same : (j : ℕ) (v : JobHand) → get_elem? views j ≡ some v → 0 < v.parts → v.home ≡ home
  pub right : AllJobs home jobs

-- a pass with every part knows what is queued
abbrev pub Rest : JobHand → List Job → Type 0
Rest v jobs = v.parts ≡ all_parts → (h : Job → ℕ) → weigh h v.posted ≡ weigh h v.taken + weigh h jobs
