-- Runs of a server from its beginning, and the responses that it sends.
use Rattle.std.specs.Prelude.{◌≡◌, ◌≢◌, ℕ, Bool, true, false, List, [], ◌∷◌, ◌++◌, None, IsSome}
use Rattle.std.specs.List.{AllByRecursion}
use Rattle.txn_server.specs.declared.machine.Server.{Server}
use Rattle.txn_server.specs.declared.machine.ServerActs.{ServerActs}
use Rattle.txn_server.specs.declared.machine.ServerEvent.{ServerEvent}
use Rattle.txn_server.specs.declared.machine.ServerEvent.TheVariants.{Send}
use Rattle.txn_server.specs.declared.machine.ServerState.{ServerState}
use Rattle.txn_server.specs.declared.machine.ServerState.TheVariants.{Trying, Proceeding, Accepted, Completed, Confirmed, Terminated}
use Rattle.txn_server.specs.Rows.{ServerStep, new_server, IsProvisional, IsSuccess, IsFailure, IsFinal}

-- a step that was made: the server before it, the event and its moment, and what came of it
pub record MadeServerStep : Type 0 where
  pub old : Server
  pub event : ServerEvent
  pub now : ℕ
  pub new : Server
  pub acts : ServerActs

-- the steps of a server from its beginning, the latest first, and the server after them
pub data ServerRun (invite : Bool) : List MadeServerStep → Server → Type 0 where
  begins : ServerRun invite [] (new_server invite)
  goes_on : (steps : List MadeServerStep) (old : Server) (event : ServerEvent) (now : ℕ) (new : Server) (acts : ServerActs) →
      ServerRun invite steps old → ServerStep old event now new acts →
      ServerRun invite (record { old = old; event = event; now = now; new = new; acts = acts } ∷ steps) new

-- the status code that an event hands in, if its step sends it
abbrev pub code_sent : Bool → ServerEvent → List ℕ
code_sent true (Send code) = code ∷ []
code_sent sent event = []

-- the status codes of the responses that were sent, the latest first
abbrev pub codes_sent : List MadeServerStep → List ℕ
codes_sent [] = []
codes_sent (s ∷ before) = code_sent s.acts.send s.event ++ codes_sent before

-- Provisional responses were sent, and then this final one. After it an INVITE has got 2xx alone, and another request nothing.
pub record IsAnswered (invite : Bool) (codes : List ℕ) (final : ℕ) : Type 0 where
  pub late : List ℕ
  pub early : List ℕ
  pub all : codes ≡ late ++ final ∷ early
  pub is_final : IsFinal final
  pub provisional : AllByRecursion IsProvisional early
  pub only_2xx : AllByRecursion IsSuccess late
  pub nothing_else : invite ≡ false → late ≡ []

-- the responses that were sent, by the state in which they leave the server
abbrev pub HasSent : Bool → ServerState → List ℕ → Type 0
HasSent invite Trying codes = codes ≡ []
HasSent true Proceeding codes = AllByRecursion IsProvisional codes
HasSent false Proceeding codes = AllByRecursion IsProvisional codes × (codes ≢ [])
HasSent invite Accepted codes = (final : ℕ) × IsSuccess final × IsAnswered invite codes final
HasSent true Completed codes = (final : ℕ) × IsFailure final × IsAnswered true codes final
HasSent false Completed codes = (final : ℕ) × IsAnswered false codes final
HasSent invite Confirmed codes = (final : ℕ) × IsFailure final × IsAnswered invite codes final
HasSent invite Terminated codes = (final : ℕ) × IsAnswered invite codes final

-- the response that is repeated is this one: the last that was sent, but for 2xx that were sent after it
pub record IsLast (codes : List ℕ) (code : ℕ) : Type 0 where
  pub late : List ℕ
  pub early : List ℕ
  pub all : codes ≡ late ++ code ∷ early
  pub only_2xx : AllByRecursion IsSuccess late

-- the timers that a state has
abbrev pub HasServerTimers : ServerState → Server → Type 0
HasServerTimers Trying s = (s.retry ≡ None) × (s.end ≡ None)
HasServerTimers Proceeding s = (s.retry ≡ None) × (s.end ≡ None)
HasServerTimers Accepted s = s.retry ≡ None
HasServerTimers Completed s = (s.invite ≡ false) → s.retry ≡ None
HasServerTimers Confirmed s = s.retry ≡ None
HasServerTimers Terminated s = (s.retry ≡ None) × (s.end ≡ None)

-- a state in which a final response was sent has the timer armed that ends the transaction: L in Accepted, H or J in
-- Completed, I in Confirmed
abbrev pub ServerWaitsToEnd : ServerState → Server → Type 0
ServerWaitsToEnd Accepted s = IsSome s.end
ServerWaitsToEnd Completed s = IsSome s.end
ServerWaitsToEnd Confirmed s = IsSome s.end
ServerWaitsToEnd Trying s = Unit {0}
ServerWaitsToEnd Proceeding s = Unit {0}
ServerWaitsToEnd Terminated s = Unit {0}
