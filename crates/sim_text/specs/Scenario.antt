-- A scenario: the form of each line by itself, and what a line adds to what was read before it.
use Rattle.std.specs.Prelude.{◌≡◌, ℕ, ◌+◌, ◌≤◌, ◌⊎◌, List, [], ◌∷◌, ◌++◌, Option, None, Some, Result, Ok, Err, length, codes}
use Rattle.hex.specs.Hex.{decode_of}
use Rattle.outside_ports.specs.declared.port.Addr.{Addr}
use Rattle.outside_ports.specs.declared.port.Arrival.{Arrival}
use Rattle.numerals.specs.Numerals.{IsNumber, IsSocket}
use Rattle.sip_words.specs.Splits.{Lacks}
use Rattle.sip_fields.specs.Parts.{IsName}
use Rattle.host_meaning.specs.declared.settings.HostAddress.{HostAddress}
use Rattle.sim_text.specs.declared.line.Line.{Line}
use Rattle.sim_text.specs.declared.line.Line.TheVariants.{Host, In, Text, Hex, End, Skipped}
use Rattle.sim_text.specs.declared.scenario.Scenario.{Scenario}
use Rattle.sim_text.specs.declared.scenario.ScenarioFault.{ScenarioFault}
use Rattle.sim_text.specs.declared.scenario.ScenarioFault.TheVariants as fault

-- ---- a line by itself

-- host NAME IP:PORT, with a name as a host of a message may have: letters, digits, `-`, `.`, `_`, and no four numbers
abbrev pub IsHostLine : List ℕ → List ℕ → Addr → Type 0
IsHostLine bytes name address =
    (socket : List ℕ) × (bytes ≡ codes "host " ++ (name ++ 32 ∷ socket)) × IsName name × IsSocket socket address

-- the bytes, without LF, are this line by itself. Of the line `+` it is looked at where it is taken what its digits say.
abbrev pub IsLine : List ℕ → Line → Type 0
IsLine bytes (Host name address) = IsHostLine bytes name.now address
IsLine bytes (In at from) =
    (moment : List ℕ) × (socket : List ℕ) × (bytes ≡ codes "in " ++ (moment ++ 32 ∷ socket)) × IsNumber moment at × IsSocket socket from
IsLine bytes (Text text) = bytes ≡ 124 ∷ text.now
IsLine bytes (Hex digits) = bytes ≡ 43 ∷ digits.now
IsLine bytes (End at) = (moment : List ℕ) × (bytes ≡ codes "end " ++ moment) × IsNumber moment at
IsLine bytes Skipped = (bytes ≡ []) ⊎ ((comment : List ℕ) × (bytes ≡ 35 ∷ comment))

-- ---- what a line adds

-- what was read: the hosts and the datagrams so far, and the moment of the end, once it was read
pub record State : Type 0 where
  pub hosts : List HostAddress
  pub arrivals : List Arrival
  pub end : Option ℕ

abbrev pub nothing_read : State
nothing_read = record { hosts = []; arrivals = []; end = None }

-- the moment of the last datagram, 0 before the first
abbrev pub last_moment : List Arrival → ℕ
last_moment [] = 0
last_moment (a ∷ []) = a.at
last_moment (a ∷ (b ∷ rest)) = last_moment (b ∷ rest)

-- the last datagram goes on with these bytes: there is one, of at most 65,507 bytes with them, and no end yet
abbrev pub GoesOn : State → List ℕ → State → Type 0
GoesOn old more new =
    (before : List Arrival) × (a : Arrival) × (old.end ≡ None) × (old.arrivals ≡ before ++ a ∷ [])
    × (length a.bytes + length more ≤ 65507)
    × (new ≡ record old { arrivals = before ++ record a { bytes = a.bytes ++ more } ∷ [] })

-- the line may stand where `old` was read, and then `new` was read. Hosts stand before the first datagram; moments don't
-- fall; `+` has pairs of hexadecimal digits; the end is not later than a day; after it stand only lines that are skipped.
abbrev pub Takes : State → Line → State → Type 0
Takes old Skipped new = new ≡ old
Takes old (Host name address) new =
    (old.end ≡ None) × (old.arrivals ≡ [])
    × (new ≡ record old { hosts = old.hosts ++ record { name = name.now; address = address } ∷ [] })
Takes old (In at from) new =
    (old.end ≡ None) × (last_moment old.arrivals ≤ at)
    × (new ≡ record old { arrivals = old.arrivals ++ record { at = at; from = from; bytes = [] } ∷ [] })
Takes old (Text text) new = GoesOn old (text.now ++ 13 ∷ 10 ∷ []) new
Takes old (Hex digits) new = (bytes : List ℕ) × (decode_of digits.now ≡ Ok bytes) × GoesOn old bytes new
Takes old (End at) new =
    (old.end ≡ None) × (last_moment old.arrivals ≤ at) × (at ≤ 86400000) × (new ≡ record old { end = Some at })

-- these bytes are a line that may stand there
abbrev pub Fits : State → List ℕ → State → Type 0
Fits old bytes new = (line : Line) × IsLine bytes line × Takes old line new

-- ---- the text

-- the lines, each with its LF, one after another
abbrev pub Reads : List (List ℕ) → State → State → Type 0
Reads [] old new = new ≡ old
Reads (line ∷ lines) old new = (next : State) × Lacks 10 line × Fits old line next × Reads lines next new

abbrev pub lines_text : List (List ℕ) → List ℕ
lines_text [] = []
lines_text (line ∷ lines) = line ++ 10 ∷ lines_text lines

-- what a scenario says: the addresses of hosts, the datagrams that arrive, each in order, and the moment of the end
pub record Contents : Type 0 where
  pub hosts : List HostAddress
  pub arrivals : List Arrival
  pub end : ℕ

-- the text is a scenario that says this: lines up to its end, the line `end` among them
abbrev pub IsScenario : List ℕ → Contents → Type 0
IsScenario text said =
    (lines : List (List ℕ)) × (text ≡ lines_text lines)
    × Reads lines nothing_read (record { hosts = said.hosts; arrivals = said.arrivals; end = Some said.end })

-- no line that may stand after `state` stands at the front of the rest; at the end of the text that is so where no end was read
abbrev pub NothingFits : State → List ℕ → Type 0
NothingFits state [] = state.end ≡ None
NothingFits state (b ∷ bs) =
    (line more : List ℕ) (new : State) → Lacks 10 line → b ∷ bs ≡ line ++ 10 ∷ more → Fits state line new → ⊥

-- the line of this number, from 1, is the first malformed one
abbrev pub IsFirstWrong : List ℕ → ℕ → Type 0
IsFirstWrong text number =
    (lines : List (List ℕ)) × (rest : List ℕ) × (state : State) × (text ≡ lines_text lines ++ rest)
    × Reads lines nothing_read state × (number ≡ length lines + 1) × NothingFits state rest

-- ---- what the reader answers

-- what a scenario that was read says
abbrev pub contents_of : Scenario → Contents
contents_of scenario = record { hosts = scenario.hosts.items; arrivals = scenario.arrivals.items; end = scenario.end }

-- a scenario that says this was read, or it is out of memory
abbrev pub GivesScenario : Contents → Result Scenario ScenarioFault → Type 0
GivesScenario said (Ok scenario) = contents_of scenario ≡ said
GivesScenario said (Err (fault.Line number)) = ⊥
GivesScenario said (Err fault.NoMemory) = Unit {0}

-- this line was answered, or it is out of memory
abbrev pub GivesLine : ℕ → Result Scenario ScenarioFault → Type 0
GivesLine wrong (Ok scenario) = ⊥
GivesLine wrong (Err (fault.Line number)) = number ≡ wrong
GivesLine wrong (Err fault.NoMemory) = Unit {0}
