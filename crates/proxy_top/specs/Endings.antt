-- How a command ends: what holds of its words and files, the status, and what is printed.
use Rattle.std.specs.Prelude.{◌≡◌, ◌≢◌, ℕ, ◌<◌, ◌≤◌, ◌⊎◌, List, [], ◌∷◌, ◌++◌, Option, Some, length, codes}
use Rattle.std.specs.Fmt.{decimal}
use Rattle.outside_ports.specs.Counts.{Rises}
use Rattle.outside_ports.specs.Files.{Folder, Holds, IsLonger}
use Rattle.outside_ports.specs.Told.{Grows}
use Rattle.pv_values.specs.declared.refusal.Place.{Place}
use Rattle.cfg_tree.specs.declared.script.Script.{Script}
use Rattle.cfg_tree.specs.declared.refusal_kind.RefusalKind.TheVariants.{Syntax, TooLarge}
use Rattle.cfg_tree.specs.RefusalKinds.{refusal_number}
use Rattle.proxy_top.specs.declared.top.Ending.{Ending}
use Rattle.proxy_top.specs.declared.top.Ending.TheVariants as outcome
use Rattle.proxy_top.specs.Accept.{AcceptsText, RefusesText}
use Rattle.proxy_top.specs.Commands.{check_words, sim_words, IsNoCommand}
use Rattle.sim_text.specs.Scenario.{Contents, IsScenario, IsFirstWrong}
use Rattle.solo_run.specs.Solo.{solo_trace}

abbrev pub place : ℕ → ℕ → Place
place from to = record { from = from; to = to }

-- ---- what is printed

abbrev pub accepted_line : List ℕ
accepted_line = codes "accepted\n"

abbrev pub usage_line : List ℕ
usage_line = codes "usage: sipscript check FILE, sim FILE SCENARIO, load N, serve FILE [options]\n"

-- refused KIND at FROM..TO
abbrev pub refused_line : ℕ → Place → List ℕ
refused_line kind at =
    codes "refused " ++ (decimal kind ++ (codes " at " ++ (decimal at.from ++ (codes ".." ++ (decimal at.to ++ 10 ∷ [])))))

abbrev pub wrong_line : ℕ → List ℕ
wrong_line line = codes "scenario line " ++ (decimal line ++ 10 ∷ [])

abbrev pub unread_line : List ℕ → List ℕ
unread_line name = codes "cannot read " ++ (name ++ 10 ∷ [])

abbrev pub memory_line : List ℕ
memory_line = codes "out of memory\n"

-- ---- how a script is read

-- the words name this file as that of the script
abbrev pub NamesScript : List (List ℕ) → List ℕ → Type 0
NamesScript words file = (words ≡ check_words file) ⊎ ((scenario : List ℕ) × (words ≡ sim_words file scenario))

-- the file of this name holds a text that is accepted as this script
pub record ReadsScript (folder : Option Folder) (file : List ℕ) (script : Script) : Type 0 where
  pub text : List ℕ
  pub held : Holds folder file text
  pub accepted : AcceptsText text script

-- this file is refused: it holds a text of at most 1 MiB that is refused so, or it is longer
abbrev pub RefusesFile : Option Folder → List ℕ → ℕ → Place → Type 0
RefusesFile folder file kind at =
    ((text : List ℕ) × Holds folder file text × (length text ≤ 1048576) × RefusesText text kind at)
    ⊎ (IsLonger folder file 1048576 × (kind ≡ refusal_number TooLarge) × (at ≡ place 1048576 1048577))

-- the file of the script is refused with this kind at this place
pub record IsRefusedByCommand (words : List (List ℕ)) (folder : Option Folder) (kind : ℕ) (at : Place) : Type 0 where
  pub file : List ℕ
  pub names : NamesScript words file
  pub refused : RefusesFile folder file kind at

-- ---- how the command `check` ends

-- the words are `check`, and the script is accepted
pub record IsAcceptedByCheck (words : List (List ℕ)) (folder : Option Folder) : Type 0 where
  pub file : List ℕ
  pub words_are : words ≡ check_words file
  pub script : Script
  pub accepted : ReadsScript folder file script

-- ---- how the command `sim` ends

-- the words are `sim`, the script is accepted and the scenario reads, and this is the trace of the solo run
pub record IsRun (words : List (List ℕ)) (folder : Option Folder) (printed : List ℕ) : Type 0 where
  pub file : List ℕ
  pub scenario : List ℕ
  pub words_are : words ≡ sim_words file scenario
  pub script : Script
  pub accepted : ReadsScript folder file script
  pub text : List ℕ
  pub held : Holds folder scenario text
  pub said : Contents
  pub reads : IsScenario text said
  pub trace_is : printed ≡ solo_trace script said

-- the words are `sim` with a script that is accepted, and this line of the scenario is the first malformed one, or 0 where the
-- scenario is longer than 4 MiB
pub record IsWrongLine (words : List (List ℕ)) (folder : Option Folder) (line : ℕ) : Type 0 where
  pub file : List ℕ
  pub scenario : List ℕ
  pub words_are : words ≡ sim_words file scenario
  pub script : Script
  pub accepted : ReadsScript folder file script
  pub wrong : ((text : List ℕ) × Holds folder scenario text × IsFirstWrong text line) ⊎ ((line ≡ 0) × IsLonger folder scenario 4194304)

-- ---- how a command ends

-- the command is done, and this is what it prints
abbrev pub IsDone : List (List ℕ) → Option Folder → List ℕ → Type 0
IsDone words folder printed = (IsAcceptedByCheck words folder × (printed ≡ accepted_line)) ⊎ IsRun words folder printed

-- the words are `sim`, and the file of this name is the scenario, after a script that is accepted
pub record IsScenarioOf (words : List (List ℕ)) (folder : Option Folder) (name : List ℕ) : Type 0 where
  pub file : List ℕ
  pub words_are : words ≡ sim_words file name
  pub script : Script
  pub accepted : ReadsScript folder file script

-- the file of this name is to be read: it is the script's, or the scenario's after a script that is accepted
abbrev pub IsToRead : List (List ℕ) → Option Folder → List ℕ → Type 0
IsToRead words folder name = NamesScript words name ⊎ IsScenarioOf words folder name

-- the file of this name was to be read, and was not: its count of faults rose
pub record IsUnread (words : List (List ℕ)) (folder : Option Folder) (old_faults new_faults : List ℕ → ℕ) (name : List ℕ) : Type 0 where
  pub is_to_read : IsToRead words folder name
  pub rose : Rises (old_faults name) (new_faults name)

abbrev pub IsEnding : List (List ℕ) → Option Folder → (List ℕ → ℕ) → (List ℕ → ℕ) → Ending → Type 0
IsEnding words folder old_faults new_faults outcome.Accepted = IsAcceptedByCheck words folder
IsEnding words folder old_faults new_faults (outcome.Ran text) = IsRun words folder text.items
IsEnding words folder old_faults new_faults outcome.Usage = IsNoCommand words
IsEnding words folder old_faults new_faults (outcome.Refused kind at) = IsRefusedByCommand words folder kind at
IsEnding words folder old_faults new_faults (outcome.WrongLine line) = IsWrongLine words folder line
IsEnding words folder old_faults new_faults (outcome.Unread name) = IsUnread words folder old_faults new_faults name.now

abbrev pub status_of : Ending → ℕ
status_of outcome.Accepted = 0
status_of (outcome.Ran text) = 0
status_of outcome.Usage = 1
status_of (outcome.Refused kind at) = 2
status_of (outcome.WrongLine line) = 3
status_of (outcome.Unread name) = 4

abbrev pub text_of : Ending → List ℕ
text_of outcome.Accepted = accepted_line
text_of (outcome.Ran text) = text.items
text_of outcome.Usage = usage_line
text_of (outcome.Refused kind at) = refused_line kind at
text_of (outcome.WrongLine line) = wrong_line line
text_of (outcome.Unread name) = unread_line name.now

-- nothing was printed, and the console's count of faults rose
pub record Fails (old new : Option (List ℕ)) (old_faults new_faults status : ℕ) : Type 0 where
  pub is : status ≡ 5
  pub rose : Rises old_faults new_faults
  pub nothing : Grows old new []

-- the line of out of memory was printed; or nothing was, and the console's count of shortages rose
abbrev pub PrintsMemory : Option (List ℕ) → Option (List ℕ) → ℕ → ℕ → Type 0
PrintsMemory old new old_shortages new_shortages =
    Grows old new memory_line ⊎ (Rises old_shortages new_shortages × Grows old new [])

-- it was out of memory
pub record RunsOut (old new : Option (List ℕ)) (old_shortages new_shortages status : ℕ) : Type 0 where
  pub is : status ≡ 8
  pub line : PrintsMemory old new old_shortages new_shortages

-- this text was printed with this status, unless the console failed or it was out of memory
abbrev pub IsPrinted : ℕ → List ℕ → Option (List ℕ) → Option (List ℕ) → ℕ → ℕ → ℕ → ℕ → ℕ → Type 0
IsPrinted meant text old new old_faults new_faults old_shortages new_shortages status =
    ((status ≡ meant) × Grows old new text) ⊎ (Fails old new old_faults new_faults status ⊎ RunsOut old new old_shortages new_shortages status)

-- the command ended in one of the ways, and that was printed
pub record IsReported (words : List (List ℕ)) (folder : Option Folder) (old_files new_files : List ℕ → ℕ) (old new : Option (List ℕ)) (status : ℕ) : Type 0 where
  pub ending : Ending
  pub ends : IsEnding words folder old_files new_files ending
  pub status_is : status ≡ status_of ending
  pub text : Grows old new (text_of ending)

-- how a command may end: so, or the console failed, or it was out of memory
abbrev pub IsEnd : List (List ℕ) → Option Folder → (List ℕ → ℕ) → (List ℕ → ℕ) → Option (List ℕ) → Option (List ℕ) → ℕ → ℕ → ℕ → ℕ → ℕ → Type 0
IsEnd words folder old_files new_files old new old_faults new_faults old_shortages new_shortages status =
    IsReported words folder old_files new_files old new status
    ⊎ (Fails old new old_faults new_faults status ⊎ RunsOut old new old_shortages new_shortages status)

-- each status that there is
abbrev pub IsStatus : ℕ → Type 0
IsStatus status =
    (status ≡ 0) ⊎ ((status ≡ 1) ⊎ ((status ≡ 2) ⊎ ((status ≡ 3) ⊎ ((status ≡ 4) ⊎ ((status ≡ 5) ⊎ (status ≡ 8))))))

-- no file's count of faults rose
abbrev pub IsCalm : (List ℕ → ℕ) → (List ℕ → ℕ) → Type 0
IsCalm old_files new_files = (name : List ℕ) → ¬ Rises (old_files name) (new_files name)

-- the status, where no count of faults rose: the one that is meant, or the one of out of memory
abbrev pub Gives : ℕ → (List ℕ → ℕ) → (List ℕ → ℕ) → ℕ → ℕ → ℕ → Type 0
Gives meant old_files new_files old_faults new_faults status =
    IsCalm old_files new_files → ¬ Rises old_faults new_faults → (status ≡ meant) ⊎ (status ≡ 8)

-- the folder is told, and this name holds these bytes, which are no more than the limit
pub record Tells (folder : Option Folder) (name : List ℕ) (limit : ℕ) (text : List ℕ) : Type 0 where
  pub files : Folder
  pub told : folder ≡ Some files
  pub held : files name ≡ Some text
  pub short : length text ≤ limit

-- the words are `check`, and the file is told to hold a text that is accepted
pub record IsToAccept (words : List (List ℕ)) (folder : Option Folder) : Type 0 where
  pub file : List ℕ
  pub words_are : words ≡ check_words file
  pub text : List ℕ
  pub held : Tells folder file 1048576 text
  pub script : Script
  pub accepted : AcceptsText text script

-- the file of the script is told to hold a text that is refused with this kind at this place
pub record IsToRefuse (words : List (List ℕ)) (folder : Option Folder) (kind : ℕ) (at : Place) : Type 0 where
  pub file : List ℕ
  pub names : NamesScript words file
  pub text : List ℕ
  pub held : Tells folder file 1048576 text
  pub refused : RefusesText text kind at

-- the file of the script is told to be longer than 1 MiB
pub record IsTooLong (words : List (List ℕ)) (folder : Option Folder) : Type 0 where
  pub file : List ℕ
  pub names : NamesScript words file
  pub files : Folder
  pub told : folder ≡ Some files
  pub text : List ℕ
  pub held : files file ≡ Some text
  pub long : 1048576 < length text

-- printed was a refusal of this kind, which, unless it is Syntax, begins at this byte
abbrev pub PrintsRefusal : ℕ → Place → Option (List ℕ) → Option (List ℕ) → Type 0
PrintsRefusal kind at old new = (p : Place) × (kind ≢ refusal_number Syntax → p.from ≡ at.from) × Grows old new (refused_line kind p)

-- the words are `sim`, and the file of the script is told to hold a text that is accepted
pub record IsToRun (words : List (List ℕ)) (folder : Option Folder) (scenario : List ℕ) : Type 0 where
  pub file : List ℕ
  pub words_are : words ≡ sim_words file scenario
  pub text : List ℕ
  pub held : Tells folder file 1048576 text
  pub script : Script
  pub accepted : AcceptsText text script

-- besides, the scenario reads
pub record IsReady (words : List (List ℕ)) (folder : Option Folder) : Type 0 where
  pub scenario : List ℕ
  pub run : IsToRun words folder scenario
  pub lines : List ℕ
  pub told : Tells folder scenario 4194304 lines
  pub said : Contents
  pub reads : IsScenario lines said

-- or this line of the scenario is the first malformed one
pub record IsMalformedScenario (words : List (List ℕ)) (folder : Option Folder) (line : ℕ) : Type 0 where
  pub scenario : List ℕ
  pub run : IsToRun words folder scenario
  pub lines : List ℕ
  pub told : Tells folder scenario 4194304 lines
  pub wrong : IsFirstWrong lines line
