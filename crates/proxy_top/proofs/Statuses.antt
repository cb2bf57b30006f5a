-- What each status of a command says, from how the command ended.
use Rattle.std.proofs.Common.{◌≡◌, ℕ, ◌<◌, ◌⊎◌, inl, inr, [], List, Option, refl, arith}
use Rattle.outside_ports.specs.Counts.{Rises}
use Rattle.outside_ports.specs.Told.{Grows}
use Rattle.outside_ports.specs.Files.{Folder}
use Rattle.pv_values.specs.declared.refusal.Place.{Place}
use Rattle.proxy_top.specs.declared.top.Ending.{Ending}
use Rattle.proxy_top.specs.declared.top.Ending.TheVariants as outcome
use Rattle.proxy_top.specs.Commands.{IsNoCommand}
use Rattle.proxy_top.specs.Endings.{NamesScript, IsEnding, IsDone, IsRefusedByCommand, IsWrongLine, IsToRead, IsUnread, IsReported, IsEnd, IsStatus, Gives, status_of, text_of, accepted_line, usage_line, refused_line, wrong_line, unread_line, PrintsMemory}

-- below 5 the status is that of an ending
reported : (words : List (List ℕ)) (folder : Option Folder) (f g : List ℕ → ℕ) (old new : Option (List ℕ)) (c d s t status : ℕ) → IsEnd words folder f g old new c d s t status → status < 5 → IsReported words folder f g old new status
reported words folder f g old new c d s t status (inl r) low = r
reported words folder f g old new c d s t status (inr (inl h)) low = absurd (omega (arith, h.is, low))
reported words folder f g old new c d s t status (inr (inr h)) low = absurd (omega (arith, h.is, low))

done_in : (words : List (List ℕ)) (folder : Option Folder) (f g : List ℕ → ℕ) (old new : Option (List ℕ)) (status : ℕ) (ending : Ending)
    → status ≡ status_of ending → IsEnding words folder f g ending → Grows old new (text_of ending) → status ≡ 0 → (text : List ℕ) × IsDone words folder text × Grows old new text
done_in words folder f g old new status outcome.Accepted is ends text e = (accepted_line, inl (ends, refl), text)
done_in words folder f g old new status (outcome.Ran trace) is ends text e = (trace.items, inr ends, text)
done_in words folder f g old new status outcome.Usage is ends text e = absurd (omega (arith, is, e))
done_in words folder f g old new status (outcome.Refused kind at) is ends text e = absurd (omega (arith, is, e))
done_in words folder f g old new status (outcome.WrongLine line) is ends text e = absurd (omega (arith, is, e))
done_in words folder f g old new status (outcome.Unread name) is ends text e = absurd (omega (arith, is, e))

pub done : (words : List (List ℕ)) (folder : Option Folder) (f g : List ℕ → ℕ) (old new : Option (List ℕ)) (c d s t status : ℕ) → IsEnd words folder f g old new c d s t status → status ≡ 0
    → (text : List ℕ) × IsDone words folder text × Grows old new text
done words folder f g old new c d s t status h e =
    let r = reported words folder f g old new c d s t status h (omega (arith, e)) in done_in words folder f g old new status r.ending r.status_is r.ends r.text e

usage_in : (words : List (List ℕ)) (folder : Option Folder) (f g : List ℕ → ℕ) (old new : Option (List ℕ)) (status : ℕ) (ending : Ending)
    → status ≡ status_of ending → IsEnding words folder f g ending → Grows old new (text_of ending) → status ≡ 1 → IsNoCommand words × Grows old new usage_line
usage_in words folder f g old new status outcome.Accepted is ends text e = absurd (omega (arith, is, e))
usage_in words folder f g old new status (outcome.Ran trace) is ends text e = absurd (omega (arith, is, e))
usage_in words folder f g old new status outcome.Usage is ends text e = (ends, text)
usage_in words folder f g old new status (outcome.Refused kind at) is ends text e = absurd (omega (arith, is, e))
usage_in words folder f g old new status (outcome.WrongLine line) is ends text e = absurd (omega (arith, is, e))
usage_in words folder f g old new status (outcome.Unread name) is ends text e = absurd (omega (arith, is, e))

pub usage : (words : List (List ℕ)) (folder : Option Folder) (f g : List ℕ → ℕ) (old new : Option (List ℕ)) (c d s t status : ℕ) → IsEnd words folder f g old new c d s t status → status ≡ 1
    → IsNoCommand words × Grows old new usage_line
usage words folder f g old new c d s t status h e =
    let r = reported words folder f g old new c d s t status h (omega (arith, e)) in usage_in words folder f g old new status r.ending r.status_is r.ends r.text e

refused_in : (words : List (List ℕ)) (folder : Option Folder) (f g : List ℕ → ℕ) (old new : Option (List ℕ)) (status : ℕ) (ending : Ending)
    → status ≡ status_of ending → IsEnding words folder f g ending → Grows old new (text_of ending) → status ≡ 2 → (kind : ℕ) × (at : Place) × IsRefusedByCommand words folder kind at × Grows old new (refused_line kind at)
refused_in words folder f g old new status outcome.Accepted is ends text e = absurd (omega (arith, is, e))
refused_in words folder f g old new status (outcome.Ran trace) is ends text e = absurd (omega (arith, is, e))
refused_in words folder f g old new status outcome.Usage is ends text e = absurd (omega (arith, is, e))
refused_in words folder f g old new status (outcome.Refused kind at) is ends text e = (kind, at, ends, text)
refused_in words folder f g old new status (outcome.WrongLine line) is ends text e = absurd (omega (arith, is, e))
refused_in words folder f g old new status (outcome.Unread name) is ends text e = absurd (omega (arith, is, e))

pub refused : (words : List (List ℕ)) (folder : Option Folder) (f g : List ℕ → ℕ) (old new : Option (List ℕ)) (c d s t status : ℕ) → IsEnd words folder f g old new c d s t status → status ≡ 2
    → (kind : ℕ) × (at : Place) × IsRefusedByCommand words folder kind at × Grows old new (refused_line kind at)
refused words folder f g old new c d s t status h e =
    let r = reported words folder f g old new c d s t status h (omega (arith, e)) in refused_in words folder f g old new status r.ending r.status_is r.ends r.text e

wrong_line_in : (words : List (List ℕ)) (folder : Option Folder) (f g : List ℕ → ℕ) (old new : Option (List ℕ)) (status : ℕ) (ending : Ending)
    → status ≡ status_of ending → IsEnding words folder f g ending → Grows old new (text_of ending) → status ≡ 3 → (line : ℕ) × IsWrongLine words folder line × Grows old new (wrong_line line)
wrong_line_in words folder f g old new status outcome.Accepted is ends text e = absurd (omega (arith, is, e))
wrong_line_in words folder f g old new status (outcome.Ran trace) is ends text e = absurd (omega (arith, is, e))
wrong_line_in words folder f g old new status outcome.Usage is ends text e = absurd (omega (arith, is, e))
wrong_line_in words folder f g old new status (outcome.Refused kind at) is ends text e = absurd (omega (arith, is, e))
wrong_line_in words folder f g old new status (outcome.WrongLine line) is ends text e = (line, ends, text)
wrong_line_in words folder f g old new status (outcome.Unread name) is ends text e = absurd (omega (arith, is, e))

pub in_wrong_line : (words : List (List ℕ)) (folder : Option Folder) (f g : List ℕ → ℕ) (old new : Option (List ℕ)) (c d s t status : ℕ) → IsEnd words folder f g old new c d s t status → status ≡ 3
    → (line : ℕ) × IsWrongLine words folder line × Grows old new (wrong_line line)
in_wrong_line words folder f g old new c d s t status h e =
    let r = reported words folder f g old new c d s t status h (omega (arith, e)) in wrong_line_in words folder f g old new status r.ending r.status_is r.ends r.text e

unread_in : (words : List (List ℕ)) (folder : Option Folder) (f g : List ℕ → ℕ) (old new : Option (List ℕ)) (status : ℕ) (ending : Ending)
    → status ≡ status_of ending → IsEnding words folder f g ending → Grows old new (text_of ending) → status ≡ 4 → (name : List ℕ) × IsUnread words folder f g name × Grows old new (unread_line name)
unread_in words folder f g old new status outcome.Accepted is ends text e = absurd (omega (arith, is, e))
unread_in words folder f g old new status (outcome.Ran trace) is ends text e = absurd (omega (arith, is, e))
unread_in words folder f g old new status outcome.Usage is ends text e = absurd (omega (arith, is, e))
unread_in words folder f g old new status (outcome.Refused kind at) is ends text e = absurd (omega (arith, is, e))
unread_in words folder f g old new status (outcome.WrongLine line) is ends text e = absurd (omega (arith, is, e))
unread_in words folder f g old new status (outcome.Unread name) is ends text e = (name.now, ends, text)

pub unread : (words : List (List ℕ)) (folder : Option Folder) (f g : List ℕ → ℕ) (old new : Option (List ℕ)) (c d s t status : ℕ) → IsEnd words folder f g old new c d s t status → status ≡ 4
    → (name : List ℕ) × IsUnread words folder f g name × Grows old new (unread_line name)
unread words folder f g old new c d s t status h e =
    let r = reported words folder f g old new c d s t status h (omega (arith, e)) in unread_in words folder f g old new status r.ending r.status_is r.ends r.text e

below_five : (ending : Ending) → status_of ending < 5
below_five outcome.Accepted = omega arith
below_five (outcome.Ran trace) = omega arith
below_five outcome.Usage = omega arith
below_five (outcome.Refused kind at) = omega arith
below_five (outcome.WrongLine line) = omega arith
below_five (outcome.Unread name) = omega arith

pub failed : (words : List (List ℕ)) (folder : Option Folder) (f g : List ℕ → ℕ) (old new : Option (List ℕ)) (c d s t status : ℕ) → IsEnd words folder f g old new c d s t status → status ≡ 5 → Rises c d × Grows old new []
failed words folder f g old new c d s t status (inl r) e = absurd (omega (arith, below_five r.ending, r.status_is, e))
failed words folder f g old new c d s t status (inr (inl h)) e = (h.rose, h.nothing)
failed words folder f g old new c d s t status (inr (inr h)) e = absurd (omega (arith, h.is, e))

pub memory : (words : List (List ℕ)) (folder : Option Folder) (f g : List ℕ → ℕ) (old new : Option (List ℕ)) (c d s t status : ℕ) → IsEnd words folder f g old new c d s t status → status ≡ 8 → PrintsMemory old new s t
memory words folder f g old new c d s t status (inl r) e = absurd (omega (arith, below_five r.ending, r.status_is, e))
memory words folder f g old new c d s t status (inr (inl h)) e = absurd (omega (arith, h.is, e))
memory words folder f g old new c d s t status (inr (inr h)) e = h.line

known_ending : (ending : Ending) (status : ℕ) → status ≡ status_of ending → IsStatus status
known_ending outcome.Accepted status h = inl h
known_ending (outcome.Ran trace) status h = inl h
known_ending outcome.Usage status h = inr (inl h)
known_ending (outcome.Refused kind at) status h = inr (inr (inl h))
known_ending (outcome.WrongLine line) status h = inr (inr (inr (inl h)))
known_ending (outcome.Unread name) status h = inr (inr (inr (inr (inl h))))

pub known : (words : List (List ℕ)) (folder : Option Folder) (f g : List ℕ → ℕ) (old new : Option (List ℕ)) (c d s t status : ℕ) → IsEnd words folder f g old new c d s t status → IsStatus status
known words folder f g old new c d s t status (inl r) = known_ending r.ending status r.status_is
known words folder f g old new c d s t status (inr (inl h)) = inr (inr (inr (inr (inr (inl h.is)))))
known words folder f g old new c d s t status (inr (inr h)) = inr (inr (inr (inr (inr (inr h.is)))))

-- words in no form name no file
none_named : (words : List (List ℕ)) (file : List ℕ) → IsNoCommand words → NamesScript words file → ⊥
none_named words file none (inl check) = none.no_check file check
none_named words file none (inr (scenario, sim)) = none.no_sim file scenario sim

none_to_read : (words : List (List ℕ)) (folder : Option Folder) (name : List ℕ) → IsNoCommand words → IsToRead words folder name → ⊥
none_to_read words folder name none (inl (inl check)) = none.no_check name check
none_to_read words folder name none (inl (inr (scenario, sim))) = none.no_sim name scenario sim
none_to_read words folder name none (inr sim) = none.no_sim sim.file name sim.words_are

none_refused : (words : List (List ℕ)) (folder : Option Folder) (kind : ℕ) (at : Place) → IsNoCommand words → IsRefusedByCommand words folder kind at → ⊥
none_refused words folder kind at none r = none_named words r.file none r.names

no_command_in : (words : List (List ℕ)) (folder : Option Folder) (f g : List ℕ → ℕ) (status : ℕ) (ending : Ending)
    → status ≡ status_of ending → IsEnding words folder f g ending → IsNoCommand words → status ≡ 1
no_command_in words folder f g status outcome.Accepted is ends none = absurd (none.no_check ends.file ends.words_are)
no_command_in words folder f g status (outcome.Ran trace) is ends none = absurd (none.no_sim ends.file ends.scenario ends.words_are)
no_command_in words folder f g status outcome.Usage is ends none = is
no_command_in words folder f g status (outcome.Refused kind at) is ends none = absurd (none_refused words folder kind at none ends)
no_command_in words folder f g status (outcome.WrongLine line) is ends none = absurd (none.no_sim ends.file ends.scenario ends.words_are)
no_command_in words folder f g status (outcome.Unread name) is ends none = absurd (none_to_read words folder name.now none ends.is_to_read)

pub no_command : (words : List (List ℕ)) (folder : Option Folder) (f g : List ℕ → ℕ) (old new : Option (List ℕ)) (c d s t status : ℕ) → IsEnd words folder f g old new c d s t status → IsNoCommand words → Gives 1 f g c d status
no_command words folder f g old new c d s t status (inl r) none still calm = inl (no_command_in words folder f g status r.ending r.status_is r.ends none)
no_command words folder f g old new c d s t status (inr (inl h)) none still calm = absurd (calm h.rose)
no_command words folder f g old new c d s t status (inr (inr h)) none still calm = inr h.is
