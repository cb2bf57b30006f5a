-- What t_relay comes to before its first block.
use Rattle.std.proofs.Common.{◌≡◌, ◌<◌, refl, sym, ap, ◌∙◌, subst, arith, ℕ, zero, suc, ◌*◌, ◌-◌, Bool, true, false, not, ◌||◌, List, length, Option, Some, None}
use Rattle.std.specs.Prelude.{ℤ, pos, negsuc, unwrap_or, if◌then◌else◌}
use Rattle.dialogue.specs.Course.{Ends, Asks, Takes}
use Rattle.pv_values.specs.declared.run.HostAnswer.{HostAnswer}
use Rattle.pv_values.specs.declared.run.HostAnswer.TheVariants as told
use Rattle.pv_table.specs.declared.facts.Facts.{Facts}
use Rattle.pv_table.specs.declared.facts.RunData.{RunData}
use Rattle.host_meaning.specs.declared.ask.Heard.TheVariants as heard
use Rattle.host_meaning.specs.Run.{Received, Around, RunState, RowCourse, RowEnd, Tells, Lacks, code}
use Rattle.host_meaning.specs.Responses.{is_undecided, is_ack}
use Rattle.host_meaning.specs.Transactions.{is_cancel}
use Rattle.host_meaning.specs.Relaying.{relay_called, relay_request, relay_ack, t_relay, relayed, takes_blocks, blocks_wanted, has_no_hop, has_destination, makes_too_many, fits_first}
use Rattle.transaction_functions.specs.declared.relaying.Relaying.TheVariants.{Wants}
use Rattle.transaction_functions.specs.Relaying.{IsRelaying, run_with}
use Rattle.script_host.specs.declared.row.Going.{Going}
use Rattle.script_host.specs.declared.row.Going.TheVariants as going
use Rattle.script_host.specs.Lending.{state_of}
use Rattle.script_host.specs.Rows.{IsGoing}

pub positive : (n : ℕ) → (n ≡ 0 → ⊥) → n ≡ suc (n - 1)
positive zero p = absurd (p refl)
positive (suc n) p = omega arith

-- ---- which part of it

pub of_ack : (a : Around) (r : Received) (s : RunState) → is_ack r ≡ true → t_relay a r s ≡ relay_ack a r (relay_called s)
of_ack a r s e = rw e refl

pub of_request : (a : Around) (r : Received) (s : RunState) → is_ack r ≡ false → is_cancel r ≡ false → t_relay a r s ≡ relay_request a r (relay_called s)
of_request a r s e f = rw (e, f) refl

-- one that comes to a code
pub coded : (a : Around) (course : RowCourse) (n : ℤ) {m : ℤ} (g : Going) → m ≡ n → g ≡ going.Tells (told.Code m) → (d : RunData) → course ≡ code n (state_of d) →
    IsGoing a course g d
coded a course n g same is d p = subst (λ x. IsGoing a course x d) (sym is) (p ∙ ap (λ k. code k (state_of d)) (sym same))

-- ---- where it wants blocks, the call is noted and nothing else is changed

-- the facts that it has where its first ask finds no memory; of a code below 0 these, of another one none
abbrev of_code : Facts → ℤ → Option Facts
of_code d (pos n) = None
of_code d (negsuc n) = Some d

abbrev of_answer : Facts → HostAnswer → Option Facts
of_answer d (told.Code n) = of_code d n
of_answer d x = Some d

abbrev of_end : Facts → RowEnd → Option Facts
of_end d (Tells x s) = of_answer d x
of_end d (Lacks s) = Some s.facts

abbrev of_lack : Facts → RowCourse → Option Facts
of_lack d (Ends end) = of_end d end
of_lack d (Asks ask next) = Some d
of_lack d (Takes short on) = Some d

abbrev of_course : Facts → RowCourse → Option Facts
of_course d (Ends end) = of_end d end
of_course d (Asks ask next) = of_lack d (next heard.NoMemory)
of_course d (Takes short on) = Some d

either : (d : Facts) (b : Bool) (x y : RowCourse) → of_course d x ≡ Some d → of_course d y ≡ Some d → of_course d (if b then x else y) ≡ Some d
either d true x y p q = p
either d false x y p q = q

takes_some : (n : ℕ) (s : RunState) (after : RunState → RowCourse) → 0 < n → of_course s.facts (takes_blocks n 0 s after) ≡ Some s.facts
takes_some zero s after p = absurd (omega (arith, p))
takes_some (suc n) s after p = refl

wants_some : (f : Facts) → 0 < blocks_wanted f
wants_some f = let e : 0 < 2 * suc (length f.targets) = omega arith in e

request_lacks : (a : Around) (r : Received) (s : RunState) → of_course s.facts (relay_request a r s) ≡ Some s.facts
request_lacks a r s =
    either s.facts (not (is_undecided s.facts.outcome) || s.facts.standing.is_answered || s.facts.standing.is_suspended) _ _ refl
    (either s.facts s.facts.standing.is_cancelled _ _ refl
    (either s.facts (has_no_hop r.message.max_forwards) _ _ refl
    (either s.facts (not (has_destination a s.facts) || makes_too_many s.facts) _ _ refl
    (either s.facts (not (fits_first a r s.facts)) _ _ refl
    (takes_some (blocks_wanted s.facts) s (λ t. code (pos 1) (relayed r t)) (wants_some s.facts))))))

by_count : (n : ℕ) (r : Received) (d new : Facts) → of_course d (takes_blocks n 0 (run_with new 0) (λ s. code (pos 1) (relayed r s))) ≡ Some d → new ≡ d
by_count zero r d new e = absurd (cc)
by_count (suc n) r d new e = ap (λ (o : Option Facts). unwrap_or o d) e

pub wants_noted : (a : Around) (r : Received) (old new : Facts) (n : ℕ) → IsRelaying a r old (Wants n) new → new ≡ record old { has_called_relay = true }
wants_noted a r old new n p =
    let d : Facts = record old { has_called_relay = true } in
    by_count n r d new (sym (ap (of_course d) (p 0)) ∙ request_lacks a r (relay_called (run_with old 0)))
