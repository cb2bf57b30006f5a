-- Of which claims an Opener, a pass and a note are, and what each has seen and done.
use Rattle.std.specs.Prelude.{◌≡◌, ℕ, ◌+◌, ◌<◌}
use Rattle.atomic_table.specs.Seated.{TableId}
use Rattle.claim_words.specs.declared.view.Clerk.{Clerk}
use Rattle.claim_words.specs.declared.claims.Claims.{Claims}
use Rattle.claim_words.specs.declared.claims.Opener.{Opener}
use Rattle.claim_words.specs.declared.claims.ClaimPass.{ClaimPass}
use Rattle.claim_words.specs.declared.claims.ClaimNote.{ClaimNote}
use Rattle.claim_words.specs.Claims.{IsDesk, desk}

-- a name that no other claims have
abbrev pub id_of : Claims → TableId
id_of claims = claims.table.shared.table_id

abbrev pub slots_of : Claims → ℕ
slots_of claims = claims.table.shared.key.0

abbrev pub workers_of : Claims → ℕ
workers_of claims = claims.table.shared.key.1

-- what an Opener, a pass and a note have seen and done
abbrev pub opener_clerk : Opener → Clerk
opener_clerk opener = opener.seat.me.0

abbrev pub pass_clerk : ClaimPass → Clerk
pass_clerk pass = pass.seat.me.0

abbrev pub note_clerk : ClaimNote → Clerk
note_clerk note = note.seat.me.0

-- the Opener of one of their slots
abbrev pub IsOpenerOf : Claims → Opener → Type 0
IsOpenerOf claims opener = IsDesk (id_of claims) (workers_of claims + opener.slot) opener.seat × (opener.slot < slots_of claims)

-- one of their passes
abbrev pub IsClaimPassOf : Claims → ClaimPass → Type 0
IsClaimPassOf claims pass = IsDesk (id_of claims) pass.number pass.seat

abbrev pub IsNoteOf : Claims → ClaimNote → Type 0
IsNoteOf claims note = note.seat.table_id ≡ id_of claims

-- the Opener of slot k, before it opened anything
abbrev pub IsNewOpener : Claims → ℕ → Opener → Type 0
IsNewOpener claims k opener = IsOpenerOf claims opener × (opener.slot ≡ k) × (opener.last ≡ 0) × (opener_clerk opener ≡ desk (workers_of claims + k) k)

-- the pass of worker i, before it claimed anything
abbrev pub IsNewPass : Claims → ℕ → ClaimPass → Type 0
IsNewPass claims i pass = IsClaimPassOf claims pass × (pass.number ≡ i) × (pass_clerk pass ≡ desk i 0)
