-- Digits write one list of bytes.
use Rattle.std.proofs.Common.{◌≡◌, ◌++◌, ◌∙◌, [], List, ℕ, Ok, sym, subst, append-nil}
use Rattle.sim_text.specs.Draft.{so_far}
use Rattle.sim_text.specs.Scenario.{GoesOn}
use Rattle.sim_text.proofs.draft.Draft.extend_by_hex.Goals as goal

pub returns-in-Ok-clause-malformed : goal.returns-in-Ok-clause-malformed
returns-in-Ok-clause-malformed c = λ is new h.
    let both : Ok h.0 ≡ Ok c.in-Ok.bytes.items = sym h.1 ∙ c.in-Ok.ensures.ok in
    let bytes : h.0 ≡ c.in-Ok.bytes.items = cc in
    let same : h.0 ≡ c.as_slice.result.now ++ [] = bytes ∙ sym c.as_slice.ensures.value ∙ sym (append-nil c.as_slice.result.now) in
    let P : List ℕ → Type 0 = λ bytes. GoesOn (so_far c.args.self.now) bytes new in
    c.extend.ensures.malformed is new (subst P same h.2)
