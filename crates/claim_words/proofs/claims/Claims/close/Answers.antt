use Rattle.std.proofs.Common.{◌≡◌, ◌+◌, ◌<◌, ◌++◌, [], ◌∷◌, ℕ, length, arith, subst, sym, ap, ◌∙◌}
use Rattle.claim_words.specs.Claims.{AreNumbered, ClaimsClosed}
use Rattle.claim_words.proofs.Seats.{head_is, follow_rest, closes, own_whole, got_count}
use Rattle.claim_words.proofs.claims.Claims.close.Goals as goal

pub take_passes-first-requires-clause-first : goal.take_passes-first-requires-clause-first
take_passes-first-requires-clause-first c = let l = c.args.passes.ok.0 in let p = c.requires.passes.1 in
    let t = c.requires.passes.2 0 c.remove-seat.result (head_is c.args.passes.items c.remove-seat.result (omega arith) c.remove-seat.ensures.value) in
    (t, (let n = c.args.self.count in let m = c.args.self.some_slot in omega arith))

pub take_passes-first-requires-clause-others : goal.take_passes-first-requires-clause-others
take_passes-first-requires-clause-others c = let l = c.args.passes.ok.0 in let p = c.requires.passes.1 in
    let e = c.requires.fresh c.remove-seat.result (head_is c.args.passes.items c.remove-seat.result (omega arith) c.remove-seat.ensures.value) in
    follow_rest (λ p. p.seat) _ 0 _ c.args.passes.items _ (omega arith) (ap (λ z. length z + 1) (sym e)) c.remove-seat.ensures.items c.requires.passes.2

pub take_openers-first-requires-clause-first : goal.take_openers-first-requires-clause-first
take_openers-first-requires-clause-first c = (c.take_passes-first.ensures.same.0, (let n = c.args.self.count in let m = c.args.self.some_slot in omega arith))

pub take_openers-first-requires-clause-others : goal.take_openers-first-requires-clause-others
take_openers-first-requires-clause-others c = let l = c.args.passes.ok.0 in let p = c.requires.passes.1 in let q = c.requires.passes.0 in let r = c.remove-seat.ensures.len in let k = c.remove-seat.new.self.ok.0 in
    let e = ap (λ z. length z) (c.requires.fresh c.remove-seat.result (head_is c.args.passes.items c.remove-seat.result (omega arith) c.remove-seat.ensures.value)) in
    let n = got_count (λ p. p.seat) _ _ _ c.take_passes-first.ensures.own in
    subst (λ (m : ℕ). AreNumbered (λ p. p.seat) c.args.self.table.shared.table_id m c.args.openers.items) (omega arith) c.requires.openers.1

pub returns-clause-own : goal.returns-clause-own
returns-clause-own c = let l = c.args.passes.ok.0 in let p = c.requires.passes.1 in let e = c.of-last.ensures in
    own_whole (λ p. p.seat) (λ p. p.seat) c.args.passes.items _ c.args.openers.items c.remove-seat.result _ _ _ (omega arith) c.remove-seat.ensures.value c.remove-seat.ensures.items
    (c.requires.fresh c.remove-seat.result (head_is c.args.passes.items c.remove-seat.result (omega arith) c.remove-seat.ensures.value))
    (ap (λ z. z.me.0.mine) e ∙ (c.take_openers-first.ensures.same.1 ∙ c.take_passes-first.ensures.same.1)) c.take_passes-first.ensures.own (ap (λ z. z.me.0.got) e ∙ c.take_openers-first.ensures.own)

pub returns-clause-closes : goal.returns-clause-closes
returns-clause-closes c = let l = c.args.passes.ok.0 in let p = c.requires.passes.1 in let q = c.requires.passes.0 in let r = c.remove-seat.ensures.len in let k = c.remove-seat.new.self.ok.0 in
    let o = c.args.openers.ok.0 in let s = c.requires.openers.0 in
    let e = ap (λ z. length z) (c.requires.fresh c.remove-seat.result (head_is c.args.passes.items c.remove-seat.result (omega arith) c.remove-seat.ensures.value)) in
    let n = got_count (λ p. p.seat) _ _ _ c.take_passes-first.ensures.own in
    let m = got_count (λ p. p.seat) _ _ _ c.take_openers-first.ensures.own in
    let t = c.take_openers-first.ensures.same.0 in
    subst (λ v. ClaimsClosed c.args.self.table.shared.key.1 c.args.self.table.shared.key.0 v) (sym (ap (λ z. z.me.0) c.of-last.ensures))
    (closes _ c.args.self.table.shared.key _ c.take_openers-first.result.me.0 _ _ t.2 t.3 (omega arith) c.close_with-closed.ensures.values.2)
