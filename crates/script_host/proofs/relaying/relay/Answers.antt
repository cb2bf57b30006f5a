use Rattle.std.proofs.Common.{rules, ◌≡◌, refl, sym, ap, ◌∙◌, subst, length, w64}
use Rattle.std.proofs.lemmas.Int.{to_z-of_z}
use mir.Val.{SFits}
use Rattle.pv_table.specs.declared.facts.Facts.{Facts}
use Rattle.host_meaning.specs.Run.{received}
use Rattle.host_meaning.specs.Relaying.{t_relay, takes_blocks}
use Rattle.transaction_functions.specs.Relaying.{IsRelaying}
use Rattle.script_host.specs.Lending.{around_of, state_of}
use Rattle.script_host.specs.Rows.{IsGoing, relayed_over, with_blocks}
use Rattle.script_host.proofs.Wanted.{of_ack, of_request, coded, wants_noted}
use Rattle.script_host.proofs.relaying.relay.Goals as goal

pub returns-then-is_ack-clause-row : goal.returns-then-is_ack-clause-row
returns-then-is_ack-clause-row c = λ other.
    let a = around_of c.args.lent.now in
    let r = received c.args.message.bytes.now c.args.message.message.now in
    let n = c.in_ok-code.code in
    let fits : SFits w64 n = search rules in
    coded a (t_relay a r (state_of c.args.state.now)) n c.code.result (to_z-of_z w64 n fits) c.code.ensures (record c.args.state.now { facts = c.relay_ack.new.facts })
    (of_ack a r (state_of c.args.state.now) (sym c.is_ack.ensures ∙ c.if-is_ack.true) ∙ c.in_ok-code.ensures.ok a refl (length c.args.state.now.blocks.items))

pub returns-in-Code-clause-row : goal.returns-in-Code-clause-row
returns-in-Code-clause-row c = λ other.
    let a = around_of c.args.lent.now in
    let r = received c.args.message.bytes.now c.args.message.message.now in
    let n = c.in-Code.code in
    let fits : SFits w64 n = search rules in
    coded a (t_relay a r (state_of c.args.state.now)) n c.code-in-Code.result (to_z-of_z w64 n fits) c.code-in-Code.ensures
    (record c.args.state.now { facts = c.relay_request.new.facts })
    (of_request a r (state_of c.args.state.now) (sym c.is_ack.ensures ∙ c.if-is_ack.false) other
    ∙ subst (λ w. IsRelaying a r c.args.state.now.facts w c.relay_request.new.facts) c.in-Code.is (c.in_ok-code-2.ensures.ok a refl) (length c.args.state.now.blocks.items))

pub returns-in-Some-clause-row : goal.returns-in-Some-clause-row
returns-in-Some-clause-row c = λ other.
    let a = around_of c.args.lent.now in
    let r = received c.args.message.bytes.now c.args.message.message.now in
    subst (λ course. IsGoing a course c.in-Some.going (record c.args.state.now { facts = c.relay_request.new.facts }))
    (sym (of_request a r (state_of c.args.state.now) (sym c.is_ack.ensures ∙ c.if-is_ack.false) other
    ∙ subst (λ w. IsRelaying a r c.args.state.now.facts w c.relay_request.new.facts) c.in-Wants.is (c.in_ok-code-2.ensures.ok a refl) (length c.args.state.now.blocks.items)))
    (subst (λ o. IsGoing a (takes_blocks c.in-Wants.blocks 0 (state_of (record c.args.state.now { facts = c.relay_request.new.facts })) (relayed_over o)) c.in-Some.going
    (record c.args.state.now { facts = c.relay_request.new.facts })) c.requires.lent (c.in-Some.ensures.row a))

pub returns-in-None-clause-err : goal.returns-in-None-clause-err
returns-in-None-clause-err c =
    let a = around_of c.args.lent.now in
    let r = received c.args.message.bytes.now c.args.message.message.now in
    ap (λ (f : Facts). with_blocks (record f { has_called_relay = c.args.state.now.facts.has_called_relay }) (length c.args.state.now.blocks.items))
    (wants_noted a r c.args.state.now.facts c.relay_request.new.facts c.in-Wants.blocks
    (subst (λ w. IsRelaying a r c.args.state.now.facts w c.relay_request.new.facts) c.in-Wants.is (c.in_ok-code-2.ensures.ok a refl)))
