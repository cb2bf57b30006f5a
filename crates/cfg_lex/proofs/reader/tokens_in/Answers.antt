use Rattle.std.proofs.Common.{◌≡◌, length, take, drop, ◌-◌, arith, Ok, sym, subst}
use Rattle.pv_values.specs.declared.refusal.ScriptFault.TheVariants.{Refused}
use Rattle.cfg_lex.specs.declared.shape.Found.TheVariants.{Gap, Token}
use Rattle.cfg_lex.specs.Shapes.{FitsIn}
use Rattle.cfg_lex.specs.Tokens.{place_between, longest, FaultOf, too_long}
use Rattle.cfg_lex.proofs.Reading.{Read, as_read, rest_len, seen_gap, seen_token, seen_end, seen_fault, fault_of}
use Rattle.cfg_lex.proofs.reader.tokens_in.Goals as goal

pub returns-then-text-gt-LONGEST-clause-fault : goal.returns-then-text-gt-LONGEST-clause-fault
returns-then-text-gt-LONGEST-clause-fault c =
    let text = c.args.text.now in
    subst (λ kind. FaultOf text (Refused kind (place_between longest (length text)))) (sym c.number.ensures) (too_long text c.if-text-gt-LONGEST.true)

pub returns-in-Err-clause-fault : goal.returns-in-Err-clause-fault
returns-in-Err-clause-fault c =
    let text = c.args.text.now in
    let read = as_read text c.loop-at.at c.loop-at.context _ _ c.begins_line.ensures c.in-Err.ensures.value in
    fault_of text c.refused.result (seen_fault text c.loop-at.at c.loop-at.context c.loop-at.tokens.items c.in-Err.wrong c.refused.result
    c.loop-at.invariant c.loop-at-test.true read c.refused.ensures)

pub loop-at-preserved-in-Ok-Gap : goal.loop-at-preserved-in-Ok-Gap
loop-at-preserved-in-Ok-Gap c =
    let text = c.args.text.now in
    let is : c.in-Ok-Gap.field-0 ≡ Gap c.in-Ok-Gap.len = cc in
    let first = as_read text c.loop-at.at c.loop-at.context _ _ c.begins_line.ensures c.in-Ok-Gap.ensures.value in
    let read = subst (λ f. Read text c.loop-at.at c.loop-at.context (Ok f)) is first in
    let fits = subst (λ f. FitsIn (length (take (length text - c.loop-at.at) (drop c.loop-at.at text))) f) is c.in-Ok-Gap.ensures.within in
    seen_gap text c.loop-at.at c.loop-at.context c.loop-at.tokens.items c.in-Ok-Gap.len c.loop-at.invariant c.loop-at-test.true read
    (omega (arith, fits.1, rest_len text c.loop-at.at))

pub loop-at-preserved : goal.loop-at-preserved
loop-at-preserved c =
    let text = c.args.text.now in
    let is : c.in-Ok-Token.field-0 ≡ Token c.in-Ok-Token.shape c.in-Ok-Token.len = cc in
    let first = as_read text c.loop-at.at c.loop-at.context _ _ c.begins_line.ensures c.in-Ok-Token.ensures.value in
    let read = subst (λ f. Read text c.loop-at.at c.loop-at.context (Ok f)) is first in
    let fits = subst (λ f. FitsIn (length (take (length text - c.loop-at.at) (drop c.loop-at.at text))) f) is c.in-Ok-Token.ensures.within in
    seen_token text c.loop-at.at c.loop-at.context c.behind-context.result c.loop-at.tokens.items c.push.new.self.items c.in-Ok-Token.shape
    c.in-Ok-Token.len c.in-Ok.lexeme c.loop-at.invariant c.loop-at-test.true read (omega (arith, fits.1, rest_len text c.loop-at.at))
    c.in-Ok.ensures c.behind-context.ensures c.in-Ok-push.ensures.items

pub returns-clause-found : goal.returns-clause-found
returns-clause-found c =
    let past = c.loop-at-test.false in
    seen_end c.args.text.now c.loop-at.at c.loop-at.context c.loop-at.tokens.items c.loop-at.invariant (omega (arith, past))
