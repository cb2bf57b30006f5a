use Rattle.std.proofs.Common.{rules, refl, sym, ap, ◌∙◌, w64}
use Rattle.std.proofs.lemmas.Int.{to_z-of_z}
use mir.Val.{SFits}
use Rattle.pv_values.specs.declared.function.Func.TheVariants as func
use Rattle.host_meaning.specs.Run.{received, around}
use Rattle.host_meaning.specs.Routing.{loose_route}
use Rattle.cfg_code.specs.Flat.{FlatScript}
use Rattle.script_host.specs.Lending.{around_of}
use Rattle.script_host.specs.Rows.{with_blocks}
use Rattle.script_host.proofs.Called.{over_as, coded_as}
use Rattle.script_host.proofs.calls.call_over.Goals as goal

pub returns-in-HasTotag-clause-row : goal.returns-in-HasTotag-clause-row
returns-in-HasTotag-clause-row c =
    let fits : SFits w64 c.has_totag.result = search rules in
    coded_as (around_of c.args.lent.now) (received c.args.message.bytes.now c.args.message.message.now) c.args.function.now func.HasTotag c.args.values.now c.has_totag.result (to_z-of_z w64 c.has_totag.result fits) c.code-in-HasTotag.ensures c.args.facts.now c.args.facts.now c.in-HasTotag.is
    (λ blocks. c.has_totag.ensures c.args.message.bytes.now (with_blocks c.args.facts.now blocks))

pub returns-in-MfProcessMaxfwdHeader-clause-row : goal.returns-in-MfProcessMaxfwdHeader-clause-row
returns-in-MfProcessMaxfwdHeader-clause-row c =
    let fits : SFits w64 c.mf_process_maxfwd_header.result = search rules in
    coded_as (around_of c.args.lent.now) (received c.args.message.bytes.now c.args.message.message.now) c.args.function.now (func.MfProcessMaxfwdHeader c.in-MfProcessMaxfwdHeader.n) c.args.values.now c.mf_process_maxfwd_header.result (to_z-of_z w64 c.mf_process_maxfwd_header.result fits) c.code-in-MfProcessMaxfwdHeader.ensures c.args.facts.now c.mf_process_maxfwd_header.new.facts c.in-MfProcessMaxfwdHeader.is
    (c.mf_process_maxfwd_header.ensures c.args.message.bytes.now)

pub returns-in_ok-record_route-in-RecordRoute-clause-row : goal.returns-in_ok-record_route-in-RecordRoute-clause-row
returns-in_ok-record_route-in-RecordRoute-clause-row c =
    let code = c.in_ok-record_route-in-RecordRoute.field-0 in
    let fits : SFits w64 code = search rules in
    coded_as (around_of c.args.lent.now) (received c.args.message.bytes.now c.args.message.message.now) c.args.function.now func.RecordRoute c.args.values.now code (to_z-of_z w64 code fits) c.code-in-RecordRoute.ensures c.args.facts.now c.record_route.new.facts c.in-RecordRoute.is
    (c.in_ok-record_route-in-RecordRoute.ensures.ok (around_of c.args.lent.now) c.args.message.bytes.now refl)

pub returns-in_ok-code-in-LooseRoute-clause-row : goal.returns-in_ok-code-in-LooseRoute-clause-row
returns-in_ok-code-in-LooseRoute-clause-row c =
    let fits : SFits w64 c.in_ok-code-in-LooseRoute.code = search rules in
    coded_as (around_of c.args.lent.now) (received c.args.message.bytes.now c.args.message.message.now) c.args.function.now func.LooseRoute c.args.values.now c.in_ok-code-in-LooseRoute.code (to_z-of_z w64 c.in_ok-code-in-LooseRoute.code fits) c.code-in-LooseRoute.ensures c.args.facts.now c.loose_route.new.facts c.in-LooseRoute.is
    (λ blocks. ap (λ p. loose_route (around p (around_of c.args.lent.now).patterns c.args.lent.now.settings.now (around_of c.args.lent.now).received) (received c.args.message.bytes.now c.args.message.message.now) (with_blocks c.args.facts.now blocks)) (ap (λ (l : FlatScript). l.parameters) (sym c.loaded.view_is)) ∙ c.in_ok-code-in-LooseRoute.ensures.ok (around_of c.args.lent.now).patterns blocks)

pub returns-in-ShtRmNameRe-clause-row : goal.returns-in-ShtRmNameRe-clause-row
returns-in-ShtRmNameRe-clause-row c =
    over_as (around_of c.args.lent.now) (received c.args.message.bytes.now c.args.message.message.now) c.args.function.now (func.ShtRmNameRe c.in-ShtRmNameRe.table c.in-ShtRmNameRe.pattern) c.args.values.now c.counted.result c.args.facts.now c.args.facts.now c.in-ShtRmNameRe.is (c.counted.ensures c.args.facts.now)

pub returns-in-ShtReset-clause-row : goal.returns-in-ShtReset-clause-row
returns-in-ShtReset-clause-row c =
    over_as (around_of c.args.lent.now) (received c.args.message.bytes.now c.args.message.message.now) c.args.function.now (func.ShtReset c.in-ShtReset.table) c.args.values.now c.counted-in-ShtReset.result c.args.facts.now c.args.facts.now c.in-ShtReset.is (c.counted-in-ShtReset.ensures c.args.facts.now)
