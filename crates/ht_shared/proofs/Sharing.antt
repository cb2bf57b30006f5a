-- The patterns of a script may be shared among threads: none of their parts is written after they are read. The kit's `search`
-- goes down through a pattern's program by the lemmas here, one for each of its larger parts.
use denote.Param.Send.{IsSync, sendable}
use Rattle.std.proofs.Crossing.{crosses}
use Rattle.std.proofs.MapsCrossing.{String-sync}
use Rattle.regex_nfa.specs.contracts.state.State as State
use Rattle.regex_nfa.specs.contracts.nfa.Nfa as Nfa
use Rattle.regex_dfa.specs.contracts.preds.Preds as Preds
use Rattle.regex_dfa.specs.contracts.dfa.Dfa as Dfa
use Rattle.regex_hir.proofs.hir.Hir.TheLaws.TheKnot.{sync-Hir}
use Rattle.regex_literal.specs.contracts.ladder.Ladder as Ladder
use Rattle.regex_literal.specs.contracts.prefilter.Prefilter as Prefilter
use Rattle.regex_extract.specs.contracts.frames.Frame as Frame
use Rattle.regex_meta.specs.contracts.plan.Plan as Plan
use Rattle.regex_meta.specs.contracts.plan.Plans as Plans
use Rattle.regex_meta.specs.contracts.signs.Signs as Signs
use Rattle.regex_meta.specs.contracts.program.Program as Program
use Rattle.regex.specs.contracts.pattern.Pattern as Source
use Rattle.regex.specs.contracts.bytes.regex.Regex as Regex
use Rattle.pv_values.specs.contracts.pattern.Pattern as Pattern
use Rattle.pv_values.specs.contracts.pattern.Patterns as Patterns

state : IsSync State.the_field.row
state = search (sendable, crosses) depth 40 fits 100000

nfa : IsSync Nfa.the_field.row
nfa = search (sendable, crosses, state) depth 40 fits 100000

preds : IsSync Preds.the_field.row
preds = search (sendable, crosses) depth 40 fits 100000

dfa : IsSync Dfa.the_field.row
dfa = search (sendable, crosses, nfa, preds) depth 40 fits 100000

ladder : IsSync Ladder.the_field.row
ladder = search (sendable, crosses) depth 40 fits 100000

prefilter : IsSync Prefilter.the_field.row
prefilter = search (sendable, crosses) depth 40 fits 100000

frame : IsSync Frame.the_field.row
frame = search (sendable, crosses) depth 40 fits 100000

plan : IsSync Plan.the_field.row
plan = search (sendable, crosses, sync-Hir, ladder, prefilter, frame) depth 40 fits 100000

plans : IsSync Plans.the_field.row
plans = search (sendable, crosses, plan) depth 40 fits 100000

signs : IsSync Signs.the_field.row
signs = search (sendable, crosses, sync-Hir) depth 40 fits 100000

program : IsSync Program.the_field.row
program = search (sendable, crosses, sync-Hir, dfa, plans, signs) depth 40 fits 100000

source : IsSync Source.the_field.row
source = search (sendable, crosses, String-sync, program) depth 40 fits 100000

regex : IsSync Regex.the_field.row
regex = search (sendable, crosses, source) depth 40 fits 100000

pattern : IsSync Pattern.the_field.row
pattern = search (sendable, crosses, regex) depth 40 fits 100000

pub patterns_shared : IsSync Patterns.the_field.row
patterns_shared = search (sendable, crosses, pattern) depth 40 fits 100000
