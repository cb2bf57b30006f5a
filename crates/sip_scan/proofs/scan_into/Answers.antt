use Rattle.std.proofs.Common.{sym, ◌∙◌}
use Rattle.sip_scan.proofs.Scanned.{not_sip}
use Rattle.sip_scan.proofs.HeadAgain.{only_head}
use Rattle.sip_scan.proofs.Rooms.{found_in, many_in, only_in}
use Rattle.sip_scan.proofs.scan_into.Goals as goal

pub returns-in_default-clause-exact : goal.returns-in_default-clause-exact
returns-in_default-clause-exact c = not_sip c.args.b.now (sym c.start_line.ensures.value ∙ c.in_default.is)

pub returns-in_default-clause-only : goal.returns-in_default-clause-only
returns-in_default-clause-only c = λ t is whole. returns-in_default-clause-exact c ∙ only_head c.args.b.now t is whole

pub returns-clause-found : goal.returns-clause-found
returns-clause-found c = found_in c.args.b.now c.scan_behind.result c.scan_behind.new.head c.scan_behind.ensures.exact

pub returns-clause-many : goal.returns-clause-many
returns-clause-many c = many_in c.args.b.now c.scan_behind.result c.scan_behind.new.head c.scan_behind.ensures.exact

pub returns-clause-only : goal.returns-clause-only
returns-clause-only c = only_in c.args.b.now c.scan_behind.result c.scan_behind.new.head c.scan_behind.ensures.exact
