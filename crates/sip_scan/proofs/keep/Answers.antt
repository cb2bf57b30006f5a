use Rattle.sip_scan.proofs.Kept.{each_push}
use Rattle.sip_scan.proofs.keep.Goals as goal

pub returns-then-not-is_full-clause-each : goal.returns-then-not-is_full-clause-each
returns-then-not-is_full-clause-each c = λ text each one. rw c.push.ensures.items (each_push text c.args.first.now.items c.args.field each one)
