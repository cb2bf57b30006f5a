use Rattle.std.proofs.Common.{arith, length-take}
use Rattle.sip_build.proofs.Readings.{end_within}
use Rattle.sip_build.proofs.SameTexts.{relayed_is}
use Rattle.sip_build.proofs.relaying.relayed_reply.Goals as goal

pub slice_bounds-apply_after-end : goal.slice_bounds-apply_after-end
slice_bounds-apply_after-end c = let le = end_within c.args.b.now c.args.m.now c.requires in omega (arith, length-take c.args.m.now.end c.args.b.now)

pub returns : goal.returns
returns c = rw (← relayed_is c.args.b.now c.args.m.now c.args.edits.now c.top_via.result c.top_via.ensures) c.apply_after.ensures
