use Rattle.sip_build.proofs.LineLaw.{line_is_put_in}
use Rattle.sip_build.proofs.laws.the_line_via_is_put_in.Goals as goal

pub returns : goal.returns
returns c = line_is_put_in
