use Rattle.std.proofs.Common.{[], ◌++◌, append_assoc}
use Rattle.sip_build.specs.Writing.{fields_text, pieces_text, joined_text}
use Rattle.sip_build.proofs.Behind.{nothing_written}
use Rattle.sip_build.proofs.joined.Joined.write.Goals as goal

pub returns : goal.returns
unfolding joined_text
returns c =
    let j = c.args.self.now in
    let room = c.args.out.now in
    let front = c.put_all-len.ensures room [] (nothing_written room) in
    let fields = c.put_fields-len.ensures room (pieces_text j.front.now) front in
    let back = c.put_all.ensures room (pieces_text j.front.now ++ fields_text j) fields in
    rw append_assoc at back
