use Rattle.std.proofs.Common.{◌≡◌, false}
use Rattle.sip_msg.specs.Fields.{is_missing, is_repeated}
use Rattle.sip_msg.proofs.Complete.{complete}
use Rattle.sip_msg.proofs.message.parts_into.Goals as goal

pub returns-clause-complete : goal.returns-clause-complete
returns-clause-complete c =
    let none_missing : is_missing c.args.m.now.head.fields.items ≡ false = cc in
    let none_repeated : is_repeated c.args.m.now.head.fields.items ≡ false = cc in
    complete c.args.m.now.head.fields.items none_missing none_repeated
